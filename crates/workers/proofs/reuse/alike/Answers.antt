use Rattle.std.proofs.Common.{ℕ, ◌≡◌, ◌+◌, ◌*◌, ◌≤◌, None, Some, refl, ap, subst, arith}
use Rattle.std.proofs.lemmas.Option.{same_Some}
use Rattle.workers.specs.Failing.{Subject}
use Rattle.workers.specs.Local.{parts_at}
use Rattle.choices.specs.Picks.{fates_of}
use Rattle.workers.proofs.Stretching.{HasLast, last_pick, no_pick, last_fits, last_untold, holds_is}
use Rattle.workers.proofs.reuse.alike.Goals as goal

pub stretch-requires-clause-fate : goal.stretch-requires-clause-fate
stretch-requires-clause-fate c =
    (last_fits c.args.input.now c.input.inside.asked.tears c.args.picked.now c.picks-picks.result.now c.fates.result no_pick (parts_at c.args.input.now c.args.picked.now) (record {
      tears_is = ap (λ (s : Subject). s.tears) c.input.view_is;
      picks_is = c.picks-picks.ensures.value;
      some = c.if-is_empty.ensures;
      fates = c.fates.ensures;
      number = c.requires.member.0;
      ranked = c.requires.member.1;
    }) refl).1

pub returns-in-Some-clause-alike : goal.returns-in-Some-clause-alike
returns-in-Some-clause-alike c is =
    let value = c.stretch.ensures.value in
    let least = c.min.ensures in
    let here : HasLast c.args.input.now c.input.inside.asked.tears c.args.picked.now c.picks-picks.result.now c.fates.result = record {
      tears_is = ap (λ (s : Subject). s.tears) c.input.view_is;
      picks_is = c.picks-picks.ensures.value;
      some = c.if-is_empty.ensures;
      fates = c.fates.ensures;
      number = c.requires.member.0;
      ranked = c.requires.member.1;
    } in
    holds_is c.args.input.now c.input.inside.asked.tears c.args.picked.now c.picks-picks.result.now c.fates.result no_pick c.args.own.now c.args.found.now is
    (Some c.in-Some.next) c.min.result here c.if-found-at.false
    (c.in-Some.ensures is.entry is.there
    (last_untold c.args.input.now c.input.inside.asked.tears c.args.picked.now c.picks-picks.result.now c.fates.result no_pick c.args.own.now c.args.found.now is here
    c.if-found-at.false))
    (λ k e. subst (λ (x : ℕ). (last_pick c.picks-picks.result.now no_pick).part * c.fates.result + (last_pick c.picks-picks.result.now no_pick).fate + c.min.result ≤ x * c.fates.result)
    (same_Some c.in-Some.next k e) (omega (arith, value, least)))

pub returns-in-None-clause-alike : goal.returns-in-None-clause-alike
returns-in-None-clause-alike c is =
    let fates_is : fates_of c.input.inside.asked.tears ≡ fates_of c.input.inside.asked.tears = refl in
    let here : HasLast c.args.input.now c.input.inside.asked.tears c.args.picked.now c.picks-picks.result.now (fates_of c.input.inside.asked.tears) = record {
      tears_is = ap (λ (s : Subject). s.tears) c.input.view_is;
      picks_is = c.picks-picks.ensures.value;
      some = c.if-is_empty.ensures;
      fates = fates_is;
      number = c.requires.member.0;
      ranked = c.requires.member.1;
    } in
    holds_is c.args.input.now c.input.inside.asked.tears c.args.picked.now c.picks-picks.result.now (fates_of c.input.inside.asked.tears) no_pick c.args.own.now c.args.found.now is
    None c.args.most here c.if-found-at.false
    (c.in-None.ensures is.entry is.there
    (last_untold c.args.input.now c.input.inside.asked.tears c.args.picked.now c.picks-picks.result.now (fates_of c.input.inside.asked.tears) no_pick c.args.own.now c.args.found.now is here
    c.if-found-at.false))
    (λ k e. absurd (let bad : None ≡ Some k = e in cc))
