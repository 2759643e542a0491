use Rattle.std.proofs.Common.{◌≡◌, length, refl, subst, ap, ◌∙◌, arith, rules}
use Rattle.std.specs.Vec.{vec_len}
use Rattle.std.proofs.Math.ListN.{length-set, length-map}
use Rattle.interp.specs.Ending.{ending_of}
use Rattle.workers.specs.Entries.{entry_value}
use Rattle.workers.specs.Failing.{Subject}
use Rattle.workers.specs.Reuse.{AreKnown}
use Rattle.workers.proofs.Growing.{kept_more, same_values, kept_added, values_added, known_added, entry_added}
use Rattle.workers.proofs.Learning.{chosen_there, cut_within, made_picks, learned_by}
use Rattle.workers.proofs.entries.Entries.learn.Goals as goal

pub put_told-requires : goal.put_told-requires
put_told-requires c =
    let plan_is : c.input.inside.plan.now ≡ c.args.input.now.plan = ap (λ (s : Subject). s.plan) c.input.view_is in
    let there = chosen_there c.args.input.now c.input.inside.plan.now c.args.picked.now c.only-choice.result plan_is c.requires.member c.only-choice.ensures.ranked in
    let within = cut_within c.input.inside.plan.now c.args.input.now.bound c.args.input.now.tears there.0 c.only-choice.result there.1 in
    omega (arith, within, c.cut.ensures)

pub invariant_of-self : goal.invariant_of-self
invariant_of-self c =
    let added = c.put_told.ensures.added in
    kept_more c.self.inside.entries.items c.self.inside.entries.items c.self.inside.parts.items added.0 c.put_told.new.parts.items c.self.inside.index.items c.self.invariant refl added.1

pub returns-in_err-told-clause-known : goal.returns-in_err-told-clause-known
returns-in_err-told-clause-known c =
    let added = c.put_told.ensures.added in
    subst (AreKnown c.args.input.now c.args.picked.now.place c.args.checker.now)
    (same_values c.self.inside.entries.items c.self.inside.entries.items c.self.inside.parts.items added.0 c.put_told.new.parts.items c.self.inside.index.items c.args.self.now
    c.self.invariant refl added.1 c.self.view_is)
    c.requires.known

pub invariant_of-self-in_err-push : goal.invariant_of-self-in_err-push
invariant_of-self-in_err-push c =
    let added = c.put_told.ensures.added in
    kept_more c.self.inside.entries.items c.push.new.self.items c.self.inside.parts.items added.0 c.put_told.new.parts.items c.self.inside.index.items c.self.invariant
    c.in_err-push.ensures.items added.1

pub returns-in_err-push-clause-known : goal.returns-in_err-push-clause-known
returns-in_err-push-clause-known c =
    let added = c.put_told.ensures.added in
    subst (AreKnown c.args.input.now c.args.picked.now.place c.args.checker.now)
    (same_values c.self.inside.entries.items c.push.new.self.items c.self.inside.parts.items added.0 c.put_told.new.parts.items c.self.inside.index.items c.args.self.now
    c.self.invariant c.in_err-push.ensures.items added.1 c.self.view_is)
    c.requires.known

pub invariant_of-self-2 : goal.invariant_of-self-2
invariant_of-self-2 c =
    let told = c.in_ok-told.ensures.told in
    let own : vec_len c.self.inside.parts ≡ length c.self.inside.parts.items = search rules in
    let grown : vec_len c.put_told.new.parts ≡ length c.put_told.new.parts.items = search rules in
    let size = length-map c.self.inside.entries.items (entry_value c.self.inside.parts.items) in
    kept_added c.self.inside.entries.items c.push.new.self.items c.self.inside.parts.items told.more c.put_told.new.parts.items c.self.inside.index.items _ _ c.self.invariant
    (record { pushed = c.in_ok-push.ensures.items; grows = told.grows; rising = told.rising; first = c.len-first.ensures ∙ own; end = c.len.ensures ∙ grown })
    (omega (arith, c.requires.room, ap length c.self.view_is, size))
    (length-set c.self.inside.index.items c.place_of.result c.len-entry.result)

pub returns-clause-known : goal.returns-clause-known
returns-clause-known c =
    let told = c.in_ok-told.ensures.told in
    let own : vec_len c.self.inside.parts ≡ length c.self.inside.parts.items = search rules in
    let grown : vec_len c.put_told.new.parts ≡ length c.put_told.new.parts.items = search rules in
    let plan_is : c.input.inside.plan.now ≡ c.args.input.now.plan = ap (λ (s : Subject). s.plan) c.input.view_is in
    let there = chosen_there c.args.input.now c.input.inside.plan.now c.args.picked.now c.only-choice.result plan_is c.requires.member c.only-choice.ensures.ranked in
    known_added c.args.input.now c.args.picked.now.place c.args.checker.now c.args.self.now _ _
    (values_added c.self.inside.entries.items c.push.new.self.items c.self.inside.parts.items told.more c.put_told.new.parts.items c.self.inside.index.items _ c.args.self.now c.self.invariant
    (record { pushed = c.in_ok-push.ensures.items; grows = told.grows; rising = told.rising; first = c.len-first.ensures ∙ own; end = c.len.ensures ∙ grown }) c.self.view_is)
    c.requires.known
    (learned_by c.args.input.now c.args.checker.now c.args.picked.now c.of.result c.args.marks.now c.only-choice.result c.in_ok-view.view c.noted_on-run.result.footprint
    (ending_of c.noted_on-run.result.outcome) c.in_ok-told.told told.more (record {
      plan = c.input.inside.plan.now;
      plan_is = plan_is;
      history = c.input.inside.history.now;
      history_is = c.input.invariant.history ∙ plan_is;
      number = there.0;
      there = there.1;
      choice_is = c.only-choice.ensures.value;
      made_is = c.of.ensures.value;
      view_is = c.in_ok-view.ensures.value;
      bounds = c.noted_on-run.ensures.bounds;
      ends = c.noted_on-run.ensures.ends;
      looks = c.noted_on-run.ensures.looks;
      cut = c.cut.result;
      cut_is = c.cut.ensures;
      cover = told.cover;
    }))

pub returns-clause-entry : goal.returns-clause-entry
returns-clause-entry c =
    let told = c.in_ok-told.ensures.told in
    let own : vec_len c.self.inside.parts ≡ length c.self.inside.parts.items = search rules in
    let grown : vec_len c.put_told.new.parts ≡ length c.put_told.new.parts.items = search rules in
    let size = length-map c.self.inside.entries.items (entry_value c.self.inside.parts.items) in
    entry_added c.args.self.now _ _ _ c.len-entry.result
    (values_added c.self.inside.entries.items c.push.new.self.items c.self.inside.parts.items told.more c.put_told.new.parts.items c.self.inside.index.items _ c.args.self.now c.self.invariant
    (record { pushed = c.in_ok-push.ensures.items; grows = told.grows; rising = told.rising; first = c.len-first.ensures ∙ own; end = c.len.ensures ∙ grown }) c.self.view_is)
    (omega (arith, c.len-entry.ensures, ap length c.self.view_is, size))
    (made_picks c.input.inside.plan.now c.args.picked.now c.of.result c.args.marks.now c.only-choice.result c.only-choice.ensures.value c.of.ensures.value)
