use Rattle.std.proofs.Common.{ℕ, ◌≡◌, ◌∙◌, ◌+◌, ◌-◌, length, arith, refl, sym, subst}
use Rattle.std.proofs.lemmas.Option.{slice_get_read}
use Rattle.request.specs.Search.{TellForced, NoneIsUnforced}
use Rattle.request.proofs.Stamps.{tell_more, tell_none, stamped_below, none_more}
use Rattle.request.proofs.facts.promises.is_too_much.Goals as goal

pub loop-place-init : goal.loop-place-init
loop-place-init c = (λ e low high. absurd (omega (arith, low, high)), tell_none c.args.entries.now c.args.mark c.args.stamps.now c.requires.old, λ n. let old = c.requires.old n in omega (arith, old), refl)

pub returns-then-is_unforced-clause-some : goal.returns-then-is_unforced-clause-some
returns-then-is_unforced-clause-some c = λ _. record {
  entry = c.loop-place.place - 1;
  from = omega (arith, c.loop-place-test.true);
  before = omega (arith, c.loop-place-test.true, c.loop-place.auto.place);
  is =
      let back : c.loop-place.place - 1 + 1 ≡ c.loop-place.place = omega (arith, c.loop-place-test.true) in
      sym (c.is_unforced.ensures.value c.args.entries.now (c.loop-place.place - 1) c.args.mark
      (slice_get_read c.args.entries.now (length c.args.entries.now) (c.loop-place.place - 1) c.index-entries-place.result refl (omega (arith, c.loop-place-test.true, c.loop-place.auto.place, c.requires.inside)) c.index-entries-place.is)
      (subst (λ (n : ℕ). TellForced c.args.entries.now n c.args.mark (c.args.mark + 1) c.loop-place.stamps) (sym back) c.loop-place.invariant.1))
      ∙ c.if-is_unforced.true;
}

pub loop-place-preserved : goal.loop-place-preserved
loop-place-preserved c =
    let back : c.loop-place.place - 1 + 1 ≡ c.loop-place.place = omega (arith, c.loop-place-test.true) in
    let here = slice_get_read c.args.entries.now (length c.args.entries.now) (c.loop-place.place - 1) c.index-entries-place.result refl (omega (arith, c.loop-place-test.true, c.loop-place.auto.place, c.requires.inside)) c.index-entries-place.is in
    let tell = subst (λ (n : ℕ). TellForced c.args.entries.now n c.args.mark (c.args.mark + 1) c.loop-place.stamps) (sym back) c.loop-place.invariant.1 in (
      none_more c.args.entries.now (c.loop-place.place - 1) c.args.mark
          (subst (λ (n : ℕ). NoneIsUnforced c.args.entries.now n c.args.mark) (sym back) c.loop-place.invariant.0)
          (sym (c.is_unforced.ensures.value c.args.entries.now (c.loop-place.place - 1) c.args.mark here tell) ∙ c.if-is_unforced.false),
      tell_more c.args.entries.now (c.loop-place.place - 1) c.args.mark (c.args.mark + 1) c.index-entries-place.result c.loop-place.stamps c.is_unforced.new.stamps here (omega (arith, c.loop-place-test.true, c.loop-place.auto.place)) c.is_unforced.ensures.stamped tell,
      stamped_below _ (c.args.mark + 1) c.loop-place.stamps c.is_unforced.new.stamps c.is_unforced.ensures.stamped c.loop-place.invariant.2,
      c.is_unforced.ensures.stamped.long ∙ c.loop-place.invariant.3,
    )
