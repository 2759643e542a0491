use Rattle.std.proofs.Common.{◌∙◌, List, ℕ, length, map, sym, ap, subst, refl}
use Rattle.losses.specs.Failures.{AreCuts}
use Rattle.losses.specs.WhyText.{AreAllNumbered}
use Rattle.crash_page.proofs.failing.program_failures.Goals as goal

pub failures-requires-clause-outcomes : goal.failures-requires-clause-outcomes
failures-requires-clause-outcomes c = ap (λ xs. length xs) c.as_slice.ensures.value ∙ c.requires.outcomes

pub missing_for-requires : goal.missing_for-requires
missing_for-requires c = c.requires.inside

pub returns-clause-failing : goal.returns-clause-failing
returns-clause-failing c =
    let s = c.args.run.now.starts.now in
    record {
      failing = refl;
      outcomes_are = refl;
      cuts = subst (λ (os : List (List ℕ)). AreCuts s c.args.images.now os c.in_ok-cuts.cuts.items) (ap (map (λ o. o.now)) c.as_slice.ensures.value) c.in_ok-cuts.ensures.cuts;
      missing = c.in_ok-missing.ensures;
      uncured = c.uncured_of.ensures.value;
    }

pub returns-clause-taken : goal.returns-clause-taken
returns-clause-taken c =
    let s = c.args.run.now.starts.now in
    c.failures_are_of_run.ensures s c.args.images.now (map (λ o. o.now) c.as_slice.result.now) (length c.args.outcomes.items) c.in_ok-cuts.cuts.items c.in_ok-cuts.ensures.cuts
    (subst (λ (n : ℕ). AreAllNumbered s n c.in_ok-cuts.cuts.items) (sym c.requires.outcomes) c.in_ok-cuts.ensures.numbered)
