-- What fails at the first cuts.
use Rattle.std.proofs.Common.{ℕ, ◌≡◌, ◌+◌, List, [], ◌∷◌, ◌++◌, length, length-append, slice_get, Some, sym, ◌∙◌, subst, inl, inr, arith}
use Rattle.base.proofs.Lists.{slice_get_of_push}
use Rattle.choices.specs.Sums.{StartsValue}
use Rattle.losses.specs.declared.why.cut.CutFailures.{CutFailures}
use Rattle.losses.specs.Failures.{IsCut}

pub record AreFirstCuts (s : StartsValue) (failing : List ℕ) (outcomes : List (List ℕ)) (count : ℕ) (cs : List CutFailures) : Type 0 where
  pub long : length cs ≡ count
  pub each : (place : ℕ) (c : CutFailures) → slice_get cs place ≡ Some c → IsCut s failing outcomes place c

pub one_more : (s : StartsValue) (failing : List ℕ) (outcomes : List (List ℕ)) (count : ℕ) (cs more : List CutFailures) (c : CutFailures) → AreFirstCuts s failing outcomes count cs
    → IsCut s failing outcomes count c → more ≡ cs ++ c ∷ [] → AreFirstCuts s failing outcomes (count + 1) more
one_more s failing outcomes count cs more c are is e =
    let long = are.long in
    rw e (record {
      long = omega (arith, long, length-append cs (c ∷ []));
      each = λ place d at. elim (slice_get_of_push cs c place d at) [
        | inl was ↦ are.each place d was
        | inr last ↦
            let same : place ≡ count = last.0 ∙ long in
            subst (λ p. IsCut s failing outcomes p d) (sym same) (subst (λ x. IsCut s failing outcomes count x) (sym last.1) is)
      ];
    })
