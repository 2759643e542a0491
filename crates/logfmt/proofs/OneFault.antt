-- Bytes have at most one first fault.
use Rattle.std.proofs.Common.{ℕ, ◌≡◌, List, Option, Some, None, refl, sym, ◌∙◌, ap, inl, inr, arith}
use Rattle.std.proofs.lemmas.Bool.{cases_lt}
use Rattle.std.proofs.lemmas.Option.{same_Some}
use Rattle.base.specs.declared.limits.Limits.{Limits}
use Rattle.base.specs.Check.{first_failing}
use Rattle.base.specs.declared.causes.LogCause.{LogCause}
use Rattle.logfmt.specs.Faults.{in_super, in_entry, super_checks, entry_fault, EntriesPass}
use Rattle.logfmt.specs.Laws.{OneFault}

both : (o : Option LogCause) (c : LogCause) → o ≡ Some c → o ≡ None → ⊥
both o c h k = let bad : Some c ≡ None = sym h ∙ k in cc

same_cause : (o : Option LogCause) (c d : LogCause) → o ≡ Some c → o ≡ Some d → c ≡ d
same_cause o c d h k = same_Some c d (sym h ∙ k)

-- two first faults at entries
same_entry : (bytes : List ℕ) (sectors : ℕ) (limits : Limits) (c d : LogCause) (s t : ℕ) → EntriesPass bytes sectors limits s → EntriesPass bytes sectors limits t
    → entry_fault bytes sectors limits s ≡ Some c → entry_fault bytes sectors limits t ≡ Some d → (c ≡ d) × (s ≡ t)
same_entry bytes sectors limits c d s t pass_s pass_t h k = elim (cases_lt s t) [
  | inl less ↦ absurd (both (entry_fault bytes sectors limits s) c h (pass_t s less))
  | inr more ↦ elim (cases_lt t s) [
    | inl above ↦ absurd (both (entry_fault bytes sectors limits t) d k (pass_s t above))
    | inr below ↦
        let same : s ≡ t = omega (arith, more, below) in
        (same_cause (entry_fault bytes sectors limits t) c d (ap (entry_fault bytes sectors limits) (sym same) ∙ h) k, same)
  ]
]

pub one_fault : OneFault
one_fault bytes sectors limits _ _ _ _ (in_super c h) (in_super d k) = (same_cause (first_failing (super_checks bytes limits)) c d h k, refl)
one_fault bytes sectors limits _ _ _ _ (in_super c h) (in_entry d t clean lt pass k) = absurd (both (first_failing (super_checks bytes limits)) c h clean)
one_fault bytes sectors limits _ _ _ _ (in_entry c s clean lt pass h) (in_super d k) = absurd (both (first_failing (super_checks bytes limits)) d k clean)
one_fault bytes sectors limits _ _ _ _ (in_entry c s clean lt pass h) (in_entry d t clean_t lt_t pass_t k) =
    same_entry bytes sectors limits c d s t pass pass_t h k
