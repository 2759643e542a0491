-- Bytes have at most one first fault.
use Rattle.std.proofs.Common.{ℕ, ◌≡◌, List, Option, Some, None, refl, sym, ◌∙◌, ap, inl, inr, arith}
use Rattle.std.proofs.lemmas.Bool.{cases_lt}
use Rattle.std.proofs.lemmas.Option.{same_Some}
use Rattle.base.specs.declared.limits.Limits.{Limits}
use Rattle.base.specs.Check.{first_failing}
use Rattle.base.specs.declared.causes.LogCause.{LogCause}
use Rattle.raw_log.specs.Faults.{in_super, in_entry, raw_super_checks, raw_entry_fault, times_at, EntriesPass}
use Rattle.raw_log.specs.Laws.{OneRawFault}

both : (o : Option LogCause) (c : LogCause) → o ≡ Some c → o ≡ None → ⊥
both o c h k = let bad : Some c ≡ None = sym h ∙ k in cc

same_cause : (o : Option LogCause) (c d : LogCause) → o ≡ Some c → o ≡ Some d → c ≡ d
same_cause o c d h k = same_Some c d (sym h ∙ k)

-- the cause at an entry
fault : List ℕ → ℕ → Limits → ℕ → Option LogCause
fault bytes sectors limits i = raw_entry_fault (times_at bytes) bytes sectors limits i

-- two first faults at entries
same_entry : (bytes : List ℕ) (sectors : ℕ) (limits : Limits) (c d : LogCause) (s t : ℕ) → EntriesPass bytes sectors limits s → EntriesPass bytes sectors limits t
    → fault bytes sectors limits s ≡ Some c → fault bytes sectors limits t ≡ Some d → (c ≡ d) × (s ≡ t)
unfolding fault
same_entry bytes sectors limits c d s t pass_s pass_t h k = elim (cases_lt s t) [
  | inl less ↦ absurd (both (fault bytes sectors limits s) c h (pass_t s less))
  | inr more ↦ elim (cases_lt t s) [
    | inl above ↦ absurd (both (fault bytes sectors limits t) d k (pass_s t above))
    | inr below ↦
        let same : s ≡ t = omega (arith, more, below) in
        (same_cause (fault bytes sectors limits t) c d (ap (fault bytes sectors limits) (sym same) ∙ h) k, same)
  ]
]

pub one_raw_fault : OneRawFault
unfolding fault
one_raw_fault bytes sectors limits _ _ _ _ (in_super c h) (in_super d k) = (same_cause (first_failing (raw_super_checks bytes)) c d h k, refl)
one_raw_fault bytes sectors limits _ _ _ _ (in_super c h) (in_entry d t clean lt pass k) = absurd (both (first_failing (raw_super_checks bytes)) c h clean)
one_raw_fault bytes sectors limits _ _ _ _ (in_entry c s clean lt pass h) (in_super d k) = absurd (both (first_failing (raw_super_checks bytes)) d k clean)
one_raw_fault bytes sectors limits _ _ _ _ (in_entry c s clean lt pass h) (in_entry d t clean_t lt_t pass_t k) =
    same_entry bytes sectors limits c d s t pass pass_t h k
