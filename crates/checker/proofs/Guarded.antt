-- A slot that the least table guards is guarded in a run.
use Rattle.std.proofs.Common.{ℕ, zero, suc, ◌+◌, ◌≡◌, ◌<◌, Bool, true, false, length, map, slice_get, slice_index_or, Option, None, Some, refl, ap, ◌∙◌, arith}
use Rattle.std.proofs.lemmas.Option.{slice_get_within}
use Rattle.std.specs.List.{range_with_len}
use Rattle.std.specs.Option.{option_and_then}
use Rattle.bpf_isa.specs.declared.instr.Instr.{Instr}
use Rattle.machine.specs.Outcome.{Ending, Verdict, Stopped, OutOfSteps, Stray}
use Rattle.verifier.specs.Guards.{is_guarded_with, is_guarded_at}
use Rattle.verifier.specs.Tables.{state_at}
use Rattle.verifier.specs.Verdicts.{VerifiedValue}
use Rattle.soundness.specs.Guards.{IsOver}
use Rattle.plain.specs.Guards.{IsGuardedEnd}
use Rattle.checker.specs.Checker.{guards_of}

flag_at : (p : ℕ → Bool) (a n k : ℕ) → k < n → slice_index_or (map p (range_with_len a n)) k false ≡ p (a + k)
flag_at p a zero k less = absurd (omega (arith, less))
flag_at p a (suc n) zero less = let e : a ≡ a + 0 = omega arith in ap p e
flag_at p a (suc n) (suc k) less =
    let e : a + 1 + k ≡ a + suc k = omega arith in
    flag_at p (a + 1) n k (omega (arith, less)) ∙ ap p e

-- a guarded slot is one of the program
guarded_within : (v : VerifiedValue) (slot : ℕ) → is_guarded_at v.program v.table slot ≡ true → slot < length v.program
unfolding is_guarded_at
guarded_within v slot guarded = by (slice_get v.program slot) refl guarded
  where
    by : (o : Option (Option Instr)) → slice_get v.program slot ≡ o → is_guarded_with (option_and_then (λ (i : Option Instr). i) o) (state_at v.table slot) ≡ true
        → slot < length v.program
    by None e h = absurd (let bad : false ≡ true = h in cc)
    by (Some i) e h = slice_get_within v.program slot i e

flagged : (v : VerifiedValue) (slot : ℕ) → is_guarded_at v.program v.table slot ≡ true → slice_index_or (guards_of v) slot false ≡ true
unfolding guards_of
flagged v slot guarded =
    let e : 0 + slot ≡ slot = omega arith in
    flag_at (is_guarded_at v.program v.table) 0 (length v.program) slot (guarded_within v slot guarded) ∙ ap (is_guarded_at v.program v.table) e ∙ guarded

-- so the end of a safe run with guards is one that a run without other checks has
pub guarded_end : (v : VerifiedValue) (e : Ending) → IsOver v.program v.table e → IsGuardedEnd (guards_of v) e
guarded_end v (Verdict answer codes) over = tt
guarded_end v (Stopped cause slot) over = over
guarded_end v OutOfSteps over = over
guarded_end v (Stray slot) over = flagged v slot over
