-- What is accepted without guards is accepted with them, and no slot is guarded.
use Rattle.std.proofs.Common.{◌≡◌, ℕ, Bool, false, List, [], ◌∷◌, length, filter, refl}
use Rattle.std.specs.List.{range_with_len}
use Rattle.bpf_shape.proofs.Kept.{shaped_with_guards}
use Rattle.verifier.specs.Good.{IsGood}
use Rattle.verifier.specs.Guards.{is_guarded_at, guarded_slots, with_guards, AcceptedHasNoGuards}
use Rattle.verifier.specs.Verdicts.{VerifiedValue, IsVerified}
use Rattle.verifier.proofs.Guards.{needs_no_guards}
use Rattle.verifier.proofs.Verdict.{verified_least}

none_chosen : (p : ℕ → Bool) → ((n : ℕ) → p n ≡ false) → (ns : List ℕ) → filter p ns ≡ []
none_chosen p h [] = refl
none_chosen p h (n ∷ ns) = rw (h n) (none_chosen p h ns)

no_guards : (v : VerifiedValue) → IsVerified v → v.guards ≡ false → guarded_slots v.program v.table ≡ []
unfolding guarded_slots
no_guards v a e =
    let good : IsGood v.program v.sectors v.table = (rw e at a.table).good in
    none_chosen (is_guarded_at v.program v.table) (λ slot. needs_no_guards.none v.program v.sectors slot v.table good) (range_with_len 0 (length v.program))

same_with_guards : (v : VerifiedValue) → IsVerified v → v.guards ≡ false → IsVerified (with_guards v)
same_with_guards v a e = record {
  some = a.some;
  device = a.device;
  program = a.program;
  shape = shaped_with_guards v.guards v.program a.shape;
  budget = a.budget;
  limit = a.limit;
  table = verified_least v a;
}

pub accepted_has_no_guards : AcceptedHasNoGuards
accepted_has_no_guards = record { same = same_with_guards; none = no_guards }
