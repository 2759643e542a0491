-- Tables of states as contracts see them.
use Rattle.std.proofs.Common.{◌≡◌, ◌<◌, ℕ, zero, suc, arith, get_or, length, List, [], ◌∷◌, replicate, Option, Some, None, refl, ◌∙◌, ap}
use Rattle.std.specs.Prelude.{set}
use Rattle.std.specs.Option.{option_map}
use Rattle.ranges.specs.declared.state.State.{State}
use Rattle.ranges.specs.States.{Abstract, start}
use Rattle.ranges.specs.SeenStates.{state_of}
use Rattle.ranges.proofs.Arrays.{mapped_set}
use Rattle.ranges.proofs.Typed.{each_state_fits}
use Rattle.verifier.specs.Tables.{state_at, AreStates}
use Rattle.verifier.specs.Seen.{table_of}
use Rattle.verifier.specs.Rounds.{join_arrival, receive, first_table}

-- the states of the code are within the bounds of states
pub all_states : (states : List (Option State)) → AreStates (table_of states)
all_states [] slot = tt
all_states (None ∷ rest) zero = tt
all_states (Some s ∷ rest) zero = each_state_fits s
all_states (None ∷ rest) (suc n) = all_states rest n
all_states (Some s ∷ rest) (suc n) = all_states rest n

nothing_known : (slots : ℕ) → table_of (replicate {A = Option State} slots None) ≡ replicate {A = Option Abstract} slots None
nothing_known zero = refl
nothing_known (suc n) = ap (λ t. None ∷ t) (nothing_known n)

pub first_is : (slots : ℕ) (states : List (Option State)) → states ≡ replicate {A = Option State} slots None → set (table_of states) 0 (Some start) ≡ first_table slots
unfolding first_table
first_is slots states e = rw (e, nothing_known slots) refl

pub known_at : (states : List (Option State)) (slot : ℕ) (d : Option State) → slot < length states → option_map state_of (get_or states slot d) ≡ state_at (table_of states) slot
known_at [] slot d small = absurd (let bad : slot < 0 = small in omega (arith, bad))
known_at (x ∷ xs) zero d small = refl
known_at (x ∷ xs) (suc n) d small = known_at xs n d (omega (arith, small))

-- what is known at a slot is changed in its place
pub received_at : (states : List (Option State)) (table : List (Option Abstract)) (slot : ℕ) (old new d : Option State) (s : State) → slot < length states
    → table_of states ≡ table → old ≡ get_or states slot d → option_map state_of new ≡ Some (join_arrival (option_map state_of old) (state_of s))
    → table_of (set states slot new) ≡ receive table (slot, state_of s)
received_at states table slot old new d s small e o k =
    let known : option_map state_of old ≡ state_at table slot =
    ap (λ m. option_map state_of m) o ∙ known_at states slot d small ∙ ap (λ t. state_at t slot) e in
    mapped_set (option_map state_of) states slot new ∙ rw (k, known, e) refl
