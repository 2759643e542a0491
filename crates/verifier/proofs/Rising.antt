-- A round that changes a table raises its sum.
use Rattle.std.proofs.Common.{◌≡◌, ◌<◌, ◌≤◌, ◌-◌, ◌^◌, ℕ, suc, Bool, true, List, length, Option, Some, None, refl, sym, ◌∙◌, ap, arith}
use Rattle.std.specs.List.{fold}
use Rattle.bpf_isa.specs.declared.instr.Instr.{Instr}
use Rattle.bpf_isa.specs.Program.{IsProgram}
use Rattle.bpf_shape.specs.Rules.{IsShaped}
use Rattle.ranges.specs.States.{Abstract}
use Rattle.ranges.specs.Order.{IsState, Holds, EdgeUnder}
use Rattle.verifier.specs.Tables.{state_at, Covers}
use Rattle.verifier.specs.Rounds.{receive, passed_states, round_of, rounds, IsSame}
use Rattle.verifier.specs.Passing.{Arrive, IsRound, IsMarked, MadeRound}
use Rattle.verifier.specs.Measure.{weight}
use Rattle.verifier.proofs.Chains.{contains_self}
use Rattle.verifier.proofs.Arriving.{all_keep}
use Rattle.verifier.proofs.Settled.{passed_fits, next_round, each_round}
use Rattle.verifier.proofs.Below.{covered_is_under}
use Rattle.verifier.proofs.Weights.{table_weighs, table_below}

-- nothing that is known is lost
stays_below : (guards : Bool) (program : List (Option Instr)) (sectors : ℕ) (table : List (Option Abstract)) (slot : ℕ) → sectors < 2 ^ 64 → IsProgram program → IsShaped guards program
    → IsRound (length program) table → EdgeUnder (state_at table slot) (state_at (round_of guards program sectors table) slot)
unfolding round_of
stays_below guards program sectors table slot few p h r =
    let arrive : Arrive (length table) (passed_states guards program sectors table) = rw r.long (passed_fits guards program sectors table few p h r.states) in
    let next : Holds IsState (state_at (fold receive table (passed_states guards program sectors table)) slot) = (next_round guards program sectors table few p h r).states slot in
    by_known (state_at table slot) refl (r.states slot) arrive next
  where
    by_known : (m : Option Abstract) → state_at table slot ≡ m → Holds IsState m → Arrive (length table) (passed_states guards program sectors table)
        → Holds IsState (state_at (fold receive table (passed_states guards program sectors table)) slot) → EdgeUnder m (state_at (fold receive table (passed_states guards program sectors table)) slot)
    by_known None e a arrive next = tt
    by_known (Some s) e a arrive next =
        let known : Covers (state_at table slot) s = rw e (contains_self s a) in
        covered_is_under (state_at (fold receive table (passed_states guards program sectors table)) slot) s next a
        (all_keep table (passed_states guards program sectors table) slot s r.states arrive a known)

pub round_weighs : (guards : Bool) (program : List (Option Instr)) (sectors : ℕ) (table : List (Option Abstract)) → sectors < 2 ^ 64 → IsProgram program → IsShaped guards program
    → IsRound (length program) table
    → (weight table ≤ weight (round_of guards program sectors table)) × (weight table ≡ weight (round_of guards program sectors table) → table ≡ round_of guards program sectors table)
round_weighs guards program sectors table few p h r =
    let next = next_round guards program sectors table few p h r in
    table_weighs table (round_of guards program sectors table) (r.long ∙ sym next.long) r.states next.states (λ slot. stays_below guards program sectors table slot few p h r)

pub round_rises : (guards : Bool) (program : List (Option Instr)) (sectors : ℕ) (table : List (Option Abstract)) → sectors < 2 ^ 64 → IsProgram program → IsShaped guards program
    → IsRound (length program) table → (IsSame guards program sectors table → ⊥) → weight table < weight (round_of guards program sectors table)
round_rises guards program sectors table few p h r changes =
    let both = round_weighs guards program sectors table few p h r in
    let least = both.0 in
    let other : weight table ≡ weight (round_of guards program sectors table) → ⊥ = λ e. changes (sym (both.1 e)) in
    omega (arith, least, other)

pub round_is_below : (program : List (Option Instr)) (table : List (Option Abstract)) → IsProgram program → IsRound (length program) table → weight table < 2 ^ 96
round_is_below program table p r = let few = p.count.limit in let long = r.long in table_below table r.states (omega (arith, few, long))

-- so what is left of 2^96 falls with each round that changes the table
falls : (guards : Bool) (program : List (Option Instr)) (sectors : ℕ) (old new : List (Option Abstract)) (after : List Bool) (changed : Bool) → sectors < 2 ^ 64 → IsProgram program → IsShaped guards program
    → IsRound (length program) old → MadeRound guards program sectors old new after changed → changed ≡ true → 2 ^ 96 - weight new < 2 ^ 96 - weight old
falls guards program sectors old new after changed few p h r made t =
    let rises : weight old < weight (round_of guards program sectors old) = round_rises guards program sectors old few p h r (made.changes t) in
    let below : weight (round_of guards program sectors old) < 2 ^ 96 = round_is_below program (round_of guards program sectors old) p (next_round guards program sectors old few p h r) in
    rw made.table (omega (arith, rises, below))

-- the same of the table of some round, and what holds of the next one

pub falls_at : (guards : Bool) (program : List (Option Instr)) (sectors : ℕ) (old new : List (Option Abstract)) (after : List Bool) (changed : Bool) → sectors < 2 ^ 64 → IsProgram program → IsShaped guards program
    → (turns : ℕ) × (old ≡ rounds guards program sectors turns) → MadeRound guards program sectors old new after changed → changed ≡ true → 2 ^ 96 - weight new < 2 ^ 96 - weight old
falls_at guards program sectors old new after changed few p h at made e =
    falls guards program sectors old new after changed few p h (rw at.1 (each_round guards program sectors at.0 few p h)) made e

pub next_turn : (guards : Bool) (program : List (Option Instr)) (sectors : ℕ) (old new : List (Option Abstract)) (after : List Bool) (changed : Bool)
    → (turns : ℕ) × (old ≡ rounds guards program sectors turns) → MadeRound guards program sectors old new after changed
    → ((turns : ℕ) × (new ≡ rounds guards program sectors turns)) × IsMarked guards program sectors new after
next_turn guards program sectors old new after changed at made = ((suc at.0, made.table ∙ ap (λ t. round_of guards program sectors t) at.1), made.marks)
