-- The tables of a search are below each good one.
use Rattle.std.proofs.Common.{◌≡◌, ◌<◌, ◌^◌, ℕ, Bool, List, length, Option, Some, None, refl, sym, ◌∙◌}
use Rattle.base.specs.declared.causes.VerifierCause.{VerifierCause}
use Rattle.bpf_isa.specs.declared.instr.Instr.{Instr}
use Rattle.bpf_isa.specs.Program.{IsProgram}
use Rattle.bpf_shape.specs.Rules.{IsShaped}
use Rattle.ranges.specs.States.{Abstract}
use Rattle.verifier.specs.Tables.{state_at, AreStates, rule_with}
use Rattle.verifier.specs.Good.{IsGoodWith}
use Rattle.verifier.specs.Least.{HasNoGood}
use Rattle.verifier.specs.Rounds.{first_table, IsSettled}
use Rattle.verifier.specs.Sought.{Below, IsSought, at_first, one_more}
use Rattle.verifier.specs.Passing.{StaysSought}
use Rattle.verifier.proofs.Settled.{first_long, first_fits}
use Rattle.verifier.proofs.Below.{first_below, sent_all_below, keeps_below, under_is_covered}
use Rattle.verifier.proofs.Exact.{least_is_settled}

pub stays_self : (guards : Bool) (program : List (Option Instr)) (sectors : ℕ) (table : List (Option Abstract)) → StaysSought guards program sectors table table
stays_self guards program sectors table = record { long = refl; sought = λ h. h }

pub stays_more : (guards : Bool) (program : List (Option Instr)) (sectors : ℕ) (t u v : List (Option Abstract)) → StaysSought guards program sectors t u → StaysSought guards program sectors u v
    → StaysSought guards program sectors t v
stays_more guards program sectors t u v a b = record { long = b.long ∙ a.long; sought = λ h. b.sought (a.sought h) }

-- a table of the search: as long as the program
pub record Climbed (guards : Bool) (program : List (Option Instr)) (sectors : ℕ) (table : List (Option Abstract)) : Type 0 where
  pub long : length table ≡ length program
  pub sought : IsSought guards program sectors table

pub first_climbed : (guards : Bool) (program : List (Option Instr)) (sectors : ℕ) (table : List (Option Abstract)) → table ≡ first_table (length program) → Climbed guards program sectors table
first_climbed guards program sectors table is = record { long = rw is (first_long (length program)); sought = rw is at_first }

pub more_climbed : (guards : Bool) (program : List (Option Instr)) (sectors : ℕ) (old new : List (Option Abstract)) → Climbed guards program sectors old → StaysSought guards program sectors old new
    → Climbed guards program sectors new
more_climbed guards program sectors old new h s = record { long = s.long ∙ h.long; sought = s.sought h.sought }

-- its states are states, and it is below each good table

pub sought_states : (guards : Bool) (program : List (Option Instr)) (sectors : ℕ) (table : List (Option Abstract)) → IsSought guards program sectors table → AreStates table
sought_states guards program sectors _ at_first = first_fits (length program)
sought_states guards program sectors _ (one_more old new slot h taken) = taken.states (sought_states guards program sectors old h)

pub sought_below : (guards : Bool) (program : List (Option Instr)) (sectors : ℕ) (table g : List (Option Abstract)) → sectors < 2 ^ 64 → IsProgram program → IsSought guards program sectors table
    → IsGoodWith guards program sectors g → Below table g
sought_below guards program sectors _ g few p at_first good = first_below (length program) g good.states good.start
sought_below guards program sectors _ g few p (one_more old new slot h taken) good =
    let below : Below old g = sought_below guards program sectors old g few p h good in
    taken.below g good.states below (sent_all_below guards program sectors old g slot few p (sought_states guards program sectors old h) good below)

-- so no table is good where a rule is broken on the way
pub met_has_no_good : (guards : Bool) (program : List (Option Instr)) (sectors : ℕ) (table : List (Option Abstract)) (c : VerifierCause) (slot : ℕ) → sectors < 2 ^ 64 → IsProgram program
    → IsSought guards program sectors table → rule_with guards program table slot ≡ Some c → HasNoGood guards program sectors
met_has_no_good guards program sectors table c slot few p h breaks = λ g good.
    let none : rule_with guards program table slot ≡ None =
    keeps_below guards program sectors table g slot p (sought_states guards program sectors table h) good (sought_below guards program sectors table g few p h good) in
    let bad : None ≡ Some c = sym none ∙ breaks in
    cc

-- a good one is where the rounds end
pub good_is_settled : (guards : Bool) (program : List (Option Instr)) (sectors : ℕ) (table : List (Option Abstract)) → sectors < 2 ^ 64 → IsProgram program → IsShaped guards program
    → IsSought guards program sectors table → IsGoodWith guards program sectors table → IsSettled guards program sectors table
good_is_settled guards program sectors table few p h sought good =
    least_is_settled guards program sectors table few p h (record {
      good = good;
      least = λ g is slot. under_is_covered (state_at table slot) (state_at g slot) (good.states slot) (is.states slot) (sought_below guards program sectors table g few p sought is slot);
    })
