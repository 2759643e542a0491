-- What is accepted, and what is refused.
use Rattle.std.proofs.Common.{◌≡◌, ◌≤◌, ◌<◌, ◌^◌, ℕ, Bool, List, Option, Some, None, subst}
use Rattle.base.specs.Sizes.{most_sectors}
use Rattle.bpf_isa.specs.declared.instr.Instr.{Instr}
use Rattle.bpf_isa.specs.Program.{IsProgram}
use Rattle.bpf_shape.specs.Shape.{ShapeValue, IsShapeOf}
use Rattle.ranges.specs.States.{Abstract}
use Rattle.base.specs.declared.causes.VerifierCause.{VerifierCause}
use Rattle.bpf_shape.specs.Rules.{IsShaped}
use Rattle.verifier.specs.Breaches.{KeepsRules, FirstRule}
use Rattle.verifier.specs.Rounds.{IsSettled}
use Rattle.verifier.specs.Verdicts.{IsVerified, RefusedWith, no_table, sought}
use Rattle.verifier.specs.Inferred.{IsFound}
use Rattle.bpf_shape.specs.declared.fault.Fault.{Fault}
use Rattle.verifier.proofs.Ascending.{met_has_no_good}
use Rattle.verifier.proofs.Below.{settled_is_least, broken_has_no_good, rule_is_breach}

pub accepted : (guards : Bool) (program : List (Option Instr)) (sectors budget : ℕ) (table : List (Option Abstract)) (shape : ShapeValue) → 1 ≤ sectors → sectors ≤ most_sectors → sectors < 2 ^ 64
    → IsProgram program → IsShapeOf guards program shape → budget ≡ shape.budget → IsSettled guards program sectors table → KeepsRules guards program table
    → IsVerified (record { guards = guards; program = program; sectors = sectors; budget = budget; table = table })
accepted guards program sectors budget table shape some device few p h e settled kept =
    record {
      some = some;
      device = device;
      program = p;
      shape = h.rules;
      budget = rw e h.budget;
      limit = rw e h.limit;
      table = settled_is_least guards program sectors table few p h.rules settled kept;
    }

pub refused : (guards : Bool) (program : List (Option Instr)) (sectors : ℕ) (table : List (Option Abstract)) (c : VerifierCause) (slot : ℕ) → sectors < 2 ^ 64 → IsProgram program → IsShaped guards program
    → IsSettled guards program sectors table → FirstRule guards program table c slot → RefusedWith guards program sectors c slot
refused guards program sectors table c slot few p h settled first =
    no_table c slot table h (broken_has_no_good guards program sectors table c slot few p h settled first.breaks) settled
    (rule_is_breach guards program sectors table c slot few p h settled first)

-- the rounds are cut short
pub cut_short : (guards : Bool) (program : List (Option Instr)) (sectors : ℕ) (table : List (Option Abstract)) (met : Fault) → sectors < 2 ^ 64 → IsProgram program → IsShaped guards program
    → IsFound guards program sectors table (Some met) → RefusedWith guards program sectors met.code met.slot
cut_short guards program sectors table met few p h found =
    sought met.code met.slot table h (met_has_no_good guards program sectors table met.code met.slot few p found.sought found.broken) found.long found.sought found.broken

-- what is found, by what the search met
pub none_met : (guards : Bool) (program : List (Option Instr)) (sectors : ℕ) (table : List (Option Abstract)) (met : Option Fault) → met ≡ None → IsFound guards program sectors table met
    → IsSettled guards program sectors table
none_met guards program sectors table met e h = subst (λ m. IsFound guards program sectors table m) e h

pub one_met : (guards : Bool) (program : List (Option Instr)) (sectors : ℕ) (table : List (Option Abstract)) (met : Option Fault) (fault : Fault) → met ≡ Some fault → IsFound guards program sectors table met
    → IsFound guards program sectors table (Some fault)
one_met guards program sectors table met fault e h = subst (λ m. IsFound guards program sectors table m) e h
