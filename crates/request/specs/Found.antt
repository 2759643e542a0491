-- What a command knows of its programs and its run, for its notes.
use Rattle.std.specs.Prelude.{ℕ, ◌≡◌, List, [], Option, None}
use Rattle.std.specs.Option.{option_map}
use Rattle.bpf_isa.specs.declared.instr.Instr.{Instr}
use Rattle.verifier.specs.declared.unreached.Unreached.{Unreached}
use Rattle.verifier.specs.Reach.{unreached_slots, count_and_first}
use Rattle.verifier.specs.Verdicts.{VerifiedValue, IsVerified}
use Rattle.request.specs.declared.facts.of_run.RunFacts.{RunFacts}

pub record IsEmpty (facts : RunFacts) : Type 0 where
  pub unreached : facts.unreached.items ≡ []
  pub blind : facts.blind.items ≡ []
  pub left_out : facts.left_out ≡ None
  pub untold : facts.untold ≡ None

-- what no run reaches of a program that is accepted for devices of that many sectors, with guards or without: where it is accepted
-- in both ways it has the same table in both
pub record IsUnreached (program : List (Option Instr)) (sectors : ℕ) (found : Option Unreached) : Type 0 where
  pub verified : VerifiedValue
  pub is : IsVerified verified
  pub of_program : verified.program ≡ program
  pub for_sectors : verified.sectors ≡ sectors
  pub counts : option_map (λ (u : Unreached). (u.count, u.first)) found ≡ count_and_first (unreached_slots verified)
