-- Which slots of a table are guarded, and how acceptance with guards stands to acceptance without (docs/VERIFIER.md, Guards).
use Rattle.std.specs.Prelude.{◌≡◌, ℕ, Bool, true, false, List, [], length, filter, Option, Some}
use Rattle.std.specs.List.{range_with_len}
use Rattle.bpf_isa.specs.declared.instr.Instr.{Instr}
use Rattle.bpf_isa.specs.Slots.{at}
use Rattle.ranges.specs.States.{Abstract}
use Rattle.ranges.specs.Guards.{is_guarded}
use Rattle.verifier.specs.Tables.{state_at}
use Rattle.verifier.specs.Good.{IsGood, IsGoodWith}
use Rattle.verifier.specs.Verdicts.{VerifiedValue, IsVerified}

-- whether a slot is guarded: it has a state, at which the place of its access isn't proved
abbrev pub is_guarded_with : Option Instr → Option Abstract → Bool
is_guarded_with (Some i) (Some s) = is_guarded s i
is_guarded_with _ _ = false

unfoldable pub is_guarded_at : List (Option Instr) → List (Option Abstract) → ℕ → Bool
is_guarded_at program table slot = is_guarded_with (at program slot) (state_at table slot)

-- the guarded slots, in rising order
unfoldable pub guarded_slots : List (Option Instr) → List (Option Abstract) → List ℕ
guarded_slots program table = filter (is_guarded_at program table) (range_with_len 0 (length program))

-- a table that is good without guards is good with them, and guards no slot
pub record GoodNeedsNoGuards : Type 0 where
  pub good : (program : List (Option Instr)) (sectors : ℕ) (table : List (Option Abstract)) → IsGood program sectors table → IsGoodWith true program sectors table
  pub none : (program : List (Option Instr)) (sectors slot : ℕ) (table : List (Option Abstract)) → IsGood program sectors table
      → is_guarded_at program table slot ≡ false

-- what is accepted without guards, as it is accepted with them
abbrev pub with_guards : VerifiedValue → VerifiedValue
with_guards v = record { guards = true; program = v.program; sectors = v.sectors; budget = v.budget; table = v.table }

-- a program that is accepted without guards is accepted with them, by the same table, in which no slot is guarded
pub record AcceptedHasNoGuards : Type 0 where
  pub same : (v : VerifiedValue) → IsVerified v → v.guards ≡ false → IsVerified (with_guards v)
  pub none : (v : VerifiedValue) → IsVerified v → v.guards ≡ false → guarded_slots v.program v.table ≡ []
