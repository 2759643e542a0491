-- A checker: a program, and how it is run (docs/MACHINE.md, Outcome and Guards).
use Rattle.std.specs.Prelude.{ℕ, ◌≡◌, Bool, if◌then◌else◌, List, [], ◌∷◌, length, map, Option, None, Some, is_some}
use Rattle.std.specs.List.{range_with_len}
use Rattle.bpf_isa.specs.declared.instr.Instr.{Instr}
use Rattle.helpers.specs.declared.device.Context.{Context}
use Rattle.verifier.specs.Guards.{is_guarded_at, guarded_slots}
use Rattle.verifier.specs.Verdicts.{VerifiedValue, IsVerified}
use Rattle.soundness.specs.Accepted.{IsImage}
use Rattle.machine.specs.Outcome.{Ending, outcome}
use Rattle.machine.specs.Guards.{guarded_outcome}
use Rattle.plain.specs.Guards.{GuardsValue}

-- a program, and how many steps a run of it makes at most: the limit that was asked for, or the budget
-- of a program that the verifier accepted for a device of that many sectors; where it accepted it with guards, how many slots are guarded
pub record CheckerValue : Type 0 where
  pub program : List (Option Instr)
  pub limit : ℕ
  pub verified : Option ℕ
  pub guards : Option ℕ

-- how many slots of an accepted program are guarded, where it is accepted with guards
abbrev pub guards_in : VerifiedValue → Option ℕ
guards_in v = if v.guards then Some (length (guarded_slots v.program v.table)) else None

-- the number itself: 0 of any other
abbrev pub guarded_count : VerifiedValue → ℕ
guarded_count v = if v.guards then length (guarded_slots v.program v.table) else 0

-- an accepted program as a checker
abbrev pub checker_of : VerifiedValue → CheckerValue
checker_of v = record { program = v.program; limit = v.budget; verified = Some v.sectors; guards = guards_in v }

-- of each slot of it whether its table guards the slot
unfoldable pub guards_of : VerifiedValue → List Bool
guards_of v = map (is_guarded_at v.program v.table) (range_with_len 0 (length v.program))

-- an accepted program with these, where it is accepted with guards
abbrev pub guarded_of : VerifiedValue → Option GuardsValue
guarded_of v = if v.guards then Some (record { program = v.program; guarded = guards_of v }) else None

-- a checker is an accepted program, and this is what a run with guards takes
pub record IsOfVerified (c : CheckerValue) (guarded : Option GuardsValue) (v : VerifiedValue) : Type 0 where
  pub verified : IsVerified v
  pub checker : c ≡ checker_of v
  pub held : guarded ≡ guarded_of v

-- where a checker says that it was verified, it is an accepted program; else it has no guards
abbrev pub IsCheckerFor : CheckerValue → Option GuardsValue → Option ℕ → Type 0
IsCheckerFor c guarded None = guarded ≡ None
IsCheckerFor c guarded (Some sectors) = (v : VerifiedValue) × IsOfVerified c guarded v

abbrev pub IsChecker : CheckerValue → Option GuardsValue → Type 0
IsChecker c guarded = IsCheckerFor c guarded c.verified

-- what a checker may judge, by the size for which it was verified: an image of a device of that size; one that
-- wasn't verified may judge any device in any context
abbrev pub Suits : Option ℕ → List (List ℕ) → Context → Type 0
Suits None device context = Unit {0}
Suits (Some sectors) device context = IsImage sectors device context

-- whether a checker is for devices of that size: one that was verified is where it was verified for them
abbrev pub IsFor : ℕ → Option ℕ → Type 0
IsFor sectors None = Unit {0}
IsFor sectors (Some verified) = verified ≡ sectors

-- each of the checkers is for devices of that size
abbrev pub AreFor : ℕ → List CheckerValue → Type 0
AreFor sectors [] = Unit {0}
AreFor sectors (c ∷ checkers) = IsFor sectors c.verified × AreFor sectors checkers

-- what the checker ends in on that device and in that context
unfoldable pub judgement : CheckerValue → List (List ℕ) → Context → Ending
judgement checker device context =
    if is_some checker.guards then guarded_outcome checker.program device context checker.limit else outcome checker.program device context checker.limit
