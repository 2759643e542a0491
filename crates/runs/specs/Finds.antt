-- What a run knows of its programs for its notes.
use Rattle.std.specs.Prelude.{ℕ, ◌≡◌, List, [], ◌∷◌, length, Option, None, Some}
use Rattle.bpf_isa.specs.declared.instr.Instr.{Instr}
use Rattle.verifier.specs.declared.unreached.Unreached.{Unreached}
use Rattle.request.specs.Found.{IsUnreached}
use Rattle.request.specs.declared.settings.Settings.{Settings}
use Rattle.runs.specs.Programs.{AreFirstOf}

-- what no run reaches of a program is known where it is verified: without a limit of steps
abbrev pub IsUnreachedOf : Option ℕ → ℕ → List (Option Instr) → Option Unreached → Type 0
IsUnreachedOf (Some limit) sectors program found = found ≡ None
IsUnreachedOf None sectors program found = IsUnreached program sectors found

-- of these programs, one after the other
abbrev pub AreUnreached : Option ℕ → ℕ → List (List (Option Instr)) → List (Option Unreached) → Type 0
AreUnreached checked sectors [] [] = Unit {0}
AreUnreached checked sectors [] (u ∷ us) = ⊥
AreUnreached checked sectors (program ∷ programs) [] = ⊥
AreUnreached checked sectors (program ∷ programs) (u ∷ us) = IsUnreachedOf checked sectors program u × AreUnreached checked sectors programs us

-- of the programs that the files spell
pub record FindsUnreached (files : List (List ℕ)) (s : Settings) (found : List (Option Unreached)) : Type 0 where
  pub programs : List (List (Option Instr))
  pub decoded : AreFirstOf files programs
  pub all : length programs ≡ length files
  pub unreached : AreUnreached s.checked s.sectors programs found
