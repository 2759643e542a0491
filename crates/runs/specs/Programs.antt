-- The programs of a run: how long each may run, and what the verifier says of it (docs/REFUSALS.md,
-- Refusals in their order).
use Rattle.std.specs.Prelude.{ℕ, ◌≡◌, ◌⊎◌, Bool, List, [], ◌∷◌, length, Option, None, Some, slice_get}
use Rattle.base.specs.declared.causes.CodeCause.{CodeCause}
use Rattle.base.specs.declared.causes.CodeCause.TheVariants as code
use Rattle.base.specs.declared.causes.VerifierCause.{VerifierCause}
use Rattle.base.specs.declared.causes.VerifierCause.TheVariants as verifier
use Rattle.base.specs.declared.refusal.Refusal.{Refusal}
use Rattle.base.specs.Refusals.{memory_refusal}
use Rattle.base.specs.declared.refusal.Cause.TheVariants.{Code, Verifier}
use Rattle.bpf_isa.specs.declared.instr.Instr.{Instr}
use Rattle.bpf_isa.specs.Program as code_fault
use Rattle.verifier.specs.Verdicts.{VerifiedValue, IsVerified, RefusedWith}
use Rattle.checker.specs.Checker.{CheckerValue, checker_of}
use Rattle.request.specs.declared.settings.Settings.{Settings}

-- a program as it is run that no verifier is asked about: with every check, as often as the limit says
pub record IsLimited (most : ℕ) (c : CheckerValue) : Type 0 where
  pub limit : c.limit ≡ most
  pub verified : c.verified ≡ None
  pub guards : c.guards ≡ None

-- and one that the verifier accepts for a device of that many sectors, with guards or without: as often as its budget says
pub record IsAcceptedChecker (guards : Bool) (sectors : ℕ) (c : CheckerValue) : Type 0 where
  pub verified : VerifiedValue
  pub is : IsVerified verified
  pub kind : verified.guards ≡ guards
  pub size : verified.sectors ≡ sectors
  pub made : c ≡ checker_of verified

-- How a program is run: with the limit of steps that was asked for; or, without one, accepted by the verifier for the device, with
-- guards or without, as it was asked.
abbrev pub IsRunWithin : Option ℕ → Bool → ℕ → CheckerValue → Type 0
IsRunWithin (Some limit) guards sectors c = IsLimited limit c
IsRunWithin None guards sectors c = IsAcceptedChecker guards sectors c

abbrev pub code_refusal : ℕ → CodeCause → ℕ → Refusal
code_refusal program cause slot = record { code = Code cause; at = slot; program = Some program }

-- the refusal says the first fault of that program
abbrev pub IsCodeFault : ℕ → List ℕ → Refusal → Type 0
IsCodeFault program bytes r =
    (cause : CodeCause) × (slot : ℕ) × (r ≡ code_refusal program cause slot) × code_fault.FirstFault bytes cause slot

abbrev pub verifier_refusal : ℕ → VerifierCause → ℕ → Refusal
verifier_refusal program cause slot = record { code = Verifier cause; at = slot; program = Some program }

-- the refusal says why the verifier refuses that program for a device of that many sectors, with guards or without
abbrev pub IsVerifierFault : Bool → ℕ → ℕ → List (Option Instr) → Refusal → Type 0
IsVerifierFault guards sectors program slots r =
    (cause : VerifierCause) × (slot : ℕ) × (r ≡ verifier_refusal program cause slot) × RefusedWith guards slots sectors cause slot

-- these programs are spelled by the first files
abbrev pub AreFirstOf : List (List ℕ) → List (List (Option Instr)) → Type 0
AreFirstOf files [] = Unit {0}
AreFirstOf [] (slots ∷ programs) = ⊥
AreFirstOf (bytes ∷ files) (slots ∷ programs) =
    code_fault.IsSpelledBy bytes slots × code_fault.HasNoFault bytes × AreFirstOf files programs

-- these checkers are made of the first programs
abbrev pub AreFirstMade : Settings → List (List (Option Instr)) → List CheckerValue → Type 0
AreFirstMade s programs [] = Unit {0}
AreFirstMade s [] (c ∷ checkers) = ⊥
AreFirstMade s (slots ∷ programs) (c ∷ checkers) = (c.program ≡ slots) × IsRunWithin s.checked s.guards s.sectors c × AreFirstMade s programs checkers

-- why the program of those bytes can't be decoded: its first fault, or want of memory
abbrev pub IsUndecoded : ℕ → List ℕ → Refusal → Type 0
IsUndecoded number bytes r = (r ≡ code_refusal number code.Memory 0) ⊎ IsCodeFault number bytes r

-- the programs of all files were decoded; or those before the first that can't be
abbrev pub AreDecoded : List (List ℕ) → List (List (Option Instr)) → Option Refusal → Type 0
AreDecoded files programs None = AreFirstOf files programs × (length programs ≡ length files)
AreDecoded files programs (Some r) =
    AreFirstOf files programs × ((bytes : List ℕ) × (slice_get files (length programs) ≡ Some bytes) × IsUndecoded (length programs) bytes r)

-- Why the verifier does not accept a program: it refuses it, or there is no memory to verify it and to keep its guards. It is
-- asked where there is no limit of steps.
pub record IsUnaccepted (s : Settings) (number : ℕ) (slots : List (Option Instr)) (r : Refusal) : Type 0 where
  pub unlimited : s.checked ≡ None
  pub why : (r ≡ verifier_refusal number verifier.Memory 0) ⊎ IsVerifierFault s.guards s.sectors number slots r

-- the first of the programs that isn't accepted, or no memory for the list
pub data RefusesOneOf (s : Settings) (programs : List (List (Option Instr))) : Refusal → Type 0 where
  unaccepted : (r : Refusal) (slots : List (Option Instr)) (before : List CheckerValue)
      → AreFirstMade s programs before → slice_get programs (length before) ≡ Some slots → IsUnaccepted s (length before) slots r → RefusesOneOf s programs r
  no_checkers_memory : RefusesOneOf s programs memory_refusal
