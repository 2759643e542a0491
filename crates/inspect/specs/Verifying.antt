-- What the command `verify` answers (docs/OUTPUT.md, The other texts; docs/VERIFIER.md).
use Rattle.std.specs.Prelude.{ℕ, ◌≡◌, ◌++◌, Bool, if◌then◌else◌, List, [], length, Option, None, codes}
use Rattle.std.specs.List.{flat_map}
use Rattle.std.specs.Fmt.{decimal}
use Rattle.base.specs.declared.causes.CodeCause.{CodeCause}
use Rattle.base.specs.declared.causes.CodeCause.TheVariants as code
use Rattle.base.specs.declared.causes.VerifierCause.{VerifierCause}
use Rattle.base.specs.declared.causes.VerifierCause.TheVariants as verifier
use Rattle.base.specs.declared.refusal.Refusal.{Refusal}
use Rattle.base.specs.Refusals.{memory_refusal}
use Rattle.base.specs.declared.refusal.Cause.TheVariants.{Verifier}
use Rattle.bpf_isa.specs.declared.instr.Instr.{Instr}
use Rattle.bpf_isa.specs.Program.{IsSpelledBy, FirstFault}
use Rattle.bpf_isa.specs.Slots.{at}
use Rattle.verifier.specs.declared.unreached.Unreached.{Unreached}
use Rattle.verifier.specs.Guards.{guarded_slots}
use Rattle.verifier.specs.Verdicts.{RefusedWith, VerifiedValue, IsVerified}
use Rattle.notes.specs.Listing.{numbered_slot}
use Rattle.request.specs.Refusals.{bytes_refusal}
use Rattle.request.specs.declared.settings.Settings.{Settings}
use Rattle.request.specs.Found.{IsUnreached}

unfoldable pub accepted_text : ℕ → List ℕ
accepted_text budget = codes "accepted budget " ++ decimal budget ++ codes "\n"

-- the line of a program that is accepted with guards: how many of its slots are guarded
unfoldable pub guarded_text : ℕ → ℕ → List ℕ
guarded_text budget count = codes "accepted budget " ++ decimal budget ++ codes " guards " ++ decimal count ++ codes "\n"

-- the lines of these slots of a program, each as the listing has it
abbrev pub slots_text : List (Option Instr) → List ℕ → List ℕ
slots_text program slots = flat_map (λ slot. numbered_slot slot (at program slot)) slots

-- with guards: the line, and after it, where they are listed, those of the guarded slots
abbrev pub guards_text : Bool → List (Option Instr) → ℕ → List ℕ → List ℕ
guards_text listed program budget slots = guarded_text budget (length slots) ++ (if listed then slots_text program slots else [])

-- what is said of an accepted program: without guards its budget alone
abbrev pub verified_text : Bool → VerifiedValue → List ℕ
verified_text listed v = if v.guards then guards_text listed v.program v.budget (guarded_slots v.program v.table) else accepted_text v.budget

abbrev pub unaccepted_refusal : VerifierCause → ℕ → Refusal
unaccepted_refusal cause slot = record { code = Verifier cause; at = slot; program = None }

-- the program that the bytes spell is accepted as it is asked, and the text says so
pub record IsAcceptedText (bytes : List ℕ) (s : Settings) (listed : Bool) (text : List ℕ) : Type 0 where
  pub verified : VerifiedValue
  pub spelled : IsSpelledBy bytes verified.program
  pub accepted : IsVerified verified
  pub guards : verified.guards ≡ s.guards
  pub sectors : verified.sectors ≡ s.sectors
  pub says : text ≡ verified_text listed verified

-- bytes are refused for their first fault, then by what the verifier says of the program; or for want of
-- memory
pub data RefusesVerified (bytes : List ℕ) (s : Settings) : Refusal → Type 0 where
  with_code_fault : (cause : CodeCause) (slot : ℕ) → FirstFault bytes cause slot → RefusesVerified bytes s (bytes_refusal cause slot)
  no_code_memory : RefusesVerified bytes s (bytes_refusal code.Memory 0)
  with_verifier_fault : (slots : List (Option Instr)) (cause : VerifierCause) (slot : ℕ) → IsSpelledBy bytes slots → RefusedWith s.guards slots s.sectors cause slot
      → RefusesVerified bytes s (unaccepted_refusal cause slot)
  no_verifier_memory : RefusesVerified bytes s (unaccepted_refusal verifier.Memory 0)
  no_text_memory : RefusesVerified bytes s memory_refusal

-- what no run reaches of the program that the bytes spell is found
pub record FindsUnreached (bytes : List ℕ) (sectors : ℕ) (found : Option Unreached) : Type 0 where
  pub slots : List (Option Instr)
  pub spelled : IsSpelledBy bytes slots
  pub unreached : IsUnreached slots sectors found
