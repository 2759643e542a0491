-- What the commands on single programs answer (docs/COMMANDS.md, Commands; docs/ASSEMBLY.md).
use Rattle.std.specs.Prelude.{ℕ, ◌≡◌, Bool, if◌then◌else◌, List, Option, None}
use Rattle.std.specs.Str.{IsUtf8}
use Rattle.base.specs.declared.causes.AsmCause.{AsmCause}
use Rattle.base.specs.declared.causes.AsmCause.TheVariants as asm
use Rattle.base.specs.declared.causes.CodeCause.{CodeCause}
use Rattle.base.specs.declared.causes.CodeCause.TheVariants as code
use Rattle.base.specs.declared.refusal.Refusal.{Refusal}
use Rattle.base.specs.Refusals.{memory_refusal}
use Rattle.base.specs.declared.refusal.Cause.TheVariants.{Asm}
use Rattle.bpf_isa.specs.declared.instr.Instr.{Instr}
use Rattle.bpf_isa.specs.Program.{IsSpelledBy, FirstFault}
use Rattle.bpf_asm.specs.Listing.{listing}
use Rattle.notes.specs.Listing.{numbered_listing}
use Rattle.bpf_asm.specs.Says.{Says, SaysNone}
use Rattle.request.specs.Refusals.{bytes_refusal, file_refusal}

-- the refusal of a text names its line
abbrev pub text_refusal : AsmCause → ℕ → Refusal
text_refusal cause line = record { code = Asm cause; at = line; program = None }

-- the text is one of characters, and the bytes spell the program that it says
pub record IsAssembled (text bytes : List ℕ) : Type 0 where
  pub characters : IsUtf8 text
  pub slots : List (Option Instr)
  pub says : Says text slots
  pub spelled : IsSpelledBy bytes slots

-- a text is refused where it is no text, or says no program; or for want of memory
pub data RefusesText (text : List ℕ) : Refusal → Type 0 where
  no_characters : (IsUtf8 text → ⊥) → RefusesText text (file_refusal 0)
  says_none : (cause : AsmCause) (line : ℕ) → IsUtf8 text → SaysNone text → RefusesText text (text_refusal cause line)
  no_text_memory : RefusesText text (text_refusal asm.Memory 0)
  no_bytes_memory : RefusesText text memory_refusal

-- the listing, each line after its slot or not
abbrev pub listing_text : Bool → List (Option Instr) → List ℕ
listing_text numbered slots = if numbered then numbered_listing slots else listing slots

-- the text is the listing of the program that the bytes spell
pub record IsListed (numbered : Bool) (bytes text : List ℕ) : Type 0 where
  pub slots : List (Option Instr)
  pub spelled : IsSpelledBy bytes slots
  pub listed : text ≡ listing_text numbered slots

-- bytes are refused for their first fault; or for want of memory
pub data RefusesBytes (bytes : List ℕ) : Refusal → Type 0 where
  with_bytes_fault : (cause : CodeCause) (slot : ℕ) → FirstFault bytes cause slot → RefusesBytes bytes (bytes_refusal cause slot)
  no_program_memory : RefusesBytes bytes (bytes_refusal code.Memory 0)
  no_listing_memory : RefusesBytes bytes memory_refusal
