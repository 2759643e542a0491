-- How logs, texts and single programs are refused.
use Rattle.std.proofs.Common.{ℕ, ◌≡◌, ◌⊎◌, inl, inr, Bool, List, Option, subst}
use Rattle.std.specs.Str.{IsUtf8}
use Rattle.base.specs.Sizes.{sector_limit}
use Rattle.base.specs.declared.limits.Limits.{Limits}
use Rattle.base.specs.declared.causes.LogCause.TheVariants as log
use Rattle.logfmt.specs.declared.fault.LogFault.{LogFault}
use Rattle.raw_log.specs.Faults.{FirstRawFault}
use Rattle.bpf_isa.specs.declared.program.CodeFault.{CodeFault}
use Rattle.bpf_isa.specs.Decoding as code
use Rattle.bpf_asm.specs.declared.fault.AsmFault.{AsmFault}
use Rattle.bpf_asm.specs.Says as asm
use Rattle.bpf_isa.specs.declared.instr.Instr.{Instr}
use Rattle.bpf_isa.specs.Program.{IsSpelledBy, FirstFault}
use Rattle.bpf_shape.specs.declared.fault.Fault.{Fault}
use Rattle.bpf_shape.specs.Fault as shape
use Rattle.verifier.specs.Verdicts.{RefusedWith}
use Rattle.request.specs.Refusals.{bytes_refusal}
use Rattle.request.specs.declared.settings.Settings.{Settings}
use Rattle.request.specs.Source.{log_refusal}
use Rattle.inspect.specs.Import.{RefusesImport, with_raw_fault, no_raw_memory}
use Rattle.inspect.specs.Verifying as verifying
use Rattle.inspect.specs.Assembly.{text_refusal, RefusesText, says_none, no_text_memory, RefusesBytes, with_bytes_fault, no_program_memory}

pub import_refused : (limits : Limits) (sectors : ℕ) (raw : List ℕ) (f : LogFault) → sectors ≡ sector_limit limits
    → (f ≡ record { code = log.Memory; at = 0 }) ⊎ FirstRawFault raw sectors limits f.code f.at → RefusesImport limits raw (log_refusal f.code f.at)
import_refused limits sectors raw f same (inl e) = rw e no_raw_memory
import_refused limits sectors raw f same (inr h) = with_raw_fault f.code f.at (subst (λ (n : ℕ). FirstRawFault raw n limits f.code f.at) same h)

pub bytes_refused : (bytes : List ℕ) (f : CodeFault) → (f ≡ code.memory_fault) ⊎ FirstFault bytes f.code f.slot → RefusesBytes bytes (bytes_refusal f.code f.slot)
bytes_refused bytes f (inl e) = rw e no_program_memory
bytes_refused bytes f (inr h) = with_bytes_fault f.code f.slot h

pub text_refused : (text now : List ℕ) (f : AsmFault) → now ≡ text → IsUtf8 text → (f ≡ asm.memory_fault) ⊎ asm.SaysNone now → RefusesText text (text_refusal f.code f.line)
text_refused text now f same characters (inl e) = rw e no_text_memory
text_refused text now f same characters (inr h) = says_none f.code f.line characters (rw (← same) h)

pub bytes_unverified : (bytes : List ℕ) (s : Settings) (f : CodeFault) → (f ≡ code.memory_fault) ⊎ FirstFault bytes f.code f.slot
    → verifying.RefusesVerified bytes s (bytes_refusal f.code f.slot)
bytes_unverified bytes s f (inl e) = rw e verifying.no_code_memory
bytes_unverified bytes s f (inr h) = verifying.with_code_fault f.code f.slot h

pub unverified : (bytes : List ℕ) (s : Settings) (guards : Bool) (sectors : ℕ) (slots : List (Option Instr)) (f : Fault) → guards ≡ s.guards → sectors ≡ s.sectors
    → IsSpelledBy bytes slots → (f ≡ shape.memory_fault) ⊎ RefusedWith guards slots sectors f.code f.slot
    → verifying.RefusesVerified bytes s (verifying.unaccepted_refusal f.code f.slot)
unverified bytes s guards sectors slots f kind size spelled (inl e) = rw e verifying.no_verifier_memory
unverified bytes s guards sectors slots f kind size spelled (inr h) =
    verifying.with_verifier_fault slots f.code f.slot spelled (subst (λ (g : Bool). RefusedWith g slots s.sectors f.code f.slot) kind (subst (λ (n : ℕ). RefusedWith guards slots n f.code f.slot) size h))
