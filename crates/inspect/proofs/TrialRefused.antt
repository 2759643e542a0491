-- How a run on one image is refused.
use Rattle.std.proofs.Common.{ℕ, ◌≡◌, ◌⊎◌, inl, inr, true, List, Option, None, subst}
use Rattle.base.specs.declared.refusal.Cause.TheVariants.{Verifier}
use Rattle.base.specs.declared.refusal.Refusal.{Refusal}
use Rattle.base.specs.Refusals.{memory_refusal}
use Rattle.bpf_isa.specs.declared.program.CodeFault.{CodeFault}
use Rattle.bpf_isa.specs.declared.instr.Instr.{Instr}
use Rattle.bpf_isa.specs.Decoding as code
use Rattle.bpf_isa.specs.Program.{FirstFault}
use Rattle.bpf_shape.specs.declared.fault.Fault.{Fault}
use Rattle.bpf_shape.specs.Fault as shape
use Rattle.verifier.specs.Verdicts.{RefusedWith}
use Rattle.notes.specs.SourceLines.{LineOfC, AreLines, NoLines}
use Rattle.request.specs.declared.trials.Trial.{Trial}
use Rattle.request.specs.Refusals.{bytes_refusal, file_refusal}
use Rattle.inspect.specs.TrialImage.{sectors_of, is_image}
use Rattle.inspect.specs.TrialText.{RefusesTrial, for_lines, with_code_fault, no_code_memory, no_memory, RefusesLimit, with_verifier_fault, no_verifier_memory}

pub unlined : (program image lines : List ℕ) (t : Trial) (r : Refusal) → is_image t.limits image ≡ true → (NoLines lines × (r ≡ file_refusal 2)) ⊎ (r ≡ memory_refusal)
    → RefusesTrial program image lines t r
unlined program image lines t r whole (inl h) = rw h.1 (for_lines whole h.0)
unlined program image lines t r whole (inr e) = rw e (no_memory whole)

pub undecoded : (program image lines : List ℕ) (table : List LineOfC) (t : Trial) (f : CodeFault) → is_image t.limits image ≡ true → AreLines lines table
    → (f ≡ code.memory_fault) ⊎ FirstFault program f.code f.slot → RefusesTrial program image lines t (bytes_refusal f.code f.slot)
undecoded program image lines table t f whole lined (inl e) = rw e (no_code_memory whole)
undecoded program image lines table t f whole lined (inr h) = with_code_fault table f.code f.slot whole lined h

pub unaccepted : (slots : List (Option Instr)) (image : List ℕ) (t : Trial) (sectors : ℕ) (f : Fault) → sectors ≡ sectors_of image → t.checked ≡ None
    → (f ≡ shape.memory_fault) ⊎ RefusedWith t.guards slots sectors f.code f.slot → RefusesLimit slots image t (record { code = Verifier f.code; at = f.slot; program = None })
unaccepted slots image t sectors f same unchecked (inl e) = rw e (no_verifier_memory unchecked)
unaccepted slots image t sectors f same unchecked (inr h) =
    with_verifier_fault f.code f.slot unchecked (subst (λ (n : ℕ). RefusedWith t.guards slots n f.code f.slot) same h)
