-- Refusals: the number under which each is printed, and those of the work (docs/REFUSALS.md, All refusals).
use Rattle.std.specs.Prelude.{ℕ, None}
use Rattle.base.specs.Causes.{log_number, request_number, code_number, asm_number, verifier_number, join_number, work_number}
use Rattle.base.specs.declared.causes.WorkCause.{WorkCause}
use Rattle.base.specs.declared.causes.WorkCause.TheVariants as work
use Rattle.base.specs.declared.refusal.Cause.{Cause}
use Rattle.base.specs.declared.refusal.Cause.TheVariants.{Log, Request, Code, Asm, Verifier, Join, Work}
use Rattle.base.specs.declared.refusal.Refusal.{Refusal}

abbrev pub cause_number : Cause → ℕ
cause_number (Log c) = log_number c
cause_number (Request c) = request_number c
cause_number (Code c) = code_number c
cause_number (Asm c) = asm_number c
cause_number (Verifier c) = verifier_number c
cause_number (Join c) = join_number c
cause_number (Work c) = work_number c

-- the refusal of a run's work, of no program
abbrev pub work_refusal : WorkCause → ℕ → Refusal
work_refusal cause at = record { code = Work cause; at = at; program = None }

-- want of memory in the work
abbrev pub memory_refusal : Refusal
memory_refusal = work_refusal work.Memory 0
