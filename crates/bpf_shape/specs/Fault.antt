-- The refusal of want of memory (docs/VERIFIER.md, Refusals).
use Rattle.base.specs.declared.causes.VerifierCause.TheVariants as cause
use Rattle.bpf_shape.specs.declared.fault.Fault.{Fault}

abbrev pub memory_fault : Fault
memory_fault = record { code = cause.Memory; slot = 0 }
