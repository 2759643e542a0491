use Rattle.std.proofs.Common.{take}
use Rattle.bpf_asm.specs.Parts.{IsWord}
use Rattle.bpf_asm.proofs.part.word_length.Given as goal

abbrev pub invariant-loop-i : goal.invariant-loop-i
invariant-loop-i l = IsWord (take l.i l.line)
