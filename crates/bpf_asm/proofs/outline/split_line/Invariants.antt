use Rattle.std.proofs.Common.{take}
use Rattle.bpf_asm.proofs.Lines.{IsLine}
use Rattle.bpf_asm.proofs.outline.split_line.Given as goal

abbrev pub invariant-loop-i : goal.invariant-loop-i
invariant-loop-i l = IsLine (take l.i l.text)
