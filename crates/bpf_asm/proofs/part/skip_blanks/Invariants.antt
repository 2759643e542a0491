use Rattle.std.proofs.Common.{◌≡◌, drop}
use Rattle.bpf_asm.specs.Parts.{parts}
use Rattle.bpf_asm.proofs.part.skip_blanks.Given as goal

abbrev pub invariant-loop-i : goal.invariant-loop-i
invariant-loop-i l = parts (drop l.i l.line) ≡ parts l.line
