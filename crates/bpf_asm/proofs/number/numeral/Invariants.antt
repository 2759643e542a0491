use Rattle.bpf_asm.proofs.Words.{NumeralSoFar}
use Rattle.bpf_asm.proofs.number.numeral.Given as goal

abbrev pub invariant-loop-c : goal.invariant-loop-c
invariant-loop-c l = NumeralSoFar l.base l.digits l.c-index l.magnitude
