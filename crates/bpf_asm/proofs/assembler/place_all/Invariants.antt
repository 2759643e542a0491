use Rattle.std.proofs.Common.{List}
use Rattle.bpf_asm.specs.Statements.{Statement}
use Rattle.bpf_asm.specs.Says.{drafts_of}
use Rattle.bpf_asm.specs.Outlines.{IsOutline, labels_in}
use Rattle.bpf_asm.proofs.Places.{PlacedSoFar}
use Rattle.bpf_asm.proofs.assembler.place_all.Given as goal

abbrev pub invariant-loop-i : goal.invariant-loop-i
invariant-loop-i l = (said : List Statement) → IsOutline l.outline said → PlacedSoFar (labels_in l.outline) (drafts_of said) l.i l.instrs.items l.slot
