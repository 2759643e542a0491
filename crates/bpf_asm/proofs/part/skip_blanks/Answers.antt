use Rattle.std.proofs.Common.{sym, ◌∙◌}
use Rattle.bpf_asm.proofs.Parts.{blank_more}
use Rattle.bpf_asm.proofs.part.skip_blanks.Goals as goal

pub loop-i-preserved : goal.loop-i-preserved
loop-i-preserved c = blank_more c.args.line.now c.loop-i.i c.loop-i-test.true (sym c.is_blank.ensures ∙ c.if-not-is_blank.false) c.loop-i.invariant
