use Rattle.std.proofs.Common.{rules, arith}
use Rattle.report.proofs.Words.{no_length, head_read, tail_read}
use Rattle.report.proofs.choice_text.reading.read_fate.Goals as goal

pub returns-then-word-ne5 : goal.returns-then-word-ne5
returns-then-word-ne5 c = no_length c.args.word.now (search rules) (λ e. omega (arith, e, c.if-word-ne5.true))

pub returns-then-word-eq104 : goal.returns-then-word-eq104
returns-then-word-eq104 c = head_read c.args.word.now c.in_ok-eighths.eighths (search rules) c.if-word-eq104.true (search rules)

pub returns-else-word-eq104 : goal.returns-else-word-eq104
returns-else-word-eq104 c = tail_read c.args.word.now c.in_ok-eighths.eighths (search rules) (λ e. omega (arith, e, c.if-word-eq104.false)) (search rules)
