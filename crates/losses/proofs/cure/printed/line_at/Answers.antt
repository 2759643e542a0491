use Rattle.losses.proofs.Newlines.{printed_line}
use Rattle.losses.proofs.cure.printed.line_at.Goals as goal

pub returns : goal.returns
returns c = printed_line c.args.text.now c.args.number c.after_lines-rest.result.now c.line_len.result c.after_lines-rest.ensures c.line_len.ensures.line
