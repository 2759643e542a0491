use Rattle.std.proofs.Common.{arith}
use Rattle.command_line.proofs.Numbers.{too_large}
use Rattle.command_line.proofs.number.small_number_in.Goals as goal

pub returns-then-number-gt-MOST_SMALL : goal.returns-then-number-gt-MOST_SMALL
returns-then-number-gt-MOST_SMALL c =
    let above = c.if-number-gt-MOST_SMALL.true in
    too_large c.args.word.now c.in_ok-number.number c.in_ok-number.ensures (omega (arith, above))
