use Rattle.std.proofs.Common.{None, arith}
use Rattle.std.proofs.lemmas.Str.Pattern.{strip_prefix_char}
use Rattle.command_line.proofs.ImageRanges.{no_second}
use Rattle.command_line.proofs.extents.extent_in.Goals as goal

pub returns-in_err-last : goal.returns-in_err-last
returns-in_err-last c =
    rw c.from_residual-in_err-last.ensures
    (no_second c.args.text.now c.in_ok-first.first.now c.in_ok-first.beyond.now c.in_ok-first.ensures
    (strip_prefix_char 46 c.in_ok-first.beyond.now None c.in_err-last.ensures.cases (omega arith)))
