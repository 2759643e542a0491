use Rattle.std.proofs.Common.{ℕ, List, ◌++◌, ap, ◌∙◌}
use Rattle.join.specs.Reading.{last_text}
use Rattle.join.proofs.joining.last_line.Goals as goal

pub returns : goal.returns
returns c = c.in_ok-put_last.ensures ∙ ap (λ (bs : List ℕ). bs ++ last_text c.args.first c.args.images c.args.tally) c.new-out.ensures.bytes
