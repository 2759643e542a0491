use Rattle.std.proofs.Common.{◌∙◌, Some, Option, ℕ, ap, sym}
use Rattle.report.specs.LineValues.{line_value}
use Rattle.workers.specs.Least.{least_image, lower}
use Rattle.workers.proofs.Least.{least_push}
use Rattle.workers.proofs.block_lines.KeptLines.push.Goals as goal

pub invariant_of-self-2 : goal.invariant_of-self-2
invariant_of-self-2 c =
    c.lower-self-inside.ensures
    ∙ ap (λ (least : Option ℕ). lower least (Some c.args.line.image)) c.self.invariant
    ∙ least_push c.self.inside.lines (line_value c.args.line)
    ∙ ap least_image (sym c.in_ok-push.ensures.added)
