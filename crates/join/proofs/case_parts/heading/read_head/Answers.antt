use Rattle.std.proofs.Common.{◌∙◌}
use Rattle.join.proofs.CaseHeads.{not_printed}
use Rattle.join.proofs.case_parts.heading.read_head.Goals as goal

pub returns : goal.returns
returns c = not_printed c.args.text.now c.as_str.result.now c.in_ok-head.head c.in_ok-head.asked c.in_ok-head.ensures.read (c.as_str.ensures.value ∙ c.in_ok-printed.ensures) c.in-None.ensures
