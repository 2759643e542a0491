use Rattle.std.proofs.Common.{◌∙◌}
use Rattle.join.proofs.Endings.{fails}
use Rattle.join.proofs.ToldLines.{outcome_differs, choice_differs}
use Rattle.join.proofs.given.lines.body_said.Goals as goal

pub returns-then-not-is_outcome : goal.returns-then-not-is_outcome
returns-then-not-is_outcome c =
    outcome_differs c.args.outside c.args.programs c.args.run.now.starts.now c.args.line.now c.as_str.result.now c.in-Some.end.now c.in-Some-at_choice.outcome.now c.in-Some-at_choice.choice.now
    c.words_said-words.result c.requires c.words_said-words.ensures (c.as_str.ensures.value ∙ c.in_ok-printed.ensures) c.in-Some.ensures c.in-Some-at_choice.ensures
    (fails c.is_outcome.result c.if-not-is_outcome.true c.is_outcome.ensures)

pub returns-then-not-branch : goal.returns-then-not-branch
returns-then-not-branch c =
    choice_differs c.args.outside c.args.programs c.args.run.now.starts.now c.args.line.now c.as_str.result.now c.in-Some.end.now c.in-Some-at_choice.outcome.now c.in-Some-at_choice.choice.now
    c.words_said-words.result c.requires c.words_said-words.ensures (c.as_str.ensures.value ∙ c.in_ok-printed.ensures) c.in-Some.ensures c.in-Some-at_choice.ensures
    (fails c.in_ok-is_choice_of.field-0 c.if-not-branch.true c.in_ok-is_choice_of.ensures)
