use Rattle.join.proofs.Endings.{holds, fails, never}
use Rattle.join.proofs.Choosing.{end_decided, end_has_ending, no_choice_no_end}
use Rattle.join.proofs.ending.is_end.Goals as goal

pub returns-in_default : goal.returns-in_default
returns-in_default c = never (λ e. no_choice_no_end c.args.head.now c.args.cut c.args.text.now c.in_default.ensures e)

pub returns-then-not-is_ending : goal.returns-then-not-is_ending
returns-then-not-is_ending c =
    never (λ e. fails c.is_ending.result c.if-not-is_ending.true c.is_ending.ensures
    (end_has_ending c.args.head.now c.args.cut c.args.text.now c.in-Some.ending.now c.in-Some.choice.now c.in-Some.ensures e))

pub returns : goal.returns
returns c = end_decided _ c.args.head.now c.args.cut c.args.text.now c.in-Some.ending.now c.in-Some.choice.now c.is_choice.result c.in-Some.ensures (holds c.if-not-is_ending.ensures) c.is_choice.ensures
