use Rattle.std.proofs.Common.{rules}
use Rattle.std.proofs.lemmas.Bool.{false≢true}
use Rattle.join.proofs.Endings.{like, verdict_is_ending, ending_is_verdict, fault_is_ending, ending_is_fault, stray_is_ending, ending_is_stray, no_ending}
use Rattle.join.proofs.ending.is_ending.Goals as goal

pub returns-in-Some : goal.returns-in-Some
returns-in-Some c =
    let is = c.in-Some.ensures in
    like c.is_verdict.result c.is_verdict.ensures (verdict_is_ending c.args.text.now c.in-Some.verdict.now is) (ending_is_verdict c.args.text.now c.in-Some.verdict.now is)

pub returns-in-Some-beyond : goal.returns-in-Some-beyond
returns-in-Some-beyond c =
    let is = c.in-Some-beyond.ensures in
    like c.is_fault.result c.is_fault.ensures (fault_is_ending c.args.text.now c.in-Some-beyond.fault.now is) (ending_is_fault c.args.text.now c.in-Some-beyond.fault.now is)

pub returns-in-Some-beyond-2 : goal.returns-in-Some-beyond-2
returns-in-Some-beyond-2 c =
    let is = c.in-Some-beyond-2.ensures in
    like c.is_number.result c.is_number.ensures (stray_is_ending c.args.text.now c.in-Some-beyond-2.slot.now is) (ending_is_stray c.args.text.now c.in-Some-beyond-2.slot.now is)

pub returns-in-None : goal.returns-in-None
returns-in-None c =
    (λ t. absurd (false≢true t), λ e. absurd (no_ending c.args.text.now (search rules) c.in_default.ensures c.in_default-beyond.ensures c.in-None.ensures e))
