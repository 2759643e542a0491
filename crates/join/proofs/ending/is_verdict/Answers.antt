use Rattle.join.proofs.Endings.{holds, fails, both_hold, never, unlike, verdict_answer, verdict_codes, no_codes, verdict_found}
use Rattle.join.proofs.ending.is_verdict.Goals as goal

pub returns-then-is_answer : goal.returns-then-is_answer
returns-then-is_answer c =
    let text = c.args.text.now in
    let word = c.in-Some.answer.now in
    let more = c.in-Some.more.now in
    let said = c.in-Some-beyond.codes.now in
    both_hold c.are_codes.result (holds c.if-is_answer.ensures) c.are_codes.ensures (verdict_found text word more said c.in-Some.ensures c.in-Some-beyond.ensures) (verdict_codes text word more said c.in-Some.ensures c.in-Some-beyond.ensures)

pub returns-else-is_answer : goal.returns-else-is_answer
returns-else-is_answer c = unlike c.is_answer.result c.if-is_answer.false (λ v. fails c.is_answer.result c.if-is_answer.false c.is_answer.ensures (verdict_answer c.args.text.now c.in-Some.answer.now c.in-Some.more.now c.in-Some.ensures v))

pub returns-in-None : goal.returns-in-None
returns-in-None c = never (no_codes c.args.text.now c.in-Some.answer.now c.in-Some.more.now c.in-Some.ensures c.in-None.ensures)
