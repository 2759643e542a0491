use Rattle.std.proofs.Common.{◌<◌, arith}
use Rattle.join.proofs.Endings.{holds, fails, both_hold, never, unlike, like, none_left, last_number, no_more_numbers, more_numbers, first_of_numbers}
use Rattle.join.proofs.ending.+are_numbers.Goals as goal

pub returns-then-left-eq0 : goal.returns-then-left-eq0
returns-then-left-eq0 t c = never (none_left c.args.left c.args.text.now c.if-left-eq0.true)

pub returns-then-is_number : goal.returns-then-is_number
returns-then-is_number t c =
    let left = c.args.left in
    let text = c.args.text.now in
    let word = c.in-Some.word.now in
    let more = c.in-Some.more.now in
    let some : 0 < left = omega arith in
    both_hold c.are_numbers.result (holds c.if-is_number.ensures) c.are_numbers.ensures (λ a b. more_numbers left text word more c.in-Some.ensures a b some) (λ r. (first_of_numbers left text word more c.in-Some.ensures r).1)

pub returns-else-is_number : goal.returns-else-is_number
returns-else-is_number t c = unlike c.is_number.result c.if-is_number.false (λ r. fails c.is_number.result c.if-is_number.false c.is_number.ensures (first_of_numbers c.args.left c.args.text.now c.in-Some.word.now c.in-Some.more.now c.in-Some.ensures r).0)

pub returns-in-None : goal.returns-in-None
returns-in-None t c =
    let left = c.args.left in
    let some : 0 < left = omega arith in
    like c.is_number-in-None.result c.is_number-in-None.ensures (last_number left c.args.text.now some) (no_more_numbers left c.args.text.now c.in-None.ensures)
