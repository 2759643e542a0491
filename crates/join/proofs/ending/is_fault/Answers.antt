use Rattle.join.proofs.Endings.{holds, fails, both_hold, never, unlike, fault_word, fault_slot, no_slot, fault_text_found}
use Rattle.join.proofs.ending.is_fault.Goals as goal

pub returns-then-is_fault_number : goal.returns-then-is_fault_number
returns-then-is_fault_number c =
    let text = c.args.text.now in
    let word = c.in-Some.fault.now in
    let more = c.in-Some.more.now in
    let slot = c.in-Some-beyond.slot.now in
    both_hold c.is_number.result (holds c.if-is_fault_number.ensures) c.is_number.ensures (fault_text_found text word more slot c.in-Some.ensures c.in-Some-beyond.ensures) (fault_slot text word more slot c.in-Some.ensures c.in-Some-beyond.ensures)

pub returns-else-is_fault_number : goal.returns-else-is_fault_number
returns-else-is_fault_number c = unlike c.is_fault_number.result c.if-is_fault_number.false (λ f. fails c.is_fault_number.result c.if-is_fault_number.false c.is_fault_number.ensures (fault_word c.args.text.now c.in-Some.fault.now c.in-Some.more.now c.in-Some.ensures f))

pub returns-in-None : goal.returns-in-None
returns-in-None c = never (no_slot c.args.text.now c.in-Some.fault.now c.in-Some.more.now c.in-Some.ensures c.in-None.ensures)
