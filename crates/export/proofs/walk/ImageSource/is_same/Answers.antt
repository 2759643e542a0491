use Rattle.std.proofs.Common.{ℕ, ◌==◌, List, length, sym, ◌∙◌, ap}
use Rattle.export.proofs.Walking.{other_marks, same_by_sectors}
use Rattle.export.proofs.walk.ImageSource.is_same.Goals as goal

pub returns-then-marks-next : goal.returns-then-marks-next
returns-then-marks-next c =
    other_marks c.args.self.now c.args.later c.args.place (λ same. c.if-marks-next.true (c.marks.ensures ∙ same ∙ sym c.requires.next.passed))

pub returns : goal.returns
returns c =
    same_by_sectors c.args.self.now c.args.later c.args.place c.in_ok-other.other c.args.next.now.image c.put_differing.new.numbers.items c.is_empty.result
    c.in_ok-other.ensures.log c.requires.next.log c.in_ok-other.ensures.device c.requires.next.device
    (sym c.marks.ensures ∙ c.if-marks-next.false ∙ c.requires.next.passed) c.in_ok-put_differing.ensures (c.is_empty.ensures ∙ ap (λ (xs : List ℕ). length xs == 0) c.as_slice.ensures.value)
