use Rattle.std.proofs.Common.{ℕ, ◌≡◌, ◌==◌, ◌+◌, ◌*◌, ◌≤◌, length, ap, ◌∙◌, arith}
use Rattle.base.specs.Numbers.{number_at}
use Rattle.interp.proofs.Cells.{ones, marks_number, one_marked}
use Rattle.interp.proofs.stack.is_marked.Goals as goal

pub returns-in-Byte : goal.returns-in-Byte
returns-in-Byte c = rw c.in-Byte.is (one_marked c.args.mark c.args.place c.args.marks.now)

pub returns-in-Half : goal.returns-in-Half
returns-in-Half c =
    let fits : c.args.place + 2 ≤ length c.args.marks.now = rw c.in-Half.is at c.requires in
    let value : c.from.result * 257 ≡ ones c.args.mark 2 = omega (arith, c.from.ensures) in
    rw (c.in-Half.is, c.u16_at.ensures)
    (ap (λ (x : ℕ). number_at 2 c.args.place c.args.marks.now == x) value
    ∙ marks_number c.args.mark 2 c.args.place c.args.marks.now c.ranges.mark.fits fits (λ i. omega (arith, c.type_inv.marks i)))

pub returns-in-Word : goal.returns-in-Word
returns-in-Word c =
    let fits : c.args.place + 4 ≤ length c.args.marks.now = rw c.in-Word.is at c.requires in
    let value : c.from-in-Word.result * 16843009 ≡ ones c.args.mark 4 = omega (arith, c.from-in-Word.ensures) in
    rw (c.in-Word.is, c.u32_at.ensures)
    (ap (λ (x : ℕ). number_at 4 c.args.place c.args.marks.now == x) value
    ∙ marks_number c.args.mark 4 c.args.place c.args.marks.now c.ranges.mark.fits fits (λ i. omega (arith, c.type_inv.marks i)))

pub returns-in-Double : goal.returns-in-Double
returns-in-Double c =
    let fits : c.args.place + 8 ≤ length c.args.marks.now = rw c.in-Double.is at c.requires in
    let value : c.from-in-Double.result * 72340172838076673 ≡ ones c.args.mark 8 = omega (arith, c.from-in-Double.ensures) in
    rw (c.in-Double.is, c.u64_at.ensures)
    (ap (λ (x : ℕ). number_at 8 c.args.place c.args.marks.now == x) value
    ∙ marks_number c.args.mark 8 c.args.place c.args.marks.now c.ranges.mark.fits fits (λ i. omega (arith, c.type_inv.marks i)))
