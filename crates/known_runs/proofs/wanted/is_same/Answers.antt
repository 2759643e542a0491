use Rattle.std.proofs.Common.{ℕ, rules, ◌≡◌, ◌==◌, ◌∙◌, ap, sym, length, vec_len}
use Rattle.known_runs.proofs.Showing.{other_marks, same_by_sectors, marks_read}
use Rattle.known_runs.proofs.wanted.is_same.Goals as goal

pub returns-then-marks : goal.returns-then-marks
returns-then-marks c =
    other_marks c.args.one.now c.args.other.now c.marks.result c.marks-2.result
    (marks_read c.args.plan.now.log c.args.one.now c.cut.result c.marks.result c.requires.own c.cut.ensures.value c.marks.ensures.value)
    (marks_read c.args.plan.now.log c.args.other.now c.cut-2.result c.marks-2.result c.requires.theirs c.cut-2.ensures.value c.marks-2.ensures.value) c.if-marks.true

pub returns : goal.returns
returns c =
    let long : vec_len c.put_differing.new.numbers ≡ length c.put_differing.new.numbers.items = search rules in
    same_by_sectors c.args.one.now c.args.other.now c.marks.result c.marks-2.result c.put_differing.new.numbers.items c.is_empty.result (c.requires.own ∙ sym c.requires.theirs)
    (marks_read c.args.plan.now.log c.args.one.now c.cut.result c.marks.result c.requires.own c.cut.ensures.value c.marks.ensures.value)
    (marks_read c.args.plan.now.log c.args.other.now c.cut-2.result c.marks-2.result c.requires.theirs c.cut-2.ensures.value c.marks-2.ensures.value) c.if-marks.false
    c.in_ok-put_differing.ensures (c.is_empty.ensures ∙ ap (λ (n : ℕ). n == 0) long)
