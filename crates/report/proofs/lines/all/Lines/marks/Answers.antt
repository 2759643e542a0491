use Rattle.std.proofs.Common.{map, string_bytes, subst, List}
use Rattle.report.specs.Line.{FailingLine}
use Rattle.report.specs.Kept.{AreTextsOf}
use Rattle.report.proofs.Texts.{none_read, text_read, all_read}
use Rattle.report.proofs.lines.all.Lines.marks.Goals as goal

pub loop-text-init : goal.loop-text-init
loop-text-init c =
    rw (c.in_ok-reserve_exact.ensures.items, c.new-marks.ensures.items, c.as_slice-text-items.ensures.value)
    (none_read _ _ (subst (λ (ls : List FailingLine). AreTextsOf (map (λ t. string_bytes t) c.self.inside.texts.items) ls) c.self.view_is c.self.invariant.1))

pub loop-text-preserved : goal.loop-text-preserved
loop-text-preserved c =
    text_read (λ t. string_bytes t) c.as_slice-text-items.result.now c.loop-text.text-index c.text-item.result c.as_str.result.now _ _ _
    c.loop-text-test.true c.text-item.is c.as_str.ensures.value c.loop-text.invariant c.in_ok-read_marks.ensures

pub returns : goal.returns
returns c = all_read (λ t. string_bytes t) c.as_slice-text-items.result.now c.loop-text.text-index _ _ c.loop-text-test.false c.loop-text.invariant
