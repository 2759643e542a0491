use Rattle.std.proofs.Common.{rules, ◌≡◌, refl, sym, ap}
use Rattle.report.specs.Report.{HeadValue}
use Rattle.join.specs.Heads.{IsHeadRead, NoHeadRead}
use Rattle.join.specs.Reading.{IsSpanOf, NoSpan}
use Rattle.join.proofs.Endings.{fails}
use Rattle.join.proofs.Parts.{no_span_no_part, no_head_no_part, other_head_no_part, part_found, other_last_no_part, not_whole_no_part}
use Rattle.join.proofs.part.read_text.Goals as goal

pub returns-in_default : goal.returns-in_default
returns-in_default c =
    let none : NoSpan c.args.text.now = rw c.in_default.is at c.in_ok-span.ensures in
    no_span_no_part c.args.text.now none

pub returns-in_default-after_head : goal.returns-in_default-after_head
returns-in_default-after_head c =
    let span : IsSpanOf c.args.text.now c.in-Some.span c.in-Some.body.now = rw c.in-Some.is at c.in_ok-span.ensures in
    no_head_no_part c.args.text.now c.in-Some.body.now c.in-Some.span span c.in_default-after_head.ensures

pub returns-in_default-2 : goal.returns-in_default-2
returns-in_default-2 c =
    let span : IsSpanOf c.args.text.now c.in-Some.span c.in-Some.body.now = rw c.in-Some.is at c.in_ok-span.ensures in
    let none : NoHeadRead c.before-front.result.now = rw c.in_default-2.is at c.in_ok-head.ensures in
    other_head_no_part c.args.text.now c.in-Some.body.now c.in-Some-after_head.found.now c.before-front.result.now c.in-Some.span span c.in-Some-after_head.ensures c.before-front.ensures none

pub returns-then-not-branch : goal.returns-then-not-branch
returns-then-not-branch c =
    let span : IsSpanOf c.args.text.now c.in-Some.span c.in-Some.body.now = rw c.in-Some.is at c.in_ok-span.ensures in
    let read : IsHeadRead c.before-front.result.now c.in-Some-2.head = search rules in
    let kind : c.head.inside.first ≡ c.in-Some-2.head.first = ap (λ (v : HeadValue). v.first) c.head.view_is in
    let other = rw (kind, c.saturating_sub-images.ensures) at (fails c.in_ok-is_last.field-0 c.if-not-branch.true c.in_ok-is_last.ensures) in
    other_last_no_part c.args.text.now c.in-Some.body.now c.in-Some-after_head.found.now c.before-front.result.now c.in_ok-tally.last.now c.in-Some-2.head c.in-Some.span c.in_ok-tally.tally span
    c.in-Some-after_head.ensures c.before-front.ensures read c.in_ok-tally.ensures.read c.in_ok-tally.ensures.end other

pub returns-then-not-is_whole : goal.returns-then-not-is_whole
returns-then-not-is_whole c =
    let span : IsSpanOf c.args.text.now c.in-Some.span c.in-Some.body.now = rw c.in-Some.is at c.in_ok-span.ensures in
    let read : IsHeadRead c.before-front.result.now c.in-Some-2.head = search rules in
    let at = rw c.saturating_sub-images.ensures at (c.in_ok-is_last.ensures.0 c.if-not-branch.false) in
    not_whole_no_part c.args.text.now c.in-Some.body.now c.in-Some-after_head.found.now c.before-front.result.now c.in_ok-tally.last.now c.in-Some-2.head c.in-Some.span c.in_ok-tally.tally span
    c.in-Some-after_head.ensures c.before-front.ensures read c.in_ok-tally.ensures.read c.in_ok-tally.ensures.end c.head.inside.first at (fails c.is_whole.result c.if-not-is_whole.true c.is_whole.ensures)

pub returns : goal.returns
returns c =
    let span : IsSpanOf c.args.text.now c.in-Some.span c.in-Some.body.now = rw c.in-Some.is at c.in_ok-span.ensures in
    let read : IsHeadRead c.before-front.result.now c.in-Some-2.head = search rules in
    let at = rw c.saturating_sub-images.ensures at (c.in_ok-is_last.ensures.0 c.if-not-branch.false) in
    let shown : c.in-Some-2.head.first ≡ c.head.inside.first = sym (ap (λ (v : HeadValue). v.first) c.head.view_is) in (
      part_found c.args.text.now c.in-Some.body.now c.in-Some-after_head.found.now c.in_ok-tally.last.now c.before-front.result.now c.before-2.result.now c.in-Some-2.head c.in-Some.span c.in_ok-tally.tally c.head.inside.first c.args.file
          span c.in-Some-after_head.ensures c.in_ok-tally.ensures.read at (c.is_whole.ensures.0 c.if-not-is_whole.false) c.before-front.ensures read shown c.before-2.ensures,
      refl,
    )
