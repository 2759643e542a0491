use Rattle.std.proofs.Common.{◌∙◌, ap, subst}
use Rattle.report.specs.Line.{first_lines}
use Rattle.workers.specs.Pieces.{RefusesPieces, block_count, lines_by_block}
use Rattle.workers.proofs.Runs.{without_passed, with_passed, same_first_lines, lines_ordered, whole_run_of, only_memory}
use Rattle.workers.proofs.Sets.{images_rise}
use Rattle.workers.proofs.exploring.explore_by.Goals as goal

pub returns-in-Ok-collect-clause-whole : goal.returns-in-Ok-collect-clause-whole
returns-in-Ok-collect-clause-whole g c = λ all.
    let s = c.args.input.now in
    let pieces = c.in-Ok-all_pieces.pieces.items in
    let whole = whole_run_of s pieces c.first_image.result c.block_count.result c.first_image.ensures c.block_count.ensures.value c.in-Ok-collect.ensures.whole in
    c.in-Ok-collect.ensures.lines
    ∙ rw c.block_count.ensures.value (without_passed s pieces c.in-Ok-all_pieces.ensures.pieces.own (c.in-Ok-all_pieces.ensures.pieces.full all) whole)

pub returns-in-Ok-collect-clause-first : goal.returns-in-Ok-collect-clause-first
returns-in-Ok-collect-clause-first g c =
    let s = c.args.input.now in
    let pieces = c.in-Ok-all_pieces.pieces.items in
    let whole = whole_run_of s pieces c.first_image.result c.block_count.result c.first_image.ensures c.block_count.ensures.value c.in-Ok-collect.ensures.whole in
    ap first_lines c.in-Ok-collect.ensures.lines
    ∙ rw c.block_count.ensures.value (same_first_lines s pieces c.in-Ok-all_pieces.ensures.pieces.own whole)

pub returns-in-Ok-collect-clause-begins : goal.returns-in-Ok-collect-clause-begins
returns-in-Ok-collect-clause-begins g c =
    let s = c.args.input.now in
    let pieces = c.in-Ok-all_pieces.pieces.items in
    let whole = whole_run_of s pieces c.first_image.result c.block_count.result c.first_image.ensures c.block_count.ensures.value c.in-Ok-collect.ensures.whole in
    rw (c.in-Ok-collect.ensures.lines, c.block_count.ensures.value) (with_passed s pieces c.in-Ok-all_pieces.ensures.pieces.own whole)

pub returns-in-Ok-collect-clause-order : goal.returns-in-Ok-collect-clause-order
returns-in-Ok-collect-clause-order g c =
    let s = c.args.input.now in
    let pieces = c.in-Ok-all_pieces.pieces.items in
    let whole = whole_run_of s pieces c.first_image.result c.block_count.result c.first_image.ensures c.block_count.ensures.value c.in-Ok-collect.ensures.whole in
    rw (c.in-Ok-collect.ensures.lines, c.block_count.ensures.value)
    (images_rise (lines_by_block pieces (block_count s)) (lines_ordered s pieces c.in-Ok-all_pieces.ensures.pieces.own whole))

pub returns-clause-refused : goal.returns-clause-refused
returns-clause-refused g c =
    let s = c.args.input.now in
    let pieces = c.in-Ok-all_pieces.pieces.items in
    let refusal = c.in-Err-collect.refusal in
    only_memory s pieces refusal c.in-Ok-all_pieces.ensures.pieces
    (subst (λ n. RefusesPieces n pieces (block_count s) refusal) c.first_image.ensures
    (subst (λ n. RefusesPieces c.first_image.result pieces n refusal) c.block_count.ensures.value c.in-Err-collect.ensures.refused))
