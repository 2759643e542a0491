use Rattle.std.proofs.Common.{ℕ, ◌≡◌, Bool, true, false, not, ◌&&◌, if◌then◌else◌, filter, sym, subst, ◌∙◌, arith}
use Rattle.std.specs.List.{list_all, range_with_len}
use Rattle.cases.specs.Rows.{shows}
use Rattle.cases.specs.Sets.{has, fate_at}
use Rattle.cases.proofs.Numbered.{pieces_more, piece_fails, all_pieces}
use Rattle.cases.proofs.fates.alike.Goals as goal

pub returns-then-is_apart : goal.returns-then-is_apart
returns-then-is_apart c =
    let q : ℕ → Bool = λ i. if shows (fate_at c.args.one) c.args.part c.args.unit i then shows (fate_at c.args.other) c.args.part c.args.unit i
    else not (shows (fate_at c.args.other) c.args.part c.args.unit i) in
    let is : (has c.args.pieces c.loop-piece.piece && not (q c.loop-piece.piece)) ≡ true =
    sym (λ i. c.has.ensures i && not (if c.shows-first.ensures i then c.shows-second.ensures i else not (c.shows-second.ensures i)))
    ∙ sym c.is_apart.ensures ∙ c.if-is_apart.true in
    sym (piece_fails c.args.pieces c.loop-piece.piece q (omega (arith, c.loop-piece-test.true)) is)

pub loop-piece-preserved : goal.loop-piece-preserved
loop-piece-preserved c =
    let q : ℕ → Bool = λ i. if shows (fate_at c.args.one) c.args.part c.args.unit i then shows (fate_at c.args.other) c.args.part c.args.unit i
    else not (shows (fate_at c.args.other) c.args.part c.args.unit i) in
    let is : (has c.args.pieces c.loop-piece.piece && not (q c.loop-piece.piece)) ≡ false =
    sym (λ i. c.has.ensures i && not (if c.shows-first.ensures i then c.shows-second.ensures i else not (c.shows-second.ensures i)))
    ∙ sym c.is_apart.ensures ∙ c.if-is_apart.false in
    pieces_more c.args.pieces c.loop-piece.piece q c.loop-piece.invariant is

pub returns : goal.returns
returns c =
    let q : ℕ → Bool = λ i. if shows (fate_at c.args.one) c.args.part c.args.unit i then shows (fate_at c.args.other) c.args.part c.args.unit i
    else not (shows (fate_at c.args.other) c.args.part c.args.unit i) in
    let all : c.loop-piece.piece ≡ 8 = omega (arith, c.loop-piece.auto.piece-end, c.loop-piece-test.false) in
    sym (all_pieces c.args.pieces q (subst (λ n. list_all q (filter (has c.args.pieces) (range_with_len 0 n)) ≡ true) all c.loop-piece.invariant))
