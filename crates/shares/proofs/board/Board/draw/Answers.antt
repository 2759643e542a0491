use Rattle.std.proofs.Common.{◌∙◌, ◌++◌, ◌∷◌, [], ℕ, List, sym, ap, arith}
use mathlib.Core.Option.{none}
use Rattle.atomic_table.specs.Table.{step}
use Rattle.shares.specs.declared.view.SeatStep.TheVariants.{Drew}
use Rattle.shares.specs.Steps.{bit, late_draws}
use Rattle.shares.specs.Seats.{taken_blocks}
use Rattle.shares.proofs.Moves.{draws_as}
use Rattle.shares.proofs.Seats.{after_step, in_time, too_late, takes_block, draw_takes_none, has_ended}
use Rattle.shares.proofs.board.Board.draw.Goals as goal

pub fetch_add-next-requires : goal.fetch_add-next-requires
fetch_add-next-requires c =
    let same = ap (λ k. k.board) c.seat.view_is ∙ c.requires ∙ sym (ap (λ d. d.name) c.self.view_is) in
    let blocks = c.self.invariant.0 ∙ sym (ap (λ n. n.blocks) same) in
    let late = ap (λ b. late_draws b c.seat.inside.token.me.0.steps) blocks ∙ c.seat.invariant.2 ∙ ap bit c.if-seat.false in
    (ap (λ n. n.table) same, omega (arith, c.self.invariant), draws_as _ _ _ _ _ (step 0 0 1 0 none) (omega (arith, late, c.seat.invariant.1)))

pub invariant_of-seat : goal.invariant_of-seat
invariant_of-seat c =
    let same = ap (λ k. k.board.blocks) c.seat.view_is ∙ ap (λ n. n.blocks) c.requires ∙ sym (ap (λ d. d.name.blocks) c.self.view_is) in
    let found = in_time c.seat.inside.blocks c.fetch_add-next.result (omega (arith, same, c.from.ensures, c.if-next-from.true)) in
    after_step c.seat.inside.blocks (Drew c.fetch_add-next.result) c.seat.inside.token.me c.fetch_add-next.new.seat.me _ _ c.seat.invariant c.fetch_add-next.ensures.2.0 (omega (arith, found))

pub invariant_of-seat-else-next-from : goal.invariant_of-seat-else-next-from
invariant_of-seat-else-next-from c =
    let same = ap (λ k. k.board.blocks) c.seat.view_is ∙ ap (λ n. n.blocks) c.requires ∙ sym (ap (λ d. d.name.blocks) c.self.view_is) in
    let found = too_late c.seat.inside.blocks c.fetch_add-next.result (omega (arith, same, c.from.ensures, c.if-next-from.false)) in
    let not_ended = ap bit c.if-seat.false in
    after_step c.seat.inside.blocks (Drew c.fetch_add-next.result) c.seat.inside.token.me c.fetch_add-next.new.seat.me _ _ c.seat.invariant c.fetch_add-next.ensures.2.0 (omega (arith, found, not_ended))

pub returns-then-next-from-clause-ended : goal.returns-then-next-from-clause-ended
returns-then-next-from-clause-ended c =
    let late = ap (λ k. late_draws k.board.blocks k.steps) (sym c.seat.view_is) ∙ c.seat.invariant.2 ∙ ap bit c.if-seat.false in
    λ has_ended. absurd (omega (arith, late, has_ended))

pub returns-else-next-from-clause-none : goal.returns-else-next-from-clause-none
returns-else-next-from-clause-none c =
    let late = ap (λ k. late_draws k.board.blocks k.steps) (sym c.seat.view_is) ∙ c.seat.invariant.2 ∙ ap bit c.if-seat.false in
    let blocks = ap (λ n. n.blocks) c.requires ∙ sym (ap (λ d. d.name.blocks) c.self.view_is) in
    let found = c.fetch_add-next.result in (
      (λ has_ended. absurd (omega (arith, late, has_ended))),
      (λ not_ended. (found, omega (arith, blocks, c.from.ensures, c.if-next-from.false), ap (λ m. m.0.steps) c.fetch_add-next.ensures.2.0 ∙ ap (λ k. k.steps ++ Drew found ∷ []) c.seat.view_is)),
    )

pub returns-then-next-from-clause-taken : goal.returns-then-next-from-clause-taken
returns-then-next-from-clause-taken c =
    let blocks = ap (λ k. k.board.blocks) c.seat.view_is ∙ ap (λ n. n.blocks) c.requires ∙ sym (ap (λ d. d.name.blocks) c.self.view_is) in
    takes_block c.seat.inside.blocks c.fetch_add-next.result c.seat.inside.token.me.0.steps c.fetch_add-next.new.seat.me.0.steps (ap (λ m. m.0.steps) c.fetch_add-next.ensures.2.0)
    (omega (arith, blocks, c.from.ensures, c.if-next-from.true))
    ∙ ap (λ (ns : List ℕ). ns ++ c.fetch_add-next.result ∷ []) (ap taken_blocks c.seat.view_is)

pub returns-else-next-from-clause-none_taken : goal.returns-else-next-from-clause-none_taken
returns-else-next-from-clause-none_taken c =
    let blocks = ap (λ k. k.board.blocks) c.seat.view_is ∙ ap (λ n. n.blocks) c.requires ∙ sym (ap (λ d. d.name.blocks) c.self.view_is) in
    draw_takes_none c.seat.inside.blocks c.fetch_add-next.result c.seat.inside.token.me.0.steps c.fetch_add-next.new.seat.me.0.steps (ap (λ m. m.0.steps) c.fetch_add-next.ensures.2.0)
    (omega (arith, blocks, c.from.ensures, c.if-next-from.false))
    ∙ ap taken_blocks c.seat.view_is

pub returns-else-next-from-clause-at_end : goal.returns-else-next-from-clause-at_end
returns-else-next-from-clause-at_end c =
    let blocks = ap (λ k. k.board.blocks) c.seat.view_is ∙ ap (λ n. n.blocks) c.requires ∙ sym (ap (λ d. d.name.blocks) c.self.view_is) in
    has_ended c.seat.inside.blocks c.fetch_add-next.result c.seat.inside.token.me.0.steps c.fetch_add-next.new.seat.me.0.steps (ap (λ m. m.0.steps) c.fetch_add-next.ensures.2.0)
    (omega (arith, blocks, c.from.ensures, c.if-next-from.false))
