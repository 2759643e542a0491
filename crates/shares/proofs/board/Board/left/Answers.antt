use Rattle.std.proofs.Common.{◌∙◌, refl, sym, ap, arith}
use mathlib.Core.Option.{none}
use Rattle.atomic_table.specs.Table.{step}
use Rattle.shares.specs.declared.view.SeatStep.TheVariants.{SawNext}
use Rattle.shares.specs.Seats.{taken_blocks}
use Rattle.shares.proofs.Moves.{sees_next_as}
use Rattle.shares.proofs.Seats.{after_step, takes_none}
use Rattle.shares.proofs.board.Board.left.Goals as goal

pub load-next-requires : goal.load-next-requires
load-next-requires c =
    let same = ap (λ k. k.board) c.seat.view_is ∙ c.requires ∙ sym (ap (λ d. d.name) c.self.view_is) in
    (ap (λ n. n.table) same, omega (arith, c.self.invariant), sees_next_as _ _ _ _ _ (step 0 0 0 0 none) (omega (arith, c.seat.invariant)))

pub invariant_of-seat : goal.invariant_of-seat
invariant_of-seat c = after_step c.seat.inside.blocks (SawNext c.load-next.result) c.seat.inside.token.me c.load-next.new.seat.me _ _ c.seat.invariant c.load-next.ensures.2.0 (omega arith)

pub returns-clause-taken : goal.returns-clause-taken
returns-clause-taken c =
    takes_none c.seat.inside.blocks (SawNext c.load-next.result) c.seat.inside.token.me.0.steps c.load-next.new.seat.me.0.steps (ap (λ m. m.0.steps) c.load-next.ensures.2.0) refl
    ∙ ap taken_blocks c.seat.view_is
