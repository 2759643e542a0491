use Rattle.std.proofs.Common.{◌∙◌, refl, sym, ap, arith}
use mathlib.Core.Option.{none}
use Rattle.atomic_table.specs.Table.{step}
use Rattle.shares.specs.declared.view.SeatStep.TheVariants.{Posted}
use Rattle.shares.specs.Seats.{taken_blocks}
use Rattle.shares.proofs.Moves.{posts_as}
use Rattle.shares.proofs.Seats.{after_step, takes_none}
use Rattle.shares.proofs.board.Board.post.Goals as goal

pub fetch_min-requires : goal.fetch_min-requires
fetch_min-requires c =
    let same = ap (λ k. k.board) c.seat.view_is ∙ c.requires.board ∙ sym (ap (λ d. d.name) c.self.view_is) in
    (ap (λ n. n.table) same, omega (arith, c.self.invariant), posts_as _ _ _ _ _ (step 0 0 c.args.image 0 none) (omega (arith, c.seat.invariant)))

pub invariant_of-seat : goal.invariant_of-seat
invariant_of-seat c = after_step c.seat.inside.blocks (Posted c.args.image c.fetch_min.result) c.seat.inside.token.me c.fetch_min.new.seat.me _ _ c.seat.invariant c.fetch_min.ensures.2.0 (omega arith)

pub returns-clause-taken : goal.returns-clause-taken
returns-clause-taken c =
    takes_none c.seat.inside.blocks (Posted c.args.image c.fetch_min.result) c.seat.inside.token.me.0.steps c.fetch_min.new.seat.me.0.steps (ap (λ m. m.0.steps) c.fetch_min.ensures.2.0) refl
    ∙ ap taken_blocks c.seat.view_is
