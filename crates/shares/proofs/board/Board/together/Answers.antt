use Rattle.std.proofs.Common.{◌≡◌, ◌∙◌, ◌∷◌, [], length, append_assoc, sym, ap, arith}
use Rattle.std.specs.Vec.Iter.{into_iter_items}
use mathlib.Core.Option.{none}
use Rattle.atomic_table.specs.Table.{step}
use Rattle.shares.specs.Moves.{newcomer}
use Rattle.shares.specs.Seats.{SeatValue}
use Rattle.shares.proofs.Ends.{enters, takes_in}
use Rattle.shares.proofs.Seats.{all_middle, takes_next}
use Rattle.shares.proofs.board.Board.together.Goals as goal

pub load_new_seat-next-requires : goal.load_new_seat-next-requires
load_new_seat-next-requires c = (omega (arith, c.self.invariant), enters _ _ (step 0 0 0 0 none) (newcomer, []))

pub join_seat-requires : goal.join_seat-requires
join_seat-requires c =
    let at = c.loop-seat in
    let steps : into_iter_items at.seat-iterator ≡ c.in-Some.seat ∷ into_iter_items c.next.new.self = c.in-Some.ensures.steps.0 in
    let all = at.invariant.0 ∙ c.into_iter-seat-iterator.ensures.into_iter_gives.0 in
    let board = all_middle (λ (s : SeatValue). s.board ≡ c.args.self.now.name) at.yielded (into_iter_items c.next.new.self) c.args.seats.items c.in-Some.seat (rw (← steps) all) c.requires in
    let name = ap (λ d. d.name) c.self.view_is in (
      at.invariant.1 ∙ sym (ap (λ n. n.table) name),
      ap (λ n. n.table) (ap (λ k. k.board) c.seat.view_is ∙ board ∙ sym name),
      c.seat.invariant.0,
      omega (arith, c.self.invariant),
      takes_in _ _ _ _ _,
    )

pub loop-seat-preserved : goal.loop-seat-preserved
loop-seat-preserved c =
    let at = c.loop-seat in
    let x = c.in-Some.seat in
    let steps : into_iter_items at.seat-iterator ≡ x ∷ into_iter_items c.next.new.self = c.in-Some.ensures.steps.0 in (
      append_assoc at.yielded (x ∷ []) _ ∙ rw (← steps) at.invariant.0,
      c.join_seat.ensures.0 ∙ at.invariant.1,
      takes_next at.yielded x at.whole.me c.seat.inside.token.me c.join_seat.new.seat.me at.invariant.2 c.seat.invariant.1 (ap (λ k. k.steps) c.seat.view_is) c.join_seat.ensures.2,
      let was = at.invariant.3 in
          let gone = c.in-Some.ensures.steps.1 in
          let short = ap length steps in
          omega arith,
    )
