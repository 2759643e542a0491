use Rattle.std.proofs.Common.{ℕ, ◌+◌, ◌∙◌, option_map, sym, ap, arith}
use Rattle.shares.specs.declared.view.SeatStep.TheVariants.{Posted}
use Rattle.workers.proofs.HandingOver.{seen_later, adds_passed, adds_full, adds_last}
use Rattle.workers.proofs.taking.piece_taken.Goals as goal
use Rattle.workers.proofs.taking.piece_taken.Goals.{in-Some-first_failing, in_default-first_failing}

pub returns-in-Some-clause-added : goal.returns-in-Some-clause-added
returns-in-Some-clause-added g c =
    rw c.passed.ensures
    (adds_passed c.args.worker.now.input.now c.args.block c.in-Some.image c.args.seat.now.steps c.image_before.new.seat.steps c.image_before.ensures.posts c.requires.block c.in-Some.ensures.found.0 c.in-Some.ensures.found.1)

pub returns-clause-seen : goal.returns-clause-seen
returns-clause-seen g c = elim c.match-first_failing.branch [
  | in-Some-first_failing w ↦
      let step = w.post.ensures.step in
      let later = seen_later (Posted w.in-Some-first_failing.image step.0) c.image_before.new.seat.steps w.post.new.seat.steps step.1 in
      rw w.seat-is (omega (arith, c.image_before.ensures.seen, later))
  | in_default-first_failing w ↦ rw w.seat-is c.image_before.ensures.seen
]

pub returns-clause-added : goal.returns-clause-added
returns-clause-added g c = elim c.match-first_failing.branch [
  | in-Some-first_failing w ↦
      let step = w.post.ensures.step in
      rw w.seat-is
      (adds_last c.args.worker.now.input.now c.args.block w.in-Some-first_failing.image step.0 c.args.seat.now.steps c.image_before.new.seat.steps w.post.new.seat.steps c.in_ok-piece.piece c.image_before.ensures.posts step.1
      c.in_ok-piece.ensures.piece c.requires.block (sym c.first_failing.ensures.value ∙ ap (option_map (λ (i : ℕ). c.args.worker.now.input.now.from + i)) w.in-Some-first_failing.is))
  | in_default-first_failing w ↦
      rw (w.seat-is, c.in_ok-piece.ensures.piece) (adds_full c.args.worker.now.input.now c.args.block c.args.seat.now.steps c.image_before.new.seat.steps c.image_before.ensures.posts c.requires.block)
]
