use Rattle.std.proofs.Common.{◌∙◌, refl, ap}
use Rattle.shares.specs.declared.deque.Phase.TheVariants.{Closed}
use Rattle.shares.specs.Hands.{HandValue}
use Rattle.workers.proofs.Takes.{rephased, judges_kept}
use Rattle.workers.proofs.taking.judge_kept.Goals as goal

pub loop-block-init : goal.loop-block-init
loop-block-init g c = (c.requires.phase, refl, c.requires.local, λ board seat h. h)

pub loop-block-preserved : goal.loop-block-preserved
loop-block-preserved g c =
    let at = c.loop-block in
    let (phase, place, log, taken) = at.invariant in (
      c.in-Some.ensures.some.1,
      c.rest.ensures.place ∙ place,
      c.piece_left.ensures.local,
      λ board seat h. rw c.in_ok-push.ensures.items
          (judges_kept c.args.worker.now.input.now board seat at.hand c.rest.new.self c.in-Some.block at.pieces.items c.in_ok-piece.piece c.in-Some.ensures.some.0 c.in_ok-piece.ensures.piece
          (rw (← c.requires.blocks) c.in-Some.ensures.block) (taken board seat h)),
    )

pub returns-clause-taken : goal.returns-clause-taken
returns-clause-taken g c = λ board seat h.
    let at = c.loop-block in
    let (phase, place, log, taken) = at.invariant in
    rephased c.args.worker.now.input.now board seat at.hand c.rest.new.self Closed at.pieces.items c.in_default.ensures.none.1 (taken board seat h)

pub returns-clause-shut : goal.returns-clause-shut
returns-clause-shut g c =
    let none = c.in_default.ensures.none in
    (ap (λ (h : HandValue). h.phase) none.1, ap (λ (h : HandValue). h.list) none.1 ∙ none.0)
