use Rattle.std.proofs.Common.{◌<◌, ◌∙◌, Bool, Some, refl, sym, ap, subst, arith}
use Rattle.choices.specs.Choices.{ChoiceValue}
use Rattle.checker.specs.Memory.{AreServed}
use Rattle.workers.specs.Failing.{image_count}
use Rattle.workers.proofs.JudgedLines.{image_next, none_yet}
use Rattle.workers.proofs.Reused.{place_of}
use Rattle.workers.proofs.worker.Worker.judge_cut.Goals as goal

pub judge_image-requires-clause-served : goal.judge_image-requires-clause-served
judge_image-requires-clause-served g c =
    subst (λ (b : Bool). AreServed b c.args.self.now.input.now.checkers) (sym c.loop-next.invariant.6) c.requires.served

pub loop-next-init : goal.loop-next-init
loop-next-init g c =
    let s = c.args.self.now.input.now in
    let row = c.args.row.now in (
      none_yet s row.image c.args.lines.now,
      omega arith,
      c.requires.row.order,
      λ lt. c.requires.row.member lt ∙ ap (λ (x : ChoiceValue). Some x) (sym c.choice_by-choice.ensures),
      λ e. ap (λ (x : ChoiceValue). x.place) c.choice_by-choice.ensures ∙ place_of s.plan row.picked ∙ sym c.place-place.ensures,
      refl,
      refl,
    )

pub loop-next-preserved : goal.loop-next-preserved
loop-next-preserved g c =
    let s = c.args.self.now.input.now in
    let within : c.loop-next.next < image_count s = omega (arith, c.loop-next-test.true, c.requires.row.within) in
    let (lines, low, high, choice, place, changes, memory) = c.loop-next.invariant in (
      c.in_ok-judge_image.ensures.lines ∙ image_next s c.args.row.now.image c.loop-next.next c.args.lines.now _ low lines,
      omega (arith, low),
      omega (arith, c.loop-next-test.true),
      λ lt. c.go_on.ensures c.loop-next.next (choice within) lt,
      λ e. absurd (omega (arith, e, low)),
      c.in_ok-judge_image.ensures.changes ∙ changes,
      c.in_ok-judge_image.ensures.memory ∙ memory,
    )
