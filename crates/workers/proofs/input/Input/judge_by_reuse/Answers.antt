use Rattle.std.proofs.Common.{◌≡◌, ◌∙◌, Bool, Some, slice_get, refl, sym, subst, arith, length}
use Rattle.std.proofs.lemmas.Option.{slice_get_read}
use Rattle.choices.specs.Choices.{ChoiceValue}
use Rattle.checker.specs.Memory.{IsServed}
use Rattle.checker.proofs.Suiting.{for_each}
use Rattle.workers.specs.Failing.{choices_of}
use Rattle.workers.proofs.Reused.{line_more, all_lines}
use Rattle.workers.proofs.input.Input.judge_by_reuse.Goals as goal

pub finding-told-requires-clause-known : goal.finding-told-requires-clause-known
finding-told-requires-clause-known c = c.loop-number.invariant.1

pub finding-told-requires-clause-place : goal.finding-told-requires-clause-place
finding-told-requires-clause-place c = c.loop-number.invariant.2 ∙ c.requires.place

pub finding-told-requires-clause-member : goal.finding-told-requires-clause-member
finding-told-requires-clause-member c = (c.args.seen.now.image, subst (λ (x : ChoiceValue). slice_get (choices_of c.args.self.now) c.args.seen.now.image ≡ Some x) c.requires.picked c.requires.choice)

pub finding-told-requires-clause-within : goal.finding-told-requires-clause-within
finding-told-requires-clause-within c = rw (← c.self.view_is) c.loop-number-test.true

pub finding-told-requires-clause-checker : goal.finding-told-requires-clause-checker
finding-told-requires-clause-checker c =
    let checkers = c.self.inside.checkers.now in
    let there : slice_get checkers c.loop-number.number ≡ Some c.checker-item.result =
    slice_get_read checkers (length checkers) c.loop-number.number c.checker-item.result refl c.loop-number-test.true c.checker-item.is in
    rw (← c.self.view_is) there

pub finding-told-requires-clause-device : goal.finding-told-requires-clause-device
finding-told-requires-clause-device c =
    let checkers = c.self.inside.checkers.now in
    let there : slice_get checkers c.loop-number.number ≡ Some c.checker-item.result =
    slice_get_read checkers (length checkers) c.loop-number.number c.checker-item.result refl c.loop-number-test.true c.checker-item.is in
    rw (← c.self.view_is) (for_each c.self.inside.plan.now.log.sectors checkers c.loop-number.number c.checker-item.result c.self.invariant.device there)

pub finding-told-requires-clause-stop : goal.finding-told-requires-clause-stop
finding-told-requires-clause-stop c = c.loop-number.invariant.3

pub finding-told-requires-clause-served : goal.finding-told-requires-clause-served
finding-told-requires-clause-served c =
    let checkers = c.self.inside.checkers.now in
    let there : slice_get checkers c.loop-number.number ≡ Some c.checker-item.result =
    slice_get_read checkers (length checkers) c.loop-number.number c.checker-item.result refl c.loop-number-test.true c.checker-item.is in
    subst (λ (b : Bool). IsServed b c.checker-item.result.guards) (sym c.loop-number.invariant.4) (c.requires.served.each c.loop-number.number c.checker-item.result (rw (← c.self.view_is) there))

pub judge_known-requires-clause-served : goal.judge_known-requires-clause-served
judge_known-requires-clause-served c =
    let checkers = c.self.inside.checkers.now in
    let there : slice_get checkers c.loop-number.number ≡ Some c.checker-item.result =
    slice_get_read checkers (length checkers) c.loop-number.number c.checker-item.result refl c.loop-number-test.true c.checker-item.is in
    subst (λ (b : Bool). IsServed b c.checker-item.result.guards) (sym (c.finding-told.ensures.memory ∙ c.loop-number.invariant.4))
    (c.requires.served.each c.loop-number.number c.checker-item.result (rw (← c.self.view_is) there))

pub judge_known-requires-clause-device : goal.judge_known-requires-clause-device
judge_known-requires-clause-device c =
    let checkers = c.self.inside.checkers.now in
    let there : slice_get checkers c.loop-number.number ≡ Some c.checker-item.result =
    slice_get_read checkers (length checkers) c.loop-number.number c.checker-item.result refl c.loop-number-test.true c.checker-item.is in
    rw (← c.self.view_is) (for_each c.self.inside.plan.now.log.sectors checkers c.loop-number.number c.checker-item.result c.self.invariant.device there)

pub loop-number-preserved : goal.loop-number-preserved
loop-number-preserved c =
    let (lines, known, place, stop, memory) = c.loop-number.invariant in (
      line_more c.args.self.now c.args.seen.now.image c.loop-number.number c.args.lines.now c.loop-number.lines _ lines c.in_ok-judge_known.ensures.lines,
      c.finding-told.ensures.known,
      c.finding-told.ensures.place ∙ place,
      c.finding-told.ensures.stop,
      c.judge_known.ensures.memory ∙ c.finding-told.ensures.memory ∙ memory,
    )

pub returns-clause-known : goal.returns-clause-known
returns-clause-known c = c.loop-number.invariant.1

pub returns-clause-lines : goal.returns-clause-lines
returns-clause-lines c =
    let last : c.loop-number.number ≡ length c.args.self.now.checkers = rw (← c.self.view_is) (omega (arith, c.loop-number-test.false, c.loop-number.auto.number-end)) in
    all_lines c.args.self.now c.args.seen.now.image c.loop-number.number c.args.lines.now _ last c.loop-number.invariant.0
