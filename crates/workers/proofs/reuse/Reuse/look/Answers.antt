use Rattle.std.proofs.Common.{◌≡◌, ◌∙◌, Bool, length, Some, slice_get, refl, sym, ap, subst, arith}
use Rattle.std.proofs.lemmas.Option.{slice_get_read}
use Rattle.checker.specs.Memory.{IsServed}
use Rattle.checker.proofs.Suiting.{for_each}
use Rattle.workers.specs.Failing.{Subject}
use Rattle.workers.proofs.Skipping.{reaches_less, good_more}
use Rattle.workers.proofs.reuse.Reuse.look.Goals as goal

pub look_by-requires-clause-known : goal.look_by-requires-clause-known
look_by-requires-clause-known c = c.loop-number.invariant.0

pub look_by-requires-clause-place : goal.look_by-requires-clause-place
look_by-requires-clause-place c = c.loop-number.invariant.1 ∙ c.requires.place

pub look_by-requires-clause-some : goal.look_by-requires-clause-some
look_by-requires-clause-some c = c.loop-number.invariant.2

pub look_by-requires-clause-reach : goal.look_by-requires-clause-reach
look_by-requires-clause-reach c = c.loop-number.invariant.4

pub look_by-requires-clause-within : goal.look_by-requires-clause-within
look_by-requires-clause-within c = rw (← c.input.view_is) c.loop-number-test.true

pub look_by-requires-clause-checker : goal.look_by-requires-clause-checker
look_by-requires-clause-checker c =
    let checkers = c.input.inside.checkers.now in
    let there : slice_get checkers c.loop-number.number ≡ Some c.checker-item.result =
    slice_get_read checkers (length checkers) c.loop-number.number c.checker-item.result refl c.loop-number-test.true c.checker-item.is in
    rw (← c.input.view_is) there

pub look_by-requires-clause-device : goal.look_by-requires-clause-device
look_by-requires-clause-device c =
    let checkers = c.input.inside.checkers.now in
    let there : slice_get checkers c.loop-number.number ≡ Some c.checker-item.result =
    slice_get_read checkers (length checkers) c.loop-number.number c.checker-item.result refl c.loop-number-test.true c.checker-item.is in
    rw (← c.input.view_is) (for_each c.input.inside.plan.now.log.sectors checkers c.loop-number.number c.checker-item.result c.input.invariant.device there)

pub look_by-requires-clause-served : goal.look_by-requires-clause-served
look_by-requires-clause-served c =
    let checkers = c.input.inside.checkers.now in
    let there : slice_get checkers c.loop-number.number ≡ Some c.checker-item.result =
    slice_get_read checkers (length checkers) c.loop-number.number c.checker-item.result refl c.loop-number-test.true c.checker-item.is in
    subst (λ (b : Bool). IsServed b c.checker-item.result.guards) (sym c.loop-number.invariant.6) (c.requires.served.each c.loop-number.number c.checker-item.result (rw (← c.input.view_is) there))

pub loop-number-init : goal.loop-number-init
loop-number-init c = (c.requires.known, refl, c.reach-good.ensures.some, c.reach-good.ensures.most, c.reach-good.ensures.reach, λ i lt. absurd (omega (arith, lt)), refl)

pub loop-number-preserved : goal.loop-number-preserved
loop-number-preserved c =
    let (known, place, some, most, reach, good, memory) = c.loop-number.invariant in
    let (ge, le, own) = c.in-Good.ensures.told in (
      c.look_by.ensures.known,
      c.look_by.ensures.place ∙ place,
      ge,
      omega (arith, le, most),
      reaches_less c.args.input.now c.args.picked.now c.loop-number.good c.in-Good.count reach le,
      λ i lt. good_more c.args.input.now c.args.picked.now c.loop-number.good c.in-Good.count c.loop-number.number i good le own lt,
      c.look_by.ensures.memory ∙ memory,
    )

pub returns-clause-told : goal.returns-clause-told
returns-clause-told c =
    let (known, place, some, most, reach, good, memory) = c.loop-number.invariant in
    let size : length c.input.inside.checkers.now ≡ length c.args.input.now.checkers = ap (λ (s : Subject). length s.checkers) c.input.view_is in
    (some, most, reach, λ i lt. good i (omega (arith, lt, size, c.loop-number-test.false)))
