use Rattle.std.proofs.Common.{◌≡◌, ◌<◌, refl, sym, ◌∙◌, true, false, inl, inr, Some, None, length, is_some, arith}
use Rattle.bpf_shape.specs.Calls.{callee}
use Rattle.bpf_shape.proofs.Searching.{read_mark}
use Rattle.bpf_shape.proofs.Chained.{entering_fits, no_call_breaks, deep_breaks, recursion_breaks, breaks_is}
use Rattle.bpf_shape.proofs.depth.is_refused.Goals as goal

pub reached_from-requires-clause-edges : goal.reached_from-requires-clause-edges
reached_from-requires-clause-edges c = entering_fits c.args.program.now c.requires.edges c.requires.entries

pub returns-in-None : goal.returns-in-None
returns-in-None c =
    let none : callee c.args.program.now c.args.slot ≡ None = sym c.callee.ensures ∙ c.in-None.is in (
      λ bad. absurd (let worse : false ≡ true = bad in cc),
      λ broken. absurd (no_call_breaks c.args.program.now c.args.slot none broken),
    )

pub returns-then-index : goal.returns-then-index
returns-then-index c =
    let long = c.requires.deep.long in
    let inside = c.requires.slot in
    let within : c.args.slot < length c.args.deep.now.items = omega (arith, long, inside) in
    let enters : callee c.args.program.now c.args.slot ≡ Some c.in-Some.entry = sym c.callee.ensures ∙ c.in-Some.is in
    let calls : is_some (callee c.args.program.now c.args.slot) ≡ true = rw enters refl in
    let marked = read_mark c.args.deep.now.items c.args.slot c.index.result.now within c.index.ensures ∙ c.if-index.true in
    (λ _. deep_breaks c.args.program.now c.args.slot (c.requires.deep.sound c.args.slot marked calls), λ _. refl)

pub returns-in_ok-marks-in-Some : goal.returns-in_ok-marks-in-Some
returns-in_ok-marks-in-Some c =
    let program = c.args.program.now in
    let long = c.requires.deep.long in
    let long_too = c.in_ok-marks-in-Some.ensures.long in
    let inside = c.requires.slot in
    let within : c.args.slot < length c.args.deep.now.items = omega (arith, long, inside) in
    let within_too : c.args.slot < length c.in_ok-marks-in-Some.marks.items = omega (arith, long_too, inside) in
    let unmarked = read_mark c.args.deep.now.items c.args.slot c.index.result.now within c.index.ensures ∙ c.if-index.false in
    let read = read_mark c.in_ok-marks-in-Some.marks.items c.args.slot c.index-in-Some.result.now within_too c.index-in-Some.ensures in
    let enters : callee program c.args.slot ≡ Some c.in-Some.entry = sym c.callee.ensures ∙ c.in-Some.is in (
      λ is. recursion_breaks program c.args.slot c.in-Some.entry enters (c.in_ok-marks-in-Some.ensures.sound c.args.slot (read ∙ is)),
      λ broken. elim (breaks_is program c.args.slot c.in-Some.entry enters broken) [
        | inl way ↦ sym read ∙ c.in_ok-marks-in-Some.ensures.complete c.args.slot way
        | inr fourth ↦ absurd (let bad : false ≡ true = sym unmarked ∙ c.requires.deep.complete c.args.slot fourth in cc)
      ],
    )
