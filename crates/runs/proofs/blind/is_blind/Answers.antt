use Rattle.std.proofs.Common.{ℕ, ◌<◌, ◌∙◌, true, sym, ap, subst, refl, length, arith}
use Rattle.logfmt.specs.Bounds.{LogValue}
use Rattle.epochs.specs.Cuts.{cuts_of}
use Rattle.epochs.specs.Plan.{PlanValue}
use Rattle.checker.specs.Checker.{IsFor}
use Rattle.runs.proofs.Contexts.{same_found}
use Rattle.runs.proofs.Unseeing.{known_of, same_bare, place_inside, blind_not, blind_next, blind_all}
use Rattle.runs.proofs.blind.is_blind.Goals.{then-not-has_last_context+in_ok-view+else-not-was_blind, else-not-has_last_context}
use Rattle.runs.proofs.blind.is_blind.Goals as goal

pub has_last_context-requires : goal.has_last_context-requires
has_last_context-requires c = omega (arith, c.loop-place-test.true, ap (length {A = ℕ}) c.cuts-cuts.ensures.value)

pub whole_view-requires-clause-same : goal.whole_view-requires-clause-same
whole_view-requires-clause-same c = c.requires.history ∙ sym c.requires.starts

pub whole_view-requires-clause-place : goal.whole_view-requires-clause-place
whole_view-requires-clause-place c =
    let inside : c.loop-place.place < length (cuts_of c.args.task.now.plan.now.kind c.args.task.now.plan.now.log.entries) =
    place_inside c.args.task.now.plan.now c.args.task.now.plan.now.log c.cuts-cuts.result.now c.loop-place.place refl c.cuts-cuts.ensures.value (omega (arith, c.loop-place-test.true)) in
    subst (λ (p : PlanValue). c.loop-place.place < length (cuts_of p.kind p.log.entries)) (sym c.requires.starts) inside

pub noted_on-run-requires-clause-device : goal.noted_on-run-requires-clause-device
noted_on-run-requires-clause-device c =
    let task = c.args.task.now in
    let of_log = ap (λ (p : PlanValue). p.log) task.plan_is in
    subst (λ (l : LogValue). IsFor l.sectors c.args.checker.now.verified) (sym (c.in_ok-view.ensures.log ∙ ap (λ (p : PlanValue). p.log) c.requires.starts ∙ of_log)) c.requires.device

pub noted_on-run-requires-clause-served : goal.noted_on-run-requires-clause-served
noted_on-run-requires-clause-served c = c.loop-place.invariant.2

pub was_blind-requires : goal.was_blind-requires
was_blind-requires c = record { known = same_bare _ _ _ (sym c.entries-entries.ensures.value) c.loop-place.invariant.1 }

pub returns-then-not-was_blind : goal.returns-then-not-was_blind
returns-then-not-was_blind c =
    let task = c.args.task.now in
    let of_log = ap (λ (p : PlanValue). p.log) task.plan_is in
    let inside = place_inside task.plan.now task.log.now c.cuts-cuts.result.now c.loop-place.place of_log c.cuts-cuts.ensures.value (omega (arith, c.loop-place-test.true)) in
    let known = known_of c.args.checker.now task.log.now c.args.starts.now.plan task.plan.now c.in_ok-view.view c.entries-entries.result.now c.loop-place.place _ _ c.was_blind.result
    c.requires.starts of_log c.entries-entries.ensures.value c.in_ok-view.ensures.whole c.noted_on-run.ensures.ends c.noted_on-run.ensures.looks c.was_blind.ensures.value in
    blind_not task.plan.now task.log.now c.args.checker.now c.loop-place.place c.was_blind.result of_log inside known c.if-not-was_blind.true

pub loop-place-preserved : goal.loop-place-preserved
loop-place-preserved c =
    let task = c.args.task.now in
    let of_log = ap (λ (p : PlanValue). p.log) task.plan_is in
    let inside = place_inside task.plan.now task.log.now c.cuts-cuts.result.now c.loop-place.place of_log c.cuts-cuts.ensures.value (omega (arith, c.loop-place-test.true)) in
    elim c.if-not-has_last_context.branch [
      | then-not-has_last_context+in_ok-view+else-not-was_blind w ↦
          let known = known_of c.args.checker.now task.log.now c.args.starts.now.plan task.plan.now w.in_ok-view.view c.entries-entries.result.now c.loop-place.place _ _ w.was_blind.result
          c.requires.starts of_log c.entries-entries.ensures.value w.in_ok-view.ensures.whole w.noted_on-run.ensures.ends w.noted_on-run.ensures.looks w.was_blind.ensures.value in
          rw (w.known-is, w.memory-is, w.noted_on-run.ensures.memory) (
            blind_next c.args.checker.now task.log.now (cuts_of task.plan.now.kind task.log.now.entries) c.loop-place.place w.was_blind.result inside known c.loop-place.invariant.0
                w.if-not-was_blind.false,
            same_bare _ _ _ c.entries-entries.ensures.value w.was_blind.ensures.known,
            c.loop-place.invariant.2,
          )
      | else-not-has_last_context w ↦
          let known = same_found c.args.checker.now task.log.now task.plan.now c.loop-place.place of_log c.entries-entries.ensures.bounds
          (c.has_last_context.ensures.some w.if-not-has_last_context.false) inside (c.has_last_context.ensures.same w.if-not-has_last_context.false) c.loop-place.invariant.0 in
          rw (w.known-is, w.memory-is) (
            blind_next c.args.checker.now task.log.now (cuts_of task.plan.now.kind task.log.now.entries) c.loop-place.place true inside known c.loop-place.invariant.0 refl,
            c.loop-place.invariant.1,
            c.loop-place.invariant.2,
          )
    ]

pub returns : goal.returns
returns c =
    let task = c.args.task.now in
    let of_log = ap (λ (p : PlanValue). p.log) task.plan_is in
    blind_all task.plan.now task.log.now c.args.checker.now c.loop-place.place c.cuts-cuts.result.now c.is_empty.result of_log c.cuts-cuts.ensures.value
    (omega (arith, c.loop-place-test.false)) c.loop-place.invariant.0 c.is_empty.ensures
