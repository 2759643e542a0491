use Rattle.std.proofs.Common.{get_or, subst, true, false, ◌≡◌, sym, ◌∙◌}
use Rattle.std.proofs.lemmas.Option.{slice_get-get_or}
use Rattle.std.proofs.lemmas.Result.{err_from_is_err_and}
use Rattle.case_runs.specs.declared.walk.MetAt.{MetAt}
use Rattle.case_runs.specs.Shares.{cut_in}
use Rattle.case_runs.specs.Walk.{MeetsAt, TakesAt}
use Rattle.case_runs.proofs.Finding.{in_more, in_all, counted_cut, stops_there}
use Rattle.case_runs.proofs.Seeking.{none_at_all, ends_there, first_there}
use Rattle.case_runs.proofs.walk.walk.Goals as goal

pub returns-in_err-found-clause-refused : goal.returns-in_err-found-clause-refused
returns-in_err-found-clause-refused g c =
    let p = err_from_is_err_and c.from_residual-in_err-found.result c.from_residual-in_err-found.ensures.1 in
    rw (p.1, p.2)
    (stops_there c.args.work.now.asked c.args.work.now.log.now c.args.work.now.way c.args.cuts.now c.args.work.now.checkers.now c.loop-number.number-index _ _ c.loop-number.out.items _ c.loop-number.invariant.0
    (slice_get-get_or c.args.cuts.now c.loop-number.number-index 0 c.loop-number-test.true) c.loop-number.invariant.2 c.in_err-found.ensures.many)

pub returns-in_err-found-clause-passing : goal.returns-in_err-found-clause-passing
returns-in_err-found-clause-passing g c = λ first.
    let p = err_from_is_err_and c.from_residual-in_err-found.result c.from_residual-in_err-found.ensures.1 in
    rw (p.1, p.2)
    (ends_there c.args.work.now.asked c.args.work.now.log.now c.args.work.now.way c.args.cuts.now c.args.work.now.checkers.now c.loop-number.number-index _ _ c.loop-number.out.items _ c.loop-number.invariant.0
    (c.loop-number.invariant.1 first) (slice_get-get_or c.args.cuts.now c.loop-number.number-index 0 c.loop-number-test.true) c.loop-number.invariant.2 (c.in_err-found.ensures.passing first))

pub returns-in-First-clause-first : goal.returns-in-First-clause-first
returns-in-First-clause-first g c = λ first.
    let k = get_or c.args.cuts.now c.loop-number.number-index 0 in
    let own = subst (λ (m : MetAt). MeetsAt c.args.work.now.first c.args.work.now.asked (cut_in c.args.work.now k) c.args.work.now.checkers.now c.loop-number.left m) c.in-First.is c.in_ok-found.ensures.met in
    first_there c.args.work.now.asked c.args.work.now.log.now c.args.work.now.way c.args.cuts.now c.args.work.now.checkers.now c.loop-number.number-index k c.loop-number.left c.loop-number.out.items c.in-First.first
    c.loop-number.invariant.0 (c.loop-number.invariant.1 first) (slice_get-get_or c.args.cuts.now c.loop-number.number-index 0 c.loop-number-test.true) c.loop-number.invariant.2 own.1 own.2

pub returns-in-First-clause-found : goal.returns-in-First-clause-found
returns-in-First-clause-found g c = λ all.
    let k = get_or c.args.cuts.now c.loop-number.number-index 0 in
    let own = subst (λ (m : MetAt). MeetsAt c.args.work.now.first c.args.work.now.asked (cut_in c.args.work.now k) c.args.work.now.checkers.now c.loop-number.left m) c.in-First.is c.in_ok-found.ensures.met in
    absurd (let bad : true ≡ false = sym own.0 ∙ all in cc)

pub returns-in-First-clause-few : goal.returns-in-First-clause-few
returns-in-First-clause-few g c = λ all.
    let k = get_or c.args.cuts.now c.loop-number.number-index 0 in
    let own = subst (λ (m : MetAt). MeetsAt c.args.work.now.first c.args.work.now.asked (cut_in c.args.work.now k) c.args.work.now.checkers.now c.loop-number.left m) c.in-First.is c.in_ok-found.ensures.met in
    absurd (let bad : true ≡ false = sym own.0 ∙ all in cc)

pub loop-number-preserved : goal.loop-number-preserved
loop-number-preserved g c =
    let at = c.loop-number in
    let k = get_or c.args.cuts.now at.number-index 0 in
    let own = subst (λ (m : MetAt). MeetsAt c.args.work.now.first c.args.work.now.asked (cut_in c.args.work.now k) c.args.work.now.checkers.now at.left m) c.in-All.is c.in_ok-found.ensures.met in
    let taken = subst (λ (m : MetAt). TakesAt at.left c.met_at.new.left m) c.in-All.is c.in_ok-found.ensures.taken in
    let put = c.in_ok-push-in-All.ensures.items in (
      in_more c.args.work.now.asked c.args.work.now.log.now c.args.work.now.way c.args.cuts.now c.args.work.now.checkers.now at.number-index at.out.items c.push.new.self.items k c.in-All.found at.invariant.0 put
          (slice_get-get_or c.args.cuts.now at.number-index 0 c.loop-number-test.true) own.0 own.1,
      (λ first. none_at_all at.out.items c.push.new.self.items c.in-All.found (at.invariant.1 first) (own.2 first) put),
      counted_cut _ _ _ at.out.items c.push.new.self.items c.in-All.found at.invariant.2 taken put,
      c.met_at.ensures.begun,
    )
