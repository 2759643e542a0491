use Rattle.std.proofs.Common.{◌≡◌, ◌+◌, ◌-◌, List, slice_get, refl, length, ◌∙◌, ap, subst, arith}
use Rattle.std.proofs.lemmas.Option.{slice_get_read}
use Rattle.std.proofs.lemmas.Result.{err_from_is_err_and}
use Rattle.checker.specs.Checker.{CheckerValue}
use Rattle.case_runs.specs.declared.walk.Met.{Met}
use Rattle.case_runs.specs.Shares.{cut_in}
use Rattle.case_runs.specs.Walk.{MeetsOne}
use Rattle.case_runs.proofs.Finding.{found_more, counted_one, stops_here}
use Rattle.case_runs.proofs.Seeking.{none_more, ends_here}
use Rattle.case_runs.proofs.walk.met_at.Goals as goal

pub met_with-requires-clause-checker : goal.met_with-requires-clause-checker
met_with-requires-clause-checker g c =
    ap (λ (cs : List CheckerValue). slice_get cs c.loop-program.program) c.requires.checkers
    ∙ slice_get_read c.args.checkers.now (length c.args.checkers.now) c.loop-program.program c.index-checkers-program.result refl c.loop-program-test.true c.index-checkers-program.is

pub met_with-requires-clause-few : goal.met_with-requires-clause-few
met_with-requires-clause-few g c =
    let counted = c.loop-program.invariant.2 in
    let few = c.requires.few in
    omega (arith, counted, few)

pub returns-in_err-found-clause-many : goal.returns-in_err-found-clause-many
returns-in_err-found-clause-many g c =
    let p = err_from_is_err_and c.from_residual.result c.from_residual.ensures.1 in
    rw (p.1, p.2)
    (stops_here c.args.work.now.asked (cut_in c.args.work.now c.args.number) c.args.checkers.now c.loop-program.program _ _ c.loop-program.programs.items c.index-checkers-program.result _ c.loop-program.invariant.0
    (slice_get_read c.args.checkers.now (length c.args.checkers.now) c.loop-program.program c.index-checkers-program.result refl c.loop-program-test.true c.index-checkers-program.is)
    c.loop-program.invariant.2 c.in_err-found.ensures.many)

pub returns-in_err-found-clause-passing : goal.returns-in_err-found-clause-passing
returns-in_err-found-clause-passing g c = λ first.
    let p = err_from_is_err_and c.from_residual.result c.from_residual.ensures.1 in
    rw (p.1, p.2)
    (ends_here c.args.work.now.asked (cut_in c.args.work.now c.args.number) c.args.checkers.now c.loop-program.program _ _ c.loop-program.programs.items c.index-checkers-program.result _ c.loop-program.invariant.0
    (c.loop-program.invariant.1 first)
    (slice_get_read c.args.checkers.now (length c.args.checkers.now) c.loop-program.program c.index-checkers-program.result refl c.loop-program-test.true c.index-checkers-program.is)
    c.loop-program.invariant.2 (c.in_err-found.ensures.passing first))

pub returns-in-First-clause-met : goal.returns-in-First-clause-met
returns-in-First-clause-met g c =
    let own = subst (λ (m : Met). MeetsOne c.args.work.now.first c.args.work.now.asked (cut_in c.args.work.now c.args.number) c.index-checkers-program.result c.loop-program.left m) c.in-First.is c.in_ok-found.ensures.met in (
      own.0,
      refl,
      record {
        before = c.loop-program.programs.items;
        are = c.loop-program.invariant.0;
        none = c.loop-program.invariant.1 own.0;
        checker = c.index-checkers-program.result;
        own = slice_get_read c.args.checkers.now (length c.args.checkers.now) c.loop-program.program c.index-checkers-program.result refl c.loop-program-test.true c.index-checkers-program.is;
        rest = c.loop-program.left;
        counted = c.loop-program.invariant.2;
        fails = own.1;
        few = own.2;
      },
    )

pub loop-program-preserved : goal.loop-program-preserved
loop-program-preserved g c =
    let at = c.loop-program in
    let checker = c.index-checkers-program.result in
    let own = subst (λ (m : Met). MeetsOne c.args.work.now.first c.args.work.now.asked (cut_in c.args.work.now c.args.number) checker at.left m) c.in-All.is c.in_ok-found.ensures.met in
    let few = own.2 in
    let taken : at.left ≡ at.left - c.in-All.found.cases + c.in-All.found.cases = omega (arith, few) in
    let put = c.in_ok-push-in-All.ensures.items in (
      found_more c.args.work.now.asked (cut_in c.args.work.now c.args.number) c.args.checkers.now at.program at.programs.items c.push.new.self.items checker c.in-All.found at.invariant.0 put
          (slice_get_read c.args.checkers.now (length c.args.checkers.now) at.program checker refl c.loop-program-test.true c.index-checkers-program.is) own.0,
      (λ first. none_more at.programs.items c.push.new.self.items c.in-All.found (at.invariant.1 first) (own.1 first) put),
      counted_one _ _ _ at.programs.items c.push.new.self.items c.in-All.found at.invariant.2 taken put,
      c.met_with.ensures.begun,
    )
