use Rattle.std.proofs.Common.{◌≡◌, ◌+◌, List, [], sym, subst, rules}
use Rattle.std.proofs.lemmas.Option.{slice_get-get_or}
use Rattle.case_page.specs.declared.case_program.CaseProgram.{CaseProgram}
use Rattle.case_page.specs.CasePage.{run_of}
use Rattle.case_page.specs.CaseFlushes.{AreLacking}
use Rattle.case_page.proofs.CaseFlushes.{lacking_none, lacking_more}
use Rattle.case_page.proofs.case_program.case_programs.Goals as goal

pub loop-program-init : goal.loop-program-init
loop-program-init c =
    let none : c.new-programs.result.items ≡ [] = search rules in
    lacking_none (run_of c.args.run.now) c.args.found.now c.args.heads.now c.new-programs.result.items none

pub case_program-requires-clause-head : goal.case_program-requires-clause-head
case_program-requires-clause-head c = slice_get-get_or c.args.heads.now c.loop-program.program _ c.loop-program-test.true

pub loop-program-preserved : goal.loop-program-preserved
loop-program-preserved c =
    subst (λ (ps : List CaseProgram). AreLacking (run_of c.args.run.now) c.args.found.now c.args.heads.now (c.loop-program.program + 1) ps) (sym c.in_ok-push_program.ensures)
    (lacking_more (run_of c.args.run.now) c.args.found.now c.args.heads.now c.loop-program.program c.loop-program.programs.items c.in_ok-own.own c.loop-program.invariant c.in_ok-own.ensures)
