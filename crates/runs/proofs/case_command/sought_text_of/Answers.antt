use Rattle.std.proofs.Common.{List, subst, sym}
use Rattle.losses.specs.declared.found.CutFound.{CutFound}
use Rattle.case_runs.specs.declared.first.Sought.{Sought}
use Rattle.case_runs.specs.First.{IsSought, NoneFails}
use Rattle.request.proofs.Results.{both_ok}
use Rattle.runs.specs.CaseCuts.{losses_of}
use Rattle.runs.proofs.Casing.{tells_none}
use Rattle.runs.proofs.case_command.sought_text_of.Goals as goal

pub text_of-requires-clause-found : goal.text_of-requires-clause-found
text_of-requires-clause-found c =
    rw c.as_slice.ensures.value
    (subst (λ (x : Sought). IsSought (losses_of c.args.losses c.args.task.now.options.now) c.args.task.now.log.now c.args.task.now.options.now.by c.args.cuts.now c.args.task.now.checkers.now x)
    c.in-Passing.is c.requires.found).are

pub text_of-requires-clause-few : goal.text_of-requires-clause-few
text_of-requires-clause-few c =
    rw c.as_slice.ensures.value
    (subst (λ (x : Sought). IsSought (losses_of c.args.losses c.args.task.now.options.now) c.args.task.now.log.now c.args.task.now.options.now.by c.args.cuts.now c.args.task.now.checkers.now x)
    c.in-Passing.is c.requires.found).few

pub returns-in-Passing-clause-told : goal.returns-in-Passing-clause-told
returns-in-Passing-clause-told c =
    let none = (subst (λ (x : Sought). IsSought (losses_of c.args.losses c.args.task.now.options.now) c.args.task.now.log.now c.args.task.now.options.now.by c.args.cuts.now c.args.task.now.checkers.now x)
    c.in-Passing.is c.requires.found).none in
    both_ok c.text_of.result _ _ _ c.text_of.ensures.failing c.text_of.ensures.told
    (λ t failing told.
    tells_none c.args.task.now.span.inputs c.args.losses c.args.task.now.options.now c.args.task.now.log.now c.args.task.now.checkers.now _ _ c.as_slice.result.now
    (subst (λ (fs : List CutFound). NoneFails fs) (sym c.as_slice.ensures.value) none) failing told)

pub first_text_of-requires-clause-first : goal.first_text_of-requires-clause-first
first_text_of-requires-clause-first c =
    subst (λ (x : Sought). IsSought (losses_of c.args.losses c.args.task.now.options.now) c.args.task.now.log.now c.args.task.now.options.now.by c.args.cuts.now c.args.task.now.checkers.now x)
    c.in-Failing.is c.requires.found
