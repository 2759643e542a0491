use Rattle.std.proofs.lemmas.Result.{err_from_is_err_and}
use Rattle.commands.specs.Acting.{for_words, for_settings}
use Rattle.request.proofs.Results.{both_ok, one_err}
use Rattle.commands.proofs.action.act_explore.Goals as goal

pub returns-in_err-options-clause-refused : goal.returns-in_err-options-clause-refused
returns-in_err-options-clause-refused g c =
    let p = err_from_is_err_and c.from_residual.result c.from_residual.ensures.1 in
    rw (p.1, p.2) (for_words c.in_err-options.field-0.0 c.in_err-options.ensures)

pub returns-clause-refused : goal.returns-clause-refused
returns-clause-refused g c =
    one_err c.explore_readable.result _ _ c.explore_readable.ensures.refused (λ r refused. for_settings c.in_ok-options.options r c.in_ok-options.ensures refused)

pub returns-clause-answers : goal.returns-clause-answers
returns-clause-answers g c =
    both_ok c.explore_readable.result _ _ _ c.explore_readable.ensures.answers c.explore_readable.ensures.answers
    (λ x is same. record { settings = c.in_ok-options.options; asked = c.in_ok-options.ensures; answers = is })

pub returns-clause-knows : goal.returns-clause-knows
returns-clause-knows g c =
    both_ok c.explore_readable.result _ _ _ c.explore_readable.ensures.knows c.explore_readable.ensures.knows
    (λ x is same. record { settings = c.in_ok-options.options; asked = c.in_ok-options.ensures; knows = is })
