use Rattle.std.proofs.Common.{sym, subst}
use Rattle.std.proofs.lemmas.Result.{err_from_is_err_and}
use Rattle.request.proofs.Results.{both_ok, one_err}
use Rattle.request.specs.declared.any_losses.AnyLosses.{AnyLosses}
use Rattle.runs.specs.declared.explore_command.WantedAnswer.{WantedAnswer}
use Rattle.commands.specs.Acting.{held_by, wanted_by, AnswersFiles, for_words, for_settings, RefusesFiles, for_losses, for_cases_of}
use Rattle.commands.specs.Knowing.{KnowsFiles}
use Rattle.commands.proofs.action.act_cases.Goals as goal

pub returns-in_err-options-clause-refused : goal.returns-in_err-options-clause-refused
returns-in_err-options-clause-refused g c =
    let p = err_from_is_err_and c.from_residual.result c.from_residual.ensures.1 in
    rw (p.1, p.2) (for_words c.in_err-options.field-0.0 c.in_err-options.ensures)

pub returns-in_err-meant-clause-refused : goal.returns-in_err-meant-clause-refused
returns-in_err-meant-clause-refused g c =
    let p = err_from_is_err_and c.from_residual-in_err-meant.result c.from_residual-in_err-meant.ensures.1 in
    rw (p.1, p.2) (for_settings c.in_ok-options.options c.in_err-meant.field-0.0 c.in_ok-options.ensures (for_losses c.in_err-meant.field-0.0 c.in_err-meant.ensures))

pub returns-clause-refused : goal.returns-clause-refused
returns-clause-refused g c =
    one_err c.explore_readable.result _ _ c.explore_readable.ensures.refused
    (λ r refused.
    for_settings c.in_ok-options.options r c.in_ok-options.ensures
    (for_cases_of r c.in_ok-meant.ensures.1
    (subst (λ (l : AnyLosses). RefusesFiles (wanted_by c.args.cured l) (held_by c.args.files.now) c.in_ok-options.options r) (sym c.in_ok-meant.ensures.0)
    (subst (λ (w : WantedAnswer). RefusesFiles w (held_by c.args.files.now) c.in_ok-options.options r) c.wanted_by.ensures refused))))

pub returns-clause-answers : goal.returns-clause-answers
returns-clause-answers g c =
    both_ok c.explore_readable.result _ _ _ c.explore_readable.ensures.answers c.explore_readable.ensures.answers
    (λ x is same. record {
      settings = c.in_ok-options.options;
      asked = c.in_ok-options.ensures;
      good = c.in_ok-meant.ensures.1;
      answers = subst (λ (l : AnyLosses). AnswersFiles (wanted_by c.args.cured l) c.in_ok-options.options (held_by c.args.files.now) x.bytes.items x.status) (sym c.in_ok-meant.ensures.0)
          (subst (λ (w : WantedAnswer). AnswersFiles w c.in_ok-options.options (held_by c.args.files.now) x.bytes.items x.status) c.wanted_by.ensures is);
    })

pub returns-clause-knows : goal.returns-clause-knows
returns-clause-knows g c =
    both_ok c.explore_readable.result _ _ _ c.explore_readable.ensures.knows c.explore_readable.ensures.knows
    (λ x is same. record {
      settings = c.in_ok-options.options;
      asked = c.in_ok-options.ensures;
      knows = subst (λ (l : AnyLosses). KnowsFiles (wanted_by c.args.cured l) c.in_ok-options.options (held_by c.args.files.now) x.status x.facts) (sym c.in_ok-meant.ensures.0)
          (subst (λ (w : WantedAnswer). KnowsFiles w c.in_ok-options.options (held_by c.args.files.now) x.status x.facts) c.wanted_by.ensures is);
    })
