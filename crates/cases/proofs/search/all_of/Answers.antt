use Rattle.std.proofs.Common.{true, false, sym, ◌∙◌, ap}
use Rattle.cases.specs.Choices.{all_fates}
use Rattle.cases.proofs.Paths.{fates_all}
use Rattle.cases.proofs.search.all_of.Goals as goal

pub returns-then-tears : goal.returns-then-tears
returns-then-tears c = fates_all true ∙ ap all_fates (sym c.if-tears.true)

pub returns-else-tears : goal.returns-else-tears
returns-else-tears c = fates_all false ∙ ap all_fates (sym c.if-tears.false)
