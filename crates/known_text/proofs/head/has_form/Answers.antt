use Rattle.std.proofs.Common.{◌↔◌, IfOk, IsTrue, sym, subst}
use Rattle.known_text.specs.declared.head.HeadLine.{HeadLine}
use Rattle.known_text.specs.Texts.{HasForm}
use Rattle.known_text.proofs.head.has_form.Goals as goal

pub returns-in-Inputs : goal.returns-in-Inputs
returns-in-Inputs c = subst (λ (k : HeadLine). IfOk c.is_decimal.result (λ is. IsTrue is ↔ HasForm k c.args.word.now)) (sym c.in-Inputs.is) c.is_decimal.ensures
