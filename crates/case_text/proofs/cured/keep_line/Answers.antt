use Rattle.std.proofs.Common.{◌∙◌, ap, sym, Some, string_bytes}
use Rattle.case_text.proofs.Curing.{some_stays, none_keeps}
use Rattle.case_text.proofs.cured.keep_line.Goals as goal

pub returns-then-is_some : goal.returns-then-is_some
returns-then-is_some c = some_stays string_bytes c.args.uncured.now _ (sym c.is_some.ensures ∙ c.if-is_some.true)

pub returns : goal.returns
returns c = ap Some c.in_ok-line.ensures ∙ none_keeps string_bytes c.args.uncured.now _ (sym c.is_some.ensures ∙ c.if-is_some.false)
