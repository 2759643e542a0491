use Rattle.std.proofs.Common.{◌≡◌, ◌∙◌, sym}
use Rattle.report.specs.ChoiceText.{names_text}
use Rattle.inspect.proofs.Printed.{none_read, names_read}
use Rattle.inspect.proofs.looks.which.choice_printed.Goals as goal

pub returns-in-Some : goal.returns-in-Some
returns-in-Some c =
    rw (← c.bound-bound.ensures.value, ← c.tears-tears.ensures)
    (names_read _ c.args.plan.now _ _ c.args.cut c.args.text.now c.in_ok-names.field-0 c.in-Some.names (λ x. x.items) _ c.choice_named.result (c.requires.by ∙ sym c.by.ensures)
    c.requires.log c.bound-bound.ensures.few c.in-Some.is c.as_slice.ensures.value c.in_ok-names.ensures.found c.in_ok-names.ensures.back c.choice_named.ensures)

pub returns-in-None : goal.returns-in-None
returns-in-None c =
    rw (← c.bound-bound.ensures.value, ← c.tears-tears.ensures)
    (none_read _ c.args.plan.now _ _ c.args.cut c.args.text.now c.in_ok-names.field-0 (λ x. c.args.text.now ≡ names_text c.by.result x.items) (c.requires.by ∙ sym c.by.ensures)
    c.requires.log c.bound-bound.ensures.few c.in-None.is c.in_ok-names.ensures.found)
