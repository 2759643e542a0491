use Rattle.std.proofs.Common.{◌≡◌, true, false, sym, ◌∙◌}
use Rattle.known_text.proofs.Heads.{other_form}
use Rattle.known_text.proofs.head.word_said.Goals as goal

pub returns-else-branch : goal.returns-else-branch
returns-else-branch c =
    other_form c.args.kind c.args.bytes.now c.in-Some.begun.now c.in-Some-first_line.word.now c.in-Some-first_line.rest.now c.in-Some.ensures c.in-Some-first_line.ensures
    (λ form. absurd (let bad : true ≡ false = sym (c.in_ok-has_form.ensures.1 form) ∙ c.if-branch.false in cc))
