use Rattle.std.proofs.Common.{List, ℕ, ◌+◌, sym, subst, take, ◌∙◌}
use Rattle.known_text.specs.Reading.{IsCut}
use Rattle.known_text.proofs.Texts.{line_found, no_line, take_rest}
use Rattle.known_text.proofs.words.first_line.Goals as goal

pub returns-in-Some : goal.returns-in-Some
returns-in-Some c =
    subst (λ (back : List ℕ). IsCut 10 c.args.bytes.now (take c.in-Some.place c.args.bytes.now) back) (sym (take_rest c.args.bytes.now (c.in-Some.place + 1)))
    (line_found c.args.bytes.now c.in-Some.place (sym c.newline_in.ensures.place ∙ c.in-Some.is))

pub returns-in-None : goal.returns-in-None
returns-in-None c = no_line c.args.bytes.now (sym c.newline_in.ensures.place ∙ c.in-None.is)
