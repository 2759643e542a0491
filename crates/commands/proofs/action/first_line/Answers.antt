use Rattle.std.proofs.Common.{ℕ, Option, ◌∙◌, ◌+◌, ap, sym, take}
use Rattle.std.specs.Option.{option_map_or}
use Rattle.commands.proofs.action.first_line.Goals as goal

pub returns-in-Some : goal.returns-in-Some
returns-in-Some c =
    ap (λ (place : Option ℕ). option_map_or (λ (p : ℕ). take (p + 1) c.args.text.now) place c.args.text.now) (sym c.in-Some.is ∙ c.newline_in.ensures)

pub returns-in-None : goal.returns-in-None
returns-in-None c =
    ap (λ (place : Option ℕ). option_map_or (λ (p : ℕ). take (p + 1) c.args.text.now) place c.args.text.now) (sym c.in-None.is ∙ c.newline_in.ensures)
