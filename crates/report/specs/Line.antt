-- A failing line: an image on which a checker does not answer 0 (docs/OUTPUT.md, The report).
use Rattle.std.specs.Prelude.{ℕ, ◌==◌, List, [], ◌∷◌, filter}
use Rattle.machine.specs.Outcome.{Ending}
use Rattle.epochs.specs.declared.part.By.{By}
use Rattle.choices.specs.declared.choice.Departure.{Departure}

-- the number of the image, its cut, the number of the checker, what the checker ended in, what departs as
-- one, and the parts of the image that are not whole
pub record FailingLine : Type 0 where
  pub image : ℕ
  pub cut : ℕ
  pub program : ℕ
  pub ending : Ending
  pub by : By
  pub departures : List Departure

-- the lines of the first failing image, of lines by image
abbrev pub first_lines : List FailingLine → List FailingLine
first_lines [] = []
first_lines (l ∷ ls) = filter (λ (m : FailingLine). m.image == l.image) (l ∷ ls)
