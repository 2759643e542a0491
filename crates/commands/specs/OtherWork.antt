-- Parts of a run that were made by other numbers of workers, and with caches of other sizes, come to the same (docs/COMMANDS.md,
-- Joining parts).
use Rattle.std.specs.Prelude.{Bool, ℕ, ◌≡◌, ◌≤◌, List, [], ◌∷◌, map, Some}
use Rattle.choices.specs.Choices.{limit}
use Rattle.request.specs.declared.command.OptionWords.{OptionWords}
use Rattle.request.specs.declared.command.Request.TheVariants as request
use Rattle.request.specs.declared.extent.Extent.TheVariants as extent
use Rattle.join.specs.Laws.{Range, CoverOnce}
use Rattle.commands.specs.Acting.{Files, Answers}
use Rattle.commands.specs.OneAnswer.{alone}
use Rattle.commands.specs.Parts.{asking, CountsImages}

-- `explore --images` prints this text for these images of a run, with words of its own for the number of workers and the size of the
-- cache, and with some status
pub record PrintsByOwn (w : OptionWords) (files : Files) (x : Range) (t : List ℕ) : Type 0 where
  pub own : OptionWords
  pub same : alone own ≡ alone (asking (extent.Part x.from x.to) w)
  pub status : ℕ
  pub answers : Answers (request.Explore own) files t status

abbrev pub PrintEachByOwn : OptionWords → Files → List Range → List (List ℕ) → Type 0
PrintEachByOwn w files [] [] = Unit {0}
PrintEachByOwn w files [] (t ∷ texts) = ⊥
PrintEachByOwn w files (x ∷ ranges) [] = ⊥
PrintEachByOwn w files (x ∷ ranges) (t ∷ texts) = PrintsByOwn w files x t × PrintEachByOwn w files ranges texts

-- these files hold what `explore --images` prints so for parts of a run, which together have each of its images once
pub record HoldPartsByOwn (w : OptionWords) (files parts : Files) (images : ℕ) : Type 0 where
  pub ranges : List Range
  pub texts : List (List ℕ)
  pub held : parts.named ≡ map Some texts
  pub prints : PrintEachByOwn w files ranges texts
  pub cover : CoverOnce ranges 0 images
  pub count : CountsImages w files images

-- of such files `join` prints what `explore` prints of the whole run with any number of workers and any cache, where the run may be
-- explored at once
abbrev pub JoinIsExploreByOwn : Type 0
JoinIsExploreByOwn = (part : Bool) (w : OptionWords) (files parts : Files) (images : ℕ) (bytes : List ℕ) (status : ℕ) → HoldPartsByOwn w files parts images → images ≤ limit
    → Answers (request.Join part) parts bytes status → Answers (request.Explore (asking extent.Whole w)) files bytes status
