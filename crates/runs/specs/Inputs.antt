-- Where the number of the inputs of a run is told (docs/OUTPUT.md, The text of a part).
use Rattle.std.specs.Prelude.{ℕ, if◌then◌else◌}
use Rattle.request.specs.declared.extent.Extent.{Extent}
use Rattle.request.specs.declared.extent.Extent.TheVariants as extent
use Rattle.request.specs.declared.settings.CaseTelling.{CaseTelling}
use Rattle.request.specs.declared.settings.CaseTelling.TheVariants as telling
use Rattle.epochs.specs.declared.cuts.Cuts.{Cuts}
use Rattle.case_text.specs.Text.{has_range}
use Rattle.runs.specs.declared.explore_command.WantedAnswer.{WantedAnswer}
use Rattle.runs.specs.declared.explore_command.WantedAnswer.TheVariants as wanted

-- the number that is told of images: none, 0, where no part is meant
abbrev pub part_number : Extent → ℕ → ℕ
part_number extent.Whole number = 0
part_number extent.Wide number = 0
part_number (extent.Part from to) number = number

-- the number that is told of cases: none, 0, where why they fail is told, or where no range of the cuts is meant
abbrev pub case_number : CaseTelling → Cuts → ℕ → ℕ
case_number telling.Cases cuts number = if has_range cuts then number else 0
case_number telling.Causes cuts number = 0
case_number telling.Page cuts number = 0

-- the number that is told of a run
abbrev pub number_told : WantedAnswer → Extent → Cuts → ℕ → ℕ
number_told (wanted.Told t) e cuts number = part_number e number
number_told wanted.Cured e cuts number = 0
number_told (wanted.CuredCases l) e cuts number = 0
number_told (wanted.Cases l) e cuts number = case_number l.telling cuts number
