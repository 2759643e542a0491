-- Which images a run judges (docs/OUTPUT.md, The text of a part).
use Rattle.std.specs.Prelude.{ℕ, ◌-◌, ◌≡◌, ◌<◌, ◌≤◌, ◌^◌, Bool, true, false}
use Rattle.choices.specs.Choices.{limit}
use Rattle.report.specs.declared.span.Span.{Span}
use Rattle.request.specs.Extents.{first_meant, end_meant}
use Rattle.request.specs.declared.extent.Extent.{Extent}
use Rattle.request.specs.declared.extent.Extent.TheVariants as extent
use Rattle.request.specs.declared.settings.Telling.TheVariants as telling
use Rattle.runs.specs.declared.explore_command.WantedAnswer.{WantedAnswer}
use Rattle.runs.specs.declared.explore_command.WantedAnswer.TheVariants as wanted

-- a part is told of by the report alone
abbrev pub takes_part : WantedAnswer → Bool
takes_part (wanted.Told telling.Report) = true
takes_part (wanted.Told telling.Causes) = false
takes_part (wanted.Told telling.Page) = false
takes_part wanted.Cured = false
takes_part (wanted.CuredCases l) = false
takes_part (wanted.Cases l) = false

-- whether a run that is asked for this judges the images that are meant: no run judges all of a run that may have more than 16,777,216
abbrev pub takes : WantedAnswer → Extent → Bool
takes w extent.Whole = true
takes w extent.Wide = false
takes w (extent.Part from to) = takes_part w

-- the span of the images that are judged, of a run with that many
pub record IsJudged (e : Extent) (images : ℕ) (span : Span) : Type 0 where
  pub all : span.images ≡ images
  pub counted : images < 2 ^ 63
  pub first : span.from ≡ first_meant e
  pub end : span.to ≡ end_meant e images
  pub rising : span.from ≤ span.to
  pub within : span.to ≤ images
  pub few : span.to - span.from ≤ limit
