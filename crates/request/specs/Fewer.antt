-- With what a log that has too many crash images has fewer (docs/REFUSALS.md, Notes).
use Rattle.std.specs.Prelude.{ℕ, ◌≡◌, ◌+◌, ◌<◌, ◌≤◌, Bool, length, MatchOption, Option, None, Some}
use Rattle.logfmt.specs.Bounds.{LogValue}
use Rattle.epochs.specs.declared.cuts.CutKind.{CutKind}
use Rattle.epochs.specs.declared.cuts.CutKind.TheVariants as cuts
use Rattle.epochs.specs.Plan.{PlanValue}
use Rattle.choices.specs.Choices.{ranked_choices, IsFirstPastOf}
use Rattle.request.specs.declared.settings.Settings.{Settings}
use Rattle.request.specs.Extents.{most_images}
use Rattle.request.specs.Source.{Recording, plan_of, IsLogOf}
use Rattle.request.specs.declared.facts.fewer.Fewer.{Fewer}

-- how many images a plan has; none where they are more than the most
abbrev pub CountsImages : ℕ → PlanValue → ℕ → Bool → Option ℕ → Type 0
CountsImages most plan bound tears (Some n) = (n ≡ length (ranked_choices plan bound tears)) × (n ≤ most)
CountsImages most plan bound tears None = (cut : ℕ) × IsFirstPastOf most plan bound tears cut

-- the plan that is asked for, but with cuts of that kind
abbrev pub plan_with : CutKind → Settings → LogValue → PlanValue
plan_with kind s value = record {
  log = value;
  kind = record { kind = kind; from = s.cuts.from; to = s.cuts.to; flushes = s.cuts.flushes };
  by = s.by;
}

-- with each bound from one on, and below another, there are too many images
abbrev pub TooManyFrom : ℕ → PlanValue → Bool → ℕ → ℕ → Type 0
TooManyFrom most plan tears from below = (b : ℕ) → from ≤ b → b < below → CountsImages most plan b tears None

abbrev pub NoneIsSmaller : ℕ → PlanValue → Bool → ℕ → Type 0
NoneIsSmaller most plan tears bound = TooManyFrom most plan tears 0 bound

-- the greatest bound below one with which there are not too many, and how many there are
pub record IsGreatest (most : ℕ) (plan : PlanValue) (tears : Bool) (bound found images : ℕ) : Type 0 where
  pub smaller : found < bound
  pub counted : CountsImages most plan found tears (Some images)
  pub greatest : TooManyFrom most plan tears (found + 1) bound

pub record AreFewer (s : Settings) (value : LogValue) (f : Fewer) : Type 0 where
  pub flush : CountsImages (most_images s.extent) (plan_with cuts.BeforeFlush s value) s.bound s.tears f.flush
  pub mark : CountsImages (most_images s.extent) (plan_with cuts.AfterMark s value) s.bound s.tears f.mark
  pub smaller : MatchOption f.smaller (NoneIsSmaller (most_images s.extent) (plan_of s value) s.tears s.bound)
      (λ found. IsGreatest (most_images s.extent) (plan_of s value) s.tears s.bound found.bound found.images)

-- that is found of the log of a recording
pub record FindsFewer (text : Recording) (s : Settings) (f : Fewer) : Type 0 where
  pub value : LogValue
  pub reads : IsLogOf text s value
  pub fewer : AreFewer s value f
