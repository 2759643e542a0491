-- How what is known of the parts at risk is collected, part by part.
use Rattle.std.specs.Prelude.{ℕ, ◌+◌, ◌≡◌, Bool, if◌then◌else◌, List, [], ◌∷◌, ◌++◌, slice_index_or, Option, None, Some, string_bytes}
use Rattle.std.specs.Option.{option_or}
use Rattle.epochs.specs.declared.part.Part.{Part}
use Rattle.epochs.specs.declared.part.By.{By}
use Rattle.epochs.specs.Units.{epoch_at, marks_at}
use Rattle.choices.specs.declared.fate.Fate.{Fate}
use Rattle.cases.specs.Choices.{departs}
use Rattle.cases.specs.Sets.{fates_in}
use Rattle.cases.specs.AtCut.{CutValue}
use Rattle.case_text.specs.Window.{last_staying}
use Rattle.case_text.specs.declared.known.MixedFates.{MixedFates}
use Rattle.case_text.specs.declared.told.ToldFailing.{ToldFailing}
use Rattle.case_text.specs.Why.{ToldValue, is_alike}
use Rattle.case_text.specs.Known.{PartFates, KnownValue, is_kept, is_free, is_mixed, is_never_whole, is_never_gone}

-- what a part with a set says
abbrev pub mixed_value : MixedFates → PartFates
mixed_value m = record { part = m.part; fates = fates_in m.set }

-- what is known with one more part, of which these fates are possible
abbrev pub with_more : Bool → KnownValue → Part → List (Option Fate) → KnownValue
with_more tears known p fates = record {
  lost = known.lost ++ departs p (slice_index_or fates 0 None);
  kept = known.kept ++ (if is_kept fates then p ∷ [] else []);
  mixed = known.mixed ++ (if is_mixed tears fates then record { part = p; fates = fates } ∷ [] else []);
  free = known.free + (if is_free tears fates then 1 else 0);
  first_lost = option_or known.first_lost (if is_never_whole fates then Some p.entry else None);
  last_arrived = if is_never_gone fates then Some p.entry else known.last_arrived;
}

-- a cut, and whether its parts may be torn
pub record SiteValue : Type 0 where
  pub at : CutValue
  pub tears : Bool

-- what is the same in each line of a cut
pub record IsSite (s : SiteValue) (way : By) (epoch marks : ℕ) (staying : Option ℕ) : Type 0 where
  pub by_is : way ≡ s.at.way
  pub epoch_is : epoch ≡ epoch_at s.at.log.entries s.at.cut
  pub marks_is : marks ≡ marks_at s.at.log.entries s.at.cut
  pub staying_is : staying ≡ last_staying s.at

-- what is said of a failing case
abbrev pub told_value : ToldFailing → ToldValue
told_value t = record { number = t.number; window = t.window; cause = string_bytes t.cause; tail = string_bytes t.tail }

-- two failing cases have the same outcome and the same window
abbrev pub alike_told : ToldFailing → ToldFailing → Bool
alike_told one other = is_alike (told_value one) (told_value other)
