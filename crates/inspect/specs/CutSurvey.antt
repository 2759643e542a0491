-- The survey of the cuts at which a run looks for cases, with any number of losses (docs/OUTPUT.md, The text of `images`).
use Rattle.std.specs.Prelude.{ℕ, ◌≡◌, true, false, List, ◌++◌, length, map, count_by, codes, Option, None, Some}
use Rattle.std.specs.Fmt.{decimal}
use Rattle.std.specs.List.{flat_map}
use Rattle.base.specs.declared.refusal.Refusal.{Refusal}
use Rattle.base.specs.Refusals.{memory_refusal}
use Rattle.logfmt.specs.Bounds.{LogValue}
use Rattle.epochs.specs.declared.part.Part.{Part}
use Rattle.epochs.specs.Plan.{PlanValue}
use Rattle.cases.specs.AtCut.{CutValue, parts_of}
use Rattle.crash_text.specs.AnyShown.{is_in_flight}
use Rattle.request.specs.declared.any_losses.AnyLosses.{AnyLosses}
use Rattle.request.specs.declared.settings.Settings.{Settings}
use Rattle.request.specs.declared.settings.OptionPlace.TheVariants as place
use Rattle.request.specs.Settings.{option_refusal}
use Rattle.request.specs.Source.{Recording, plan_of, IsLogOf, RefusesLog}
use Rattle.inspect.specs.declared.looks.risks.CutRisk.{CutRisk}
use Rattle.inspect.specs.AnyImage.{cut_of}
use Rattle.case_runs.specs.Cuts.{case_cuts, first_wanted, last_wanted}
use Rattle.inspect.specs.CutLayout.{is_cut_layout, cut_layout_text}
use Rattle.inspect.specs.Survey.{cut_text}

-- how many of some parts are in flight at a cut
abbrev pub count_in_flight : LogValue → ℕ → List Part → ℕ
count_in_flight value cut parts = count_by (λ (p : Part). is_in_flight value.entries cut p.entry) parts

-- a cut with how many parts are at risk there, and how many of these are in flight
abbrev pub risk_at : CutValue → CutRisk
risk_at at = record { cut = at.cut; at_risk = length (parts_of at); in_flight = count_in_flight at.log at.cut (parts_of at) }

-- each cut at which the run looks for cases
abbrev pub risks_of : AnyLosses → Settings → LogValue → List CutRisk
risks_of l s value = map (λ (cut : ℕ). risk_at (cut_of s value cut)) (case_cuts l.at_most s.cuts value.entries)

-- what a cut leaves open
unfoldable pub risk_text : CutRisk → List ℕ
risk_text r = codes " at risk " ++ decimal r.at_risk ++ codes " in flight " ++ decimal r.in_flight ++ codes "\n"

-- the line of a cut: where it stands, and what it leaves open
abbrev pub risk_line : PlanValue → CutRisk → List ℕ
risk_line plan r = cut_text plan r.cut ++ risk_text r

-- that nobody knows beforehand how many cases there are
abbrev pub unknown_text : List ℕ
unknown_text = codes "how many cases there are is not known before the run\n"

-- the end of the text: how the run is laid out in parts, where that is asked for
abbrev pub laid_text : Option ℕ → ℕ → ℕ → List CutRisk → List ℕ
laid_text None first last risks = unknown_text
laid_text (Some parts) first last risks = cut_layout_text first last risks parts

unfoldable pub cut_survey_text : PlanValue → List CutRisk → List ℕ
cut_survey_text plan risks = codes "crash cuts 1\n" ++ flat_map (risk_line plan) risks

-- the run can be laid out so
abbrev pub CanBeLaid : Option ℕ → Type 0
CanBeLaid None = Unit {0}
CanBeLaid (Some parts) = is_cut_layout parts ≡ true

pub record IsCutSurvey (parts : Option ℕ) (l : AnyLosses) (text : Recording) (s : Settings) (bytes : List ℕ) : Type 0 where
  pub value : LogValue
  pub reads : IsLogOf text s value
  pub can : CanBeLaid parts
  pub told : bytes ≡ cut_survey_text (plan_of s value) (risks_of l s value)
      ++ laid_text parts (first_wanted s.cuts (length value.entries)) (last_wanted s.cuts (length value.entries)) (risks_of l s value)

-- the refusals in their order: the log, then the number of the parts
pub data RefusesCutSurvey (parts : Option ℕ) (text : Recording) (s : Settings) : Refusal → Type 0 where
  for_cut_log : (r : Refusal) → RefusesLog text s r → RefusesCutSurvey parts text s r
  for_cut_parts : (value : LogValue) (count : ℕ) → IsLogOf text s value → parts ≡ Some count → is_cut_layout count ≡ false
      → RefusesCutSurvey parts text s (option_refusal place.Parts)
  for_cut_memory : (value : LogValue) → IsLogOf text s value → RefusesCutSurvey parts text s memory_refusal
