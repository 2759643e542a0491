-- How a survey is refused.
use Rattle.std.proofs.Common.{ℕ, ◌≡◌, Bool, true, false, length, Option, Some, None, MatchOption, refl, sym, ap, ◌∙◌}
use Rattle.logfmt.specs.Bounds.{LogValue}
use Rattle.request.specs.declared.settings.OptionPlace.TheVariants as place
use Rattle.request.specs.declared.settings.Settings.{Settings}
use Rattle.request.specs.Settings.{option_refusal}
use Rattle.request.specs.Source.{Recording, images_of, HasImages}
use Rattle.inspect.specs.Layout.{is_layout}
use Rattle.inspect.specs.Survey.{RefusesSurvey, for_parts}

-- a run can't be laid out in that many parts
pub parts_refused : (parts : Option ℕ) (text : Recording) (s : Settings) (value : LogValue) (images : ℕ) (can : Bool) → HasImages text s value → images ≡ length (images_of s value)
    → MatchOption parts (can ≡ true) (λ count. can ≡ is_layout images count) → can ≡ false → RefusesSurvey parts text s (option_refusal place.Parts)
parts_refused None text s value images can has same says cannot = absurd (let bad : true ≡ false = sym says ∙ cannot in cc)
parts_refused (Some count) text s value images can has same says cannot =
    for_parts value count has refl (ap (λ (n : ℕ). is_layout n count) (sym same) ∙ sym says ∙ cannot)
