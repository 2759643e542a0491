-- Plans by the options, and their images.
use Rattle.std.proofs.Common.{ℕ, ◌≡◌, ◌≤◌, ◌∙◌, Bool, false, length, ap, subst, arith}
use Rattle.logfmt.specs.Bounds.{LogValue}
use Rattle.epochs.specs.declared.cuts.Cuts.{Cuts}
use Rattle.epochs.specs.Plan.{PlanValue}
use Rattle.epochs.specs.declared.part.By.{By}
use Rattle.choices.specs.Choices.{ranked_choices, IsFirstPastOf}
use Rattle.request.specs.declared.extent.Extent.{Extent}
use Rattle.request.specs.declared.settings.OptionPlace.TheVariants as place
use Rattle.request.specs.declared.settings.Settings.{Settings}
use Rattle.request.specs.Settings.{option_refusal}
use Rattle.request.specs.Extents.{most_images, has_extent}
use Rattle.request.specs.Source.{plan_of, images_of, lacks_images, RefusesPlan}

-- a plan is its log and its kind of cuts
pub same_plan : (plan : PlanValue) (log : LogValue) (kind : Cuts) (way : By) → plan.log ≡ log → plan.kind ≡ kind → plan.by ≡ way
    → plan ≡ record { log = log; kind = kind; by = way }
same_plan plan log kind way e f g = λ i. record { log = e i; kind = f i; by = g i }

pub past_of : (most limit : ℕ) (plan wanted : PlanValue) (bound b : ℕ) (tears t : Bool) (cut : ℕ) → most ≡ limit → plan ≡ wanted → b ≡ bound → t ≡ tears
    → IsFirstPastOf most plan b t cut → IsFirstPastOf limit wanted bound tears cut
past_of most limit plan wanted bound b tears t cut d e f g h = rw (← d, ← e, ← f, ← g) h

pub counted_of : (plan wanted : PlanValue) (bound b : ℕ) (tears t : Bool) (images : ℕ) → plan ≡ wanted → b ≡ bound → t ≡ tears
    → images ≡ length (ranked_choices wanted bound tears) → images ≡ length (ranked_choices plan b t)
counted_of plan wanted bound b tears t images e f g h = rw (e, f, g) h

-- a plan that lacks images that are meant
pub images_lacking : (s : Settings) (log : LogValue) (plan : PlanValue) (bound : ℕ) (tears : Bool) (extent : Extent) (images most : ℕ) → plan ≡ plan_of s log → bound ≡ s.bound
    → tears ≡ s.tears → extent ≡ s.extent → most ≡ most_images extent → images ≡ length (ranked_choices plan bound tears) → images ≤ most → has_extent extent images ≡ false
    → RefusesPlan s log (option_refusal place.Images)
images_lacking s log plan bound tears extent images most p b t e m count few lack =
    let own : images ≡ length (images_of s log) = count ∙ (λ i. length (ranked_choices (p i) (b i) (t i))) in
    let allowed : most_images extent ≡ most_images s.extent = ap most_images e in
    let small : images ≤ most_images s.extent = omega (arith, few, m, allowed) in
    lacks_images (subst (λ (n : ℕ). n ≤ most_images s.extent) own small)
    (subst (λ (n : ℕ). has_extent s.extent n ≡ false) own (subst (λ (x : Extent). has_extent x images ≡ false) e lack))
