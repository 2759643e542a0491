-- Which images of a run are judged.
use Rattle.std.proofs.Common.{◌∙◌, ℕ, ◌≡◌, ◌-◌, ◌<◌, ◌≤◌, ◌^◌, ◌==◌, ◌&&◌, ◌||◌, nat_le, nat_lt, Bool, true, false, length, refl, sym, subst, arith}
use Rattle.std.proofs.lemmas.Bool.{and_parts, false≢true}
use Rattle.std.proofs.lemmas.Bool.Decides.{nat_tests, eqb_tells, leb_tells}
use Rattle.epochs.specs.Plan.{PlanValue}
use Rattle.choices.specs.Choices.{limit, wide_limit, ranked_choices}
use Rattle.logfmt.specs.Bounds.{LogValue}
use Rattle.report.specs.declared.span.Span.{Span}
use Rattle.request.specs.declared.extent.Extent.{Extent}
use Rattle.request.specs.declared.extent.Extent.TheVariants as extent
use Rattle.request.specs.declared.settings.Settings.{Settings}
use Rattle.request.specs.Extents.{first_meant, end_meant, is_extent, has_extent, most_images}
use Rattle.request.specs.Source.{plan_of, images_of}
use Rattle.request.proofs.Plans.{counted_of}
use Rattle.runs.specs.declared.explore_command.WantedAnswer.{WantedAnswer}
use Rattle.runs.specs.Judged.{takes_part, takes, IsJudged}

pub ordered : (from to : ℕ) → (nat_lt from to || (from == 0 && to == 0)) ≡ true → from ≤ to
ordered from to h = by_test (nat_lt from to) refl h
  where
    by_test : (b : Bool) → nat_lt from to ≡ b → (b || (from == 0 && to == 0)) ≡ true → from ≤ to
    by_test true low k = let below : from < to = grind (arith, nat_tests, low) in omega (arith, below)
    by_test false low k =
        let first : from ≡ 0 = grind (arith, eqb_tells, (and_parts (from == 0) (to == 0) k).0) in
        omega (arith, first)

-- the images of a part
pub part_judged : (from to images inputs : ℕ) → is_extent (extent.Part from to) ≡ true → images ≤ wide_limit → has_extent (extent.Part from to) images ≡ true
    → IsJudged (extent.Part from to) images (record { from = from; to = to; images = images; inputs = inputs })
part_judged from to images inputs good few has =
    let asked = and_parts (nat_lt from to || (from == 0 && to == 0)) (nat_le (to - from) limit) good in
    let there = and_parts (nat_le to images) (nat_lt from to || images == 0) has in
    let short : to - from ≤ limit = grind (arith, nat_tests, asked.1) in
    let within : to ≤ images = grind (arith, nat_tests, there.0) in
    record {
      all = refl;
      counted = omega (arith, few);
      first = refl;
      end = refl;
      rising = ordered from to asked.0;
      within = within;
      few = short;
    }

-- all images
pub whole_judged : (images inputs : ℕ) → images ≤ limit → IsJudged extent.Whole images (record { from = 0; to = images; images = images; inputs = inputs })
whole_judged images inputs few = record {
  all = refl;
  counted = omega (arith, few);
  first = refl;
  end = refl;
  rising = omega arith;
  within = omega arith;
  few = omega (arith, few);
}

-- the span of the images that are meant
pub span_judged : (w : WantedAnswer) (e : Extent) (images inputs : ℕ) → takes w e ≡ true → is_extent e ≡ true → images ≤ most_images e → has_extent e images ≡ true
    → IsJudged e images (record { from = first_meant e; to = end_meant e images; images = images; inputs = inputs })
span_judged w extent.Whole images inputs taken good few has = whole_judged images inputs few
span_judged w extent.Wide images inputs taken good few has = absurd (false≢true taken)
span_judged w (extent.Part from to) images inputs taken good few has = part_judged from to images inputs good few has

pub judged_whole : (e : Extent) (count images inputs : ℕ) → e ≡ extent.Whole → images ≡ count → images ≤ most_images e
    → IsJudged e count (record { from = 0; to = images; images = images; inputs = inputs })
judged_whole e count images inputs whole same few =
    let short : images ≤ limit = subst (λ (x : Extent). images ≤ most_images x) whole few in
    subst (λ (x : Extent). IsJudged x count (record { from = 0; to = images; images = images; inputs = inputs })) (sym whole)
    (subst (λ (n : ℕ). IsJudged extent.Whole n (record { from = 0; to = images; images = images; inputs = inputs })) same (whole_judged images inputs short))

-- an image that is judged is one of the plan's
pub judged_within : (plan wanted : PlanValue) (bound b : ℕ) (tears t : Bool) (e : Extent) (span : Span) → plan ≡ wanted → b ≡ bound → t ≡ tears
    → IsJudged e (length (ranked_choices wanted bound tears)) span → span.to ≤ length (ranked_choices plan b t)
judged_within plan wanted bound b tears t e span same few torn judged =
    let count : length (ranked_choices wanted bound tears) ≡ length (ranked_choices plan b t) =
    counted_of plan wanted bound b tears t (length (ranked_choices wanted bound tears)) same few torn refl in
    let within = judged.within in
    omega (arith, count, within)

pub judged_counted : (plan wanted : PlanValue) (bound b : ℕ) (tears t : Bool) (e : Extent) (span : Span) → plan ≡ wanted → b ≡ bound → t ≡ tears
    → IsJudged e (length (ranked_choices wanted bound tears)) span → length (ranked_choices plan b t) < 2 ^ 63
judged_counted plan wanted bound b tears t e span same few torn judged =
    let count : length (ranked_choices wanted bound tears) ≡ length (ranked_choices plan b t) =
    counted_of plan wanted bound b tears t (length (ranked_choices wanted bound tears)) same few torn refl in
    let counted = judged.counted in
    omega (arith, count, counted)

-- where all images are judged, they are no more than a run judges
pub few_judged : (e : Extent) (images : ℕ) (span : Span) → e ≡ extent.Whole → IsJudged e images span → images ≤ limit
few_judged e images span whole judged =
    let own : IsJudged extent.Whole images span = subst (λ (x : Extent). IsJudged x images span) whole judged in
    let first = own.first in
    let end = own.end in
    let few = own.few in
    omega (arith, first, end, few)

-- the span of a run that is asked for this
pub judged_of : (e f : Extent) (images : ℕ) (span : Span) → e ≡ f → IsJudged e images span → IsJudged f images span
judged_of e f images span same judged = subst (λ (x : Extent). IsJudged x images span) same judged

-- where no part is taken, all images are judged
pub whole_of : (w : WantedAnswer) (e : Extent) → takes_part w ≡ false → takes w e ≡ true → e ≡ extent.Whole
whole_of w extent.Whole none taken = refl
whole_of w extent.Wide none taken = absurd (false≢true taken)
whole_of w (extent.Part from to) none taken = absurd (false≢true (sym none ∙ taken))
