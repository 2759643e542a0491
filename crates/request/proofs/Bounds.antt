-- Bounds with which there are too many images.
use Rattle.std.proofs.Common.{ℕ, ◌≡◌, ◌∙◌, ◌+◌, ◌<◌, ◌≤◌, ◌⊎◌, inl, inr, Bool, Option, None, MatchOption, refl, subst, sym}
use Rattle.logfmt.specs.Bounds.{LogValue}
use Rattle.epochs.specs.declared.cuts.Cuts.{Cuts}
use Rattle.epochs.specs.declared.part.By.{By}
use Rattle.epochs.specs.Plan.{PlanValue}
use Rattle.request.specs.declared.settings.Settings.{Settings}
use Rattle.request.specs.Extents.{most_images}
use Rattle.request.specs.Source.{plan_of}
use Rattle.request.specs.declared.facts.fewer.Smaller.{Smaller}
use Rattle.request.specs.Fewer.{CountsImages, TooManyFrom, NoneIsSmaller, IsGreatest}
use Rattle.request.proofs.Between.{at_or_above}

-- one bound less
pub too_many_more : (most : ℕ) (plan : PlanValue) (tears : Bool) (n below : ℕ) → TooManyFrom most plan tears (n + 1) below → CountsImages most plan n tears None
    → TooManyFrom most plan tears n below
too_many_more most plan tears n below above at = λ b from lt. here b lt (at_or_above n b from)
  where
    here : (b : ℕ) → b < below → (b ≡ n) ⊎ (n + 1 ≤ b) → CountsImages most plan b tears None
    here b lt (inl e) = subst (λ (k : ℕ). CountsImages most plan k tears None) (sym e) at
    here b lt (inr more) = above b more lt

-- the greatest smaller bound, of the plan that is asked for
abbrev pub IsSmaller : ℕ → PlanValue → Bool → ℕ → Option Smaller → Type 0
IsSmaller most plan tears below o = MatchOption o (NoneIsSmaller most plan tears below) (λ found. IsGreatest most plan tears below found.bound found.images)

abbrev pub made : LogValue → Cuts → By → PlanValue
made log kind way = record { log = log; kind = kind; by = way }

plan_is : (l v : LogValue) (k c : Cuts) (b w : By) → l ≡ v → k ≡ c → b ≡ w → made l k b ≡ made v c w
plan_is l v k c b w log kind way = rw (log, kind, way) refl

pub smaller_of : (s : Settings) (v : LogValue) (p : PlanValue) (c : Cuts) (w : By) (tears : Bool) (below most : ℕ) (o : Option Smaller) → p.log ≡ v → p.kind ≡ c → p.by ≡ w
    → c ≡ s.cuts → w ≡ s.by → tears ≡ s.tears → below ≡ s.bound → most ≡ most_images s.extent → IsSmaller most p tears below o
    → IsSmaller (most_images s.extent) (plan_of s v) s.tears s.bound o
smaller_of s v p c w tears below most o log kind way cuts by torn bound allowed is =
    let same : made p.log p.kind p.by ≡ made v s.cuts s.by = plan_is p.log v p.kind s.cuts p.by s.by log (kind ∙ cuts) (way ∙ by) in
    subst (λ (q : PlanValue). IsSmaller (most_images s.extent) q s.tears s.bound o) same
    (subst (λ (t : Bool). IsSmaller (most_images s.extent) p t s.bound o) torn
    (subst (λ (n : ℕ). IsSmaller (most_images s.extent) p tears n o) bound
    (subst (λ (m : ℕ). IsSmaller m p tears below o) allowed is)))
