-- Cuts of one epoch have one base.
use Rattle.std.proofs.Common.{ℕ, zero, suc, ◌≡◌, ◌+◌, ◌≤◌, Bool, true, false, if◌then◌else◌, List, [], map, take, count_by, refl, sym, ◌∙◌, ap, inl, inr, arith}
use Rattle.std.specs.List.{range_with_len}
use Rattle.std.specs.Option.{option_map_or}
use Rattle.std.proofs.lemmas.Bool.{cases_lt}
use Rattle.std.proofs.lemmas.List.{take_all}
use Rattle.std.proofs.lemmas.Option.{slice_get_cases}
use Rattle.base.proofs.Lists.{take-suc_place, count_by-push}
use Rattle.logfmt.specs.declared.entry.Entry.{Entry}
use Rattle.logfmt.specs.Bounds.{LogValue}
use Rattle.logfmt.specs.Initial.{initial_sector}
use Rattle.epochs.specs.Units.{epoch_at}
use Rattle.epochs.specs.Cuts.{is_flush_at}
use Rattle.epochs.specs.Laws.{last_flush}
use Rattle.images.specs.Images.{crash_image}
use Rattle.images.specs.Keys.{base_of}
use Rattle.images.specs.Laws.{EpochHasBase}
use Rattle.images.proofs.Blank.{first_device, zero_device}

-- the epoch of the next cut
next_epoch : (es : List Entry) (k : ℕ) → epoch_at es (suc k) ≡ epoch_at es k + (if is_flush_at es k then 1 else 0)
next_epoch es k = elim (slice_get_cases es k).1 [
  | inl a ↦
      let further = take-suc_place es k a.0 a.2 in
      let flag : is_flush_at es k ≡ a.0.flags.flush = ap (λ o. option_map_or (λ (entry : Entry). entry.flags.flush) o false) a.2 in
      let sum = count_by-push (λ (entry : Entry). entry.flags.flush) (take k es) a.0 in
      let here : epoch_at es (suc k) ≡ epoch_at es k + (if a.0.flags.flush then 1 else 0) = rw further sum in
      here ∙ ap (λ b. epoch_at es k + (if b then 1 else 0)) (sym flag)
  | inr past ↦
      let flag : is_flush_at es k ≡ false = ap (λ o. option_map_or (λ (entry : Entry). entry.flags.flush) o false) past.1 in
      let short = past.0 in
      let whole : take (suc k) es ≡ take k es = take_all (suc k) es (omega (arith, short)) ∙ sym (take_all k es short) in
      let here : epoch_at es (suc k) ≡ epoch_at es k = ap (count_by (λ (entry : Entry). entry.flags.flush)) whole in
      let none : epoch_at es k ≡ epoch_at es k + 0 = omega arith in
      here ∙ none ∙ ap (λ b. epoch_at es k + (if b then 1 else 0)) (sym flag)
]

epoch_rises : (es : List Entry) (j k : ℕ) → j ≤ k → epoch_at es j ≤ epoch_at es k
epoch_rises es j zero le = let e : j ≡ 0 = omega (arith, le) in rw e (omega arith)
epoch_rises es j (suc k) le = elim (cases_lt j (suc k)) [
  | inl lt ↦ let before = epoch_rises es j k (omega (arith, lt)) in omega (arith, before, next_epoch es k)
  | inr past ↦ let e : j ≡ suc k = omega (arith, le, past) in rw e (omega arith)
]

-- no entry is a flush entry between two cuts of one epoch
no_flush : (es : List Entry) (k before : ℕ) (b : Bool) → is_flush_at es k ≡ b → epoch_at es (suc k) ≡ epoch_at es k → last_flush es (suc k) ≡ last_flush es k
no_flush es k before true flag same =
    let next = next_epoch es k ∙ ap (λ c. epoch_at es k + (if c then 1 else 0)) flag in
    absurd (omega (arith, next, same))
no_flush es k before false flag same = ap (λ c. if c then k else last_flush es k) flag

one_flush : (es : List Entry) (j k : ℕ) → j ≤ k → epoch_at es j ≡ epoch_at es k → last_flush es j ≡ last_flush es k
one_flush es j zero le same = let e : j ≡ 0 = omega (arith, le) in ap (last_flush es) e
one_flush es j (suc k) le same = elim (cases_lt j (suc k)) [
  | inl lt ↦
      let within : j ≤ k = omega (arith, lt) in
      let low = epoch_rises es j k within in
      let high = epoch_rises es k (suc k) (omega arith) in
      let here : epoch_at es (suc k) ≡ epoch_at es k = omega (arith, low, high, same) in
      one_flush es j k within (same ∙ here) ∙ sym (no_flush es k 0 (is_flush_at es k) refl here)
  | inr past ↦ let e : j ≡ suc k = omega (arith, le, past) in ap (last_flush es) e
]

-- cuts of one epoch have one last flush entry, and so one base
pub one_flush_of : (es : List Entry) (j k : ℕ) → epoch_at es j ≡ epoch_at es k → last_flush es j ≡ last_flush es k
one_flush_of es j k same = elim (cases_lt j k) [
  | inl lt ↦ one_flush es j k (omega (arith, lt)) same
  | inr past ↦ sym (one_flush es k j past (sym same))
]

pub one_base : (log : LogValue) (j k : ℕ) → epoch_at log.entries j ≡ epoch_at log.entries k → base_of log j ≡ base_of log k
unfolding base_of
one_base log j k same = ap (λ f. crash_image log f []) (one_flush_of log.entries j k same)

first_base : (log : LogValue) (k : ℕ) → epoch_at log.entries k ≡ 0 → base_of log k ≡ map (initial_sector log.initial) (range_with_len 0 log.sectors)
unfolding base_of
first_base log k none = one_base log k 0 none ∙ first_device log []

pub epoch_has_base : EpochHasBase
epoch_has_base = record {
  one = one_base;
  first = first_base;
  zeros = λ log k blank none.
      first_base log k none ∙ ap (λ (initial : List ℕ). map (initial_sector initial) (range_with_len 0 log.sectors)) blank ∙ zero_device log.sectors;
}
