use Rattle.std.proofs.Common.{ℕ, List, ◌≤◌, ◌<◌, ◌==◌, length, slice_get, slice_index_or, false, sym, subst, ◌∙◌, ap}
use Rattle.std.specs.List.Sorted.{IsNonDecreasingBy}
use Rattle.std.specs.Option.{option_map_or}
use Rattle.export.proofs.Numbers.{number_put, those_rise, with_number}
use Rattle.known_runs.proofs.differing.put_number.Goals as goal

-- a place, as the search tells it
abbrev lower : List ℕ → ℕ → ℕ → Type 0
lower xs place n = (k d : ℕ) → k < place → slice_index_or xs k d < n

abbrev upper : List ℕ → ℕ → ℕ → Type 0
upper xs place n = (k d : ℕ) → place ≤ k → k < length xs → n ≤ slice_index_or xs k d

abbrev rises : List ℕ → Type 0
rises xs = IsNonDecreasingBy (λ (n : ℕ). n) xs

pub returns-then-there : goal.returns-then-there
returns-then-there c = λ p count lt is.
    let xs = c.args.numbers.now.items in
    let place = c.place_of-place.result in
    let n = c.args.number in
    let risen = subst rises (sym c.as_slice.ensures.value) (subst rises (sym is) (those_rise p 0 count)) in
    ap (with_number xs place n) (sym c.if-there.true)
    ∙ number_put p count n place c.is_at-there.result xs lt is
    (subst (λ ys. place ≤ length ys) c.as_slice.ensures.value c.place_of-place.ensures.bound)
    (subst (λ ys. lower ys place n) c.as_slice.ensures.value (c.place_of-place.ensures.before risen))
    (subst (λ ys. upper ys place n) c.as_slice.ensures.value (c.place_of-place.ensures.beyond risen))
    (c.is_at-there.ensures ∙ ap (λ ys. option_map_or (λ (m : ℕ). m == n) (slice_get ys place) false) c.as_slice-2.ensures.value)

pub returns : goal.returns
returns c = λ p count lt is.
    let xs = c.args.numbers.now.items in
    let place = c.place_of-place.result in
    let n = c.args.number in
    let risen = subst rises (sym c.as_slice.ensures.value) (subst rises (sym is) (those_rise p 0 count)) in
    c.in_ok-insert.ensures.items
    ∙ ap (with_number xs place n) (sym c.if-there.false)
    ∙ number_put p count n place c.is_at-there.result xs lt is
    (subst (λ ys. place ≤ length ys) c.as_slice.ensures.value c.place_of-place.ensures.bound)
    (subst (λ ys. lower ys place n) c.as_slice.ensures.value (c.place_of-place.ensures.before risen))
    (subst (λ ys. upper ys place n) c.as_slice.ensures.value (c.place_of-place.ensures.beyond risen))
    (c.is_at-there.ensures ∙ ap (λ ys. option_map_or (λ (m : ℕ). m == n) (slice_get ys place) false) c.as_slice-2.ensures.value)
