use Rattle.std.proofs.Common.{List, ℕ, Some, None, ◌≤◌, ◌<◌, ◌==◌, length, slice_get, slice_index_or, false, sym, subst, ◌∙◌, ap}
use Rattle.std.specs.Option.{option_map_or}
use Rattle.images.specs.Keys.{ChangedValue}
use Rattle.images.proofs.Listed.{relisted, relisted_is}
use Rattle.images.proofs.listing.put.Goals as goal

-- a place, as the search tells it
abbrev lower : List ChangedValue → ℕ → ℕ → Type 0
lower xs place n = (k : ℕ) (d : ChangedValue) → k < place → (slice_index_or xs k d).number < n

abbrev upper : List ChangedValue → ℕ → ℕ → Type 0
upper xs place n = (k : ℕ) (d : ChangedValue) → place ≤ k → k < length xs → n ≤ (slice_index_or xs k d).number

pub returns-in-Some : goal.returns-in-Some
returns-in-Some c = λ base image count sector lt is told.
    let xs = c.args.sectors.now.items in
    let place = c.place_of-place.result in
    let n = c.args.number in
    ap (λ b. relisted xs place b (Some c.in-Some.change)) (sym c.if-there.true)
    ∙ ap (relisted xs place c.is_at-there.result) (sym c.in-Some.is)
    ∙ relisted_is base image count n place c.is_at-there.result sector xs c.args.change lt is told
    (subst (λ ys. place ≤ length ys) c.as_slice.ensures.value c.place_of-place.ensures.bound)
    (subst (λ ys. lower ys place n) c.as_slice.ensures.value c.place_of-place.ensures.before)
    (subst (λ ys. upper ys place n) c.as_slice.ensures.value c.place_of-place.ensures.beyond)
    (c.is_at-there.ensures ∙ ap (λ ys. option_map_or (λ (s : ChangedValue). s.number == n) (slice_get ys place) false) c.as_slice-2.ensures.value)

pub returns-in_ok-insert-in-Some-2 : goal.returns-in_ok-insert-in-Some-2
returns-in_ok-insert-in-Some-2 c = λ base image count sector lt is told.
    let xs = c.args.sectors.now.items in
    let place = c.place_of-place.result in
    let n = c.args.number in
    c.in_ok-insert-in-Some-2.ensures.items
    ∙ ap (λ b. relisted xs place b (Some c.in-Some.change)) (sym c.if-there.false)
    ∙ ap (relisted xs place c.is_at-there.result) (sym c.in-Some.is)
    ∙ relisted_is base image count n place c.is_at-there.result sector xs c.args.change lt is told
    (subst (λ ys. place ≤ length ys) c.as_slice.ensures.value c.place_of-place.ensures.bound)
    (subst (λ ys. lower ys place n) c.as_slice.ensures.value c.place_of-place.ensures.before)
    (subst (λ ys. upper ys place n) c.as_slice.ensures.value c.place_of-place.ensures.beyond)
    (c.is_at-there.ensures ∙ ap (λ ys. option_map_or (λ (s : ChangedValue). s.number == n) (slice_get ys place) false) c.as_slice-2.ensures.value)

pub returns-in-None : goal.returns-in-None
returns-in-None c = λ base image count sector lt is told.
    let xs = c.args.sectors.now.items in
    let place = c.place_of-place.result in
    let n = c.args.number in
    c.remove.ensures.items
    ∙ ap (λ b. relisted xs place b None) (sym c.if-there-2.true)
    ∙ ap (relisted xs place c.is_at-there.result) (sym c.in-None.is)
    ∙ relisted_is base image count n place c.is_at-there.result sector xs c.args.change lt is told
    (subst (λ ys. place ≤ length ys) c.as_slice.ensures.value c.place_of-place.ensures.bound)
    (subst (λ ys. lower ys place n) c.as_slice.ensures.value c.place_of-place.ensures.before)
    (subst (λ ys. upper ys place n) c.as_slice.ensures.value c.place_of-place.ensures.beyond)
    (c.is_at-there.ensures ∙ ap (λ ys. option_map_or (λ (s : ChangedValue). s.number == n) (slice_get ys place) false) c.as_slice-2.ensures.value)

pub returns-else-there-2 : goal.returns-else-there-2
returns-else-there-2 c = λ base image count sector lt is told.
    let xs = c.args.sectors.now.items in
    let place = c.place_of-place.result in
    let n = c.args.number in
    ap (λ b. relisted xs place b None) (sym c.if-there-2.false)
    ∙ ap (relisted xs place c.is_at-there.result) (sym c.in-None.is)
    ∙ relisted_is base image count n place c.is_at-there.result sector xs c.args.change lt is told
    (subst (λ ys. place ≤ length ys) c.as_slice.ensures.value c.place_of-place.ensures.bound)
    (subst (λ ys. lower ys place n) c.as_slice.ensures.value c.place_of-place.ensures.before)
    (subst (λ ys. upper ys place n) c.as_slice.ensures.value c.place_of-place.ensures.beyond)
    (c.is_at-there.ensures ∙ ap (λ ys. option_map_or (λ (s : ChangedValue). s.number == n) (slice_get ys place) false) c.as_slice-2.ensures.value)
