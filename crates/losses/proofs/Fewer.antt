-- A round leaves fewer entries that are no flush entries.
use Rattle.std.proofs.Common.{ℕ, zero, suc, ◌≡◌, ◌≢◌, ◌==◌, ◌||◌, ◌+◌, ◌<◌, ◌≤◌, Bool, true, false, not, if◌then◌else◌, List, [], ◌∷◌, length, map, filter, All, get_or, slice_get, slice_index_or, Some, None, refl, sym, ◌∙◌, ap, inl, inr, arith}
use Rattle.std.specs.List.{range_with_len}
use Rattle.std.proofs.lemmas.Bool.Decides.{nat_tests}
use Rattle.std.proofs.lemmas.Option.{slice_get_cases, slice_get-get_or}
use Rattle.logfmt.specs.declared.entry.Entry.{Entry}
use Rattle.logfmt.specs.Flushed.{with_flush, flushed_at, is_place}
use Rattle.losses.specs.declared.flushes.window.Window.{Window}
use Rattle.losses.specs.declared.flushes.counted.MissingFlush.{MissingFlush}
use Rattle.losses.specs.Places.{AreWindows}
use Rattle.losses.specs.Counted.{AreMissing, missing_at}
use Rattle.losses.specs.FailureWindows.{place_in, places_in, HoldNoFlush, calm_entries}

-- how often an entry is counted
abbrev mark : Bool → ℕ
mark true = 0
mark false = 1

-- an entry more
calm-cons : (x : Entry) (xs : List Entry) → calm_entries (x ∷ xs) ≡ mark x.flags.flush + calm_entries xs
calm-cons x xs = by_test x.flags.flush
  where
    by_test : (b : Bool) → length (if not b then x ∷ filter (λ (e : Entry). not e.flags.flush) xs else filter (λ (e : Entry). not e.flags.flush) xs) ≡ mark b + calm_entries xs
    by_test true = omega arith
    by_test false = omega arith

-- a flush makes none calm
own : (c : Bool) (x : Entry) → mark (if c then with_flush x else x).flags.flush ≤ mark x.flags.flush
own true x = omega arith
own false x = omega arith

no_more : (chosen : ℕ → Bool) (es : List Entry) → calm_entries (flushed_at chosen es) ≤ calm_entries es
no_more chosen [] = omega arith
no_more chosen (x ∷ xs) =
    let rest = no_more (λ n. chosen (suc n)) xs in
    let here = own (chosen 0) x in
    let before = calm-cons x xs in
    let after = calm-cons (if chosen 0 then with_flush x else x) (flushed_at (λ n. chosen (suc n)) xs) in
    omega (arith, rest, here, before, after)

-- one that isn't one leaves fewer
fewer : (chosen : ℕ → Bool) (es : List Entry) (p : ℕ) (e : Entry) → slice_get es p ≡ Some e → chosen p ≡ true → e.flags.flush ≡ false
    → calm_entries (flushed_at chosen es) < calm_entries es
fewer chosen [] p e there is calm = absurd (let bad : None ≡ Some e = there in cc)
fewer chosen (x ∷ xs) zero e there is calm =
    let same : x ≡ e = (let s : Some x ≡ Some e = there in cc) in
    let rest = no_more (λ n. chosen (suc n)) xs in
    let was : mark x.flags.flush ≡ 1 = ap mark (ap (λ (y : Entry). y.flags.flush) same ∙ calm) in
    let now : mark (if chosen 0 then with_flush x else x).flags.flush ≡ 0 = ap (λ b. mark (if b then with_flush x else x).flags.flush) is in
    let before = calm-cons x xs in
    let after = calm-cons (if chosen 0 then with_flush x else x) (flushed_at (λ n. chosen (suc n)) xs) in
    omega (arith, rest, was, now, before, after)
fewer chosen (x ∷ xs) (suc p) e there is calm =
    let rest = fewer (λ n. chosen (suc n)) xs p e there is calm in
    let here = own (chosen 0) x in
    let before = calm-cons x xs in
    let after = calm-cons (if chosen 0 then with_flush x else x) (flushed_at (λ n. chosen (suc n)) xs) in
    omega (arith, rest, here, before, after)

-- what stands in the list of places is one
place_there : (ps : List ℕ) (k p : ℕ) → slice_get ps k ≡ Some p → is_place ps p ≡ true
place_there [] k p there = absurd (let bad : None ≡ Some p = there in cc)
place_there (x ∷ ps) zero p there =
    let same : x ≡ p = (let s : Some x ≡ Some p = there in cc) in
    let test : (x == p) ≡ true = grind (arith, nat_tests, same) in
    rw test refl
place_there (x ∷ ps) (suc k) p there =
    let rest = place_there ps k p there in
    let or : (b : Bool) → (b || true) ≡ true = λ b. elim b as (λ v. (v || true) ≡ true) [ true ↦ refl | false ↦ refl ] in
    rw rest (or (x == p))

-- a list, place by place
by_place : (xs ps : List ℕ) (k : ℕ) → ((i : ℕ) → slice_index_or xs (k + i) 0 ≡ slice_index_or ps i 0) → map (λ n. slice_index_or xs n 0) (range_with_len k (length ps)) ≡ ps
by_place xs [] k same = refl
by_place xs (p ∷ ps) k same =
    let here : k + 0 ≡ k = omega arith in
    let first : slice_index_or xs k 0 ≡ p = ap (λ n. slice_index_or xs n 0) (sym here) ∙ same 0 in
    let rest = by_place xs ps (k + 1) (λ i. (let next : k + 1 + i ≡ k + suc i = omega arith in ap (λ n. slice_index_or xs n 0) next) ∙ same (suc i)) in
    rw (first, rest) refl

map_twice : (ws : List Window) (ps ns : List ℕ) → map place_in (map (missing_at ws ps) ns) ≡ map (λ n. slice_index_or ps n 0) ns
map_twice ws ps [] = refl
map_twice ws ps (n ∷ ns) = ap (λ (xs : List ℕ). slice_index_or ps n 0 ∷ xs) (map_twice ws ps ns)

-- the places of missing flushes are those that were picked
picked : (ws : List Window) (ms : List MissingFlush) → (are : AreMissing ws ms) → places_in ms ≡ are.places
picked ws ms are =
    ap places_in are.listed ∙ map_twice ws are.places (range_with_len 0 (length are.places))
    ∙ by_place are.places are.places 0 (λ i. let e : 0 + i ≡ i = omega arith in ap (λ n. slice_index_or are.places n 0) e)

-- each stands before an entry
pub are_before : (n : ℕ) (ws : List Window) (ms : List MissingFlush) (ps : List ℕ) → AreWindows n ws → AreMissing ws ms → ps ≡ places_in ms → All (λ p. p < n) ps
are_before n ws ms ps inside are same k d small =
    let own : ps ≡ are.places = same ∙ picked ws ms are in
    let here : slice_get are.places k ≡ Some (get_or ps k d) = ap (λ (xs : List ℕ). slice_get xs k) (sym own) ∙ slice_get-get_or ps k d small in
    let next = are.picked.each k (get_or ps k d) here in
    let end = next.end in
    let within = (inside next.number next.window next.there).2 in
    omega (arith, end, within)

-- with the missing flushes fewer entries are left that are none
pub fewer_left : (es : List Entry) (ws : List Window) (ms : List MissingFlush) (ps : List ℕ) → ws ≢ [] → AreWindows (length es) ws → HoldNoFlush es ws → AreMissing ws ms → ps ≡ places_in ms
    → calm_entries (flushed_at (is_place ps) es) < calm_entries es
fewer_left es [] ms ps some inside calm are same = absurd (some refl)
fewer_left es (w ∷ ws) ms ps some inside calm are same =
    let own : ps ≡ are.places = same ∙ picked (w ∷ ws) ms are in
    let one = are.picked.all 0 w refl in
    let to = one.holds.to in
    let within = (inside 0 w refl).2 in
    elim (slice_get_cases es one.place).1 [
      | inl a ↦ fewer (is_place ps) es one.place a.0 a.2 (rw own (place_there are.places one.number one.place one.there)) (calm 0 w one.place a.0 refl one.holds a.2)
      | inr past ↦ let end = past.0 in absurd (omega (arith, end, to, within))
    ]
