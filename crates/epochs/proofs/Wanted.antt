-- The wanted cuts, one cut on.
use Rattle.std.proofs.Common.{ℕ, ◌≡◌, ◌+◌, ◌<◌, ◌≤◌, Bool, true, false, if◌then◌else◌, List, [], ◌∷◌, ◌++◌, length, filter, sym, ◌∙◌, ap, arith}
use Rattle.std.specs.List.{range_with_len, All}
use Rattle.std.proofs.lemmas.List.{map-id, append-nil}
use Rattle.std.proofs.lemmas.List.FromFn.{filter_of_map_range_with_len_more, length-range_with_len, get_or-range_with_len}
use Rattle.std.proofs.lemmas.List.Elements.{All-filter}
use Rattle.logfmt.specs.declared.entry.Entry.{Entry}
use Rattle.epochs.specs.declared.cuts.Cuts.{Cuts}
use Rattle.epochs.specs.Cuts.{is_wanted, cuts_of}

one_more : (p : ℕ → Bool) (k : ℕ) → filter p (range_with_len 0 (k + 1)) ≡ filter p (range_with_len 0 k) ++ (if p k then k ∷ [] else [])
one_more p k =
    let at : 0 + k ≡ k = omega arith in
    ap (filter p) (sym (map-id (range_with_len 0 (k + 1))))
    ∙ filter_of_map_range_with_len_more p (λ (n : ℕ). n) 0 k k at
    ∙ ap (λ ns. filter p ns ++ (if p k then k ∷ [] else [])) (map-id (range_with_len 0 k))

-- one number more of a range that is filtered: it is kept, or left out
pub kept_cut : (p : ℕ → Bool) (k : ℕ) → p k ≡ true → filter p (range_with_len 0 (k + 1)) ≡ filter p (range_with_len 0 k) ++ k ∷ []
kept_cut p k h = one_more p k ∙ ap (λ b. filter p (range_with_len 0 k) ++ (if b then k ∷ [] else [])) h

-- a cut that isn't wanted changes no list of wanted cuts
pub left_cut : (p : ℕ → Bool) (k : ℕ) → p k ≡ false → filter p (range_with_len 0 (k + 1)) ≡ filter p (range_with_len 0 k)
left_cut p k h =
    one_more p k ∙ ap (λ b. filter p (range_with_len 0 k) ++ (if b then k ∷ [] else [])) h ∙ append-nil (filter p (range_with_len 0 k))

-- each wanted cut is a cut of the log
pub cuts_within : (wanted : Cuts) (es : List Entry) → All (λ (cut : ℕ). cut ≤ length es) (cuts_of wanted es)
cuts_within wanted es =
    let P : ℕ → Type 0 = λ cut. cut ≤ length es in
    let each : All P (range_with_len 0 (length es + 1)) =
    λ k d lt.
    let inside : k < length es + 1 = omega (arith, length-range_with_len 0 (length es + 1), lt) in
    omega (arith, get_or-range_with_len 0 (length es + 1) k d inside, inside) in
    All-filter (is_wanted wanted es) P (range_with_len 0 (length es + 1)) each
