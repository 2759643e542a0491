-- Totals, cut by cut.
use Rattle.std.proofs.Common.{ℕ, ◌≡◌, ◌+◌, ◌≤◌, List, [], ◌∷◌, ◌++◌, length, take, refl, sym, ◌∙◌, ap, arith}
use Rattle.std.specs.List.{sum_by}
use Rattle.std.proofs.lemmas.Int.{clamps}
use Rattle.std.proofs.lemmas.List.{take_all}
use Rattle.std.proofs.lemmas.List.Sums.{sum_by_push}
use Rattle.case_text.specs.Text.{in_word}
use Rattle.known.specs.declared.found.KnownAt.{KnownAt}
use Rattle.known_runs.specs.declared.totals.KnownTotals.{KnownTotals}
use Rattle.known_runs.specs.Totals.{totals_of, with_one, count_stopped}

in_word_twice : (a b : ℕ) → in_word (in_word a + b) ≡ in_word (a + b)
in_word_twice a b = omega (arith, clamps)

one_more : (f : KnownAt → ℕ) (fs : List KnownAt) (x : KnownAt) → in_word (in_word (sum_by f fs) + f x) ≡ in_word (sum_by f (fs ++ x ∷ []))
one_more f fs x = in_word_twice (sum_by f fs) (f x) ∙ ap in_word (sym (sum_by_push f fs x))

totals_push : (fs : List KnownAt) (x : KnownAt) → with_one (totals_of fs) x ≡ totals_of (fs ++ x ∷ [])
unfolding totals_of
totals_push fs x =
    let a = one_more (λ (f : KnownAt). f.told) fs x in
    let b = one_more (λ (f : KnownAt). length f.failing.items) fs x in
    let c = one_more (λ (f : KnownAt). f.torn_beyond) fs x in
    let d = one_more (λ (f : KnownAt). f.lost_beyond) fs x in
    let e = one_more (λ (f : KnownAt). length f.open_cases.items) fs x in
    let g = one_more count_stopped fs x in
    λ i. record { told = a i; failing = b i; torn = c i; lost = d i; untold = e i; stopped = g i }

pub totals_next : (fs : List KnownAt) (n : ℕ) (x y : KnownAt) (old new : KnownTotals) → take (n + 1) fs ≡ take n fs ++ x ∷ [] → y ≡ x
    → old ≡ totals_of (take n fs) → new ≡ with_one old y → new ≡ totals_of (take (n + 1) fs)
totals_next fs n x y old new more same was is =
    is ∙ ap (λ o. with_one o y) was ∙ ap (with_one (totals_of (take n fs))) same ∙ totals_push (take n fs) x ∙ ap totals_of (sym more)

pub no_totals : (t : KnownTotals) → t.told ≡ 0 → t.failing ≡ 0 → t.torn ≡ 0 → t.lost ≡ 0 → t.untold ≡ 0 → t.stopped ≡ 0 → t ≡ totals_of []
unfolding totals_of
no_totals t a b c d e g = λ i. record { told = a i; failing = b i; torn = c i; lost = d i; untold = e i; stopped = g i }

pub totals_all : (fs : List KnownAt) (n : ℕ) (t : KnownTotals) → length fs ≤ n → t ≡ totals_of (take n fs) → t ≡ totals_of fs
totals_all fs n t all is = is ∙ ap totals_of (take_all n fs all)
