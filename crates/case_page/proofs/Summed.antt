-- How much there is at some cuts, cut by cut.
use Rattle.std.proofs.Common.{ℕ, ◌≡◌, ◌+◌, ◌<◌, ◌≤◌, List, [], ◌∷◌, ◌++◌, length, take, get_or, refl, sym, ◌∙◌, ap, arith}
use Rattle.std.specs.List.{sum_by}
use Rattle.std.proofs.lemmas.Int.{clamps}
use Rattle.std.proofs.lemmas.List.{take_more, take_all}
use Rattle.std.proofs.lemmas.List.Sums.{sum_by_push}
use Rattle.case_text.specs.Text.{in_word}
use Rattle.page_parts.specs.declared.counts.CutCount.{CutCount}
use Rattle.case_page.specs.Counts.{all_in, failing_in}

in_word_twice : (a b : ℕ) → in_word (in_word a + b) ≡ in_word (a + b)
in_word_twice a b = omega (arith, clamps)

one_more : (f : CutCount → ℕ) (cs : List CutCount) (n old new : ℕ) (c : CutCount) → n < length cs → c ≡ get_or cs n c → old ≡ in_word (sum_by f (take n cs)) → new ≡ in_word (old + f c)
    → new ≡ in_word (sum_by f (take (n + 1) cs))
one_more f cs n old new c within is was sum =
    let taken : take (n + 1) cs ≡ take n cs ++ c ∷ [] = take_more cs n c within ∙ ap (λ (x : CutCount). take n cs ++ x ∷ []) (sym is) in
    sum ∙ ap (λ (m : ℕ). in_word (m + f c)) was ∙ in_word_twice (sum_by f (take n cs)) (f c) ∙ ap in_word (sym (sum_by_push f (take n cs) c)) ∙ ap (λ (xs : List CutCount). in_word (sum_by f xs)) (sym taken)

pub sum_more : (cs : List CutCount) (n old new : ℕ) (c : CutCount) → n < length cs → c ≡ get_or cs n c → old ≡ all_in (take n cs) → new ≡ in_word (old + c.all) → new ≡ all_in (take (n + 1) cs)
sum_more cs n old new c within is was sum = one_more (λ (x : CutCount). x.all) cs n old new c within is was sum

pub sum_end : (cs : List CutCount) (n sum : ℕ) → length cs ≤ n → sum ≡ all_in (take n cs) → sum ≡ all_in cs
sum_end cs n sum past was = was ∙ ap all_in (take_all n cs past)

pub failing_more : (cs : List CutCount) (n old new : ℕ) (c : CutCount) → n < length cs → c ≡ get_or cs n c → old ≡ failing_in (take n cs) → new ≡ in_word (old + c.failing)
    → new ≡ failing_in (take (n + 1) cs)
failing_more cs n old new c within is was sum = one_more (λ (x : CutCount). x.failing) cs n old new c within is was sum

pub failing_end : (cs : List CutCount) (n sum : ℕ) → length cs ≤ n → sum ≡ failing_in (take n cs) → sum ≡ failing_in cs
failing_end cs n sum past was = was ∙ ap failing_in (take_all n cs past)
