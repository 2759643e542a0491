-- Totals, program by program.
use Rattle.std.proofs.Common.{ℕ, ◌≡◌, ◌+◌, ◌≤◌, Bool, List, [], ◌∷◌, ◌++◌, length, take, codes, refl, sym, ◌∙◌, ap, arith, append-nil, append_assoc}
use Rattle.std.specs.List.{sum_by}
use Rattle.std.proofs.lemmas.Grind.{flat_map-append}
use Rattle.std.proofs.lemmas.Int.{clamps}
use Rattle.std.proofs.lemmas.List.{take_all}
use Rattle.std.proofs.lemmas.List.Sums.{sum_by_push}
use Rattle.losses.specs.declared.found.CaseFindings.{CaseFindings}
use Rattle.losses.specs.declared.found.CutFound.{CutFound}
use Rattle.case_text.specs.declared.totals.Totals.{Totals}
use Rattle.case_text.specs.Text.{in_word, all_found, count_cases, count_failing, count_torn_beyond, count_lost_beyond, complete_word, counts_text, beyond_text, found_text, totals_text}
use Rattle.case_text.proofs.Lining.{joined}
use Rattle.case_text.specs.Counts.{with_all, with_found}

in_word_twice : (a b : ℕ) → in_word (in_word a + b) ≡ in_word (a + b)
in_word_twice a b = omega (arith, clamps)

pub with_push : (t : Totals) (fs : List CaseFindings) (x : CaseFindings) → with_all t (fs ++ x ∷ []) ≡ with_found (with_all t fs) x
with_push t [] x = refl
with_push t (f ∷ fs) x = with_push (with_found t f) fs x

pub with_next : (t : Totals) (fs : List CaseFindings) (n : ℕ) (x y : CaseFindings) (old new : Totals) → take (n + 1) fs ≡ take n fs ++ x ∷ [] → y ≡ x
    → old ≡ with_all t (take n fs) → new ≡ with_found old y → new ≡ with_all t (take (n + 1) fs)
with_next t fs n x y old new more same was is =
    is ∙ ap (λ o. with_found o y) was ∙ ap (with_found (with_all t (take n fs))) same ∙ sym (with_push t (take n fs) x) ∙ ap (with_all t) (sym more)

-- the totals of some programs
pub sums_of : List CaseFindings → Totals
sums_of fs = record {
  cases = in_word (sum_by (λ (f : CaseFindings). f.cases) fs);
  failing = in_word (sum_by (λ (f : CaseFindings). length f.failing.items) fs);
  torn_beyond = in_word (sum_by (λ (f : CaseFindings). f.torn_beyond) fs);
  lost_beyond = in_word (sum_by (λ (f : CaseFindings). f.lost_beyond) fs);
}

one_more : (f : CaseFindings → ℕ) (fs : List CaseFindings) (x : CaseFindings) → in_word (in_word (sum_by f fs) + f x) ≡ in_word (sum_by f (fs ++ x ∷ []))
one_more f fs x = in_word_twice (sum_by f fs) (f x) ∙ ap in_word (sym (sum_by_push f fs x))

sums_push : (fs : List CaseFindings) (x : CaseFindings) → with_found (sums_of fs) x ≡ sums_of (fs ++ x ∷ [])
unfolding sums_of
sums_push fs x =
    let a = one_more (λ (f : CaseFindings). f.cases) fs x in
    let b = one_more (λ (f : CaseFindings). length f.failing.items) fs x in
    let c = one_more (λ (f : CaseFindings). f.torn_beyond) fs x in
    let d = one_more (λ (f : CaseFindings). f.lost_beyond) fs x in
    λ i. record { cases = a i; failing = b i; torn_beyond = c i; lost_beyond = d i }

sums_all : (fs more : List CaseFindings) → with_all (sums_of fs) more ≡ sums_of (fs ++ more)
sums_all fs [] = ap sums_of (sym (append-nil fs))
sums_all fs (x ∷ more) =
    ap (λ t. with_all t more) (sums_push fs x) ∙ sums_all (fs ++ x ∷ []) more ∙ ap sums_of (append_assoc fs (x ∷ []) more)

all_push : (cs : List CutFound) (c : CutFound) → all_found (cs ++ c ∷ []) ≡ all_found cs ++ c.programs.items
all_push cs c = flat_map-append (λ (x : CutFound). x.programs.items) cs (c ∷ []) ∙ ap (λ fs. all_found cs ++ fs) (append-nil c.programs.items)

pub totals_next : (cs : List CutFound) (n : ℕ) (x y : CutFound) (old new : Totals) → take (n + 1) cs ≡ take n cs ++ x ∷ [] → y ≡ x
    → old ≡ sums_of (all_found (take n cs)) → new ≡ with_all old y.programs.items → new ≡ sums_of (all_found (take (n + 1) cs))
totals_next cs n x y old new more same was is =
    is ∙ ap (λ o. with_all o y.programs.items) was ∙ ap (λ (z : CutFound). with_all (sums_of (all_found (take n cs))) z.programs.items) same
    ∙ sums_all (all_found (take n cs)) x.programs.items ∙ ap sums_of (sym (all_push (take n cs) x)) ∙ ap (λ xs. sums_of (all_found xs)) (sym more)

pub no_sums : (t : Totals) → t.cases ≡ 0 → t.failing ≡ 0 → t.torn_beyond ≡ 0 → t.lost_beyond ≡ 0 → t ≡ sums_of []
unfolding sums_of
no_sums t a b c d = λ i. record { cases = a i; failing = b i; torn_beyond = c i; lost_beyond = d i }

pub totals_all : (cs : List CutFound) (n : ℕ) (t : Totals) → length cs ≤ n → t ≡ sums_of (all_found (take n cs)) → t ≡ sums_of (all_found cs)
totals_all cs n t all is = is ∙ ap (λ xs. sums_of (all_found xs)) (take_all n cs all)

pub record AreTotals (cs : List CutFound) (t : Totals) : Type 0 where
  pub cases : t.cases ≡ count_cases cs
  pub failing : t.failing ≡ count_failing cs
  pub torn : t.torn_beyond ≡ count_torn_beyond cs
  pub lost : t.lost_beyond ≡ count_lost_beyond cs

pub are_totals : (cs : List CutFound) (t : Totals) → t ≡ sums_of (all_found cs) → AreTotals cs t
unfolding sums_of
are_totals cs t is = record {
  cases = ap (λ (x : Totals). x.cases) is;
  failing = ap (λ (x : Totals). x.failing) is;
  torn = ap (λ (x : Totals). x.torn_beyond) is;
  lost = ap (λ (x : Totals). x.lost_beyond) is;
}

pub found_told : (cs : List CutFound) (count cases failing torn lost : ℕ) (old a new : List ℕ)
    → count ≡ length cs → cases ≡ count_cases cs → failing ≡ count_failing cs → torn ≡ count_torn_beyond cs → lost ≡ count_lost_beyond cs
    → a ≡ old ++ counts_text count cases failing → new ≡ a ++ beyond_text torn lost → new ≡ old ++ found_text cs
found_told cs count cases failing torn lost old a new count_is cases_is failing_is torn_is lost_is one two =
    let first : a ≡ old ++ counts_text (length cs) (count_cases cs) (count_failing cs) = one ∙ (λ i. old ++ counts_text (count_is i) (cases_is i) (failing_is i)) in
    two ∙ joined old _ _ a first ∙ (λ i. old ++ (counts_text (length cs) (count_cases cs) (count_failing cs) ++ beyond_text (torn_is i) (lost_is i)))

pub totals_told : (all : Bool) (cs : List CutFound) (torn lost : ℕ) (old a b new : List ℕ) → torn ≡ count_torn_beyond cs → lost ≡ count_lost_beyond cs
    → a ≡ old ++ found_text cs → b ≡ a ++ complete_word all torn lost → new ≡ b ++ codes "\n" → new ≡ old ++ totals_text all cs
unfolding totals_text
totals_told all cs torn lost old a b new torn_is lost_is one two three =
    let second = two ∙ joined old _ _ a one ∙ (λ i. old ++ (found_text cs ++ complete_word all (torn_is i) (lost_is i))) in
    three ∙ joined old _ _ b second
