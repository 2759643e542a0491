-- The cuts that are explored.
use Rattle.std.proofs.Common.{ℕ, zero, suc, ◌≡◌, ◌+◌, ◌-◌, ◌<◌, ◌≤◌, Bool, true, false, if◌then◌else◌, List, All, length, [], ◌∷◌, ◌++◌, filter, sym, subst, ◌∙◌, ap, arith}
use Rattle.std.specs.List.{range_with_len, AllByRecursion}
use Rattle.std.proofs.lemmas.List.Elements.{filter-append, All-from_recursion}
use Rattle.base.proofs.Lists.{range_with_len-more}
use Rattle.logfmt.specs.declared.entry.Entry.{Entry}
use Rattle.epochs.specs.Units.{is_forced}
use Rattle.cases.specs.Risk.{is_after_forced}
use Rattle.case_runs.specs.Cuts.{is_explored, explored_cuts}

pub after_none : (es : List Entry) (n : ℕ) → n ≡ 0 → is_after_forced es n ≡ false
after_none es n is = ap (is_after_forced es) is

pub after_one : (es : List Entry) (n : ℕ) → 1 ≤ n → is_after_forced es n ≡ is_forced es (n - 1)
after_one es zero low = absurd (omega (arith, low))
after_one es (suc n) low = ap (is_forced es) (let e : n ≡ suc n - 1 = omega arith in e)

pub kept_more : (p : ℕ → Bool) (a n m : ℕ) (old new : List ℕ) → m ≡ a + n → old ≡ filter p (range_with_len a n) → new ≡ old ++ filter p (m ∷ []) → new ≡ filter p (range_with_len a (n + 1))
kept_more p a n m old new at was is =
    is ∙ ap (λ k. old ++ filter p (k ∷ [])) at ∙ ap (λ xs. xs ++ filter p ((a + n) ∷ [])) was
    ∙ sym (ap (filter p) (range_with_len-more a n) ∙ filter-append p (range_with_len a n) ((a + n) ∷ []))

pub kept_all : (p : ℕ → Bool) (a n m : ℕ) (out : List ℕ) → n ≤ m → m ≤ n → out ≡ filter p (range_with_len a n) → out ≡ filter p (range_with_len a m)
kept_all p a n m out low high is = is ∙ ap (λ k. filter p (range_with_len a k)) (let e : n ≡ m = omega (arith, low, high) in e)

among_range : (p : ℕ → Bool) (P : ℕ → Type 0) (a n : ℕ) → ((i : ℕ) → a ≤ i → i < a + n → P i) → AllByRecursion P (filter p (range_with_len a n))
among_range p P a zero each = tt
among_range p P a (suc n) each = by (p a) (among_range p P (a + 1) n (λ i low high. each i (omega (arith, low)) (omega (arith, high))))
  where
    by : (b : Bool) → AllByRecursion P (filter p (range_with_len (a + 1) n)) → AllByRecursion P (if b then a ∷ filter p (range_with_len (a + 1) n) else filter p (range_with_len (a + 1) n))
    by true rest = (each a (omega arith) (omega arith), rest)
    by false rest = rest

pub record ExploredSo (es : List Entry) (from to : ℕ) (out : List ℕ) : Type 0 where
  pub value : out ≡ explored_cuts es from to
  pub within : All (λ cut. cut ≤ length es) out

pub explored_told : (es held : List Entry) (from to n : ℕ) (out : List ℕ) → held ≡ es → n ≡ to + 1 - from → out ≡ filter (is_explored held to) (range_with_len from n) → to ≤ length es
    → ExploredSo es from to out
explored_told es held from to n out same count is end =
    let value : out ≡ explored_cuts es from to = is ∙ ap (λ (h : List Entry). filter (is_explored h to) (range_with_len from n)) same ∙ ap (λ m. filter (is_explored es to) (range_with_len from m)) count in
    record {
      value = value;
      within = subst (All (λ cut. cut ≤ length es)) (sym value) (All-from_recursion (λ cut. cut ≤ length es) (explored_cuts es from to)
          (among_range (is_explored es to) (λ cut. cut ≤ length es) from (to + 1 - from) (λ i low high. omega (arith, low, high, end))));
    }
