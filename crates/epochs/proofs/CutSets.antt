-- The wanted cuts, as a set in its order.
use Rattle.std.proofs.Common.{ℕ, zero, suc, ◌≡◌, ◌+◌, ◌==◌, ◌<◌, ◌||◌, ◌&&◌, ◌≤◌, ◌⊎◌, Bool, true, false, List, [], ◌∷◌, ◌++◌, length, filter, slice_get, Option, Some, None, IfSome, refl, sym, subst, ◌∙◌, ap, inl, inr, arith, add-one}
use Rattle.std.specs.List.{range_with_len}
use Rattle.std.specs.Option.{option_map_or}
use Rattle.std.proofs.lemmas.Bool.{cases_lt, eqb-true, eq-eqb}
use Rattle.std.proofs.lemmas.Bool.Decides.{nat_tests}
use Rattle.std.proofs.lemmas.Option.{slice_get_within, slice_get_cases, same_Some}
use Rattle.base.proofs.Lists.{slice_get-append_left, slice_get-append_right, slice_get_of_append}
use Rattle.logfmt.specs.declared.entry.Entry.{Entry}
use Rattle.epochs.specs.declared.cuts.Cuts.{Cuts}
use Rattle.epochs.specs.declared.cuts.CutKind.{CutKind}
use Rattle.epochs.specs.declared.cuts.CutKind.TheVariants as kind
use Rattle.epochs.specs.Cuts.{is_of_kind, is_after_first, is_before_last, is_wanted, is_flush_at, is_after_mark}
use Rattle.epochs.specs.Laws.{IsOfKind, IsWanted, CutsAreSet}
use Rattle.epochs.proofs.Wanted.{kept_cut, left_cut}

-- a list has the numbers below n that pass a test, rising
pub record Keeps (p : ℕ → Bool) (n : ℕ) (xs : List ℕ) : Type 0 where
  pub sound : (i k : ℕ) → slice_get xs i ≡ Some k → (k < n) × (p k ≡ true)
  pub complete : (k : ℕ) → k < n → p k ≡ true → (i : ℕ) × (slice_get xs i ≡ Some k)
  pub rising : (i j a b : ℕ) → i < j → slice_get xs i ≡ Some a → slice_get xs j ≡ Some b → a < b

keeps_none : (p : ℕ → Bool) → Keeps p 0 []
keeps_none p = record {
  sound = λ i k h. absurd (let bad : None ≡ Some k = h in cc);
  complete = λ k lt t. absurd (omega (arith, lt));
  rising = λ i j a b lt ha hb. absurd (let bad : None ≡ Some a = ha in cc);
}

at_last : (n i k : ℕ) → slice_get (n ∷ []) i ≡ Some k → (i ≡ 0) × (k ≡ n)
at_last n zero k h = (refl, same_Some k n (sym h))
at_last n (suc i) k h = absurd (let bad : None ≡ Some k = h in cc)

keeps_kept : (p : ℕ → Bool) (n : ℕ) (xs : List ℕ) → p n ≡ true → Keeps p n xs → Keeps p (suc n) (xs ++ n ∷ [])
keeps_kept p n xs h so = record {
  sound = λ i k at. elim (slice_get_of_append xs (n ∷ []) i k at) [
    | inl old ↦ let was = so.sound i k old.1 in (omega (arith, was.0), was.1)
    | inr new ↦ let last = at_last n _ k new.1 in (omega (arith, last.1), ap p last.1 ∙ h)
  ];
  complete = λ k lt t. elim (cases_lt k n) [
    | inl less ↦
        let was = so.complete k less t in
        (was.0, slice_get-append_left xs (n ∷ []) was.0 (slice_get_within xs was.0 k was.1) ∙ was.1)
    | inr more ↦
        let same : n ≡ k = omega (arith, more, lt) in
        (length xs + 0, slice_get-append_right xs (n ∷ []) 0 ∙ ap (λ (m : ℕ). Some m) same)
  ];
  rising = λ i j a b lt ha hb. elim (slice_get_of_append xs (n ∷ []) j b hb) [
    | inl old_b ↦
        let in_a : slice_get xs i ≡ Some a = sym (slice_get-append_left xs (n ∷ []) i (omega (arith, lt, old_b.0))) ∙ ha in
        so.rising i j a b lt in_a old_b.1
    | inr new_b ↦
        let last = at_last n _ b new_b.1 in
        elim (slice_get_of_append xs (n ∷ []) i a ha) [
          | inl old_a ↦ let was = so.sound i a old_a.1 in omega (arith, was.0, last.1)
          | inr new_a ↦ let first = at_last n _ a new_a.1 in absurd (omega (arith, lt, first.0, last.0, new_a.0, new_b.0))
        ]
  ];
}

keeps_left : (p : ℕ → Bool) (n : ℕ) (xs : List ℕ) → p n ≡ false → Keeps p n xs → Keeps p (suc n) xs
keeps_left p n xs h so = record {
  sound = λ i k at. let was = so.sound i k at in (omega (arith, was.0), was.1);
  complete = λ k lt t. elim (cases_lt k n) [
    | inl less ↦ so.complete k less t
    | inr more ↦
        let same : k ≡ n = omega (arith, more, lt) in
        absurd (let bad : true ≡ false = sym t ∙ ap p same ∙ h in cc)
  ];
  rising = so.rising;
}

pub keeps_filter : (p : ℕ → Bool) (n : ℕ) → Keeps p n (filter p (range_with_len 0 n))
keeps_filter p zero = keeps_none p
keeps_filter p (suc n) =
    let P : List ℕ → Type 0 = λ xs. Keeps p (suc n) xs in
    let more : filter p (range_with_len 0 (n + 1)) ≡ filter p (range_with_len 0 (suc n)) = ap (λ m. filter p (range_with_len 0 m)) (add-one n) in
    let by_test : (b : Bool) → p n ≡ b → Keeps p (suc n) (filter p (range_with_len 0 (suc n))) =
    λ b. elim b as (λ v. p n ≡ v → Keeps p (suc n) (filter p (range_with_len 0 (suc n)))) [
      | true ↦ λ e. subst P (sym (kept_cut p n e) ∙ more) (keeps_kept p n (filter p (range_with_len 0 n)) e (keeps_filter p n))
      | false ↦ λ e. subst P (sym (left_cut p n e) ∙ more) (keeps_left p n (filter p (range_with_len 0 n)) e (keeps_filter p n))
    ] in
    by_test (p n) refl

-- an entry of which a flag is set
flagged : (test : Entry → Bool) (es : List Entry) (k : ℕ) → option_map_or test (slice_get es k) false ≡ true
    → (entry : Entry) × (slice_get es k ≡ Some entry) × (test entry ≡ true)
flagged test es k h = elim (slice_get_cases es k).1 [
  | inl here ↦ (here.0, here.2, ap (λ o. option_map_or test o false) (sym here.2) ∙ h)
  | inr past ↦ absurd (let bad : false ≡ true = ap (λ o. option_map_or test o false) (sym past.1) ∙ h in cc)
]

flag_there : (test : Entry → Bool) (es : List Entry) (k : ℕ) (entry : Entry) → slice_get es k ≡ Some entry → test entry ≡ true
    → option_map_or test (slice_get es k) false ≡ true
flag_there test es k entry there h = ap (λ o. option_map_or test o false) there ∙ h

either : (a b : Bool) → (a || b) ≡ true → (a ≡ true) ⊎ (b ≡ true)
either true b h = inl refl
either false b h = inr h

or_right : (a b : Bool) → b ≡ true → (a || b) ≡ true
or_right true b h = refl
or_right false b h = h

or_left : (a b : Bool) → a ≡ true → (a || b) ≡ true
or_left true b h = refl
or_left false b h = absurd (let bad : false ≡ true = h in cc)

-- the test of a kind, and what it means
kind_means : (wanted : CutKind) (es : List Entry) (k : ℕ) → k < length es + 1 → is_of_kind wanted es k ≡ true → IsOfKind wanted es k
kind_means kind.All es k lt h = omega (arith, lt)
kind_means kind.BeforeFlush es k lt h = elim (either (k == length es) (is_flush_at es k) h) [
  | inl last ↦ inl (eqb-true k (length es) last)
  | inr flush ↦ inr (flagged (λ (entry : Entry). entry.flags.flush) es k flush)
]
kind_means kind.AfterMark es zero lt h = absurd (let bad : false ≡ true = h in cc)
kind_means kind.AfterMark es (suc e) lt h =
    let it = flagged (λ (entry : Entry). entry.flags.mark) es e h in
    (e, it.0, omega arith, it.1, it.2)

kind_below : (wanted : CutKind) (es : List Entry) (k : ℕ) → IsOfKind wanted es k → k < length es + 1
kind_below kind.All es k h = omega (arith, h)
kind_below kind.BeforeFlush es k h = elim h [
  | inl last ↦ omega (arith, last)
  | inr flush ↦ omega (arith, slice_get_within es k flush.0 flush.1)
]
kind_below kind.AfterMark es k h = omega (arith, slice_get_within es h.0 h.1 h.3, h.2)

kind_tests : (wanted : CutKind) (es : List Entry) (k : ℕ) → IsOfKind wanted es k → is_of_kind wanted es k ≡ true
kind_tests kind.All es k h = refl
kind_tests kind.BeforeFlush es k h = elim h [
  | inl last ↦ or_left (k == length es) (is_flush_at es k) (eq-eqb k (length es) last)
  | inr flush ↦ or_right (k == length es) (is_flush_at es k) (flag_there (λ (entry : Entry). entry.flags.flush) es k flush.0 flush.1 flush.2)
]
kind_tests kind.AfterMark es k h =
    let next : k ≡ suc h.0 = omega (arith, h.2) in
    ap (is_after_mark es) next ∙ flag_there (λ (entry : Entry). entry.flags.mark) es h.0 h.1 h.3 h.4

both : (a b : Bool) → (a && b) ≡ true → (a ≡ true) × (b ≡ true)
both true b h = (refl, h)
both false b h = absurd (let bad : false ≡ true = h in cc)

and_both : (a b : Bool) → a ≡ true → b ≡ true → (a && b) ≡ true
and_both true b h k = k
and_both false b h k = absurd (let bad : false ≡ true = h in cc)

first_means : (first : Option ℕ) (k : ℕ) → is_after_first first k ≡ true → IfSome first (λ n. n ≤ k)
first_means None k h = tt
first_means (Some n) k h = grind (arith, nat_tests, h)

first_tests : (first : Option ℕ) (k : ℕ) → IfSome first (λ n. n ≤ k) → is_after_first first k ≡ true
first_tests None k h = refl
first_tests (Some n) k h = grind (arith, nat_tests, h)

last_means : (last : Option ℕ) (k : ℕ) → is_before_last last k ≡ true → IfSome last (λ n. k ≤ n)
last_means None k h = tt
last_means (Some n) k h = grind (arith, nat_tests, h)

last_tests : (last : Option ℕ) (k : ℕ) → IfSome last (λ n. k ≤ n) → is_before_last last k ≡ true
last_tests None k h = refl
last_tests (Some n) k h = grind (arith, nat_tests, h)

-- the test of a cut, and what it means
test_means : (wanted : Cuts) (es : List Entry) (k : ℕ) → k < length es + 1 → is_wanted wanted es k ≡ true → IsWanted wanted es k
test_means wanted es k lt h =
    let early = both (is_of_kind wanted.kind es k && is_after_first wanted.from k) (is_before_last wanted.to k) h in
    let late = both (is_of_kind wanted.kind es k) (is_after_first wanted.from k) early.0 in
    record {
      of_kind = kind_means wanted.kind es k lt late.0;
      beyond = first_means wanted.from k late.1;
      before = last_means wanted.to k early.1;
    }

meaning_tests : (wanted : Cuts) (es : List Entry) (k : ℕ) → IsWanted wanted es k → is_wanted wanted es k ≡ true
meaning_tests wanted es k h =
    and_both (is_of_kind wanted.kind es k && is_after_first wanted.from k) (is_before_last wanted.to k)
    (and_both (is_of_kind wanted.kind es k) (is_after_first wanted.from k) (kind_tests wanted.kind es k h.of_kind) (first_tests wanted.from k h.beyond))
    (last_tests wanted.to k h.before)

pub cuts_are_set : CutsAreSet
cuts_are_set wanted es =
    let all = keeps_filter (is_wanted wanted es) (length es + 1) in
    record {
      sound = λ i k h. let is = all.sound i k h in test_means wanted es k is.0 is.1;
      complete = λ k h. all.complete k (kind_below wanted.kind es k h.of_kind) (meaning_tests wanted es k h);
      rising = all.rising;
    }
