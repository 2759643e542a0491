-- Parts of a range of cuts: they have each cut once.
use Rattle.std.proofs.Common.{ℕ, zero, suc, ◌≡◌, ◌≤◌, ◌<◌, ◌+◌, ◌-◌, ◌==◌, ◌&&◌, ◌||◌, Bool, true, false, nat_le, List, [], ◌∷◌, ◌++◌, length, map, filter, take, drop, slice_get, None, Some, refl, sym, subst, ◌∙◌, ap, inl, inr, arith, length-drop, length-take}
use Rattle.std.specs.List.{range_with_len}
use Rattle.std.proofs.Math.Nat.{eq-or-lt_of_le}
use Rattle.std.proofs.lemmas.Bool.Decides.{nat_tests}
use Rattle.std.proofs.lemmas.List.FromFn.{length-range_with_len}
use Rattle.std.proofs.lemmas.List.Sums.{length-filter, count_by-le-length}
use Rattle.std.proofs.lemmas.List.{append-nil, drop-map, take-append-drop}
use Rattle.std.proofs.lemmas.List.Elements.{All-nil, All-cons, filter-append}
use Rattle.base.proofs.Lists.{range_with_len-append}
use Rattle.inspect.specs.declared.looks.risks.CutRisk.{CutRisk}
use Rattle.inspect.specs.declared.looks.cut_layout.CutRange.{CutRange}
use Rattle.inspect.specs.CutLayout.{part_cuts, cut_at, cut_ranges}
use Rattle.inspect.specs.CutParts.{AreAll}

filter_yes : (q : ℕ → Bool) (a : ℕ) (xs : List ℕ) → q a ≡ true → filter q (a ∷ xs) ≡ a ∷ filter q xs
filter_yes q a xs yes' = rw yes' refl

filter_not : (q : ℕ → Bool) (a : ℕ) (xs : List ℕ) → q a ≡ false → filter q (a ∷ xs) ≡ filter q xs
filter_not q a xs not' = rw not' refl

-- a number of a range that passes, and which stand up to it and after it
pub record Parted (q : ℕ → Bool) (a m n b : ℕ) : Type 0 where
  pub low : a ≤ b
  pub high : b < a + m
  pub passes : q b ≡ true
  pub front : filter q (range_with_len a (b + 1 - a)) ≡ take (n + 1) (filter q (range_with_len a m))
  pub back : filter q (range_with_len (b + 1) (a + m - (b + 1))) ≡ drop (n + 1) (filter q (range_with_len a m))

parted_here : (q : ℕ → Bool) (a m : ℕ) → q a ≡ true → Parted q a (suc m) 0 a
parted_here q a m here =
    let one : a + 1 - a ≡ 1 = omega arith in
    let rest : a + suc m - (a + 1) ≡ m = omega arith in
    let first : 0 + 1 ≡ 1 = omega arith in
    record {
      low = omega arith;
      high = omega arith;
      passes = here;
      front = rw (one, first, here) refl;
      back = rw (rest, first, here) refl;
    }

parted_more : (q : ℕ → Bool) (a m n b : ℕ) → q a ≡ true → Parted q (a + 1) m n b → Parted q a (suc m) (suc n) b
parted_more q a m n b here p =
    let low = p.low in
    let high = p.high in
    let long : b + 1 - a ≡ suc (b + 1 - (a + 1)) = omega (arith, low) in
    let end : a + suc m - (b + 1) ≡ a + 1 + m - (b + 1) = omega arith in
    let next : suc n + 1 ≡ suc (n + 1) = omega arith in
    record {
      low = omega (arith, low);
      high = omega (arith, high);
      passes = p.passes;
      front = rw (long, next, here) (ap (λ (xs : List ℕ). a ∷ xs) p.front);
      back = rw (end, next, here) p.back;
    }

parted_past : (q : ℕ → Bool) (a m n b : ℕ) → q a ≡ false → Parted q (a + 1) m n b → Parted q a (suc m) n b
parted_past q a m n b here p =
    let low = p.low in
    let high = p.high in
    let long : b + 1 - a ≡ suc (b + 1 - (a + 1)) = omega (arith, low) in
    let end : a + suc m - (b + 1) ≡ a + 1 + m - (b + 1) = omega arith in
    record {
      low = omega (arith, low);
      high = omega (arith, high);
      passes = p.passes;
      front = rw (long, here) p.front;
      back = rw (end, here) p.back;
    }

-- each number of a range that passes parts it
pub parted : (q : ℕ → Bool) (a m n b : ℕ) → slice_get (filter q (range_with_len a m)) n ≡ Some b → Parted q a m n b
parted q a zero n b there = absurd (let bad : None ≡ Some b = there in cc)
parted q a (suc m) n b there =
    let by_test : (v : Bool) → q a ≡ v → Parted q a (suc m) n b = λ v. elim v as (λ w. q a ≡ w → Parted q a (suc m) n b) [
      | true ↦ λ k. among (λ j h. parted q (a + 1) m j b h) n k (ap (λ xs. slice_get xs n) (sym (filter_yes q a (range_with_len (a + 1) m) k)) ∙ there)
      | false ↦ λ k. parted_past q a m n b k (parted q (a + 1) m n b (ap (λ xs. slice_get xs n) (sym (filter_not q a (range_with_len (a + 1) m) k)) ∙ there))
    ] in
    by_test (q a) refl
  where
    among : ((j : ℕ) → slice_get (filter q (range_with_len (a + 1) m)) j ≡ Some b → Parted q (a + 1) m j b) → (i : ℕ) → q a ≡ true → slice_get (a ∷ filter q (range_with_len (a + 1) m)) i ≡ Some b → Parted q a (suc m) i b
    among later zero k h = let same : a ≡ b = (let e : Some a ≡ Some b = h in cc) in subst (λ c. Parted q a (suc m) 0 c) same (parted_here q a m k)
    among later (suc i) k h = parted_more q a m i b k (later i h)

-- where two tests agree on a range
pub same_on : (p q : ℕ → Bool) (a m : ℕ) → ((k : ℕ) → a ≤ k → k < a + m → p k ≡ q k) → filter p (range_with_len a m) ≡ filter q (range_with_len a m)
same_on p q a zero same = refl
same_on p q a (suc m) same =
    let here : p a ≡ q a = same a (omega arith) (omega arith) in
    let rest = same_on p q (a + 1) m (λ k low high. same k (omega (arith, low)) (omega (arith, high))) in
    let by_test : (v : Bool) → q a ≡ v → filter p (a ∷ range_with_len (a + 1) m) ≡ filter q (a ∷ range_with_len (a + 1) m) = λ v. elim v as (λ w. q a ≡ w → filter p (a ∷ range_with_len (a + 1) m) ≡ filter q (a ∷ range_with_len (a + 1) m)) [
      | true ↦ λ k. filter_yes p a (range_with_len (a + 1) m) (here ∙ k) ∙ ap (λ (xs : List ℕ). a ∷ xs) rest ∙ sym (filter_yes q a (range_with_len (a + 1) m) k)
      | false ↦ λ k. filter_not p a (range_with_len (a + 1) m) (here ∙ k) ∙ rest ∙ sym (filter_not q a (range_with_len (a + 1) m) k)
    ] in
    by_test (q a) refl

none_on : (p : ℕ → Bool) (a m : ℕ) → ((k : ℕ) → a ≤ k → k < a + m → p k ≡ false) → filter p (range_with_len a m) ≡ []
none_on p a zero none = refl
none_on p a (suc m) none =
    filter_not p a (range_with_len (a + 1) m) (none a (omega arith) (omega arith))
    ∙ none_on p (a + 1) m (λ k low high. none k (omega (arith, low)) (omega (arith, high)))

-- How a list of cuts of a range is parted at one of them that isn't the last.
abbrev pub Splits : (ℕ → ℕ → List ℕ) → ℕ → Type 0
Splits at last = (first n b : ℕ) → first ≤ last → slice_get (at first last) n ≡ Some b → n + 1 < length (at first last)
    → (first ≤ b) × (b < last) × (at first b ≡ take (n + 1) (at first last)) × (at (b + 1) last ≡ drop (n + 1) (at first last))

cut_there : (risks : List CutRisk) (i : ℕ) → i < length risks → slice_get (map (λ (r : CutRisk). r.cut) risks) i ≡ Some (cut_at risks i)
cut_there [] i within = absurd (omega (arith, within))
cut_there (r ∷ risks) zero within = refl
cut_there (r ∷ risks) (suc i) within = cut_there risks i (omega (arith, within))

-- one part for all
all_in_one : (at : ℕ → ℕ → List ℕ) (first last : ℕ) → first ≤ last → AreAll at first last (record { from = first; to = last } ∷ [])
all_in_one at first last le = record {
  follow = (refl, le, refl);
  each = append-nil (at first last);
  some = λ has. All-cons (λ (r : CutRange). 0 < length (at r.from r.to)) (record { from = first; to = last }) [] has (All-nil (λ (r : CutRange). 0 < length (at r.from r.to)));
}

-- one more before the others
one_more : (at : ℕ → ℕ → List ℕ) (first last b n : ℕ) (others : List CutRange) → first ≤ b → at first b ≡ take (n + 1) (at first last) → at (b + 1) last ≡ drop (n + 1) (at first last)
    → n + 1 < length (at first last) → AreAll at (b + 1) last others → AreAll at first last (record { from = first; to = b } ∷ others)
one_more at first last b n others le front back less rest =
    let whole = at first last in
    let here : 0 < length (at first b) = (let long = ap length front in let short = length-take (n + 1) whole in omega (arith, long, short, less)) in
    let left : 0 < length (at (b + 1) last) = (let long = ap length back in let short = length-drop (n + 1) whole in omega (arith, long, short, less)) in
    record {
      follow = (refl, le, rest.follow);
      each = ap (λ (xs : List ℕ). at first b ++ xs) rest.each ∙ ap (λ (xs : List ℕ). xs ++ at (b + 1) last) front ∙ ap (λ (xs : List ℕ). take (n + 1) whole ++ xs) back ∙ take-append-drop (n + 1) whole;
      some = λ has. All-cons (λ (r : CutRange). 0 < length (at r.from r.to)) (record { from = first; to = b }) others here (rest.some left);
    }

pub parts_have_all : (at : ℕ → ℕ → List ℕ) (last : ℕ) → Splits at last → (parts first : ℕ) (risks : List CutRisk) → first ≤ last → map (λ (r : CutRisk). r.cut) risks ≡ at first last
    → 1 ≤ parts → (1 < parts → parts ≤ length risks) → AreAll at first last (cut_ranges parts first last risks)
parts_have_all at last splits zero first risks le are one few = absurd (omega (arith, one))
parts_have_all at last splits (suc zero) first risks le are one few = all_in_one at first last le
parts_have_all at last splits (suc (suc more)) first risks le are one few =
    let parts = suc (suc more) in
    let n : ℕ = part_cuts parts risks in
    let b : ℕ = cut_at risks (n - 1) in
    let enough : parts ≤ length risks = few (omega arith) in
    let low : 1 ≤ n = omega arith in
    let high : n + parts ≤ length risks + 1 = omega (arith, enough) in
    let there : slice_get (at first last) (n - 1) ≡ Some b = ap (λ xs. slice_get xs (n - 1)) (sym are) ∙ cut_there risks (n - 1) (omega (arith, low, high)) in
    let long : length (at first last) ≡ length risks = ap length (sym are) ∙ length_map risks in
    let count : n - 1 + 1 ≡ n = omega (arith, low) in
    let at_cut = splits first (n - 1) b le there (omega (arith, long, low, high)) in
    let rest : map (λ (r : CutRisk). r.cut) (drop n risks) ≡ at (b + 1) last =
    sym (drop-map (λ (r : CutRisk). r.cut) n risks) ∙ ap (drop n) are ∙ ap (λ k. drop k (at first last)) (sym count) ∙ sym at_cut.3 in
    let left = length-drop n risks in
    one_more at first last b (n - 1) (cut_ranges (suc more) (b + 1) last (drop n risks)) at_cut.0 at_cut.2 at_cut.3 (omega (arith, long, low, high))
    (parts_have_all at last splits (suc more) (b + 1) (drop n risks) (omega (arith, at_cut.1)) rest (omega arith) (λ some. omega (arith, left, high, some)))
  where
    length_map : (xs : List CutRisk) → length (map (λ (r : CutRisk). r.cut) xs) ≡ length xs
    length_map [] = refl
    length_map (x ∷ xs) = ap suc (length_map xs)

-- the numbers of a range between two bounds
pub filter_inside : (p : ℕ → Bool) (a b n : ℕ) → a ≤ b → b < n → filter (λ k. p k && nat_le a k && nat_le k b) (range_with_len 0 n) ≡ filter p (range_with_len a (b + 1 - a))
filter_inside p a b n le less =
    let q : ℕ → Bool = λ k. p k && nat_le a k && nat_le k b in
    let parts : n ≡ a + (b + 1 - a + (n - (b + 1))) = omega (arith, le, less) in
    let from : 0 + a ≡ a = omega arith in
    let beyond : a + (b + 1 - a) ≡ b + 1 = omega (arith, le) in
    let front : filter q (range_with_len 0 a) ≡ [] = none_on q 0 a (λ k low high. before (p k) (nat_le k b) k (omega (arith, high))) in
    let middle : filter q (range_with_len a (b + 1 - a)) ≡ filter p (range_with_len a (b + 1 - a)) = same_on q p a (b + 1 - a) (λ k low high. inside (p k) k low (omega (arith, high, le))) in
    let back : filter q (range_with_len (b + 1) (n - (b + 1))) ≡ [] = none_on q (b + 1) (n - (b + 1)) (λ k low high. after (p k && nat_le a k) k low) in
    ap (λ k. filter q (range_with_len 0 k)) parts ∙ ap (filter q) (range_with_len-append 0 a (b + 1 - a + (n - (b + 1)))) ∙ filter-append q (range_with_len 0 a) (range_with_len (0 + a) (b + 1 - a + (n - (b + 1))))
    ∙ rw (front, from) (ap (filter q) (range_with_len-append a (b + 1 - a) (n - (b + 1))) ∙ filter-append q (range_with_len a (b + 1 - a)) (range_with_len (a + (b + 1 - a)) (n - (b + 1)))
    ∙ rw (middle, beyond, back) (append-nil (filter p (range_with_len a (b + 1 - a)))))
  where
    before : (v w : Bool) (k : ℕ) → k < a → (v && nat_le a k && w) ≡ false
    before true w k low = let no' : nat_le a k ≡ false = grind (arith, nat_tests, low) in rw no' refl
    before false w k low = refl

    inside : (v : Bool) (k : ℕ) → a ≤ k → k ≤ b → (v && nat_le a k && nat_le k b) ≡ v
    inside true k low high = let first : nat_le a k ≡ true = grind (arith, nat_tests, low) in let second : nat_le k b ≡ true = grind (arith, nat_tests, high) in rw (first, second) refl
    inside false k low high = refl

    after : (v : Bool) (k : ℕ) → b + 1 ≤ k → (v && nat_le k b) ≡ false
    after true k low = let no' : nat_le k b ≡ false = grind (arith, nat_tests, low) in rw no' refl
    after false k low = refl

-- the last cuts of a range, and its end
abbrev pub ends_in : (ℕ → Bool) → ℕ → ℕ → List ℕ
ends_in p from to = filter (λ k. p k || (k == to)) (range_with_len from (to + 1 - from))

-- the cuts of a kind
abbrev pub kind_in : (ℕ → Bool) → ℕ → ℕ → List ℕ
kind_in p from to = filter p (range_with_len from (to + 1 - from))

kept : (p : ℕ → Bool) (xs : List ℕ) → length (filter p xs) ≤ length xs
kept p xs = let long = length-filter p xs in let fewer = count_by-le-length p xs in omega (arith, long, fewer)

-- a number that isn't the last that passes stands before the end of the range
stands_before : (q : ℕ → Bool) (first last n b : ℕ) → first ≤ last → Parted q first (last + 1 - first) n b → n + 1 < length (filter q (range_with_len first (last + 1 - first))) → b < last
stands_before q first last n b le p less =
    let left = ap length p.back in
    let some = length-drop (n + 1) (filter q (range_with_len first (last + 1 - first))) in
    let few = kept q (range_with_len (b + 1) (first + (last + 1 - first) - (b + 1))) in
    let long = length-range_with_len (b + 1) (first + (last + 1 - first) - (b + 1)) in
    omega (arith, left, some, few, long, less, le)

rest_is : (q : ℕ → Bool) (first last n b : ℕ) → first ≤ last → b < last → Parted q first (last + 1 - first) n b
    → filter q (range_with_len (b + 1) (last + 1 - (b + 1))) ≡ drop (n + 1) (filter q (range_with_len first (last + 1 - first)))
rest_is q first last n b le less p =
    let count : last + 1 - (b + 1) ≡ first + (last + 1 - first) - (b + 1) = omega (arith, le, less) in
    ap (λ k. filter q (range_with_len (b + 1) k)) count ∙ p.back

pub splits_kind : (p : ℕ → Bool) (last : ℕ) → Splits (kind_in p) last
splits_kind p last first n b le there less =
    let at = parted p first (last + 1 - first) n b there in
    let before = stands_before p first last n b le at less in
    (at.low, before, at.front, rest_is p first last n b le before at)

other_test : (m n : ℕ) → m < n → (m == n) ≡ false
other_test m n less = grind (arith, nat_tests, less)

of_either : (v w : Bool) → (v || w) ≡ true → w ≡ false → v ≡ true
of_either true w h no' = refl
of_either false w h no' = absurd (let bad : false ≡ true = sym no' ∙ h in cc)

-- up to a last cut no matter which of two ends a range has
same_end : (p : ℕ → Bool) (b last k : ℕ) → p b ≡ true → k ≤ b → b < last → (p k || (k == b)) ≡ (p k || (k == last))
same_end p b last k is low less =
    let past : (k == last) ≡ false = other_test k last (omega (arith, low, less)) in
    elim (eq-or-lt_of_le low) [
      | inl here ↦ let own : p k ≡ true = ap p here ∙ is in rw own refl
      | inr before ↦ let not' : (k == b) ≡ false = other_test k b before in rw (past, not') refl
    ]

pub splits_last : (p : ℕ → Bool) (last : ℕ) → Splits (ends_in p) last
splits_last p last first n b le there less =
    let q : ℕ → Bool = λ k. p k || (k == last) in
    let at = parted q first (last + 1 - first) n b there in
    let before = stands_before q first last n b le at less in
    let is : p b ≡ true = of_either (p b) (b == last) at.passes (other_test b last before) in
    let low = at.low in
    let own = same_on (λ k. p k || (k == b)) q first (b + 1 - first) (λ k low' high. same_end p b last k is (omega (arith, high, low)) before) in
    (at.low, before, own ∙ at.front, rest_is q first last n b le before at)

pub count_ranges : (parts first last : ℕ) (risks : List CutRisk) → length (cut_ranges parts first last risks) ≡ parts
count_ranges zero first last risks = refl
count_ranges (suc zero) first last risks = refl
count_ranges (suc (suc more)) first last risks = ap suc (count_ranges (suc more) (cut_at risks (part_cuts (suc (suc more)) risks - 1) + 1) last (drop (part_cuts (suc (suc more)) risks) risks))
