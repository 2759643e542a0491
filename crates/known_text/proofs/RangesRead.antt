-- Ranges, read from their text.
use Rattle.std.proofs.Common.{ℕ, ◌≡◌, ◌≢◌, ◌+◌, ◌%◌, ◌<◌, ◌^◌, ◌==◌, true, false, List, [], ◌∷◌, ◌++◌, length, get_or, append_assoc, append-nil, codes, refl, sym, subst, ap, ◌∙◌, inl, inr, arith}
use Rattle.std.specs.Fmt.{decimal}
use Rattle.std.specs.List.{flat_map}
use Rattle.std.proofs.lemmas.Fmt.{decimal_by_steps, decimal_nonempty}
use Rattle.std.proofs.lemmas.Bool.Decides.{nat_tests, eqb_tells}
use Rattle.report.specs.MarkReading.{lacks}
use Rattle.report.proofs.Back.{lacks_both}
use Rattle.known_text.specs.declared.looked.SectorRange.{SectorRange}
use Rattle.known_text.specs.Ranges.{range_text, next_range, ranges_text}
use Rattle.known_text.specs.Reading.{IsCut, NoCut, IsSmall, AreSmall, ReadsRange, HasReadSome, ReadsRanges}
use Rattle.known_text.proofs.Texts.{one_cut, has_it}

-- no digit is c
abbrev pub NoDigit : ℕ → Type 0
NoDigit c = (k : ℕ) → k < 10 → ((48 + k) == c) ≡ false

pub number_lacks : (c n : ℕ) → NoDigit c → n < 2 ^ 64 → lacks c (decimal n) ≡ true
number_lacks c n other = decimal_by_steps (λ (m : ℕ) (ds : List ℕ). lacks c ds ≡ true) (λ m small. rw (other m small) refl)
    (λ m ds big l. lacks_both c ds ((48 + m % 10) ∷ []) l (rw (other (m % 10) (omega arith)) refl)) n

pub comma_digits : NoDigit 44
comma_digits k small = grind (arith, nat_tests)

pub hyphen_digits : NoDigit 45
hyphen_digits k small = grind (arith, nat_tests)

pub blank_digits : NoDigit 32
blank_digits k small = grind (arith, nat_tests)

pub less : (n : ℕ) → n < 2 ^ 32 → n < 2 ^ 64
less n small = omega (arith, small)

-- the number of 32 bits that a word says, if it says one
abbrev pub SaysSmall : List ℕ → ℕ → Type 0
SaysSmall word found = (n : ℕ) → n < 2 ^ 32 → word ≡ decimal n → found ≡ n

-- the text of a range is one number, or two with a hyphen between
one_text : (r : SectorRange) → r.first ≡ r.last → range_text r ≡ decimal r.first
unfolding range_text
one_text r e = elim (eqb_tells r.first r.last) [
  | inl same ↦ let is = same.0 in rw is refl
  | inr other ↦ absurd (other.1 e)
]

two_text : (r : SectorRange) → r.first ≢ r.last → range_text r ≡ decimal r.first ++ 45 ∷ decimal r.last
unfolding range_text
two_text r differs = elim (eqb_tells r.first r.last) [
  | inl same ↦ absurd (differs same.1)
  | inr other ↦ let is = other.0 in rw is (append_assoc (decimal r.first) (codes "-") (decimal r.last))
]

pub one_read : (word : List ℕ) (n : ℕ) → NoCut 45 word → SaysSmall word n → ReadsRange word (record { first = n; last = n })
one_read word n lack says = record { read = reads }
  where
    reads : (r : SectorRange) → IsSmall r → word ≡ range_text r → record { first = n; last = n } ≡ r
    reads r small e = elim (eqb_tells r.first r.last) [
      | inl same ↦
          let last = small.small in
          let order = small.order in
          let own : n ≡ r.first = says r.first (omega (arith, order, last)) (e ∙ one_text r same.1) in
          let other : n ≡ r.last = own ∙ same.1 in
          λ i. record { first = own i; last = other i }
      | inr other ↦ absurd (has_it 45 (decimal r.first) (decimal r.last) (subst (λ (bs : List ℕ). lacks 45 bs ≡ true) (e ∙ two_text r other.1) lack.none))
    ]

pub two_read : (word front back : List ℕ) (a b : ℕ) → IsCut 45 word front back → SaysSmall front a → SaysSmall back b → ReadsRange word (record { first = a; last = b })
two_read word front back a b cut first last = record { read = reads }
  where
    reads : (r : SectorRange) → IsSmall r → word ≡ range_text r → record { first = a; last = b } ≡ r
    reads r small e = elim (eqb_tells r.first r.last) [
      | inl same ↦
          let high = small.small in
          let order = small.order in
          let one : decimal r.first ≡ front ++ 45 ∷ back = sym (one_text r same.1) ∙ sym e ∙ cut.is in
          absurd (has_it 45 front back (subst (λ (bs : List ℕ). lacks 45 bs ≡ true) one (number_lacks 45 r.first hyphen_digits (omega (arith, order, high)))))
      | inr other ↦
          let high = small.small in
          let order = small.order in
          let parts = one_cut 45 front (decimal r.first) back (decimal r.last) cut.first (number_lacks 45 r.first hyphen_digits (omega (arith, order, high))) (sym cut.is ∙ e ∙ two_text r other.1) in
          let one : a ≡ r.first = first r.first (omega (arith, order, high)) parts.0 in
          let two : b ≡ r.last = last r.last high parts.1 in
          λ i. record { first = one i; last = two i }
    ]

-- a range has no comma, and is no hyphen

range_lacks : (c : ℕ) → NoDigit c → (45 == c) ≡ false → (r : SectorRange) → IsSmall r → lacks c (range_text r) ≡ true
range_lacks c other hyphen r small = elim (eqb_tells r.first r.last) [
  | inl same ↦ let high = small.small in let order = small.order in rw (one_text r same.1) (number_lacks c r.first other (omega (arith, order, high)))
  | inr differ ↦
      let high = small.small in
      let order = small.order in
      rw (two_text r differ.1)
      (lacks_both c (decimal r.first) (45 ∷ decimal r.last) (number_lacks c r.first other (omega (arith, order, high)))
      (rw hyphen (number_lacks c r.last other (less r.last high))))
]

more_is : (a b : SectorRange) (rs : List SectorRange) → ranges_text (a ∷ b ∷ rs) ≡ range_text a ++ 44 ∷ ranges_text (b ∷ rs)
unfolding ranges_text
more_is a b rs = refl

one_is : (a : SectorRange) → ranges_text (a ∷ []) ≡ range_text a
unfolding ranges_text
one_is a = append-nil (range_text a)

hyphen_is : ranges_text [] ≡ codes "-"
unfolding ranges_text
hyphen_is = refl

-- a text of ranges has a first byte, which is a digit
first_some : (n : ℕ) (xs : List ℕ) → n < 2 ^ 64 → decimal n ++ xs ≢ codes "-"
first_some n xs small e = by_list (decimal n) (decimal_nonempty n small) (number_lacks 45 n hyphen_digits small) e
  where
    by_list : (ds : List ℕ) → 0 < length ds → lacks 45 ds ≡ true → ds ++ xs ≢ codes "-"
    by_list [] some own same = omega (arith, some)
    by_list (d ∷ ds) some own same =
        let first : d ≡ 45 = ap (λ (bs : List ℕ). get_or bs 0 0) same in
        let bad : false ≡ true = subst (λ (y : ℕ). lacks 45 (y ∷ ds) ≡ true) first own in
        absurd cc

begins : (r : SectorRange) (more : List ℕ) → IsSmall r → range_text r ++ more ≢ codes "-"
begins r more small e = elim (eqb_tells r.first r.last) [
  | inl same ↦
      let high = small.small in
      let order = small.order in
      first_some r.first more (omega (arith, order, high)) (ap (λ (bs : List ℕ). bs ++ more) (sym (one_text r same.1)) ∙ e)
  | inr differ ↦
      let high = small.small in
      let order = small.order in
      first_some r.first (45 ∷ decimal r.last ++ more) (omega (arith, order, high))
      (sym (append_assoc (decimal r.first) (45 ∷ decimal r.last) more) ∙ ap (λ (bs : List ℕ). bs ++ more) (sym (two_text r differ.1)) ∙ e)
]

not_hyphen : (a : SectorRange) (rs : List SectorRange) → IsSmall a → ranges_text (a ∷ rs) ≢ codes "-"
unfolding ranges_text
not_hyphen a rs small e = begins a (flat_map next_range rs) small e

pub none_read : (text : List ℕ) (found : List SectorRange) → found ≡ [] → text ≡ codes "-" → ReadsRanges text found
none_read text found none is = record { read = reads }
  where
    reads : (rs : List SectorRange) → AreSmall rs → text ≡ ranges_text rs → found ≡ rs
    reads [] small e = none
    reads (a ∷ rs) small e = absurd (not_hyphen a rs small.0 (sym e ∙ is))

pub begun : (text : List ℕ) (done : List SectorRange) → done ≡ [] → HasReadSome text done text
begun text done none = record { read = λ a more small e. (a, more, ap (λ (xs : List SectorRange). xs ++ a ∷ more) (sym none), small, e) }

pub one_more : (text rest front back : List ℕ) (done now : List SectorRange) (found : SectorRange) → HasReadSome text done rest → IsCut 44 rest front back → ReadsRange front found
    → now ≡ done ++ found ∷ [] → HasReadSome text now back
one_more text rest front back done now found h cut r pushed = record { read = reads }
  where
    next : (b : SectorRange) (left : List SectorRange) → AreSmall (b ∷ left) → rest ≡ ranges_text (b ∷ left)
        → (c : SectorRange) × (others : List SectorRange) × (b ∷ left ≡ found ∷ c ∷ others) × AreSmall (c ∷ others) × (back ≡ ranges_text (c ∷ others))
    next b [] small e =
        absurd (has_it 44 front back (subst (λ (bs : List ℕ). lacks 44 bs ≡ true) (sym (one_is b) ∙ sym e ∙ cut.is) (range_lacks 44 comma_digits refl b small.0)))
    next b (c ∷ others) small e =
        let p = one_cut 44 front (range_text b) back (ranges_text (c ∷ others)) cut.first (range_lacks 44 comma_digits refl b small.0) (sym cut.is ∙ e ∙ more_is b c others) in
        let same : found ≡ b = r.read b small.0 p.0 in
        (c, others, ap (λ (x : SectorRange). x ∷ c ∷ others) (sym same), small.1, p.1)

    reads : (a : SectorRange) (more : List SectorRange) → AreSmall (a ∷ more) → text ≡ ranges_text (a ∷ more)
        → (b : SectorRange) × (left : List SectorRange) × (a ∷ more ≡ now ++ b ∷ left) × AreSmall (b ∷ left) × (back ≡ ranges_text (b ∷ left))
    reads a more small e =
        let (b, left, are, left_small, rest_is) = h.read a more small e in
        let (c, others, same, others_small, back_is) = next b left left_small rest_is in
        (c, others, are ∙ ap (λ (xs : List SectorRange). done ++ xs) same ∙ sym (append_assoc done (found ∷ []) (c ∷ others)) ∙ ap (λ (xs : List SectorRange). xs ++ c ∷ others) (sym pushed), others_small, back_is)

pub all_read : (text rest : List ℕ) (done now : List SectorRange) (found : SectorRange) → (text ≡ codes "-" → ⊥) → HasReadSome text done rest → NoCut 44 rest → ReadsRange rest found
    → now ≡ done ++ found ∷ [] → ReadsRanges text now
all_read text rest done now found other h lack r pushed = record { read = reads }
  where
    last : (b : SectorRange) (left : List SectorRange) → AreSmall (b ∷ left) → rest ≡ ranges_text (b ∷ left) → b ∷ left ≡ found ∷ []
    last b [] small e = ap (λ (x : SectorRange). x ∷ []) (sym (r.read b small.0 (e ∙ one_is b)))
    last b (c ∷ others) small e = absurd (has_it 44 (range_text b) (ranges_text (c ∷ others)) (subst (λ (bs : List ℕ). lacks 44 bs ≡ true) (e ∙ more_is b c others) lack.none))

    reads : (rs : List SectorRange) → AreSmall rs → text ≡ ranges_text rs → now ≡ rs
    reads [] small e = absurd (other (e ∙ hyphen_is))
    reads (a ∷ more) small e =
        let (b, left, are, left_small, rest_is) = h.read a more small e in
        pushed ∙ sym (are ∙ ap (λ (xs : List SectorRange). done ++ xs) (last b left left_small rest_is))
