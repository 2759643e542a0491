-- No part at risk stands twice.
use Rattle.std.proofs.Common.{ℕ, zero, suc, ◌≡◌, ◌+◌, ◌*◌, ◌<◌, ◌≤◌, ◌⊎◌, ◌==◌, Bool, true, false, ◌&&◌, if◌then◌else◌, List, [], ◌∷◌, ◌++◌, length, map, filter, refl, sym, subst, ◌∙◌, ap, arith, inl, inr}
use Rattle.std.specs.List.{range_with_len}
use Rattle.std.proofs.lemmas.Bool.Decides.{nat_tests}
use Rattle.std.proofs.lemmas.Bool.{ne_eqb}
use Rattle.std.proofs.lemmas.Option.{slice_get_cases}
use Rattle.logfmt.specs.declared.entry.Entry.{Entry}
use Rattle.epochs.specs.declared.part.Part.{Part}
use Rattle.epochs.specs.declared.part.By.{By}
use Rattle.epochs.specs.declared.part.By.TheVariants as by
use Rattle.epochs.specs.Parts.{part_count, part_of, parts_of_entry, parts_before}
use Rattle.epochs.proofs.Growth.{parts_before-next}
use Rattle.cases.specs.Cases.{is_same}
use Rattle.cases.specs.Laws.{IsAmong}
use Rattle.cases.specs.Risk.{is_at_risk, parts_at_risk}
use Rattle.cases.specs.AtCut.{Apart}
use Rattle.cases.proofs.Cases.{among_kept}
use Rattle.cases.proofs.Rows.{among_range, part_before}

apart_kept : (q : Part → Bool) (ps : List Part) → Apart ps → Apart (filter q ps)
apart_kept q [] apart = tt
apart_kept q (p ∷ ps) apart = by_test (q p) (apart_kept q ps apart.1)
  where
    by_test : (b : Bool) → Apart (filter q ps) → Apart (if b then p ∷ filter q ps else filter q ps)
    by_test true rest = ((λ r is. apart.0 r (among_kept q ps r is).0), rest)
    by_test false rest = rest

among_both : (ps qs : List Part) (p : Part) → IsAmong (ps ++ qs) p → IsAmong ps p ⊎ IsAmong qs p
among_both [] qs p is = inr is
among_both (q ∷ ps) qs p (inl same) = inl (inl same)
among_both (q ∷ ps) qs p (inr rest) = elim (among_both ps qs p rest) [ inl is ↦ inl (inr is) | inr is ↦ inr is ]

apart_both : (ps qs : List Part) → Apart ps → Apart qs → ((p q : Part) → IsAmong ps p → IsAmong qs q → is_same p q ≡ false) → Apart (ps ++ qs)
apart_both [] qs one two each = two
apart_both (p ∷ ps) qs one two each = (
  (λ q is. elim (among_both ps qs q is) [ inl early ↦ one.0 q early | inr late ↦ each p q (inl refl) late ]),
  apart_both ps qs one.1 two (λ r q early late. each r q (inr early) late),
)

apart_mapped : (f : ℕ → Part) (a n : ℕ) → ((i j : ℕ) → a ≤ i → i < j → j < a + n → is_same (f i) (f j) ≡ false) → Apart (map f (range_with_len a n))
apart_mapped f a zero each = tt
apart_mapped f a (suc n) each = (
  (λ q is.
      let at = among_range f (a + 1) n q is in
      let low = at.1 in
      let high = at.2 in
      ap (is_same (f a)) (sym at.3) ∙ each a at.0 (omega arith) (omega (arith, low)) (omega (arith, high))),
  apart_mapped f (a + 1) n (λ i j low less high. each i j (omega (arith, low)) less (omega (arith, high))),
)

other_place : (p q : Part) → (p.entry == q.entry) ≡ true → (p.place == q.place) ≡ false → is_same p q ≡ false
other_place p q entry place = (λ i. entry i && (place i && ((p.count == q.count) && (p.sector == q.sector))))

apart_entry : (way : By) (e : ℕ) (x : Entry) → Apart (parts_of_entry way e x)
apart_entry by.Sector e x =
    apart_mapped (part_of by.Sector e x) 0 x.count
    (λ i j low less high. other_place (part_of by.Sector e x i) (part_of by.Sector e x j) (grind (arith, nat_tests)) (ne_eqb (i * 1) (j * 1) (λ same. omega (arith, same, less))))
apart_entry by.Write e x = apart_mapped (part_of by.Write e x) 0 (part_count by.Write x) (λ i j low less high. absurd (one (x.count == 0) i j less high))
  where
    one : (b : Bool) (i j : ℕ) → i < j → j < 0 + (if b then 0 else 1) → ⊥
    one true i j less high = omega (arith, less, high)
    one false i j less high = omega (arith, less, high)

apart_before : (way : By) (es : List Entry) (k : ℕ) → k ≤ length es → Apart (parts_before way es k)
apart_before way es zero le = tt
apart_before way es (suc k) le = elim (slice_get_cases es k).1 [
  | inr past ↦ let end = past.0 in absurd (omega (arith, end, le))
  | inl a ↦
      subst Apart (sym (parts_before-next way es k a.0 a.2))
      (apart_both (parts_before way es k) (parts_of_entry way k a.0) (apart_before way es k (omega (arith, le))) (apart_entry way k a.0)
      (λ p q early late.
      let was = part_before way es k p (omega (arith, le)) early in
      let now = among_range (part_of way k a.0) 0 (part_count way a.0) q late in
      let first : was.entry ≡ p.entry = ap (λ (r : Part). r.entry) was.is in
      let second : k ≡ q.entry = ap (λ (r : Part). r.entry) now.3 in
      let less = was.before in
      ap (λ b. b && ((p.place == q.place) && ((p.count == q.count) && (p.sector == q.sector)))) (ne_eqb p.entry q.entry (λ same. omega (arith, same, first, second, less)))))
]

pub apart_risky : (way : By) (es : List Entry) (k : ℕ) → k ≤ length es → Apart (parts_at_risk way es k)
unfolding parts_at_risk
apart_risky way es k le = apart_kept (λ (p : Part). is_at_risk es k p.entry) (parts_before way es k) (apart_before way es k le)
