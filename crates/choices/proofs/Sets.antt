-- The list of choices is their set, in its order.
use Rattle.std.proofs.Common.{ℕ, zero, suc, ◌≡◌, ◌+◌, ◌-◌, ◌*◌, ◌<◌, ◌≤◌, List, [], ◌∷◌, length, slice_get, Some, None, refl, sym, ◌∙◌, ap, subst, inl, inr, arith}
use Rattle.std.specs.Option.{option_map}
use Rattle.std.proofs.lemmas.Bool.{cases_lt}
use Rattle.std.proofs.lemmas.Nat.{mul-le}
use Rattle.std.proofs.lemmas.Option.{slice_get_within, same_Some}
use Rattle.base.proofs.Lists.{slice_get-append_right, slice_get_of_append}
use Rattle.choices.specs.declared.pick.Pick.{Pick}
use Rattle.choices.specs.Picks.{beginning, ranked_picks, fewer}
use Rattle.choices.specs.Laws.{AreRising, Before, Precedes, ListIsSet}
use Rattle.choices.proofs.Ranks.{beyond, at_beginning}
use Rattle.choices.proofs.Following.{OfRow, of_beginning, in_front, member_length, fewer_length}

rising_lower : (m a e : ℕ) (ds : List Pick) → AreRising m (a + 1) e ds → AreRising m a e ds
rising_lower m a e [] h = tt
rising_lower m a e (d ∷ ds) h = (omega (arith, h.0), h.1, h.2, h.3)

-- each member is a choice
rising_member : (m i a k n : ℕ) (ds : List Pick) → slice_get (ranked_picks m i a k) n ≡ Some ds → AreRising m a (a + k) ds
unfolding ranked_picks
rising_member m zero a k zero ds h = let P : List Pick → Type 0 = λ xs. AreRising m a (a + k) xs in subst P (same_Some [] ds h) tt
rising_member m zero a k (suc n) ds h = absurd (let bad : None ≡ Some ds = h in cc)
rising_member m (suc i) a zero n ds h = absurd (let bad : None ≡ Some ds = h in cc)
rising_member m (suc i) a (suc k) n ds h =
    let end : a + 1 + k ≡ a + suc k = omega arith in
    elim (slice_get_of_append (beginning a 0 m (ranked_picks m i (a + 1) k)) (ranked_picks m (suc i) (a + 1) k) n ds h) [
      | inl first ↦
          let it = of_beginning a 0 m (ranked_picks m i (a + 1) k) n ds first.1 in
          let fate : it.x < m = it.fate in
          let P : ℕ → Type 0 = λ e. AreRising m (a + 1) e it.rest in
          let rest : AreRising m (a + 1) (a + suc k) it.rest = subst P end (rising_member m i (a + 1) k it.y it.rest it.there) in
          let whole : AreRising m a (a + suc k) (beyond a (0 + it.x) it.rest) = (omega arith, omega arith, omega (arith, fate), rest) in
          let Q : List Pick → Type 0 = λ xs. AreRising m a (a + suc k) xs in
          subst Q (sym it.is) whole
      | inr more ↦
          let P : ℕ → Type 0 = λ e. AreRising m a e ds in
          subst P end (rising_lower m a (a + 1 + k) ds (rising_member m (suc i) (a + 1) k (n - length (beginning a 0 m (ranked_picks m i (a + 1) k))) ds more.1))
    ]

-- each choice is a member
member_of : (m i a k : ℕ) (ds : List Pick) → length ds ≡ i → AreRising m a (a + k) ds → (n : ℕ) × (slice_get (ranked_picks m i a k) n ≡ Some ds)
unfolding ranked_picks
member_of m zero a k [] long h = (0, refl)
member_of m zero a k (d ∷ ds) long h = absurd (omega (arith, long))
member_of m (suc i) a k [] long h = absurd (omega (arith, long))
member_of m (suc i) a zero (d ∷ ds) long h = absurd (omega (arith, h.0, h.1))
member_of m (suc i) a (suc k) (d ∷ ds) long h =
    let rests : List (List Pick) = ranked_picks m i (a + 1) k in
    let end : a + suc k ≡ a + 1 + k = omega arith in
    elim (cases_lt a d.part) [
      | inr here ↦
          let part : d.part ≡ a = omega (arith, here, h.0) in
          let next : d.part + 1 ≡ a + 1 = omega (arith, part) in
          let P : ℕ → Type 0 = λ b. AreRising m b (a + suc k) ds in
          let Q : ℕ → Type 0 = λ e. AreRising m (a + 1) e ds in
          let inner = member_of m i (a + 1) k ds (omega (arith, long)) (subst Q end (subst P next h.3)) in
          let lt : inner.0 < length rests = slice_get_within rests inner.0 ds inner.1 in
          let zero_fate : 0 + d.fate ≡ d.fate = omega arith in
          let same : beyond a d.fate ds ≡ d ∷ ds = λ i. record { part = sym part i; fate = d.fate } ∷ ds in
          let found : slice_get (beginning a 0 m rests) (d.fate * length rests + inner.0) ≡ Some (d ∷ ds) =
          at_beginning a 0 m rests d.fate inner.0 h.2 lt ∙ ap (option_map (beyond a (0 + d.fate))) inner.1
          ∙ ap (λ f. Some (beyond a f ds)) zero_fate ∙ ap (λ xs. Some xs) same in
          (d.fate * length rests + inner.0, in_front (beginning a 0 m rests) (ranked_picks m (suc i) (a + 1) k) (d.fate * length rests + inner.0) (d ∷ ds) found)
      | inl more ↦
          let up : a + 1 ≤ d.part = omega (arith, more) in
          let below : d.part < a + 1 + k = omega (arith, h.1) in
          let P : ℕ → Type 0 = λ e. AreRising m (d.part + 1) e ds in
          let inner = member_of m (suc i) (a + 1) k (d ∷ ds) long (up, below, h.2, subst P end h.3) in
          (length (beginning a 0 m rests) + inner.0, slice_get-append_right (beginning a 0 m rests) (ranked_picks m (suc i) (a + 1) k) inner.0 ∙ inner.1)
    ]

-- two of those that begin with one part
rows_before : (m i a k p q : ℕ) (cs ds : List Pick)
    → ((p' q' : ℕ) (es fs : List Pick) → p' < q' → slice_get (ranked_picks m i (a + 1) k) p' ≡ Some es → slice_get (ranked_picks m i (a + 1) k) q' ≡ Some fs → Before es fs)
    → p < q → OfRow a 0 m (ranked_picks m i (a + 1) k) p cs → OfRow a 0 m (ranked_picks m i (a + 1) k) q ds → Before cs ds
rows_before m i a k p q cs ds rests lt c d =
    let width : ℕ = length (ranked_picks m i (a + 1) k) in
    let P : List Pick → List Pick → Type 0 = λ xs ys. Before xs ys in
    let first_place : p ≡ c.x * width + c.y = c.place in
    let second_place : q ≡ d.x * width + d.y = d.place in
    let second_lt : d.y < width = slice_get_within (ranked_picks m i (a + 1) k) d.y d.rest d.there in
    let before : Before (beyond a (0 + c.x) c.rest) (beyond a (0 + d.x) d.rest) =
    elim (cases_lt c.x d.x) [
      | inl less ↦ inr (refl, inl (omega (arith, less)))
      | inr more ↦ elim (cases_lt d.x c.x) [
        | inl above ↦
            let rows : (d.x + 1) * width ≤ c.x * width = mul-le (d.x + 1) width c.x width (omega (arith, above)) (omega arith) in
            absurd (omega (arith, rows, first_place, second_place, second_lt, lt))
        | inr below ↦
            let same : c.x ≡ d.x = omega (arith, more, below) in
            let inner : c.y < d.y = omega (arith, first_place, second_place, lt, ap (λ x. x * width) same) in
            inr (refl, inr (ap (λ x. 0 + x) same, rests c.y d.y c.rest d.rest inner c.there d.there))
      ]
    ] in
    subst (λ xs. P xs ds) (sym c.is) (subst (λ ys. P (beyond a (0 + c.x) c.rest) ys) (sym d.is) before)

-- a choice that begins with part a is before one that begins after it
part_before : (m a e x : ℕ) (rest ds : List Pick) (i : ℕ) → length ds ≡ suc i → AreRising m (a + 1) e ds → Before (beyond a x rest) ds
part_before m a e x rest [] i long h = absurd (omega (arith, long))
part_before m a e x rest (d ∷ ds) i long h = inl (omega (arith, h.0))

in_order : (m i a k p q : ℕ) (cs ds : List Pick) → p < q → slice_get (ranked_picks m i a k) p ≡ Some cs → slice_get (ranked_picks m i a k) q ≡ Some ds → Before cs ds
unfolding ranked_picks
in_order m zero a k p zero cs ds lt c d = absurd (omega (arith, lt))
in_order m zero a k p (suc q) cs ds lt c d = absurd (let bad : None ≡ Some ds = d in cc)
in_order m (suc i) a zero p q cs ds lt c d = absurd (let bad : None ≡ Some ds = d in cc)
in_order m (suc i) a (suc k) p q cs ds lt c d =
    let first : List (List Pick) = beginning a 0 m (ranked_picks m i (a + 1) k) in
    let more : List (List Pick) = ranked_picks m (suc i) (a + 1) k in
    elim (slice_get_of_append first more p cs c) [
      | inl c_first ↦ elim (slice_get_of_append first more q ds d) [
        | inl d_first ↦
            rows_before m i a k p q cs ds (in_order m i (a + 1) k) lt (of_beginning a 0 m (ranked_picks m i (a + 1) k) p cs c_first.1)
            (of_beginning a 0 m (ranked_picks m i (a + 1) k) q ds d_first.1)
        | inr d_more ↦
            let it = of_beginning a 0 m (ranked_picks m i (a + 1) k) p cs c_first.1 in
            let P : List Pick → Type 0 = λ xs. Before xs ds in
            subst P (sym it.is) (part_before m a (a + 1 + k) (0 + it.x) it.rest ds i (member_length m (suc i) (a + 1) k (q - length first) ds d_more.1)
            (rising_member m (suc i) (a + 1) k (q - length first) ds d_more.1))
      ]
      | inr c_more ↦ elim (slice_get_of_append first more q ds d) [
        | inl d_first ↦ absurd (omega (arith, d_first.0, c_more.0, lt))
        | inr d_more ↦ in_order m (suc i) (a + 1) k (p - length first) (q - length first) cs ds (omega (arith, lt, c_more.0)) c_more.1 d_more.1
      ]
    ]

-- the same of all numbers of departures below s
fewer_rising : (m s v n : ℕ) (ds : List Pick) → slice_get (fewer m s v) n ≡ Some ds → AreRising m 0 v ds
unfolding fewer
fewer_rising m zero v n ds h = absurd (let bad : None ≡ Some ds = h in cc)
fewer_rising m (suc s) v n ds h = elim (slice_get_of_append (fewer m s v) (ranked_picks m s 0 v) n ds h) [
  | inl first ↦ fewer_rising m s v n ds first.1
  | inr more ↦
      let end : 0 + v ≡ v = omega arith in
      let P : ℕ → Type 0 = λ e. AreRising m 0 e ds in
      subst P end (rising_member m s 0 v (n - length (fewer m s v)) ds more.1)
]

fewer_has : (m s v : ℕ) (ds : List Pick) → length ds < s → AreRising m 0 v ds → (n : ℕ) × (slice_get (fewer m s v) n ≡ Some ds)
unfolding fewer
fewer_has m zero v ds short h = absurd (omega (arith, short))
fewer_has m (suc s) v ds short h = elim (cases_lt (length ds) s) [
  | inl less ↦
      let inner = fewer_has m s v ds less h in
      (inner.0, in_front (fewer m s v) (ranked_picks m s 0 v) inner.0 ds inner.1)
  | inr top ↦
      let end : v ≡ 0 + v = omega arith in
      let P : ℕ → Type 0 = λ e. AreRising m 0 e ds in
      let inner = member_of m s 0 v ds (omega (arith, top, short)) (subst P end h) in
      (length (fewer m s v) + inner.0, slice_get-append_right (fewer m s v) (ranked_picks m s 0 v) inner.0 ∙ inner.1)
]

fewer_order : (m s v p q : ℕ) (cs ds : List Pick) → p < q → slice_get (fewer m s v) p ≡ Some cs → slice_get (fewer m s v) q ≡ Some ds → Precedes cs ds
unfolding fewer
fewer_order m zero v p q cs ds lt c d = absurd (let bad : None ≡ Some ds = d in cc)
fewer_order m (suc s) v p q cs ds lt c d = elim (slice_get_of_append (fewer m s v) (ranked_picks m s 0 v) p cs c) [
  | inl c_first ↦ elim (slice_get_of_append (fewer m s v) (ranked_picks m s 0 v) q ds d) [
    | inl d_first ↦ fewer_order m s v p q cs ds lt c_first.1 d_first.1
    | inr d_more ↦
        let short = fewer_length m s v p cs c_first.1 in
        let long = member_length m s 0 v (q - length (fewer m s v)) ds d_more.1 in
        inl (omega (arith, short, long))
  ]
  | inr c_more ↦ elim (slice_get_of_append (fewer m s v) (ranked_picks m s 0 v) q ds d) [
    | inl d_first ↦ absurd (omega (arith, d_first.0, c_more.0, lt))
    | inr d_more ↦
        let first = member_length m s 0 v (p - length (fewer m s v)) cs c_more.1 in
        let second = member_length m s 0 v (q - length (fewer m s v)) ds d_more.1 in
        inr (first ∙ sym second, in_order m s 0 v (p - length (fewer m s v)) (q - length (fewer m s v)) cs ds (omega (arith, lt, c_more.0)) c_more.1 d_more.1)
  ]
]

pub list_is_set : ListIsSet
list_is_set m bound v = record {
  sound = λ n ds h.
      let short = fewer_length m (suc bound) v n ds h in
      record { few = omega (arith, short); rising = fewer_rising m (suc bound) v n ds h };
  complete = λ ds is.
      let few = is.few in
      fewer_has m (suc bound) v ds (omega (arith, few)) is.rising;
  ordered = λ i j cs ds lt c d. fewer_order m (suc bound) v i j cs ds lt c d;
}
