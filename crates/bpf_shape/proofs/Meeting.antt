-- What a search does with the slots that it meets.
use Rattle.std.proofs.Common.{ℕ, ◌≡◌, ◌+◌, ◌<◌, ◌⊎◌, Bool, true, false, not, if◌then◌else◌, List, [], ◌∷◌, ◌++◌, length, get_or, set, Option, Some, None, refl, sym, ◌∙◌, ap, inl, inr, arith, length-append, lt-ltb}
use Rattle.std.proofs.lemmas.Bool.{cases_Bool, cases_lt, cases_eq}
use Rattle.std.proofs.lemmas.List.{get_or-set_same, get_or-set_other, length-set, get_or_past}
use Rattle.std.proofs.lemmas.List.Sums.{sum_by-set}
use Rattle.bpf_shape.specs.Search.{IsMarked, is_new, marks_after, waiting_after, Has, unmarked_count, Met}

pub has_left : (xs ys : List ℕ) (t : ℕ) → Has xs t → Has (xs ++ ys) t
has_left [] ys t h = absurd h
has_left (x ∷ xs) ys t (inl e) = inl e
has_left (x ∷ xs) ys t (inr h) = inr (has_left xs ys t h)

pub has_right : (xs ys : List ℕ) (t : ℕ) → Has ys t → Has (xs ++ ys) t
has_right [] ys t h = h
has_right (x ∷ xs) ys t h = inr (has_right xs ys t h)

pub has_split : (xs ys : List ℕ) (t : ℕ) → Has (xs ++ ys) t → Has xs t ⊎ Has ys t
has_split [] ys t h = inr h
has_split (x ∷ xs) ys t (inl e) = inl (inl e)
has_split (x ∷ xs) ys t (inr h) = elim (has_split xs ys t h) [ inl l ↦ inl (inr l) | inr r ↦ inr r ]

pub has_last : (xs : List ℕ) (t s : ℕ) → Has (xs ++ s ∷ []) t → Has xs t ⊎ (t ≡ s)
has_last xs t s h = elim (has_split xs (s ∷ []) t h) [ inl l ↦ inl l | inr (inl e) ↦ inr e | inr (inr n) ↦ absurd n ]

-- where all that is met was marked before, marks and waiting slots stay
pub same : (P : ℕ → Type 0) (m : List Bool) (w : List ℕ) → ((t : ℕ) → P t → t < length m → IsMarked m t) → Met P m w m w
same P m w met = record {
  kept = λ t h. h;
  only = λ t h. inl h;
  met = met;
  stay = λ t h. h;
  wait = λ t h. inl h;
  come = λ t h. inl h;
  long = refl;
  size = omega arith;
}

-- a slot is new: it is one of these and has no mark
new_parts : (b : Bool) (m : List Bool) (s : ℕ) → is_new m s ≡ true → (s < length m) × (get_or m s false ≡ false)
new_parts b m s h =
    elim (cases_Bool (get_or m s false)) [
      | inl is ↦ absurd (grind (arith, h, is))
      | inr not_is ↦ (grind (arith, h), not_is)
    ]

-- one slot less without a mark
marked_size : (m : List Bool) (s : ℕ) → s < length m → get_or m s false ≡ false → unmarked_count (set m s true) + 1 ≡ unmarked_count m
marked_size m s inside is =
    let change = sum_by-set (λ b. if not b then 1 else 0) m s true false inside in
    let one : ℕ = 1 in
    let before : (if not (get_or m s false) then 1 else 0) ≡ one = rw is refl in
    omega (arith, change, before)

-- the marks after one slot
mark_kept : (m : List Bool) (s t : ℕ) → IsMarked m t → IsMarked (set m s true) t
mark_kept m s t h =
    elim (cases_eq t s) [
      | inl e ↦
          elim (cases_lt t (length m)) [
            | inl inside ↦ rw (← e) (get_or-set_same m t true false inside)
            | inr outside ↦ absurd (let bad : false ≡ true = sym (get_or_past m t false outside) ∙ h in cc)
          ]
      | inr other ↦ get_or-set_other m s t true false other ∙ h
    ]

mark_only : (m : List Bool) (s t : ℕ) → IsMarked (set m s true) t → IsMarked m t ⊎ (t ≡ s)
mark_only m s t h =
    elim (cases_eq t s) [
      | inl e ↦ inr e
      | inr other ↦ inl (sym (get_or-set_other m s t true false other) ∙ h)
    ]

one_new : (m : List Bool) (w : List ℕ) (s : ℕ) → s < length m → get_or m s false ≡ false → Met (λ t. Some s ≡ Some t) m w (set m s true) (w ++ s ∷ [])
one_new m w s inside is =
    let here : IsMarked (set m s true) s = get_or-set_same m s true false inside in
    record {
      kept = mark_kept m s;
      only = λ t h. elim (mark_only m s t h) [ inl old ↦ inl old | inr e ↦ inr (ap Some (sym e)) ];
      met = λ t p _. let e : s ≡ t = cc in rw (← e) here;
      stay = λ t h. has_left w (s ∷ []) t h;
      wait = λ t h. elim (mark_only m s t h) [ inl old ↦ inl old | inr e ↦ inr (has_right w (s ∷ []) t (inl e)) ];
      come = λ t h. elim (has_last w t s h) [ inl old ↦ inl old | inr e ↦ inr (rw e here) ];
      long = length-set m s true;
      size =
          let fewer = marked_size m s inside is in
          let more = length-append w (s ∷ []) in
          omega (arith, fewer, more);
    }

one_old : (m : List Bool) (w : List ℕ) (s : ℕ) → is_new m s ≡ false → Met (λ t. Some s ≡ Some t) m w m w
one_old m w s h =
    same (λ t. Some s ≡ Some t) m w
    (λ t p inside.
    let e : s ≡ t = cc in
    let within : s < length m = rw e inside in
    elim (cases_Bool (get_or m s false)) [
      | inl is ↦ rw (← e) is
      | inr not_is ↦ absurd (let bad : is_new m s ≡ true = rw (not_is, lt-ltb s (length m) within) refl in cc)
    ])

meet_by : (b : Bool) (m : List Bool) (w : List ℕ) (s : ℕ) → is_new m s ≡ b
    → Met (λ t. Some s ≡ Some t) m w (if b then set m s true else m) (if b then w ++ s ∷ [] else w)
meet_by true m w s h = let parts = new_parts true m s h in one_new m w s parts.0 parts.1
meet_by false m w s h = one_old m w s h

-- at most one slot is met
pub meet_one : (o : Option ℕ) (m : List Bool) (w : List ℕ) → Met (λ t. o ≡ Some t) m w (marks_after m o) (waiting_after m w o)
meet_one None m w = same (λ t. None ≡ Some t) m w (λ t p _. absurd (let bad : None ≡ Some t = p in cc))
meet_one (Some s) m w = meet_by (is_new m s) m w s refl

-- one after the other
pub meet_both : (P Q : ℕ → Type 0) (m m1 m2 : List Bool) (w w1 w2 : List ℕ) → Met P m w m1 w1 → Met Q m1 w1 m2 w2
    → Met (λ t. P t ⊎ Q t) m w m2 w2
meet_both P Q m m1 m2 w w1 w2 a b = record {
  kept = λ t h. b.kept t (a.kept t h);
  only = λ t h. elim (b.only t h) [
    | inl one ↦ elim (a.only t one) [ inl zero_ ↦ inl zero_ | inr p ↦ inr (inl p) ]
    | inr q ↦ inr (inr q)
  ];
  met = λ t h inside. elim h [
    | inl p ↦ b.kept t (a.met t p inside)
    | inr q ↦ b.met t q (omega (arith, inside, a.long))
  ];
  stay = λ t h. b.stay t (a.stay t h);
  wait = λ t h. elim (b.wait t h) [
    | inl one ↦ elim (a.wait t one) [ inl zero_ ↦ inl zero_ | inr waits ↦ inr (b.stay t waits) ]
    | inr waits ↦ inr waits
  ];
  come = λ t h. elim (b.come t h) [
    | inl one ↦ elim (a.come t one) [ inl zero_ ↦ inl zero_ | inr is ↦ inr (b.kept t is) ]
    | inr is ↦ inr is
  ];
  long = b.long ∙ a.long;
  size = omega (arith, a.size, b.size);
}
