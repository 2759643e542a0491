-- The index of new images.
use Rattle.std.proofs.Common.{ℕ, ◌≡◌, ◌≢◌, ◌+◌, ◌<◌, ◌==◌, true, false, cond, Option, Some, None, refl, sym, subst, ◌∙◌, ap, inl, inr, arith}
use Rattle.std.proofs.lemmas.Bool.{cases_lt, eq-eqb, ne_eqb}
use Rattle.std.proofs.lemmas.Bool.Decides.{eqb_tells}
use Rattle.std.proofs.lemmas.Option.{same_Some}
use Rattle.export.specs.Export.{AskedValue, device_at, marks_before, is_same, first_same}
use Rattle.export.specs.Kept.{sum_of, key_by, key_at, key_after, AreOthers, IsIndex}
use Rattle.export.proofs.Same.{same_told, told_first, first_is_new, new_is_first}

-- images that are the same have one key
same_key : (a : AskedValue) (i j : ℕ) → is_same a i j ≡ true → key_at a i ≡ key_at a j
unfolding key_at
same_key a i j same =
    let told = same_told a i j same in
    ap (λ d. key_by (sum_of d) (marks_before a i)) told.1 ∙ ap (key_by (sum_of (device_at a j))) told.0

-- nothing is kept at first
pub none_kept : (a : AskedValue) (at : ℕ → Option ℕ) → ((k : ℕ) → at k ≡ None) → IsIndex a 0 at
none_kept a at none = record {
  held = λ k j h. absurd (let bad : None ≡ Some j = sym (none k) ∙ h in cc);
  found = λ j lt. absurd (omega (arith, lt));
}

-- one key more has another image
pub others_more : (a : AskedValue) (i j : ℕ) (at : ℕ → Option ℕ) (steps : ℕ) → AreOthers a i at steps → at (key_after (key_at a i) steps) ≡ Some j → is_same a i j ≡ false
    → AreOthers a i at (steps + 1)
others_more a i j at steps are held other = record {
  others = λ s lt. elim (cases_lt s steps) [
    | inl before ↦ are.others s before
    | inr past ↦
        let here : steps ≡ s = omega (arith, lt, past) in
        (j, ap (λ t. at (key_after (key_at a i) t)) (sym here) ∙ held, other)
  ];
}

-- where a key is free and those before it have other images, the image is new
pub free_is_new : (a : AskedValue) (i : ℕ) (at : ℕ → Option ℕ) (steps : ℕ) → IsIndex a i at → AreOthers a i at steps → at (key_after (key_at a i) steps) ≡ None
    → first_same a i ≡ None
free_is_new a i at steps index are free = by (first_same a i) refl
  where
    by : (o : Option ℕ) → first_same a i ≡ o → o ≡ None
    by None e = refl
    by (Some j) e =
        let first = told_first a i j e in
        let high = first.high in
        let kept = index.found j (omega (arith, high)) (first_is_new a i j e) in
        let t : ℕ = kept.0 in
        let own : at (key_after (key_at a i) t) ≡ Some j = ap (λ k. at (key_after k t)) (same_key a i j first.passes) ∙ kept.1 in
        elim (cases_lt t steps) [
          | inl before ↦
              let other = are.others t before in
              let same : j ≡ other.0 = same_Some j other.0 (sym own ∙ other.1) in
              absurd (let bad : true ≡ false = sym first.passes ∙ ap (is_same a i) same ∙ other.2 in cc)
          | inr past ↦ elim (cases_lt steps t) [
            | inl further ↦ absurd (kept.2 steps further (ap (λ k. at (key_after k steps)) (sym (same_key a i j first.passes)) ∙ free))
            | inr most ↦
                let here : t ≡ steps = omega (arith, past, most) in
                absurd (let bad : Some j ≡ None = sym own ∙ ap (λ s. at (key_after (key_at a i) s)) here ∙ free in cc)
          ]
        ]

-- the image that is kept at a key, where it is the same
pub kept_is_first : (a : AskedValue) (i k j : ℕ) (at : ℕ → Option ℕ) → IsIndex a i at → at k ≡ Some j → is_same a i j ≡ true → first_same a i ≡ Some j
kept_is_first a i k j at index held same = let is = index.held k j held in new_is_first a i j is.0 same is.1

-- an image more that isn't new
pub index_stays : (a : AskedValue) (i j : ℕ) (at : ℕ → Option ℕ) → IsIndex a i at → first_same a i ≡ Some j → IsIndex a (i + 1) at
index_stays a i j at index same = record {
  held = λ k m h. let is = index.held k m h in let lt = is.0 in (omega (arith, lt), is.1);
  found = λ m lt new. elim (cases_lt m i) [
    | inl before ↦ index.found m before new
    | inr past ↦
        let here : i ≡ m = omega (arith, lt, past) in
        absurd (let bad : Some j ≡ None = sym same ∙ ap (first_same a) here ∙ new in cc)
  ];
}

-- one that is
put_at : (at new : ℕ → Option ℕ) (key i k : ℕ) → ((q : ℕ) → new q ≡ cond (key == q) (Some i) (at q)) → key ≢ k → new k ≡ at k
put_at at new key i k is other = is k ∙ ap (λ b. cond b (Some i) (at k)) (ne_eqb key k other)

put_here : (at new : ℕ → Option ℕ) (key i : ℕ) → ((q : ℕ) → new q ≡ cond (key == q) (Some i) (at q)) → new key ≡ Some i
put_here at new key i is = is key ∙ ap (λ b. cond b (Some i) (at key)) (eq-eqb key key refl)

-- no key loses what it has
keeps : (at new : ℕ → Option ℕ) (key i k j : ℕ) → ((q : ℕ) → new q ≡ cond (key == q) (Some i) (at q)) → at key ≡ None → at k ≡ Some j → new k ≡ Some j
keeps at new key i k j is free has = put_at at new key i k is (λ here. let bad : None ≡ Some j = sym free ∙ ap at here ∙ has in cc) ∙ has

stays_full : (at new : ℕ → Option ℕ) (key i k : ℕ) → ((q : ℕ) → new q ≡ cond (key == q) (Some i) (at q)) → (at k ≡ None → ⊥) → new k ≡ None → ⊥
stays_full at new key i k is full none = elim (eqb_tells key k) [
  | inl same ↦ absurd (let bad : Some i ≡ None = sym (put_here at new key i is) ∙ ap new same.1 ∙ none in cc)
  | inr other ↦ full (sym (put_at at new key i k is other.1) ∙ none)
]

pub index_more : (a : AskedValue) (i : ℕ) (at new : ℕ → Option ℕ) (steps : ℕ) → IsIndex a i at → AreOthers a i at steps → at (key_after (key_at a i) steps) ≡ None
    → ((q : ℕ) → new q ≡ cond (key_after (key_at a i) steps == q) (Some i) (at q)) → IsIndex a (i + 1) new
index_more a i at new steps index are free is =
    let key : ℕ = key_after (key_at a i) steps in
    record {
      held = λ k m h. elim (eqb_tells key k) [
        | inl same ↦
            let here : m ≡ i = same_Some m i (sym h ∙ ap new (sym same.1) ∙ put_here at new key i is) in
            (omega (arith, here), ap (first_same a) here ∙ free_is_new a i at steps index are free)
        | inr other ↦
            let was = index.held k m (sym (put_at at new key i k is other.1) ∙ h) in
            let lt = was.0 in
            (omega (arith, lt), was.1)
      ];
      found = λ m lt fresh. elim (cases_lt m i) [
        | inl before ↦
            let was = index.found m before fresh in (
              was.0,
              keeps at new key i (key_after (key_at a m) was.0) m is free was.1,
              λ s less none. stays_full at new key i (key_after (key_at a m) s) is (was.2 s less) none,
            )
        | inr past ↦
            let here : i ≡ m = omega (arith, lt, past) in
            let P : ℕ → Type 0 = λ j. (t : ℕ) × (new (key_after (key_at a j) t) ≡ Some j) × ((s : ℕ) → s < t → new (key_after (key_at a j) s) ≡ None → ⊥) in
            subst P here (
              steps,
              put_here at new key i is,
              λ s less none.
                  let other = are.others s less in
                  stays_full at new key i (key_after (key_at a i) s) is (λ gone. let bad : None ≡ Some other.0 = sym gone ∙ other.1 in cc) none,
            )
      ];
    }
