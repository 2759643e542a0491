-- The sectors in which two images differ, of those that pass a test.
use Rattle.std.proofs.Common.{ℕ, ◌≡◌, ◌⊎◌, ◌==◌, ◌&&◌, ◌||◌, Bool, true, false, List, filter, refl, sym, ◌∙◌, ap, inl, inr}
use Rattle.std.specs.List.{range_with_len}
use Rattle.std.proofs.lemmas.Bool.{eq-eqb, ne_eqb}
use Rattle.std.proofs.lemmas.Bool.Decides.{eqb_tells}
use Rattle.images.specs.Views.{ViewValue, sectors_of}
use Rattle.images.specs.Keys.{differs}
use Rattle.export.specs.Kept.{listed, Lists}
use Rattle.export.proofs.Numbers.{those_alike, or_is}

-- one sector more in which they differ
with_differing : (p b d : Bool) → (b ≡ true → d ≡ true) → ((p && d) || b) ≡ ((p || b) && d)
with_differing true b true h = refl
with_differing true true false h = absurd (let bad : false ≡ true = h refl in cc)
with_differing true false false h = refl
with_differing false true d h = sym (h refl)
with_differing false false d h = refl

-- one more in which they don't
without : (p b d : Bool) → (b ≡ true → d ≡ false) → (p && d) ≡ ((p || b) && d)
without true b d h = refl
without false true d h = sym (h refl)
without false false d h = refl

of_number : (one other : ViewValue) (n m : ℕ) (b : Bool) → differs (sectors_of one) (sectors_of other) n ≡ b → (m == n) ≡ true
    → differs (sectors_of one) (sectors_of other) m ≡ b
of_number one other n m b d e = elim (eqb_tells m n) [
  | inl same ↦ ap (differs (sectors_of one) (sectors_of other)) same.1 ∙ d
  | inr unlike ↦ absurd (let bad : true ≡ false = sym e ∙ ne_eqb m n unlike.1 in cc)
]

stays_listed : (p : ℕ → Bool) (n m : ℕ) → p m ≡ true → (p m || (m == n)) ≡ true
stays_listed p n m h = ap (λ b. b || (m == n)) h

is_listed : (p : ℕ → Bool) (n m : ℕ) → m ≡ n → (p m || (m == n)) ≡ true
is_listed p n m same = ap (λ b. p m || b) (eq-eqb m n same) ∙ own (p m)
  where
    own : (b : Bool) → (b || true) ≡ true
    own true = refl
    own false = refl

pub one_listed : (one other : ViewValue) (xs : List ℕ) (p : ℕ → Bool) (n : ℕ) → differs (sectors_of one) (sectors_of other) n ≡ true
    → xs ≡ filter (or_is (λ m. p m && differs (sectors_of one) (sectors_of other) m) n) (range_with_len 0 one.log.sectors)
    → Lists one other xs p (λ m. m ≡ n)
one_listed one other xs p n d is = record {
  chosen = λ m. p m || (m == n);
  is = is
      ∙ those_alike (or_is (λ m. p m && differs (sectors_of one) (sectors_of other) m) n) (λ m. (p m || (m == n)) && differs (sectors_of one) (sectors_of other) m) 0 one.log.sectors
      (λ m low high. with_differing (p m) (m == n) (differs (sectors_of one) (sectors_of other) m) (of_number one other n m true d));
  stays = stays_listed p n;
  more = is_listed p n;
}

pub none_listed : (one other : ViewValue) (xs : List ℕ) (p : ℕ → Bool) (n : ℕ) → differs (sectors_of one) (sectors_of other) n ≡ false → xs ≡ listed one other p
    → Lists one other xs p (λ m. m ≡ n)
none_listed one other xs p n d is = record {
  chosen = λ m. p m || (m == n);
  is = is
      ∙ those_alike (λ m. p m && differs (sectors_of one) (sectors_of other) m) (λ m. (p m || (m == n)) && differs (sectors_of one) (sectors_of other) m) 0 one.log.sectors
      (λ m low high. without (p m) (m == n) (differs (sectors_of one) (sectors_of other) m) (of_number one other n m false d));
  stays = stays_listed p n;
  more = is_listed p n;
}

-- nothing more
pub listed_so_far : (one other : ViewValue) (xs : List ℕ) (p : ℕ → Bool) (More : ℕ → Type 0) → xs ≡ listed one other p → ((n : ℕ) → More n → ⊥)
    → Lists one other xs p More
listed_so_far one other xs p More is none = record { chosen = p; is = is; stays = λ n h. h; more = λ n h. absurd (none n h) }

-- one step after another
pub lists_on : (one other : ViewValue) (xs ys : List ℕ) (p : ℕ → Bool) (Before Here More : ℕ → Type 0) (so : Lists one other xs p Before)
    → Lists one other ys so.chosen Here → ((n : ℕ) → More n → Before n ⊎ Here n) → Lists one other ys p More
lists_on one other xs ys p Before Here More so step by = record {
  chosen = step.chosen;
  is = step.is;
  stays = λ n h. step.stays n (so.stays n h);
  more = λ n h. elim (by n h) [
    | inl before ↦ step.stays n (so.more n before)
    | inr here ↦ step.more n here
  ];
}

-- fewer that have to be there
pub lists_less : (one other : ViewValue) (xs : List ℕ) (p : ℕ → Bool) (More Less : ℕ → Type 0) → Lists one other xs p More → ((n : ℕ) → Less n → More n) → Lists one other xs p Less
lists_less one other xs p More Less so by = record { chosen = so.chosen; is = so.is; stays = so.stays; more = λ n h. so.more n (by n h) }
