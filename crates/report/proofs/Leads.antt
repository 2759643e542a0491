-- The leading lines of two lists together.
use Rattle.std.proofs.Common.{ℕ, zero, suc, ◌≡◌, ◌+◌, ◌<◌, ◌==◌, ◌&&◌, ◌||◌, ◌⊎◌, Bool, true, false, if◌then◌else◌, inl, inr, List, [], ◌∷◌, ◌++◌, Option, Some, refl, sym, ap, subst, arith, append-nil}
use Rattle.std.proofs.lemmas.Bool.{false≢true}
use Rattle.std.proofs.lemmas.Bool.Decides.{eqb_tells}
use Rattle.report.specs.Line.{FailingLine}
use Rattle.report.specs.Images.{first_image, last_after, is_same, changes_after, leading_of, leading}
use Rattle.report.specs.Kept.{AreOf, leads_on}

-- lines of one image
record AreAlike (v : ℕ) (ls : List FailingLine) : Type 0 where
  all : leading_of v ls ≡ ls
  ends : last_after (Some v) ls ≡ Some v
  more : (ms : List FailingLine) → leading_of v (ls ++ ms) ≡ ls ++ leading_of v ms

alike : (v : ℕ) (ls : List FailingLine) → changes_after (Some v) ls ≡ 0 → AreAlike v ls
alike v [] e = record { all = refl; ends = refl; more = λ ms. refl }
alike v (l ∷ ls) e = elim (eqb_tells v l.image) [
  | inl same ↦
      let none : 0 + changes_after (Some l.image) ls ≡ 0 = rw same.0 at e in
      let still : changes_after (Some l.image) ls ≡ 0 = omega (arith, none) in
      let rest = alike v ls (subst (λ (x : ℕ). changes_after (Some x) ls ≡ 0) (sym same.1) still) in
      record {
        all = rw (same.0, rest.all) refl;
        ends = subst (λ (x : ℕ). last_after (Some x) ls ≡ Some v) same.1 rest.ends;
        more = λ ms. rw (same.0, rest.more ms) refl;
      }
  | inr other ↦ absurd (let some : 1 + changes_after (Some l.image) ls ≡ 0 = rw other.0 at e in omega (arith, some))
]

unlike : (v : ℕ) (ls ms : List FailingLine) → 0 < changes_after (Some v) ls → leading_of v (ls ++ ms) ≡ leading_of v ls
unlike v [] ms some = absurd (omega (arith, some))
unlike v (l ∷ ls) ms some = elim (eqb_tells v l.image) [
  | inl same ↦
      let still : 0 < 0 + changes_after (Some l.image) ls = rw same.0 at some in
      let here : 0 < changes_after (Some l.image) ls = omega (arith, still) in
      rw (same.0, unlike v ls ms (subst (λ (x : ℕ). 0 < changes_after (Some x) ls) (sym same.1) here)) refl
  | inr other ↦ rw other.0 refl
]

begins : (v : ℕ) (ms : List FailingLine) → leading_of v ms ≡ (if is_same (Some v) (first_image ms) then leading ms else [])
begins v [] = refl
begins v (m ∷ ms) = elim (eqb_tells v m.image) [
  | inl same ↦ rw same.0 (subst (λ (x : ℕ). m ∷ leading_of v ms ≡ m ∷ leading_of x ms) same.1 refl)
  | inr other ↦ rw other.0 refl
]

told : (count : ℕ) (b : Bool) → (count == 0 || count == 1 && b) ≡ true → (count ≡ 0) ⊎ ((count ≡ 1) × (b ≡ true))
told count b e = elim (eqb_tells count 0) [
  | inl none ↦ inl none.1
  | inr some ↦ elim (eqb_tells count 1) [
    | inl one ↦ inr (one.1, (rw (some.0, one.0) at e))
    | inr more ↦ absurd (let bad : false ≡ true = rw (some.0, more.0) at e in false≢true bad)
  ]
]

untold : (count : ℕ) (b : Bool) → (count == 0 || count == 1 && b) ≡ false → count ≡ 1 → b ≡ false
untold count b e one = let it : (1 == 0 || 1 == 1 && b) ≡ false = rw one at e in it

pub record Leads (ls ms : List FailingLine) : Type 0 where
  pub all : leading ls ≡ ls
  pub more : leading (ls ++ ms) ≡ ls ++ leading ms

-- where they lead on, all lines so far are leading ones, and those that follow give the rest
pub lead : (ls ms : List FailingLine) (first last others : Option ℕ) (count : ℕ) → AreOf ls first last count → others ≡ first_image ms
    → leads_on count last others ≡ true → Leads ls ms
lead [] ms first last others count so here e = record { all = refl; more = refl }
lead (l ∷ ls) ms first last others count so here e = elim (told count (is_same last others) e) [
  | inl none ↦ absurd (omega (arith, none, so.count_is))
  | inr one ↦
      let c : changes_after (Some l.image) ls ≡ 0 = omega (arith, one.0, so.count_is) in
      let row = alike l.image ls c in
      let same : is_same (Some l.image) (first_image ms) ≡ true = rw (← here, ← row.ends, ← so.last_is) one.1 in
      record {
        all = ap (λ (xs : List FailingLine). l ∷ xs) row.all;
        more = rw (row.more ms, begins l.image ms, same) refl;
      }
]

alone : (l : FailingLine) (ls ms : List FailingLine) (c : ℕ) → changes_after (Some l.image) ls ≡ c
    → (c ≡ 0 → is_same (last_after (Some l.image) ls) (first_image ms) ≡ false)
    → leading (l ∷ ls ++ ms) ≡ leading (l ∷ ls)
alone l ls ms zero e other =
    let row = alike l.image ls e in
    let no : is_same (Some l.image) (first_image ms) ≡ false = rw (← row.ends) (other refl) in
    rw (row.more ms, begins l.image ms, no, row.all, append-nil ls) refl
alone l ls ms (suc n) e other = ap (λ (xs : List FailingLine). l ∷ xs) (unlike l.image ls ms (omega (arith, e)))

-- where they don't, those that follow have none
pub stop : (ls ms : List FailingLine) (first last others : Option ℕ) (count : ℕ) → AreOf ls first last count → others ≡ first_image ms
    → leads_on count last others ≡ false → leading (ls ++ ms) ≡ leading ls
stop [] ms first last others count so here e =
    absurd (let bad : true ≡ false = rw so.count_is at e in false≢true (sym bad))
stop (l ∷ ls) ms first last others count so here e =
    alone l ls ms (changes_after (Some l.image) ls) refl
    (λ none. rw (← here, ← so.last_is) (untold count (is_same last others) e (omega (arith, none, so.count_is))))
