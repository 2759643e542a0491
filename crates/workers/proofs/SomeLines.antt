-- Some lines of others, in their order.
use Rattle.std.proofs.Common.{ℕ, zero, suc, ◌≡◌, ◌≢◌, ◌+◌, ◌*◌, ◌==◌, ◌<◌, ◌≤◌, ◌⊎◌, inl, inr, Bool, true, false, not, cond, List, [], ◌∷◌, ◌++◌, filter, refl, sym, ◌∙◌, ap, arith}
use Rattle.std.specs.List.{flat_map, range_with_len}
use Rattle.std.proofs.lemmas.Bool.Decides.{eqb_tells, nat_tests}
use Rattle.std.proofs.lemmas.List.Elements.{filter-append}
use Rattle.report.specs.Line.{FailingLine, first_lines}
use Rattle.workers.specs.Laws.{Precedes, AreSomeOf, BeginsWithFirst}
use Rattle.workers.proofs.Sets.{Each, Ordered, each_append, each_then}

some_append : (front some all : List FailingLine) → AreSomeOf some all → AreSomeOf (front ++ some) (front ++ all)
some_append [] some all h = h
some_append (l ∷ ls) some all h = inr (ls ++ some, refl, some_append ls some all h)

some_beyond : (front some all : List FailingLine) → AreSomeOf some all → AreSomeOf some (front ++ all)
some_beyond [] some all h = h
some_beyond (l ∷ ls) some all h = inl (some_beyond ls some all h)

some_filter : (test : FailingLine → Bool) (some all : List FailingLine) → AreSomeOf some all → AreSomeOf (filter test some) (filter test all)
some_filter test some [] h = rw h refl
some_filter test some (l ∷ ls) (inl h) = step (test l) (some_filter test some ls h)
  where
    step : (b : Bool) → AreSomeOf (filter test some) (filter test ls) → AreSomeOf (filter test some) (cond b (l ∷ filter test ls) (filter test ls))
    step true g = inl g
    step false g = g
some_filter test some (l ∷ ls) (inr h) = rw h.1 (step (test l) (some_filter test h.0 ls h.2))
  where
    step : (b : Bool) → AreSomeOf (filter test h.0) (filter test ls) → AreSomeOf (cond b (l ∷ filter test h.0) (filter test h.0)) (cond b (l ∷ filter test ls) (filter test ls))
    step true g = inr (filter test h.0, refl, g)
    step false g = g

pub some_each : (P : FailingLine → Type 0) (some all : List FailingLine) → Each P all → AreSomeOf some all → Each P some
some_each P some [] e h = rw h tt
some_each P some (l ∷ ls) e (inl h) = some_each P some ls e.1 h
some_each P some (l ∷ ls) e (inr h) = rw h.1 (e.0, some_each P h.0 ls e.1 h.2)

pub some_ordered : (some all : List FailingLine) → Ordered all → AreSomeOf some all → Ordered some
some_ordered some [] o h = rw h tt
some_ordered some (l ∷ ls) o (inl h) = some_ordered some ls o.1 h
some_ordered some (l ∷ ls) o (inr h) = rw h.1 (some_each (Precedes l) h.0 ls o.0 h.2, some_ordered h.0 ls o.1 h.2)

-- the lines of an image, and the others

abbrev of_image : ℕ → List FailingLine → List FailingLine
of_image m ls = filter (λ (l : FailingLine). l.image == m) ls

abbrev but_image : ℕ → List FailingLine → List FailingLine
but_image m ls = filter (λ (l : FailingLine). not (l.image == m)) ls

none_after : (m : ℕ) (ls : List FailingLine) → Each (λ l. m < l.image) ls → (of_image m ls ≡ []) × (but_image m ls ≡ ls)
none_after m [] h = (refl, refl)
none_after m (l ∷ ls) h =
    let other : (l.image == m) ≡ false = grind (arith, nat_tests, h.0) in
    let rest = none_after m ls h.1 in
    (rw (other, rest.0) refl, rw (other, rest.1) refl)

after_line : (m : ℕ) (l : FailingLine) (ls : List FailingLine) → m < l.image → Each (Precedes l) ls → Each (λ k. m < k.image) ls
after_line m l ls lt h = each_then (Precedes l) (λ k. m < k.image) ls (λ k before. elim before [ inl less ↦ omega (arith, lt, less) | inr same ↦ omega (arith, lt, same.0) ]) h

in_two : (m : ℕ) (ls : List FailingLine) → Each (λ l. m ≤ l.image) ls → Ordered ls → ls ≡ of_image m ls ++ but_image m ls
in_two m [] h o = refl
in_two m (l ∷ ls) h o = elim (eqb_tells l.image m) [
  | inl own ↦ rw own.0 (ap (λ (ks : List FailingLine). l ∷ ks) (in_two m ls h.1 o.1))
  | inr differ ↦
      let lt : m < l.image = omega (arith, h.0, differ.1) in
      let none = none_after m (l ∷ ls) (lt, after_line m l ls lt o.0) in
      rw none.0 (sym none.1)
]

-- the lines of the first image

first_head : (l : FailingLine) (ls : List FailingLine) → first_lines (l ∷ ls) ≡ l ∷ of_image l.image ls
first_head l ls = let own : (l.image == l.image) ≡ true = grind (arith, nat_tests) in rw own refl

same_first : (l : FailingLine) (ls lines : List FailingLine) → first_lines lines ≡ first_lines (l ∷ ls) → of_image l.image lines ≡ first_lines (l ∷ ls)
same_first l ls [] e = absurd (let bad : [] ≡ l ∷ of_image l.image ls = e ∙ first_head l ls in cc)
same_first l ls (k ∷ ks) e =
    let heads : k ∷ of_image k.image ks ≡ l ∷ of_image l.image ls = sym (first_head k ks) ∙ e ∙ first_head l ls in
    let same : k ≡ l = cc in
    ap (λ (n : FailingLine). of_image n.image (k ∷ ks)) (sym same) ∙ e

pub begins : (all lines : List FailingLine) → Ordered all → AreSomeOf lines all → first_lines lines ≡ first_lines all → BeginsWithFirst all lines
begins [] lines o h e = record {
  others = [];
  kept = lines;
  all_lines = refl;
  these = refl;
  some = h;
}
begins (l ∷ ls) lines o h e =
    let own : l.image ≤ l.image = omega arith in
    let from : Each (λ k. l.image ≤ k.image) (l ∷ ls) =
    (own, each_then (Precedes l) (λ k. l.image ≤ k.image) ls (λ k before. elim before [ inl less ↦ omega (arith, less) | inr same ↦ omega (arith, same.0) ]) o.0) in
    let two = in_two l.image lines (some_each (λ k. l.image ≤ k.image) lines (l ∷ ls) from h) (some_ordered lines (l ∷ ls) o h) in
    record {
      others = but_image l.image (l ∷ ls);
      kept = but_image l.image lines;
      all_lines = in_two l.image (l ∷ ls) from o;
      these = two ∙ ap (λ (ks : List FailingLine). ks ++ but_image l.image lines) (same_first l ls lines e);
      some = some_filter (λ (k : FailingLine). not (k.image == l.image)) lines (l ∷ ls) h;
    }

-- lines by blocks, some of which may have none

abbrev pub IsKept : (ℕ → List FailingLine) → (ℕ → List FailingLine) → ℕ → Type 0
IsKept f g b = (f b ≡ g b) ⊎ ((f b ≡ []) × ((c : ℕ) × (c < b) × (f c ≢ [])))

pub some_of_blocks : (f g : ℕ → List FailingLine) (a n : ℕ) → ((b : ℕ) → b < a + n → IsKept f g b)
    → AreSomeOf (flat_map f (range_with_len a n)) (flat_map g (range_with_len a n))
some_of_blocks f g a zero h = refl
some_of_blocks f g a (suc n) h =
    step (f a) (flat_map f (range_with_len (a + 1) n)) (h a (omega arith)) (some_of_blocks f g (a + 1) n (λ b lt. h b (omega (arith, lt))))
  where
    step : (own rest : List FailingLine) → (own ≡ g a) ⊎ ((own ≡ []) × ((c : ℕ) × (c < a) × (f c ≢ []))) → AreSomeOf rest (flat_map g (range_with_len (a + 1) n))
        → AreSomeOf (own ++ rest) (g a ++ flat_map g (range_with_len (a + 1) n))
    step own rest (inl e) some = rw e (some_append (g a) rest (flat_map g (range_with_len (a + 1) n)) some)
    step own rest (inr e) some = rw e.0 (some_beyond (g a) rest (flat_map g (range_with_len (a + 1) n)) some)

-- the lines of block b are of its images, where the first block begins with that image
abbrev pub AreIn : ℕ → ℕ → List FailingLine → Type 0
AreIn first b ls = Each (λ l. (first + 64 * b ≤ l.image) × (l.image < first + 64 * b + 64)) ls

from_block : (first : ℕ) (g : ℕ → List FailingLine) (a n : ℕ) → ((b : ℕ) → AreIn first b (g b)) → Each (λ l. first + 64 * a ≤ l.image) (flat_map g (range_with_len a n))
from_block first g a zero h = tt
from_block first g a (suc n) h =
    each_append (λ l. first + 64 * a ≤ l.image) (g a) (flat_map g (range_with_len (a + 1) n))
    (each_then (λ l. (first + 64 * a ≤ l.image) × (l.image < first + 64 * a + 64)) (λ l. first + 64 * a ≤ l.image) (g a) (λ l is. is.0) (h a))
    (each_then (λ l. first + 64 * (a + 1) ≤ l.image) (λ l. first + 64 * a ≤ l.image) (flat_map g (range_with_len (a + 1) n)) (λ l is. omega (arith, is)) (from_block first g (a + 1) n h))

-- lines before others of later images begin with the same ones, whatever the others are
front_decides : (l : FailingLine) (ls rest other : List FailingLine) → Each (λ k. l.image < k.image) rest → Each (λ k. l.image < k.image) other
    → first_lines ((l ∷ ls) ++ rest) ≡ first_lines ((l ∷ ls) ++ other)
front_decides l ls rest other h g =
    filter-append (λ (k : FailingLine). k.image == l.image) (l ∷ ls) rest
    ∙ ap (λ (ks : List FailingLine). of_image l.image (l ∷ ls) ++ ks) ((none_after l.image rest h).0 ∙ sym (none_after l.image other g).0)
    ∙ sym (filter-append (λ (k : FailingLine). k.image == l.image) (l ∷ ls) other)

empty_more : (f : ℕ → List FailingLine) (a : ℕ) → f a ≡ [] → ((b : ℕ) → b < a → f b ≡ []) → (b : ℕ) → b < a + 1 → f b ≡ []
empty_more f a own before b lt = elim (eqb_tells b a) [
  | inl here ↦ ap f here.1 ∙ own
  | inr there ↦ before b (omega (arith, lt, there.1))
]

pub first_of_blocks : (first : ℕ) (f g : ℕ → List FailingLine) (a n : ℕ) → ((b : ℕ) → AreIn first b (g b)) → ((b : ℕ) → b < a + n → IsKept f g b)
    → ((b : ℕ) → b < a → f b ≡ []) → first_lines (flat_map f (range_with_len a n)) ≡ first_lines (flat_map g (range_with_len a n))
first_of_blocks first f g a zero own kept before = refl
first_of_blocks first f g a (suc n) own kept before =
    step (f a) (g a) refl (own a) (kept a (omega arith))
    (λ none. first_of_blocks first f g (a + 1) n own (λ b lt. kept b (omega (arith, lt))) (empty_more f a none before))
  where
    kept_rest : List FailingLine
    kept_rest = flat_map f (range_with_len (a + 1) n)

    rest : List FailingLine
    rest = flat_map g (range_with_len (a + 1) n)

    later : (m : ℕ) → m < first + 64 * a + 64 → Each (λ k. m < k.image) rest
    later m lt = each_then (λ k. first + 64 * (a + 1) ≤ k.image) (λ k. m < k.image) rest (λ k is. omega (arith, is, lt)) (from_block first g (a + 1) n own)

    some : AreSomeOf kept_rest rest
    some = some_of_blocks f g (a + 1) n (λ b lt. kept b (omega (arith, lt)))

    step : (ks ls : List FailingLine) → f a ≡ ks → AreIn first a ls → (ks ≡ ls) ⊎ ((ks ≡ []) × ((c : ℕ) × (c < a) × (f c ≢ [])))
        → (f a ≡ [] → first_lines kept_rest ≡ first_lines rest) → first_lines (ks ++ kept_rest) ≡ first_lines (ls ++ rest)
    step ks ls is within (inr passed) then = absurd (passed.1.2 (before passed.1.0 passed.1.1))
    step ks [] is within (inl full) then = rw full (then (is ∙ full))
    step ks (l ∷ ls) is within (inl full) then =
        let after = later l.image within.0.1 in
        rw full (front_decides l ls kept_rest rest (some_each (λ k. l.image < k.image) kept_rest rest after some) after)
