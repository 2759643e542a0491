-- The failing lines are the set of those that fail, in their order.
use Rattle.std.proofs.Common.{ℕ, zero, suc, ◌≡◌, ◌+◌, ◌-◌, ◌<◌, ◌≤◌, inl, inr, Bool, true, false, IsTrue, List, [], ◌∷◌, ◌++◌, length, map, get_or, Option, None, Some, slice_get, refl, sym, ◌∙◌, arith}
use Rattle.std.specs.Option.{option_and_then}
use Rattle.std.specs.List.{cons_option, filter_map, flat_map, range_with_len}
use Rattle.std.specs.List.Sorted.{IsNonDecreasing}
use Rattle.std.proofs.lemmas.Bool.Decides.{eqb_tells}
use Rattle.std.proofs.lemmas.Option.{slice_get_within}
use Rattle.base.proofs.Lists.{slice_get-append_left, slice_get-append_right}
use Rattle.choices.specs.Choices.{ChoiceValue}
use Rattle.checker.specs.Checker.{CheckerValue}
use Rattle.machine.specs.Outcome.{Ending, fails}
use Rattle.report.specs.Line.{FailingLine}
use Rattle.workers.specs.Failing.{Subject, choices_of, ending_at, line_if, line_at, line_of, image_lines, lines_from, failing_lines}
use Rattle.workers.specs.Laws.{IsFailing, Precedes, ListsFailing}
use Rattle.workers.proofs.JudgedLines.{line_is}

abbrev pub Each : (FailingLine → Type 0) → List FailingLine → Type 0
Each P [] = Unit {0}
Each P (l ∷ ls) = P l × Each P ls

abbrev pub Ordered : List FailingLine → Type 0
Ordered [] = Unit {0}
Ordered (l ∷ ls) = Each (Precedes l) ls × Ordered ls

pub each_append : (P : FailingLine → Type 0) (xs ys : List FailingLine) → Each P xs → Each P ys → Each P (xs ++ ys)
each_append P [] ys h g = g
each_append P (x ∷ xs) ys h g = (h.0, each_append P xs ys h.1 g)

pub each_then : (P Q : FailingLine → Type 0) (xs : List FailingLine) → ((l : FailingLine) → P l → Q l) → Each P xs → Each Q xs
each_then P Q [] f h = tt
each_then P Q (x ∷ xs) f h = (f x h.0, each_then P Q xs f h.1)

each_at : (P : FailingLine → Type 0) (xs : List FailingLine) (i : ℕ) (l : FailingLine) → Each P xs → slice_get xs i ≡ Some l → P l
each_at P [] i l h g = absurd (let bad : None ≡ Some l = g in cc)
each_at P (x ∷ xs) zero l h g = let e : x ≡ l = (let s : Some x ≡ Some l = g in cc) in subst_line P e h.0
  where
    subst_line : (P : FailingLine → Type 0) {x l : FailingLine} → x ≡ l → P x → P l
    subst_line P e p = rw (← e) p
each_at P (x ∷ xs) (suc i) l h g = each_at P xs i l h.1 g

-- every line of the first list comes before every line of the second
abbrev AllBefore : List FailingLine → List FailingLine → Type 0
AllBefore xs ys = Each (λ x. Each (Precedes x) ys) xs

ordered_append : (xs ys : List FailingLine) → Ordered xs → Ordered ys → AllBefore xs ys → Ordered (xs ++ ys)
ordered_append [] ys h g b = g
ordered_append (x ∷ xs) ys h g b = (each_append (Precedes x) xs ys h.0 b.0, ordered_append xs ys h.1 g b.1)

ordered_at : (xs : List FailingLine) (i j : ℕ) (a b : FailingLine) → Ordered xs → i < j → slice_get xs i ≡ Some a → slice_get xs j ≡ Some b → Precedes a b
ordered_at [] i j a b h lt f g = absurd (let bad : None ≡ Some a = f in cc)
ordered_at (x ∷ xs) i zero a b h lt f g = absurd (omega (arith, lt))
ordered_at (x ∷ xs) zero (suc j) a b h lt f g = let e : x ≡ a = (let s : Some x ≡ Some a = f in cc) in rw (← e) (each_at (Precedes x) xs j b h.0 g)
ordered_at (x ∷ xs) (suc i) (suc j) a b h lt f g = ordered_at xs i j a b h.1 (omega (arith, lt)) f g

-- the line of an image and a checker

-- the line tells truly of an image and a checker of the run, whether the image is judged or not
record IsLine (s : Subject) (l : FailingLine) : Type 0 where
  choice : ChoiceValue
  of_image : slice_get (choices_of s) l.image ≡ Some choice
  checker : CheckerValue
  of_program : slice_get s.checkers l.program ≡ Some checker
  ends : l.ending ≡ ending_at s choice checker
  cut : l.cut ≡ choice.cut
  by_is : l.by ≡ s.plan.by
  departures : l.departures ≡ choice.departures
  fails : IsTrue (fails l.ending)

-- what the line of that image says, with a checker from p on
abbrev IsOf : Subject → ℕ → ℕ → FailingLine → Type 0
IsOf s i p l = IsLine s l × (l.image ≡ i) × (p ≤ l.program)

abbrev IsOfOption : Subject → ℕ → ℕ → Option FailingLine → Type 0
IsOfOption s i p None = Unit {0}
IsOfOption s i p (Some l) = IsLine s l × (l.image ≡ i) × (l.program ≡ p)

line_if-fails : (s : Subject) (i p : ℕ) (choice : ChoiceValue) (checker : CheckerValue) (b : Bool)
    → slice_get (choices_of s) i ≡ Some choice → slice_get s.checkers p ≡ Some checker → fails (ending_at s choice checker) ≡ b
    → IsOfOption s i p (line_if s.plan.by i choice p (ending_at s choice checker))
line_if-fails s i p choice checker false there named f = rw f tt
line_if-fails s i p choice checker true there named f =
    rw f (
      record {
        choice = choice;
        of_image = there;
        checker = checker;
        of_program = named;
        ends = refl;
        cut = refl;
        by_is = refl;
        departures = refl;
        fails = rw f refl;
      },
      refl,
      refl,
    )

of_pair : (s : Subject) (i p : ℕ) → IsOfOption s i p (line_of s i p)
unfolding line_of
of_pair s i p = at_choice (slice_get (choices_of s) i) refl
  where
    at_checker : (choice : ChoiceValue) (o : Option CheckerValue) → slice_get (choices_of s) i ≡ Some choice → slice_get s.checkers p ≡ o
        → IsOfOption s i p (option_and_then (λ checker. line_if s.plan.by i choice p (ending_at s choice checker)) o)
    at_checker choice None there named = tt
    at_checker choice (Some checker) there named = line_if-fails s i p choice checker (fails (ending_at s choice checker)) there named refl

    at_choice : (o : Option ChoiceValue) → slice_get (choices_of s) i ≡ o → IsOfOption s i p (option_and_then (λ choice. line_at s i choice p) o)
    at_choice None there = tt
    at_choice (Some choice) there = at_checker choice (slice_get s.checkers p) there refl

-- the lines of an image

of_image : (s : Subject) (i a n : ℕ) → Each (IsOf s i a) (filter_map (line_of s i) (range_with_len a n)) × Ordered (filter_map (line_of s i) (range_with_len a n))
of_image s i a zero = (tt, tt)
of_image s i a (suc n) = step (line_of s i a) (filter_map (line_of s i) (range_with_len (a + 1) n)) (of_pair s i a) (of_image s i (a + 1) n)
  where
    step : (o : Option FailingLine) (ls : List FailingLine) → IsOfOption s i a o → Each (IsOf s i (a + 1)) ls × Ordered ls
        → Each (IsOf s i a) (cons_option o ls) × Ordered (cons_option o ls)
    step None ls h g = (each_then (IsOf s i (a + 1)) (IsOf s i a) ls (λ l is. (is.0, is.1, omega (arith, is.2))) g.0, g.1)
    step (Some l) ls h g = (
      ((h.0, h.1, omega (arith, h.2)), each_then (IsOf s i (a + 1)) (IsOf s i a) ls (λ l is. (is.0, is.1, omega (arith, is.2))) g.0),
      (each_then (IsOf s i (a + 1)) (Precedes l) ls (λ m is. inr (h.1 ∙ sym is.1, omega (arith, h.2, is.2))) g.0, g.1),
    )

lines_here : (s : Subject) (a : ℕ) → Each (IsOf s a 0) (image_lines s a) × Ordered (image_lines s a)
unfolding image_lines
lines_here s a = of_image s a 0 (length s.checkers)

-- the lines of images from a on

abbrev IsFrom : Subject → ℕ → FailingLine → Type 0
IsFrom s a l = IsLine s l × (a ≤ l.image)

of_images : (s : Subject) (a n : ℕ) → Each (IsFrom s a) (lines_from s a n) × Ordered (lines_from s a n)
of_images s a zero = (tt, tt)
of_images s a (suc n) = step (image_lines s a) (lines_from s (a + 1) n) (lines_here s a) (of_images s (a + 1) n)
  where
    step : (xs ys : List FailingLine) → Each (IsOf s a 0) xs × Ordered xs → Each (IsFrom s (a + 1)) ys × Ordered ys → Each (IsFrom s a) (xs ++ ys) × Ordered (xs ++ ys)
    step xs ys h g = (
      each_append (IsFrom s a) xs ys (each_then (IsOf s a 0) (IsFrom s a) xs (λ l is. (is.0, omega (arith, is.1))) h.0)
          (each_then (IsFrom s (a + 1)) (IsFrom s a) ys (λ l is. (is.0, omega (arith, is.1))) g.0),
      ordered_append xs ys h.1 g.1
          (each_then (IsOf s a 0) (λ x. Each (Precedes x) ys) xs
          (λ x is. each_then (IsFrom s (a + 1)) (Precedes x) ys (λ y js. inl (omega (arith, is.1, js.1))) g.0) h.0),
    )

-- the lines of some images are of those images
pub of_range : (s : Subject) (a n : ℕ) → Each (λ l. (a ≤ l.image) × (l.image < a + n)) (lines_from s a n)
of_range s a zero = tt
of_range s a (suc n) = step (image_lines s a) (lines_from s (a + 1) n) (lines_here s a).0 (of_range s (a + 1) n)
  where
    step : (xs ys : List FailingLine) → Each (IsOf s a 0) xs → Each (λ l. (a + 1 ≤ l.image) × (l.image < a + 1 + n)) ys
        → Each (λ l. (a ≤ l.image) × (l.image < a + suc n)) (xs ++ ys)
    step xs ys h g =
        each_append (λ l. (a ≤ l.image) × (l.image < a + suc n)) xs ys
        (each_then (IsOf s a 0) (λ l. (a ≤ l.image) × (l.image < a + suc n)) xs (λ l is. (omega (arith, is.1), omega (arith, is.1))) h)
        (each_then (λ l. (a + 1 ≤ l.image) × (l.image < a + 1 + n)) (λ l. (a ≤ l.image) × (l.image < a + suc n)) ys
        (λ l is. (omega (arith, is.0), omega (arith, is.1))) g)

-- where a failing line stands

option_line : (s : Subject) (l : FailingLine) → IsFailing s l → line_of s l.image l.program ≡ Some l
option_line s l h = line_is s l.image l.program h.choice h.checker h.of_image h.of_program ∙ told (ending_at s h.choice h.checker) (sym h.ends)
  where
    told : (e : Ending) → e ≡ l.ending → line_if s.plan.by l.image h.choice l.program e ≡ Some l
    told e same =
        let failing : fails e ≡ true = rw same h.fails in
        rw failing (λ i. Some (record { image = l.image; cut = sym h.cut i; program = l.program; ending = same i; by = sym h.by_is i; departures = sym h.departures i }))

in_options : (f : ℕ → Option FailingLine) (a n p : ℕ) (l : FailingLine) → a ≤ p → p < a + n → f p ≡ Some l → (i : ℕ) × (slice_get (filter_map f (range_with_len a n)) i ≡ Some l)
in_options f a zero p l low high h = absurd (omega (arith, low, high))
in_options f a (suc n) p l low high h = elim (eqb_tells a p) [
  | inl here ↦ (0, (let first : f a ≡ Some l = rw here.1 h in rw first refl))
  | inr there ↦
      let lt : a < p = omega (arith, low, there.1) in
      let rest = in_options f (a + 1) n p l (omega (arith, lt)) (omega (arith, high)) h in
      beyond (f a) (filter_map f (range_with_len (a + 1) n)) rest.0 l rest.1
]
  where
    beyond : (o : Option FailingLine) (ls : List FailingLine) (i : ℕ) (l : FailingLine) → slice_get ls i ≡ Some l → (j : ℕ) × (slice_get (cons_option o ls) j ≡ Some l)
    beyond None ls i l h = (i, h)
    beyond (Some m) ls i l h = (suc i, h)

in_lists : (f : ℕ → List FailingLine) (a n p i : ℕ) (l : FailingLine) → a ≤ p → p < a + n → slice_get (f p) i ≡ Some l → (j : ℕ) × (slice_get (flat_map f (range_with_len a n)) j ≡ Some l)
in_lists f a zero p i l low high h = absurd (omega (arith, low, high))
in_lists f a (suc n) p i l low high h = elim (eqb_tells a p) [
  | inl here ↦
      let first : slice_get (f a) i ≡ Some l = rw here.1 h in
      (i, slice_get-append_left (f a) (flat_map f (range_with_len (a + 1) n)) i (slice_get_within (f a) i l first) ∙ first)
  | inr there ↦
      let lt : a < p = omega (arith, low, there.1) in
      let rest = in_lists f (a + 1) n p i l (omega (arith, lt)) (omega (arith, high)) h in
      (length (f a) + rest.0, slice_get-append_right (f a) (flat_map f (range_with_len (a + 1) n)) rest.0 ∙ rest.1)
]

in_image : (s : Subject) (l : FailingLine) → IsFailing s l → (i : ℕ) × (slice_get (image_lines s l.image) i ≡ Some l)
unfolding image_lines
in_image s l h =
    let lt = slice_get_within s.checkers l.program h.checker h.of_program in
    in_options (line_of s l.image) 0 (length s.checkers) l.program l (omega arith) (omega (arith, lt)) (option_line s l h)

is_failing : (s : Subject) (l : FailingLine) → s.from ≤ l.image → l.image < s.to → IsLine s l → IsFailing s l
is_failing s l low high is = record {
  low = low;
  high = high;
  choice = is.choice;
  of_image = is.of_image;
  checker = is.checker;
  of_program = is.of_program;
  ends = is.ends;
  cut = is.cut;
  by_is = is.by_is;
  departures = is.departures;
  fails = is.fails;
}

pub listed : (s : Subject) → ListsFailing s (failing_lines s)
unfolding failing_lines
listed s =
    let lines = lines_from s s.from (s.to - s.from) in
    let all = of_images s s.from (s.to - s.from) in
    record {
      sound = λ i l there.
          let at = each_at (λ k. (s.from ≤ k.image) × (k.image < s.from + (s.to - s.from))) lines i l (of_range s s.from (s.to - s.from)) there in
          is_failing s l at.0 (omega (arith, at.0, at.1)) (each_at (IsFrom s s.from) lines i l all.0 there).0;
      complete = λ l h.
          let within = in_image s l h in
          in_lists (image_lines s) s.from (s.to - s.from) l.image within.0 l h.low (omega (arith, h.low, h.high)) within.1;
      ordered = λ i j a b lt f g. ordered_at lines i j a b all.1 lt f g;
    }

-- the images of the lines never fall

lowest : (l : FailingLine) (ls : List FailingLine) (j d : ℕ) → Each (Precedes l) ls → j < length (map (λ (m : FailingLine). m.image) ls)
    → l.image ≤ get_or (map (λ (m : FailingLine). m.image) ls) j d
lowest l [] j d h lt = absurd (omega (arith, lt))
lowest l (m ∷ ms) zero d h lt = elim h.0 [ inl less ↦ omega (arith, less) | inr same ↦ omega (arith, same.0) ]
lowest l (m ∷ ms) (suc j) d h lt = lowest l ms j d h.1 (omega (arith, lt))

rises : (ls : List FailingLine) (i j d : ℕ) → Ordered ls → i ≤ j → j < length (map (λ (m : FailingLine). m.image) ls)
    → get_or (map (λ (m : FailingLine). m.image) ls) i d ≤ get_or (map (λ (m : FailingLine). m.image) ls) j d
rises [] i j d h le lt = absurd (omega (arith, lt))
rises (l ∷ ls) zero zero d h le lt = omega arith
rises (l ∷ ls) zero (suc j) d h le lt = lowest l ls j d h.0 (omega (arith, lt))
rises (l ∷ ls) (suc i) zero d h le lt = absurd (omega (arith, le))
rises (l ∷ ls) (suc i) (suc j) d h le lt = rises ls i j d h.1 (omega (arith, le)) (omega (arith, lt))

pub images_rise : (ls : List FailingLine) → Ordered ls → IsNonDecreasing (map (λ (l : FailingLine). l.image) ls)
images_rise ls h = λ i j d le lt. rises ls i j d h le lt

pub all_ordered : (s : Subject) → Ordered (failing_lines s)
unfolding failing_lines
all_ordered s = (of_images s s.from (s.to - s.from)).1
