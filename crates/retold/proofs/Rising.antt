-- The images of the lines of a program rise, and are images of the run.
use Rattle.std.proofs.Common.{ℕ, zero, suc, ◌≡◌, ◌<◌, ◌==◌, ◌&&◌, ◌||◌, ◌⊎◌, nat_lt, inl, inr, Bool, true, false, if◌then◌else◌, List, [], ◌∷◌, length, map, filter, slice_get, Option, None, Some, refl, sym, ◌∙◌, subst, arith}
use Rattle.std.proofs.lemmas.Bool.Decides.{nat_tests, eqb_tells}
use Rattle.std.proofs.lemmas.Option.{slice_get_within}
use Rattle.std.proofs.lemmas.List.{length-map}
use Rattle.choices.specs.Choices.{ranked_choices}
use Rattle.choices.specs.Sums.{StartsValue}
use Rattle.report.specs.declared.lines.marks.LineMark.{LineMark}
use Rattle.losses.specs.Failures.{AreInOrder, AreImages}
use Rattle.join.specs.Order.{is_after, in_order}
use Rattle.join.specs.Given.{ToldLine, IsTold, AreToldOf, marks_told}
use Rattle.join.proofs.Counts.{next_is}
use Rattle.retold.specs.Told.{is_of, images_told_of, outcomes_told_of, AreOfRun}

-- a line stands after another
abbrev pub StandsAfter : LineMark → LineMark → Type 0
StandsAfter a b = (a.image < b.image) ⊎ ((a.image ≡ b.image) × (a.program < b.program))

after_of : (a b : LineMark) → is_after a b ≡ true → StandsAfter a b
after_of a b e = by_tests (nat_lt a.image b.image) (a.image == b.image) (nat_lt a.program b.program) refl refl refl e
  where
    by_tests : (p q r : Bool) → nat_lt a.image b.image ≡ p → (a.image == b.image) ≡ q → nat_lt a.program b.program ≡ r → (p || (q && r)) ≡ true → StandsAfter a b
    by_tests true q r x y z all = inl (grind (arith, nat_tests, x))
    by_tests false true true x y z all = inr (grind (arith, nat_tests, y), grind (arith, nat_tests, z))
    by_tests false true false x y z all = absurd (let bad : false ≡ true = all in cc)
    by_tests false false r x y z all = absurd (let bad : false ≡ true = all in cc)

after_both : (a b c : LineMark) → StandsAfter a b → StandsAfter b c → StandsAfter a c
after_both a b c (inl less) (inl more) = inl (omega (arith, less, more))
after_both a b c (inl less) (inr same) = let at = same.0 in inl (omega (arith, less, at))
after_both a b c (inr same) (inl more) = let at = same.0 in inl (omega (arith, at, more))
after_both a b c (inr same) (inr more) =
    let at = same.0 in
    let as_well = more.0 in
    let less = same.1 in
    let below = more.1 in
    inr (omega (arith, at, as_well), omega (arith, less, below))

later : (from to : ℕ) (m : LineMark) (ts : List ToldLine) → in_order from to (Some m) (marks_told ts) ≡ true → (k : ℕ) (t : ToldLine) → slice_get ts k ≡ Some t → StandsAfter m t.mark
later from to m [] e k t there = absurd (let bad : None ≡ Some t = there in cc)
later from to m (x ∷ ts) e zero t there =
    let is : Some x ≡ Some t = there in
    let same : x ≡ t = cc in
    subst (λ (y : ToldLine). StandsAfter m y.mark) same (after_of m x.mark (next_is from to (Some m) x.mark (marks_told ts) e).beyond)
later from to m (x ∷ ts) e (suc k) t there =
    let next = next_is from to (Some m) x.mark (marks_told ts) e in
    after_both m x.mark t.mark (after_of m x.mark next.beyond) (later from to x.mark ts next.rest k t there)

in_rows : (from to : ℕ) (last : Option LineMark) (ts : List ToldLine) → in_order from to last (marks_told ts) ≡ true → (i j : ℕ) (a b : ToldLine) → i < j → slice_get ts i ≡ Some a → slice_get ts j ≡ Some b → StandsAfter a.mark b.mark
in_rows from to last [] e i j a b lt ati atj = absurd (let bad : None ≡ Some a = ati in cc)
in_rows from to last (x ∷ ts) e i zero a b lt ati atj = absurd (omega (arith, lt))
in_rows from to last (x ∷ ts) e zero (suc j) a b lt ati atj =
    let is : Some x ≡ Some a = ati in
    let same : x ≡ a = cc in
    subst (λ (y : ToldLine). StandsAfter y.mark b.mark) same (later from to x.mark ts (next_is from to last x.mark (marks_told ts) e).rest j b atj)
in_rows from to last (x ∷ ts) e (suc i) (suc j) a b lt ati atj = in_rows from to (Some x.mark) ts (next_is from to last x.mark (marks_told ts) e).rest i j a b (omega (arith, lt)) ati atj

-- the line of an image on which a program fails
record IsToldAt (program image : ℕ) (ts : List ToldLine) : Type 0 where
  place : ℕ
  line : ToldLine
  there : slice_get ts place ≡ Some line
  image_is : line.mark.image ≡ image
  program_is : line.mark.program ≡ program

line_after : (program image : ℕ) (t : ToldLine) (ts : List ToldLine) → IsToldAt program image ts → IsToldAt program image (t ∷ ts)
line_after program image t ts is = record { place = suc is.place; line = is.line; there = is.there; image_is = is.image_is; program_is = is.program_is }

line_at : (program : ℕ) (ts : List ToldLine) (i image : ℕ) → slice_get (images_told_of program ts) i ≡ Some image → IsToldAt program image ts
line_at program [] i image at = absurd (let bad : None ≡ Some image = at in cc)
line_at program (t ∷ ts) i image at = by_test (λ j there. line_at program ts j image there) (t.mark.program == program) refl i at
  where
    by_test : ((j : ℕ) → slice_get (images_told_of program ts) j ≡ Some image → IsToldAt program image ts) → (b : Bool) → (t.mark.program == program) ≡ b → (i : ℕ)
        → slice_get (map (λ (x : ToldLine). x.mark.image) (if b then t ∷ filter (is_of program) ts else filter (is_of program) ts)) i ≡ Some image → IsToldAt program image (t ∷ ts)
    by_test inner true e zero at =
        let same : Some t.mark.image ≡ Some image = at in
        record { place = 0; line = t; there = refl; image_is = cc; program_is = grind (arith, eqb_tells, e) }
    by_test inner true e (suc i) at = line_after program image t ts (inner i at)
    by_test inner false e i at = line_after program image t ts (inner i at)

-- they rise
images_rise : (program : ℕ) (ts : List ToldLine) → ((i j : ℕ) (a b : ToldLine) → i < j → slice_get ts i ≡ Some a → slice_get ts j ≡ Some b → StandsAfter a.mark b.mark) → AreInOrder (images_told_of program ts)
images_rise program [] order i j n m lt ati atj = absurd (let bad : None ≡ Some n = ati in cc)
images_rise program (t ∷ ts) order i j n m lt ati atj =
    by_test (images_rise program ts (λ k h a b less atk ath. order (suc k) (suc h) a b (omega (arith, less)) atk ath)) (t.mark.program == program) refl i j lt ati atj
  where
    by_test : AreInOrder (images_told_of program ts) → (b : Bool) → (t.mark.program == program) ≡ b → (i j : ℕ) → i < j
        → slice_get (map (λ (x : ToldLine). x.mark.image) (if b then t ∷ filter (is_of program) ts else filter (is_of program) ts)) i ≡ Some n
        → slice_get (map (λ (x : ToldLine). x.mark.image) (if b then t ∷ filter (is_of program) ts else filter (is_of program) ts)) j ≡ Some m
        → n < m
    by_test inner false e i j lt ati atj = inner i j n m lt ati atj
    by_test inner true e i zero lt ati atj = absurd (omega (arith, lt))
    by_test inner true e zero (suc j) lt ati atj =
        let same : Some t.mark.image ≡ Some n = ati in
        let is : t.mark.image ≡ n = cc in
        let own : t.mark.program ≡ program = grind (arith, eqb_tells, e) in
        let found = line_at program ts j m atj in
        let image_is = found.image_is in
        let program_is = found.program_is in
        elim (order 0 (suc found.place) t found.line (omega arith) refl found.there) [
          | inl less ↦ omega (arith, less, is, image_is)
          | inr less ↦ absurd (let below = less.1 in omega (arith, below, own, program_is))
        ]
    by_test inner true e (suc i) (suc j) lt ati atj = inner i j n m (omega (arith, lt)) ati atj

told_at : (outside : Bool) (programs : ℕ) (s : StartsValue) (ts : List ToldLine) → AreToldOf outside programs s ts → (k : ℕ) (t : ToldLine) → slice_get ts k ≡ Some t → IsTold outside programs s t
told_at outside programs s [] all k t there = absurd (let bad : None ≡ Some t = there in cc)
told_at outside programs s (x ∷ ts) all zero t there =
    let is : Some x ≡ Some t = there in
    let same : x ≡ t = cc in
    subst (IsTold outside programs s) same all.0
told_at outside programs s (x ∷ ts) all (suc k) t there = told_at outside programs s ts all.1 k t there

are_images : (outside : Bool) (programs images : ℕ) (s : StartsValue) (ts : List ToldLine) (program : ℕ) → AreToldOf outside programs s ts → in_order 0 images None (marks_told ts) ≡ true → AreImages s (images_told_of program ts)
are_images outside programs images s ts program all order = record {
  ordered = images_rise program ts (in_rows 0 images None ts order);
  within = λ i n at.
      let line = line_at program ts i n at in
      let told = told_at outside programs s ts all line.place line.line line.there in
      let within = slice_get_within (ranked_choices s.plan s.bound s.tears) line.line.mark.image told.choice told.there in
      let image_is = line.image_is in
      omega (arith, within, image_is);
}

pub are_of_run : (outside : Bool) (programs images : ℕ) (s : StartsValue) (ts : List ToldLine) → AreToldOf outside programs s ts → in_order 0 images None (marks_told ts) ≡ true → AreOfRun s ts
are_of_run outside programs images s ts all order = record {
  within = λ k t there.
      let told = told_at outside programs s ts all k t there in
      slice_get_within (ranked_choices s.plan s.bound s.tears) t.mark.image told.choice told.there;
  images = λ program. are_images outside programs images s ts program all order;
}

-- a mark is of an image of the run
pub marks_within : (s : StartsValue) (ts : List ToldLine) → AreOfRun s ts → (k : ℕ) (m : LineMark) → slice_get (marks_told ts) k ≡ Some m → m.image < length (ranked_choices s.plan s.bound s.tears)
marks_within s ts of_run = each ts of_run.within
  where
    each : (xs : List ToldLine) → ((i : ℕ) (t : ToldLine) → slice_get xs i ≡ Some t → t.mark.image < length (ranked_choices s.plan s.bound s.tears)) → (k : ℕ) (m : LineMark) → slice_get (marks_told xs) k ≡ Some m
        → m.image < length (ranked_choices s.plan s.bound s.tears)
    each [] within k m there = absurd (let bad : None ≡ Some m = there in cc)
    each (x ∷ xs) within zero m there =
        let is : Some x.mark ≡ Some m = there in
        let same : x.mark ≡ m = cc in
        subst (λ (y : LineMark). y.image < length (ranked_choices s.plan s.bound s.tears)) same (within 0 x refl)
    each (x ∷ xs) within (suc k) m there = each xs (λ i t at. within (suc i) t at) k m there

-- a program fails on as many images as it has outcomes
pub as_many : (program : ℕ) (ts : List ToldLine) → length (images_told_of program ts) ≡ length (outcomes_told_of program ts)
as_many program ts = length-map (filter (is_of program) ts) (λ (t : ToldLine). t.mark.image) ∙ sym (length-map (filter (is_of program) ts) (λ (t : ToldLine). t.outcome))
