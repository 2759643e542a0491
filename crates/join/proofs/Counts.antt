-- What is counted of lines, and what the definitions say of them.
use Rattle.std.proofs.Common.{ℕ, zero, suc, ◌≡◌, ◌+◌, ◌<◌, ◌≤◌, ◌==◌, ◌&&◌, ◌||◌, nat_lt, nat_le, not, Bool, true, false, if◌then◌else◌, inl, inr, List, [], ◌∷◌, ◌++◌, length, filter, get_or, Option, Some, None, refl, sym, ◌∙◌, ap, subst, arith}
use Rattle.std.proofs.lemmas.Bool.{eq-eqb}
use Rattle.std.proofs.lemmas.Bool.Decides.{nat_tests, eqb_tells}
use Rattle.std.specs.List.Sorted.{IsNonDecreasing}
use Rattle.report.specs.declared.lines.marks.LineMark.{LineMark}
use Rattle.report.specs.Line.{FailingLine, first_lines}
use Rattle.report.specs.Marks.{mark_of, marks_of}
use Rattle.report.specs.Images.{images_of, failing_images, first_image, changes_after, is_same}
use Rattle.report.proofs.Order.{changes_are_images}
use Rattle.report.specs.declared.span.Span.{Span}
use Rattle.join.specs.declared.tally.Tally.{Tally}
use Rattle.join.specs.Order.{is_after, follows, in_order}
use Rattle.join.specs.Reading.{is_new, first_of, none_read, one_more, tallied}

pub tallied_push : (s : Span) (t : Tally) (ms : List LineMark) (m : LineMark) → tallied s t (ms ++ m ∷ []) ≡ one_more s (tallied s t ms) m
unfolding tallied
tallied_push s t [] m = refl
tallied_push s t (l ∷ ms) m = tallied_push s (one_more s t l) ms m

pub tallied_none : (s : Span) (t : Tally) → tallied s t [] ≡ t
unfolding tallied
tallied_none s t = refl

-- how many lines
lines_from : (s : Span) (t : Tally) (ms : List LineMark) → (tallied s t ms).lines ≡ t.lines + length ms
unfolding tallied
lines_from s t [] = omega arith
lines_from s t (m ∷ ms) = let rest = lines_from s (one_more s t m) ms in omega (arith, rest)

-- the last image, of the last line
abbrev last_image : Option LineMark → Option ℕ
last_image None = None
last_image (Some m) = Some m.image

new_image : (last : Option LineMark) (image : ℕ) → ◌≡◌ {A = ℕ} (if is_new last image then 1 else 0) (if is_same (last_image last) (Some image) then 0 else 1)
new_image None image = refl
new_image (Some m) image = elim (m.image == image) as (λ v. ◌≡◌ {A = ℕ} (if not v then 1 else 0) (if v then 0 else 1)) [ true ↦ refl | false ↦ refl ]

-- how often the image changes
images_from : (s : Span) (t : Tally) (ls : List FailingLine) → (tallied s t (marks_of ls)).images ≡ t.images + changes_after (last_image t.last) ls
unfolding tallied
images_from s t [] = omega arith
images_from s t (l ∷ ls) =
    let rest = images_from s (one_more s t (mark_of l)) ls in
    let new = new_image t.last l.image in
    omega (arith, rest, new)

and_assoc : (a b c : Bool) → ((a && b) && c) ≡ (a && (b && c))
and_assoc true b c = refl
and_assoc false b c = refl

-- whether they are in their order
ordered_from : (s : Span) (t : Tally) (ms : List LineMark) → (tallied s t ms).ordered ≡ (t.ordered && in_order s.from s.to t.last ms)
unfolding tallied
ordered_from s t [] = elim t.ordered as (λ v. v ≡ (v && true)) [ true ↦ refl | false ↦ refl ]
ordered_from s t (m ∷ ms) =
    ordered_from s (one_more s t m) ms
    ∙ and_assoc t.ordered (nat_le s.from m.image && nat_lt m.image s.to && follows t.last m) (in_order s.from s.to (Some m) ms)

-- the first image
abbrev earlier : Option ℕ → Option ℕ → Option ℕ
earlier None other = other
earlier (Some image) other = Some image

first_from : (s : Span) (t : Tally) (ls : List FailingLine) → (tallied s t (marks_of ls)).first ≡ earlier t.first (first_image ls)
unfolding tallied
first_from s t [] = elim t.first as (λ v. v ≡ earlier v None) [ None ↦ refl | Some image ↦ refl ]
first_from s t (l ∷ ls) = first_from s (one_more s t (mark_of l)) ls ∙ by_first t.first
  where
    by_first : (first : Option ℕ) → earlier (first_of first l.image) (first_image ls) ≡ earlier first (Some l.image)
    by_first None = refl
    by_first (Some image) = refl

-- what is in order has rising images
both : (a b : Bool) → (a && b) ≡ true → (a ≡ true) × (b ≡ true)
both true b e = (refl, e)
both false b e = absurd (let lack : false ≡ true = e in cc)

pub record IsNext (from to : ℕ) (last : Option LineMark) (m : LineMark) (ms : List LineMark) : Type 0 where
  pub low : from ≤ m.image
  pub high : m.image < to
  pub beyond : follows last m ≡ true
  pub rest : in_order from to (Some m) ms ≡ true

pub next_is : (from to : ℕ) (last : Option LineMark) (m : LineMark) (ms : List LineMark) → in_order from to last (m ∷ ms) ≡ true → IsNext from to last m ms
next_is from to last m ms e =
    let one = both (nat_le from m.image && nat_lt m.image to && follows last m) (in_order from to (Some m) ms) e in
    let two = both (nat_le from m.image && nat_lt m.image to) (follows last m) one.0 in
    let three = both (nat_le from m.image) (nat_lt m.image to) two.0 in
    let at = three.0 in
    let below = three.1 in
    record { low = grind (arith, nat_tests, at); high = grind (arith, nat_tests, below); beyond = two.1; rest = one.1 }

not_before : (last m : LineMark) → is_after last m ≡ true → last.image ≤ m.image
not_before last m e = by_test (nat_lt last.image m.image) (last.image == m.image) refl refl e
  where
    by_test : (a b : Bool) → nat_lt last.image m.image ≡ a → (last.image == m.image) ≡ b → (a || (b && nat_lt last.program m.program)) ≡ true → last.image ≤ m.image
    by_test true b less same all = grind (arith, nat_tests, less)
    by_test false true less same all = grind (arith, nat_tests, same)
    by_test false false less same all = absurd (let lack : false ≡ true = all in cc)

pub rising : (from to : ℕ) (last : Option LineMark) (ls : List FailingLine) → in_order from to last (marks_of ls) ≡ true → IsNonDecreasing (images_of ls)
rising from to last [] e = λ i j d le small. absurd (omega (arith, small))
rising from to last (l ∷ ls) e =
    let next = next_is from to last (mark_of l) (marks_of ls) e in
    let rest = rising from to (Some (mark_of l)) ls next.rest in
    each next.rest rest
  where
    at_default : (from to : ℕ) (l : FailingLine) (ls : List FailingLine) → in_order from to (Some (mark_of l)) (marks_of ls) ≡ true → (j d : ℕ) → j < length (images_of ls) → l.image ≤ get_or (images_of ls) j d
    at_default from to l [] own j d small = absurd (omega (arith, small))
    at_default from to l (k ∷ ks) own zero d small = not_before (mark_of l) (mark_of k) (next_is from to (Some (mark_of l)) (mark_of k) (marks_of ks) own).beyond
    at_default from to l (k ∷ ks) own (suc j) d small =
        let next = next_is from to (Some (mark_of l)) (mark_of k) (marks_of ks) own in
        let here = not_before (mark_of l) (mark_of k) next.beyond in
        let more = at_default from to k ks next.rest j d (omega (arith, small)) in
        omega (arith, here, more)

    each : in_order from to (Some (mark_of l)) (marks_of ls) ≡ true → IsNonDecreasing (images_of ls) → IsNonDecreasing (images_of (l ∷ ls))
    each own more zero zero d le small = omega arith
    each own more zero (suc j) d le small = at_default from to l ls own j d (omega (arith, small))
    each own more (suc i) zero d le small = absurd (omega (arith, le))
    each own more (suc i) (suc j) d le small = more i j d (omega (arith, le)) (omega (arith, small))

-- the counts of all lines
pub counted_lines : (s : Span) (ls : List FailingLine) → (tallied s none_read (marks_of ls)).lines ≡ length ls
counted_lines s ls = let own = lines_from s none_read (marks_of ls) in let long = length_map ls in omega (arith, own, long)
  where
    length_map : (ls : List FailingLine) → length (marks_of ls) ≡ length ls
    length_map [] = refl
    length_map (l ∷ ls) = ap suc (length_map ls)

pub counted_order : (s : Span) (ms : List LineMark) → (tallied s none_read ms).ordered ≡ in_order s.from s.to None ms
counted_order s ms = ordered_from s none_read ms

pub counted_images : (s : Span) (ls : List FailingLine) → in_order s.from s.to None (marks_of ls) ≡ true → (tallied s none_read (marks_of ls)).images ≡ failing_images ls
counted_images s ls e =
    let own = images_from s none_read ls in
    let all = changes_are_images ls (rising s.from s.to None ls e) in
    omega (arith, own, all)

pub counted_first : (s : Span) (ls : List FailingLine) → (tallied s none_read (marks_of ls)).first ≡ first_image ls
counted_first s ls = first_from s none_read ls

-- lines of at most one image are those of the first
no_change : (l : FailingLine) (ls : List FailingLine) → changes_after (Some l.image) ls ≡ 0 → filter (λ (m : FailingLine). m.image == l.image) ls ≡ ls
no_change l [] e = refl
no_change l (k ∷ ks) e = elim (eqb_tells l.image k.image) [
  | inl same ↦
      let back : k.image ≡ l.image = sym same.1 in
      let here : (if l.image == k.image then 0 else 1) + changes_after (Some k.image) ks ≡ 0 = e in
      let none : changes_after (Some k.image) ks ≡ 0 = omega (arith, here) in
      let less : changes_after (Some l.image) ks ≡ 0 = subst (λ (image : ℕ). changes_after (Some image) ks ≡ 0) back none in
      rw (eq-eqb k.image l.image back) (ap (λ (xs : List FailingLine). k ∷ xs) (no_change l ks less))
  | inr other ↦ absurd (let here : (if l.image == k.image then 0 else 1) + changes_after (Some k.image) ks ≡ 0 = e in let step = rw other.0 at here in omega (arith, step))
]

pub all_of_first : (ls : List FailingLine) → IsNonDecreasing (images_of ls) → failing_images ls ≤ 1 → first_lines ls ≡ ls
all_of_first [] up few = refl
all_of_first (l ∷ ls) up few =
    let changes = changes_are_images (l ∷ ls) up in
    let none : changes_after (Some l.image) ls ≡ 0 = omega (arith, changes, few) in
    rw (eq-eqb l.image l.image refl) (ap (λ (xs : List FailingLine). l ∷ xs) (no_change l ls none))
