-- The lines of a part and its last line, by what was counted.
use Rattle.std.proofs.Common.{ℕ, ◌≡◌, ◌≢◌, ◌≤◌, ◌==◌, if◌then◌else◌, Bool, true, false, List, [], ◌∷◌, ◌++◌, length, get_or, append_assoc, codes, Option, Some, None, refl, sym, ◌∙◌, ap, arith}
use Rattle.std.specs.Fmt.{decimal}
use Rattle.std.specs.List.{flat_map}
use Rattle.report.specs.Line.{FailingLine}
use Rattle.report.specs.Marks.{marks_of}
use Rattle.report.specs.Images.{failing_images, first_image}
use Rattle.report.specs.LineText.{line_text}
use Rattle.report.specs.Report.{totals_line, first_line, image_text, findings_text}
use Rattle.report.specs.declared.span.Span.{Span}
use Rattle.join.specs.declared.tally.Tally.{Tally}
use Rattle.join.specs.Order.{in_order}
use Rattle.join.proofs.LinesRead.{Any}
use Rattle.join.specs.Reading.{none_read, tallied, last_text, body_text, words_of, BeginsImage, NoLine}
use Rattle.machine.specs.Outcome.{Verdict}
use Rattle.epochs.specs.declared.part.By.TheVariants as by
use Rattle.report.specs.MarkReading.{lacks}
use Rattle.report.specs.LineText.{codes_text, choice_text}
use Rattle.report.proofs.Back.{lacks_both, end_lacks}
use Rattle.join.specs.Printable.{IsPrintable, ArePrintable, end_text}
use Rattle.join.proofs.Texts.{cancel, one_cut}
use Rattle.join.proofs.Bodies.{by_words, body_lacks, line_is}
use Rattle.join.proofs.Counts.{rising, counted_lines, counted_images, counted_first, all_of_first}

pub totals_are : (images : ℕ) (t : Tally) (ls : List FailingLine) → t.images ≡ failing_images ls → t.lines ≡ length ls → totals_line images ls ≡ last_text false images t
unfolding totals_line last_text
totals_are images t ls failing long = rw (failing, long) refl

pub first_is : (images : ℕ) (t : Tally) (ls : List FailingLine) → t.first ≡ first_image ls → first_line images ls ≡ last_text true images t
unfolding first_line last_text
first_is images t ls first = rw first refl

-- what stands after the head, by what was counted of the lines
pub findings_are : (first : Bool) (images : ℕ) (s : Span) (ls : List FailingLine) → in_order s.from s.to None (marks_of ls) ≡ true → (first ≡ true → failing_images ls ≤ 1)
    → findings_text first images ls ≡ flat_map line_text ls ++ last_text first images (tallied s none_read (marks_of ls))
findings_are false images s ls order one =
    ap (λ (bs : List ℕ). flat_map line_text ls ++ bs) (totals_are images (tallied s none_read (marks_of ls)) ls (counted_images s ls order) (counted_lines s ls))
findings_are true images s ls order one =
    let same = all_of_first ls (rising s.from s.to None ls order) (one refl) in
    rw same (ap (λ (bs : List ℕ). flat_map line_text ls ++ bs) (first_is images (tallied s none_read (marks_of ls)) ls (counted_first s ls)))

-- the two kinds of a last line differ
kind_text : (first : Bool) (images : ℕ) (t : Tally) → List ℕ
kind_text false images t = codes "ailing " ++ decimal t.images ++ codes " lines " ++ decimal t.lines ++ codes "\n"
kind_text true images t = codes "irst " ++ image_text t.first ++ codes "\n"

last_parts : (first : Bool) (images : ℕ) (t : Tally) → last_text first images t ≡ (codes "images " ++ (decimal images ++ codes " f")) ++ kind_text first images t
unfolding last_text kind_text
last_parts false images t = simp append_assoc
last_parts true images t = simp append_assoc

differ : (images : ℕ) (t : Tally) → kind_text false images t ≡ kind_text true images t → ⊥
unfolding kind_text
differ images t same = let bad : 97 ≡ 105 = ap (λ (bs : List ℕ). get_or bs 0 0) same in omega (arith, bad)

pub one_kind : (first other : Bool) (images : ℕ) (t : Tally) → last_text first images t ≡ last_text other images t → first ≡ other
one_kind false false images t e = refl
one_kind true true images t e = refl
one_kind false true images t e =
    absurd (differ images t (cancel (codes "images " ++ (decimal images ++ codes " f")) _ _ (sym (last_parts false images t) ∙ e ∙ last_parts true images t)))
one_kind true false images t e =
    absurd (differ images t (cancel (codes "images " ++ (decimal images ++ codes " f")) _ _ (sym (last_parts false images t) ∙ sym e ∙ last_parts true images t)))

-- no number has a newline
both_lack : (c : ℕ) (xs ys : List ℕ) → lacks c (xs ++ ys) ≡ true → (lacks c xs ≡ true) × (lacks c ys ≡ true)
both_lack c [] ys l = (refl, l)
both_lack c (x ∷ xs) ys l = by_test (x == c) (both_lack c xs ys) l
  where
    by_test : (t : Bool) → (lacks c (xs ++ ys) ≡ true → (lacks c xs ≡ true) × (lacks c ys ≡ true)) → (if t then false else lacks c (xs ++ ys)) ≡ true
        → ((if t then false else lacks c xs) ≡ true) × (lacks c ys ≡ true)
    by_test true rest bad = absurd (let lack : false ≡ true = bad in cc)
    by_test false rest own = rest own

digits_lack : (n : ℕ) → lacks 10 (decimal n) ≡ true
digits_lack n =
    let line : FailingLine = record { image = 0; cut = 0; program = 0; ending = Verdict n []; by = by.Sector; departures = [] } in
    let all : lacks 10 (((((codes "answer " ++ decimal n) ++ codes " codes ") ++ codes_text []) ++ codes " choice ") ++ choice_text by.Sector []) ≡ true = end_lacks line in
    let first = (both_lack 10 ((((codes "answer " ++ decimal n) ++ codes " codes ") ++ codes_text []) ++ codes " choice ") (choice_text by.Sector []) all).0 in
    let ending = (both_lack 10 (((codes "answer " ++ decimal n) ++ codes " codes ") ++ codes_text []) (codes " choice ") first).0 in
    let answer = (both_lack 10 ((codes "answer " ++ decimal n) ++ codes " codes ") (codes_text []) ending).0 in
    let word = (both_lack 10 (codes "answer " ++ decimal n) (codes " codes ") answer).0 in
    (both_lack 10 (codes "answer ") (decimal n) word).1

image_lacks : (image : Option ℕ) → lacks 10 (image_text image) ≡ true
image_lacks None = refl
image_lacks (Some image) = digits_lack image

-- the last line begins with `image`
last_word : Bool → ℕ → Tally → List ℕ
last_word false images t = codes "s " ++ (decimal images ++ (codes " failing " ++ (decimal t.images ++ (codes " lines " ++ decimal t.lines))))
last_word true images t = codes "s " ++ (decimal images ++ (codes " first " ++ image_text t.first))

last_word_is : (first : Bool) (images : ℕ) (t : Tally) → last_text first images t ≡ (codes "image" ++ last_word first images t) ++ 10 ∷ []
unfolding last_text last_word
last_word_is false images t = simp append_assoc
last_word_is true images t = simp append_assoc

last_word_lacks : (first : Bool) (images : ℕ) (t : Tally) → lacks 10 (last_word first images t) ≡ true
unfolding last_word
last_word_lacks false images t =
    lacks_both 10 (codes "s ") (decimal images ++ (codes " failing " ++ (decimal t.images ++ (codes " lines " ++ decimal t.lines)))) refl
    (lacks_both 10 (decimal images) (codes " failing " ++ (decimal t.images ++ (codes " lines " ++ decimal t.lines))) (digits_lack images)
    (lacks_both 10 (codes " failing ") (decimal t.images ++ (codes " lines " ++ decimal t.lines)) refl
    (lacks_both 10 (decimal t.images) (codes " lines " ++ decimal t.lines) (digits_lack t.images) (lacks_both 10 (codes " lines ") (decimal t.lines) refl (digits_lack t.lines)))))
last_word_lacks true images t =
    lacks_both 10 (codes "s ") (decimal images ++ (codes " first " ++ image_text t.first)) refl
    (lacks_both 10 (decimal images) (codes " first " ++ image_text t.first) (digits_lack images) (lacks_both 10 (codes " first ") (image_text t.first) refl (image_lacks t.first)))

-- so does each line
line_word : FailingLine → List ℕ
line_word l = 32 ∷ (decimal l.image ++ 32 ∷ (codes "cut" ++ 32 ∷ (decimal l.cut ++ 32 ∷ (codes "program" ++ 32 ∷ (decimal l.program ++ 32 ∷ end_text l.ending l.by l.departures)))))

line_word_is : (l : FailingLine) → body_text l ≡ codes "image" ++ line_word l
unfolding line_word
line_word_is l = by_words (words_of l) (end_text l.ending l.by l.departures)

-- the last line is no failing line
words_differ : (l : FailingLine) (first : Bool) (images : ℕ) (t : Tally) → last_word first images t ≡ line_word l → ⊥
unfolding last_word line_word
words_differ l false images t same = let bad : 115 ≡ 32 = ap (λ (bs : List ℕ). get_or bs 0 0) same in omega (arith, bad)
words_differ l true images t same = let bad : 115 ≡ 32 = ap (λ (bs : List ℕ). get_or bs 0 0) same in omega (arith, bad)

pub last_is_no_line : (first : Bool) (images : ℕ) (t : Tally) → NoLine Any (last_text first images t)
last_is_no_line first images t = record { none = none }
  where
    none : (l : FailingLine) (more : List ℕ) → IsPrintable l → Any l → last_text first images t ≡ line_text l ++ more → ⊥
    none l more small _any e =
        let same : (codes "image" ++ last_word first images t) ++ 10 ∷ [] ≡ body_text l ++ 10 ∷ more = sym (last_word_is first images t) ∙ e ∙ line_is l more in
        let own : lacks 10 (codes "image" ++ last_word first images t) ≡ true = lacks_both 10 (codes "image") (last_word first images t) refl (last_word_lacks first images t) in
        let parts = one_cut 10 (codes "image" ++ last_word first images t) (body_text l) [] more own (body_lacks l small) same in
        words_differ l first images t (cancel (codes "image") (last_word first images t) (line_word l) (parts.0 ∙ line_word_is l))

pub image_lines : (ls : List FailingLine) → ArePrintable ls → (first : Bool) (images : ℕ) (t : Tally) → BeginsImage (flat_map line_text ls ++ last_text first images t)
image_lines [] all first images t = record { word = last_word first images t; more = []; is = last_word_is first images t; one = last_word_lacks first images t }
image_lines (l ∷ ls) all first images t = record {
  word = line_word l;
  more = flat_map line_text ls ++ last_text first images t;
  is =
      append_assoc (line_text l) (flat_map line_text ls) (last_text first images t) ∙ line_is l (flat_map line_text ls ++ last_text first images t)
      ∙ ap (λ (bs : List ℕ). bs ++ 10 ∷ (flat_map line_text ls ++ last_text first images t)) (line_word_is l);
  one = let whole : lacks 10 (codes "image" ++ line_word l) ≡ true = rw (line_word_is l) at (body_lacks l all.0) in whole;
}
