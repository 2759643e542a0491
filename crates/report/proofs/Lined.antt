-- Marks of lines, read back one after the other.
use Rattle.std.proofs.Common.{ℕ, ◌≡◌, ◌∙◌, ◌<◌, ◌==◌, ◌^◌, Bool, true, false, List, [], ◌∷◌, ◌++◌, length, append_assoc, append-nil, codes, refl, sym, ap, arith}
use Rattle.std.specs.Fmt.{decimal}
use Rattle.std.proofs.lemmas.Bool.Decides.{nat_tests}
use Rattle.std.specs.List.{flat_map}
use Rattle.report.specs.declared.lines.marks.LineMark.{LineMark}
use Rattle.report.specs.Line.{FailingLine}
use Rattle.report.specs.Marks.{mark_of, marks_of}
use Rattle.report.specs.Kept.{IsSmall, AreSmall}
use Rattle.report.specs.LineText.{line_text}
use Rattle.report.specs.MarkReading.{IsCutAt, ReadsField, ReadsLine, ReadsLines}
use Rattle.report.proofs.Back.{word_lacks, end_lacks, end_of, words_of}

-- the first line of a text is read by its words
pub line_read : (text image after_image cut after_cut program after_program said more : List ℕ) (m n : ℕ)
    → ReadsField text image after_image → ReadsField after_image cut after_cut → ReadsField after_cut program after_program
    → IsCutAt 10 after_program said more
    → ((k : ℕ) → k < 2 ^ 64 → image ≡ decimal k → m ≡ k) → ((k : ℕ) → k < 2 ^ 8 → program ≡ decimal k → n ≡ k)
    → ReadsLine text (record { image = m; program = n }) more
line_read text image after_image cut after_cut program after_program said more m n first second third last own number = record { read = reads }
  where
    reads : (l : FailingLine) (rest : List ℕ) → IsSmall l → text ≡ line_text l ++ rest → (record { image = m; program = n } ≡ mark_of l) × (more ≡ rest)
    reads l rest small e =
        let one = first.read (codes "image") (decimal l.image) _ refl (word_lacks l.image) (e ∙ words_of l rest) in
        let two = second.read (codes "cut") (decimal l.cut) _ refl (word_lacks l.cut) one.1 in
        let three = third.read (codes "program") (decimal l.program) _ refl (word_lacks l.program) two.1 in
        let four = last.parts (end_of l) rest (end_lacks l) three.1 in
        let image_is = own l.image small.0 one.0 in
        let program_is = number l.program small.1 three.0 in
        (λ i. record { image = image_is i; program = program_is i }, four.1)

-- marks were read of a text, of which a rest is still to be read
pub record StillReads (text : List ℕ) (old : List LineMark) (rest : List ℕ) (marks : List LineMark) : Type 0 where
  pub reads : (ls : List FailingLine) → AreSmall ls → text ≡ flat_map line_text ls
      → (more : List FailingLine) × AreSmall more × (rest ≡ flat_map line_text more) × (marks ++ marks_of more ≡ old ++ marks_of ls)

pub none_read : (text : List ℕ) (old : List LineMark) → StillReads text old text old
none_read text old = record { reads = λ ls small e. (ls, small, e, refl) }

pub one_read : (text rest more : List ℕ) (old marks : List LineMark) (mark : LineMark) → StillReads text old rest marks → ReadsLine rest mark more → (rest ≡ [] → ⊥)
    → StillReads text old more (marks ++ mark ∷ [])
one_read text rest more old marks mark h line some = record { reads = λ ls small e. go ls (h.reads ls small e) }
  where
    go : (ls : List FailingLine) → (left : List FailingLine) × AreSmall left × (rest ≡ flat_map line_text left) × (marks ++ marks_of left ≡ old ++ marks_of ls)
        → (left : List FailingLine) × AreSmall left × (more ≡ flat_map line_text left) × ((marks ++ mark ∷ []) ++ marks_of left ≡ old ++ marks_of ls)
    go ls ([], small, e, same) = absurd (some e)
    go ls (l ∷ left, small, e, same) =
        let own = line.read l (flat_map line_text left) small.0 e in
        (left, small.1, own.1, append_assoc marks (mark ∷ []) (marks_of left) ∙ ap (λ (m : LineMark). marks ++ m ∷ marks_of left) own.0 ∙ same)

line_is_some : (l : FailingLine) (more : List ℕ) → [] ≡ line_text l ++ more → ⊥
unfolding line_text
line_is_some l more e =
    let long = ap (λ (text : List ℕ). length text) (e ∙ words_of l more) in
    omega (arith, long)

pub all_read : (text rest : List ℕ) (old marks : List LineMark) → StillReads text old rest marks → rest ≡ [] → ReadsLines text old marks
all_read text rest old marks h none = record { read = λ ls small e. go ls (h.reads ls small e) }
  where
    go : (ls : List FailingLine) → (left : List FailingLine) × AreSmall left × (rest ≡ flat_map line_text left) × (marks ++ marks_of left ≡ old ++ marks_of ls) → marks ≡ old ++ marks_of ls
    go ls ([], small, e, same) = sym (append-nil marks) ∙ same
    go ls (l ∷ left, small, e, same) = absurd (line_is_some l (flat_map line_text left) (sym none ∙ e))

pub is_none : (xs : List ℕ) (b : Bool) → b ≡ (length xs == 0) → b ≡ true → xs ≡ []
is_none [] b test e = refl
is_none (x ∷ xs) b test e = absurd (grind (arith, nat_tests))

pub is_some : (xs : List ℕ) (b : Bool) → b ≡ (length xs == 0) → b ≡ false → xs ≡ [] → ⊥
is_some [] b test e none = grind (arith, nat_tests)
is_some (x ∷ xs) b test e none = omega (arith, ap (λ (ys : List ℕ). length ys) none)
