-- The words of a record, read from its line.
use Rattle.std.proofs.Common.{ℕ, ◌≡◌, List, ◌∷◌, ◌++◌, append_assoc, codes, refl, sym, ap, ◌∙◌}
use Rattle.std.specs.Fmt.{decimal}
use Rattle.report.specs.MarkReading.{IsCutAt, ReadsField}
use Rattle.known.specs.declared.run.RunEnd.{RunEnd}
use Rattle.known_text.specs.Records.{RanWords, end_text, ran_text}
use Rattle.known_text.specs.Reading.{AreWords, ReadsEnd, ReadsRan, IsSaidSo, NoneIsSaidSo}
use Rattle.known_text.proofs.RangesRead.{SaysSmall, number_lacks, blank_digits, less}

-- a line by its words
words_are : (w : RanWords)
    → ran_text w
    ≡ codes "ran" ++ 32 ∷ (codes "cut" ++ 32 ∷ (decimal w.cut ++ 32 ∷ (codes "choice" ++ 32 ∷ (w.choice ++ 32 ∷ (codes "marks" ++ 32 ∷ (decimal w.marks ++ 32 ∷ (end_text w.end ++ 32 ∷ (codes "looked" ++ 32 ∷ w.looked))))))))
unfolding ran_text
words_are w = simp append_assoc

pub words_read : (line first r1 at r2 choice r3 marks r4 r5 last looked : List ℕ) (k m : ℕ) (end : RunEnd) → IsCutAt 32 line first r1 → ReadsField r1 at r2 → ReadsField r2 choice r3
    → ReadsField r3 marks r4 → ReadsEnd r4 end r5 → IsCutAt 32 r5 last looked → SaysSmall at k → SaysSmall marks m
    → ReadsRan line (record { cut = k; choice = choice; marks = m; end = end; looked = looked })
words_read line first r1 at r2 choice r3 marks r4 r5 last looked k m end c1 c2 c3 c4 c5 c6 n1 n2 = record { read = reads }
  where
    reads : (w : RanWords) → AreWords w → line ≡ ran_text w → record { cut = k; choice = choice; marks = m; end = end; looked = looked } ≡ w
    reads w are e =
        let p1 = c1.parts (codes "ran") _ refl (e ∙ words_are w) in
        let p2 = c2.read (codes "cut") (decimal w.cut) _ refl (number_lacks 32 w.cut blank_digits (less w.cut are.cut)) p1.1 in
        let p3 = c3.read (codes "choice") w.choice _ refl are.choice p2.1 in
        let p4 = c4.read (codes "marks") (decimal w.marks) _ refl (number_lacks 32 w.marks blank_digits (less w.marks are.marks)) p3.1 in
        let p5 = c5.read w.end _ are.ending p4.1 in
        let p6 = c6.parts (codes "looked") w.looked refl p5.1 in
        let e1 : k ≡ w.cut = n1 w.cut are.cut p2.0 in
        let e2 : choice ≡ w.choice = p3.0 in
        let e3 : m ≡ w.marks = n2 w.marks are.marks p4.0 in
        let e4 : end ≡ w.end = p5.0 in
        let e5 : looked ≡ w.looked = p6.1 in
        λ i. record { cut = e1 i; choice = e2 i; marks = e3 i; end = e4 i; looked = e5 i }

pub none_said : (line : List ℕ) (found : RanWords) → ReadsRan line found → (line ≡ ran_text found → ⊥) → NoneIsSaidSo line
none_said line found read other = record { none = λ w are e. other (e ∙ ap ran_text (sym (read.read w are e))) }

pub said_so : (line : List ℕ) (found : RanWords) → ReadsRan line found → line ≡ ran_text found → IsSaidSo line found
said_so line found read is = record { is = is; only = λ w are e. read.read w are e }
