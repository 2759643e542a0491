-- What a line says, by its words.
use Rattle.std.proofs.Common.{ℕ, ◌≡◌, ◌∙◌, List, [], ◌∷◌, ◌++◌, codes, append_assoc, refl, sym}
use Rattle.std.specs.Fmt.{decimal}
use Rattle.report.specs.Line.{FailingLine}
use Rattle.report.specs.MarkReading.{IsCutAt, ReadsField}
use Rattle.report.specs.LineText.{ending_text, choice_text, line_text}
use Rattle.report.proofs.Back.{lacks_both, word_lacks, end_lacks, end_of, words_of}
use Rattle.losses.specs.ProgramOutcomes.{IsEnding, ReadsOutcome}
use Rattle.losses.proofs.Plain.{ending_lacks}

-- an ending stands before the first h, without the two characters before it
pub ending_read : (said begun rest outer inner : List ℕ) → IsCutAt 104 said begun rest → ((front : List ℕ) → begun ≡ front ++ 99 ∷ [] → outer ≡ front)
    → ((front : List ℕ) → outer ≡ front ++ 32 ∷ [] → inner ≡ front) → IsEnding said inner
ending_read said begun rest outer inner at c blank =
    record {
      read = λ e choice same.
          let parted : ending_text e ++ codes " choice " ++ choice ≡ (ending_text e ++ codes " c") ++ 104 ∷ (codes "oice " ++ choice) =
          append_assoc (ending_text e) (codes " choice ") choice ∙ sym (append_assoc (ending_text e) (codes " c") (104 ∷ (codes "oice " ++ choice))) in
          let first = (at.parts (ending_text e ++ codes " c") (codes "oice " ++ choice) (lacks_both 104 (ending_text e) (codes " c") (ending_lacks e) refl) (same ∙ parted)).0 in
          let second = c (ending_text e ++ 32 ∷ []) (first ∙ sym (append_assoc (ending_text e) (32 ∷ []) (99 ∷ []))) in
          blank (ending_text e) second;
    }

-- the first line of a text is read by its words
pub outcome_read : (text image after_image cut after_cut program after_program said more outcome : List ℕ)
    → ReadsField text image after_image → ReadsField after_image cut after_cut → ReadsField after_cut program after_program
    → IsCutAt 10 after_program said more → IsEnding said outcome → ReadsOutcome text outcome more
outcome_read text image after_image cut after_cut program after_program said more outcome first second third last ending = record { read = reads }
  where
    reads : (l : FailingLine) (rest : List ℕ) → text ≡ line_text l ++ rest → (outcome ≡ ending_text l.ending) × (more ≡ rest)
    reads l rest e =
        let one = first.read (codes "image") (decimal l.image) _ refl (word_lacks l.image) (e ∙ words_of l rest) in
        let two = second.read (codes "cut") (decimal l.cut) _ refl (word_lacks l.cut) one.1 in
        let three = third.read (codes "program") (decimal l.program) _ refl (word_lacks l.program) two.1 in
        let four = last.parts (end_of l) rest (end_lacks l) three.1 in
        (ending.read l.ending (choice_text l.by l.departures) four.0, four.1)
