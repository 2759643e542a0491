-- What lines say, read one after the other.
use Rattle.std.proofs.Common.{ℕ, zero, suc, ◌≡◌, ◌∙◌, ◌+◌, ◌≤◌, ◌==◌, append-nil, Bool, true, false, if◌then◌else◌, List, [], ◌∷◌, ◌++◌, length, length-append, filter, take, drop, slice_get, None, Some, refl, sym, ap, arith}
use Rattle.std.specs.List.{flat_map}
use Rattle.std.proofs.lemmas.List.Concat.{flat_map-append}
use Rattle.std.proofs.lemmas.List.Elements.{filter-append}
use Rattle.std.proofs.lemmas.List.{length-map, take_all}
use Rattle.base.proofs.Lists.{take-suc_place}
use Rattle.report.specs.declared.lines.marks.LineMark.{LineMark}
use Rattle.report.specs.Line.{FailingLine}
use Rattle.report.specs.Marks.{mark_of, marks_of}
use Rattle.report.specs.LineText.{line_text}
use Rattle.losses.specs.ProgramOutcomes.{own_outcome, outcomes_failing, is_marked, if_own, ReadsOutcome, AreOutcomes}

-- of the first i lines it was read what a program ended in, and a rest is still to be read
pub record StillReads (text : List ℕ) (marks : List LineMark) (program i : ℕ) (rest : List ℕ) (outcomes : List (List ℕ)) : Type 0 where
  pub read : (ls : List FailingLine) → text ≡ flat_map line_text ls → marks ≡ marks_of ls
      → (rest ≡ flat_map line_text (drop i ls)) × (outcomes ≡ outcomes_failing program (take i ls))
  pub many : length outcomes ≡ length (filter (is_marked program) (take i marks))

pub none_read : (text : List ℕ) (marks : List LineMark) (program : ℕ) → StillReads text marks program 0 text []
none_read text marks program = record { read = λ ls e m. (e, refl); many = refl }

-- the line of a mark
line_at : (ls : List FailingLine) (i : ℕ) (m : LineMark) → slice_get (marks_of ls) i ≡ Some m → (l : FailingLine) × (slice_get ls i ≡ Some l) × (m ≡ mark_of l)
line_at [] i m at = absurd (let bad : None ≡ Some m = at in cc)
line_at (l ∷ ls) zero m at = let same : Some (mark_of l) ≡ Some m = at in (l, refl, cc)
line_at (l ∷ ls) (suc i) m at = line_at ls i m at

-- the lines from one on
from_line : (ls : List FailingLine) (n : ℕ) (l : FailingLine) → slice_get ls n ≡ Some l → drop n ls ≡ l ∷ drop (suc n) ls
from_line [] n l here = absurd (let bad : None ≡ Some l = here in cc)
from_line (x ∷ ls) zero l here = let same : x ≡ l = (let e : Some x ≡ Some l = here in cc) in ap (λ (y : FailingLine). y ∷ ls) same
from_line (x ∷ ls) (suc n) l here = from_line ls n l here

-- what is appended of a line is counted
one_counted : (program : ℕ) (m : LineMark) (outcome : List ℕ) → length (if_own program m outcome) ≡ length (filter (is_marked program) (m ∷ []))
one_counted program m outcome = by_test (m.program == program)
  where
    by_test : (b : Bool) → length (if b then outcome ∷ [] else []) ≡ length (if b then m ∷ [] else [])
    by_test true = refl
    by_test false = refl

pub one_read : (text : List ℕ) (marks : List LineMark) (program i : ℕ) (rest more outcome : List ℕ) (outcomes : List (List ℕ)) (m : LineMark)
    → StillReads text marks program i rest outcomes → slice_get marks i ≡ Some m → ReadsOutcome rest outcome more
    → StillReads text marks program (i + 1) more (outcomes ++ if_own program m outcome)
one_read text marks program i rest more outcome outcomes m so at reads =
    record {
      read = λ ls e same.
          let was = so.read ls e same in
          let own = line_at ls i m (ap (λ (ms : List LineMark). slice_get ms i) (sym same) ∙ at) in
          let l : FailingLine = own.0 in
          let next : rest ≡ line_text l ++ flat_map line_text (drop (suc i) ls) = was.0 ∙ ap (flat_map line_text) (from_line ls i l own.1) in
          let said = reads.read l (flat_map line_text (drop (suc i) ls)) next in
          let one : suc i ≡ i + 1 = omega arith in
          let mine : if_own program m outcome ≡ own_outcome program l =
          ap (λ (k : LineMark). if_own program k outcome) own.2 ∙ ap (λ (o : List ℕ). if l.program == program then o ∷ [] else []) said.0 in
          let took : take (i + 1) ls ≡ take i ls ++ l ∷ [] = ap (λ (k : ℕ). take k ls) (sym one) ∙ take-suc_place ls i l own.1 in (
            said.1 ∙ ap (λ (k : ℕ). flat_map line_text (drop k ls)) one,
            ap (λ (os : List (List ℕ)). os ++ if_own program m outcome) was.1 ∙ ap (λ (os : List (List ℕ)). outcomes_failing program (take i ls) ++ os) (mine ∙ sym (append-nil (own_outcome program l)))
                ∙ sym (flat_map-append (own_outcome program) (take i ls) (l ∷ [])) ∙ ap (outcomes_failing program) (sym took),
          );
      many =
          let one : suc i ≡ i + 1 = omega arith in
          let took : take (i + 1) marks ≡ take i marks ++ m ∷ [] = ap (λ (k : ℕ). take k marks) (sym one) ∙ take-suc_place marks i m at in
          let count = so.many in
          let more = one_counted program m outcome in
          let parts = ap (λ (ms : List LineMark). length ms) (ap (filter (is_marked program)) took ∙ filter-append (is_marked program) (take i marks) (m ∷ [])) in
          omega (arith, count, more, parts, length-append outcomes (if_own program m outcome), length-append (filter (is_marked program) (take i marks)) (filter (is_marked program) (m ∷ [])));
    }

-- all lines
pub all_read : (text : List ℕ) (marks : List LineMark) (program i : ℕ) (rest : List ℕ) (outcomes : List (List ℕ)) → StillReads text marks program i rest outcomes → length marks ≤ i
    → AreOutcomes text marks program outcomes
all_read text marks program i rest outcomes so past =
    record {
      read = λ ls e same.
          let many : length marks ≡ length ls = ap (λ (ms : List LineMark). length ms) same ∙ length-map ls mark_of in
          (so.read ls e same).1 ∙ ap (outcomes_failing program) (take_all i ls (omega (arith, past, many)));
    }

pub all_counted : (text : List ℕ) (marks : List LineMark) (program i : ℕ) (rest : List ℕ) (outcomes : List (List ℕ)) → StillReads text marks program i rest outcomes → length marks ≤ i
    → length outcomes ≡ length (filter (is_marked program) marks)
all_counted text marks program i rest outcomes so past = so.many ∙ ap (λ (ms : List LineMark). length (filter (is_marked program) ms)) (take_all i marks past)
