-- Why programs fail, by the marks of the failing lines.
use Rattle.std.proofs.Common.{ℕ, zero, suc, ◌≡◌, ◌+◌, ◌<◌, ◌==◌, Bool, true, false, if◌then◌else◌, List, [], ◌∷◌, ◌++◌, codes, length, map, filter, slice_get, None, Some, append_assoc, refl, sym, ◌∙◌, ap, subst, inl, inr, arith}
use Rattle.std.specs.List.{flat_map}
use Rattle.std.proofs.lemmas.Bool.Decides.{eqb_tells}
use Rattle.std.proofs.lemmas.Option.{slice_get_within}
use Rattle.logfmt.specs.Bounds.{LogValue}
use Rattle.epochs.specs.Plan.{PlanValue}
use Rattle.choices.specs.Choices.{ranked_choices}
use Rattle.choices.specs.Sums.{StartsValue}
use Rattle.checker.specs.Checker.{CheckerValue}
use Rattle.losses.specs.declared.flushes.counted.MissingFlush.{MissingFlush}
use Rattle.report.specs.declared.lines.marks.LineMark.{LineMark}
use Rattle.report.specs.Line.{FailingLine}
use Rattle.report.specs.Marks.{marks_of}
use Rattle.losses.specs.ProgramOutcomes.{outcomes_failing, is_marked, AreOutcomes}
use Rattle.report.specs.Report.{HeadValue, options_text, totals_line}
use Rattle.losses.specs.declared.cure.failure.Failure.{Failure}
use Rattle.losses.specs.Failures.{AreInOrder, AreImages}
use Rattle.losses.specs.CureText.{missing_text}
use Rattle.losses.specs.Causes.{causes_from, TellsProgram, TellsPrograms}
use Rattle.losses.proofs.Causes.{tells_as}
use Rattle.workers.specs.Failing.{Subject, failing_lines}
use Rattle.workers.specs.Laws.{Precedes, LinesAreSet, ListsFailing}
use Rattle.request.specs.declared.settings.Settings.{Settings}
use Rattle.request.specs.Source.{plan_of}
use Rattle.runs.specs.Explore.{subject_of, head_of}
use Rattle.runs.specs.Why.{images_failing, starts_of, IsMissing, why_head, why_text, TellsCauses, TellsOfLines, with_first}
use Rattle.runs.specs.Marked.{images_marked}

-- the marks of a program are of the images of its lines
pub marked_are_failing : (program : ℕ) (ls : List FailingLine) → images_marked (marks_of ls) program ≡ images_failing program ls
marked_are_failing program [] = refl
marked_are_failing program (l ∷ ls) = by_test (l.program == program) (marked_are_failing program ls)
  where
    by_test : (b : Bool) → images_marked (marks_of ls) program ≡ images_failing program ls
        → (if b then l.image ∷ [] else []) ++ images_marked (marks_of ls) program
        ≡ map (λ (m : FailingLine). m.image) (if b then l ∷ filter (λ (m : FailingLine). m.program == program) ls else filter (λ (m : FailingLine). m.program == program) ls)
    by_test true rest = ap (λ (ns : List ℕ). l.image ∷ ns) rest
    by_test false rest = rest

-- the line of an image on which a program fails
pub record IsLineAt (program image : ℕ) (ls : List FailingLine) : Type 0 where
  pub place : ℕ
  pub line : FailingLine
  pub there : slice_get ls place ≡ Some line
  pub image_is : line.image ≡ image
  pub program_is : line.program ≡ program

line_after : (program image : ℕ) (l : FailingLine) (ls : List FailingLine) → IsLineAt program image ls → IsLineAt program image (l ∷ ls)
line_after program image l ls is = record { place = suc is.place; line = is.line; there = is.there; image_is = is.image_is; program_is = is.program_is }

line_of_image : (program : ℕ) (ls : List FailingLine) (i image : ℕ) → slice_get (images_failing program ls) i ≡ Some image → IsLineAt program image ls
line_of_image program [] i image at = absurd (let bad : None ≡ Some image = at in cc)
line_of_image program (l ∷ ls) i image at = by_test (λ j there. line_of_image program ls j image there) (l.program == program) refl i at
  where
    by_test : ((j : ℕ) → slice_get (images_failing program ls) j ≡ Some image → IsLineAt program image ls) → (b : Bool) → (l.program == program) ≡ b → (i : ℕ)
        → slice_get (map (λ (m : FailingLine). m.image) (if b then l ∷ filter (λ (m : FailingLine). m.program == program) ls else filter (λ (m : FailingLine). m.program == program) ls)) i
        ≡ Some image → IsLineAt program image (l ∷ ls)
    by_test inner true e zero at =
        let same : Some l.image ≡ Some image = at in
        record { place = 0; line = l; there = refl; image_is = cc; program_is = grind (arith, eqb_tells, e) }
    by_test inner true e (suc i) at = line_after program image l ls (inner i at)
    by_test inner false e i at = line_after program image l ls (inner i at)

-- they rise
images_rise : (program : ℕ) (ls : List FailingLine) → ((i j : ℕ) (a b : FailingLine) → i < j → slice_get ls i ≡ Some a → slice_get ls j ≡ Some b → Precedes a b)
    → AreInOrder (images_failing program ls)
images_rise program [] order i j n m lt ati atj = absurd (let bad : None ≡ Some n = ati in cc)
images_rise program (l ∷ ls) order i j n m lt ati atj =
    by_test (images_rise program ls (λ k h a b less atk ath. order (suc k) (suc h) a b (omega (arith, less)) atk ath)) (l.program == program) refl i j lt ati atj
  where
    by_test : AreInOrder (images_failing program ls) → (b : Bool) → (l.program == program) ≡ b → (i j : ℕ) → i < j
        → slice_get (map (λ (k : FailingLine). k.image) (if b then l ∷ filter (λ (k : FailingLine). k.program == program) ls else filter (λ (k : FailingLine). k.program == program) ls)) i ≡ Some n
        → slice_get (map (λ (k : FailingLine). k.image) (if b then l ∷ filter (λ (k : FailingLine). k.program == program) ls else filter (λ (k : FailingLine). k.program == program) ls)) j ≡ Some m
        → n < m
    by_test inner false e i j lt ati atj = inner i j n m lt ati atj
    by_test inner true e i zero lt ati atj = absurd (omega (arith, lt))
    by_test inner true e zero (suc j) lt ati atj =
        let same : Some l.image ≡ Some n = ati in
        let is : l.image ≡ n = cc in
        let own : l.program ≡ program = grind (arith, eqb_tells, e) in
        let beyond = line_of_image program ls j m atj in
        let image_is = beyond.image_is in
        let program_is = beyond.program_is in
        elim (order 0 (suc beyond.place) l beyond.line (omega arith) refl beyond.there) [
          | inl less ↦ omega (arith, less, is, image_is)
          | inr less ↦ absurd (let below = less.1 in omega (arith, below, own, program_is))
        ]
    by_test inner true e (suc i) (suc j) lt ati atj = inner i j n m (omega (arith, lt)) ati atj

-- the images on which a program fails are images of the run, in their order
pub are_images : LinesAreSet → (s : Settings) (value : LogValue) (checkers : List CheckerValue) (starts : StartsValue) (ls : List FailingLine) (ms : List LineMark) (program : ℕ)
    → starts ≡ starts_of s value → ls ≡ failing_lines (subject_of s value checkers) → ms ≡ marks_of ls → AreImages starts (images_marked ms program)
are_images law s value checkers starts ls ms program is found marks =
    let subject : Subject = subject_of s value checkers in
    let lists : ListsFailing subject (failing_lines subject) = law subject in
    let own : AreImages (starts_of s value) (images_failing program (failing_lines subject)) =
    record {
      ordered = images_rise program (failing_lines subject) lists.ordered;
      within = λ i n at.
          let line = line_of_image program (failing_lines subject) i n at in
          let fails = lists.sound line.place line.line line.there in
          let within = slice_get_within (ranked_choices (plan_of s value) s.bound s.tears) line.line.image fails.choice fails.of_image in
          let image_is = line.image_is in
          omega (arith, within, image_is);
    } in
    let here : images_failing program (failing_lines subject) ≡ images_marked ms program =
    ap (images_failing program) (sym found) ∙ sym (marked_are_failing program ls) ∙ ap (λ (ks : List LineMark). images_marked ks program) (sym marks) in
    subst (λ (t : StartsValue). AreImages t (images_marked ms program)) (sym is) (subst (AreImages (starts_of s value)) here own)

-- a program fails on as many images as lines are its own
pub as_many : (program : ℕ) (ms : List LineMark) → length (images_marked ms program) ≡ length (filter (is_marked program) ms)
as_many program [] = refl
as_many program (m ∷ ms) = by_test (m.program == program) (as_many program ms)
  where
    by_test : (b : Bool) → length (images_marked ms program) ≡ length (filter (is_marked program) ms)
        → length ((if b then m.image ∷ [] else []) ++ images_marked ms program) ≡ length (if b then m ∷ filter (is_marked program) ms else filter (is_marked program) ms)
    by_test true rest = ap (λ (n : ℕ). suc n) rest
    by_test false rest = rest

-- what was appended of the cuts of a program, by what it ends in on its images
pub tells_program : (s : StartsValue) (ls : List FailingLine) (ms : List LineMark) (program : ℕ) (text images : List ℕ) (outcomes given : List (List ℕ)) (old new : List ℕ)
    → text ≡ flat_map Rattle.report.specs.LineText.line_text ls → ms ≡ marks_of ls → images ≡ images_marked ms program → AreOutcomes text ms program outcomes → given ≡ outcomes
    → TellsProgram s images given program old new → TellsProgram s (images_failing program ls) (outcomes_failing program ls) program old new
tells_program s ls ms program text images outcomes given old new texts marks own read same tells =
    let said : outcomes ≡ outcomes_failing program ls = read.read ls texts marks in
    let mine : images ≡ images_failing program ls = own ∙ ap (λ (ks : List LineMark). images_marked ks program) marks ∙ marked_are_failing program ls in
    tells_as s images (images_failing program ls) given (outcomes_failing program ls) program old new mine (same ∙ said) tells

-- the text by what a run makes is that by its settings
pub causes_of_lines : (s : Settings) (value : LogValue) (checkers : List CheckerValue) (head : HeadValue) (starts : StartsValue) (ls : List FailingLine) (bytes : List ℕ)
    → head ≡ head_of (with_first false s) value checkers → starts ≡ starts_of s value → ls ≡ failing_lines (subject_of s value checkers)
    → TellsCauses head starts ls bytes → TellsOfLines s value checkers (failing_lines (subject_of s value checkers)) bytes
causes_of_lines s value checkers head starts ls bytes heads is found tells =
    subst (λ (fs : List FailingLine). TellsCauses (head_of (with_first false s) value checkers) (starts_of s value) fs bytes) found
    (subst (λ (t : StartsValue). TellsCauses (head_of (with_first false s) value checkers) t ls bytes) is
    (subst (λ (h : HeadValue). TellsCauses h starts ls bytes) heads tells))

-- the table that a run makes
pub starts_made : (s : Settings) (value : LogValue) (plan : PlanValue) (bound : ℕ) (tears : Bool) (starts : StartsValue) → plan ≡ plan_of s value → bound ≡ s.bound → tears ≡ s.tears
    → starts ≡ record { plan = plan; bound = bound; tears = tears } → starts ≡ starts_of s value
starts_made s value plan bound tears starts e f g is = is ∙ (λ i. record { plan = e i; bound = f i; tears = g i })

-- how the text begins
pub head_told : (h : HeadValue) (ls : List FailingLine) (images : ℕ) (old title options all : List ℕ) → title ≡ old ++ codes "crash why 2\n" → options ≡ title ++ options_text h
    → images ≡ h.images → all ≡ options ++ totals_line images ls → all ≡ old ++ why_head h ls
unfolding why_head
head_told h ls images old title options all begins goes same ends =
    ends ∙ ap (λ (i : ℕ). options ++ totals_line i ls) same ∙ ap (λ (bs : List ℕ). bs ++ totals_line h.images ls) (goes ∙ ap (λ (bs : List ℕ). bs ++ options_text h) begins)
    ∙ append_assoc (old ++ codes "crash why 2\n") (options_text h) (totals_line h.images ls)
    ∙ append_assoc old (codes "crash why 2\n") (options_text h ++ totals_line h.images ls)
    ∙ ap (λ (bs : List ℕ). old ++ bs) (sym (append_assoc (codes "crash why 2\n") (options_text h) (totals_line h.images ls)))

-- the whole text, part after part
pub causes_told : (h : HeadValue) (s : StartsValue) (ls : List FailingLine) (fs : List Failure) (ms : List MissingFlush) (count : ℕ) (none begun missing all bytes : List ℕ)
    → IsMissing s ls fs ms → none ≡ [] → begun ≡ none ++ why_head h ls → missing ≡ begun ++ missing_text count fs ms → TellsPrograms s (λ program. images_failing program ls) (λ program. outcomes_failing program ls) count missing all
    → count ≡ length h.programs → bytes ≡ all → TellsCauses h s ls bytes
unfolding why_text
causes_told h s ls fs ms count none begun missing all bytes are empty begins goes tells many is =
    record {
      failures = fs;
      missing = ms;
      are_missing = are;
      causes = tells.causes;
      all = tells.all ∙ many;
      each = tells.each;
      text = is ∙ tells.text
          ∙ ap (λ (bs : List ℕ). bs ++ causes_from s (λ program. outcomes_failing program ls) 0 tells.causes)
          (goes ∙ ap (λ (bs : List ℕ). bs ++ missing_text count fs ms) (begins ∙ ap (λ (bs : List ℕ). bs ++ why_head h ls) empty)
          ∙ ap (λ (n : ℕ). why_head h ls ++ missing_text n fs ms) many);
    }
