-- The report of checkers is a report of the log, and what is told of it is told of their failing lines.
use Rattle.std.proofs.Common.{ℕ, zero, suc, ◌≡◌, ◌≢◌, ◌-◌, ◌==◌, ◌↔◌, Bool, true, false, IsTrue, if◌then◌else◌, List, [], ◌∷◌, ◌++◌, codes, length, map, filter, flat_map, append_assoc, append-nil, slice_get, None, Some, refl, sym, ◌∙◌, ap, subst, arith}
use Rattle.std.specs.Fmt.{decimal}
use Rattle.std.specs.List.{list_all, range_with_len}
use Rattle.std.specs.Str.{IsUtf8}
use Rattle.std.proofs.lemmas.List.{length-map}
use Rattle.std.proofs.lemmas.Option.{slice_get_within}
use Rattle.std.proofs.lemmas.Str.{IsUtf8-append, IsUtf8-from_ascii}
use Rattle.logfmt.specs.Bounds.{LogValue}
use Rattle.choices.specs.Choices.{ChoiceValue, ranked_choices}
use Rattle.choices.specs.Sums.{StartsValue}
use Rattle.checker.specs.Checker.{CheckerValue}
use Rattle.report.specs.declared.head.ProgramHead.{ProgramHead}
use Rattle.report.specs.declared.lines.marks.LineMark.{LineMark}
use Rattle.report.specs.ChoiceText.{departures_text}
use Rattle.report.specs.Images as numbers
use Rattle.report.specs.Images.{distinct_count, failing_images}
use Rattle.report.specs.Line.{FailingLine}
use Rattle.report.specs.LineText.{ending_text, choice_text, line_text}
use Rattle.report.specs.Marks.{mark_of, marks_of}
use Rattle.report.specs.Report.{device_text, choices_text, given_text, options_line, options_text, program_lines, totals_line, report_bytes}
use Rattle.losses.proofs.Plain.{both, number, is_plain, digit_plain, ascii, lines_are_text}
use Rattle.losses.specs.declared.why.cut.CutFailures.{CutFailures}
use Rattle.losses.specs.Failures.{AreCuts}
use Rattle.losses.specs.FailureWindows.{AreFailuresAt}
use Rattle.losses.specs.ProgramOutcomes.{own_outcome, outcomes_failing}
use Rattle.losses.specs.CureText.{missing_text}
use Rattle.losses.specs.Causes.{causes_from}
use Rattle.page_parts.specs.Judges.{judge_text}
use Rattle.crash_page.specs.Failing.{IsFailing as FailsOn}
use Rattle.join.specs.Given.{ToldLine, IsTold, AreToldOf, GivenValue, IsReport, told_line, told_totals, marks_told, images_told}
use Rattle.join.specs.Laws.{IsRun}
use Rattle.join.specs.Order.{in_order}
use Rattle.join.specs.Printable.{IsPrintable, EachLine}
use Rattle.join.specs.Reading.{words_text}
use Rattle.join.specs.Text.{lines_between}
use Rattle.join.proofs.Choosing.{prints_choices}
use Rattle.join.proofs.Runs.{lines_order, between_printable}
use Rattle.join.proofs.ToldLines.{body_is}
use Rattle.workers.specs.Failing.{failing_lines}
use Rattle.workers.specs.Laws.{IsFailing}
use Rattle.workers.proofs.Sets.{listed}
use Rattle.request.specs.declared.extent.Extent.{Extent}
use Rattle.request.specs.declared.extent.Extent.TheVariants as extent
use Rattle.request.specs.declared.settings.Settings.{Settings}
use Rattle.request.specs.Extents.{first_meant, end_meant}
use Rattle.request.specs.Source.{Recording, images_of}
use Rattle.runs.specs.Explore.{subject_of, program_head, head_of, images_text, report_of}
use Rattle.request.specs.Inputs.{inputs_number}
use Rattle.runs.specs.Why.{images_failing, starts_of, why_head, why_text, TellsCauses, PageOfLines, with_first}
use Rattle.runs.specs.Paged.{IsSaid}
use Rattle.runs.proofs.Missed.{failures_are}
use Rattle.retold.specs.Told.{is_of, images_told_of, outcomes_told_of, opening_told, TellsWhy, TellsPage, of_checker, of_own}
use Rattle.retold.specs.Told.{IsSaid as GivenSaid}
use Rattle.request.specs.Inputs.{head_given, options_given}
use Rattle.retold.specs.Retold.{starts_given}
use Rattle.commands.proofs.RunOf.{run_of, IsGiven, is_run}

-- the same settings but for what changes no image
abbrev pub set_images : Settings → Settings
set_images s = record s { workers = 1; cache = 0; checked = None; guards = false; first = false }

-- what a failing line says
abbrev told_of : FailingLine → ToldLine
told_of l = record { mark = mark_of l; outcome = ending_text l.ending }

abbrev pub told_all : List FailingLine → List ToldLine
told_all ls = map told_of ls

marks_are : (ls : List FailingLine) → marks_told (told_all ls) ≡ marks_of ls
marks_are [] = refl
marks_are (l ∷ ls) = ap (λ (ms : List LineMark). mark_of l ∷ ms) (marks_are ls)

images_are : (ls : List FailingLine) → numbers.images_of ls ≡ images_told (told_all ls)
images_are [] = refl
images_are (l ∷ ls) = ap (λ (ns : List ℕ). l.image ∷ ns) (images_are ls)

long_are : (ls : List FailingLine) → length ls ≡ length (told_all ls)
long_are ls = sym (length-map ls told_of)

-- by program

own_images : (program : ℕ) (ls : List FailingLine) → images_told_of program (told_all ls) ≡ images_failing program ls
own_images program [] = refl
own_images program (l ∷ ls) = by (l.program == program) (own_images program ls)
  where
    by : (b : Bool) → images_told_of program (told_all ls) ≡ images_failing program ls
        → map (λ (t : ToldLine). t.mark.image) (if b then told_of l ∷ filter (is_of program) (told_all ls) else filter (is_of program) (told_all ls))
        ≡ map (λ (x : FailingLine). x.image) (if b then l ∷ filter (λ (x : FailingLine). x.program == program) ls else filter (λ (x : FailingLine). x.program == program) ls)
    by true rest = ap (λ (ns : List ℕ). l.image ∷ ns) rest
    by false rest = rest

own_outcomes : (program : ℕ) (ls : List FailingLine) → outcomes_told_of program (told_all ls) ≡ outcomes_failing program ls
own_outcomes program [] = refl
own_outcomes program (l ∷ ls) = by (l.program == program) (own_outcomes program ls)
  where
    by : (b : Bool) → outcomes_told_of program (told_all ls) ≡ outcomes_failing program ls
        → map (λ (t : ToldLine). t.outcome) (if b then told_of l ∷ filter (is_of program) (told_all ls) else filter (is_of program) (told_all ls))
        ≡ (if b then ending_text l.ending ∷ [] else []) ++ flat_map (own_outcome program) ls
    by true rest = ap (λ (os : List (List ℕ)). ending_text l.ending ∷ os) rest
    by false rest = rest

-- texts

line_is : (s : StartsValue) (l : FailingLine) (c : ChoiceValue) → slice_get (ranked_choices s.plan s.bound s.tears) l.image ≡ Some c → l.cut ≡ c.cut → l.by ≡ s.plan.by → l.departures ≡ c.departures
    → line_text l ≡ told_line s (told_of l)
unfolding line_text told_line words_text
line_is s l c there cut way departs =
    let choice : choice_text l.by l.departures ≡ departures_text s.plan.by c.departures = prints_choices l.by l.departures ∙ (λ i. departures_text (way i) (departs i)) in
    let words : List ℕ = codes "image " ++ decimal l.image ++ codes " cut " ++ decimal c.cut ++ codes " program " ++ decimal l.program ++ codes " " in
    let same : line_text l ≡ words ++ ending_text l.ending ++ codes " choice " ++ departures_text s.plan.by c.departures ++ codes "\n" =
    λ i. codes "image " ++ decimal l.image ++ codes " cut " ++ decimal (cut i) ++ codes " program " ++ decimal l.program ++ codes " " ++ ending_text l.ending ++ codes " choice " ++ choice i ++ codes "\n" in
    same ∙ line_grouped words (ending_text l.ending) (departures_text s.plan.by c.departures) ∙ ap (λ (bs : List ℕ). bs ++ codes "\n") (sym (body_is s (told_of l) c there))
  where
    line_grouped : (a b c : List ℕ) → a ++ b ++ codes " choice " ++ c ++ codes "\n" ≡ a ++ (b ++ codes " choice " ++ c) ++ codes "\n"
    line_grouped a b c = simp append_assoc

lines_are : (s : StartsValue) (ls : List FailingLine) → ((i : ℕ) (l : FailingLine) → slice_get ls i ≡ Some l → line_text l ≡ told_line s (told_of l)) → flat_map line_text ls ≡ flat_map (told_line s) (told_all ls)
lines_are s [] each = refl
lines_are s (l ∷ ls) each =
    let one = each 0 l refl in
    let rest = lines_are s ls (λ i x there. each (suc i) x there) in
    λ i. one i ++ rest i

totals_are : (images : ℕ) (ls : List FailingLine) → totals_line images ls ≡ told_totals images (told_all ls)
unfolding totals_line told_totals
totals_are images ls =
    let count : failing_images ls ≡ distinct_count (images_told (told_all ls)) = ap distinct_count (images_are ls) in
    let long = long_are ls in
    λ i. codes "images " ++ decimal images ++ codes " failing " ++ decimal (count i) ++ codes " lines " ++ decimal (long i) ++ codes "\n"

plain_number : (n : ℕ) → list_all is_plain (decimal n) ≡ true
plain_number n = number is_plain n digit_plain

plain_totals : (images : ℕ) (ls : List FailingLine) → list_all is_plain (totals_line images ls) ≡ true
unfolding totals_line
plain_totals images ls =
    both is_plain (codes "images " ++ decimal images ++ codes " failing " ++ decimal (failing_images ls) ++ codes " lines " ++ decimal (length ls)) (codes "\n")
    (both is_plain (codes "images " ++ decimal images ++ codes " failing " ++ decimal (failing_images ls) ++ codes " lines ") (decimal (length ls))
    (both is_plain (codes "images " ++ decimal images ++ codes " failing " ++ decimal (failing_images ls)) (codes " lines ")
    (both is_plain (codes "images " ++ decimal images ++ codes " failing ") (decimal (failing_images ls))
    (both is_plain (codes "images " ++ decimal images) (codes " failing ") (both is_plain (codes "images ") (decimal images) refl (plain_number images)) refl)
    (plain_number (failing_images ls))) refl)
    (plain_number (length ls)))
    refl

text_of_totals : (images : ℕ) (ls : List FailingLine) → IsUtf8 (totals_line images ls)
text_of_totals images ls = IsUtf8-from_ascii (totals_line images ls) (ascii (totals_line images ls) (plain_totals images ls))

-- the head of the report of all failing images has the options that are asked for

options_are : (s : Settings) (value : LogValue) (checkers : List CheckerValue) → options_line (head_of (with_first false s) value checkers) ≡ options_given (set_images s) value
unfolding head_of head_given device_text choices_text given_text
options_are s value checkers = sym (append-nil (options_line (head_given (set_images s) value)))

heads_are : (s : Settings) (value : LogValue) (checkers : List CheckerValue) → (head_of s value checkers).programs ≡ map program_head checkers
unfolding head_of
heads_are s value checkers = refl

-- what is read of the report of checkers
abbrev pub given_of : Settings → LogValue → List CheckerValue → GivenValue
given_of s value checkers = record {
  head = options_text (head_of (with_first false s) value checkers);
  outside = false;
  programs = map program_head checkers;
  lines = told_all (failing_lines (subject_of s value checkers));
  last = totals_line (length (images_of s value)) (failing_lines (subject_of s value checkers));
}

-- the lines are those of the images of the run

whole_lines : (s : Settings) (value : LogValue) (checkers : List CheckerValue) (inputs : ℕ) → s.extent ≡ extent.Whole
    → failing_lines (subject_of s value checkers) ≡ lines_between (run_of s value checkers inputs) 0 (length (images_of s value))
unfolding failing_lines
whole_lines s value checkers inputs whole =
    ap (λ (e : Extent). flat_map (run_of s value checkers inputs).image_lines (range_with_len (first_meant e) (end_meant e (length (images_of s value)) - first_meant e))) whole

each_there : (P : FailingLine → Type 0) (ls : List FailingLine) → EachLine P ls → (i : ℕ) (l : FailingLine) → slice_get ls i ≡ Some l → P l
each_there P [] all i l there = absurd (let bad : None ≡ Some l = there in cc)
each_there P (x ∷ ls) all zero l there =
    let both : Some x ≡ Some l = there in
    let same : x ≡ l = cc in
    subst P same all.0
each_there P (x ∷ ls) all (suc i) l there = each_there P ls all.1 i l there

told_each : (n : ℕ) (s : StartsValue) (ls : List FailingLine) → ((i : ℕ) (l : FailingLine) → slice_get ls i ≡ Some l → IsTold false n s (told_of l)) → AreToldOf false n s (told_all ls)
told_each n s [] each = tt
told_each n s (l ∷ ls) each = (each 0 l refl, told_each n s ls (λ i x there. each (suc i) x there))

is_told : (s : Settings) (value : LogValue) (checkers : List CheckerValue) (l : FailingLine) → IsFailing (subject_of s value checkers) l → IsPrintable l
    → IsTold false (length (map program_head checkers)) (starts_given (set_images s) value) (told_of l)
is_told s value checkers l is printable =
    let cut = printable.cut in
    let same = is.cut in
    let program = slice_get_within checkers l.program is.checker is.of_program in
    let long = length-map checkers program_head in
    record {
      choice = is.choice;
      there = is.of_image;
      small = omega (arith, cut, same);
      image = printable.image;
      program = omega (arith, program, long);
      outcome = record { ending = l.ending; within = printable.ending; failing = is.fails; is = refl };
    }

-- the report is that of the log

report_is : (s : Settings) (value : LogValue) (checkers : List CheckerValue) (inputs : ℕ) → s.extent ≡ extent.Whole → s.first ≡ false
    → report_of inputs s value checkers ≡ report_bytes (head_of (with_first false s) value checkers) (failing_lines (subject_of s value checkers))
unfolding head_of
report_is s value checkers inputs whole all =
    ap (λ (e : Extent). images_text e inputs (head_of s value checkers) (failing_lines (subject_of s value checkers))) whole
    ∙ ap (λ (first : Bool). report_bytes (head_of (with_first first s) value checkers) (failing_lines (subject_of s value checkers))) all

pieces_are : (s : Settings) (value : LogValue) (checkers : List CheckerValue) (lines last : List ℕ) → flat_map line_text (failing_lines (subject_of s value checkers)) ≡ lines
    → totals_line (length (images_of s value)) (failing_lines (subject_of s value checkers)) ≡ last
    → report_bytes (head_of (with_first false s) value checkers) (failing_lines (subject_of s value checkers))
    ≡ codes "crash report 2\n" ++ (options_given (set_images s) value ++ (program_lines 0 (map program_head checkers) ++ (lines ++ last)))
unfolding report_bytes head_of
pieces_are s value checkers lines last one two =
    let front = options_are s value checkers in
    grouped (codes "crash report 2\n") (options_line (head_of (with_first false s) value checkers)) (program_lines 0 (map program_head checkers))
    (flat_map line_text (failing_lines (subject_of s value checkers))) (totals_line (length (images_of s value)) (failing_lines (subject_of s value checkers)))
    ∙ (λ i. codes "crash report 2\n" ++ (front i ++ (program_lines 0 (map program_head checkers) ++ (one i ++ two i))))
  where
    grouped : (a b c d e : List ℕ) → a ++ b ++ c ++ (d ++ e) ≡ a ++ (b ++ (c ++ (d ++ e)))
    grouped a b c d e = simp append_assoc

text_grouped : (s : Settings) (value : LogValue) (checkers : List CheckerValue) → report_bytes (head_of (with_first false s) value checkers) (failing_lines (subject_of s value checkers))
    ≡ codes "crash report 2\n" ++ (options_text (head_of (with_first false s) value checkers)
    ++ (flat_map line_text (failing_lines (subject_of s value checkers)) ++ totals_line (length (images_of s value)) (failing_lines (subject_of s value checkers))))
unfolding report_bytes head_of
text_grouped s value checkers =
    grouped (codes "crash report 2\n") (options_line (head_of (with_first false s) value checkers)) (program_lines 0 (map program_head checkers))
    (flat_map line_text (failing_lines (subject_of s value checkers)) ++ totals_line (length (images_of s value)) (failing_lines (subject_of s value checkers)))
  where
    grouped : (a b c d : List ℕ) → a ++ b ++ c ++ d ≡ a ++ ((b ++ c) ++ d)
    grouped a b c d = simp append_assoc

pub is_report : (text : Recording) (files : List (List ℕ)) (s : Settings) (value : LogValue) (checkers : List CheckerValue) (report : List ℕ) → IsGiven text files s value checkers
    → s.extent ≡ extent.Whole → s.first ≡ false → report ≡ report_of (inputs_number text.text files) s value checkers
    → IsReport (codes "crash report 2\n") (options_given (set_images s) value) (starts_given (set_images s) value) (length (images_of (set_images s) value)) report (given_of s value checkers)
unfolding head_of
is_report text files s value checkers report given whole all is =
    let inputs : ℕ = inputs_number text.text files in
    let run : IsRun (run_of s value checkers inputs) = is_run text files s value checkers given in
    let ls : List FailingLine = failing_lines (subject_of s value checkers) in
    let n : ℕ = length (images_of s value) in
    let starts : StartsValue = starts_given (set_images s) value in
    let between = whole_lines s value checkers inputs whole in
    let lists = listed (subject_of s value checkers) in
    let printable : EachLine IsPrintable ls = subst (λ (xs : List FailingLine). EachLine IsPrintable xs) (sym between) (between_printable (run_of s value checkers inputs) run 0 n) in
    let order : in_order 0 n None (marks_of ls) ≡ true = subst (λ (xs : List FailingLine). in_order 0 n None (marks_of xs) ≡ true) (sym between) (lines_order (run_of s value checkers inputs) run 0 n (omega arith)) in
    let lines = lines_are starts ls (λ i l there. let own = lists.sound i l there in line_is starts l own.choice own.of_image own.cut own.by_is own.departures) in
    let totals = totals_are n ls in
    let told = is ∙ report_is s value checkers inputs whole all in
    let printed = run.printed in
    let head_text : IsUtf8 (options_text (head_of s value checkers)) = run.head.text in
    let same : options_text (head_of s value checkers) ≡ options_text (head_of (with_first false s) value checkers) =
    ap (λ (first : Bool). options_text (head_of (with_first first s) value checkers)) all in
    record {
      utf8 = subst (λ (bs : List ℕ). IsUtf8 bs) (sym (told ∙ text_grouped s value checkers))
          (IsUtf8-append (codes "crash report 2\n") (options_text (head_of (with_first false s) value checkers) ++ (flat_map line_text ls ++ totals_line n ls)) (IsUtf8-from_ascii (codes "crash report 2\n") (ascii (codes "crash report 2\n") refl))
          (IsUtf8-append (options_text (head_of (with_first false s) value checkers)) (flat_map line_text ls ++ totals_line n ls) (subst (λ (bs : List ℕ). IsUtf8 bs) same head_text)
          (IsUtf8-append (flat_map line_text ls) (totals_line n ls) (lines_are_text ls) (text_of_totals n ls))));
      judges = program_lines 0 (map program_head checkers);
      are = record { some = printed.some; few = printed.few; numbers = printed.numbers.programs; of_run = printed.programs; is = refl };
      head = ap (λ (bs : List ℕ). bs ++ program_lines 0 (map program_head checkers)) (options_are s value checkers);
      lines = told_each (length (map program_head checkers)) starts ls (λ i l there. is_told s value checkers l (lists.sound i l there) (each_there IsPrintable ls printable i l there));
      order = ap (λ (ms : List LineMark). in_order 0 n None ms) (marks_are ls) ∙ order;
      last = totals;
      is = told ∙ pieces_are s value checkers (flat_map (told_line starts) (told_all ls)) (totals_line n ls) lines refl;
    }

-- what is told of it is told of the failing lines

causes_are : (s : StartsValue) (ls : List FailingLine) (causes : List (List CutFailures))
    → causes_from s (λ program. outcomes_told_of program (told_all ls)) 0 causes ≡ causes_from s (λ program. outcomes_failing program ls) 0 causes
causes_are s ls causes = λ i. causes_from s (λ program. own_outcomes program ls i) 0 causes

pub tells_causes : (s : Settings) (value : LogValue) (checkers : List CheckerValue) (bytes : List ℕ) → TellsWhy (starts_given (set_images s) value) (given_of s value checkers) bytes
    → TellsCauses (head_of (with_first false s) value checkers) (starts_of s value) (failing_lines (subject_of s value checkers)) bytes
unfolding head_of why_text why_head missing_text opening_told
tells_causes s value checkers bytes h =
    let ls : List FailingLine = failing_lines (subject_of s value checkers) in
    let starts : StartsValue = starts_of s value in
    let marks = subst (λ (ms : List LineMark). AreFailuresAt starts ms h.failures) (marks_are ls) h.are_missing.failures in
    let causes = causes_are starts ls h.causes in
    record {
      failures = h.failures;
      missing = h.missing;
      are_missing = record { failures = failures_are listed s value checkers starts ls (marks_of ls) h.failures refl refl refl marks; missing = h.are_missing.missing };
      causes = h.causes;
      all = h.all;
      each = λ program cuts at.
          subst (λ (ns : List ℕ). AreCuts starts ns (outcomes_failing program ls) cuts) (own_images program ls)
          (subst (λ (os : List (List ℕ)). AreCuts starts (images_told_of program (told_all ls)) os cuts) (own_outcomes program ls) (h.each program cuts at));
      text = h.text
          ∙ ap (λ (bs : List ℕ). opening_told (given_of s value checkers) ++ (missing_text (length (map program_head checkers)) h.failures h.missing ++ bs)) causes
          ∙ grouped (codes "crash why 2\n") (options_text (head_of (with_first false s) value checkers)) (totals_line (length (images_of s value)) ls)
          (missing_text (length (map program_head checkers)) h.failures h.missing) (causes_from starts (λ program. outcomes_failing program ls) 0 h.causes);
    }
  where
    grouped : (a b c d e : List ℕ) → (a ++ (b ++ c)) ++ (d ++ e) ≡ a ++ b ++ c ++ d ++ e
    grouped a b c d e = simp append_assoc

-- and so is the page
pub tells_page : (s : Settings) (value : LogValue) (checkers : List CheckerValue) (bytes : List ℕ) → TellsPage (options_given (set_images s) value) (starts_given (set_images s) value) (given_of s value checkers) bytes
    → PageOfLines s value checkers (failing_lines (subject_of s value checkers)) bytes
unfolding head_of
tells_page s value checkers bytes h =
    let ls : List FailingLine = failing_lines (subject_of s value checkers) in
    let starts : StartsValue = starts_of s value in
    let g : GivenValue = given_of s value checkers in
    let marks = subst (λ (ms : List LineMark). AreFailuresAt starts ms h.failures) (marks_are ls) h.are_failures in
    record {
      failures = h.failures;
      are_failures = failures_are listed s value checkers starts ls (marks_of ls) h.failures refl refl refl marks;
      page = record {
        programs = h.page.programs;
        are = record {
          all = h.page.are.all;
          named = λ program f at. said_of (options_given (set_images s) value) g (map program_head checkers) program (judge_text f.judge) refl refl (h.page.are.named program f at);
          each = λ program f at.
              subst (λ (ns : List ℕ). FailsOn starts ns (outcomes_failing program ls) program h.failures f) (own_images program ls)
              (subst (λ (os : List (List ℕ)). FailsOn starts (images_told_of program (told_all ls)) os program h.failures f) (own_outcomes program ls) (h.page.are.each program f at));
        };
        page = h.page.page;
      };
    }
  where
    said_of : (options : List ℕ) (g : GivenValue) (heads : List ProgramHead) (program : ℕ) (text : List ℕ) → g.outside ≡ false → g.programs ≡ heads → GivenSaid options g program text → IsSaid heads program text
    said_of options g heads program text checkers same (of_checker head out there is) =
        record { head = head; there = subst (λ (hs : List ProgramHead). slice_get hs program ≡ Some head) same there; is = is }
    said_of options g heads program text checkers same (of_own words own head is) = absurd (let bad : false ≡ true = sym checkers ∙ own in cc)

-- and whether there is a line
pub some_are : (ls : List FailingLine) (failing : Bool) → IsTrue failing ↔ (told_all ls ≢ []) → IsTrue failing ↔ (ls ≢ [])
some_are ls failing test = (λ t none. test.0 t (ap told_all none), λ some. test.1 (λ none. some (no_lines ls none)))
  where
    no_lines : (xs : List FailingLine) → told_all xs ≡ [] → xs ≡ []
    no_lines [] none = refl
    no_lines (x ∷ xs) none = absurd (let bad : told_of x ∷ told_all xs ≡ [] = none in cc)
