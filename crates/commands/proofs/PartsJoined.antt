-- Texts of parts of a run, joined, are what the run answers.
use Rattle.std.proofs.Common.{ℕ, zero, suc, ◌≡◌, ◌≢◌, ◌↔◌, IsTrue, ◌+◌, ◌-◌, ◌<◌, ◌≤◌, ◌^◌, ◌==◌, ◌&&◌, ◌||◌, ◌⊎◌, nat_le, nat_lt, Bool, true, false, if◌then◌else◌, inl, inr, List, [], ◌∷◌, ◌++◌, length, length-append, filter, get_or, None, Some, refl, sym, ◌∙◌, ap, subst, arith}
use Rattle.std.specs.Option.{option_map_or}
use Rattle.std.specs.List.{AllByRecursion, flat_map, range_with_len, sum_by}
use Rattle.std.proofs.lemmas.Bool.{cases_lt}
use Rattle.std.proofs.lemmas.Bool.Decides.{nat_tests}
use Rattle.std.proofs.lemmas.Option.{slice_get_within}
use Rattle.std.proofs.lemmas.List.Elements.{All-from_recursion, recursion_from_All}
use Rattle.std.proofs.lemmas.List.Sums.{sum_by-cons}
use Rattle.std.proofs.lemmas.List.Sorted.{All-permutation, IsPermutation-sym, length_permutation}
use Rattle.base.specs.declared.causes.JoinCause.TheVariants as cause
use Rattle.logfmt.specs.Bounds.{LogValue}
use Rattle.logfmt.specs.Laws.{TextOfOneLog}
use Rattle.choices.specs.Choices.{limit}
use Rattle.bpf_isa.specs.Laws.{OneProgram}
use Rattle.verifier.specs.Laws.{OneVerdict}
use Rattle.checker.specs.Checker.{CheckerValue}
use Rattle.machine.specs.Outcome.{Ending}
use Rattle.report.specs.Line.{FailingLine, first_lines}
use Rattle.report.specs.LineText.{line_text}
use Rattle.report.specs.Report.{shown_lines, report_bytes}
use Rattle.join.specs.declared.fault.JoinFault.{JoinFault}
use Rattle.join.specs.Text.{RunValue, IsSpan, span_of, lines_between, part_bytes}
use Rattle.join.specs.Reading.{PartRead, IsPartText}
use Rattle.join.specs.Joining.{ArePartTexts, AreLinesOf, IsJoined, RefusesJoin, too_long, no_part, of_other_run, with_gap, with_overlap, short_of_run, no_memory, IsFirstApart, IsShortOfRun}
use Rattle.join.specs.Laws.{IsRun, Range, has, CoverOnce, texts_of, AreRanges, run_bytes, ArePartsOf}
use Rattle.join.proofs.Rows.{texts_long}
use Rattle.join.proofs.Runs.{part_value, is_part, part_is, one_part}
use Rattle.join.proofs.OfRuns.{join_is_run, parts_are_joined}
use Rattle.workers.specs.Failing.{ending_at, line_of, image_lines, failing_lines}
use Rattle.workers.specs.Safe.{IsVerdict, IsAcceptedBy, IsOverWithGuards}
use Rattle.workers.proofs.Sets.{listed}
use Rattle.workers.proofs.Safe.{verdict_at, over_at}
use Rattle.request.specs.declared.extent.Extent.{Extent}
use Rattle.request.specs.declared.extent.Extent.TheVariants as extent
use Rattle.request.specs.declared.settings.Settings.{Settings}
use Rattle.request.specs.Extents.{most_images, is_extent, has_extent}
use Rattle.base.specs.Check.{Check, check, first_failing}
use Rattle.base.specs.Sizes.{sector_limit}
use Rattle.request.specs.declared.settings.OptionPlace.{OptionPlace}
use Rattle.request.specs.declared.settings.OptionPlace.TheVariants as place
use Rattle.request.specs.Settings.{is_one_kind, is_ordered, option_checks, IsAsked}
use Rattle.request.specs.Source.{Recording, images_of, IsLogOf}
use Rattle.request.specs.Inputs.{inputs_number}
use Rattle.runs.specs.Explore.{AreCheckersOf, subject_of, head_of, report_of, IsSafe, IsReportOfRun}
use Rattle.runs.proofs.Judging.{ordered}
use Rattle.commands.specs.Parts.{meant, part_of, IsAnswer, HasAnswer, AnswerParts, HasCount, AreTextsOf, extent_of, JoinedPartsAreRun, PartsOfRunAreJoined}
use Rattle.commands.proofs.OneReport.{same_asked, same_checkers}
use Rattle.commands.proofs.RunOf.{run_of, IsGiven, is_run, inputs_small}

-- what the laws of the lower layers say
pub record AreOne : Type 0 where
  pub texts : TextOfOneLog
  pub programs : OneProgram
  pub verdicts : OneVerdict

-- which images are meant changes nothing of the log, the checkers and the run

log_meant : (text : Recording) (e f : Extent) (s : Settings) (value : LogValue) → IsLogOf text (meant e s) value → IsLogOf text (meant f s) value
log_meant text e f s value h = record {
  read = h.read;
  recorded = record { device = h.recorded.device; size = h.recorded.size; units = h.recorded.units; of_log = h.recorded.of_log; initial = h.recorded.initial };
  has = h.has;
  added = h.added;
}

log_itself : (text : Recording) (e : Extent) (s : Settings) (value : LogValue) → IsLogOf text s value → IsLogOf text (meant e s) value
log_itself text e s value h = record {
  read = h.read;
  recorded = record { device = h.recorded.device; size = h.recorded.size; units = h.recorded.units; of_log = h.recorded.of_log; initial = h.recorded.initial };
  has = h.has;
  added = h.added;
}

checkers_meant : (e f : Extent) (s : Settings) (files : List (List ℕ)) (checkers : List CheckerValue) → AreCheckersOf (meant e s) files checkers → AreCheckersOf (meant f s) files checkers
checkers_meant e f s [] [] made = tt
checkers_meant e f s [] (c ∷ checkers) made = absurd made
checkers_meant e f s (bytes ∷ files) [] made = absurd made
checkers_meant e f s (bytes ∷ files) (c ∷ checkers) made =
    (record { spelled = made.0.spelled; clean = made.0.clean; within = made.0.within }, checkers_meant e f s files checkers made.1)

run_meant : (e : Extent) (s : Settings) (value : LogValue) (checkers : List CheckerValue) (inputs : ℕ) → run_of (meant e s) value checkers inputs ≡ run_of s value checkers inputs
unfolding head_of image_lines line_of ending_at
run_meant e s value checkers inputs = refl

run_images : (s : Settings) (value : LogValue) (checkers : List CheckerValue) (inputs : ℕ) → (run_of s value checkers inputs).head.images ≡ length (images_of s value)
unfolding head_of
run_images s value checkers inputs = refl

part_text_is : (s : Settings) (x : Range) (value : LogValue) (checkers : List CheckerValue) (inputs : ℕ)
    → report_of inputs (part_of s x) value checkers ≡ part_bytes (run_of s value checkers inputs) x.from x.to
unfolding part_bytes head_of failing_lines image_lines line_of ending_at
part_text_is s x value checkers inputs = refl

whole_text_is : (s : Settings) (value : LogValue) (checkers : List CheckerValue) (inputs : ℕ)
    → report_of inputs (meant extent.Wide s) value checkers ≡ report_bytes (run_of s value checkers inputs).head (lines_between (run_of s value checkers inputs) 0 (length (images_of s value)))
unfolding head_of failing_lines image_lines line_of ending_at
whole_text_is s value checkers inputs = refl

part_lines_are : (s : Settings) (x : Range) (value : LogValue) (checkers : List CheckerValue) (inputs : ℕ)
    → failing_lines (subject_of (part_of s x) value checkers) ≡ lines_between (run_of s value checkers inputs) x.from x.to
unfolding failing_lines image_lines line_of ending_at
part_lines_are s x value checkers inputs = refl

whole_lines_are : (s : Settings) (value : LogValue) (checkers : List CheckerValue) (inputs : ℕ)
    → failing_lines (subject_of (meant extent.Wide s) value checkers) ≡ lines_between (run_of s value checkers inputs) 0 (length (images_of s value))
unfolding failing_lines image_lines line_of ending_at
whole_lines_are s value checkers inputs = refl

-- each text is that of its part, and each part is one of the run

span_is : (from to images inputs : ℕ) → is_extent (extent.Part from to) ≡ true → has_extent (extent.Part from to) images ≡ true → images < 2 ^ 63 → inputs < 2 ^ 64
    → IsSpan (record { from = from; to = to; images = images; inputs = inputs })
span_is from to images inputs asked there few number =
    by_asked (nat_lt from to || (from == 0 && to == 0)) refl asked
  where
    of_some : (b : Bool) → nat_le to images ≡ b → (b && (nat_lt from to || images == 0)) ≡ true → (to ≤ images) × ((nat_lt from to || images == 0) ≡ true)
    of_some true e f = (grind (arith, nat_tests, e), f)
    of_some false e f = absurd (let bad : false ≡ true = f in cc)

    none : (b : Bool) → nat_lt from to ≡ b → (b || images == 0) ≡ true → from ≡ to → images ≡ 0
    none true e f same = absurd (let less : from < to = grind (arith, nat_tests, e) in omega (arith, less, same))
    none false e f same = let test : (images == 0) ≡ true = f in grind (arith, nat_tests, test)

    by_asked : (b : Bool) → (nat_lt from to || (from == 0 && to == 0)) ≡ b → (b && nat_le (to - from) limit) ≡ true
        → IsSpan (record { from = from; to = to; images = images; inputs = inputs })
    by_asked false e f = absurd (let bad : false ≡ true = f in cc)
    by_asked true e f =
        let parts = of_some (nat_le to images) refl there in
        record { rising = ordered from to e; within = parts.0; some = none (nat_lt from to) refl parts.1; small = few; number = number }

-- what is known of a run of one log and of checkers
record Same (text : Recording) (files : List (List ℕ)) (s : Settings) (value : LogValue) (checkers : List CheckerValue) : Type 0 where
  log : IsLogOf text (meant extent.Wide s) value
  made : AreCheckersOf (meant extent.Wide s) files checkers

text_is : AreOne → (text : Recording) (files : List (List ℕ)) (s : Settings) (value : LogValue) (checkers : List CheckerValue) (x : Range) (t : List ℕ) → Same text files s value checkers
    → HasAnswer text files (part_of s x) t → t ≡ part_bytes (run_of s value checkers (inputs_number text.text files)) x.from x.to
text_is one text files s value checkers x t known a =
    let h = a.1.report in
    let log : h.value ≡ value = same_asked one.texts text (meant extent.Wide s) h.value value (log_meant text (extent.Part x.from x.to) extent.Wide s h.value h.source.reads) known.log in
    let made : h.checkers ≡ checkers =
    same_checkers one.programs one.verdicts (meant extent.Wide s) files h.checkers checkers (checkers_meant (extent.Part x.from x.to) extent.Wide s files h.checkers h.made) known.made in
    let inputs : ℕ = inputs_number text.text files in
    let moved : report_of inputs (part_of s x) h.value h.checkers ≡ report_of inputs (part_of s x) value checkers = λ i. report_of inputs (part_of s x) (log i) (made i) in
    h.tells ∙ moved ∙ part_text_is s x value checkers inputs

texts_are : AreOne → (text : Recording) (files : List (List ℕ)) (s : Settings) (value : LogValue) (checkers : List CheckerValue) (ranges : List Range) (texts : List (List ℕ)) → Same text files s value checkers
    → AnswerParts text files s ranges texts → texts ≡ texts_of (run_of s value checkers (inputs_number text.text files)) ranges
texts_are one text files s value checkers [] [] known each = refl
texts_are one text files s value checkers [] (t ∷ texts) known each = absurd each
texts_are one text files s value checkers (x ∷ ranges) [] known each = absurd each
texts_are one text files s value checkers (x ∷ ranges) (t ∷ texts) known each =
    let first = text_is one text files s value checkers x t known each.0 in
    let rest = texts_are one text files s value checkers ranges texts known each.1 in
    λ i. first i ∷ rest i

part_span : AreOne → (text : Recording) (files : List (List ℕ)) (s : Settings) (value : LogValue) (checkers : List CheckerValue) (x : Range) (t : List ℕ) → Same text files s value checkers
    → HasAnswer text files (part_of s x) t → IsSpan (span_of (run_of s value checkers (inputs_number text.text files)) x.from x.to)
unfolding head_of
part_span one text files s value checkers x t known a =
    let h = a.1.report in
    let log : h.value ≡ value = same_asked one.texts text (meant extent.Wide s) h.value value (log_meant text (extent.Part x.from x.to) extent.Wide s h.value h.source.reads) known.log in
    let images : length (images_of s h.value) ≡ length (images_of s value) = ap (λ (v : LogValue). length (images_of s v)) log in
    let few : length (images_of s h.value) ≤ 9223372036854775807 = h.source.few in
    let there = subst (λ (n : ℕ). has_extent (extent.Part x.from x.to) n ≡ true) images h.source.within in
    span_is x.from x.to (length (images_of s value)) (inputs_number text.text files) a.1.asked.extent there (omega (arith, few, images)) (inputs_small text.text files)

spans_are : AreOne → (text : Recording) (files : List (List ℕ)) (s : Settings) (value : LogValue) (checkers : List CheckerValue) (ranges : List Range) (texts : List (List ℕ)) → Same text files s value checkers
    → AnswerParts text files s ranges texts → AreRanges (run_of s value checkers (inputs_number text.text files)) ranges
spans_are one text files s value checkers [] [] known each = λ k d small. absurd (omega (arith, small))
spans_are one text files s value checkers [] (t ∷ texts) known each = absurd each
spans_are one text files s value checkers (x ∷ ranges) [] known each = absurd each
spans_are one text files s value checkers (x ∷ ranges) (t ∷ texts) known each =
    all (part_span one text files s value checkers x t known each.0) (spans_are one text files s value checkers ranges texts known each.1)
  where
    r : RunValue
    r = run_of s value checkers (inputs_number text.text files)

    all : IsSpan (span_of r x.from x.to) → AreRanges r ranges → (k : ℕ) (d : Range) → k < length (x ∷ ranges) → IsSpan (span_of r (get_or (x ∷ ranges) k d).from (get_or (x ∷ ranges) k d).to)
    all own rest zero d small = own
    all own rest (suc k) d small = rest k d (omega (arith, small))

-- images without lines

either_none : {A : Type 0} (xs ys : List A) → xs ++ ys ≡ [] → (xs ≡ []) × (ys ≡ [])
either_none [] ys none = (refl, none)
either_none (x ∷ xs) ys none = absurd (let bad : x ∷ (xs ++ ys) ≡ [] = none in cc)

range_quiet : (f : ℕ → List FailingLine) (a n image : ℕ) → flat_map f (range_with_len a n) ≡ [] → a ≤ image → image < a + n → f image ≡ []
range_quiet f a zero image none low high = absurd (omega (arith, low, high))
range_quiet f a (suc n) image none low high =
    let parts = either_none (f a) (flat_map f (range_with_len (a + 1) n)) none in
    elim (cases_lt a image) [
      | inl less ↦ range_quiet f (a + 1) n image parts.1 (omega (arith, less)) (omega (arith, high))
      | inr up ↦ let same : a ≡ image = omega (arith, low, up) in subst (λ (k : ℕ). f k ≡ []) same parts.0
    ]

quiet_range : (f : ℕ → List FailingLine) (a n : ℕ) → ((image : ℕ) → a ≤ image → image < a + n → f image ≡ []) → flat_map f (range_with_len a n) ≡ []
quiet_range f a zero each = refl
quiet_range f a (suc n) each =
    let first = each a (omega arith) (omega arith) in
    let rest = quiet_range f (a + 1) n (λ image low high. each image (omega (arith, low)) (omega (arith, high))) in
    ap (λ (ls : List FailingLine). ls ++ flat_map f (range_with_len (a + 1) n)) first ∙ rest

-- a run has no line of the images of a range
abbrev IsQuiet : RunValue → ℕ → ℕ → Type 0
IsQuiet r a b = (image : ℕ) → a ≤ image → image < b → r.image_lines image ≡ []

between_quiet : (r : RunValue) (a b : ℕ) → lines_between r a b ≡ [] → IsQuiet r a b
between_quiet r a b none = λ image low high. range_quiet r.image_lines a (b - a) image none low (omega (arith, low, high))

quiet_between : (r : RunValue) (a b : ℕ) → a ≤ b → IsQuiet r a b → lines_between r a b ≡ []
quiet_between r a b up quiet = quiet_range r.image_lines a (b - a) (λ image low high. quiet image low (omega (arith, high, up)))

-- lines that are shown are none where there are none
same_number : (n : ℕ) → (n == n) ≡ true
same_number n = grind (arith, nat_tests)

first_none : (ls : List FailingLine) → first_lines ls ≡ [] → ls ≡ []
first_none [] none = refl
first_none (l ∷ ls) none = absurd (by_test (filter (λ (m : FailingLine). m.image == l.image) ls) (l.image == l.image) (same_number l.image) none)
  where
    by_test : (more : List FailingLine) (b : Bool) → b ≡ true → (if b then l ∷ more else more) ≡ [] → ⊥
    by_test more true is none = let bad : l ∷ more ≡ [] = none in cc
    by_test more false is none = let bad : false ≡ true = is in cc

shown_none : (first : Bool) (ls : List FailingLine) → shown_lines first ls ≡ [] → ls ≡ []
shown_none false ls none = none
shown_none true ls none = first_none ls none

none_shown : (first : Bool) (ls : List FailingLine) → ls ≡ [] → shown_lines first ls ≡ []
none_shown false ls none = none
none_shown true ls none = ap first_lines none

text_none : (ls : List FailingLine) → flat_map line_text ls ≡ [] → ls ≡ []
unfolding line_text
text_none [] none = refl
text_none (l ∷ ls) none = absurd (let bad : 105 ≡ 0 = ap (λ (bs : List ℕ). get_or bs 0 0) none in omega (arith, bad))

-- no line of a part was read
abbrev HasNone : PartRead → Type 0
HasNone rd = rd.lines ≡ []

abbrev HaveNone : List PartRead → Type 0
HaveNone rs = AllByRecursion HasNone rs

lines_none : (rs : List PartRead) (ls : List FailingLine) → AreLinesOf rs ls → HaveNone rs → ls ≡ []
lines_none [] ls are none = are
lines_none (rd ∷ rs) ls (p, more, is, told, e, rest) none =
    let own = text_none p.lines (sym told.lines ∙ none.0) in
    let later = lines_none rs more rest none.1 in
    e ∙ ap (λ (xs : List FailingLine). xs ++ more) own ∙ later

none_lines : (rs : List PartRead) (ls : List FailingLine) → AreLinesOf rs ls → ls ≡ [] → HaveNone rs
none_lines [] ls are none = tt
none_lines (rd ∷ rs) ls (p, more, is, told, e, rest) none =
    let parts = either_none p.lines more (sym e ∙ none) in
    let own : p.lines ≡ [] = parts.0 in
    (told.lines ∙ ap (λ (xs : List FailingLine). flat_map line_text xs) own, none_lines rs more rest parts.1)

-- what was read of the text of a part are the lines that are shown of it
read_lines : (r : RunValue) (run : IsRun r) (x : Range) (rd : PartRead) → IsSpan (span_of r x.from x.to) → IsPartText (part_bytes r x.from x.to) rd
    → rd.lines ≡ flat_map line_text (shown_lines r.head.first (lines_between r x.from x.to))
read_lines r run x rd span read =
    let told = one_part read.part (part_value r x.from x.to) read.is (is_part r run x.from x.to span) (sym read.text ∙ part_is r run x.from x.to span) rd read.told in
    told.lines

read_quiet : (r : RunValue) (run : IsRun r) (x : Range) (rd : PartRead) → IsSpan (span_of r x.from x.to) → IsPartText (part_bytes r x.from x.to) rd → HasNone rd → IsQuiet r x.from x.to
read_quiet r run x rd span read none =
    let shown = text_none (shown_lines r.head.first (lines_between r x.from x.to)) (sym (read_lines r run x rd span read) ∙ none) in
    between_quiet r x.from x.to (shown_none r.head.first (lines_between r x.from x.to) shown)

quiet_read : (r : RunValue) (run : IsRun r) (x : Range) (rd : PartRead) → IsSpan (span_of r x.from x.to) → IsPartText (part_bytes r x.from x.to) rd → IsQuiet r x.from x.to → HasNone rd
quiet_read r run x rd span read quiet =
    let none = none_shown r.head.first (lines_between r x.from x.to) (quiet_between r x.from x.to span.rising quiet) in
    read_lines r run x rd span read ∙ ap (λ (xs : List FailingLine). flat_map line_text xs) none

-- how many ranges have an image
abbrev counted : Bool → ℕ
counted b = if b then 1 else 0

abbrev one_if_has : ℕ → Range → ℕ
one_if_has image x = counted (has image x)

abbrev times : ℕ → List Range → ℕ
times image ranges = sum_by (one_if_has image) ranges

within_of : (a b image : ℕ) → (nat_le a image && nat_lt image b) ≡ true → (a ≤ image) × (image < b)
within_of a b image both = by_tests (nat_le a image) (nat_lt image b) refl refl both
  where
    by_tests : (t u : Bool) → nat_le a image ≡ t → nat_lt image b ≡ u → (t && u) ≡ true → (a ≤ image) × (image < b)
    by_tests true true e f both = (grind (arith, nat_tests, e), grind (arith, nat_tests, f))
    by_tests true false e f both = absurd (let bad : false ≡ true = both in cc)
    by_tests false u e f both = absurd (let bad : false ≡ true = both in cc)

of_within : (a b image : ℕ) → a ≤ image → image < b → (nat_le a image && nat_lt image b) ≡ true
of_within a b image low high =
    let one : nat_le a image ≡ true = grind (arith, nat_tests, low) in
    let two : nat_lt image b ≡ true = grind (arith, nat_tests, high) in
    rw (one, two) refl

-- an image that a range has, of which no line was read, has none
quiet_at : (r : RunValue) (run : IsRun r) (n : ℕ) (ranges : List Range) (reads : List PartRead) (image : ℕ) → AreRanges r ranges → ArePartTexts n (texts_of r ranges) reads → HaveNone reads
    → 0 < times image ranges → r.image_lines image ≡ []
quiet_at r run n [] reads image spans each none some = absurd (omega (arith, some))
quiet_at r run n (x ∷ ranges) [] image spans each none some = absurd each
quiet_at r run n (x ∷ ranges) (rd ∷ reads) image spans each none some =
    by_test (has image x) refl (quiet_at r run (n + 1) ranges reads image (λ i e l. spans (suc i) e (omega (arith, l))) each.2 none.1)
  where
    sum : times image (x ∷ ranges) ≡ one_if_has image x + times image ranges
    sum = sum_by-cons (one_if_has image) x ranges

    by_test : (b : Bool) → has image x ≡ b → (0 < times image ranges → r.image_lines image ≡ []) → r.image_lines image ≡ []
    by_test true is rest =
        let within = within_of x.from x.to image is in
        read_quiet r run x rd (spans 0 x (omega arith)) each.0 none.0 image within.0 within.1
    by_test false is rest =
        let zero_of : one_if_has image x ≡ 0 = ap counted is in
        rest (omega (arith, sum, zero_of, some))

-- ranges of which each image is within some
abbrev AreWithin : ℕ → ℕ → List Range → Type 0
AreWithin from to ranges = (image : ℕ) → 0 < times image ranges → (from ≤ image) × (image < to)

none_read_of : (r : RunValue) (run : IsRun r) (n from to : ℕ) (ranges : List Range) (reads : List PartRead) → AreRanges r ranges → ArePartTexts n (texts_of r ranges) reads → AreWithin from to ranges
    → IsQuiet r from to → HaveNone reads
none_read_of r run n from to [] [] spans each within quiet = tt
none_read_of r run n from to [] (rd ∷ reads) spans each within quiet = absurd each
none_read_of r run n from to (x ∷ ranges) [] spans each within quiet = tt
none_read_of r run n from to (x ∷ ranges) (rd ∷ reads) spans each within quiet = (
  quiet_read r run x rd (spans 0 x (omega arith)) each.0 own,
  none_read_of r run (n + 1) from to ranges reads (λ i e l. spans (suc i) e (omega (arith, l))) each.2 (λ image some. within image (let sum = of_sum image in omega (arith, sum, some))) quiet,
)
  where
    of_sum : (image : ℕ) → times image (x ∷ ranges) ≡ one_if_has image x + times image ranges
    of_sum image = sum_by-cons (one_if_has image) x ranges

    own : (image : ℕ) → x.from ≤ image → image < x.to → r.image_lines image ≡ []
    own image low high =
        let is : has image x ≡ true = of_within x.from x.to image low high in
        let one : one_if_has image x ≡ 1 = ap counted is in
        let sum = of_sum image in
        let inside = within image (omega (arith, sum, one)) in
        quiet image inside.0 inside.1

covered : (ranges : List Range) (from to : ℕ) → CoverOnce ranges from to → (image : ℕ) → 0 < times image ranges → (from ≤ image) × (image < to)
covered ranges from to cover image some = by_test (nat_le from image && nat_lt image to) refl (cover.once image)
  where
    by_test : (b : Bool) → (nat_le from image && nat_lt image to) ≡ b → times image ranges ≡ (if b then 1 else 0) → (from ≤ image) × (image < to)
    by_test true is once = within_of from to image is
    by_test false is once = absurd (let none : times image ranges ≡ 0 = once in omega (arith, none, some))

-- what is joined has a line exactly where the run has one of these images
joined_quiet : (r : RunValue) (ranges : List Range) (from to : ℕ) (bytes : List ℕ) (failing : Bool) → ArePartsOf r ranges from to → (joined : IsJoined (texts_of r ranges) bytes failing)
    → joined.lines ≡ [] → lines_between r from to ≡ []
joined_quiet r ranges from to bytes failing parts joined none =
    let row = none_lines joined.row joined.lines joined.of_parts none in
    let all = All-permutation HasNone joined.row joined.reads (IsPermutation-sym joined.reads joined.row joined.order) (All-from_recursion HasNone joined.row row) in
    let reads : HaveNone joined.reads = recursion_from_All HasNone joined.reads all in
    quiet_between r from to parts.cover.up (quiet reads)
  where
    quiet : HaveNone joined.reads → (image : ℕ) → from ≤ image → image < to → r.image_lines image ≡ []
    quiet reads image low high =
        let one : times image ranges ≡ 1 = parts.cover.once image ∙ ap counted (of_within from to image low high) in
        quiet_at r parts.run 0 ranges joined.reads image parts.ranges_are joined.each reads (omega (arith, one))

quiet_joined : (r : RunValue) (ranges : List Range) (from to : ℕ) (bytes : List ℕ) (failing : Bool) → ArePartsOf r ranges from to → (joined : IsJoined (texts_of r ranges) bytes failing)
    → lines_between r from to ≡ [] → joined.lines ≡ []
quiet_joined r ranges from to bytes failing parts joined none =
    let reads = none_read_of r parts.run 0 from to ranges joined.reads parts.ranges_are joined.each (covered ranges from to parts.cover) (between_quiet r from to none) in
    let all = All-permutation HasNone joined.reads joined.row joined.order (All-from_recursion HasNone joined.reads reads) in
    lines_none joined.row joined.lines joined.of_parts (recursion_from_All HasNone joined.row all)

fails_is : (r : RunValue) (ranges : List Range) (from to : ℕ) (bytes : List ℕ) (failing : Bool) → ArePartsOf r ranges from to → IsJoined (texts_of r ranges) bytes failing
    → IsTrue failing ↔ (lines_between r from to ≢ [])
fails_is r ranges from to bytes failing parts joined = (one_way, other_way)
  where
    one_way : IsTrue failing → lines_between r from to ≢ []
    one_way is = λ none.
        let some : 0 < length joined.lines = joined.fails.0 is in
        let long : length joined.lines ≡ 0 = ap (λ (ls : List FailingLine). length ls) (quiet_joined r ranges from to bytes failing parts joined none) in
        omega (arith, some, long)

    by_lines : (ls : List FailingLine) → joined.lines ≡ ls → lines_between r from to ≢ [] → IsTrue failing
    by_lines [] none some = absurd (some (joined_quiet r ranges from to bytes failing parts joined none))
    by_lines (l ∷ ls) are some = joined.fails.1 (let long : length joined.lines ≡ length (l ∷ ls) = ap (λ (ks : List FailingLine). length ks) are in omega (arith, long))

    other_way : lines_between r from to ≢ [] → IsTrue failing
    other_way some = by_lines joined.lines refl some

-- a program that is accepted is, whichever images are meant
abbrev pub still_accepted : (guards : Bool) (e f : Extent) (s : Settings) (value : LogValue) (checkers : List CheckerValue) (checker : CheckerValue)
    → IsAcceptedBy guards (subject_of (meant e s) value checkers) checker → IsAcceptedBy guards (subject_of (meant f s) value checkers) checker
still_accepted guards e f s value checkers checker h = record { accepted = h.accepted; kind = h.kind }

-- a run that is safe is, whichever of its images are meant
still_safe : (guards : Bool) (e f : Extent) (s : Settings) (value : LogValue) (checkers : List CheckerValue) → IsSafe guards (subject_of (meant e s) value checkers)
    → IsSafe guards (subject_of (meant f s) value checkers)
still_safe false e f s value checkers h = record {
  runs = λ n c there. let own = h.runs n c there in (still_accepted false e f s value checkers c own.0, own.1);
  lines = λ i l there.
      let is = (listed (subject_of (meant f s) value checkers)).sound i l there in
      let own = h.runs l.program is.checker is.of_program in
      let safe = own.1 l.image is.choice is.of_image in
      subst (λ (x : Ending). IsVerdict x) (sym is.ends) (verdict_at (subject_of (meant f s) value checkers) is.checker is.choice own.0.kind safe);
}
still_safe true e f s value checkers h = record {
  runs = λ n c there. let own = h.runs n c there in (still_accepted true e f s value checkers c own.0, own.1);
  lines = λ i l there.
      let is = (listed (subject_of (meant f s) value checkers)).sound i l there in
      let own = h.runs l.program is.checker is.of_program in
      let safe = own.1 l.image is.choice is.of_image in
      let accepted = still_accepted true e f s value checkers is.checker own.0 in
      record {
        checker = is.checker;
        of_program = is.of_program;
        is = accepted;
        over = subst (λ (x : Ending). IsOverWithGuards (subject_of (meant f s) value checkers) is.checker accepted x) (sym is.ends)
            (over_at (subject_of (meant f s) value checkers) is.checker is.choice accepted safe);
      };
}

-- what is known of texts of parts, of which there is one
record Joins (text : Recording) (files : List (List ℕ)) (s : Settings) (texts : List (List ℕ)) (x : Range) (images : ℕ) : Type 0 where
  value : LogValue
  checkers : List CheckerValue
  first : Range
  given : IsGiven text files (part_of s first) value checkers
  faultless : s.checked ≡ None → IsSafe s.guards (subject_of (part_of s first) value checkers)
  ranges : List Range
  are : texts ≡ texts_of (run_of s value checkers (inputs_number text.text files)) ranges
  parts : ArePartsOf (run_of s value checkers (inputs_number text.text files)) ranges x.from x.to
  count : images ≡ length (images_of s value)
  some : (x.from < x.to) ⊎ (images ≡ 0)

joins : AreOne → (text : Recording) (files : List (List ℕ)) (s : Settings) (texts : List (List ℕ)) (x : Range) (images : ℕ) → AreTextsOf text files s texts x images → 0 < length texts
    → Joins text files s texts x images
joins one text files s texts x images h more = by_lists h.ranges texts h.answers h.cover more
  where
    known_of : (y : Range) (t : List ℕ) (a : HasAnswer text files (part_of s y) t) → Same text files s a.1.report.value a.1.report.checkers
    known_of y t a = record {
      log = log_meant text (extent.Part y.from y.to) extent.Wide s a.1.report.value a.1.report.source.reads;
      made = checkers_meant (extent.Part y.from y.to) extent.Wide s files a.1.report.checkers a.1.report.made;
    }

    some_of : (y : Range) (ranges : List Range) (images n : ℕ) → CoverOnce (y ∷ ranges) x.from x.to → IsSpan (record { from = y.from; to = y.to; images = images; inputs = n }) → (x.from < x.to) ⊎ (images ≡ 0)
    some_of y ranges images n cover span = elim (cases_lt y.from y.to) [
      | inl less ↦
          let is : has y.from y ≡ true = of_within y.from y.to y.from (omega arith) less in
          let one : one_if_has y.from y ≡ 1 = ap counted is in
          let sum = sum_by-cons (one_if_has y.from) y ranges in
          let inside = covered (y ∷ ranges) x.from x.to cover y.from (omega (arith, sum, one)) in
          let low = inside.0 in
          let high = inside.1 in
          inl (omega (arith, low, high))
      | inr up ↦ let rising : y.from ≤ y.to = span.rising in inr (span.some (omega (arith, rising, up)))
    ]

    by_lists : (ranges : List Range) (ts : List (List ℕ)) → AnswerParts text files s ranges ts → CoverOnce ranges x.from x.to → 0 < length ts → Joins text files s ts x images
    by_lists [] [] each cover more = absurd (omega (arith, more))
    by_lists [] (t ∷ ts) each cover more = absurd each
    by_lists (y ∷ ranges) [] each cover more = absurd each
    by_lists (y ∷ ranges) (t ∷ ts) each cover more =
        let a = each.0 in
        let p = a.1.report in
        let known = known_of y t a in
        let inputs : ℕ = inputs_number text.text files in
        let given : IsGiven text files (part_of s y) p.value p.checkers = record { asked = a.1.asked; count = p.count; source = p.source; made = p.made } in
        let run = subst (λ (r : RunValue). IsRun r) (run_meant (extent.Part y.from y.to) s p.value p.checkers inputs) (is_run text files (part_of s y) p.value p.checkers given) in
        let value : h.count.value ≡ p.value = same_asked one.texts text (meant extent.Wide s) h.count.value p.value (log_itself text extent.Wide s h.count.value h.count.reads) known.log in
        let count : images ≡ length (images_of s p.value) = h.count.is ∙ ap (λ (v : LogValue). length (images_of s v)) value in
        let all = run_images s p.value p.checkers inputs in
        let within = h.within in
        let span = part_span one text files s p.value p.checkers y t known a in
        let some = some_of y ranges ((run_of s p.value p.checkers inputs).head.images) inputs cover span in
        let same : (run_of s p.value p.checkers inputs).head.images ≡ images = all ∙ sym count in
        record {
          value = p.value;
          checkers = p.checkers;
          first = y;
          given = given;
          faultless = p.faultless;
          ranges = y ∷ ranges;
          are = texts_are one text files s p.value p.checkers (y ∷ ranges) (t ∷ ts) known each;
          parts = record {
            run = run;
            ranges_are = spans_are one text files s p.value p.checkers (y ∷ ranges) (t ∷ ts) known each;
            cover = cover;
            within = omega (arith, within, count, all);
          };
          count = count;
          some = subst (λ (n : ℕ). (x.from < x.to) ⊎ (n ≡ 0)) same some;
        }

-- a report of a run, whichever of its images are meant
report_meant : (text : Recording) (files : List (List ℕ)) (s : Settings) (texts : List (List ℕ)) (x : Range) (images : ℕ) (e : Extent) (bytes : List ℕ) (failing : Bool)
    → (j : Joins text files s texts x images) → length (images_of s j.value) ≤ most_images e → has_extent e (length (images_of s j.value)) ≡ true
    → bytes ≡ report_of (inputs_number text.text files) (meant e s) j.value j.checkers → IsTrue failing ↔ (failing_lines (subject_of (meant e s) j.value j.checkers) ≢ [])
    → IsReportOfRun text files (meant e s) bytes failing
report_meant text files s texts x images e bytes failing j few within is fails = record {
  count = j.given.count;
  value = j.value;
  source = record { reads = log_meant text (extent.Part j.first.from j.first.to) e s j.value j.given.source.reads; few = few; within = within };
  checkers = j.checkers;
  made = checkers_meant (extent.Part j.first.from j.first.to) e s files j.checkers j.given.made;
  tells = is;
  fails = fails;
  faultless = λ free. still_safe s.guards (extent.Part j.first.from j.first.to) e s j.value j.checkers (j.faultless free);
}

both_true : (a b : Bool) → a ≡ true → b ≡ true → (a && b) ≡ true
both_true a b one two = rw (one, two) refl

both_parts : (a b : Bool) → (a && b) ≡ true → (a ≡ true) × (b ≡ true)
both_parts true true e = (refl, refl)
both_parts true false e = absurd (let bad : false ≡ true = e in cc)
both_parts false b e = absurd (let bad : false ≡ true = e in cc)

whole_bytes : (r : RunValue) (from to : ℕ) → (from == 0 && to == r.head.images) ≡ true → run_bytes r from to ≡ report_bytes r.head (lines_between r from to)
unfolding run_bytes
whole_bytes r from to test = ap (λ (b : Bool). if b then report_bytes r.head (lines_between r from to) else part_bytes r from to) test

some_bytes : (r : RunValue) (from to : ℕ) → (from == 0 && to == r.head.images) ≡ false → run_bytes r from to ≡ part_bytes r from to
unfolding run_bytes
some_bytes r from to test = ap (λ (b : Bool). if b then report_bytes r.head (lines_between r from to) else part_bytes r from to) test

joined_by : (text : Recording) (files : List (List ℕ)) (s : Settings) (texts : List (List ℕ)) (x : Range) (images : ℕ) (bytes : List ℕ) (failing : Bool)
    → Joins text files s texts x images → IsJoined texts bytes failing → IsReportOfRun text files (meant (extent_of images x) s) bytes failing
joined_by text files s texts x images bytes failing j joined = by_test (x.from == 0 && x.to == images) refl
  where
    inputs : ℕ
    inputs = inputs_number text.text files

    r : RunValue
    r = run_of s j.value j.checkers inputs

    own : IsJoined (texts_of r j.ranges) bytes failing
    own = subst (λ (ts : List (List ℕ)). IsJoined ts bytes failing) j.are joined

    is : bytes ≡ run_bytes r x.from x.to
    is = join_is_run r j.ranges x.from x.to bytes failing j.parts own

    fails : IsTrue failing ↔ (lines_between r x.from x.to ≢ [])
    fails = fails_is r j.ranges x.from x.to bytes failing j.parts own

    all : r.head.images ≡ length (images_of s j.value)
    all = run_images s j.value j.checkers inputs

    small : length (images_of s j.value) ≤ 9223372036854775807
    small = let few = j.parts.run.few in omega (arith, few, all)

    part_there : (b c : Bool) → nat_lt x.from x.to ≡ b → (length (images_of s j.value) == 0) ≡ c → (b || c) ≡ true
    part_there true c e f = refl
    part_there false true e f = refl
    part_there false false e f = absurd (elim j.some [
      | inl less ↦ let high : x.to ≤ x.from = grind (arith, nat_tests, e) in omega (arith, less, high)
      | inr none ↦ let zero_of : length (images_of s j.value) ≡ 0 = sym j.count ∙ none in let test : (length (images_of s j.value) == 0) ≡ true = grind (arith, nat_tests, zero_of) in let bad : false ≡ true = sym f ∙ test in cc
    ])

    by_test : (b : Bool) → (x.from == 0 && x.to == images) ≡ b → IsReportOfRun text files (meant (if b then extent.Wide else extent.Part x.from x.to) s) bytes failing
    by_test true e =
        let both = both_parts (x.from == 0) (x.to == images) e in
        let from : x.from ≡ 0 = grind (arith, nat_tests, both.0) in
        let to : x.to ≡ length (images_of s j.value) = (let end : x.to ≡ images = grind (arith, nat_tests, both.1) in end ∙ j.count) in
        let test : (x.from == 0 && x.to == r.head.images) ≡ true = (let end : x.to ≡ r.head.images = to ∙ sym all in let last : (x.to == r.head.images) ≡ true = grind (arith, nat_tests, end) in both_true (x.from == 0) (x.to == r.head.images) both.0 last) in
        let lines : lines_between r x.from x.to ≡ lines_between r 0 (length (images_of s j.value)) = λ i. lines_between r (from i) (to i) in
        let text_of : run_bytes r x.from x.to ≡ report_bytes r.head (lines_between r 0 (length (images_of s j.value))) = whole_bytes r x.from x.to test ∙ ap (λ (ls : List FailingLine). report_bytes r.head ls) lines in
        report_meant text files s texts x images extent.Wide bytes failing j small refl (is ∙ text_of ∙ sym (whole_text_is s j.value j.checkers inputs))
        (subst (λ (ls : List FailingLine). IsTrue failing ↔ (ls ≢ [])) (lines ∙ sym (whole_lines_are s j.value j.checkers inputs)) fails)
    by_test false e =
        let test : (x.from == 0 && x.to == r.head.images) ≡ false = ap (λ (n : ℕ). x.from == 0 && x.to == n) (all ∙ sym j.count) ∙ e in
        let text_of : run_bytes r x.from x.to ≡ part_bytes r x.from x.to = some_bytes r x.from x.to test in
        let high = j.parts.within in
        let there : nat_le x.to (length (images_of s j.value)) ≡ true = (let le : x.to ≤ length (images_of s j.value) = omega (arith, high, all) in grind (arith, nat_tests, le)) in
        let has_some = part_there (nat_lt x.from x.to) (length (images_of s j.value) == 0) refl refl in
        report_meant text files s texts x images (extent.Part x.from x.to) bytes failing j small (both_true (nat_le x.to (length (images_of s j.value))) (nat_lt x.from x.to || length (images_of s j.value) == 0) there has_some) (is ∙ text_of ∙ sym (part_text_is s x j.value j.checkers inputs))
        (subst (λ (ls : List FailingLine). IsTrue failing ↔ (ls ≢ [])) (sym (part_lines_are s x j.value j.checkers inputs)) fails)

-- without texts nothing is joined
joined_some : (texts : List (List ℕ)) (bytes : List ℕ) (failing : Bool) → IsJoined texts bytes failing → 0 < length texts
joined_some texts bytes failing h =
    let long = texts_long 0 texts h.reads h.each in
    let same = length_permutation h.reads h.row h.order in
    let some = h.some in
    omega (arith, long, same, some)

same_lines : (s : Settings) (value : LogValue) (checkers : List CheckerValue) → failing_lines (subject_of (meant extent.Wide s) value checkers) ≡ failing_lines (subject_of (meant extent.Whole s) value checkers)
unfolding failing_lines image_lines line_of ending_at
same_lines s value checkers = refl

same_text : (s : Settings) (value : LogValue) (checkers : List CheckerValue) (inputs : ℕ) → report_of inputs (meant extent.Wide s) value checkers ≡ report_of inputs (meant extent.Whole s) value checkers
unfolding head_of failing_lines image_lines line_of ending_at
same_text s value checkers inputs = refl

-- the report of all images is that of a run that may have no more than the most
whole_of_wide : (text : Recording) (files : List (List ℕ)) (s : Settings) (bytes : List ℕ) (failing : Bool) (images : ℕ) → AreOne → HasCount text s images → images ≤ limit
    → IsReportOfRun text files (meant extent.Wide s) bytes failing → IsReportOfRun text files (meant extent.Whole s) bytes failing
whole_of_wide text files s bytes failing images one count few h =
    let value : h.value ≡ count.value = same_asked one.texts text (meant extent.Wide s) h.value count.value h.source.reads (log_itself text extent.Wide s count.value count.reads) in
    let long : length (images_of s h.value) ≡ images = ap (λ (v : LogValue). length (images_of s v)) value ∙ sym count.is in
    record {
      count = h.count;
      value = h.value;
      source = record { reads = log_meant text extent.Wide extent.Whole s h.value h.source.reads; few = omega (arith, long, few); within = refl };
      checkers = h.checkers;
      made = checkers_meant extent.Wide extent.Whole s files h.checkers h.made;
      tells = h.tells ∙ same_text s h.value h.checkers (inputs_number text.text files);
      fails = subst (λ (ls : List FailingLine). IsTrue failing ↔ (ls ≢ [])) (same_lines s h.value h.checkers) h.fails;
      faultless = λ free. still_safe s.guards extent.Wide extent.Whole s h.value h.checkers (h.faultless free);
    }

-- options that pass their checks pass them with other images, which can be asked for
images_check : (a b c d e f g h : Bool) (rest : List (Check OptionPlace)) → h ≡ true
    → first_failing (check place.Sectors a ∷ check place.Bound b ∷ check place.Workers c ∷ check place.Cache d ∷ check place.Checked e ∷ check place.Range f ∷ check place.Images g ∷ rest) ≡ None
    → first_failing (check place.Sectors a ∷ check place.Bound b ∷ check place.Workers c ∷ check place.Cache d ∷ check place.Checked e ∷ check place.Range f ∷ check place.Images h ∷ rest) ≡ None
images_check true true true true true true true true rest is passed = passed
images_check true true true true true true false true rest is passed = absurd (let bad : Some place.Images ≡ None = passed in cc)
images_check true true true true true true g false rest is passed = absurd (let bad : false ≡ true = is in cc)
images_check true true true true true false g h rest is passed = absurd (let bad : Some place.Range ≡ None = passed in cc)
images_check true true true true false f g h rest is passed = absurd (let bad : Some place.Checked ≡ None = passed in cc)
images_check true true true false e f g h rest is passed = absurd (let bad : Some place.Cache ≡ None = passed in cc)
images_check true true false d e f g h rest is passed = absurd (let bad : Some place.Workers ≡ None = passed in cc)
images_check true false c d e f g h rest is passed = absurd (let bad : Some place.Bound ≡ None = passed in cc)
images_check false b c d e f g h rest is passed = absurd (let bad : Some place.Sectors ≡ None = passed in cc)

checks_meant : (e f : Extent) (s : Settings) → is_extent f ≡ true → first_failing (option_checks (meant e s)) ≡ None → first_failing (option_checks (meant f s)) ≡ None
unfolding option_checks
checks_meant e f s good passed =
    images_check (nat_le 1 s.sectors && nat_le s.sectors (sector_limit s.limits)) (nat_le s.bound 3) (nat_le 1 s.workers && nat_le s.workers 64) (nat_le s.cache 65536)
    (option_map_or (λ most. nat_le most 1000000000) s.checked true) (is_ordered s.cuts) (is_extent e) (is_extent f) (check place.Guards (is_one_kind s.guards s.checked) ∷ []) good passed

asked_meant : (e f : Extent) (s : Settings) → is_extent f ≡ true → IsAsked (meant e s) → IsAsked (meant f s)
asked_meant e f s good h = record {
  some = h.some;
  device = h.device;
  bound = h.bound;
  some_worker = h.some_worker;
  few_workers = h.few_workers;
  cache = h.cache;
  extent = good;
  one_kind = h.one_kind;
  passed = checks_meant e f s good h.passed;
}

-- a range that isn't of all images, or of none of a run without any, can be asked for where it isn't too long
part_asked : (x : Range) (images : ℕ) → (x.from < x.to) ⊎ (images ≡ 0) → x.from ≤ x.to → x.to ≤ images → x.to - x.from ≤ limit → is_extent (extent.Part x.from x.to) ≡ true
part_asked x images some up within few =
    both_true (nat_lt x.from x.to || (x.from == 0 && x.to == 0)) (nat_le (x.to - x.from) limit) (by_some some) (grind (arith, nat_tests, few))
  where
    either_true : (a b : Bool) → b ≡ true → (a || b) ≡ true
    either_true true b is = refl
    either_true false b is = is

    by_some : (x.from < x.to) ⊎ (images ≡ 0) → (nat_lt x.from x.to || (x.from == 0 && x.to == 0)) ≡ true
    by_some (inl less) = let one : nat_lt x.from x.to ≡ true = grind (arith, nat_tests, less) in ap (λ (b : Bool). b || (x.from == 0 && x.to == 0)) one
    by_some (inr none) =
        let first : x.from ≡ 0 = omega (arith, none, up, within) in
        let last : x.to ≡ 0 = omega (arith, none, within) in
        let one : (x.from == 0) ≡ true = grind (arith, nat_tests, first) in
        let two : (x.to == 0) ≡ true = grind (arith, nat_tests, last) in
        either_true (nat_lt x.from x.to) (x.from == 0 && x.to == 0) (both_true (x.from == 0) (x.to == 0) one two)

all_of : (images : ℕ) → extent_of images (record { from = 0; to = images }) ≡ extent.Wide
all_of images = ap (λ (b : Bool). if b then extent.Wide else extent.Part 0 images) (same_number images)

pub whole_answer : AreOne → (text : Recording) (files : List (List ℕ)) (s : Settings) (texts : List (List ℕ)) (images : ℕ) (bytes : List ℕ) (failing : Bool)
    → AreTextsOf text files s texts (record { from = 0; to = images }) images → IsJoined texts bytes failing → images ≤ limit → IsAnswer text files (meant extent.Whole s) bytes failing
whole_answer one text files s texts images bytes failing h joined few =
    let x : Range = record { from = 0; to = images } in
    let j = joins one text files s texts x images h (joined_some texts bytes failing joined) in
    let report = subst (λ (e : Extent). IsReportOfRun text files (meant e s) bytes failing) (all_of images) (joined_by text files s texts x images bytes failing j joined) in
    record {
      asked = asked_meant (extent.Part j.first.from j.first.to) extent.Whole s refl j.given.asked;
      report = whole_of_wide text files s bytes failing images one h.count few report;
    }

part_answer : AreOne → (text : Recording) (files : List (List ℕ)) (s : Settings) (texts : List (List ℕ)) (x : Range) (images : ℕ) (bytes : List ℕ) (failing : Bool)
    → AreTextsOf text files s texts x images → IsJoined texts bytes failing → extent_of images x ≡ extent.Part x.from x.to → x.to - x.from ≤ limit → IsAnswer text files (part_of s x) bytes failing
part_answer one text files s texts x images bytes failing h joined is few =
    let j = joins one text files s texts x images h (joined_some texts bytes failing joined) in
    record {
      asked = asked_meant (extent.Part j.first.from j.first.to) (extent.Part x.from x.to) s (part_asked x images j.some h.cover.up h.within few) j.given.asked;
      report = subst (λ (e : Extent). IsReportOfRun text files (meant e s) bytes failing) is (joined_by text files s texts x images bytes failing j joined);
    }

pub joined_parts_are_run : AreOne → JoinedPartsAreRun
joined_parts_are_run one = record {
  joined = λ text files s texts x images bytes failing h joined. joined_by text files s texts x images bytes failing (joins one text files s texts x images h (joined_some texts bytes failing joined)) joined;
  whole = λ text files s texts images bytes failing h joined few. whole_answer one text files s texts images bytes failing h joined few;
  part = λ text files s texts x images bytes failing h joined is few. part_answer one text files s texts x images bytes failing h joined is few;
}

-- texts of parts are joined

none_apart : (left right : PartRead) → IsFirstApart [] left right → ⊥
none_apart left right apart =
    let long = texts_long 0 [] apart.reads apart.each in
    let same = length_permutation apart.reads apart.row apart.order in
    let parted = ap (λ (rs : List PartRead). length rs) apart.parted in
    let two = length-append apart.front (left ∷ right ∷ apart.back) in
    omega (arith, long, same, parted, two)

none_short : (file : ℕ) → IsShortOfRun [] file → ⊥
none_short file short =
    let long = texts_long 0 [] short.reads short.each in
    let same = length_permutation short.reads (short.first ∷ short.others) short.order in
    omega (arith, long, same)

none_refused : (part : Bool) (fault : JoinFault) → RefusesJoin part [] fault → (fault.cause ≡ cause.TooLong) ⊎ (fault.cause ≡ cause.Memory)
none_refused part _ (too_long file long) = inl refl
none_refused part _ (no_part file other) = absurd (let bad : None ≡ Some other.text = other.there in cc)
none_refused part _ (of_other_run file strange) =
    let long = texts_long 0 [] strange.reads strange.each in
    let there = slice_get_within strange.reads 0 strange.run strange.run_there in
    absurd (omega (arith, long, there))
none_refused part _ (with_gap left right apart gap) = absurd (none_apart left right apart)
none_refused part _ (with_overlap left right apart over) = absurd (none_apart left right apart)
none_refused part _ (short_of_run file all short) = absurd (none_short file short)
none_refused part _ no_memory = inr refl

pub parts_of_run_are_joined : AreOne → PartsOfRunAreJoined
parts_of_run_are_joined one part text files s texts x images fault h whole refused = by_texts texts h refused
  where
    by_texts : (ts : List (List ℕ)) → AreTextsOf text files s ts x images → RefusesJoin part ts fault → (fault.cause ≡ cause.TooLong) ⊎ (fault.cause ≡ cause.Memory)
    by_texts [] are refused = none_refused part fault refused
    by_texts (t ∷ ts) are refused =
        let j = joins one text files s (t ∷ ts) x images are (omega arith) in
        let inputs : ℕ = inputs_number text.text files in
        let all : part ≡ false → (x.from ≡ 0) × (x.to ≡ (run_of s j.value j.checkers inputs).head.images) = λ some. ((whole some).0, (whole some).1 ∙ j.count ∙ sym (run_images s j.value j.checkers inputs)) in
        parts_are_joined part (run_of s j.value j.checkers inputs) j.ranges x.from x.to fault j.parts all (subst (λ (us : List (List ℕ)). RefusesJoin part us fault) j.are refused)
