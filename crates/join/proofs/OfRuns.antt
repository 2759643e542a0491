-- Parts of a run that have each image once, joined.
use Rattle.std.proofs.Common.{ℕ, zero, suc, ◌≡◌, ◌+◌, ◌-◌, ◌<◌, ◌≤◌, ◌==◌, ◌&&◌, ◌⊎◌, nat_le, nat_lt, Bool, true, false, if◌then◌else◌, inl, inr, List, [], ◌∷◌, ◌++◌, length, get_or, filter, append-nil, append_assoc, codes, All, Some, None, slice_get, refl, sym, ◌∙◌, ap, subst, arith}
use Rattle.std.specs.List.{range_with_len, sum_by}
use Rattle.std.specs.List.Sorted.{IsPermutation, IsNonDecreasingBy}
use Rattle.std.proofs.lemmas.Bool.Decides.{nat_tests}
use Rattle.std.proofs.lemmas.Bool.{cases_lt}
use Rattle.std.proofs.lemmas.Grind.{flat_map-append}
use Rattle.std.proofs.lemmas.List.Elements.{filter-append}
use Rattle.std.proofs.lemmas.List.Sums.{sum_by-cons, sum_by-append}
use Rattle.std.proofs.lemmas.List.Sorted.{All-permutation, sum_by-IsPermutation, IsNonDecreasingBy-drop}
use Rattle.std.proofs.Math.Seq.{drop-append_seam}
use Rattle.base.proofs.Lists.{range_with_len-append}
use Rattle.report.specs.Line.{FailingLine, first_lines}
use Rattle.report.specs.Marks.{mark_of, marks_of}
use Rattle.report.specs.Images.{failing_images, leading_of}
use Rattle.report.proofs.Order.{first_are_leading}
use Rattle.report.specs.Report.{options_text, shown_lines, findings_text, report_bytes, options_line, program_lines}
use Rattle.report.specs.declared.span.Span.{Span}
use Rattle.base.specs.declared.causes.JoinCause.TheVariants as cause
use Rattle.join.specs.declared.fault.JoinFault.{JoinFault}
use Rattle.join.specs.Order.{in_order}
use Rattle.report.specs.Part.{span_text}
use Rattle.join.specs.Text.{PartValue, IsSpan, RunValue, span_of, part_bytes, lines_between}
use Rattle.join.specs.Printable.{ArePrintable}
use Rattle.join.specs.Reading.{PartRead, IsPartText}
use Rattle.join.specs.Joining.{ArePartTexts, IsOfRun, AreOfRun, AreInRow, RefusesJoin, too_long, no_part, of_other_run, with_gap, with_overlap, short_of_run, no_memory, IsShortOfRun, IsFirstOther, IsFirstStrange, IsFirstApart, joined_text, opening_text}
use Rattle.join.specs.Laws.{IsRun, Range, has, texts_of, AreRanges, ArePartsOf, run_bytes, JoinIsRun, PartsAreJoined}
use Rattle.join.proofs.Counts.{next_is, rising}
use Rattle.join.proofs.Order.{first-append, none_of, are_from}
use Rattle.join.proofs.Rows.{IsTold, Any, AreLinesBy, made_lines, any_lines, row_lines, row_text}
use Rattle.join.proofs.Runs.{part_value, between_printable, lines_order, shown_are, is_part, part_is, one_part}

-- a part that was read is the one of its images of that run
abbrev OfRun : RunValue → PartValue → PartRead → Type 0
OfRun r p rd = (p ≡ part_value r rd.span.from rd.span.to) × IsSpan (span_of r rd.span.from rd.span.to)

-- what is read of the text of a part of a run
told_one : (r : RunValue) (run : IsRun r) (x : Range) (rd : PartRead) → IsSpan (span_of r x.from x.to) → IsPartText (part_bytes r x.from x.to) rd → (rd.span ≡ span_of r x.from x.to) × IsTold (OfRun r) rd
told_one r run x rd span read =
    let own = is_part r run x.from x.to span in
    let told = one_part read.part (part_value r x.from x.to) read.is own (sym read.text ∙ part_is r run x.from x.to span) rd read.told in
    let stands : rd.span ≡ span_of r x.from x.to = told.span in (
      stands,
      record {
        part = part_value r x.from x.to;
        is = own;
        told = told;
        also = rw stands (refl, span);
      },
    )

told_all : (r : RunValue) (run : IsRun r) (n : ℕ) (ranges : List Range) (reads : List PartRead) → AreRanges r ranges → ArePartTexts n (texts_of r ranges) reads → All (IsTold (OfRun r)) reads
told_all r run n [] [] spans each = λ k d small. absurd (omega (arith, small))
told_all r run n [] (rd ∷ reads) spans each = absurd each
told_all r run n (x ∷ ranges) [] spans each = absurd each
told_all r run n (x ∷ ranges) (rd ∷ reads) spans each = all (told_all r run (n + 1) ranges reads (λ i e l. spans (suc i) e (omega (arith, l))) each.2)
  where
    all : All (IsTold (OfRun r)) reads → (k : ℕ) (d : PartRead) → k < length (rd ∷ reads) → IsTold (OfRun r) (get_or (rd ∷ reads) k d)
    all rest zero d small = (told_one r run x rd (spans 0 x (omega arith)) each.0).1
    all rest (suc k) d small = rest k d (omega (arith, small))

-- how often a range has an image
abbrev held : ℕ → ℕ → ℕ → ℕ
held a b image = if nat_le a image && nat_lt image b then 1 else 0

-- whether a part that was read has an image
abbrev read_has : ℕ → PartRead → ℕ
read_has image rd = held rd.span.from rd.span.to image

abbrev times : ℕ → List PartRead → ℕ
times image rs = sum_by (read_has image) rs

same_times : (r : RunValue) (run : IsRun r) (n : ℕ) (ranges : List Range) (reads : List PartRead) (image : ℕ) → AreRanges r ranges → ArePartTexts n (texts_of r ranges) reads
    → times image reads ≡ sum_by (λ (x : Range). if has image x then 1 else 0) ranges
same_times r run n [] [] image spans each = refl
same_times r run n [] (rd ∷ reads) image spans each = absurd each
same_times r run n (x ∷ ranges) [] image spans each = absurd each
same_times r run n (x ∷ ranges) (rd ∷ reads) image spans each =
    let stands : rd.span ≡ span_of r x.from x.to = (told_one r run x rd (spans 0 x (omega arith)) each.0).0 in
    let own : read_has image rd ≡ (if has image x then 1 else 0) = rw stands refl in
    let rest = same_times r run (n + 1) ranges reads image (λ i e l. spans (suc i) e (omega (arith, l))) each.2 in
    let left = sum_by-cons (read_has image) rd reads in
    let right = sum_by-cons (λ (y : Range). if has image y then 1 else 0) x ranges in
    omega (arith, own, rest, left, right)

-- an image within a range, or not
inside : (a b image : ℕ) → a ≤ image → image < b → held a b image ≡ 1
inside a b image low high =
    let one : nat_le a image ≡ true = grind (arith, nat_tests, low) in
    let two : nat_lt image b ≡ true = grind (arith, nat_tests, high) in
    rw (one, two) refl

before : (a b image : ℕ) → image < a → held a b image ≡ 0
before a b image low = let one : nat_le a image ≡ false = grind (arith, nat_tests, low) in rw one refl

beyond : (a b image : ℕ) → b ≤ image → held a b image ≡ 0
beyond a b image high =
    let two : nat_lt image b ≡ false = grind (arith, nat_tests, high) in
    elim (nat_le a image) as (λ v. ◌≡◌ {A = ℕ} (if v && nat_lt image b then 1 else 0) 0) [ true ↦ rw two refl | false ↦ refl ]

within : (a b image : ℕ) → held a b image ≡ 1 → (a ≤ image) × (image < b)
within a b image one = elim (cases_lt image a) [
  | inl low ↦ absurd (let none = before a b image low in omega (arith, none, one))
  | inr up ↦ elim (cases_lt image b) [
    | inl lt ↦ (up, lt)
    | inr high ↦ absurd (let none = beyond a b image high in omega (arith, none, one))
  ]
]

-- two ranges with the same images
abbrev Alike : ℕ → ℕ → ℕ → ℕ → Type 0
Alike a b c d = (image : ℕ) → held a b image ≡ held c d image

same_range : (a b c d : ℕ) → a < b → c ≤ d → Alike a b c d → (a ≡ c) × (b ≡ d)
same_range a b c d some up same =
    let first = within c d a (sym (same a) ∙ inside a b a (omega arith) some) in
    let low = first.0 in
    let high = first.1 in
    let back = within a b c (same c ∙ inside c d c (omega arith) (omega (arith, low, high))) in
    let below = back.0 in
    let last = within c d (b - 1) (sym (same (b - 1)) ∙ inside a b (b - 1) (omega (arith, some)) (omega (arith, some))) in
    let end = last.1 in
    let more = within a b (d - 1) (same (d - 1) ∙ inside c d (d - 1) (omega (arith, low, high)) (omega (arith, low, high))) in
    let past = more.1 in
    (omega (arith, low, below), omega (arith, end, past, some, low, high))

-- a range in two
two_ranges : (a m b image : ℕ) → a ≤ m → m ≤ b
    → held a m image + held m b image ≡ held a b image
two_ranges a m b image le up = elim (cases_lt image a) [
  | inl low ↦ let x = before a m image low in let y = before m b image (omega (arith, low, le)) in let z = before a b image low in omega (arith, x, y, z)
  | inr from ↦ elim (cases_lt image m) [
    | inl lt ↦ let x = inside a m image from lt in let y = before m b image lt in let z = inside a b image from (omega (arith, lt, up)) in omega (arith, x, y, z)
    | inr past ↦ elim (cases_lt image b) [
      | inl lt ↦ let x = beyond a m image past in let y = inside m b image past lt in let z = inside a b image from lt in omega (arith, x, y, z)
      | inr end ↦ let x = beyond a m image past in let y = beyond m b image end in let z = beyond a b image end in omega (arith, x, y, z)
    ]
  ]
]

-- each part in a row is of some images, or of none of a run without any
abbrev AreSpans : List PartRead → Type 0
AreSpans rs = All (λ (rd : PartRead). IsSpan rd.span) rs

spans_of : (r : RunValue) (rs : List PartRead) → All (IsTold (OfRun r)) rs → AreSpans rs
spans_of r rs told = λ k d small. let one = told k d small in rw one.told.span one.is.span

row_up : (rs : List PartRead) (from to : ℕ) → AreSpans rs → AreInRow from rs to → from ≤ to
row_up [] from to spans row = omega (arith, row)
row_up (rd ∷ rs) from to spans row =
    let own = (spans 0 rd (omega arith)).rising in
    let rest = row_up rs rd.span.to to (λ k d small. spans (suc k) d (omega (arith, small))) row.1 in
    let begins = row.0 in
    omega (arith, own, rest, begins)

row_times : (rs : List PartRead) (from to image : ℕ) → AreSpans rs → AreInRow from rs to → times image rs ≡ held from to image
row_times [] from to image spans row = elim (cases_lt image from) [
  | inl low ↦ let none = before from to image low in sym none
  | inr past ↦ let none = beyond from to image (omega (arith, past, row)) in sym none
]
row_times (rd ∷ rs) from to image spans row =
    let tail = λ (k : ℕ) (d : PartRead) (small : k < length rs). spans (suc k) d (omega (arith, small)) in
    let own = (spans 0 rd (omega arith)).rising in
    let up = row_up rs rd.span.to to tail row.1 in
    let rest = row_times rs rd.span.to to image tail row.1 in
    let sum = sum_by-cons (read_has image) rd rs in
    let begins = row.0 in
    let two = two_ranges rd.span.from rd.span.to to image own up in
    let all : times image (rd ∷ rs) ≡ held rd.span.from to image = omega (arith, sum, rest, two) in
    all ∙ ap (λ (a : ℕ). held a to image) begins

-- the lines of some images are those of the first ones, and then those of the others
between_both : (r : RunValue) (a m b : ℕ) → a ≤ m → m ≤ b → lines_between r a b ≡ lines_between r a m ++ lines_between r m b
between_both r a m b le up =
    let n : b - a ≡ (m - a) + (b - m) = omega (arith, le, up) in
    let at : a + (m - a) ≡ m = omega (arith, le) in
    let both = range_with_len-append a (m - a) (b - m) in
    rw (n, both, at) (flat_map-append r.image_lines (range_with_len a (m - a)) (range_with_len m (b - m)))

none_between : (r : RunValue) (a b : ℕ) → a ≡ b → lines_between r a b ≡ []
none_between r a b e = let n : b - a ≡ 0 = omega (arith, e) in rw n refl

-- the lines of parts of a run in a row are those of the run, or have the same first ones
run_all : (r : RunValue) (rs : List PartRead) (ls : List FailingLine) (from to : ℕ) → r.head.first ≡ false → AreSpans rs → AreLinesBy (OfRun r) rs ls → AreInRow from rs to → ls ≡ lines_between r from to
run_all r [] ls from to all spans are row = are ∙ sym (none_between r from to row)
run_all r (rd ∷ rs) ls from to all spans (p, more, is, told, also, e, rest) row =
    let tail = λ (k : ℕ) (d : PartRead) (small : k < length rs). spans (suc k) d (omega (arith, small)) in
    let own = (spans 0 rd (omega arith)).rising in
    let up = row_up rs rd.span.to to tail row.1 in
    let later = run_all r rs more rd.span.to to all tail rest row.1 in
    let value : p ≡ part_value r rd.span.from rd.span.to = also.0 in
    let begins : rd.span.from ≡ from = row.0 in
    let lines : p.lines ≡ lines_between r rd.span.from rd.span.to = ap (λ (q : PartValue). q.lines) value ∙ ap (λ (f : Bool). shown_lines f (lines_between r rd.span.from rd.span.to)) all in
    let whole : ls ≡ lines_between r rd.span.from to = e ∙ rw (lines, later) (sym (between_both r rd.span.from rd.span.to to own up)) in
    rw begins at whole

-- the first lines of what is shown of some and of others after them
first_both : (a m b : ℕ) (ls ks more : List FailingLine) → in_order a m None (marks_of ls) ≡ true → ArePrintable ls → in_order m b None (marks_of ks) ≡ true → in_order m b None (marks_of more) ≡ true
    → first_lines more ≡ first_lines ks → first_lines (first_lines ls ++ more) ≡ first_lines (ls ++ ks)
first_both a m b [] ks more e own f g same = same
first_both a m b (l ∷ ls) ks more e own f g same =
    let lead : first_lines (l ∷ ls) ≡ l ∷ leading_of l.image ls = first_are_leading (l ∷ ls) (rising a m None (l ∷ ls) e) in
    let shown = shown_are a m true (l ∷ ls) e own in
    let order : in_order a m None (marks_of (l ∷ leading_of l.image ls)) ≡ true = rw lead at shown.order in
    let one : failing_images (l ∷ leading_of l.image ls) ≤ 1 = rw lead at (shown.one refl) in
    let next = next_is a m None (mark_of l) (marks_of ls) e in
    let left : first_lines ((l ∷ leading_of l.image ls) ++ more) ≡ l ∷ leading_of l.image ls = first-append a m b l (leading_of l.image ls) more order g one in
    let right : first_lines ((l ∷ ls) ++ ks) ≡ l ∷ leading_of l.image ls =
    filter-append (λ (x : FailingLine). x.image == l.image) (l ∷ ls) ks
    ∙ ap (λ (xs : List FailingLine). filter (λ (x : FailingLine). x.image == l.image) (l ∷ ls) ++ xs) (none_of l.image m ks next.high (are_from m b None ks f))
    ∙ append-nil (first_lines (l ∷ ls)) ∙ lead in
    rw lead (left ∙ sym right)

run_first : (r : RunValue) (run : IsRun r) (rs : List PartRead) (ls : List FailingLine) (from to : ℕ) → r.head.first ≡ true → AreSpans rs → AreLinesBy (OfRun r) rs ls → AreInRow from rs to
    → first_lines ls ≡ first_lines (lines_between r from to)
run_first r run [] ls from to one spans are row = let none = none_between r from to row in rw (are, none) refl
run_first r run (rd ∷ rs) ls from to one spans (p, more, is, told, also, e, rest) row =
    let tail = λ (k : ℕ) (d : PartRead) (small : k < length rs). spans (suc k) d (omega (arith, small)) in
    let own = (spans 0 rd (omega arith)).rising in
    let up = row_up rs rd.span.to to tail row.1 in
    let later = run_first r run rs more rd.span.to to one tail rest row.1 in
    let order = (row_lines (OfRun r) rs more rd.span.to to rest row.1).order in
    let value : p ≡ part_value r rd.span.from rd.span.to = also.0 in
    let begins : rd.span.from ≡ from = row.0 in
    let lines : p.lines ≡ first_lines (lines_between r rd.span.from rd.span.to) = ap (λ (q : PartValue). q.lines) value ∙ ap (λ (f : Bool). shown_lines f (lines_between r rd.span.from rd.span.to)) one in
    let both = first_both rd.span.from rd.span.to to (lines_between r rd.span.from rd.span.to) (lines_between r rd.span.to to) more (lines_order r run rd.span.from rd.span.to own)
    (between_printable r run rd.span.from rd.span.to) (lines_order r run rd.span.to to up) order later in
    let whole : first_lines ls ≡ first_lines (lines_between r rd.span.from to) =
    ap first_lines (e ∙ ap (λ (xs : List FailingLine). xs ++ more) lines) ∙ both ∙ ap first_lines (sym (between_both r rd.span.from rd.span.to to own up)) in
    rw begins at whole

-- so the same is found of them
run_findings : (r : RunValue) (run : IsRun r) (rs : List PartRead) (ls : List FailingLine) (from to images : ℕ) → AreSpans rs → AreLinesBy (OfRun r) rs ls → AreInRow from rs to
    → findings_text r.head.first images ls ≡ findings_text r.head.first images (lines_between r from to)
run_findings r run rs ls from to images spans are row = by_first r.head.first refl
  where
    by_first : (first : Bool) → r.head.first ≡ first → findings_text first images ls ≡ findings_text first images (lines_between r from to)
    by_first false all = let same = run_all r rs ls from to all spans are row in rw same refl
    by_first true one = let same = run_first r run rs ls from to one spans are row in rw same refl

regrouped : (title options programs found : List ℕ) → title ++ ((options ++ programs) ++ found) ≡ title ++ options ++ programs ++ found
regrouped title options programs found = simp append_assoc

-- the text of the images of a run, by its head
text_is : (r : RunValue) (from to : ℕ) → opening_text (span_of r from to) ++ (options_text r.head ++ findings_text r.head.first (to - from) (lines_between r from to)) ≡ run_bytes r from to
unfolding run_bytes part_bytes report_bytes
text_is r from to = by_all (from == 0 && to == r.head.images) refl
  where
    all_is : (from == 0 && to == r.head.images) ≡ true → to - from ≡ r.head.images
    all_is e = by_zero (from == 0) (to == r.head.images) refl refl e
      where
        by_zero : (a b : Bool) → (from == 0) ≡ a → (to == r.head.images) ≡ b → (a && b) ≡ true → to - from ≡ r.head.images
        by_zero true true begin end f = let one : from ≡ 0 = grind (arith, nat_tests, begin) in let two : to ≡ r.head.images = grind (arith, nat_tests, end) in omega (arith, one, two)
        by_zero true false begin end f = absurd (let lack : false ≡ true = f in cc)
        by_zero false b begin end f = absurd (let lack : false ≡ true = f in cc)

    by_all : (t : Bool) → (from == 0 && to == r.head.images) ≡ t
        → (if t then codes "crash report 2\n" else span_text (span_of r from to)) ++ (options_text r.head ++ findings_text r.head.first (to - from) (lines_between r from to))
        ≡ (if t then codes "crash report 2\n" ++ options_line r.head ++ program_lines 0 r.head.programs ++ findings_text r.head.first r.head.images (lines_between r from to)
        else span_text (span_of r from to) ++ (options_text r.head ++ findings_text r.head.first (to - from) (lines_between r from to)))
    by_all true is =
        ap (λ (n : ℕ). codes "crash report 2\n" ++ (options_text r.head ++ findings_text r.head.first n (lines_between r from to))) (all_is is)
        ∙ regrouped (codes "crash report 2\n") (options_line r.head) (program_lines 0 r.head.programs) (findings_text r.head.first r.head.images (lines_between r from to))
    by_all false is = refl

-- a run that a part that was read is of
run_of : (r : RunValue) (run rd : PartRead) → IsOfRun run rd → IsTold (OfRun r) rd → (run.head ≡ options_text r.head) × (run.first ≡ r.head.first) × (run.span.images ≡ r.head.images) × (run.span.inputs ≡ r.inputs)
run_of r run rd of told =
    let value : told.part ≡ part_value r rd.span.from rd.span.to = told.also.0 in
    let span = told.told.span ∙ ap (λ (q : PartValue). q.span) value in (
      sym of.head ∙ told.told.head ∙ ap (λ (q : PartValue). q.head) value,
      sym of.first ∙ told.told.first ∙ ap (λ (q : PartValue). q.first) value,
      sym of.images ∙ ap (λ (s : Span). s.images) span,
      sym of.inputs ∙ ap (λ (s : Span). s.inputs) span,
    )

-- the row has the images that the ranges have
ends_are : (r : RunValue) (ranges : List Range) (from to : ℕ) (parts : ArePartsOf r ranges from to) (rs row : List PartRead) (first last : ℕ) → ArePartTexts 0 (texts_of r ranges) rs → IsPermutation rs row
    → 0 < length row → All (IsTold (OfRun r)) row → AreInRow first row last → (first ≡ from) × (last ≡ to)
ends_are r ranges from to parts rs row first last each order some told in_row = by_some (cases_lt first last)
  where
    spans : AreSpans row
    spans = spans_of r row told

    up : first ≤ last
    up = row_up row first last spans in_row

    same : Alike first last from to
    same = λ image.
        let own = row_times row first last image spans in_row in
        let moved : times image row ≡ times image rs = sum_by-IsPermutation (read_has image) rs row order in
        let counted = same_times r parts.run 0 ranges rs image parts.ranges_are each in
        let once = parts.cover.once image in
        sym own ∙ moved ∙ counted ∙ once

    by_some : (first < last) ⊎ (last ≤ first) → (first ≡ from) × (last ≡ to)
    by_some (inl less) = same_range first last from to less parts.cover.up same
    by_some (inr none) = by_row row some told in_row spans
      where
        by_row : (rs : List PartRead) → 0 < length rs → All (IsTold (OfRun r)) rs → AreInRow first rs last → AreSpans rs → (first ≡ from) × (last ≡ to)
        by_row [] more said of_row are = absurd (omega (arith, more))
        by_row (rd ∷ rest) more said of_row are =
            let own = are 0 rd (omega arith) in
            let begins = of_row.0 in
            let end = row_up rest rd.span.to last (λ k d small. are (suc k) d (omega (arith, small))) of_row.1 in
            let rising = own.rising in
            let empty = own.some (omega (arith, begins, end, rising, none)) in
            let one = said 0 rd (omega arith) in
            let span = one.told.span ∙ ap (λ (q : PartValue). q.span) one.also.0 in
            let images = ap (λ (s : Span). s.images) span in
            let inner = own.within in
            let outer = parts.within in
            let cover = parts.cover.up in
            (omega (arith, empty, images, inner, outer, cover, begins, rising), omega (arith, empty, images, inner, outer, cover, begins, rising, end, none, up))

-- the text of lines of a run after one of its heads
joined_is : (r : RunValue) (run : IsRun r) (rd : PartRead) (rs : List PartRead) (ls : List FailingLine) (a b : ℕ) → rd.head ≡ options_text r.head → rd.first ≡ r.head.first
    → rd.span.images ≡ r.head.images → rd.span.inputs ≡ r.inputs → AreSpans rs → AreLinesBy (OfRun r) rs ls → AreInRow a rs b → joined_text rd a b ls ≡ run_bytes r a b
unfolding joined_text
joined_is r run rd rs ls a b head first images inputs spans are row =
    let found = run_findings r run rs ls a b (b - a) spans are row in
    rw (head, first, images, inputs, found) (text_is r a b)

-- what parts of a run come to is the text of their images
pub join_is_run : JoinIsRun
join_is_run r ranges from to bytes failing parts joined =
    let told_reads = told_all r parts.run 0 ranges joined.reads parts.ranges_are joined.each in
    let told = All-permutation (IsTold (OfRun r)) joined.reads joined.row joined.order told_reads in
    let spans = spans_of r joined.row told in
    let ends = ends_are r ranges from to parts joined.reads joined.row joined.from joined.to joined.each joined.order joined.some told joined.in_row in
    let made = made_lines (OfRun r) joined.row told in
    let own_row = row_lines (OfRun r) joined.row made.0 joined.from joined.to made.1 joined.in_row in
    let said_row = row_lines Any joined.row joined.lines joined.from joined.to (any_lines joined.row joined.lines joined.of_parts) joined.in_row in
    let same : joined_text joined.run joined.from joined.to joined.lines ≡ joined_text joined.run joined.from joined.to made.0 =
    row_text joined.run joined.from joined.to joined.row joined.lines said_row joined.one ∙ sym (row_text joined.run joined.from joined.to joined.row made.0 own_row joined.one) in
    let by_run = run_is r parts.run joined.run joined.row made.0 joined.from joined.to joined.some joined.one told spans made.1 joined.in_row in
    let first = ends.0 in
    let last = ends.1 in
    joined.is ∙ same ∙ by_run ∙ ap (λ (a : ℕ). run_bytes r a joined.to) first ∙ ap (λ (b : ℕ). run_bytes r from b) last
  where
    by_head : (r : RunValue) (run : IsRun r) (rd : PartRead) (rs : List PartRead) (ls : List FailingLine) (a b : ℕ)
        → (rd.head ≡ options_text r.head) × (rd.first ≡ r.head.first) × (rd.span.images ≡ r.head.images) × (rd.span.inputs ≡ r.inputs)
        → AreSpans rs → AreLinesBy (OfRun r) rs ls → AreInRow a rs b → joined_text rd a b ls ≡ run_bytes r a b
    by_head r run rd rs ls a b (head, first, images, inputs) spans are row = joined_is r run rd rs ls a b head first images inputs spans are row

    run_is : (r : RunValue) (run : IsRun r) (rd : PartRead) (rs : List PartRead) (ls : List FailingLine) (a b : ℕ) → 0 < length rs → AreOfRun rd rs → All (IsTold (OfRun r)) rs → AreSpans rs
        → AreLinesBy (OfRun r) rs ls → AreInRow a rs b → joined_text rd a b ls ≡ run_bytes r a b
    run_is r run rd [] ls a b some of told spans are row = absurd (omega (arith, some))
    run_is r run rd (one ∷ rest) ls a b some of told spans are row =
        by_head r run rd (one ∷ rest) ls a b (run_of r rd one (of 0 one (omega arith)) (told 0 one (omega arith))) spans are row

-- a text of a part of a run is no other text
text_there : (r : RunValue) (ranges : List Range) (k : ℕ) (t : List ℕ) → AreRanges r ranges → slice_get (texts_of r ranges) k ≡ Some t → (x : Range) × IsSpan (span_of r x.from x.to) × (t ≡ part_bytes r x.from x.to)
text_there r [] k t spans there = absurd (let lack : None ≡ Some t = there in cc)
text_there r (x ∷ ranges) zero t spans there = (x, spans 0 x (omega arith), let same : Some (part_bytes r x.from x.to) ≡ Some t = there in cc)
text_there r (x ∷ ranges) (suc k) t spans there = text_there r ranges k t (λ i e l. spans (suc i) e (omega (arith, l))) there

not_other : (r : RunValue) (run : IsRun r) (ranges : List Range) (file : ℕ) → AreRanges r ranges → IsFirstOther (texts_of r ranges) file → ⊥
not_other r run ranges file spans h = by_range (text_there r ranges file h.text spans h.there)
  where
    by_range : (x : Range) × IsSpan (span_of r x.from x.to) × (h.text ≡ part_bytes r x.from x.to) → ⊥
    by_range (x, span, is) = h.other.none (part_value r x.from x.to) (is_part r run x.from x.to span) (is ∙ part_is r run x.from x.to span)

-- an element by its place
all_at : (P : PartRead → Type 0) (rs : List PartRead) (k : ℕ) (rd : PartRead) → All P rs → slice_get rs k ≡ Some rd → P rd
all_at P [] k rd all there = absurd (let lack : None ≡ Some rd = there in cc)
all_at P (x ∷ rs) zero rd all there = let same : Some x ≡ Some rd = there in let is : x ≡ rd = cc in subst P is (all 0 x (omega arith))
all_at P (x ∷ rs) (suc k) rd all there = all_at P rs k rd (λ i e l. all (suc i) e (omega (arith, l))) there

-- what is told of a part of a run
record ValueIs (r : RunValue) (rd : PartRead) : Type 0 where
  span : rd.span ≡ span_of r rd.span.from rd.span.to
  is : IsSpan (span_of r rd.span.from rd.span.to)
  head : rd.head ≡ options_text r.head
  first : rd.first ≡ r.head.first

value_is : (r : RunValue) (rd : PartRead) → IsTold (OfRun r) rd → ValueIs r rd
value_is r rd told =
    let value : told.part ≡ part_value r rd.span.from rd.span.to = told.also.0 in
    record {
      span = told.told.span ∙ ap (λ (q : PartValue). q.span) value;
      is = told.also.1;
      head = told.told.head ∙ ap (λ (q : PartValue). q.head) value;
      first = told.told.first ∙ ap (λ (q : PartValue). q.first) value;
    }

not_strange : (r : RunValue) (run : IsRun r) (ranges : List Range) (file : ℕ) → AreRanges r ranges → IsFirstStrange (texts_of r ranges) file → ⊥
not_strange r run ranges file spans h =
    let told = told_all r run 0 ranges h.reads spans h.each in
    let first = all_at (IsTold (OfRun r)) h.reads 0 h.run told h.run_there in
    let other = all_at (IsTold (OfRun r)) h.reads file h.read told h.there in
    let one = value_is r h.run first in
    let two = value_is r h.read other in
    h.strange (record {
      head = two.head ∙ sym one.head;
      first = two.first ∙ sym one.first;
      images = ap (λ (s : Span). s.images) two.span ∙ ap (λ (s : Span). s.images) (sym one.span);
      inputs = ap (λ (s : Span). s.inputs) two.span ∙ ap (λ (s : Span). s.inputs) (sym one.span);
    })

-- no part has an image before all of them
none_has : (image : ℕ) (rs : List PartRead) → ((k : ℕ) (d : PartRead) → k < length rs → image < (get_or rs k d).span.from) → times image rs ≡ 0
none_has image [] later = refl
none_has image (rd ∷ rs) later =
    let own = before rd.span.from rd.span.to image (later 0 rd (omega arith)) in
    let rest = none_has image rs (λ k d l. later (suc k) d (omega (arith, l))) in
    let sum = sum_by-cons (read_has image) rd rs in
    omega (arith, own, rest, sum)

times_parted : (image : ℕ) (front : List PartRead) (left right : PartRead) (back : List PartRead)
    → times image (front ++ left ∷ right ∷ back) ≡ times image front + (read_has image left + (read_has image right + times image back))
times_parted image front left right back =
    let all = sum_by-append (read_has image) front (left ∷ right ∷ back) in
    let one = sum_by-cons (read_has image) left (right ∷ back) in
    let two = sum_by-cons (read_has image) right back in
    omega (arith, all, one, two)

few : (b : Bool) → (if b then 1 else 0) ≤ 1
few true = omega arith
few false = omega arith

-- what is known of a row that breaks between two parts
record Breaks (r : RunValue) (from to : ℕ) (left right : PartRead) : Type 0 where
  front : List PartRead
  back : List PartRead
  counted : (image : ℕ) → times image front + (read_has image left + (read_has image right + times image back)) ≡ held from to image
  left_span : IsSpan left.span
  right_span : IsSpan right.span
  left_images : left.span.images ≡ r.head.images
  right_images : right.span.images ≡ r.head.images
  rising : left.span.from ≤ right.span.from
  later : (k : ℕ) (d : PartRead) → k < length (right ∷ back) → right.span.from ≤ (get_or (right ∷ back) k d).span.from
  start : ℕ
  row : AreInRow start (front ++ left ∷ []) left.span.to
  spans : AreSpans (front ++ left ∷ [])

all_front : (P : PartRead → Type 0) (front : List PartRead) (left right : PartRead) (back : List PartRead) → All P (front ++ left ∷ right ∷ back) → All P (front ++ left ∷ [])
all_front P [] left right back all = by_place
  where
    by_place : (k : ℕ) (d : PartRead) → k < length (left ∷ []) → P (get_or (left ∷ []) k d)
    by_place zero d l = all 0 d (omega arith)
    by_place (suc k) d l = absurd (omega (arith, l))
all_front P (x ∷ front) left right back all = by_place (all_front P front left right back (λ i e m. all (suc i) e (omega (arith, m))))
  where
    by_place : All P (front ++ left ∷ []) → (k : ℕ) (d : PartRead) → k < length (x ∷ (front ++ left ∷ [])) → P (get_or (x ∷ (front ++ left ∷ [])) k d)
    by_place rest zero d l = all 0 d (omega arith)
    by_place rest (suc k) d l = rest k d (omega (arith, l))

all_after : (P : PartRead → Type 0) (front back : List PartRead) → All P (front ++ back) → All P back
all_after P [] back all = all
all_after P (x ∷ front) back all = all_after P front back (λ k d l. all (suc k) d (omega (arith, l)))

breaks : (r : RunValue) (ranges : List Range) (from to : ℕ) (left right : PartRead) → ArePartsOf r ranges from to → IsFirstApart (texts_of r ranges) left right → Breaks r from to left right
breaks r ranges from to left right parts h =
    let told_reads = told_all r parts.run 0 ranges h.reads parts.ranges_are h.each in
    let told_row = All-permutation (IsTold (OfRun r)) h.reads h.row h.order told_reads in
    let told = subst (λ (rs : List PartRead). All (IsTold (OfRun r)) rs) h.parted told_row in
    let up = subst (λ (rs : List PartRead). IsNonDecreasingBy (λ (x : PartRead). x.span.from) rs) h.parted h.by_images.rising in
    let tail = IsNonDecreasingBy-drop (λ (x : PartRead). x.span.from) (length h.front) (h.front ++ left ∷ right ∷ h.back) up in
    let cut = drop-append_seam h.front (left ∷ right ∷ h.back) in
    let rising = subst (λ (rs : List PartRead). IsNonDecreasingBy (λ (x : PartRead). x.span.from) rs) cut tail in
    let told_tail = λ (k : ℕ) (d : PartRead) (l : k < length (left ∷ right ∷ h.back)). all_after (IsTold (OfRun r)) h.front (left ∷ right ∷ h.back) told k d l in
    let one = value_is r left (told_tail 0 left (omega arith)) in
    let two = value_is r right (told_tail 1 right (omega arith)) in
    record {
      front = h.front;
      back = h.back;
      counted = λ image.
          let parted = times_parted image h.front left right h.back in
          let whole = ap (λ (rs : List PartRead). times image rs) h.parted in
          let moved : times image h.row ≡ times image h.reads = sum_by-IsPermutation (read_has image) h.reads h.row h.order in
          let counted = same_times r parts.run 0 ranges h.reads image parts.ranges_are h.each in
          let once = parts.cover.once image in
          sym parted ∙ sym whole ∙ moved ∙ counted ∙ once;
      left_span = rw one.span one.is;
      right_span = rw two.span two.is;
      left_images = ap (λ (s : Span). s.images) one.span;
      right_images = ap (λ (s : Span). s.images) two.span;
      rising = rising 0 1 left (omega arith) (omega arith);
      later = λ k d l. rising 1 (suc k) d (omega arith) (omega (arith, l));
      start = h.from;
      row = h.before;
      spans = spans_of r (h.front ++ left ∷ []) (all_front (IsTold (OfRun r)) h.front left right h.back told);
    }

no_overlap : (r : RunValue) (from to : ℕ) (left right : PartRead) → Breaks r from to left right → right.span.from < left.span.to → ⊥
no_overlap r from to left right h over =
    let images = h.left_images in
    let own_images = h.right_images in
    let left_within = h.left_span.within in
    let up = h.right_span.rising in
    let some : right.span.from < right.span.to =
    elim (cases_lt right.span.from right.span.to) [ inl less ↦ less | inr none ↦ absurd (let empty = h.right_span.some (omega (arith, up, none)) in omega (arith, empty, own_images, images, left_within, over)) ] in
    let one = inside left.span.from left.span.to right.span.from h.rising over in
    let two = inside right.span.from right.span.to right.span.from (omega arith) some in
    let all = h.counted right.span.from in
    let most = few (nat_le from right.span.from && nat_lt right.span.from to) in
    omega (arith, one, two, all, most)

no_gap : (r : RunValue) (from to : ℕ) (left right : PartRead) → Breaks r from to left right → left.span.to < right.span.from → ⊥
no_gap r from to left right h gap =
    let images = h.left_images in
    let own_images = h.right_images in
    let left_up = h.left_span.rising in
    let right_up = h.right_span.rising in
    let right_within = h.right_span.within in
    let left_some : left.span.from < left.span.to =
    elim (cases_lt left.span.from left.span.to) [ inl less ↦ less | inr none ↦ absurd (let empty = h.left_span.some (omega (arith, left_up, none)) in omega (arith, empty, own_images, images, right_within, right_up, gap)) ] in
    let right_some : right.span.from < right.span.to =
    elim (cases_lt right.span.from right.span.to) [ inl less ↦ less | inr none ↦ absurd (let empty = h.right_span.some (omega (arith, right_up, none)) in omega (arith, empty, right_within, right_up, gap)) ] in
    let left_in = inside left.span.from left.span.to left.span.from (omega arith) left_some in
    let left_all = h.counted left.span.from in
    let left_most = few (nat_le from left.span.from && nat_lt left.span.from to) in
    let first = within from to left.span.from (omega (arith, left_in, left_all, left_most)) in
    let right_in = inside right.span.from right.span.to right.span.from (omega arith) right_some in
    let right_all = h.counted right.span.from in
    let right_most = few (nat_le from right.span.from && nat_lt right.span.from to) in
    let last = within from to right.span.from (omega (arith, right_in, right_all, right_most)) in
    let low = first.0 in
    let high = last.1 in
    let has_it = inside from to left.span.to (omega (arith, low, left_some)) (omega (arith, high, gap)) in
    let all = h.counted left.span.to in
    let split = sum_by-append (read_has left.span.to) h.front (left ∷ []) in
    let alone = sum_by-cons (read_has left.span.to) left [] in
    let before_it = row_times (h.front ++ left ∷ []) h.start left.span.to left.span.to h.spans h.row in
    let past = beyond h.start left.span.to left.span.to (omega arith) in
    let after_it = none_has left.span.to (right ∷ h.back) (λ k d l. let later = h.later k d l in omega (arith, later, gap)) in
    let back_split = sum_by-cons (read_has left.span.to) right h.back in
    omega (arith, has_it, all, split, alone, before_it, past, after_it, back_split)

-- all parts of a run lack none of its images
not_short : (r : RunValue) (ranges : List Range) (from to file : ℕ) → ArePartsOf r ranges from to → from ≡ 0 → to ≡ r.head.images → IsShortOfRun (texts_of r ranges) file → ⊥
not_short r ranges from to file parts start end h =
    let told_reads = told_all r parts.run 0 ranges h.reads parts.ranges_are h.each in
    let told = All-permutation (IsTold (OfRun r)) h.reads (h.first ∷ h.others) h.order told_reads in
    let ends = ends_are r ranges from to parts h.reads (h.first ∷ h.others) h.first.span.from h.to h.each h.order (omega arith) told h.in_row in
    let first = ends.0 in
    let last = ends.1 in
    let value = value_is r h.first (told 0 h.first (omega arith)) in
    let images = ap (λ (s : Span). s.images) value.span in
    elim h.lacking [
      | inl (late, file_is) ↦ omega (arith, late, first, start)
      | inr (begins, early, file_is) ↦ early (last ∙ end ∙ sym images)
    ]

of_refusal : (part : Bool) (r : RunValue) (ranges : List Range) (from to : ℕ) (fault : JoinFault) → ArePartsOf r ranges from to → (part ≡ false → (from ≡ 0) × (to ≡ r.head.images))
    → RefusesJoin part (texts_of r ranges) fault → (fault.cause ≡ cause.TooLong) ⊎ (fault.cause ≡ cause.Memory)
of_refusal part r ranges from to _ parts whole (too_long file long) = inl refl
of_refusal part r ranges from to _ parts whole (no_part file other) = absurd (not_other r parts.run ranges file parts.ranges_are other)
of_refusal part r ranges from to _ parts whole (of_other_run file strange) = absurd (not_strange r parts.run ranges file parts.ranges_are strange)
of_refusal part r ranges from to _ parts whole (with_gap left right apart gap) = absurd (no_gap r from to left right (breaks r ranges from to left right parts apart) gap)
of_refusal part r ranges from to _ parts whole (with_overlap left right apart over) = absurd (no_overlap r from to left right (breaks r ranges from to left right parts apart) over)
of_refusal part r ranges from to _ parts whole (short_of_run file all short) = absurd (let ends = whole all in not_short r ranges from to file parts ends.0 ends.1 short)
of_refusal part r ranges from to _ parts whole no_memory = inr refl

pub parts_are_joined : PartsAreJoined
parts_are_joined part r ranges from to fault parts whole refused = of_refusal part r ranges from to fault parts whole refused
