-- A part has no more lines than bytes.
use Rattle.std.proofs.Common.{ℕ, zero, suc, ◌≡◌, ◌+◌, ◌<◌, ◌≤◌, List, [], ◌∷◌, ◌++◌, length, length-append, get_or, All, codes, None, refl, ◌∙◌, ap, arith}
use Rattle.std.specs.Fmt.{decimal}
use Rattle.std.specs.List.{flat_map}
use Rattle.report.specs.Line.{FailingLine}
use Rattle.report.specs.LineText.{line_text}
use Rattle.report.proofs.Order.{changes_are_images}
use Rattle.report.proofs.Changes.{few_changes}
use Rattle.join.specs.declared.tally.Tally.{Tally}
use Rattle.join.specs.Printable.{end_text}
use Rattle.report.specs.Part.{span_text}
use Rattle.join.specs.Text.{PartValue, IsPart, part_text}
use Rattle.join.specs.Reading.{PartRead, IsPartText}
use Rattle.join.specs.Joining.{ArePartTexts}
use Rattle.join.proofs.Counts.{counted_lines, counted_images, rising}
use Rattle.join.proofs.LinesRead.{line_begins}
use Rattle.join.proofs.Parts.{pieces, last_of}

some_byte : (l : FailingLine) → 0 < length (line_text l)
some_byte l =
    let is = ap length (line_begins l []) in
    let nil : List ℕ = [] in
    let whole = length-append (line_text l) nil in
    let a = length-append (codes "image ") (decimal l.image ++ (codes " cut " ++ (decimal l.cut ++ (codes " program " ++ (decimal l.program ++ (codes " " ++ (end_text l.ending l.by l.departures ++ (10 ∷ [])))))))) in
    let six : length (codes "image ") ≡ 6 = refl in
    omega (arith, is, whole, a, six)

line_long : (l : FailingLine) (more : List ℕ) → length more < length (line_text l ++ more)
line_long l more =
    let all = length-append (line_text l) more in
    let some = some_byte l in
    omega (arith, all, some)

lines_long : (ls : List FailingLine) → length ls ≤ length (flat_map line_text ls)
lines_long [] = omega arith
lines_long (l ∷ ls) =
    let rest = lines_long ls in
    let own = line_long l (flat_map line_text ls) in
    omega (arith, rest, own)

text_long : (p : PartValue) → IsPart p → length (flat_map line_text p.lines) ≤ length (part_text p)
text_long p is =
    let whole = ap length (pieces p is) in
    let a = length-append (span_text p.span) (p.head ++ (flat_map line_text p.lines ++ last_of p)) in
    let b = length-append p.head (flat_map line_text p.lines ++ last_of p) in
    let d = length-append (flat_map line_text p.lines) (last_of p) in
    omega (arith, whole, a, b, d)

-- what is counted of a part is no more than its bytes
pub counts_are_few : (bytes : List ℕ) (r : PartRead) (most : ℕ) → IsPartText bytes r → length bytes ≤ most → (r.tally.lines ≤ most) × (r.tally.images ≤ most)
counts_are_few bytes r most read few =
    let p = read.part in
    let long = text_long p read.is in
    let lines = lines_long p.lines in
    let text = ap length read.text in
    let own_lines = ap (λ (u : Tally). u.lines) read.told.tally ∙ counted_lines p.span p.lines in
    let own_images = ap (λ (u : Tally). u.images) read.told.tally ∙ counted_images p.span p.lines read.is.ordered in
    let changes = changes_are_images p.lines (rising p.span.from p.span.to None p.lines read.is.ordered) in
    let count = few_changes None p.lines in
    (omega (arith, long, lines, text, own_lines, few), omega (arith, long, lines, text, own_images, changes, count, few))

pub lines_are_few : (n : ℕ) (ts : List (List ℕ)) (rs : List PartRead) (most : ℕ) → ArePartTexts n ts rs → All (λ t. length t ≤ most) ts → All (λ r. r.tally.lines ≤ most) rs
lines_are_few n [] [] most all few = λ k d small. absurd (omega (arith, small))
lines_are_few n [] (s ∷ rs) most all few = absurd all
lines_are_few n (u ∷ ts) [] most all few = absurd all
lines_are_few n (u ∷ ts) (s ∷ rs) most all few = each (counts_are_few u s most all.0 (few 0 u (omega arith))).0 (lines_are_few (n + 1) ts rs most all.2 (λ i e l. few (suc i) e (omega (arith, l))))
  where
    each : s.tally.lines ≤ most → All (λ r. r.tally.lines ≤ most) rs → (k : ℕ) (d : PartRead) → k < length (s ∷ rs) → (get_or (s ∷ rs) k d).tally.lines ≤ most
    each own rest zero d small = own
    each own rest (suc k) d small = rest k d (omega (arith, small))

pub images_are_few : (n : ℕ) (ts : List (List ℕ)) (rs : List PartRead) (most : ℕ) → ArePartTexts n ts rs → All (λ t. length t ≤ most) ts → All (λ r. r.tally.images ≤ most) rs
images_are_few n [] [] most all few = λ k d small. absurd (omega (arith, small))
images_are_few n [] (s ∷ rs) most all few = absurd all
images_are_few n (u ∷ ts) [] most all few = absurd all
images_are_few n (u ∷ ts) (s ∷ rs) most all few = each (counts_are_few u s most all.0 (few 0 u (omega arith))).1 (images_are_few (n + 1) ts rs most all.2 (λ i e l. few (suc i) e (omega (arith, l))))
  where
    each : s.tally.images ≤ most → All (λ r. r.tally.images ≤ most) rs → (k : ℕ) (d : PartRead) → k < length (s ∷ rs) → (get_or (s ∷ rs) k d).tally.images ≤ most
    each own rest zero d small = own
    each own rest (suc k) d small = rest k d (omega (arith, small))
