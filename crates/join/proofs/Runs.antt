-- Parts of a run by definition, as values.
use Rattle.std.proofs.Common.{ℕ, zero, suc, ◌≡◌, ◌+◌, ◌-◌, ◌≤◌, Bool, true, false, inl, inr, List, [], ◌∷◌, ◌++◌, codes, Option, Some, None, refl, sym, ◌∙◌, ap, subst, arith}
use Rattle.std.specs.Fmt.{decimal}
use Rattle.std.specs.List.{flat_map, range_with_len}
use Rattle.std.proofs.lemmas.Bool.Decides.{eqb_tells}
use Rattle.std.proofs.lemmas.Fmt.{decimal_injective}
use Rattle.report.specs.declared.lines.marks.LineMark.{LineMark}
use Rattle.report.specs.Line.{FailingLine, first_lines}
use Rattle.report.specs.Marks.{mark_of, marks_of}
use Rattle.report.specs.Images.{failing_images, changes_after, leading_of, leading}
use Rattle.report.specs.LineText.{line_text}
use Rattle.report.proofs.Order.{changes_are_images, first_are_leading}
use Rattle.report.specs.Report.{options_text, shown_lines, findings_text}
use Rattle.report.specs.declared.span.Span.{Span}
use Rattle.join.specs.declared.tally.Tally.{Tally}
use Rattle.join.specs.Printable.{IsPrintable, ArePrintable, EachLine, IsLineOfRun, AreLinesOfRun}
use Rattle.join.specs.Order.{in_order}
use Rattle.report.specs.Part.{span_text}
use Rattle.join.specs.Text.{PartValue, IsPart, IsSpan, RunValue, span_of, part_text, part_bytes, lines_between, lines_text}
use Rattle.join.specs.Reading.{IsSmall, PartRead, Tells, last_text}
use Rattle.join.specs.Laws.{IsRun}
use Rattle.join.proofs.Texts.{one_cut}
use Rattle.join.proofs.Spans.{span_words, number_lacks, blank_lacks, line_lacks, no_point}
use Rattle.join.proofs.Counts.{next_is, rising, all_of_first}
use Rattle.join.proofs.Heads.{one_head}
use Rattle.join.proofs.LinesRead.{Any, any_line, one_reading}
use Rattle.join.proofs.Findings.{one_kind, image_lines, last_is_no_line}
use Rattle.join.proofs.Parts.{pieces, small_span, tally_of, last_of}
use Rattle.join.proofs.Order.{in_order-append, next_back}

-- the lines of some images in a row are in their order
row_order : (r : RunValue) → IsRun r → (a n : ℕ) → in_order a (a + n) None (marks_of (flat_map r.image_lines (range_with_len a n))) ≡ true
row_order r run a zero = refl
row_order r run a (suc n) =
    let e : a + 1 + n ≡ a + suc n = omega arith in
    let rest : in_order (a + 1) (a + suc n) None (marks_of (flat_map r.image_lines (range_with_len (a + 1) n))) ≡ true = rw e at (row_order r run (a + 1) n) in
    in_order-append a (a + 1) (a + suc n) None (r.image_lines a) (flat_map r.image_lines (range_with_len (a + 1) n)) (omega arith) (omega arith) tt (run.lines a) rest

pub lines_order : (r : RunValue) → IsRun r → (a b : ℕ) → a ≤ b → in_order a b None (marks_of (lines_between r a b)) ≡ true
lines_order r run a b up = let e : a + (b - a) ≡ b = omega (arith, up) in rw e at (row_order r run a (b - a))

each_both : (P : FailingLine → Type 0) (ls ks : List FailingLine) → EachLine P ls → EachLine P ks → EachLine P (ls ++ ks)
each_both P [] ks own also = also
each_both P (l ∷ ls) ks own also = (own.0, each_both P ls ks own.1 also)

row_each : (P : FailingLine → Type 0) (r : RunValue) → ((image : ℕ) → EachLine P (r.image_lines image)) → (a n : ℕ) → EachLine P (flat_map r.image_lines (range_with_len a n))
row_each P r each a zero = tt
row_each P r each a (suc n) = each_both P (r.image_lines a) (flat_map r.image_lines (range_with_len (a + 1) n)) (each a) (row_each P r each (a + 1) n)

row_printable : (r : RunValue) → IsRun r → (a n : ℕ) → ArePrintable (flat_map r.image_lines (range_with_len a n))
row_printable r run a n = row_each IsPrintable r run.printable a n

pub between_printable : (r : RunValue) → IsRun r → (a b : ℕ) → ArePrintable (lines_between r a b)
between_printable r run a b = row_printable r run a (b - a)

between_of_run : (r : RunValue) → IsRun r → (a b : ℕ) → AreLinesOfRun r.head (lines_between r a b)
between_of_run r run a b = row_each (IsLineOfRun r.head) r run.of_run a (b - a)

-- the first lines are in their order too, and of one image
leading_order : (v a b : ℕ) (last : Option LineMark) (ls : List FailingLine) → in_order a b last (marks_of ls) ≡ true → in_order a b last (marks_of (leading_of v ls)) ≡ true
leading_order v a b last [] e = refl
leading_order v a b last (l ∷ ls) e = elim (eqb_tells v l.image) [
  | inl same ↦
      let next = next_is a b last (mark_of l) (marks_of ls) e in
      let more = next_back a b last (mark_of l) (marks_of (leading_of v ls)) next.low next.high next.beyond (leading_order v a b (Some (mark_of l)) ls next.rest) in
      rw same.0 more
  | inr other ↦ rw other.0 refl
]

leading_each : (P : FailingLine → Type 0) (v : ℕ) (ls : List FailingLine) → EachLine P ls → EachLine P (leading_of v ls)
leading_each P v [] own = tt
leading_each P v (l ∷ ls) own = elim (eqb_tells v l.image) [
  | inl same ↦ rw same.0 (own.0, leading_each P v ls own.1)
  | inr other ↦ rw other.0 tt
]

leading_unchanged : (v : ℕ) (ls : List FailingLine) → changes_after (Some v) (leading_of v ls) ≡ 0
leading_unchanged v [] = refl
leading_unchanged v (l ∷ ls) = elim (eqb_tells v l.image) [
  | inl same ↦
      let rest = leading_unchanged v ls in
      let is = same.1 in
      let own : changes_after (Some l.image) (leading_of v ls) ≡ 0 = subst (λ (w : ℕ). changes_after (Some w) (leading_of v ls) ≡ 0) is rest in
      rw (same.0, same.0, own) refl
  | inr other ↦ rw other.0 refl
]

first_order : (a b : ℕ) (ls : List FailingLine) → in_order a b None (marks_of ls) ≡ true → in_order a b None (marks_of (leading ls)) ≡ true
first_order a b [] e = refl
first_order a b (l ∷ ls) e =
    let next = next_is a b None (mark_of l) (marks_of ls) e in
    next_back a b None (mark_of l) (marks_of (leading_of l.image ls)) next.low next.high next.beyond (leading_order l.image a b (Some (mark_of l)) ls next.rest)

first_each : (P : FailingLine → Type 0) (ls : List FailingLine) → EachLine P ls → EachLine P (leading ls)
first_each P [] own = tt
first_each P (l ∷ ls) own = (own.0, leading_each P l.image ls own.1)

-- of lines that are shown P is so, where it is of all
shown_each : (P : FailingLine → Type 0) (a b : ℕ) (first : Bool) (ls : List FailingLine) → in_order a b None (marks_of ls) ≡ true → EachLine P ls → EachLine P (shown_lines first ls)
shown_each P a b false ls e own = own
shown_each P a b true ls e own = let same = first_are_leading ls (rising a b None ls e) in rw same (first_each P ls own)

first_unchanged : (ls : List FailingLine) → changes_after None (leading ls) ≤ 1
first_unchanged [] = omega arith
first_unchanged (l ∷ ls) = let rest = leading_unchanged l.image ls in omega (arith, rest)

-- the lines that are shown of some that are in order
pub record AreShown (a b : ℕ) (first : Bool) (ls : List FailingLine) : Type 0 where
  pub order : in_order a b None (marks_of ls) ≡ true
  pub printable : ArePrintable ls
  pub one : first ≡ true → failing_images ls ≤ 1

pub shown_are : (a b : ℕ) (first : Bool) (ls : List FailingLine) → in_order a b None (marks_of ls) ≡ true → ArePrintable ls → AreShown a b first (shown_lines first ls)
shown_are a b false ls e own = record { order = e; printable = own; one = λ f. absurd (let lack : false ≡ true = f in cc) }
shown_are a b true ls e own =
    let same = first_are_leading ls (rising a b None ls e) in
    let order = first_order a b ls e in
    let count = changes_are_images (leading ls) (rising a b None (leading ls) order) in
    let few = first_unchanged ls in
    rw same (record { order = order; printable = first_each IsPrintable ls own; one = λ f. omega (arith, count, few) })

-- the part of a run as a value
abbrev pub part_value : RunValue → ℕ → ℕ → PartValue
part_value r a b = record { span = span_of r a b; head = options_text r.head; first = r.head.first; lines = shown_lines r.head.first (lines_between r a b) }

between_shown : (r : RunValue) → IsRun r → (a b : ℕ) → a ≤ b → AreShown a b r.head.first (shown_lines r.head.first (lines_between r a b))
between_shown r run a b up = shown_are a b r.head.first (lines_between r a b) (lines_order r run a b up) (row_printable r run a (b - a))

pub is_part : (r : RunValue) → IsRun r → (a b : ℕ) → IsSpan (span_of r a b) → IsPart (part_value r a b)
is_part r run a b span =
    let shown = between_shown r run a b span.rising in
    record {
      span = span;
      head = run.head;
      options = record { head = r.head; printed = run.printed; shown = refl; is = refl };
      printable = shown.printable;
      of_run = shown_each (IsLineOfRun r.head) a b r.head.first (lines_between r a b) (lines_order r run a b span.rising) (between_of_run r run a b);
      ordered = shown.order;
      one = shown.one;
    }

-- what is shown of what is shown
pub findings_shown : (a b : ℕ) (first : Bool) (images : ℕ) (ls : List FailingLine) → in_order a b None (marks_of ls) ≡ true → ArePrintable ls → findings_text first images (shown_lines first ls) ≡ findings_text first images ls
findings_shown a b false images ls e own = refl
findings_shown a b true images ls e own =
    let shown = shown_are a b true ls e own in
    let same : first_lines (first_lines ls) ≡ first_lines ls = all_of_first (first_lines ls) (rising a b None (first_lines ls) shown.order) (shown.one refl) in
    rw same refl

pub part_is : (r : RunValue) → IsRun r → (a b : ℕ) → IsSpan (span_of r a b) → part_bytes r a b ≡ part_text (part_value r a b)
unfolding part_bytes part_text
part_is r run a b span =
    ap (λ (bs : List ℕ). span_text (span_of r a b) ++ (options_text r.head ++ bs))
    (sym (findings_shown a b r.head.first (b - a) (lines_between r a b) (lines_order r run a b span.rising) (row_printable r run a (b - a))))

-- two lines that begin a part's text
one_span : (s t : Span) (x y : List ℕ) → IsSmall s → IsSmall t → span_text s ++ x ≡ span_text t ++ y → (s ≡ t) × (x ≡ y)
one_span s t x y own also e =
    let same = sym (span_words s x) ∙ e ∙ span_words t y in
    let p1 = one_cut 10 (codes "crash part 1") (codes "crash part 1") _ _ refl refl same in
    let p2 = one_cut 32 (codes "part") (codes "part") _ _ refl refl p1.1 in
    let p3 = one_cut 46 (decimal s.from) (decimal t.from) _ _ (number_lacks 46 s.from no_point own.from) (number_lacks 46 t.from no_point also.from) p2.1 in
    let p4 = one_cut 46 [] [] _ _ refl refl p3.1 in
    let p5 = one_cut 32 (decimal s.to) (decimal t.to) _ _ (blank_lacks s.to own.to) (blank_lacks t.to also.to) p4.1 in
    let p6 = one_cut 32 (codes "of") (codes "of") _ _ refl refl p5.1 in
    let p7 = one_cut 32 (decimal s.images) (decimal t.images) _ _ (blank_lacks s.images own.images) (blank_lacks t.images also.images) p6.1 in
    let p8 = one_cut 32 (codes "inputs") (codes "inputs") _ _ refl refl p7.1 in
    let p9 = one_cut 10 (decimal s.inputs) (decimal t.inputs) x y (line_lacks s.inputs own.inputs) (line_lacks t.inputs also.inputs) p8.1 in
    let e1 = decimal_injective s.from t.from own.from also.from p3.0 in
    let e2 = decimal_injective s.to t.to own.to also.to p5.0 in
    let e3 = decimal_injective s.images t.images own.images also.images p7.0 in
    let e4 = decimal_injective s.inputs t.inputs own.inputs also.inputs p9.0 in
    (rw (e1, e2, e3, e4) refl, p9.1)

-- two parts with one text are read alike
pub one_part : (p q : PartValue) → IsPart p → IsPart q → part_text p ≡ part_text q → (r : PartRead) → Tells p r → Tells q r
one_part p q own also e r told =
    let whole = sym (pieces p own) ∙ e ∙ pieces q also in
    let spans = one_span p.span q.span _ _ (small_span p own) (small_span q also) whole in
    let parted : lines_text own.head.lines ++ (flat_map line_text p.lines ++ last_of p) ≡ lines_text also.head.lines ++ (flat_map line_text q.lines ++ last_of q) =
    ap (λ (bs : List ℕ). bs ++ (flat_map line_text p.lines ++ last_of p)) (sym own.head.is) ∙ spans.1 ∙ ap (λ (bs : List ℕ). bs ++ (flat_map line_text q.lines ++ last_of q)) also.head.is in
    let begins = image_lines p.lines own.printable p.first (p.span.to - p.span.from) (tally_of p) in
    let begins_too = image_lines q.lines also.printable q.first (q.span.to - q.span.from) (tally_of q) in
    let heads = one_head own.head.lines also.head.lines _ _ own.head.each also.head.each begins begins_too parted in
    let lines = one_reading Any p.lines q.lines (last_of p) (last_of q) own.printable also.printable (any_line q.lines) (last_is_no_line p.first (p.span.to - p.span.from) (tally_of p)) (last_is_no_line q.first (q.span.to - q.span.from) (tally_of q)) heads.1 in
    let span : p.span ≡ q.span = spans.0 in
    let marks = lines.marks in
    let tally : tally_of p ≡ tally_of q = rw (span, marks) refl in
    let last : last_of p ≡ last_of q = lines.rests in
    let moved : last_text p.first (q.span.to - q.span.from) (tally_of q) ≡ last_of p =
    ap (λ (s : Span). last_text p.first (s.to - s.from) (tally_of q)) (sym span) ∙ ap (λ (t : Tally). last_text p.first (p.span.to - p.span.from) t) (sym tally) in
    let kind = one_kind p.first q.first (q.span.to - q.span.from) (tally_of q) (moved ∙ last) in
    record {
      span = told.span ∙ span;
      head = told.head ∙ own.head.is ∙ heads.0 ∙ sym also.head.is;
      first = told.first ∙ kind;
      lines = told.lines ∙ lines.texts;
      tally = told.tally ∙ tally;
    }
