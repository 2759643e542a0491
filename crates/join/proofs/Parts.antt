-- The text of a part, read to the byte and in one way alone.
use Rattle.std.proofs.Common.{ℕ, ◌≡◌, ◌≢◌, ◌-◌, Bool, true, List, [], ◌∷◌, ◌++◌, get_or, None, refl, sym, ◌∙◌, ap, arith}
use Rattle.std.specs.List.{flat_map}
use Rattle.report.specs.Marks.{marks_of}
use Rattle.report.specs.LineText.{line_text}
use Rattle.report.specs.declared.span.Span.{Span}
use Rattle.join.specs.declared.tally.Tally.{Tally}
use Rattle.join.specs.Order.{in_order}
use Rattle.report.specs.Part.{span_text}
use Rattle.report.specs.Line.{FailingLine}
use Rattle.report.specs.Report.{HeadValue}
use Rattle.join.specs.Printable.{IsLineOfRun, AreLinesOfRun}
use Rattle.join.specs.Heads.{HasLines, HaveSameOptions, IsHeadRead, NoHeadRead}
use Rattle.join.specs.Text.{PartValue, IsPart, part_text, lines_text}
use Rattle.join.specs.Reading.{IsSmall, IsSpanOf, NoSpan, IsAfterHead, NoHead, AreRead, NoLine, IsWhole, HasFront, none_read, tallied, last_text, IsPartText, NoPartText}
use Rattle.join.proofs.Texts.{cancel}
use Rattle.join.proofs.Counts.{counted_order, counted_images}
use Rattle.join.proofs.Heads.{one_head}
use Rattle.join.proofs.LinesRead.{one_reading}
use Rattle.join.proofs.Findings.{findings_are, one_kind, image_lines, last_is_no_line}

-- what is counted of the lines of a part
abbrev pub tally_of : PartValue → Tally
tally_of p = tallied p.span none_read (marks_of p.lines)

abbrev pub last_of : PartValue → List ℕ
last_of p = last_text p.first (p.span.to - p.span.from) (tally_of p)

-- the text of a part in four pieces
pub pieces : (p : PartValue) → IsPart p → part_text p ≡ span_text p.span ++ (p.head ++ (flat_map line_text p.lines ++ last_of p))
unfolding part_text
pieces p is = ap (λ (bs : List ℕ). span_text p.span ++ (p.head ++ bs)) (findings_are p.first (p.span.to - p.span.from) p.span p.lines is.ordered is.one)

pub small_span : (p : PartValue) → IsPart p → IsSmall p.span
small_span p is =
    let rising = is.span.rising in
    let within = is.span.within in
    let small = is.span.small in
    record { from = omega (arith, rising, within, small); to = omega (arith, within, small); images = omega (arith, small); inputs = is.span.number }

-- what stands before what was found
abbrev pub IsFront : List ℕ → List ℕ → List ℕ → Type 0
IsFront body found front = (bytes : List ℕ) → body ≡ bytes ++ found → front ≡ bytes

-- what was read of a text, step by step
pub record AreSteps (text body found front last : List ℕ) (h : HeadValue) (s : Span) (t : Tally) : Type 0 where
  pub span : IsSpanOf text s body
  pub head : IsAfterHead body found
  pub front_is : IsFront body found front
  pub read : IsHeadRead front h
  pub lines : AreRead h s found t last
  pub none : NoLine (IsLineOfRun h) last

-- of a text of a part these steps read just that part
pub record AreOf (p : PartValue) (body found last head lines : List ℕ) (s : Span) (t : Tally) : Type 0 where
  pub span : s ≡ p.span
  pub body_is : body ≡ p.head ++ found
  pub found_is : found ≡ flat_map line_text p.lines ++ last_of p
  pub tally : t ≡ tally_of p
  pub last_is : last ≡ last_of p
  pub head_is : head ≡ p.head
  pub lines_are : lines ≡ flat_map line_text p.lines

-- the first step
pub span_step : (text body : List ℕ) (s : Span) → IsSpanOf text s body → (p : PartValue) → IsPart p → text ≡ part_text p
    → (s ≡ p.span) × (body ≡ p.head ++ (flat_map line_text p.lines ++ last_of p))
span_step text body s of p is e =
    let whole : text ≡ span_text p.span ++ (p.head ++ (flat_map line_text p.lines ++ last_of p)) = e ∙ pieces p is in
    let same : s ≡ p.span = of.only p.span _ (small_span p is) whole in
    (same, cancel (span_text p.span) body _ (sym (of.is ∙ ap (λ (x : Span). span_text x ++ body) same) ∙ whole))

pub head_step : (body found : List ℕ) (h : IsAfterHead body found) → (p : PartValue) → IsPart p → body ≡ p.head ++ (flat_map line_text p.lines ++ last_of p)
    → (h.head ≡ p.head) × (found ≡ flat_map line_text p.lines ++ last_of p)
head_step body found h p is e =
    let begins = image_lines p.lines is.printable p.first (p.span.to - p.span.from) (tally_of p) in
    let whole : lines_text h.is_head.lines ++ found ≡ lines_text is.head.lines ++ (flat_map line_text p.lines ++ last_of p) =
    ap (λ (bs : List ℕ). bs ++ found) (sym h.is_head.is) ∙ sym h.is ∙ e ∙ ap (λ (bs : List ℕ). bs ++ (flat_map line_text p.lines ++ last_of p)) is.head.is in
    let one = one_head h.is_head.lines is.head.lines found _ h.is_head.each is.head.each h.begins begins whole in
    (h.is_head.is ∙ one.0 ∙ sym is.head.is, one.1)

-- a line of a run is one of each head that has the same options and programs
line_moved : (h v : HeadValue) → HaveSameOptions h v → h.programs ≡ v.programs → (l : FailingLine) → IsLineOfRun v l → IsLineOfRun h l
line_moved h v s programs l own = record {
  there = rw (programs, s.entries, s.from, s.to) own.there;
  failing = own.failing;
  way = own.way ∙ sym s.way;
  names = rw (s.bound, s.tears) own.names;
}

lines_moved : (h v : HeadValue) → HaveSameOptions h v → h.programs ≡ v.programs → (ls : List FailingLine) → AreLinesOfRun v ls → AreLinesOfRun h ls
lines_moved h v s programs [] own = tt
lines_moved h v s programs (l ∷ ls) own = (line_moved h v s programs l own.0, lines_moved h v s programs ls own.1)

-- the head of a part is the one that was read
same_head : (front : List ℕ) (h : HeadValue) → IsHeadRead front h → (p : PartValue) (is : IsPart p) → front ≡ p.head → HaveSameOptions h is.options.head × (h.programs ≡ is.options.head.programs)
same_head front h read p is same = read.only is.options.head is.options.printed (same ∙ is.options.is)

pub lines_step : (front : List ℕ) (h : HeadValue) (s : Span) (found last : List ℕ) (t : Tally) (r : AreRead h s found t last) → NoLine (IsLineOfRun h) last → IsHeadRead front h → (p : PartValue) → IsPart p → front ≡ p.head
    → s ≡ p.span → found ≡ flat_map line_text p.lines ++ last_of p → (t ≡ tally_of p) × (flat_map line_text r.lines ≡ flat_map line_text p.lines) × (last ≡ last_of p)
lines_step front h s found last t r none read p is head same e =
    let as_one = same_head front h read p is head in
    let of_run = lines_moved h is.options.head as_one.0 as_one.1 p.lines is.of_run in
    let one = one_reading (IsLineOfRun h) r.lines p.lines last (last_of p) r.printable is.printable of_run none (last_is_no_line p.first (p.span.to - p.span.from) (tally_of p)) (sym r.is ∙ e) in
    let told = r.told in
    let marks = one.marks in
    (rw (told, marks, same) refl, one.texts, one.rests)

-- no part where a step finds nothing
pub no_span_no_part : (text : List ℕ) → NoSpan text → NoPartText text
no_span_no_part text lack = record { none = λ p is e. lack.none p.span _ (small_span p is) (e ∙ pieces p is) }

pub no_head_no_part : (text body : List ℕ) (s : Span) → IsSpanOf text s body → NoHead body → NoPartText text
no_head_no_part text body s of lack = record {
  none = λ p is e.
      lack.none p.head _ is.head (image_lines p.lines is.printable p.first (p.span.to - p.span.from) (tally_of p)) (span_step text body s of p is e).1;
}

-- nor where the head isn't that of a run
pub other_head_no_part : (text body found front : List ℕ) (s : Span) → IsSpanOf text s body → IsAfterHead body found → IsFront body found front → NoHeadRead front → NoPartText text
other_head_no_part text body found front s of h front_is lack = record {
  none = λ p is e.
      let one = span_step text body s of p is e in
      let two = head_step body found h p is one.1 in
      lack.none is.options.head is.options.printed (front_is h.head h.is ∙ two.0 ∙ is.options.is);
}

-- of a text of a part, what the steps found
pub steps_of : (text body found front last : List ℕ) (h : HeadValue) (s : Span) (t : Tally) (steps : AreSteps text body found front last h s t) → (p : PartValue) → IsPart p → text ≡ part_text p
    → AreOf p body found last front (flat_map line_text steps.lines.lines) s t
steps_of text body found front last h s t steps p is e =
    let one = span_step text body s steps.span p is e in
    let two = head_step body found steps.head p is one.1 in
    let head : front ≡ p.head = steps.front_is steps.head.head steps.head.is ∙ two.0 in
    let three = lines_step front h s found last t steps.lines steps.none steps.read p is head one.0 two.1 in
    record {
      span = one.0;
      body_is = steps.head.is ∙ ap (λ (bs : List ℕ). bs ++ found) two.0;
      found_is = two.1;
      tally = three.0;
      last_is = three.2;
      head_is = head;
      lines_are = three.1;
    }

module _ (text body found front last : List ℕ) (h : HeadValue) (s : Span) (t : Tally) (span : IsSpanOf text s body) (head : IsAfterHead body found) (front_is : IsFront body found front) (read : IsHeadRead front h)
    (lines : AreRead h s found t last) (none : NoLine (IsLineOfRun h) last) where
  steps : AreSteps text body found front last h s t
  steps = record { span = span; head = head; front_is = front_is; read = read; lines = lines; none = none }

  pub other_last_no_part : last ≢ last_text h.first (s.to - s.from) t → NoPartText text
  other_last_no_part lack = record {
    none = λ p is e.
        let of = steps_of text body found front last h s t steps p is e in
        let as_one = same_head front h read p is of.head_is in
        let kind : h.first ≡ p.first = as_one.0.first ∙ is.options.shown in
        let same_span = of.span in
        let same_tally = of.tally in
        lack (of.last_is ∙ rw (same_span, same_tally, kind) refl);
  }

  -- the last line tells of which kind the part is
  same_kind : (first : Bool) → last ≡ last_text first (s.to - s.from) t → (p : PartValue) → IsPart p → text ≡ part_text p → first ≡ p.first
  same_kind first at p is e =
      let of = steps_of text body found front last h s t steps p is e in
      let same_span = of.span in
      let same_tally = of.tally in
      let said : last ≡ last_text first (p.span.to - p.span.from) (tally_of p) = at ∙ rw (same_span, same_tally) refl in
      one_kind first p.first (p.span.to - p.span.from) (tally_of p) (sym said ∙ of.last_is)

  pub not_whole_no_part : (first : Bool) → last ≡ last_text first (s.to - s.from) t → (IsWhole s first t → ⊥) → NoPartText text
  not_whole_no_part first at lack = record {
    none = λ p is e.
        let of = steps_of text body found front last h s t steps p is e in
        let same_span = of.span in
        let same_tally = of.tally in
        let kind = same_kind first at p is e in
        let whole : IsWhole p.span p.first (tally_of p) =
        record {
          span = is.span;
          ordered = counted_order p.span (marks_of p.lines) ∙ is.ordered;
          one = λ f. let count = counted_images p.span p.lines is.ordered in let one = is.one f in omega (arith, count, one);
        } in
        lack (rw (same_span, kind, same_tally) whole);
  }

-- after the head stands no line of a program
pub lines_after_head : (body found head : List ℕ) (h : IsAfterHead body found) → ((front : List ℕ) → body ≡ front ++ found → head ≡ front) → HasLines body head
lines_after_head body found head h head_is = record {
  rest = found;
  is = h.is ∙ ap (λ (bs : List ℕ). bs ++ found) (sym (head_is h.head h.is));
  other = λ rest e.
      let first : 105 ≡ 112 = ap (λ (bs : List ℕ). get_or bs 0 0) (sym h.begins.is ∙ e) in
      absurd (omega (arith, first));
}

-- what stands before what is left
pub head_in_front : (body found : List ℕ) → IsAfterHead body found → HasFront body found
head_in_front body found h = record { front = h.head; is = h.is }

pub lines_in_front : (v : HeadValue) (s : Span) (found last : List ℕ) (t : Tally) → AreRead v s found t last → HasFront found last
lines_in_front v s found last t h = record { front = flat_map line_text h.lines; is = h.is }

-- where all steps found something, the text is of a part
pub part_found : (text body found last front lines : List ℕ) (v : HeadValue) (s : Span) (t : Tally) (first : Bool) (file : ℕ) → IsSpanOf text s body → IsAfterHead body found → AreRead v s found t last
    → last ≡ last_text first (s.to - s.from) t → IsWhole s first t → IsFront body found front → IsHeadRead front v → v.first ≡ first → ((bytes : List ℕ) → found ≡ bytes ++ last → lines ≡ bytes)
    → IsPartText text (record { span = s; head = front; first = first; lines = lines; tally = t; file = file })
part_found text body found last front lines v s t first file span h r at whole front_is read shown lines_are =
    let told = r.told in
    let head_is : front ≡ h.head = front_is h.head h.is in
    let ordered : in_order s.from s.to None (marks_of r.lines) ≡ true = sym (counted_order s (marks_of r.lines)) ∙ ap (λ (u : Tally). u.ordered) (sym told) ∙ whole.ordered in
    let part : PartValue = record { span = s; head = h.head; first = first; lines = r.lines } in
    let is : IsPart part =
    record {
      span = whole.span;
      head = h.is_head;
      options = record { head = v; printed = read.printed; shown = shown; is = sym head_is ∙ read.is };
      printable = r.printable;
      of_run = r.of_run;
      ordered = ordered;
      one = λ f.
          let count = counted_images s r.lines ordered in
          let same = ap (λ (u : Tally). u.images) told in
          let one = whole.one f in
          omega (arith, count, same, one);
    } in
    let last_said : last ≡ last_of part = at ∙ ap (λ (u : Tally). last_text first (s.to - s.from) u) told in
    let found_said : found ≡ flat_map line_text r.lines ++ last_of part = r.is ∙ ap (λ (bs : List ℕ). flat_map line_text r.lines ++ bs) last_said in
    let body_said : body ≡ h.head ++ (flat_map line_text r.lines ++ last_of part) = h.is ∙ ap (λ (bs : List ℕ). h.head ++ bs) found_said in
    record {
      part = part;
      is = is;
      text = span.is ∙ ap (λ (bs : List ℕ). span_text s ++ bs) body_said ∙ sym (pieces part is);
      told = record { span = refl; head = head_is; first = refl; lines = lines_are (flat_map line_text r.lines) r.is; tally = told };
    }
