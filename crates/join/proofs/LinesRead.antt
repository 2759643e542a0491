-- The lines of a text, read one after the other, and read in one way alone.
use Rattle.std.proofs.Common.{ℕ, ◌≡◌, ◌<◌, ◌≤◌, Bool, true, false, if◌then◌else◌, List, [], ◌∷◌, ◌++◌, length, append_assoc, append-nil, codes, refl, sym, ◌∙◌, ap, arith}
use Rattle.std.specs.Fmt.{decimal}
use Rattle.std.specs.List.{flat_map}
use Rattle.std.proofs.lemmas.Fmt.{decimal_injective}
use Rattle.std.proofs.lemmas.List.{map-append}
use Rattle.report.specs.declared.lines.marks.LineMark.{LineMark}
use Rattle.report.specs.Line.{FailingLine}
use Rattle.report.specs.Marks.{mark_of, marks_of}
use Rattle.report.specs.LineText.{line_text}
use Rattle.report.specs.declared.span.Span.{Span}
use Rattle.join.specs.declared.tally.Tally.{Tally}
use Rattle.report.specs.Report.{HeadValue}
use Rattle.join.specs.Printable.{IsPrintable, ArePrintable, EachLine, IsLineOfRun, end_text}
use Rattle.join.specs.Reading.{none_read, one_more, is_new, AreRead, IsLine, NoLine, body_text, words_of}
use Rattle.join.proofs.Texts.{one_cut}
use Rattle.join.proofs.Spans.{blank_lacks}
use Rattle.join.proofs.Bodies.{by_words, body_lacks, line_is}
use Rattle.join.proofs.Counts.{tallied_push, tallied_none}

pub none_are_read : (h : HeadValue) (s : Span) (text : List ℕ) → AreRead h s text none_read text
none_are_read h s text = record {
  lines = [];
  printable = tt;
  of_run = tt;
  is = refl;
  told = sym (tallied_none s none_read);
  few = omega arith;
  fewer = omega arith;
}

each_push : (P : FailingLine → Type 0) (ls : List FailingLine) (l : FailingLine) → EachLine P ls → P l → EachLine P (ls ++ l ∷ [])
each_push P [] l all own = (own, tt)
each_push P (k ∷ ls) l all own = (all.0, each_push P ls l all.1 own)

text_push : (ls : List FailingLine) (l : FailingLine) (more : List ℕ) → flat_map line_text (ls ++ l ∷ []) ++ more ≡ flat_map line_text ls ++ (line_text l ++ more)
text_push [] l more = ap (λ (bs : List ℕ). bs ++ more) (append-nil (line_text l))
text_push (k ∷ ls) l more =
    append_assoc (line_text k) (flat_map line_text (ls ++ l ∷ [])) more
    ∙ ap (λ (bs : List ℕ). line_text k ++ bs) (text_push ls l more)
    ∙ sym (append_assoc (line_text k) (flat_map line_text ls) (line_text l ++ more))

one_or_none : (b : Bool) → (if b then 1 else 0) ≤ 1
one_or_none true = omega arith
one_or_none false = omega arith

pub one_is_read : (v : HeadValue) (s : Span) (text rest more : List ℕ) (t : Tally) (m : LineMark) → AreRead v s text t rest → IsLine v rest m more → length more < length rest → AreRead v s text (one_more s t m) more
one_is_read v s text rest more t m h line less = record {
  lines = h.lines ++ line.line ∷ [];
  printable = each_push IsPrintable h.lines line.line h.printable line.printable;
  of_run = each_push (IsLineOfRun v) h.lines line.line h.of_run line.of_run;
  is = h.is ∙ ap (λ (bs : List ℕ). flat_map line_text h.lines ++ bs) line.is ∙ sym (text_push h.lines line.line more);
  told =
      let pushed : marks_of (h.lines ++ line.line ∷ []) ≡ marks_of h.lines ++ mark_of line.line ∷ [] = map-append mark_of h.lines (line.line ∷ []) in
      rw (pushed, tallied_push s none_read (marks_of h.lines) (mark_of line.line), h.told, line.marked) refl;
  few = let before = h.few in omega (arith, before, less);
  fewer =
      let before = h.fewer in
      let one = one_or_none (is_new t.last m.image) in
      omega (arith, before, one);
}

-- a line has one mark
one_mark : (l q : FailingLine) → IsPrintable l → IsPrintable q → body_text l ≡ body_text q → mark_of l ≡ mark_of q
one_mark l q own also e =
    let a = own.image in
    let b = also.image in
    let c = own.cut in
    let d = also.cut in
    let f = own.program in
    let g = also.program in
    let same = sym (by_words (words_of l) (end_text l.ending l.by l.departures)) ∙ e ∙ by_words (words_of q) (end_text q.ending q.by q.departures) in
    let first = one_cut 32 (codes "image") (codes "image") _ _ refl refl same in
    let image = one_cut 32 (decimal l.image) (decimal q.image) _ _ (blank_lacks l.image a) (blank_lacks q.image b) first.1 in
    let second = one_cut 32 (codes "cut") (codes "cut") _ _ refl refl image.1 in
    let at = one_cut 32 (decimal l.cut) (decimal q.cut) _ _ (blank_lacks l.cut (omega (arith, c))) (blank_lacks q.cut (omega (arith, d))) second.1 in
    let third = one_cut 32 (codes "program") (codes "program") _ _ refl refl at.1 in
    let program = one_cut 32 (decimal l.program) (decimal q.program) _ _ (blank_lacks l.program (omega (arith, f))) (blank_lacks q.program (omega (arith, g))) third.1 in
    let same_image : l.image ≡ q.image = decimal_injective l.image q.image a b image.0 in
    let same_program : l.program ≡ q.program = decimal_injective l.program q.program (omega (arith, f)) (omega (arith, g)) program.0 in
    rw (same_image, same_program) refl

-- any line, and each of some
abbrev pub Any : FailingLine → Type 0
Any l = Unit {0}

pub any_line : (ls : List FailingLine) → EachLine Any ls
any_line [] = tt
any_line (l ∷ ls) = (tt, any_line ls)

-- two readings of one text
pub record AreOneReading (ls qs : List FailingLine) (rest tail : List ℕ) : Type 0 where
  pub marks : marks_of ls ≡ marks_of qs
  pub texts : flat_map line_text ls ≡ flat_map line_text qs
  pub rests : rest ≡ tail

pub one_reading : (P : FailingLine → Type 0) (ls qs : List FailingLine) (rest tail : List ℕ) → ArePrintable ls → ArePrintable qs → EachLine P qs → NoLine P rest → NoLine Any tail
    → flat_map line_text ls ++ rest ≡ flat_map line_text qs ++ tail → AreOneReading ls qs rest tail
one_reading P [] [] rest tail own also each lack none e = record { marks = refl; texts = refl; rests = e }
one_reading P [] (q ∷ qs) rest tail own also each lack none e =
    absurd (lack.none q (flat_map line_text qs ++ tail) also.0 each.0 (e ∙ append_assoc (line_text q) (flat_map line_text qs) tail))
one_reading P (l ∷ ls) [] rest tail own also each lack none e =
    absurd (none.none l (flat_map line_text ls ++ rest) own.0 tt (sym e ∙ append_assoc (line_text l) (flat_map line_text ls) rest))
one_reading P (l ∷ ls) (q ∷ qs) rest tail own also each lack none e =
    let same : body_text l ++ 10 ∷ (flat_map line_text ls ++ rest) ≡ body_text q ++ 10 ∷ (flat_map line_text qs ++ tail) =
    sym (line_is l (flat_map line_text ls ++ rest)) ∙ sym (append_assoc (line_text l) (flat_map line_text ls) rest) ∙ e
    ∙ append_assoc (line_text q) (flat_map line_text qs) tail ∙ line_is q (flat_map line_text qs ++ tail) in
    let parts = one_cut 10 (body_text l) (body_text q) _ _ (body_lacks l own.0) (body_lacks q also.0) same in
    let more = one_reading P ls qs rest tail own.1 also.1 each.1 lack none parts.1 in
    let mark = one_mark l q own.0 also.0 parts.0 in
    let marks = more.marks in
    let texts = more.texts in
    let line : line_text l ≡ line_text q = sym (append-nil (line_text l)) ∙ line_is l [] ∙ ap (λ (bs : List ℕ). bs ++ 10 ∷ []) parts.0 ∙ sym (line_is q []) ∙ append-nil (line_text q) in
    record { marks = rw (mark, marks) refl; texts = rw (line, texts) refl; rests = more.rests }

-- the bytes of a line
pub line_begins : (l : FailingLine) (more : List ℕ) → line_text l ++ more ≡ codes "image " ++ (decimal l.image ++ (codes " cut " ++ (decimal l.cut ++ (codes " program " ++ (decimal l.program ++ (codes " " ++ (end_text l.ending l.by l.departures ++ (10 ∷ more))))))))
unfolding line_text
line_begins l more = simp append_assoc
