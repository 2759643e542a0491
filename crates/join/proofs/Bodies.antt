-- Failing lines, read from a text to the byte.
use Rattle.std.proofs.Common.{ℕ, ◌≡◌, ◌≢◌, ◌+◌, ◌<◌, ◌≤◌, ◌^◌, nat_lt, ◌↔◌, IsTrue, true, false, List, map, ◌∷◌, ◌++◌, length, length-append, append_assoc, codes, refl, sym, subst, ◌∙◌, ap, arith}
use Rattle.std.specs.Fmt.{decimal}
use Rattle.std.proofs.lemmas.Bool.Decides.{nat_tests}
use Rattle.report.specs.declared.lines.marks.LineMark.{LineMark}
use Rattle.report.specs.Line.{FailingLine}
use Rattle.report.specs.MarkReading.{lacks, ReadsField}
use Rattle.report.specs.LineText.{line_text}
use Rattle.report.proofs.Back.{lacks_both, end_lacks, words_of as line_words}
use Rattle.join.specs.declared.line.LineWords.{LineWords}
use Rattle.epochs.specs.declared.part.By.{By}
use Rattle.choices.specs.Named.{name_of}
use Rattle.report.specs.ChoiceText.{AreNames}
use Rattle.report.specs.Report.{HeadValue}
use Rattle.join.specs.Printable.{IsEnd, IsPrintable, IsLineOfRun, has_program_and_cut, are_names_of_run, end_text}
use Rattle.join.specs.Reading.{words_text, words_of, body_text, ReadsWords, Fit, IsBody, NoBody, IsCut, NoCut, IsLine, NoLine}
use Rattle.join.proofs.Texts.{one_cut, cancel, has_it}
use Rattle.join.proofs.Spans.{line_lacks, blank_lacks, SaysNumber}

pub by_words : (w : LineWords) (more : List ℕ)
    → words_text w ++ more
    ≡ codes "image" ++ 32 ∷ (decimal w.image ++ 32 ∷ (codes "cut" ++ 32 ∷ (decimal w.cut ++ 32 ∷ (codes "program" ++ 32 ∷ (decimal w.program ++ 32 ∷ more)))))
unfolding words_text
by_words w more = simp append_assoc

pub words_read : (line image after_image at after_cut program rest : List ℕ) (i k p : ℕ)
    → ReadsField line image after_image → ReadsField after_image at after_cut → ReadsField after_cut program rest
    → SaysNumber image i → SaysNumber at k → SaysNumber program p → ReadsWords line (record { image = i; cut = k; program = p })
words_read line image after_image at after_cut program rest i k p f1 f2 f3 n1 n2 n3 = record { read = reads }
  where
    reads : (w : LineWords) (more : List ℕ) → w.image < 2 ^ 64 → w.cut < 2 ^ 64 → w.program < 2 ^ 64 → line ≡ words_text w ++ more → record { image = i; cut = k; program = p } ≡ w
    reads w more s1 s2 s3 e =
        let p1 = f1.read (codes "image") (decimal w.image) _ refl (blank_lacks w.image s1) (e ∙ by_words w more) in
        let p2 = f2.read (codes "cut") (decimal w.cut) _ refl (blank_lacks w.cut s2) p1.1 in
        let p3 = f3.read (codes "program") (decimal w.program) more refl (blank_lacks w.program s3) p2.1 in
        let e1 = n1 w.image s1 p1.0 in
        let e2 = n2 w.cut s2 p2.0 in
        let e3 = n3 w.program s3 p3.0 in
        rw (e1, e2, e3) refl

-- the numbers of a line are those of its words
of_line : (line : List ℕ) (words : LineWords) → ReadsWords line words → (l : FailingLine) → IsPrintable l → line ≡ body_text l → words ≡ words_of l
of_line line words reads l small e =
    let image = small.image in
    let at = small.cut in
    let program = small.program in
    reads.read (words_of l) (end_text l.ending l.by l.departures) (omega (arith, image)) (omega (arith, at)) (omega (arith, program)) e

pub too_large : (h : HeadValue) (line : List ℕ) (words : LineWords) → ReadsWords line words → (Fit words → ⊥) → NoBody h line
too_large h line words reads large = record {
  none = λ l small own e.
      let same = of_line line words reads l small e in
      large (record { cut = rw same small.cut; program = rw same small.program });
}

-- where the cut is within its range, the program's test tells whether the words fit
pub fit_by_program : (words : LineWords) → words.cut < 2 ^ 32 → IsTrue (nat_lt words.program 256) ↔ Fit words
fit_by_program words small = (
  λ test. let yes : nat_lt words.program 256 ≡ true = test in record { cut = small; program = grind (arith, nat_tests, yes) },
  λ f.
      let low : words.program < 256 = f.program in
      let yes : nat_lt words.program 256 ≡ true = grind (arith, nat_tests, low) in
      yes,
)

pub unfit : (words : LineWords) → 2 ^ 32 ≤ words.cut → IsTrue (nat_lt words.cut (2 ^ 32)) ↔ Fit words
unfit words large = (
  λ test.
      let yes : nat_lt words.cut (2 ^ 32) ≡ true = test in
      let small : words.cut < 2 ^ 32 = grind (arith, nat_tests, yes) in
      absurd (omega (arith, large, small)),
  λ f. let small = f.cut in absurd (omega (arith, large, small)),
)

pub not_there : (h : HeadValue) (line : List ℕ) (words : LineWords) → ReadsWords line words → has_program_and_cut h words.cut words.program ≡ false → NoBody h line
not_there h line words reads lack = record {
  none = λ l small own e.
      let same = of_line line words reads l small e in
      let there : has_program_and_cut h words.cut words.program ≡ true = rw same own.there in
      absurd (let bad : true ≡ false = sym there ∙ lack in cc);
}

pub other_words : (h : HeadValue) (line printed : List ℕ) (words : LineWords) → ReadsWords line words → printed ≡ words_text words → ((rest : List ℕ) → line ≢ printed ++ rest) → NoBody h line
other_words h line printed words reads is none = record {
  none = λ l small own e.
      let same = of_line line words reads l small e in
      none (end_text l.ending l.by l.departures) (e ∙ ap (λ (bs : List ℕ). bs ++ end_text l.ending l.by l.departures) (ap (λ (w : LineWords). words_text w) (sym same) ∙ sym is));
}

pub other_end : (h : HeadValue) (line printed end : List ℕ) (words : LineWords) → ReadsWords line words → printed ≡ words_text words → line ≡ printed ++ end → (IsEnd h words.cut end → ⊥) → NoBody h line
other_end h line printed end words reads is parts none = record {
  none = λ l small own e.
      let same = of_line line words reads l small e in
      let front : words_text (words_of l) ≡ printed = ap (λ (w : LineWords). words_text w) (sym same) ∙ sym is in
      let whole : printed ++ end ≡ printed ++ end_text l.ending l.by l.departures = sym parts ∙ e ∙ ap (λ (bs : List ℕ). bs ++ end_text l.ending l.by l.departures) front in
      let way = own.way in
      none (record {
        ending = l.ending;
        departures = l.departures;
        within = small.ending;
        failing = own.failing;
        names = subst (λ (w : By). AreNames w (map name_of l.departures)) way small.names;
        of_run = subst (λ (w : LineWords). are_names_of_run h w.cut (map name_of l.departures) ≡ true) (sym same) own.names;
        is = cancel printed _ _ whole ∙ ap (λ (w : By). end_text l.ending w l.departures) way;
      });
}

pub is_body : (h : HeadValue) (line printed end : List ℕ) (words : LineWords) → words.image < 2 ^ 64 → Fit words → has_program_and_cut h words.cut words.program ≡ true → printed ≡ words_text words → line ≡ printed ++ end
    → IsEnd h words.cut end → IsBody h line (record { image = words.image; program = words.program })
is_body h line printed end words small fit there is parts e = record {
  line = record { image = words.image; cut = words.cut; program = words.program; ending = e.ending; by = h.by; departures = e.departures };
  printable = record { image = small; cut = fit.cut; program = fit.program; ending = e.within; names = e.names };
  of_run = record { there = there; failing = e.failing; way = refl; names = e.of_run };
  is = rw (parts, is, e.is) refl;
  marked = refl;
}

-- a line without its newline has none
pub body_lacks : (l : FailingLine) → IsPrintable l → lacks 10 (body_text l) ≡ true
unfolding words_text
body_lacks l small =
    let image = small.image in
    let at = small.cut in
    let program = small.program in
    lacks_both 10 (words_text (words_of l)) (end_text l.ending l.by l.departures)
    (lacks_both 10 (codes "image " ++ decimal l.image ++ codes " cut " ++ decimal l.cut ++ codes " program " ++ decimal l.program) (codes " ")
    (lacks_both 10 (codes "image " ++ decimal l.image ++ codes " cut " ++ decimal l.cut ++ codes " program ") (decimal l.program)
    (lacks_both 10 (codes "image " ++ decimal l.image ++ codes " cut " ++ decimal l.cut) (codes " program ")
    (lacks_both 10 (codes "image " ++ decimal l.image ++ codes " cut ") (decimal l.cut)
    (lacks_both 10 (codes "image " ++ decimal l.image) (codes " cut ") (lacks_both 10 (codes "image ") (decimal l.image) refl (line_lacks l.image image)) refl)
    (line_lacks l.cut (omega (arith, at)))) refl)
    (line_lacks l.program (omega (arith, program)))) refl)
    (end_lacks l)

pub line_is : (l : FailingLine) (more : List ℕ) → line_text l ++ more ≡ body_text l ++ 10 ∷ more
line_is l more =
    line_words l more ∙ sym (by_words (words_of l) (end_text l.ending l.by l.departures ++ 10 ∷ more))
    ∙ sym (append_assoc (words_text (words_of l)) (end_text l.ending l.by l.departures) (10 ∷ more))

pub no_newline_no_line : (h : HeadValue) (text : List ℕ) → NoCut 10 text → NoLine (IsLineOfRun h) text
no_newline_no_line h text lack = record { none = λ l more small own e. has_it 10 (body_text l) more (subst (λ (bs : List ℕ). lacks 10 bs ≡ true) (e ∙ line_is l more) lack.none) }

pub no_body_no_line : (h : HeadValue) (text line more : List ℕ) → IsCut 10 text line more → NoBody h line → NoLine (IsLineOfRun h) text
no_body_no_line h text line more cut lack = record {
  none = λ l rest small own e.
      let same : line ++ 10 ∷ more ≡ body_text l ++ 10 ∷ rest = sym cut.is ∙ e ∙ line_is l rest in
      lack.none l small own (one_cut 10 line (body_text l) more rest cut.first (body_lacks l small) same).0;
}

pub body_is_line : (h : HeadValue) (text line more : List ℕ) (mark : LineMark) → IsCut 10 text line more → IsBody h line mark → IsLine h text mark more
body_is_line h text line more mark cut body = record {
  line = body.line;
  printable = body.printable;
  of_run = body.of_run;
  is = cut.is ∙ ap (λ (bs : List ℕ). bs ++ 10 ∷ more) body.is ∙ sym (line_is body.line more);
  marked = body.marked;
}

pub line_shorter : (text line more : List ℕ) → IsCut 10 text line more → length more < length text
line_shorter text line more cut =
    let all : length text ≡ length line + length (10 ∷ more) = ap length cut.is ∙ length-append line (10 ∷ more) in
    omega (arith, all)
