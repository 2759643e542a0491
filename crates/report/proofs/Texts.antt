-- The texts of lines, one after the other.
use Rattle.std.proofs.Common.{ℕ, ◌≡◌, ◌∙◌, ◌<◌, ◌≤◌, ◌+◌, List, [], ◌∷◌, ◌++◌, length, drop, get_or, map, append-nil, append_assoc, refl, sym, ap}
use Rattle.std.specs.List.{flat_map}
use Rattle.std.proofs.lemmas.List.{map-append, drop_more, drop_all}
use Rattle.report.specs.declared.lines.marks.LineMark.{LineMark}
use Rattle.report.specs.Line.{FailingLine}
use Rattle.report.specs.Marks.{mark_of, marks_of}
use Rattle.report.specs.Kept.{AreSmall, AreTextsOf}
use Rattle.report.specs.MarkReading.{ReadsLines}
use Rattle.report.specs.LineText.{line_text}

pub small_both : (ls more : List FailingLine) → AreSmall ls → AreSmall more → AreSmall (ls ++ more)
small_both [] more a b = b
small_both (l ∷ ls) more a b = (a.0, small_both ls more a.1 b)

pub texts_more : (texts : List (List ℕ)) (ls own : List FailingLine) (text : List ℕ) → AreTextsOf texts ls → AreSmall own → text ≡ flat_map line_text own
    → AreTextsOf (texts ++ text ∷ []) (ls ++ own)
texts_more [] ls own text none small is = (own, [], ap (λ (ks : List FailingLine). ks ++ own) none ∙ sym (append-nil own), small, is, refl)
texts_more (t ∷ texts) ls own text (first, more, e, few, told, rest) small is =
    (first, more ++ own, ap (λ (ks : List FailingLine). ks ++ own) e ∙ append_assoc first more own, few, told, texts_more texts more own text rest small is)

-- marks were read of the first texts of lines, of which others are still to be read
pub record AreRead (texts : List (List ℕ)) (ls : List FailingLine) (marks : List LineMark) : Type 0 where
  pub left : (more : List FailingLine) × AreTextsOf texts more × (marks ++ marks_of more ≡ marks_of ls)

pub none_read : (texts : List (List ℕ)) (ls : List FailingLine) → AreTextsOf texts ls → AreRead texts ls []
none_read texts ls are = record { left = (ls, are, refl) }

one_text : (text : List ℕ) (texts : List (List ℕ)) (ls : List FailingLine) (marks found : List LineMark) → AreRead (text ∷ texts) ls marks → ReadsLines text marks found → AreRead texts ls found
one_text text texts ls marks found h reads = record { left = go h.left }
  where
    go : (more : List FailingLine) × AreTextsOf (text ∷ texts) more × (marks ++ marks_of more ≡ marks_of ls)
        → (more : List FailingLine) × AreTextsOf texts more × (found ++ marks_of more ≡ marks_of ls)
    go (all, (own, more, e, small, is, rest), same) = (
      more,
      rest,
      ap (λ (ms : List LineMark). ms ++ marks_of more) (reads.read own small is)
          ∙ append_assoc marks (marks_of own) (marks_of more)
          ∙ ap (λ (ms : List LineMark). marks ++ ms) (sym (map-append mark_of own more) ∙ ap marks_of (sym e))
          ∙ same,
    )

pub text_read : {S : Type 0} (f : S → List ℕ) (items : List S) (i : ℕ) (item : S) (text : List ℕ) (ls : List FailingLine) (marks found : List LineMark)
    → i < length items → item ≡ get_or items i item → text ≡ f item → AreRead (map f (drop i items)) ls marks → ReadsLines text marks found
    → AreRead (map f (drop (i + 1) items)) ls found
text_read f items i item text ls marks found within is told before reads =
    let step = drop_more items i item within in
    let here = rw step at before in
    let own = rw (← is) at here in
    let said = rw told at reads in
    one_text (f item) (map f (drop (i + 1) items)) ls marks found own said

pub all_read : {S : Type 0} (f : S → List ℕ) (items : List S) (i : ℕ) (ls : List FailingLine) (marks : List LineMark) → length items ≤ i → AreRead (map f (drop i items)) ls marks → marks ≡ marks_of ls
all_read f items i ls marks past h =
    let none = drop_all i items past in
    let end = rw none at h in
    go end.left
  where
    go : (more : List FailingLine) × AreTextsOf [] more × (marks ++ marks_of more ≡ marks_of ls) → marks ≡ marks_of ls
    go (more, none, same) = sym (append-nil marks) ∙ ap (λ (ks : List FailingLine). marks ++ marks_of ks) (sym none) ∙ same
