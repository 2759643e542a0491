-- The two lines with which the text of a part begins, read back.
use Rattle.std.proofs.Common.{ℕ, ◌≡◌, ◌≢◌, ◌+◌, ◌%◌, ◌<◌, ◌^◌, ◌==◌, true, false, List, [], ◌∷◌, ◌++◌, append_assoc, codes, refl, sym, ◌∙◌, ap, arith}
use Rattle.std.specs.Fmt.{decimal}
use Rattle.std.proofs.lemmas.Bool.Decides.{nat_tests}
use Rattle.std.proofs.lemmas.Fmt.{decimal_by_steps}
use Rattle.report.specs.MarkReading.{lacks, IsCutAt}
use Rattle.report.proofs.Back.{lacks_both}
use Rattle.report.specs.declared.span.Span.{Span}
use Rattle.report.specs.Part.{span_text}
use Rattle.join.specs.Reading.{IsSmall, ReadsSpan, IsSpanOf, NoSpan}

-- no digit is c
abbrev pub NoDigit : ℕ → Type 0
NoDigit c = (k : ℕ) → k < 10 → ((48 + k) == c) ≡ false

pub number_lacks : (c n : ℕ) → NoDigit c → n < 2 ^ 64 → lacks c (decimal n) ≡ true
number_lacks c n other = decimal_by_steps (λ (m : ℕ) (ds : List ℕ). lacks c ds ≡ true) (λ m small. rw (other m small) refl)
    (λ m ds big l. lacks_both c ds ((48 + m % 10) ∷ []) l (rw (other (m % 10) (omega arith)) refl)) n

no_newline : NoDigit 10
no_newline k small = grind (arith, nat_tests)

no_blank : NoDigit 32
no_blank k small = grind (arith, nat_tests)

pub no_point : NoDigit 46
no_point k small = grind (arith, nat_tests)

pub line_lacks : (n : ℕ) → n < 2 ^ 64 → lacks 10 (decimal n) ≡ true
line_lacks n small = number_lacks 10 n no_newline small

pub blank_lacks : (n : ℕ) → n < 2 ^ 64 → lacks 32 (decimal n) ≡ true
blank_lacks n small = number_lacks 32 n no_blank small

-- the number that a word says, if it says one
abbrev pub SaysNumber : List ℕ → ℕ → Type 0
SaysNumber word found = (n : ℕ) → n < 2 ^ 64 → word ≡ decimal n → found ≡ n

-- the two lines by their words
pub span_words : (s : Span) (more : List ℕ)
    → span_text s ++ more
    ≡ codes "crash part 1" ++ 10 ∷ (codes "part" ++ 32 ∷ (decimal s.from ++ 46 ∷ ([] ++ 46 ∷ (decimal s.to ++ 32 ∷ (codes "of" ++ 32 ∷ (decimal s.images ++ 32 ∷ (codes "inputs" ++ 32 ∷ (decimal s.inputs ++ 10 ∷ more))))))))
unfolding span_text
span_words s more = simp append_assoc

pub span_read : (text title line part range from after_from point after_points to after_to word all images after_images other last inputs rest : List ℕ) (a b n h : ℕ)
    → IsCutAt 10 text title line → IsCutAt 32 line part range → IsCutAt 46 range from after_from → IsCutAt 46 after_from point after_points
    → IsCutAt 32 after_points to after_to → IsCutAt 32 after_to word all → IsCutAt 32 all images after_images → IsCutAt 32 after_images other last
    → IsCutAt 10 last inputs rest → SaysNumber from a → SaysNumber to b → SaysNumber images n → SaysNumber inputs h
    → ReadsSpan text (record { from = a; to = b; images = n; inputs = h }) rest
span_read text title line part range from after_from point after_points to after_to word all images after_images other last inputs rest a b n h c1 c2 c3 c4 c5 c6 c7 c8 c9 n1 n2 n3 n4 = record { read = reads }
  where
    reads : (s : Span) (more : List ℕ) → IsSmall s → text ≡ span_text s ++ more → (record { from = a; to = b; images = n; inputs = h } ≡ s) × (rest ≡ more)
    reads s more small e =
        let p1 = c1.parts (codes "crash part 1") _ refl (e ∙ span_words s more) in
        let p2 = c2.parts (codes "part") _ refl p1.1 in
        let p3 = c3.parts (decimal s.from) _ (number_lacks 46 s.from no_point small.from) p2.1 in
        let p4 = c4.parts [] _ refl p3.1 in
        let p5 = c5.parts (decimal s.to) _ (blank_lacks s.to small.to) p4.1 in
        let p6 = c6.parts (codes "of") _ refl p5.1 in
        let p7 = c7.parts (decimal s.images) _ (blank_lacks s.images small.images) p6.1 in
        let p8 = c8.parts (codes "inputs") _ refl p7.1 in
        let p9 = c9.parts (decimal s.inputs) more (line_lacks s.inputs small.inputs) p8.1 in
        let e1 = n1 s.from small.from p3.0 in
        let e2 = n2 s.to small.to p5.0 in
        let e3 = n3 s.images small.images p7.0 in
        let e4 = n4 s.inputs small.inputs p9.0 in
        (rw (e1, e2, e3, e4) refl, p9.1)

pub found_span : (text printed rest other : List ℕ) (span : Span) → ReadsSpan text span other → printed ≡ span_text span → text ≡ printed ++ rest → IsSpanOf text span rest
found_span text printed rest other span reads is e = record {
  is = e ∙ ap (λ (bs : List ℕ). bs ++ rest) is;
  only = λ s more small same. (reads.read s more small same).0;
}

pub no_span : (text printed other : List ℕ) (span : Span) → ReadsSpan text span other → printed ≡ span_text span → ((rest : List ℕ) → text ≢ printed ++ rest) → NoSpan text
no_span text printed other span reads is none = record {
  none = λ s more small same.
      let own : span ≡ s = (reads.read s more small same).0 in
      none more (same ∙ ap (λ (bs : List ℕ). bs ++ more) (ap (λ (x : Span). span_text x) (sym own) ∙ sym is));
}
