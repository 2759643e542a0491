-- The first lines of a text of cases, read: its title, and the number of the inputs of a run of a range of cuts.
use Rattle.std.proofs.Common.{ℕ, ◌≡◌, ◌≢◌, ◌<◌, ◌^◌, List, [], ◌∷◌, ◌++◌, append_assoc, codes, Option, None, Some, refl, sym, ◌∙◌, ap}
use Rattle.std.specs.Fmt.{decimal}
use Rattle.report.specs.MarkReading.{IsCutAt}
use Rattle.case_text.specs.Text.{opening_text}
use Rattle.join.specs.Heads.{IsSmallOption}
use Rattle.join.specs.CaseReading.{IsOpening, NoInputs, NoOpening, ReadsInputs}
use Rattle.join.proofs.Spans.{SaysNumber, line_lacks}
use Rattle.join.proofs.Texts.{cancel}

-- with a number
numbered : (n : ℕ) (more : List ℕ) → opening_text (Some n) ++ more ≡ codes "crash cases 1\ninputs " ++ (decimal n ++ 10 ∷ more)
numbered n more = four (codes "crash cases 1\n") (codes "inputs ") (decimal n) (codes "\n") more
  where
    four : (a b c d e : List ℕ) → (a ++ ((b ++ c) ++ d)) ++ e ≡ a ++ (b ++ (c ++ (d ++ e)))
    four a b c d e = simp append_assoc

pub number_read : (text rest word lines : List ℕ) (found : ℕ) → text ≡ codes "crash cases 1\ninputs " ++ rest → IsCutAt 10 rest word lines → SaysNumber word found → ReadsInputs text (Some found)
number_read text rest word lines found begins cut says = record { read = reads }
  where
    reads : (i : Option ℕ) (more : List ℕ) → IsSmallOption i → NoInputs more → text ≡ opening_text i ++ more → Some found ≡ i
    reads None more small other e = absurd (other rest (cancel (codes "crash cases 1\n") more (codes "inputs " ++ rest) (sym e ∙ begins)))
    reads (Some n) more small other e =
        let after : rest ≡ decimal n ++ 10 ∷ more = cancel (codes "crash cases 1\ninputs ") rest (decimal n ++ 10 ∷ more) (sym begins ∙ e ∙ numbered n more) in
        let parts = cut.parts (decimal n) more (line_lacks n small) after in
        ap (λ (k : ℕ). Some k) (says n small parts.0)

pub none_read : (text : List ℕ) → ((rest : List ℕ) → text ≢ codes "crash cases 1\ninputs " ++ rest) → ReadsInputs text None
none_read text lack = record { read = reads }
  where
    reads : (i : Option ℕ) (more : List ℕ) → IsSmallOption i → NoInputs more → text ≡ opening_text i ++ more → None ≡ i
    reads None more small other e = refl
    reads (Some n) more small other e = absurd (lack (decimal n ++ 10 ∷ more) (e ∙ numbered n more))

pub found_opening : (text printed rest : List ℕ) (inputs : Option ℕ) → ReadsInputs text inputs → IsSmallOption inputs → printed ≡ opening_text inputs → text ≡ printed ++ rest → IsOpening text inputs rest
found_opening text printed rest inputs reads small is begins = record { small = small; is = whole; only = only }
  where
    whole : text ≡ opening_text inputs ++ rest
    whole = begins ∙ ap (λ (bs : List ℕ). bs ++ rest) is

    only : (i : Option ℕ) (more : List ℕ) → IsSmallOption i → NoInputs more → text ≡ opening_text i ++ more → (inputs ≡ i) × (rest ≡ more)
    only i more own other e =
        let same : inputs ≡ i = reads.read i more own other e in
        (same, cancel (opening_text inputs) rest more (sym whole ∙ e ∙ ap (λ (x : Option ℕ). opening_text x ++ more) (sym same)))

pub no_opening : (text printed : List ℕ) (inputs : Option ℕ) → ReadsInputs text inputs → printed ≡ opening_text inputs → ((rest : List ℕ) → text ≢ printed ++ rest) → NoOpening text
no_opening text printed inputs reads is lack = record {
  none = λ i more own other e.
      let same : inputs ≡ i = reads.read i more own other e in
      lack more (e ∙ ap (λ (x : Option ℕ). opening_text x ++ more) (sym same) ∙ ap (λ (bs : List ℕ). bs ++ more) (sym is));
}
