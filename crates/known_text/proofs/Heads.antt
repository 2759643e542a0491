-- The lines of a head, word by word.
use Rattle.std.proofs.Common.{ℕ, ◌≡◌, ◌≢◌, ◌<◌, ◌^◌, true, List, ◌∷◌, ◌++◌, append_assoc, Result, Ok, Err, IfErr, MatchResult, sym, subst, ap, ◌∙◌, arith}
use Rattle.std.specs.Fmt.{decimal}
use Rattle.std.specs.Str.{IsUtf8}
use Rattle.std.proofs.lemmas.Bool.Decides.{nat_tests}
use Rattle.std.proofs.lemmas.Fmt.{IsAscii-decimal}
use Rattle.std.proofs.lemmas.List.{append_cancel_left}
use Rattle.std.proofs.lemmas.Str.{IsUtf8-from_ascii}
use Rattle.report.specs.MarkReading.{lacks}
use Rattle.known_text.specs.declared.head.HeadLine.{HeadLine}
use Rattle.known_text.specs.declared.head.HeadLine.TheVariants.{Inputs, Program, Sum}
use Rattle.known_text.specs.declared.fault.KnownFault.{KnownFault}
use Rattle.known_text.specs.Reading.{IsCut, NoCut}
use Rattle.known_text.specs.Texts.{HasForm, IsDecimal, front_of, line_of}
use Rattle.known_text.specs.Pieces.{HasWord, NoWord, WordFault, word_other, other_at}
use Rattle.known_text.proofs.Plain.{no_newline, printed}
use Rattle.known_text.proofs.RangesRead.{NoDigit, number_lacks}
use Rattle.known_text.proofs.Texts.{one_cut, has_it}

-- NUMBERS

pub some_decimal : (text printed : List ℕ) (said : ℕ) → said < 2 ^ 64 → printed ≡ decimal said → printed ≡ text → IsDecimal text
some_decimal text printed said small is same = record { number = said; small = small; is = sym same ∙ is }

pub no_decimal : (text printed : List ℕ) (said : ℕ) → ((n : ℕ) → n < 2 ^ 64 → text ≡ decimal n → said ≡ n) → printed ≡ decimal said → (printed ≡ text → ⊥) → IsDecimal text → ⊥
no_decimal text printed said read is other it = other (is ∙ ap decimal (read it.number it.small it.is) ∙ sym it.is)

pub no_text : (word : List ℕ) → (IsUtf8 word → ⊥) → IsDecimal word → ⊥
no_text word other it = other (subst IsUtf8 (sym it.is) (IsUtf8-from_ascii (decimal it.number) (IsAscii-decimal it.number it.small)))

-- NO WORD HAS A NEWLINE

newline_digits : NoDigit 10
newline_digits k small = grind (arith, nat_tests)

pub form_lacks : (kind : HeadLine) (word : List ℕ) → HasForm kind word → lacks 10 word ≡ true
form_lacks Inputs word form = ap (lacks 10) form.is ∙ number_lacks 10 form.number newline_digits form.small
form_lacks Program word form = no_newline word form.printed
form_lacks Sum word form = no_newline word (printed word form.graphic)

-- A LINE BY ITS FRONT AND ITS WORD

pub line_is : (kind : HeadLine) (word more : List ℕ) → line_of kind word ++ 10 ∷ more ≡ front_of kind ++ (word ++ 10 ∷ more)
line_is kind word more = append_assoc (front_of kind) word (10 ∷ more)

pub other_front : (kind : HeadLine) (bytes : List ℕ) → ((rest : List ℕ) → bytes ≢ front_of kind ++ rest) → NoWord kind bytes
other_front kind bytes none = record { none = λ word more form e. none (word ++ 10 ∷ more) (e ∙ line_is kind word more) }

-- what stands after the front
begun_is : (kind : HeadLine) (bytes begun word more : List ℕ) → bytes ≡ front_of kind ++ begun → bytes ≡ line_of kind word ++ 10 ∷ more → begun ≡ word ++ 10 ∷ more
begun_is kind bytes begun word more is e = append_cancel_left (front_of kind) begun (word ++ 10 ∷ more) (sym is ∙ e ∙ line_is kind word more)

pub cut_off : (kind : HeadLine) (bytes begun : List ℕ) → bytes ≡ front_of kind ++ begun → NoCut 10 begun → NoWord kind bytes
cut_off kind bytes begun is lack = record {
  none = λ word more form e. has_it 10 word more (subst (λ (bs : List ℕ). lacks 10 bs ≡ true) (begun_is kind bytes begun word more is e) lack.none);
}

-- a line has one word
pub one_word : (kind : HeadLine) (bytes word rest said more : List ℕ) → lacks 10 word ≡ true → lacks 10 said ≡ true → bytes ≡ line_of kind word ++ 10 ∷ rest → bytes ≡ line_of kind said ++ 10 ∷ more
    → (word ≡ said) × (rest ≡ more)
one_word kind bytes word rest said more own lack is e =
    one_cut 10 word said rest more own lack (sym (begun_is kind bytes (word ++ 10 ∷ rest) word rest (is ∙ line_is kind word rest) is) ∙ begun_is kind bytes (word ++ 10 ∷ rest) said more (is ∙ line_is kind word rest) e)

pub other_form : (kind : HeadLine) (bytes begun word rest : List ℕ) → bytes ≡ front_of kind ++ begun → IsCut 10 begun word rest → (HasForm kind word → ⊥) → NoWord kind bytes
other_form kind bytes begun word rest is cut other = record {
  none = λ said more form e.
      let parts = one_cut 10 word said rest more cut.first (form_lacks kind said form) (sym cut.is ∙ begun_is kind bytes begun said more is e) in
      other (subst (HasForm kind) (sym parts.0) form);
}

pub word_found : (kind : HeadLine) (bytes begun word rest : List ℕ) → bytes ≡ front_of kind ++ begun → IsCut 10 begun word rest → HasForm kind word → HasWord kind bytes word rest
word_found kind bytes begun word rest is cut form = record {
  form = form;
  is = is ∙ ap (λ (bs : List ℕ). front_of kind ++ bs) cut.is ∙ sym (line_is kind word rest);
}

pub own_found : (kind : HeadLine) (bytes said word rest own : List ℕ) → HasWord kind bytes said rest → (own ≡ rest) × (said ≡ word) → bytes ≡ line_of kind word ++ 10 ∷ own
own_found kind bytes said word rest own has same = has.is ∙ ap (λ (bs : List ℕ). line_of kind bs ++ 10 ∷ rest) same.1 ∙ ap (λ (bs : List ℕ). line_of kind word ++ 10 ∷ bs) (sym same.0)

pub other_word : (kind : HeadLine) (word bytes said rest : List ℕ) (line : ℕ) (f : KnownFault) → HasWord kind bytes said rest → (f ≡ other_at line) × (said ≢ word) → WordFault kind word bytes line f
other_word kind word bytes said rest line f has is = word_other said rest is.0 has is.1

-- what is refused by one call is by another
pub if_err : {X F : Type 0} (A : X → Type 0) (B C : F → Type 0) (r : Result X F) → ((f : F) → B f → C f) → MatchResult r A B → IfErr r C
if_err A B C (Ok x) go h = tt
if_err A B C (Err f) go h = go f h
