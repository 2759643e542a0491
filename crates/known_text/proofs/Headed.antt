-- The lines of a head, one after the other.
use Rattle.std.proofs.Common.{ℕ, ◌≡◌, ◌≢◌, ◌+◌, ◌<◌, ◌^◌, List, ◌∷◌, ◌++◌, subst, ap, ◌∙◌}
use Rattle.std.specs.Fmt.{decimal}
use Rattle.known_text.specs.declared.head.HeadLine.TheVariants.{Inputs, Program, Sum}
use Rattle.known_text.specs.declared.fault.KnownFault.{KnownFault}
use Rattle.known_text.specs.Texts.{HeadValue, IsHead, HasForm, line_of, ended, title}
use Rattle.known_text.specs.Pieces.{AnyFault, WordFault, HasWord, HasProgram, HasHead, HasFirst, ProgramFault, in_program, in_sum, HeadFault, in_inputs, in_rest, AnyProgramFault, any_program, any_sum, FirstFault, first_title, first_inputs, first_rest, unread_at}

pub inputs_form : (n : ℕ) (digits : List ℕ) → n < 2 ^ 64 → digits ≡ decimal n → HasForm Inputs digits
inputs_form n digits small is = record { number = n; small = small; is = is }

-- THE LINES OF A HEAD THAT IS KNOWN

pub sum_there : (h : HeadValue) (bytes rest last : List ℕ) → IsHead h → bytes ≡ line_of Program h.words ++ 10 ∷ rest → rest ≡ line_of Sum h.sum ++ 10 ∷ last → HasProgram h bytes last
sum_there h bytes rest last head is next = record { head = head; is = is ∙ ap (λ (bs : List ℕ). line_of Program h.words ++ 10 ∷ bs) next }

pub sum_other : (h : HeadValue) (bytes rest : List ℕ) (line : ℕ) (f : KnownFault) → bytes ≡ line_of Program h.words ++ 10 ∷ rest → WordFault Sum h.sum rest (line + 1) f → ProgramFault h bytes line f
sum_other h bytes rest line f is fault = in_sum rest is fault

pub program_other : (h : HeadValue) (bytes : List ℕ) (line : ℕ) (f : KnownFault) → WordFault Program h.words bytes line f → ProgramFault h bytes line f
program_other h bytes line f fault = in_program fault

pub head_there : (n : ℕ) (digits : List ℕ) (h : HeadValue) (bytes rest last : List ℕ) → digits ≡ decimal n → bytes ≡ line_of Inputs digits ++ 10 ∷ rest → HasProgram h rest last → HasHead n h bytes last
head_there n digits h bytes rest last own is has = record { last = rest; is = is ∙ ap (λ (bs : List ℕ). line_of Inputs bs ++ 10 ∷ rest) own; has = has }

pub rest_other : (n : ℕ) (digits : List ℕ) (h : HeadValue) (bytes rest : List ℕ) (line : ℕ) (f : KnownFault) → digits ≡ decimal n → bytes ≡ line_of Inputs digits ++ 10 ∷ rest → ProgramFault h rest (line + 1) f
    → HeadFault n h bytes line f
rest_other n digits h bytes rest line f own is fault = in_rest rest (is ∙ ap (λ (bs : List ℕ). line_of Inputs bs ++ 10 ∷ rest) own) fault

pub inputs_other : (n : ℕ) (digits : List ℕ) (h : HeadValue) (bytes : List ℕ) (line : ℕ) (f : KnownFault) → digits ≡ decimal n → WordFault Inputs digits bytes line f → HeadFault n h bytes line f
inputs_other n digits h bytes line f own fault = in_inputs (subst (λ (bs : List ℕ). WordFault Inputs bs bytes line f) own fault)

-- THOSE OF THE FIRST HEAD

pub any_there : (h : HeadValue) (bytes rest last : List ℕ) → HasWord Program bytes h.words rest → HasWord Sum rest h.sum last → HasProgram h bytes last
any_there h bytes rest last one two = record {
  head = record { words = one.form; sum = two.form };
  is = one.is ∙ ap (λ (bs : List ℕ). line_of Program h.words ++ 10 ∷ bs) two.is;
}

pub any_sum_other : (bytes words rest : List ℕ) (f : KnownFault) → HasWord Program bytes words rest → AnyFault Sum rest 4 f → AnyProgramFault bytes f
any_sum_other bytes words rest f one fault = any_sum words rest one fault

pub any_program_other : (bytes : List ℕ) (f : KnownFault) → AnyFault Program bytes 3 f → AnyProgramFault bytes f
any_program_other bytes f fault = any_program fault

pub first_there : (n : ℕ) (digits : List ℕ) (h : HeadValue) (bytes after rest last : List ℕ) → digits ≡ decimal n → bytes ≡ ended title ++ after → after ≡ line_of Inputs digits ++ 10 ∷ rest → HasProgram h rest last
    → HasFirst n h bytes last
first_there n digits h bytes after rest last own titled is has = record { after = after; is = titled; has = head_there n digits h after rest last own is has }

pub first_rest_other : (n : ℕ) (digits : List ℕ) (bytes after rest : List ℕ) (f : KnownFault) → digits ≡ decimal n → bytes ≡ ended title ++ after → after ≡ line_of Inputs digits ++ 10 ∷ rest → AnyProgramFault rest f
    → FirstFault n bytes f
first_rest_other n digits bytes after rest f own titled is fault = first_rest after rest titled (is ∙ ap (λ (bs : List ℕ). line_of Inputs bs ++ 10 ∷ rest) own) fault

pub first_inputs_other : (n : ℕ) (digits : List ℕ) (bytes after : List ℕ) (f : KnownFault) → digits ≡ decimal n → bytes ≡ ended title ++ after → WordFault Inputs digits after 2 f → FirstFault n bytes f
first_inputs_other n digits bytes after f own titled fault = first_inputs after titled (subst (λ (bs : List ℕ). WordFault Inputs bs after 2 f) own fault)

pub first_title_other : (n : ℕ) (bytes : List ℕ) (f : KnownFault) → ((rest : List ℕ) → bytes ≢ ended title ++ rest) → f ≡ unread_at 1 → FirstFault n bytes f
first_title_other n bytes f none is = first_title is none
