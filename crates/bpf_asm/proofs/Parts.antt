-- The parts of a line by what stands in front.
use Rattle.std.proofs.Common.{◌≡◌, ℕ, zero, suc, ◌+◌, ◌<◌, ◌≤◌, inl, inr, Bool, true, false, if◌then◌else◌, List, [], ◌∷◌, ◌++◌, length, get_or, take, drop, refl, sym, ap, ◌∙◌, add-one, arith, None}
use Rattle.std.proofs.Math.Seq.{drop-cons, drop-length}
use Rattle.std.proofs.lemmas.List.{take_more, take-append-drop}
use Rattle.std.proofs.lemmas.Bool.{cases_Bool, ne_eqb}
use Rattle.std.proofs.lemmas.Bool.Decides.{nat_tests}
use Rattle.bpf_asm.specs.Parts.{Part, Word, Mark, parts, goes_on, in_front, is_word_character, begins_comment, is_blank, first_word, first_mark, is_none_left, IsWord, IsFront}

pub is_word_append : (w v : List ℕ) → IsWord w → IsWord v → IsWord (w ++ v)
is_word_append [] v a b = b
is_word_append (c ∷ w) v a b = (a.0, is_word_append w v a.1 b)

-- one character more of a word
pub word_more : (line : List ℕ) (i : ℕ) → i < length line → is_word_character (get_or line i 0) ≡ true → IsWord (take i line) → IsWord (take (i + 1) line)
word_more line i there e w = rw (take_more line i 0 there) (is_word_append (take i line) (get_or line i 0 ∷ []) w (e, tt))

pub drop_there : (line : List ℕ) (i : ℕ) → i < length line → drop i line ≡ get_or line i 0 ∷ drop (i + 1) line
drop_there line i there = rw (add-one i) (drop-cons line i 0 there)

-- a word ends where another character stands
pub word_ends : (line : List ℕ) (i : ℕ) → i < length line → is_word_character (get_or line i 0) ≡ false → goes_on (drop i line) ≡ false
unfolding goes_on
word_ends line i there e = rw (drop_there line i there) e

word_step : (c : ℕ) (rest : List ℕ) → is_word_character c ≡ true → parts (c ∷ rest) ≡ in_front c (goes_on rest) (parts rest)
unfolding parts
word_step c rest e = rw e refl

goes_there : (c : ℕ) (rest : List ℕ) → is_word_character c ≡ true → goes_on (c ∷ rest) ≡ true
unfolding goes_on
goes_there c rest e = e

-- a whole word in front, where it does not go on after
pub word_parts : (c : ℕ) (w rest : List ℕ) → IsWord (c ∷ w) → goes_on rest ≡ false → parts ((c ∷ w) ++ rest) ≡ Word (c ∷ w) ∷ parts rest
word_parts c [] rest h e = word_step c rest h.0 ∙ ap (λ (b : Bool). in_front c b (parts rest)) e
word_parts c (d ∷ w) rest h e =
    word_step c ((d ∷ w) ++ rest) h.0 ∙ rw (goes_there d (w ++ rest) h.1.0, word_parts d w rest h.1 e) refl

-- nothing goes on after the end
pub past_end : (line : List ℕ) → goes_on (drop (length line) line) ≡ false
unfolding goes_on
past_end line = rw (drop-length line) refl

-- a blank is no character of a word
blank_is_none : (c : ℕ) → is_blank c ≡ true → is_word_character c ≡ false
unfolding is_word_character
blank_is_none c e = grind (arith, nat_tests)

pub blank_front : (c : ℕ) (rest : List ℕ) → is_blank c ≡ true → parts (c ∷ rest) ≡ parts rest
unfolding parts
blank_front c rest e =
    let other : begins_comment c ≡ false = grind (arith, nat_tests) in
    rw (blank_is_none c e, other, e) refl

-- one blank more
pub blank_more : (line : List ℕ) (i : ℕ) → i < length line → is_blank (get_or line i 0) ≡ true → parts (drop i line) ≡ parts line → parts (drop (i + 1) line) ≡ parts line
blank_more line i there e so_far = sym (blank_front (get_or line i 0) (drop (i + 1) line) e) ∙ ap parts (sym (drop_there line i there)) ∙ so_far

pub front_there : (line : List ℕ) (i : ℕ) → i < length line → is_blank (get_or line i 0) ≡ false → IsFront (drop i line)
front_there line i there e = rw (drop_there line i there) e

-- the parts of a line that begins with no blank
pub parts_of_front : (line : List ℕ) → 0 < length line → parts line ≡ parts (get_or line 0 0 ∷ drop 1 line)
parts_of_front line some = ap parts (drop_there line 0 some)

-- A line that begins with no blank, by its first character.

nothing_there : (line : List ℕ) → length line ≡ 0 → line ≡ []
nothing_there [] e = refl
nothing_there (c ∷ line) e = absurd (omega arith)

pub empty_parts : (line : List ℕ) → length line ≡ 0 → parts line ≡ []
unfolding parts
empty_parts line e = rw (nothing_there line e) refl

pub comment_parts : (line : List ℕ) → 0 < length line → get_or line 0 0 ≡ 59 → parts line ≡ []
unfolding parts is_word_character
comment_parts [] some e = absurd (omega arith)
comment_parts (c ∷ line) some e = let is : c ≡ 59 = e in rw is refl

-- the first part of a line that begins with a character of a word is a word
begins_word : (c : ℕ) (b : Bool) (ps : List Part) → first_mark (in_front c b ps) ≡ None
begins_word c true [] = refl
begins_word c true (Word w ∷ ps) = refl
begins_word c true (Mark m ∷ ps) = refl
begins_word c false ps = refl

pub no_mark : (line : List ℕ) → 0 < length line → is_word_character (get_or line 0 0) ≡ true → first_mark (parts line) ≡ None
unfolding parts
no_mark [] some e = absurd (omega arith)
no_mark (c ∷ line) some e = let is : is_word_character c ≡ true = e in rw is (begins_word c (goes_on line) (parts line))

-- a mark
pub mark_parts : (line : List ℕ) → 0 < length line → IsFront line → is_word_character (get_or line 0 0) ≡ false → (get_or line 0 0 ≡ 59 → ⊥)
    → parts line ≡ Mark (get_or line 0 0) ∷ parts (drop 1 line)
unfolding parts
mark_parts [] some front other no_comment = absurd (omega arith)
mark_parts (c ∷ line) some front other no_comment =
    let is : is_word_character c ≡ false = other in
    let plain : begins_comment c ≡ false = ne_eqb c 59 no_comment in
    rw (is, plain, front) refl

-- a line that begins with no blank and no character of a word begins with no word
other_first : (b : Bool) (m : ℕ) (ps : List Part) → first_word (if b then [] else (Mark m ∷ ps)) ≡ None
other_first true m ps = refl
other_first false m ps = refl

other_step : (c : ℕ) (rest : List ℕ) → is_word_character c ≡ false → is_blank c ≡ false → parts (c ∷ rest) ≡ (if begins_comment c then [] else (Mark c ∷ parts rest))
unfolding parts
other_step c rest e blank = rw (e, blank) refl

goes_here : (c : ℕ) (rest : List ℕ) → goes_on (c ∷ rest) ≡ is_word_character c
unfolding goes_on
goes_here c rest = refl

no_parts : first_word (parts []) ≡ None
unfolding parts
no_parts = refl

pub no_word : (line : List ℕ) → IsFront line → goes_on line ≡ false → first_word (parts line) ≡ None
no_word [] front e = no_parts
no_word (c ∷ line) front e = ap first_word (other_step c line (sym (goes_here c line) ∙ e) front) ∙ other_first (begins_comment c) c (parts line)

-- the word in front, by its length
pub word_taken : (line : List ℕ) (n : ℕ) → 0 < n → n ≤ length line → IsWord (take n line) → goes_on (drop n line) ≡ false
    → parts line ≡ Word (take n line) ∷ parts (drop n line)
word_taken [] n some within w e = absurd (omega arith)
word_taken (c ∷ line) zero some within w e = absurd (omega arith)
word_taken (c ∷ line) (suc n) some within w e =
    ap parts (sym (take-append-drop (suc n) (c ∷ line))) ∙ word_parts c (take n line) (drop n line) w e

some_left : (c : ℕ) (b : Bool) (ps : List Part) → is_none_left (in_front c b ps) ≡ false
some_left c true [] = refl
some_left c true (Word w ∷ ps) = refl
some_left c true (Mark m ∷ ps) = refl
some_left c false ps = refl

-- a part is left
pub mark_is_left : (line : List ℕ) → 0 < length line → IsFront line → (get_or line 0 0 ≡ 59 → ⊥) → is_none_left (parts line) ≡ false
mark_is_left [] some front no_comment = absurd (omega arith)
mark_is_left (c ∷ line) some front no_comment = elim (cases_Bool (is_word_character c)) [
  | inl y ↦ ap is_none_left (word_step c line y) ∙ some_left c (goes_on line) (parts line)
  | inr n ↦
      let plain : begins_comment c ≡ false = ne_eqb c 59 no_comment in
      ap is_none_left (other_step c line n front ∙ ap (λ (b : Bool). if b then [] else (Mark c ∷ parts line)) plain)
]
