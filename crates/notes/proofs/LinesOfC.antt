-- Lines of C, as they are read one by one.
use Rattle.std.proofs.Common.{ℕ, ◌≡◌, ◌+◌, ◌<◌, ◌≤◌, ◌⊎◌, inl, inr, Bool, true, false, if◌then◌else◌, List, [], ◌∷◌, ◌++◌, append_assoc, length, length-append, map, nat_le, nat_lt, cond, codes, append-nil, get_or, Option, None, Some, Bor, MatchOption, bytes_eq, refl, sym, ap, ◌∙◌, arith}
use Rattle.std.specs.List.{before_first, after_first, position_or_len, slice_split, find}
use Rattle.std.specs.Option.{option_map, option_and_then}
use Rattle.std.specs.Fmt.{decimal}
use Rattle.std.proofs.lemmas.List.{take_all, drop_all, map-append, length-map}
use Rattle.std.proofs.lemmas.List.Elements.{All-from_get_or}
use Rattle.std.proofs.lemmas.List.Splits.{slice_split_none, slice_split_first, length-slice_split}
use Rattle.std.proofs.lemmas.Bool.{ne_eqb}
use Rattle.std.proofs.lemmas.Bool.Decides.{nat_tests}
use Rattle.std.proofs.lemmas.Str.Pattern.{IsSplitOnceResult, split_once_first, split_parts}
use Rattle.notes.specs.declared.sources.SourceLine.{SourceLine}
use Rattle.notes.specs.SourceLines.{LineOfC, all_said, is_blank, is_newline, line_of, onto, source_text, table_of, value_of, values_of}

-- a text is cut at its first blank; without one it is its own first word
pub cut_is : (text : List ℕ) (r : Option (Bor (List ℕ) × Bor (List ℕ))) → IsSplitOnceResult 32 text r
    → MatchOption r ((before_first is_blank text ≡ text) × (after_first is_blank text ≡ []))
    (λ x. (x.0.now ≡ before_first is_blank text) × (x.1.now ≡ after_first is_blank text))
cut_is text None split =
    let none = split_once_first 32 text None split (omega arith) in
    (take_all (position_or_len is_blank text) text (omega (arith, none)), drop_all (position_or_len is_blank text + 1) text (omega (arith, none)))
cut_is text (Some x) split =
    let (inside, front, back) = split_once_first 32 text (Some x) split (omega arith) in
    (front, back)

-- a text is cut at its first newline; without one it is its own last line
pub line_is : (text : List ℕ) (r : Option (Bor (List ℕ) × Bor (List ℕ))) → IsSplitOnceResult 10 text r
    → MatchOption r (slice_split is_newline text ≡ text ∷ [])
    (λ x. (slice_split is_newline text ≡ x.0.now ∷ slice_split is_newline x.1.now) × (length x.1.now < length text))
line_is text None split =
    let none = split_parts 10 text None split (omega arith) in
    slice_split_none is_newline text (All-from_get_or (λ (c : ℕ). is_newline c ≡ false) text 0 (λ i inside. ne_eqb (get_or text i 0) 10 (none i inside)))
line_is text (Some x) split =
    let (inside, front, back) = split_once_first 10 text (Some x) split (omega arith) in
    let whole : text ≡ x.0.now ++ 10 ∷ x.1.now = (split_parts 10 text (Some x) split (omega arith)).0 in
    let size : length text ≡ length (x.0.now ++ 10 ∷ x.1.now) = ap length whole in
    let parts = length-append x.0.now (10 ∷ x.1.now) in
    (slice_split_first is_newline text 0 inside ∙ (λ i. sym front i ∷ slice_split is_newline (sym back i)), omega (arith, size, parts))

-- what isn't there
pub not_some : {X : Type 0} (x : Option X) → ((y : X) → x ≡ Some y → ⊥) → x ≡ None
not_some None none = refl
not_some (Some y) none = absurd (none y refl)

-- lines before others, one after the other
onto_onto : (xs ys : List LineOfC) (o : Option (List LineOfC)) → onto xs (onto ys o) ≡ onto (xs ++ ys) o
onto_onto xs ys None = refl
onto_onto xs ys (Some ls) = ap (λ (l : List LineOfC). Some l) (sym (append_assoc xs ys ls))

pub onto_none : (o : Option (List LineOfC)) → o ≡ onto [] o
onto_none None = refl
onto_none (Some ls) = refl

-- what one line more says, with others after it
said_more : (line : List ℕ) (others : List (List ℕ)) → 0 < length others
    → all_said (line ∷ others) ≡ option_and_then (λ (l : LineOfC). option_map (λ (ls : List LineOfC). l ∷ ls) (all_said others)) (line_of line)
said_more line [] some = absurd (omega (arith, some))
said_more line (next ∷ more) some = refl

said_split : (line beyond : List ℕ)
    → all_said (line ∷ slice_split is_newline beyond) ≡ option_and_then (λ (l : LineOfC). option_map (λ (ls : List LineOfC). l ∷ ls) (all_said (slice_split is_newline beyond))) (line_of line)
said_split line beyond = let some = length-slice_split is_newline beyond in said_more line (slice_split is_newline beyond) (omega (arith, some))

-- a line that says nothing: nor do those that begin with it
pub says_none : (rest line beyond : List ℕ) (found : Option SourceLine) → slice_split is_newline rest ≡ line ∷ slice_split is_newline beyond → option_map value_of found ≡ line_of line
    → found ≡ None → all_said (slice_split is_newline rest) ≡ None
says_none rest line beyond found cut says none =
    let nothing : line_of line ≡ None = sym says ∙ ap (option_map value_of) none in
    ap all_said cut ∙ said_split line beyond
    ∙ ap (option_and_then (λ (l : LineOfC). option_map (λ (ls : List LineOfC). l ∷ ls) (all_said (slice_split is_newline beyond)))) nothing

-- the lines that were read, and what is left of the text
pub record Front (text rest : List ℕ) (lines : List SourceLine) : Type 0 where
  pub front : all_said (slice_split is_newline text) ≡ onto (values_of lines) (all_said (slice_split is_newline rest))

pub begin : (text : List ℕ) (lines : List SourceLine) → lines ≡ [] → Front text text lines
begin text lines none =
    record { front = onto_none (all_said (slice_split is_newline text)) ∙ ap (λ (ls : List SourceLine). onto (values_of ls) (all_said (slice_split is_newline text))) (sym none) }

pub go_on : (text rest line beyond : List ℕ) (lines more : List SourceLine) (found : Option SourceLine) (one : SourceLine) → Front text rest lines
    → slice_split is_newline rest ≡ line ∷ slice_split is_newline beyond → option_map value_of found ≡ line_of line → found ≡ Some one → more ≡ lines ++ one ∷ []
    → Front text beyond more
go_on text rest line beyond lines more found one h cut says is pushed =
    let others : Option (List LineOfC) = all_said (slice_split is_newline beyond) in
    let here : line_of line ≡ Some (value_of one) = sym says ∙ ap (option_map value_of) is in
    let next : all_said (slice_split is_newline rest) ≡ onto (value_of one ∷ []) others =
    ap all_said cut ∙ said_split line beyond ∙ ap (option_and_then (λ (l : LineOfC). option_map (λ (ls : List LineOfC). l ∷ ls) others)) here in
    let values : values_of more ≡ values_of lines ++ value_of one ∷ [] = ap (map value_of) pushed ∙ map-append value_of lines (one ∷ []) in
    record {
      front = h.front ∙ ap (onto (values_of lines)) next ∙ onto_onto (values_of lines) (value_of one ∷ []) others
          ∙ ap (λ (ls : List LineOfC). onto ls others) (sym values);
    }

-- nothing is cut off any more
last_says : Bool → Option (List LineOfC)
last_says full = if full then None else Some []

pub ends : (rest : List ℕ) → slice_split is_newline rest ≡ rest ∷ [] → (rest ≡ []) ⊎ (all_said (slice_split is_newline rest) ≡ None)
unfolding last_says
ends [] cut = inl refl
ends (c ∷ cs) cut =
    let full : nat_lt 0 (length (c ∷ cs)) ≡ true = grind (arith, nat_tests) in
    inr (ap all_said cut ∙ ap last_says full)

-- a text without bytes
no_bytes : (rest : List ℕ) → length rest ≤ 0 → rest ≡ []
no_bytes [] none = refl
no_bytes (c ∷ cs) none = absurd (omega (arith, none))

all_said_of : (bytes rest : List ℕ) (lines : List SourceLine) → Front bytes rest lines → rest ≡ [] → all_said (slice_split is_newline bytes) ≡ Some (values_of lines)
all_said_of bytes rest lines h none =
    h.front ∙ ap (λ (r : List ℕ). onto (values_of lines) (all_said (slice_split is_newline r))) none ∙ ap (λ (ls : List LineOfC). Some ls) (append-nil (values_of lines))

-- all lines were read, and they are few
pub all_read : (bytes rest : List ℕ) (lines : List SourceLine) → length bytes ≤ 1048576 → length lines ≤ 65536 → Front bytes rest lines → length rest ≤ 0 → table_of bytes ≡ Some (values_of lines)
unfolding table_of
all_read bytes rest lines short few h none =
    let said = all_said_of bytes rest lines h (no_bytes rest none) in
    let size = length-map lines value_of in
    let in_bytes : nat_le (length bytes) 1048576 ≡ true = grind (arith, nat_tests) in
    let in_lines : nat_le (length (values_of lines)) 65536 ≡ true = grind (arith, nat_tests) in
    rw (in_bytes, said, in_lines) refl

-- all lines were read, and they are too many
pub too_many : (bytes rest : List ℕ) (lines : List SourceLine) → length bytes ≤ 1048576 → 65536 < length lines → Front bytes rest lines → length rest ≤ 0 → table_of bytes ≡ None
unfolding table_of
too_many bytes rest lines short many h none =
    let said = all_said_of bytes rest lines h (no_bytes rest none) in
    let size = length-map lines value_of in
    let in_bytes : nat_le (length bytes) 1048576 ≡ true = grind (arith, nat_tests) in
    let in_lines : nat_le (length (values_of lines)) 65536 ≡ false = grind (arith, nat_tests) in
    rw (in_bytes, said, in_lines) refl

-- a line says nothing
pub unread : (bytes rest : List ℕ) (lines : List SourceLine) → length bytes ≤ 1048576 → 0 < length rest → Front bytes rest lines
    → (rest ≡ []) ⊎ (all_said (slice_split is_newline rest) ≡ None) → table_of bytes ≡ None
unfolding table_of
unread bytes rest lines short full h (inl none) = let size : length rest ≡ 0 = ap length none in absurd (omega (arith, size, full))
unread bytes rest lines short full h (inr none) =
    let said : all_said (slice_split is_newline bytes) ≡ None = h.front ∙ ap (onto (values_of lines)) none in
    let in_bytes : nat_le (length bytes) 1048576 ≡ true = grind (arith, nat_tests) in
    rw (in_bytes, said) refl

-- there are too many bytes
pub too_long : (bytes : List ℕ) → 1048576 < length bytes → table_of bytes ≡ None
unfolding table_of
too_long bytes long = let out : nat_le (length bytes) 1048576 ≡ false = grind (arith, nat_tests) in rw out refl

-- the lines of a slot among their values
find_values : (word : List ℕ) (lines : List SourceLine)
    → find (λ (l : LineOfC). bytes_eq l.slot word) (values_of lines) ≡ option_map value_of (find (λ (l : SourceLine). bytes_eq l.slot.now word) lines)
find_values word [] = refl
find_values word (l ∷ ls) = by (bytes_eq l.slot.now word) (find_values word ls)
  where
    by : (b : Bool) → find (λ (l : LineOfC). bytes_eq l.slot word) (values_of ls) ≡ option_map value_of (find (λ (l : SourceLine). bytes_eq l.slot.now word) ls)
        → cond b (Some (value_of l)) (find (λ (l : LineOfC). bytes_eq l.slot word) (values_of ls)) ≡ option_map value_of (cond b (Some l) (find (λ (l : SourceLine). bytes_eq l.slot.now word) ls))
    by true h = refl
    by false h = h

-- the line of a slot that is found, and where none is
pub source_some : (lines : List SourceLine) (slot : ℕ) (word : List ℕ) (found : Option (Bor SourceLine)) (l : Bor SourceLine) → word ≡ decimal slot
    → option_map (λ x. x.now) found ≡ find (λ (x : SourceLine). bytes_eq x.slot.now word) lines → found ≡ Some l
    → source_text (values_of lines) slot ≡ codes " # " ++ l.now.file.now ++ codes ":" ++ l.now.number.now
unfolding source_text
source_some lines slot word found l written h is =
    let one : find (λ (x : LineOfC). bytes_eq x.slot word) (values_of lines) ≡ Some (value_of l.now) =
    find_values word lines ∙ ap (option_map value_of) (sym h) ∙ ap (λ (f : Option (Bor SourceLine)). option_map value_of (option_map (λ x. x.now) f)) is in
    rw (sym written, one) refl

pub source_none : (lines : List SourceLine) (slot : ℕ) (word : List ℕ) (found : Option (Bor SourceLine)) → word ≡ decimal slot
    → option_map (λ x. x.now) found ≡ find (λ (x : SourceLine). bytes_eq x.slot.now word) lines → found ≡ None → source_text (values_of lines) slot ≡ []
unfolding source_text
source_none lines slot word found written h is =
    let one : find (λ (x : LineOfC). bytes_eq x.slot word) (values_of lines) ≡ None =
    find_values word lines ∙ ap (option_map value_of) (sym h) ∙ ap (λ (f : Option (Bor SourceLine)). option_map value_of (option_map (λ x. x.now) f)) is in
    rw (sym written, one) refl
