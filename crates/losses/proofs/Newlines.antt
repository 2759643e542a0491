-- Lines, found in the text of all of them.
use Rattle.std.proofs.Common.{ℕ, zero, suc, ◌≡◌, ◌≢◌, ◌+◌, ◌-◌, ◌<◌, ◌≤◌, ◌==◌, Bool, true, false, if◌then◌else◌, List, [], ◌∷◌, ◌++◌, length, length-append, take, drop, codes, slice_get, slice_index_or, None, Some, add-one, inl, inr, append_assoc, refl, sym, ◌∙◌, ap, subst, arith}
use Rattle.std.specs.Fmt.{decimal}
use Rattle.std.specs.List.{flat_map}
use Rattle.std.proofs.lemmas.Bool.Decides.{eqb_tells}
use Rattle.std.proofs.lemmas.Option.{slice_get-get_or}
use Rattle.base.proofs.Lists.{take-suc_place}
use Rattle.std.proofs.lemmas.List.{take_all, length-drop}
use Rattle.machine.specs.Outcome.{Verdict}
use Rattle.epochs.specs.declared.part.By.TheVariants as by
use Rattle.report.specs.Line.{FailingLine}
use Rattle.report.specs.MarkReading.{lacks}
use Rattle.report.specs.LineText.{codes_text, choice_text, line_text}
use Rattle.report.proofs.Back.{lacks_both, end_of, end_lacks, words_of}
use Rattle.losses.specs.Printed.{EndsLine, IsAfter, IsPrinted}

-- parts of a text without c have none
both_lack : (c : ℕ) (xs ys : List ℕ) → lacks c (xs ++ ys) ≡ true → (lacks c xs ≡ true) × (lacks c ys ≡ true)
both_lack c [] ys l = (refl, l)
both_lack c (x ∷ xs) ys l = by_test (x == c) (both_lack c xs ys) l
  where
    by_test : (t : Bool) → (lacks c (xs ++ ys) ≡ true → (lacks c xs ≡ true) × (lacks c ys ≡ true)) → (if t then false else lacks c (xs ++ ys)) ≡ true
        → ((if t then false else lacks c xs) ≡ true) × (lacks c ys ≡ true)
    by_test true rest bad = absurd cc
    by_test false rest own = rest own

-- no number has a newline
number_lacks : (n : ℕ) → lacks 10 (decimal n) ≡ true
number_lacks n =
    let line : FailingLine = record { image = 0; cut = 0; program = 0; ending = Verdict n []; by = by.Sector; departures = [] } in
    let all : lacks 10 (((((codes "answer " ++ decimal n) ++ codes " codes ") ++ codes_text []) ++ codes " choice ") ++ choice_text by.Sector []) ≡ true = end_lacks line in
    let first = (both_lack 10 ((((codes "answer " ++ decimal n) ++ codes " codes ") ++ codes_text []) ++ codes " choice ") (choice_text by.Sector []) all).0 in
    let ending = (both_lack 10 (((codes "answer " ++ decimal n) ++ codes " codes ") ++ codes_text []) (codes " choice ") first).0 in
    let answer = (both_lack 10 ((codes "answer " ++ decimal n) ++ codes " codes ") (codes_text []) ending).0 in
    let word = (both_lack 10 (codes "answer " ++ decimal n) (codes " codes ") answer).0 in
    (both_lack 10 (codes "answer ") (decimal n) word).1

-- a line without its newline
abbrev body_of : FailingLine → List ℕ
body_of l = codes "image " ++ (decimal l.image ++ (codes " cut " ++ (decimal l.cut ++ (codes " program " ++ (decimal l.program ++ (codes " " ++ end_of l))))))

body_lacks : (l : FailingLine) → lacks 10 (body_of l) ≡ true
body_lacks l =
    let end = lacks_both 10 (codes " ") (end_of l) refl (end_lacks l) in
    let program = lacks_both 10 (decimal l.program) (codes " " ++ end_of l) (number_lacks l.program) end in
    let third = lacks_both 10 (codes " program ") (decimal l.program ++ (codes " " ++ end_of l)) refl program in
    let cut = lacks_both 10 (decimal l.cut) (codes " program " ++ (decimal l.program ++ (codes " " ++ end_of l))) (number_lacks l.cut) third in
    let second = lacks_both 10 (codes " cut ") (decimal l.cut ++ (codes " program " ++ (decimal l.program ++ (codes " " ++ end_of l)))) refl cut in
    let image = lacks_both 10 (decimal l.image) (codes " cut " ++ (decimal l.cut ++ (codes " program " ++ (decimal l.program ++ (codes " " ++ end_of l))))) (number_lacks l.image) second in
    lacks_both 10 (codes "image ") (decimal l.image ++ (codes " cut " ++ (decimal l.cut ++ (codes " program " ++ (decimal l.program ++ (codes " " ++ end_of l)))))) refl image

line_and : (l : FailingLine) (more : List ℕ) → line_text l ++ more ≡ body_of l ++ 10 ∷ more
line_and l more = words_of l more ∙ sym (simp append_assoc)

-- no newline so far, and none here
pub lacks_more : (xs : List ℕ) (x : ℕ) → lacks 10 xs ≡ true → (x == 10) ≡ false → lacks 10 (xs ++ x ∷ []) ≡ true
lacks_more xs x own other = lacks_both 10 xs (x ∷ []) own (rw other refl)

-- the first newline is where there is none before it
pub first_newline : (text : List ℕ) (i : ℕ) → lacks 10 (take i text) ≡ true → slice_get text i ≡ Some 10 → (xs ys : List ℕ) → lacks 10 xs ≡ true → text ≡ xs ++ 10 ∷ ys → i ≡ length xs
first_newline [] i none here xs ys lack same = absurd (let bad : None ≡ Some 10 = here in cc)
first_newline (b ∷ bs) zero none here [] ys lack same = refl
first_newline (b ∷ bs) (suc i) none here [] ys lack same = absurd (let is : b ≡ 10 = cc in let bad : lacks 10 (10 ∷ take i bs) ≡ true = subst (λ k. lacks 10 (k ∷ take i bs) ≡ true) is none in let no : false ≡ true = bad in cc)
first_newline (b ∷ bs) zero none here (x ∷ xs) ys lack same =
    absurd (let own : b ≡ 10 = cc in let is : b ≡ x = cc in let bad : lacks 10 (10 ∷ xs) ≡ true = subst (λ k. lacks 10 (k ∷ xs) ≡ true) (sym is ∙ own) lack in let no : false ≡ true = bad in cc)
first_newline (b ∷ bs) (suc i) none here (x ∷ xs) ys lack same =
    let rest = first_newline bs i (beyond b (take i bs) none) here xs ys (beyond x xs lack) (let tails : bs ≡ xs ++ 10 ∷ ys = cc in tails) in
    omega (arith, rest)
  where
    beyond : (x : ℕ) (xs : List ℕ) → lacks 10 (x ∷ xs) ≡ true → lacks 10 xs ≡ true
    beyond x xs own = by_test (x == 10) own
      where
        by_test : (t : Bool) → (if t then false else lacks 10 xs) ≡ true → lacks 10 xs ≡ true
        by_test true bad = absurd cc
        by_test false own = own

-- where there is none, nothing is asked
no_newline : (xs ys : List ℕ) → lacks 10 (xs ++ 10 ∷ ys) ≡ true → ⊥
no_newline xs ys own = let bad : false ≡ true = (both_lack 10 xs (10 ∷ ys) own).1 in cc

pub ends_here : (text : List ℕ) (i : ℕ) → lacks 10 (take i text) ≡ true → slice_get text i ≡ Some 10 → EndsLine text (i + 1)
ends_here text i none here = record { first = λ xs ys lack same. let is = first_newline text i none here xs ys lack same in omega (arith, is) }

pub ends_nowhere : (text : List ℕ) (n : ℕ) → lacks 10 text ≡ true → EndsLine text n
ends_nowhere text n none = record { first = λ xs ys lack same. absurd (no_newline xs ys (subst (λ t. lacks 10 t ≡ true) same none)) }

-- where a text of lines ends its first line
line_end : (text : List ℕ) (n : ℕ) (l : FailingLine) (more : List ℕ) → EndsLine text n → text ≡ line_text l ++ more → n ≡ length (line_text l)
line_end text n l more ends same =
    let is = ends.first (body_of l) more (body_lacks l) (same ∙ line_and l more) in
    let whole : length (line_text l ++ more) ≡ length (body_of l ++ 10 ∷ more) = ap (length {A = ℕ}) (line_and l more) in
    omega (arith, is, whole, length-append (line_text l) more, length-append (body_of l) (10 ∷ more))

drop_front : (xs ys : List ℕ) → drop (length xs) (xs ++ ys) ≡ ys
drop_front [] ys = refl
drop_front (x ∷ xs) ys = drop_front xs ys

take_front : (xs ys : List ℕ) → take (length xs) (xs ++ ys) ≡ xs
take_front [] ys = refl
take_front (x ∷ xs) ys = ap (λ (zs : List ℕ). x ∷ zs) (take_front xs ys)

drop_none : (n : ℕ) → drop {A = ℕ} n [] ≡ []
drop_none zero = refl
drop_none (suc n) = refl

-- the lines after the first ones
beyond-more : (ls : List FailingLine) (n : ℕ) (rest : List ℕ) (end : ℕ) → rest ≡ flat_map line_text (drop n ls) → EndsLine rest end → end ≤ length rest
    → drop end rest ≡ flat_map line_text (drop (suc n) ls)
beyond-more [] zero rest end same ends within = let none : rest ≡ [] = same in rw none (drop_none end)
beyond-more [] (suc n) rest end same ends within = let none : rest ≡ [] = same in rw none (drop_none end)
beyond-more (l ∷ ls) zero rest end same ends within =
    rw (line_end rest end l (flat_map line_text ls) ends same, same) (drop_front (line_text l) (flat_map line_text ls))
beyond-more (l ∷ ls) (suc n) rest end same ends within = beyond-more ls n rest end same ends within

pub after_start : (text : List ℕ) → IsAfter text 0 text
after_start text = record { read = λ ls same. same }

after_next : (text : List ℕ) (n : ℕ) (rest : List ℕ) (end : ℕ) → IsAfter text n rest → EndsLine rest end → end ≤ length rest → IsAfter text (n + 1) (drop end rest)
after_next text n rest end so ends within =
    subst (λ (k : ℕ). IsAfter text k (drop end rest)) (sym (add-one n)) (record { read = λ ls same. beyond-more ls n rest end (so.read ls same) ends within })

-- the lines from one on
from_line : (ls : List FailingLine) (n : ℕ) (l : FailingLine) → slice_get ls n ≡ Some l → drop n ls ≡ l ∷ drop (suc n) ls
from_line [] n l here = absurd (let bad : None ≡ Some l = here in cc)
from_line (x ∷ ls) zero l here = let same : x ≡ l = (let e : Some x ≡ Some l = here in cc) in ap (λ (y : FailingLine). y ∷ ls) same
from_line (x ∷ ls) (suc n) l here = from_line ls n l here

pub printed_line : (text : List ℕ) (n : ℕ) (rest : List ℕ) (end : ℕ) → IsAfter text n rest → EndsLine rest end → IsPrinted text n (take end rest)
printed_line text n rest end so ends =
    record {
      read = λ ls l same here.
          let whole : rest ≡ line_text l ++ flat_map line_text (drop (suc n) ls) = so.read ls same ∙ ap (flat_map line_text) (from_line ls n l here) in
          rw (line_end rest end l (flat_map line_text (drop (suc n) ls)) ends whole, whole) (take_front (line_text l) (flat_map line_text (drop (suc n) ls)));
    }

-- by the byte at a place
pub ends_at : (text : List ℕ) (i : ℕ) → i < length text → lacks 10 (take i text) ≡ true → slice_index_or text i 0 ≡ 10 → EndsLine text (i + 1)
ends_at text i small none is = ends_here text i none (slice_get-get_or text i 0 small ∙ ap (λ (b : ℕ). Some b) is)

pub lacks_next : (text : List ℕ) (i : ℕ) → i < length text → lacks 10 (take i text) ≡ true → (slice_index_or text i 0 ≢ 10) → lacks 10 (take (i + 1) text) ≡ true
lacks_next text i small none other =
    let more : take (i + 1) text ≡ take i text ++ slice_index_or text i 0 ∷ [] = ap (λ n. take n text) (add-one i) ∙ take-suc_place text i (slice_index_or text i 0) (slice_get-get_or text i 0 small) in
    let test : (slice_index_or text i 0 == 10) ≡ false = elim (eqb_tells (slice_index_or text i 0) 10) [ inl same ↦ absurd (other same.1) | inr off ↦ off.0 ] in
    rw more (lacks_more (take i text) (slice_index_or text i 0) none test)

pub ends_last : (text : List ℕ) (i n : ℕ) → length text ≤ i → lacks 10 (take i text) ≡ true → EndsLine text n
ends_last text i n past none = ends_nowhere text n (subst (λ (t : List ℕ). lacks 10 t ≡ true) (take_all i text past) none)

-- the same of a slice up to the end of a text
whole_slice : (xs : List ℕ) (end : ℕ) → end ≤ length xs → take (length xs - end) (drop end xs) ≡ drop end xs
whole_slice xs end within = take_all (length xs - end) (drop end xs) (let long = length-drop end xs in omega (arith, long))

pub after_slice : (text : List ℕ) (n : ℕ) (rest : List ℕ) (end : ℕ) → IsAfter text n rest → EndsLine rest end → end ≤ length rest
    → IsAfter text (n + 1) (take (length rest - end) (drop end rest))
after_slice text n rest end so ends within = subst (λ (r : List ℕ). IsAfter text (n + 1) r) (sym (whole_slice rest end within)) (after_next text n rest end so ends within)
