-- Texts of a list, element after element: what is written, before what is still to come.
use Rattle.std.proofs.Common.{ℕ, zero, suc, ◌≡◌, ◌+◌, ◌<◌, ◌≤◌, ◌==◌, Bool, true, List, [], ◌∷◌, ◌++◌, length, append_assoc, drop, get_or, slice_get, Some, None, refl, sym, ap, ◌∙◌, arith}
use Rattle.std.proofs.lemmas.Option.{same_Some, slice_get_read}
use Rattle.std.proofs.lemmas.List.{append-nil}
use Rattle.logfmt.specs.declared.entry.Entry.{Entry}
use Rattle.losses.specs.declared.flushes.counted.MissingFlush.{MissingFlush}
use Rattle.page_parts.specs.declared.counts.CutCount.{CutCount}
use Rattle.page_parts.specs.declared.counts.JudgedKind.{JudgedKind}
use Rattle.page_parts.specs.Html.{sided_byte, sided_from}
use Rattle.page_parts.specs.Lacking.{named_text, named_from}
use Rattle.page_parts.specs.Cells.{cut_cell, strip_from}
use Rattle.page_parts.specs.Entries.{cells_text}

pub drop_next : {A : Type 0} → (xs : List A) (n : ℕ) (x : A) → slice_get xs n ≡ Some x → drop n xs ≡ x ∷ drop (n + 1) xs
drop_next {A = A} [] n x there = absurd (let bad : None ≡ Some x = there in cc)
drop_next {A = A} (y ∷ xs) zero x there = let same : y ≡ x = same_Some y x there in ap (λ (z : A). z ∷ xs) same
drop_next {A = A} (y ∷ xs) (suc n) x there = let e : suc n + 1 ≡ suc (n + 1) = omega arith in rw e (drop_next xs n x there)

pub drop_all : {A : Type 0} → (xs : List A) (n : ℕ) → length xs ≤ n → drop n xs ≡ []
drop_all [] zero past = refl
drop_all [] (suc n) past = refl
drop_all (x ∷ xs) zero past = absurd (omega (arith, past))
drop_all (x ∷ xs) (suc n) past = drop_all xs n (omega (arith, past))

-- what is written and what is to come are the whole text, with one piece more written
pub next_piece : (start before piece now rest all : List ℕ) → before ++ (piece ++ rest) ≡ start ++ all → now ≡ before ++ piece → now ++ rest ≡ start ++ all
next_piece start before piece now rest all so_far is = ap (λ (text : List ℕ). text ++ rest) is ∙ append_assoc before piece rest ∙ so_far

pub strip_more : (of : JudgedKind) (es : List Entry) (program : ℕ) (ms : List MissingFlush) (from n : ℕ) (cs : List CutCount) (c : CutCount) (start before cells now : List ℕ)
    → n < length cs → c ≡ get_or cs n c → before ++ strip_from of es program ms from (drop n cs) ≡ start ++ strip_from of es program ms 0 cs
    → cells ≡ before ++ cells_text of es program ms from c.cut → now ≡ cells ++ cut_cell es program c
    → now ++ strip_from of es program ms c.cut (drop (n + 1) cs) ≡ start ++ strip_from of es program ms 0 cs
strip_more of es program ms from n cs c start before cells now within is so_far first second =
    let split : drop n cs ≡ c ∷ drop (n + 1) cs = drop_next cs n c (slice_get_read cs (length cs) n c refl within is) in
    let opened : before ++ (cells_text of es program ms from c.cut ++ cut_cell es program c ++ strip_from of es program ms c.cut (drop (n + 1) cs)) ≡ start ++ strip_from of es program ms 0 cs =
    ap (λ (rest : List CutCount). before ++ strip_from of es program ms from rest) (sym split) ∙ so_far in
    next_piece start before (cells_text of es program ms from c.cut ++ cut_cell es program c) now _ _ opened
    (second ∙ ap (λ (text : List ℕ). text ++ cut_cell es program c) first ∙ append_assoc before (cells_text of es program ms from c.cut) (cut_cell es program c))

pub strip_end : (of : JudgedKind) (es : List Entry) (program : ℕ) (ms : List MissingFlush) (from n : ℕ) (cs : List CutCount) (start before now : List ℕ) → length cs ≤ n
    → before ++ strip_from of es program ms from (drop n cs) ≡ start ++ strip_from of es program ms 0 cs → now ≡ before ++ cells_text of es program ms from (length es)
    → now ≡ start ++ strip_from of es program ms 0 cs
strip_end of es program ms from n cs start before now past so_far is =
    is ∙ ap (λ (rest : List CutCount). before ++ strip_from of es program ms from rest) (sym (drop_all cs n past)) ∙ so_far

pub named_more : (program count n : ℕ) (ms : List MissingFlush) (m : MissingFlush) (start before now : List ℕ) → n < length ms → m ≡ get_or ms n m
    → before ++ named_from program count n (drop n ms) ≡ start ++ named_from program count 0 ms → now ≡ before ++ named_text program count n m
    → now ++ named_from program count (n + 1) (drop (n + 1) ms) ≡ start ++ named_from program count 0 ms
named_more program count n ms m start before now within is so_far written =
    let split : drop n ms ≡ m ∷ drop (n + 1) ms = drop_next ms n m (slice_get_read ms (length ms) n m refl within is) in
    let opened : before ++ (named_text program count n m ++ named_from program count (n + 1) (drop (n + 1) ms)) ≡ start ++ named_from program count 0 ms =
    ap (λ (rest : List MissingFlush). before ++ named_from program count n rest) (sym split) ∙ so_far in
    next_piece start before (named_text program count n m) now _ _ opened written

pub named_end : (program count n : ℕ) (ms : List MissingFlush) (start before : List ℕ) → length ms ≤ n
    → before ++ named_from program count n (drop n ms) ≡ start ++ named_from program count 0 ms → before ≡ start ++ named_from program count 0 ms
named_end program count n ms start before past so_far =
    sym (ap (λ (rest : List MissingFlush). before ++ named_from program count n rest) (drop_all ms n past) ∙ append-nil before) ∙ so_far

pub sided_more : (begins next : Bool) (n : ℕ) (bs : List ℕ) (b : ℕ) (start before now : List ℕ) → n < length bs → b ≡ get_or bs n b → next ≡ (b == 10)
    → before ++ sided_from begins (drop n bs) ≡ start ++ sided_from true bs → now ≡ before ++ sided_byte begins b
    → now ++ sided_from next (drop (n + 1) bs) ≡ start ++ sided_from true bs
sided_more begins next n bs b start before now within is later so_far written =
    let split : drop n bs ≡ b ∷ drop (n + 1) bs = drop_next bs n b (slice_get_read bs (length bs) n b refl within is) in
    let opened : before ++ (sided_byte begins b ++ sided_from (b == 10) (drop (n + 1) bs)) ≡ start ++ sided_from true bs =
    ap (λ (rest : List ℕ). before ++ sided_from begins rest) (sym split) ∙ so_far in
    rw later (next_piece start before (sided_byte begins b) now _ _ opened written)

pub sided_end : (begins : Bool) (n : ℕ) (bs : List ℕ) (start before : List ℕ) → length bs ≤ n
    → before ++ sided_from begins (drop n bs) ≡ start ++ sided_from true bs → before ≡ start ++ sided_from true bs
sided_end begins n bs start before past so_far =
    sym (ap (λ (rest : List ℕ). before ++ sided_from begins rest) (drop_all bs n past) ∙ append-nil before) ∙ so_far
