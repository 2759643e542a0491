-- The lines of a text of records say in one way what it is.
use Rattle.std.proofs.Common.{ℕ, suc, ◌≡◌, ◌+◌, ◌≤◌, true, List, [], ◌∷◌, ◌++◌, length, length-append, get_or, drop, append_assoc, codes, refl, sym, subst, ap, ◌∙◌, arith}
use Rattle.std.specs.Fmt.{decimal}
use Rattle.std.specs.List.{list_all}
use Rattle.std.proofs.lemmas.List.{append_cancel_left}
use Rattle.report.specs.MarkReading.{lacks}
use Rattle.known_text.specs.declared.head.HeadLine.{HeadLine}
use Rattle.known_text.specs.declared.head.HeadLine.TheVariants.{Inputs, Program, Sum}
use Rattle.known_text.specs.Records.{RanValue, RanWords, IsRan, ran_text}
use Rattle.known_text.specs.Texts.{Source, HeadValue, IsHead, Piece, Head, Ran, AreGood, AreLines, is_printed, line_of, lines_of, runs_of, head_lines, bytes_of, ended, title, most_records}
use Rattle.known_text.specs.Pieces.{AreOnly}
use Rattle.known_text.proofs.Texts.{one_cut}
use Rattle.known_text.proofs.Plain.{both, printed, number, no_newline}
use Rattle.known_text.proofs.Pieced.{ended_is}
use Rattle.known_text.proofs.Recorded.{line_printed}

-- LINES AND THEIR BYTES

unfoldable pub AllLack : List (List ℕ) → Type 0
AllLack [] = Unit {0}
AllLack (l ∷ ls) = (lacks 10 l ≡ true) × AllLack ls

pub empty_lack : AllLack []
unfolding AllLack
empty_lack = tt

all_lack_both : (ls ms : List (List ℕ)) → AllLack ls → AllLack ms → AllLack (ls ++ ms)
unfolding AllLack
all_lack_both [] ms one two = two
all_lack_both (l ∷ ls) ms one two = (one.0, all_lack_both ls ms one.1 two)

pub all_lack_front : (ls ms : List (List ℕ)) → AllLack (ls ++ ms) → AllLack ls
unfolding AllLack
all_lack_front [] ms all = tt
all_lack_front (l ∷ ls) ms all = (all.0, all_lack_front ls ms all.1)

no_bytes : (l bytes : List ℕ) → [] ≡ ended l ++ bytes → ⊥
no_bytes l bytes e =
    let short : 0 ≡ length (ended l ++ bytes) = ap length e in
    let long : length (ended l ++ bytes) ≡ length (ended l) + length bytes = length-append (ended l) bytes in
    let own : length (ended l) ≡ length l + 1 = length-append l (10 ∷ []) in
    omega (arith, short, long, own)

-- the lines with which bytes begin
pub record LinesBegin (ms ls : List (List ℕ)) (rest : List ℕ) : Type 0 where
  pub more : List (List ℕ)
  pub are : ms ≡ ls ++ more
  pub is : rest ≡ bytes_of more

pub lines_begin : (ls ms : List (List ℕ)) (rest : List ℕ) → AllLack ls → AllLack ms → bytes_of ms ≡ bytes_of ls ++ rest → LinesBegin ms ls rest
unfolding AllLack
lines_begin [] ms rest one two e = record { more = ms; are = refl; is = sym e }
lines_begin (l ∷ ls) [] rest one two e = absurd (no_bytes l (bytes_of ls ++ rest) (e ∙ append_assoc (ended l) (bytes_of ls) rest))
lines_begin (l ∷ ls) (m ∷ ms) rest one two e =
    let parts = one_cut 10 m l (bytes_of ms) (bytes_of ls ++ rest) two.0 one.0 (sym (ended_is m (bytes_of ms)) ∙ e ∙ append_assoc (ended l) (bytes_of ls) rest ∙ ended_is l (bytes_of ls ++ rest)) in
    let inner = lines_begin ls ms rest one.1 two.1 parts.1 in
    record {
      more = inner.more;
      are = (λ i. parts.0 i ∷ inner.are i);
      is = inner.is;
    }

-- THE LINES OF PIECES

front_printed : (kind : HeadLine) (word : List ℕ) → list_all is_printed word ≡ true → list_all is_printed (line_of kind word) ≡ true
front_printed Inputs word all = both is_printed (codes "inputs ") word refl all
front_printed Program word all = both is_printed (codes "program 0 outside ") word refl all
front_printed Sum word all = both is_printed (codes "sum ") word refl all

pub head_lack : (inputs : ℕ) (h : HeadValue) → IsHead h → AllLack (head_lines inputs h)
unfolding AllLack
head_lack inputs h head = (
  refl,
  (
    no_newline (line_of Inputs (decimal inputs)) (front_printed Inputs (decimal inputs) (printed (decimal inputs) (number inputs))),
    (no_newline (line_of Program h.words) (front_printed Program h.words head.words.printed), (no_newline (line_of Sum h.sum) (front_printed Sum h.sum (printed h.sum head.sum.graphic)), tt)),
  ),
)

pub pieces_lack : (s : Source) (h : HeadValue) (ps : List Piece) → IsHead h → AreGood s ps → AllLack (lines_of s.inputs h ps)
unfolding AllLack
pieces_lack s h [] head good = tt
pieces_lack s h (Head ∷ ps) head good = all_lack_both (head_lines s.inputs h) (lines_of s.inputs h ps) (head_lack s.inputs h head) (pieces_lack s h ps head good)
pieces_lack s h (Ran line run ∷ ps) head good = (no_newline line (line_printed s.log s.way line run good.0), pieces_lack s h ps head good.1)

pub lines_lack : (s : Source) (h : HeadValue) (lines : List (List ℕ)) (runs : List RanValue) → AreLines s h lines runs → AllLack lines
lines_lack s h lines runs are = subst AllLack (sym are.is) (pieces_lack s h (Head ∷ are.pieces) are.head are.good)

-- a record is no title
pub ran_first : (w : RanWords) → get_or (ran_text w) 0 0 ≡ 114
unfolding ran_text
ran_first w = refl

pub no_ran_title : (s : Source) (line : List ℕ) (run : RanValue) → IsRan s.log s.way line run → line ≡ title → ⊥
no_ran_title s line run ran is =
    let words : RanWords = record { cut = run.cut; choice = ran.choice; marks = run.marks; end = run.end; looked = ran.looked } in
    let one : get_or line 0 0 ≡ 114 = ap (λ (bs : List ℕ). get_or bs 0 0) ran.is ∙ ran_first words in
    let two : get_or line 0 0 ≡ 99 = ap (λ (bs : List ℕ). get_or bs 0 0) is in
    omega (arith, one, two)

-- a head has one program and one sum
pub one_head : (inputs : ℕ) (h other : HeadValue) (xs ys : List (List ℕ)) → head_lines inputs h ++ xs ≡ head_lines inputs other ++ ys → (h ≡ other) × (xs ≡ ys)
one_head inputs h other xs ys e =
    let all : title ∷ line_of Inputs (decimal inputs) ∷ line_of Program h.words ∷ line_of Sum h.sum ∷ xs ≡ title ∷ line_of Inputs (decimal inputs) ∷ line_of Program other.words ∷ line_of Sum other.sum ∷ ys = e in
    let program : line_of Program h.words ≡ line_of Program other.words = ap (λ (ls : List (List ℕ)). get_or ls 2 []) all in
    let sum : line_of Sum h.sum ≡ line_of Sum other.sum = ap (λ (ls : List (List ℕ)). get_or ls 3 []) all in
    let words_are : h.words ≡ other.words = append_cancel_left (codes "program 0 outside ") h.words other.words program in
    let sum_is : h.sum ≡ other.sum = append_cancel_left (codes "sum ") h.sum other.sum sum in
    (λ i. record { words = words_are i; sum = sum_is i }, ap (λ (ls : List (List ℕ)). drop 4 ls) all)

-- what is left of a text after some of its pieces
pub record Peeled (s : Source) (h : HeadValue) (ps qs : List Piece) (tail : List (List ℕ)) : Type 0 where
  pub left : List Piece
  pub good : AreGood s left
  pub is : tail ≡ lines_of s.inputs h left
  pub said : runs_of qs ≡ runs_of ps ++ runs_of left

no_lines : (l : List ℕ) (ls : List (List ℕ)) → [] ≡ l ∷ ls → ⊥
no_lines l ls e = let short : 0 ≡ suc (length ls) = ap length e in omega (arith, short)

pub peel : (s : Source) (h : HeadValue) (ps qs : List Piece) (tail : List (List ℕ)) → AreOnly s ps → AreGood s qs → lines_of s.inputs h qs ≡ lines_of s.inputs h ps ++ tail → Peeled s h ps qs tail
peel s h [] qs tail only good e = record { left = qs; good = good; is = sym e; said = refl }
peel s h (Head ∷ ps) [] tail only good e = absurd (no_lines title _ e)
peel s h (Head ∷ ps) (Head ∷ qs) tail only good e =
    let inner = peel s h ps qs tail only.1 good (one_head s.inputs h h (lines_of s.inputs h qs) (lines_of s.inputs h ps ++ tail) (e ∙ append_assoc (head_lines s.inputs h) (lines_of s.inputs h ps) tail)).1 in
    record { left = inner.left; good = inner.good; is = inner.is; said = inner.said }
peel s h (Head ∷ ps) (Ran line run ∷ qs) tail only good e =
    absurd (no_ran_title s line run good.0 (ap (λ (ls : List (List ℕ)). get_or ls 0 []) e))
peel s h (Ran line run ∷ ps) [] tail only good e = absurd (no_lines line _ e)
peel s h (Ran line run ∷ ps) (Head ∷ qs) tail only good e =
    absurd (no_ran_title s line run only.0.is (sym (ap (λ (ls : List (List ℕ)). get_or ls 0 []) e)))
peel s h (Ran line run ∷ ps) (Ran other it ∷ qs) tail only good e =
    let same : other ≡ line = ap (λ (ls : List (List ℕ)). get_or ls 0 []) e in
    let rest : lines_of s.inputs h qs ≡ lines_of s.inputs h ps ++ tail = ap (λ (ls : List (List ℕ)). drop 1 ls) e in
    let inner = peel s h ps qs tail only.1 good.1 rest in
    let own : it ≡ run = only.0.only it (subst (λ (bs : List ℕ). IsRan s.log s.way bs it) same good.0) in
    record { left = inner.left; good = inner.good; is = inner.is; said = λ i. own i ∷ inner.said i }

pub good_only : (s : Source) (ps : List Piece) → AreOnly s ps → AreGood s ps
good_only s [] only = tt
good_only s (Head ∷ ps) only = good_only s ps only.1
good_only s (Ran line run ∷ ps) only = (only.0.is, good_only s ps only.1)

-- lines that go on after a head and some pieces
pub record Tail (s : Source) (h other : HeadValue) (ps : List Piece) (tail : List (List ℕ)) (runs : List RanValue) : Type 0 where
  pub same : other ≡ h
  pub left : List Piece
  pub good : AreGood s left
  pub is : tail ≡ lines_of s.inputs h left
  pub said : runs ≡ runs_of ps ++ runs_of left
  pub few : length runs ≤ most_records

pub tail_of : (s : Source) (h other : HeadValue) (ps : List Piece) (lines tail : List (List ℕ)) (runs : List RanValue) → AreOnly s ps → lines ≡ lines_of s.inputs h (Head ∷ ps)
    → AreLines s other (lines ++ tail) runs → Tail s h other ps tail runs
tail_of s h other ps lines tail runs only is are =
    let whole : head_lines s.inputs other ++ lines_of s.inputs other are.pieces ≡ head_lines s.inputs h ++ (lines_of s.inputs h ps ++ tail) =
    sym are.is ∙ ap (λ (ls : List (List ℕ)). ls ++ tail) is ∙ append_assoc (head_lines s.inputs h) (lines_of s.inputs h ps) tail in
    let parts = one_head s.inputs other h (lines_of s.inputs other are.pieces) (lines_of s.inputs h ps ++ tail) whole in
    let inner = peel s h ps are.pieces tail only are.good (ap (λ (k : HeadValue). lines_of s.inputs k are.pieces) (sym parts.0) ∙ parts.1) in
    record { same = parts.0; left = inner.left; good = inner.good; is = inner.is; said = are.said ∙ inner.said; few = are.few }
