-- Why bytes are a text of records, or are refused at a line.
use Rattle.std.proofs.Common.{ℕ, suc, ◌≡◌, ◌≢◌, ◌+◌, ◌<◌, ◌≤◌, ◌^◌, true, List, [], ◌∷◌, ◌++◌, length, length-append, get_or, drop, append_assoc, append-nil, codes, Option, Some, None, refl, sym, subst, ap, ◌∙◌, inl, inr, arith}
use Rattle.std.specs.Prelude.{◌⊎◌}
use Rattle.std.specs.Fmt.{decimal}
use Rattle.std.proofs.lemmas.List.{append_cancel_left}
use Rattle.report.specs.MarkReading.{lacks}
use Rattle.known_text.specs.declared.head.HeadLine.{HeadLine}
use Rattle.known_text.specs.declared.head.HeadLine.TheVariants.{Inputs, Program, Sum}
use Rattle.known_text.specs.declared.fault.KnownCause.TheVariants as cause
use Rattle.known_text.specs.declared.fault.KnownFault.{KnownFault}
use Rattle.known_text.specs.Records.{RanValue, IsRan}
use Rattle.known_text.specs.Texts.{Source, HeadValue, IsHead, HasForm, Piece, Head, Ran, AreGood, AreLines, IsKnown, IsKnownOnly, IsBegun, HasLine, StandsBefore, IsInPlace, IsRefused, line_of, lines_of, runs_of, head_lines, bytes_of, ended, title, most_records}
use Rattle.known_text.specs.Pieces.{AnyFault, any_memory, any_unread, WordFault, word_any, word_other, HasFirst, in_program, in_sum, HeadFault, in_inputs, in_rest, any_program, any_sum, FirstFault, first_title, first_inputs, first_rest, ran_memory, ran_unread, push_many, push_ran, PieceFault, piece_run, piece_head, AreOnly, IsGot, HasAll, PiecesFault, unread_at}
use Rattle.known_text.proofs.Heads.{form_lacks, one_word}
use Rattle.known_text.proofs.Pieced.{ended_is, head_bytes, head_is}
use Rattle.known_text.proofs.Gotten.{bytes_both, lines_push, runs_push}
use Rattle.known_text.proofs.Uniquely.{AllLack, all_lack_front, lines_begin, lines_lack, empty_lack, no_ran_title, ran_first, good_only, tail_of, pieces_lack}

-- NO TEXT, WHERE NONE GOES ON

all_lack_back : (ls ms : List (List ℕ)) → AllLack (ls ++ ms) → AllLack ms
unfolding AllLack
all_lack_back [] ms all = all
all_lack_back (l ∷ ls) ms all = all_lack_back ls ms all.1

first_lacks : (l : List ℕ) (ls : List (List ℕ)) → AllLack (l ∷ ls) → lacks 10 l ≡ true
unfolding AllLack
first_lacks l ls all = all.0

-- no line goes on
abbrev NoneGoesOn : Source → List (List ℕ) → List ℕ → Type 0
NoneGoesOn s lines rest = (line more : List ℕ) → lacks 10 line ≡ true → rest ≡ line ++ 10 ∷ more → IsBegun s (lines ++ line ∷ []) → ⊥

none_of : (s : Source) (bytes : List ℕ) (lines : List (List ℕ)) (rest : List ℕ) → bytes ≡ bytes_of lines ++ rest → AllLack lines → bytes ≢ [] → NoneGoesOn s lines rest
    → (rest ≡ [] → (h : HeadValue) (runs : List RanValue) → AreLines s h lines runs → ⊥) → (head : Option HeadValue) (runs : List RanValue) → IsKnown s bytes head runs → ⊥
none_of s bytes lines rest is lack some stops whole None runs known = some known.0
none_of s bytes lines rest is lack some stops whole (Some h) runs known =
    let own = lines_lack s h known.lines runs known.are in
    let begin = lines_begin lines known.lines rest lack own (sym known.is ∙ is) in
    by_more own begin.more begin.are begin.is
  where
    by_more : AllLack known.lines → (more : List (List ℕ)) → known.lines ≡ lines ++ more → rest ≡ bytes_of more → ⊥
    by_more own [] are e = whole e h runs (subst (λ (ls : List (List ℕ)). AreLines s h ls runs) (are ∙ append-nil lines) known.are)
    by_more own (line ∷ more) are e =
        stops line (bytes_of more) (first_lacks line more (all_lack_back lines (line ∷ more) (subst AllLack are own))) (e ∙ ended_is line (bytes_of more))
        (record {
          h = h;
          runs = runs;
          more = more;
          are = subst (λ (ls : List (List ℕ)). AreLines s h ls runs) (are ∙ sym (append_assoc lines (line ∷ []) more)) known.are;
        })

-- THE LAST LINE

last_same : (xs ys : List (List ℕ)) (x y : List ℕ) → xs ++ x ∷ [] ≡ ys ++ y ∷ [] → x ≡ y
last_same [] [] x y e = ap (λ (ls : List (List ℕ)). get_or ls 0 []) e
last_same [] (z ∷ ys) x y e =
    let long : 1 ≡ suc (length (ys ++ y ∷ [])) = ap length e in
    let inner : length (ys ++ y ∷ []) ≡ length ys + 1 = length-append ys (y ∷ []) in
    absurd (omega (arith, long, inner))
last_same (z ∷ xs) [] x y e =
    let long : suc (length (xs ++ x ∷ [])) ≡ 1 = ap length e in
    let inner : length (xs ++ x ∷ []) ≡ length xs + 1 = length-append xs (x ∷ []) in
    absurd (omega (arith, long, inner))
last_same (z ∷ xs) (w ∷ ys) x y e = last_same xs ys x y (ap (λ (ls : List (List ℕ)). drop 1 ls) e)

-- with which byte the line before one of that kind begins
abbrev byte_before : HeadLine → ℕ
byte_before Inputs = 99
byte_before Program = 105
byte_before Sum = 112

begins_so : (kind : HeadLine) (line : List ℕ) → StandsBefore kind line → get_or line 0 0 ≡ byte_before kind
begins_so Inputs line is = ap (λ (bs : List ℕ). get_or bs 0 0) is
begins_so Program line is = ap (λ (bs : List ℕ). get_or bs 0 0) is.1
begins_so Sum line is = ap (λ (bs : List ℕ). get_or bs 0 0) is.1

one_kind : (kind other : HeadLine) (line : List ℕ) → StandsBefore kind line → StandsBefore other line → other ≡ kind
one_kind kind other line one two = by_kind kind other (sym (begins_so other line two) ∙ begins_so kind line one)
  where
    by_kind : (kind other : HeadLine) → byte_before other ≡ byte_before kind → other ≡ kind
    by_kind Inputs Inputs e = refl
    by_kind Inputs Program e = absurd (omega (arith, e))
    by_kind Inputs Sum e = absurd (omega (arith, e))
    by_kind Program Inputs e = absurd (omega (arith, e))
    by_kind Program Program e = refl
    by_kind Program Sum e = absurd (omega (arith, e))
    by_kind Sum Inputs e = absurd (omega (arith, e))
    by_kind Sum Program e = absurd (omega (arith, e))
    by_kind Sum Sum e = refl

-- lines that end with one before which no line of a head stands
record EndsPiece (lines : List (List ℕ)) : Type 0 where
  front : List (List ℕ)
  last : List ℕ
  is : lines ≡ front ++ last ∷ []
  high : 112 < get_or last 0 0

none_in_place : (lines : List (List ℕ)) (rest : List ℕ) → EndsPiece lines → IsInPlace lines rest → ⊥
none_in_place lines rest ends place =
    let same : ends.last ≡ place.last = last_same ends.front place.front ends.last place.last (sym ends.is ∙ place.at) in
    let byte : get_or ends.last 0 0 ≡ byte_before place.kind = ap (λ (bs : List ℕ). get_or bs 0 0) same ∙ begins_so place.kind place.last place.before in
    let high = ends.high in
    let low = byte_low place.kind in
    omega (arith, byte, high, low)
  where
    byte_low : (kind : HeadLine) → byte_before kind ≤ 112
    byte_low Inputs = omega arith
    byte_low Program = omega arith
    byte_low Sum = omega arith

ends_more : (l : List ℕ) (ls : List (List ℕ)) → EndsPiece ls → EndsPiece (l ∷ ls)
ends_more l ls ends = record { front = l ∷ ends.front; last = ends.last; is = ap (λ (ms : List (List ℕ)). l ∷ ms) ends.is; high = ends.high }

head_ends : (inputs : ℕ) (h : HeadValue) → EndsPiece (head_lines inputs h)
head_ends inputs h = record {
  front = title ∷ line_of Inputs (decimal inputs) ∷ line_of Program h.words ∷ [];
  last = line_of Sum h.sum;
  is = refl;
  high = omega arith;
}

four_more : (inputs : ℕ) (h : HeadValue) (ls : List (List ℕ)) → EndsPiece ls → EndsPiece (head_lines inputs h ++ ls)
four_more inputs h ls ends = ends_more title _ (ends_more (line_of Inputs (decimal inputs)) _ (ends_more (line_of Program h.words) _ (ends_more (line_of Sum h.sum) _ ends)))

ran_high : (s : Source) (line : List ℕ) (run : RanValue) → IsRan s.log s.way line run → 112 < get_or line 0 0
ran_high s line run ran =
    let own : get_or line 0 0 ≡ 114 = ap (λ (bs : List ℕ). get_or bs 0 0) ran.is ∙ ran_first (record { cut = run.cut; choice = ran.choice; marks = run.marks; end = run.end; looked = ran.looked }) in
    omega (arith, own)

pieces_end : (s : Source) (h : HeadValue) (p : Piece) (ps : List Piece) → AreGood s (p ∷ ps) → EndsPiece (lines_of s.inputs h (p ∷ ps))
pieces_end s h Head [] good = subst EndsPiece (sym (append-nil (head_lines s.inputs h))) (head_ends s.inputs h)
pieces_end s h (Ran line run) [] good = record { front = []; last = line; is = refl; high = ran_high s line run good.0 }
pieces_end s h Head (q ∷ ps) good = four_more s.inputs h (lines_of s.inputs h (q ∷ ps)) (pieces_end s h q ps good)
pieces_end s h (Ran line run) (q ∷ ps) good = ends_more line (lines_of s.inputs h (q ∷ ps)) (pieces_end s h q ps good.1)

-- AT THE LINE OF A HEAD

-- bytes don't begin with a line of that kind whose word has a property
record IsStuck (kind : HeadLine) (P : List ℕ → Type 0) (rest : List ℕ) (n : ℕ) (f : KnownFault) : Type 0 where
  none : (word more : List ℕ) → P word → rest ≢ line_of kind word ++ 10 ∷ more
  at : f.line ≡ n
  other : f.cause ≡ cause.Other → HasLine kind (HasForm kind) rest
  unread : f.cause ≡ cause.Line → HasLine kind (HasForm kind) rest → ⊥

apart : (f : KnownFault) (n : ℕ) → f ≡ unread_at n → f.cause ≡ cause.Other → ⊥
apart f n is e = absurd (let bad : cause.Line ≡ cause.Other = sym (ap (λ (g : KnownFault). g.cause) is) ∙ e in cc)

any_stuck : (kind : HeadLine) (rest : List ℕ) (n : ℕ) (f : KnownFault) → AnyFault kind rest n f → (f.cause ≡ cause.Memory) ⊎ IsStuck kind (HasForm kind) rest n f
any_stuck kind rest n f (any_memory is) = inl is
any_stuck kind rest n f (any_unread is lacking) = inr (record {
  none = lacking.none;
  at = ap (λ (g : KnownFault). g.line) is;
  other = λ e. absurd (apart f n is e);
  unread = λ e has. lacking.none has.word has.more has.of_word has.is;
})

word_stuck : (kind : HeadLine) (word rest : List ℕ) (n : ℕ) (f : KnownFault) → HasForm kind word → WordFault kind word rest n f
    → (f.cause ≡ cause.Memory) ⊎ IsStuck kind (λ (w : List ℕ). w ≡ word) rest n f
word_stuck kind word rest n f form (word_any (any_memory is)) = inl is
word_stuck kind word rest n f form (word_any (any_unread is lacking)) = inr (record {
  none = λ w more same e. lacking.none w more (subst (HasForm kind) (sym same) form) e;
  at = ap (λ (g : KnownFault). g.line) is;
  other = λ e. absurd (apart f n is e);
  unread = λ e has. lacking.none has.word has.more has.of_word has.is;
})
word_stuck kind word rest n f form (word_other said beyond is has differs) = inr (record {
  none = λ w more same e.
      differs ((one_word kind rest said beyond w more (form_lacks kind said has.form) (form_lacks kind w (subst (HasForm kind) (sym same) form)) has.is e).0 ∙ same);
  at = ap (λ (g : KnownFault). g.line) is;
  other = λ e. record { word = said; more = beyond; of_word = has.form; is = has.is };
  unread = λ e it. absurd (let bad : cause.Other ≡ cause.Line = sym (ap (λ (g : KnownFault). g.cause) is) ∙ e in cc);
})

-- lines of a head are refused at the next one
stuck_refused : (s : Source) (bytes : List ℕ) (lines : List (List ℕ)) (rest : List ℕ) (kind : HeadLine) (P : List ℕ → Type 0) (n : ℕ) (f : KnownFault) (front : List (List ℕ)) (last : List ℕ)
    → bytes ≡ bytes_of lines ++ rest → n ≡ length lines + 1 → AllLack lines → bytes ≢ [] → IsBegun s lines → lines ≡ front ++ last ∷ [] → StandsBefore kind last → IsStuck kind P rest n f
    → ((line : List ℕ) → IsBegun s (lines ++ line ∷ []) → (word : List ℕ) × P word × (line ≡ line_of kind word))
    → ((h : HeadValue) (runs : List RanValue) → AreLines s h lines runs → ⊥) → IsRefused s bytes f
stuck_refused s bytes lines rest kind P n f front last is at lack some begun ends before stuck goes whole = record {
  lines = lines;
  rest = rest;
  is = is;
  at = stuck.at ∙ at;
  begun = begun;
  stops = stops;
  none = none_of s bytes lines rest is lack some stops (λ e. whole);
  other = λ e. record { kind = kind; front = front; last = last; at = ends; before = before; has = stuck.other e };
  unread = λ e place.
      let same : last ≡ place.last = last_same front place.front last place.last (sym ends ∙ place.at) in
      let kinds : place.kind ≡ kind = one_kind kind place.kind last before (subst (StandsBefore place.kind) (sym same) place.before) in
      stuck.unread e (subst (λ (k : HeadLine). HasLine k (HasForm k) rest) kinds place.has);
}
  where
    stops : NoneGoesOn s lines rest
    stops line more lacking e next =
        let (word, of_word, line_is) = goes line next in
        stuck.none word more of_word (e ∙ ap (λ (bs : List ℕ). bs ++ 10 ∷ more) line_is)

-- WHERE NO PIECE GOES ON

no_more : (line : List ℕ) (ls : List (List ℕ)) → line ∷ ls ≡ [] → ⊥
no_more line ls e = let long : suc (length ls) ≡ 0 = ap length e in omega (arith, long)

-- after a head and some pieces a line goes on which is a title, or that of one more record
record GoesOn (s : Source) (ps : List Piece) (line : List ℕ) : Type 0 where
  run : RanValue
  ran : IsRan s.log s.way line run
  few : length (runs_of ps) < most_records

next_after : (s : Source) (h : HeadValue) (ps : List Piece) (lines : List (List ℕ)) (line : List ℕ) → AreOnly s ps → lines ≡ lines_of s.inputs h (Head ∷ ps) → IsBegun s (lines ++ line ∷ [])
    → (line ≡ title) ⊎ GoesOn s ps line
next_after s h ps lines line only is begun =
    let tail = tail_of s h begun.h ps lines (line ∷ begun.more) begun.runs only is (subst (λ (ls : List (List ℕ)). AreLines s begun.h ls begun.runs) (append_assoc lines (line ∷ []) begun.more) begun.are) in
    by_left tail.left tail.good tail.is tail.said tail.few
  where
    by_left : (left : List Piece) → AreGood s left → line ∷ begun.more ≡ lines_of s.inputs h left → begun.runs ≡ runs_of ps ++ runs_of left → length begun.runs ≤ most_records
        → (line ≡ title) ⊎ GoesOn s ps line
    by_left [] good e said few = absurd (no_more line begun.more e)
    by_left (Head ∷ left) good e said few = inl (ap (λ (ls : List (List ℕ)). get_or ls 0 []) e)
    by_left (Ran own run ∷ left) good e said few =
        let same : line ≡ own = ap (λ (ls : List (List ℕ)). get_or ls 0 []) e in
        let long : length begun.runs ≡ length (runs_of ps) + suc (length (runs_of left)) = ap length said ∙ length-append (runs_of ps) (run ∷ runs_of left) in
        inr (record { run = run; ran = subst (λ (bs : List ℕ). IsRan s.log s.way bs run) (sym same) good.0; few = omega (arith, long, few) })

begun_whole : (s : Source) (h : HeadValue) (ps : List Piece) (lines : List (List ℕ)) → IsHead h → AreOnly s ps → length (runs_of ps) ≤ most_records → lines ≡ lines_of s.inputs h (Head ∷ ps) → IsBegun s lines
begun_whole s h ps lines head only few is = record {
  h = h;
  runs = runs_of ps;
  more = [];
  are = record { pieces = ps; head = head; good = good_only s ps only; is = append-nil lines ∙ is; said = refl; few = few };
}

piece_refused : (s : Source) (h : HeadValue) (bytes rest : List ℕ) (ps : List Piece) (lines : List (List ℕ)) (n : ℕ) (f : KnownFault) → IsHead h → AreOnly s ps → length (runs_of ps) ≤ most_records
    → lines ≡ lines_of s.inputs h (Head ∷ ps) → bytes ≡ bytes_of lines ++ rest → bytes ≢ [] → rest ≢ [] → n ≡ length lines + 1 → f ≡ unread_at n
    → ((beyond : List ℕ) → rest ≢ ended title ++ beyond) → ((line more : List ℕ) → rest ≡ line ++ 10 ∷ more → GoesOn s ps line → ⊥) → IsRefused s bytes f
piece_refused s h bytes rest ps lines n f head only few are is some left at fault no_title no_run = record {
  lines = lines;
  rest = rest;
  is = is;
  at = ap (λ (g : KnownFault). g.line) fault ∙ at;
  begun = begun_whole s h ps lines head only few are;
  stops = stops;
  none = none_of s bytes lines rest is (subst AllLack (sym are) (pieces_lack s h (Head ∷ ps) head (good_only s ps only))) some stops (λ e. absurd (left e));
  other = λ e. absurd (apart f n fault e);
  unread = λ e place. none_in_place lines rest (subst EndsPiece (sym are) (pieces_end s h Head ps (good_only s ps only))) place;
}
  where
    stops : NoneGoesOn s lines rest
    stops line more lacking e begun = elim (next_after s h ps lines line only are begun) [
      | inl titled ↦ no_title more (e ∙ ap (λ (bs : List ℕ). bs ++ 10 ∷ more) titled ∙ sym (ended_is title more))
      | inr goes ↦ no_run line more e goes
    ]

-- IN A LATER HEAD

-- some first lines of a head, and the next one
record IsWithin (inputs : ℕ) (h : HeadValue) (front : List (List ℕ)) (next : List ℕ) : Type 0 where
  more : List (List ℕ)
  others : List (List ℕ)
  titled : front ≡ title ∷ others
  is : head_lines inputs h ≡ front ++ next ∷ more

-- the lines after a head and some pieces that are those of one more head, and others
after_within : (s : Source) (h other : HeadValue) (ps : List Piece) (lines front others : List (List ℕ)) (runs : List RanValue) → AreOnly s ps → lines ≡ lines_of s.inputs h (Head ∷ ps) → front ≡ title ∷ others
    → AreLines s other (lines ++ front) runs → (left : List Piece) × (front ≡ head_lines s.inputs h ++ lines_of s.inputs h left)
after_within s h other ps lines front others runs only is titled are =
    let tail = tail_of s h other ps lines front runs only is are in
    by_left tail.left tail.good tail.is
  where
    by_left : (left : List Piece) → AreGood s left → front ≡ lines_of s.inputs h left → (left : List Piece) × (front ≡ head_lines s.inputs h ++ lines_of s.inputs h left)
    by_left [] good e = absurd (no_more title others (sym titled ∙ e))
    by_left (Head ∷ left) good e = (left, e)
    by_left (Ran line run ∷ left) good e = absurd (no_ran_title s line run good.0 (ap (λ (ls : List (List ℕ)). get_or ls 0 []) (sym e ∙ titled)))

next_within : (s : Source) (h : HeadValue) (ps : List Piece) (lines front : List (List ℕ)) (next line : List ℕ) → AreOnly s ps → lines ≡ lines_of s.inputs h (Head ∷ ps) → IsWithin s.inputs h front next
    → IsBegun s ((lines ++ front) ++ line ∷ []) → line ≡ next
next_within s h ps lines front next line only is within begun =
    let grouped : ((lines ++ front) ++ line ∷ []) ++ begun.more ≡ lines ++ (front ++ line ∷ begun.more) =
    append_assoc (lines ++ front) (line ∷ []) begun.more ∙ append_assoc lines front (line ∷ begun.more) in
    let it = after_within s h begun.h ps lines (front ++ line ∷ begun.more) (within.others ++ line ∷ begun.more) begun.runs only is (ap (λ (ls : List (List ℕ)). ls ++ line ∷ begun.more) within.titled)
    (subst (λ (ls : List (List ℕ)). AreLines s begun.h ls begun.runs) grouped begun.are) in
    let same : line ∷ begun.more ≡ next ∷ (within.more ++ lines_of s.inputs h it.0) =
    append_cancel_left front (line ∷ begun.more) (next ∷ (within.more ++ lines_of s.inputs h it.0))
    (it.1 ∙ ap (λ (ls : List (List ℕ)). ls ++ lines_of s.inputs h it.0) within.is ∙ append_assoc front (next ∷ within.more) (lines_of s.inputs h it.0)) in
    ap (λ (ls : List (List ℕ)). get_or ls 0 []) same

no_whole : (s : Source) (h : HeadValue) (ps : List Piece) (lines front : List (List ℕ)) (next : List ℕ) → AreOnly s ps → lines ≡ lines_of s.inputs h (Head ∷ ps) → IsWithin s.inputs h front next
    → (other : HeadValue) (runs : List RanValue) → AreLines s other (lines ++ front) runs → ⊥
no_whole s h ps lines front next only is within other runs are =
    let it = after_within s h other ps lines front within.others runs only is within.titled are in
    let whole : length front ≡ length (head_lines s.inputs h) + length (lines_of s.inputs h it.0) = ap length it.1 ∙ length-append (head_lines s.inputs h) (lines_of s.inputs h it.0) in
    let long : length (head_lines s.inputs h) ≡ length front + suc (length within.more) = ap length within.is ∙ length-append front (next ∷ within.more) in
    omega (arith, whole, long)

begun_within : (s : Source) (h : HeadValue) (ps : List Piece) (lines front : List (List ℕ)) (next : List ℕ) → IsHead h → AreOnly s ps → length (runs_of ps) ≤ most_records → lines ≡ lines_of s.inputs h (Head ∷ ps)
    → IsWithin s.inputs h front next → IsBegun s (lines ++ front)
begun_within s h ps lines front next head only few is within = record {
  h = h;
  runs = runs_of ps;
  more = next ∷ within.more;
  are = record {
    pieces = ps ++ Head ∷ [];
    head = head;
    good = good_push ps (good_only s ps only);
    is = append_assoc lines front (next ∷ within.more) ∙ ap (λ (ls : List (List ℕ)). lines ++ ls) (sym within.is) ∙ ap (λ (ls : List (List ℕ)). ls ++ head_lines s.inputs h) is
        ∙ append_assoc (head_lines s.inputs h) (lines_of s.inputs h ps) (head_lines s.inputs h) ∙ ap (λ (ls : List (List ℕ)). head_lines s.inputs h ++ ls) (sym (lines_push s.inputs h ps Head));
    said = sym (append-nil (runs_of ps)) ∙ sym (runs_push ps Head);
    few = few;
  };
}
  where
    good_push : (qs : List Piece) → AreGood s qs → AreGood s (qs ++ Head ∷ [])
    good_push [] good = tt
    good_push (Head ∷ qs) good = good_push qs good
    good_push (Ran line run ∷ qs) good = (good.0, good_push qs good.1)

within_refused : (s : Source) (h : HeadValue) (bytes rest : List ℕ) (ps : List Piece) (lines front others : List (List ℕ)) (last own : List ℕ) (kind : HeadLine) (n : ℕ) (f : KnownFault) → IsHead h → AreOnly s ps
    → length (runs_of ps) ≤ most_records → lines ≡ lines_of s.inputs h (Head ∷ ps) → IsWithin s.inputs h front (line_of kind own) → front ≡ others ++ last ∷ [] → StandsBefore kind last
    → bytes ≡ bytes_of (lines ++ front) ++ rest → bytes ≢ [] → n ≡ length (lines ++ front) + 1 → IsStuck kind (λ (w : List ℕ). w ≡ own) rest n f → IsRefused s bytes f
within_refused s h bytes rest ps lines front others last own kind n f head only few are within ends before is some at stuck =
    let begun = begun_within s h ps lines front (line_of kind own) head only few are within in
    stuck_refused s bytes (lines ++ front) rest kind (λ (w : List ℕ). w ≡ own) n f (lines ++ others) last is at (all_lack_front (lines ++ front) begun.more (lines_lack s begun.h _ begun.runs begun.are)) some begun
    (ap (λ (ls : List (List ℕ)). lines ++ ls) ends ∙ sym (append_assoc lines others (last ∷ []))) before stuck
    (λ line next. (own, refl, next_within s h ps lines front (line_of kind own) line only are within next)) (no_whole s h ps lines front (line_of kind own) only are within)

-- the lines that stand before each line of a head
abbrev one_line : List (List ℕ)
one_line = title ∷ []

abbrev two_lines : ℕ → List (List ℕ)
two_lines inputs = title ∷ line_of Inputs (decimal inputs) ∷ []

abbrev three_lines : ℕ → List ℕ → List (List ℕ)
three_lines inputs words = title ∷ line_of Inputs (decimal inputs) ∷ line_of Program words ∷ []

one_within : (inputs : ℕ) (h : HeadValue) → IsWithin inputs h one_line (line_of Inputs (decimal inputs))
one_within inputs h = record { more = line_of Program h.words ∷ line_of Sum h.sum ∷ []; others = []; titled = refl; is = refl }

two_within : (inputs : ℕ) (h : HeadValue) → IsWithin inputs h (two_lines inputs) (line_of Program h.words)
two_within inputs h = record { more = line_of Sum h.sum ∷ []; others = line_of Inputs (decimal inputs) ∷ []; titled = refl; is = refl }

three_within : (inputs : ℕ) (h : HeadValue) → IsWithin inputs h (three_lines inputs h.words) (line_of Sum h.sum)
three_within inputs h = record { more = []; others = line_of Inputs (decimal inputs) ∷ line_of Program h.words ∷ []; titled = refl; is = refl }

-- their bytes

line_more : (l : List ℕ) (ls : List (List ℕ)) (rest : List ℕ) → bytes_of (l ∷ ls) ++ rest ≡ l ++ 10 ∷ (bytes_of ls ++ rest)
line_more l ls rest = append_assoc (ended l) (bytes_of ls) rest ∙ ended_is l (bytes_of ls ++ rest)

one_bytes : (bytes rest : List ℕ) → bytes ≡ ended title ++ rest → bytes ≡ bytes_of one_line ++ rest
one_bytes bytes rest is = is ∙ ended_is title rest ∙ sym (line_more title [] rest)

two_bytes : (inputs : ℕ) (bytes r1 r2 : List ℕ) → bytes ≡ ended title ++ r1 → r1 ≡ line_of Inputs (decimal inputs) ++ 10 ∷ r2 → bytes ≡ bytes_of (two_lines inputs) ++ r2
two_bytes inputs bytes r1 r2 titled is =
    titled ∙ ended_is title r1 ∙ ap (λ (bs : List ℕ). title ++ 10 ∷ bs) (is ∙ sym (line_more (line_of Inputs (decimal inputs)) [] r2))
    ∙ sym (line_more title (line_of Inputs (decimal inputs) ∷ []) r2)

three_bytes : (inputs : ℕ) (words bytes r1 r2 r3 : List ℕ) → bytes ≡ ended title ++ r1 → r1 ≡ line_of Inputs (decimal inputs) ++ 10 ∷ r2 → r2 ≡ line_of Program words ++ 10 ∷ r3
    → bytes ≡ bytes_of (three_lines inputs words) ++ r3
three_bytes inputs words bytes r1 r2 r3 titled one two =
    let program = line_of Program words in
    let own = line_of Inputs (decimal inputs) in
    titled ∙ ended_is title r1
    ∙ ap (λ (bs : List ℕ). title ++ 10 ∷ bs) (one ∙ ap (λ (bs : List ℕ). own ++ 10 ∷ bs) (two ∙ sym (line_more program [] r3)) ∙ sym (line_more own (program ∷ []) r3))
    ∙ sym (line_more title (own ∷ program ∷ []) r3)

-- the lines and then some of a head
bytes_then : (bytes rest last : List ℕ) (lines front : List (List ℕ)) → bytes ≡ bytes_of lines ++ rest → rest ≡ bytes_of front ++ last → bytes ≡ bytes_of (lines ++ front) ++ last
bytes_then bytes rest last lines front is next =
    is ∙ ap (λ (bs : List ℕ). bytes_of lines ++ bs) next ∙ sym (append_assoc (bytes_of lines) (bytes_of front) last) ∙ ap (λ (bs : List ℕ). bs ++ last) (sym (bytes_both lines front))

-- a number of 64 bits is one of the inputs
abbrev IsSmallSource : Source → Type 0
IsSmallSource s = s.inputs < 2 ^ 64

by_stuck : (s : Source) (bytes : List ℕ) (kind : HeadLine) (P : List ℕ → Type 0) (rest : List ℕ) (n : ℕ) (f : KnownFault) → (f.cause ≡ cause.Memory) ⊎ IsStuck kind P rest n f
    → (IsStuck kind P rest n f → IsRefused s bytes f) → (f.cause ≡ cause.Memory) ⊎ IsRefused s bytes f
by_stuck s bytes kind P rest n f (inl memory) go = inl memory
by_stuck s bytes kind P rest n f (inr stuck) go = inr (go stuck)

long_then : (lines front : List (List ℕ)) (n k : ℕ) → n ≡ length lines + 1 → length front ≡ k → n + k ≡ length (lines ++ front) + 1
long_then lines front n k at long = let both : length (lines ++ front) ≡ length lines + length front = length-append lines front in omega (arith, at, long, both)

head_refused : (s : Source) (h : HeadValue) (bytes rest after : List ℕ) (ps : List Piece) (lines : List (List ℕ)) (n : ℕ) (f : KnownFault) → IsSmallSource s → IsHead h → AreOnly s ps
    → length (runs_of ps) ≤ most_records → lines ≡ lines_of s.inputs h (Head ∷ ps) → bytes ≡ bytes_of lines ++ rest → bytes ≢ [] → n ≡ length lines + 1 → rest ≡ ended title ++ after
    → HeadFault s.inputs h after (n + 1) f → (f.cause ≡ cause.Memory) ⊎ IsRefused s bytes f
head_refused s h bytes rest after ps lines n f small head only few are is some at titled (in_inputs fault) =
    by_stuck s bytes Inputs (λ (w : List ℕ). w ≡ decimal s.inputs) after (n + 1) f (word_stuck Inputs (decimal s.inputs) after (n + 1) f (record { number = s.inputs; small = small; is = refl }) fault)
    (λ stuck.
    within_refused s h bytes after ps lines one_line [] title (decimal s.inputs) Inputs (n + 1) f head only few are (one_within s.inputs h) refl refl
    (bytes_then bytes rest after lines one_line is (one_bytes rest after titled)) some (long_then lines one_line n 1 at refl) stuck)
head_refused s h bytes rest after ps lines n f small head only few are is some at titled (in_rest r2 one (in_program fault)) =
    let place : n + 1 + 1 ≡ n + 2 = omega arith in
    by_stuck s bytes Program (λ (w : List ℕ). w ≡ h.words) r2 (n + 1 + 1) f (word_stuck Program h.words r2 (n + 1 + 1) f head.words fault)
    (λ stuck.
    within_refused s h bytes r2 ps lines (two_lines s.inputs) one_line (line_of Inputs (decimal s.inputs)) h.words Program (n + 1 + 1) f head only few are (two_within s.inputs h) refl (decimal s.inputs, refl)
    (bytes_then bytes rest r2 lines (two_lines s.inputs) is (two_bytes s.inputs rest after r2 titled one)) some (place ∙ long_then lines (two_lines s.inputs) n 2 at refl) stuck)
head_refused s h bytes rest after ps lines n f small head only few are is some at titled (in_rest r2 one (in_sum r3 two fault)) =
    let place : n + 1 + 1 + 1 ≡ n + 3 = omega arith in
    by_stuck s bytes Sum (λ (w : List ℕ). w ≡ h.sum) r3 (n + 1 + 1 + 1) f (word_stuck Sum h.sum r3 (n + 1 + 1 + 1) f head.sum fault)
    (λ stuck.
    within_refused s h bytes r3 ps lines (three_lines s.inputs h.words) (two_lines s.inputs) (line_of Program h.words) h.sum Sum (n + 1 + 1 + 1) f head only few are (three_within s.inputs h) refl (h.words, refl)
    (bytes_then bytes rest r3 lines (three_lines s.inputs h.words) is (three_bytes s.inputs h.words rest after r2 r3 titled one two)) some
    (place ∙ long_then lines (three_lines s.inputs h.words) n 3 at refl) stuck)

-- THE FIRST HEAD AND WHAT STANDS AFTER IT

first_bytes : (s : Source) (h : HeadValue) (bytes after : List ℕ) → HasFirst s.inputs h bytes after → bytes ≡ bytes_of (head_lines s.inputs h) ++ after
first_bytes s h bytes after has = has.is ∙ ap (λ (bs : List ℕ). ended title ++ bs) (head_is s.inputs h has.after after has.has) ∙ sym (head_bytes s.inputs h after)

all_bytes : (s : Source) (h : HeadValue) (bytes after rest : List ℕ) (line : ℕ) (runs : List RanValue) → HasFirst s.inputs h bytes after → (got : IsGot s h after rest line runs)
    → bytes ≡ bytes_of (lines_of s.inputs h (Head ∷ got.pieces)) ++ rest
all_bytes s h bytes after rest line runs has got =
    bytes_then bytes after rest (head_lines s.inputs h) (lines_of s.inputs h got.pieces) (first_bytes s h bytes after has) got.is

not_empty : (s : Source) (h : HeadValue) (bytes after : List ℕ) → HasFirst s.inputs h bytes after → bytes ≢ []
not_empty s h bytes after has e =
    let long : length bytes ≡ length (ended title) + length has.after = ap length has.is ∙ length-append (ended title) has.after in
    let none : length bytes ≡ 0 = ap length e in
    omega (arith, long, none)

pub refused_later : (s : Source) (h : HeadValue) (bytes after : List ℕ) (f : KnownFault) → s.inputs < 2 ^ 64 → HasFirst s.inputs h bytes after → PiecesFault s h after f
    → (f.cause ≡ cause.Memory) ⊎ IsRefused s bytes f
refused_later s h bytes after f small has fault = by_fault fault.fault
  where
    got : IsGot s h after fault.rest fault.line fault.runs
    got = fault.got

    lines : List (List ℕ)
    lines = lines_of s.inputs h (Head ∷ got.pieces)

    few : length (runs_of got.pieces) ≤ most_records
    few = subst (λ (rs : List RanValue). length rs ≤ most_records) got.said got.few

    is : bytes ≡ bytes_of lines ++ fault.rest
    is = all_bytes s h bytes after fault.rest fault.line fault.runs has got

    at : fault.line ≡ length lines + 1
    at =
        let long : length lines ≡ 4 + length (lines_of s.inputs h got.pieces) = length-append (head_lines s.inputs h) (lines_of s.inputs h got.pieces) in
        let line = got.at in
        omega (arith, long, line)

    head : IsHead h
    head = has.has.has.head

    by_fault : PieceFault s h fault.rest fault.line (length fault.runs) f → (f.cause ≡ cause.Memory) ⊎ IsRefused s bytes f
    by_fault (piece_run no_title (push_many unread many)) =
        inr (piece_refused s h bytes fault.rest got.pieces lines fault.line f head got.only few refl is (not_empty s h bytes after has) fault.some at unread no_title
        (λ line more e goes. let own : length fault.runs ≡ length (runs_of got.pieces) = ap length got.said in let low = goes.few in omega (arith, own, many, low)))
    by_fault (piece_run no_title (push_ran (ran_memory memory))) = inl memory
    by_fault (piece_run no_title (push_ran (ran_unread unread no_run))) =
        inr (piece_refused s h bytes fault.rest got.pieces lines fault.line f head got.only few refl is (not_empty s h bytes after has) fault.some at unread no_title
        (λ line more e goes. no_run.none line more goes.run e goes.ran))
    by_fault (piece_head beyond titled inner) =
        head_refused s h bytes fault.rest beyond got.pieces lines fault.line f small head got.only few refl is (not_empty s h bytes after has) at titled inner

pub known_only : (s : Source) (h : HeadValue) (bytes after : List ℕ) (runs : List RanValue) → HasFirst s.inputs h bytes after → HasAll s h after runs → IsKnownOnly s bytes (Some h) runs
known_only s h bytes after runs has all = record {
  is = record {
    lines = lines;
    are = record { pieces = got.pieces; head = has.has.has.head; good = good_only s got.pieces got.only; is = refl; said = got.said; few = got.few };
    is = is;
  };
  only = only;
}
  where
    got : IsGot s h after [] all.line runs
    got = all.got

    lines : List (List ℕ)
    lines = lines_of s.inputs h (Head ∷ got.pieces)

    is : bytes ≡ bytes_of lines
    is = all_bytes s h bytes after [] all.line runs has got ∙ append-nil (bytes_of lines)

    lack : AllLack lines
    lack = pieces_lack s h (Head ∷ got.pieces) has.has.has.head (good_only s got.pieces got.only)

    no_lines_left : (more : List (List ℕ)) → [] ≡ bytes_of more → more ≡ []
    no_lines_left [] e = refl
    no_lines_left (l ∷ more) e =
        let short : 0 ≡ length (bytes_of (l ∷ more)) = ap length e in
        let long : length (ended l ++ bytes_of more) ≡ length (ended l) + length (bytes_of more) = length-append (ended l) (bytes_of more) in
        let own : length (ended l) ≡ length l + 1 = length-append l (10 ∷ []) in
        absurd (omega (arith, short, long, own))

    no_runs_left : (left : List Piece) → [] ≡ lines_of s.inputs h left → runs_of left ≡ []
    no_runs_left [] e = refl
    no_runs_left (Head ∷ left) e = absurd (no_more title _ (sym e))
    no_runs_left (Ran l r ∷ left) e = absurd (no_more l _ (sym e))

    only : (other : Option HeadValue) (others : List RanValue) → IsKnown s bytes other others → (other ≡ Some h) × (others ≡ runs)
    only None others known = absurd (not_empty s h bytes after has known.0)
    only (Some other) others known =
        let begin = lines_begin lines known.lines [] lack (lines_lack s other known.lines others known.are) (sym known.is ∙ is ∙ sym (append-nil (bytes_of lines))) in
        let none = no_lines_left begin.more begin.is in
        let tail = tail_of s h other got.pieces lines [] others got.only refl (subst (λ (ls : List (List ℕ)). AreLines s other ls others) (begin.are ∙ ap (λ (ls : List (List ℕ)). lines ++ ls) none) known.are) in (
          ap (λ (k : HeadValue). Some k) tail.same,
          tail.said ∙ ap (λ (rs : List RanValue). runs_of got.pieces ++ rs) (no_runs_left tail.left tail.is) ∙ append-nil (runs_of got.pieces) ∙ sym got.said,
        )

-- NO FIRST HEAD

-- some head
some_words : HasForm Program (codes "x")
some_words = record { some = omega arith; printed = refl }

some_head : (words : List ℕ) → HasForm Program words → IsHead (record { words = words; sum = codes "x" })
some_head words form = record { words = form; sum = record { some = omega arith; few = omega arith; graphic = refl } }

begun_first : (s : Source) (words : List ℕ) (front more : List (List ℕ)) → HasForm Program words → front ++ more ≡ head_lines s.inputs (record { words = words; sum = codes "x" }) → IsBegun s front
begun_first s words front more form is = record {
  h = record { words = words; sum = codes "x" };
  runs = [];
  more = more;
  are = record { pieces = []; head = some_head words form; good = tt; is = is ∙ sym (append-nil (head_lines s.inputs (record { words = words; sum = codes "x" }))); said = refl; few = omega arith };
}

first_short : (s : Source) (h : HeadValue) (lines : List (List ℕ)) (runs : List RanValue) → length lines < 4 → AreLines s h lines runs → ⊥
first_short s h lines runs short are =
    let long : length lines ≡ 4 + length (lines_of s.inputs h are.pieces) = ap length are.is ∙ length-append (head_lines s.inputs h) (lines_of s.inputs h are.pieces) in
    omega (arith, short, long)

-- the lines of a text begin with those of its head
first_lines : (s : Source) (h : HeadValue) (lines : List (List ℕ)) (runs : List RanValue) → (are : AreLines s h lines runs) → lines ≡ head_lines s.inputs h ++ lines_of s.inputs h are.pieces
first_lines s h lines runs are = are.is

pub refused_first : (s : Source) (bytes : List ℕ) (f : KnownFault) → s.inputs < 2 ^ 64 → bytes ≢ [] → FirstFault s.inputs bytes f → (f.cause ≡ cause.Memory) ⊎ IsRefused s bytes f
refused_first s bytes f small some (first_title unread no_title) = inr (record {
  lines = [];
  rest = bytes;
  is = refl;
  at = ap (λ (g : KnownFault). g.line) unread;
  begun = begun_first s (codes "x") [] (head_lines s.inputs (record { words = codes "x"; sum = codes "x" })) some_words refl;
  stops = stops;
  none = none_of s bytes [] bytes refl no_lines_lack some stops (λ e. absurd (some e));
  other = λ e. absurd (apart f 1 unread e);
  unread = λ e place. no_more place.last [] (no_front place.front place.last place.at);
})
  where
    no_lines_lack : AllLack []
    no_lines_lack = empty_lack

    no_front : (front : List (List ℕ)) (last : List ℕ) → [] ≡ front ++ last ∷ [] → last ∷ [] ≡ []
    no_front [] last e = sym e
    no_front (l ∷ front) last e = absurd (no_more l (front ++ last ∷ []) (sym e))

    stops : NoneGoesOn s [] bytes
    stops line more lacking e begun =
        let titled : line ≡ title = ap (λ (ls : List (List ℕ)). get_or ls 0 []) (first_lines s begun.h (line ∷ begun.more) begun.runs begun.are) in
        no_title more (e ∙ ap (λ (bs : List ℕ). bs ++ 10 ∷ more) titled ∙ sym (ended_is title more))
refused_first s bytes f small some (first_inputs rest titled fault) =
    let begun = begun_first s (codes "x") one_line (line_of Inputs (decimal s.inputs) ∷ line_of Program (codes "x") ∷ line_of Sum (codes "x") ∷ []) some_words refl in
    by_stuck s bytes Inputs (λ (w : List ℕ). w ≡ decimal s.inputs) rest 2 f (word_stuck Inputs (decimal s.inputs) rest 2 f (record { number = s.inputs; small = small; is = refl }) fault)
    (λ stuck.
    stuck_refused s bytes one_line rest Inputs (λ (w : List ℕ). w ≡ decimal s.inputs) 2 f [] title (one_bytes bytes rest titled) refl (all_lack_front one_line begun.more (lines_lack s begun.h _ begun.runs begun.are)) some begun refl refl stuck
    (λ line next. (decimal s.inputs, refl, ap (λ (ls : List (List ℕ)). get_or ls 1 []) (first_lines s next.h (title ∷ line ∷ next.more) next.runs next.are)))
    (λ h runs are. first_short s h one_line runs (omega arith) are))
refused_first s bytes f small some (first_rest rest last titled one (any_program fault)) =
    let begun = begun_first s (codes "x") (two_lines s.inputs) (line_of Program (codes "x") ∷ line_of Sum (codes "x") ∷ []) some_words refl in
    by_stuck s bytes Program (HasForm Program) last 3 f (any_stuck Program last 3 f fault)
    (λ stuck.
    stuck_refused s bytes (two_lines s.inputs) last Program (HasForm Program) 3 f one_line (line_of Inputs (decimal s.inputs)) (two_bytes s.inputs bytes rest last titled one) refl
    (all_lack_front (two_lines s.inputs) begun.more (lines_lack s begun.h _ begun.runs begun.are)) some begun refl (decimal s.inputs, refl) stuck
    (λ line next.
    (next.h.words, next.are.head.words, ap (λ (ls : List (List ℕ)). get_or ls 2 []) (first_lines s next.h (title ∷ line_of Inputs (decimal s.inputs) ∷ line ∷ next.more) next.runs next.are)))
    (λ h runs are. first_short s h (two_lines s.inputs) runs (omega arith) are))
refused_first s bytes f small some (first_rest rest last titled one (any_sum words end two fault)) =
    let begun = begun_first s words (three_lines s.inputs words) (line_of Sum (codes "x") ∷ []) two.form refl in
    by_stuck s bytes Sum (HasForm Sum) end 4 f (any_stuck Sum end 4 f fault)
    (λ stuck.
    stuck_refused s bytes (three_lines s.inputs words) end Sum (HasForm Sum) 4 f (two_lines s.inputs) (line_of Program words) (three_bytes s.inputs words bytes rest last end titled one two.is) refl
    (all_lack_front (three_lines s.inputs words) begun.more (lines_lack s begun.h _ begun.runs begun.are)) some begun refl (words, refl) stuck
    (λ line next.
    (next.h.sum, next.are.head.sum, ap (λ (ls : List (List ℕ)). get_or ls 3 []) (first_lines s next.h (title ∷ line_of Inputs (decimal s.inputs) ∷ line_of Program words ∷ line ∷ next.more) next.runs next.are)))
    (λ h runs are. first_short s h (three_lines s.inputs words) runs (omega arith) are))

pub empty_known : (s : Source) (bytes : List ℕ) (runs : List RanValue) → bytes ≡ [] → runs ≡ [] → IsKnownOnly s bytes None runs
empty_known s bytes runs empty none = record { is = (empty, none); only = only }
  where
    only : (other : Option HeadValue) (others : List RanValue) → IsKnown s bytes other others → (other ≡ None) × (others ≡ runs)
    only None others known = (refl, known.1 ∙ sym none)
    only (Some h) others known =
        let e : bytes_of (head_lines s.inputs h ++ lines_of s.inputs h known.are.pieces) ≡ [] = ap bytes_of (sym known.are.is) ∙ sym known.is ∙ empty in
        let long : length (bytes_of (head_lines s.inputs h ++ lines_of s.inputs h known.are.pieces)) ≡ 0 = ap length e in
        let some : bytes_of (head_lines s.inputs h ++ lines_of s.inputs h known.are.pieces) ≡ title ++ 10 ∷ bytes_of (drop 1 (head_lines s.inputs h ++ lines_of s.inputs h known.are.pieces)) =
        ended_is title (bytes_of (drop 1 (head_lines s.inputs h ++ lines_of s.inputs h known.are.pieces))) in
        let more : length (title ++ 10 ∷ bytes_of (drop 1 (head_lines s.inputs h ++ lines_of s.inputs h known.are.pieces))) ≡ 0 = ap length (sym some) ∙ long in
        absurd (let bad : suc (length (drop 1 (title ++ 10 ∷ bytes_of (drop 1 (head_lines s.inputs h ++ lines_of s.inputs h known.are.pieces))))) ≡ 0 = more in omega (arith, bad))
