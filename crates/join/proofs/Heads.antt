-- The head of a text, found by the first line that begins with `image`.
use Rattle.std.proofs.Common.{ℕ, ◌≡◌, ◌≢◌, ◌+◌, ◌<◌, List, [], ◌∷◌, ◌++◌, length, length-append, get_or, take, append_assoc, append-nil, codes, true, false, Option, Some, None, Bor, MatchOption, is_some, refl, sym, subst, ◌∙◌, ap, arith}
use Rattle.std.specs.Str.{IsUtf8, IsCharBoundary}
use Rattle.std.proofs.lemmas.List.{get_or-append-add}
use Rattle.std.proofs.lemmas.Str.{IsCharBoundary-before_ascii, IsUtf8-take}
use Rattle.std.proofs.Math.Seq.{take-append_seam}
use Rattle.report.specs.MarkReading.{lacks}
use Rattle.report.proofs.Back.{lacks_both}
use Rattle.join.specs.Text.{IsHeadLine, AreHeadLines, lines_text}
use Rattle.join.specs.Reading.{IsCut, NoCut, BeginsImage, IsAfterHead, NoHead}
use Rattle.join.proofs.Texts.{one_cut, has_it}

-- some lines of the head were passed over
pub record HasPassed (text rest : List ℕ) : Type 0 where
  pub lines : List (List ℕ)
  pub each : AreHeadLines lines
  pub is : text ≡ lines_text lines ++ rest

pub none_passed : (text : List ℕ) → HasPassed text text
none_passed text = record { lines = []; each = tt; is = refl }

lines_push : (ls : List (List ℕ)) (l more : List ℕ) → lines_text (ls ++ l ∷ []) ++ more ≡ lines_text ls ++ (l ++ 10 ∷ more)
lines_push [] l more = simp (append_assoc, append-nil)
lines_push (k ∷ ls) l more =
    append_assoc (k ++ 10 ∷ []) (lines_text (ls ++ l ∷ [])) more
    ∙ ap (λ (bs : List ℕ). (k ++ 10 ∷ []) ++ bs) (lines_push ls l more)
    ∙ sym (append_assoc (k ++ 10 ∷ []) (lines_text ls) (l ++ 10 ∷ more))

heads_push : (ls : List (List ℕ)) (l : List ℕ) → AreHeadLines ls → IsHeadLine l → AreHeadLines (ls ++ l ∷ [])
heads_push [] l each own = (own, tt)
heads_push (k ∷ ls) l each own = (each.0, heads_push ls l each.1 own)

pub one_passed : (text rest line more : List ℕ) → HasPassed text rest → IsCut 10 rest line more → ((x : List ℕ) → line ≢ codes "image" ++ x) → HasPassed text more
one_passed text rest line more h cut other = record {
  lines = h.lines ++ line ∷ [];
  each = heads_push h.lines line h.each (record { one = cut.first; other = other });
  is = h.is ∙ ap (λ (bs : List ℕ). lines_text h.lines ++ bs) cut.is ∙ sym (lines_push h.lines line more);
}

image_lacks : (word : List ℕ) → lacks 10 word ≡ true → lacks 10 (codes "image" ++ word) ≡ true
image_lacks word own = lacks_both 10 (codes "image") word refl own

-- the front of a word without a newline has none
front_lacks : (word : List ℕ) → lacks 10 (codes "image" ++ word) ≡ true → lacks 10 word ≡ true
front_lacks word own = own

-- a line that begins with `image` begins a text where it may be cut
cut_at_image : (text front rest word more : List ℕ) → text ≡ front ++ rest → rest ≡ (codes "image" ++ word) ++ 10 ∷ more → IsCharBoundary text (length front)
cut_at_image text front rest word more is begins =
    let e : length front + 0 ≡ length front = omega arith in
    let moved : get_or (front ++ rest) (length front + 0) 0 ≡ get_or rest 0 0 = get_or-append-add front rest 0 0 in
    let here : get_or (front ++ rest) (length front) 0 ≡ get_or rest 0 0 = rw e at moved in
    let first : get_or rest 0 0 ≡ 105 = ap (λ (bs : List ℕ). get_or bs 0 0) begins in
    let byte : get_or text (length front) 0 ≡ 105 = ap (λ (bs : List ℕ). get_or bs (length front) 0) is ∙ here ∙ first in
    let long = ap length is ∙ length-append front rest in
    let own = ap length begins ∙ length-append (codes "image" ++ word) (10 ∷ more) in
    let some : 0 < length (10 ∷ more) = omega arith in
    IsCharBoundary-before_ascii text (length front) (omega (arith, long, own, some)) (omega (arith, byte))

pub head_found : (text rest line more x : List ℕ) → HasPassed text rest → IsUtf8 text → IsCut 10 rest line more → line ≡ codes "image" ++ x → IsAfterHead text rest
head_found text rest line more x h whole cut is =
    let begins : rest ≡ (codes "image" ++ x) ++ 10 ∷ more = cut.is ∙ ap (λ (bs : List ℕ). bs ++ 10 ∷ more) is in
    let at = cut_at_image text (lines_text h.lines) rest x more h.is begins in
    let front = IsUtf8-take text (length (lines_text h.lines)) whole at in
    let same : take (length (lines_text h.lines)) text ≡ lines_text h.lines = ap (λ (bs : List ℕ). take (length (lines_text h.lines)) bs) h.is ∙ take-append_seam (lines_text h.lines) rest in
    record {
      head = lines_text h.lines;
      is_head = record { lines = h.lines; each = h.each; is = refl; text = subst (λ (bs : List ℕ). IsUtf8 bs) same front };
      is = h.is;
      begins = record { word = x; more = more; is = begins; one = front_lacks x (subst (λ (bs : List ℕ). lacks 10 bs ≡ true) is cut.first) };
    }

pub head_here : (text rest line more : List ℕ) (o : Option (Bor (List ℕ))) → HasPassed text rest → IsUtf8 text → IsCut 10 rest line more
    → MatchOption o ((x : List ℕ) → line ≢ codes "image" ++ x) (λ x. line ≡ codes "image" ++ x.now) → is_some o ≡ true → IsAfterHead text rest
head_here text rest line more None h whole cut found some = absurd (let bad : false ≡ true = some in cc)
head_here text rest line more (Some x) h whole cut found some = head_found text rest line more x.now h whole cut found

-- a text has one head
pub one_head : (ls ks : List (List ℕ)) (rest other : List ℕ) → AreHeadLines ls → AreHeadLines ks → BeginsImage rest → BeginsImage other
    → lines_text ls ++ rest ≡ lines_text ks ++ other → (lines_text ls ≡ lines_text ks) × (rest ≡ other)
one_head [] [] rest other own also a b e = (refl, e)
one_head [] (k ∷ ks) rest other own also a b e =
    let same : (codes "image" ++ a.word) ++ 10 ∷ a.more ≡ k ++ 10 ∷ (lines_text ks ++ other) =
    sym a.is ∙ e ∙ append_assoc (k ++ 10 ∷ []) (lines_text ks) other ∙ append_assoc k (10 ∷ []) (lines_text ks ++ other) in
    let first = one_cut 10 (codes "image" ++ a.word) k a.more (lines_text ks ++ other) (image_lacks a.word a.one) also.0.one same in
    absurd (also.0.other a.word (sym first.0))
one_head (l ∷ ls) [] rest other own also a b e =
    let same : l ++ 10 ∷ (lines_text ls ++ rest) ≡ (codes "image" ++ b.word) ++ 10 ∷ b.more =
    sym (append_assoc (l ++ 10 ∷ []) (lines_text ls) rest ∙ append_assoc l (10 ∷ []) (lines_text ls ++ rest)) ∙ e ∙ b.is in
    let first = one_cut 10 l (codes "image" ++ b.word) (lines_text ls ++ rest) b.more own.0.one (image_lacks b.word b.one) same in
    absurd (own.0.other b.word first.0)
one_head (l ∷ ls) (k ∷ ks) rest other own also a b e =
    let same : l ++ 10 ∷ (lines_text ls ++ rest) ≡ k ++ 10 ∷ (lines_text ks ++ other) =
    sym (append_assoc (l ++ 10 ∷ []) (lines_text ls) rest ∙ append_assoc l (10 ∷ []) (lines_text ls ++ rest)) ∙ e
    ∙ append_assoc (k ++ 10 ∷ []) (lines_text ks) other ∙ append_assoc k (10 ∷ []) (lines_text ks ++ other) in
    let first = one_cut 10 l k (lines_text ls ++ rest) (lines_text ks ++ other) own.0.one also.0.one same in
    let more = one_head ls ks rest other own.1 also.1 a b first.1 in
    let line : l ≡ k = first.0 in
    let tail : lines_text ls ≡ lines_text ks = more.0 in
    (rw (line, tail) refl, more.1)

-- a text that was passed over has no line that begins with `image`
passed_none : (ls ks : List (List ℕ)) (rest other : List ℕ) → AreHeadLines ls → AreHeadLines ks → NoCut 10 rest → BeginsImage other → lines_text ls ++ rest ≡ lines_text ks ++ other → ⊥
passed_none [] [] rest other own also lack b e = has_it 10 (codes "image" ++ b.word) b.more (subst (λ (bs : List ℕ). lacks 10 bs ≡ true) (e ∙ b.is) lack.none)
passed_none [] (k ∷ ks) rest other own also lack b e =
    let parts : rest ≡ k ++ 10 ∷ (lines_text ks ++ other) = e ∙ append_assoc (k ++ 10 ∷ []) (lines_text ks) other ∙ append_assoc k (10 ∷ []) (lines_text ks ++ other) in
    has_it 10 k (lines_text ks ++ other) (subst (λ (bs : List ℕ). lacks 10 bs ≡ true) parts lack.none)
passed_none (l ∷ ls) [] rest other own also lack b e =
    let same : l ++ 10 ∷ (lines_text ls ++ rest) ≡ (codes "image" ++ b.word) ++ 10 ∷ b.more =
    sym (append_assoc (l ++ 10 ∷ []) (lines_text ls) rest ∙ append_assoc l (10 ∷ []) (lines_text ls ++ rest)) ∙ e ∙ b.is in
    let first = one_cut 10 l (codes "image" ++ b.word) (lines_text ls ++ rest) b.more own.0.one (image_lacks b.word b.one) same in
    own.0.other b.word first.0
passed_none (l ∷ ls) (k ∷ ks) rest other own also lack b e =
    let same : l ++ 10 ∷ (lines_text ls ++ rest) ≡ k ++ 10 ∷ (lines_text ks ++ other) =
    sym (append_assoc (l ++ 10 ∷ []) (lines_text ls) rest ∙ append_assoc l (10 ∷ []) (lines_text ls ++ rest)) ∙ e
    ∙ append_assoc (k ++ 10 ∷ []) (lines_text ks) other ∙ append_assoc k (10 ∷ []) (lines_text ks ++ other) in
    let first = one_cut 10 l k (lines_text ls ++ rest) (lines_text ks ++ other) own.0.one also.0.one same in
    passed_none ls ks rest other own.1 also.1 lack b first.1

pub no_head : (text rest : List ℕ) → HasPassed text rest → NoCut 10 rest → NoHead text
no_head text rest h lack = record {
  none = λ head other is begins e.
      passed_none h.lines is.lines rest other h.each is.each lack begins (sym h.is ∙ e ∙ ap (λ (bs : List ℕ). bs ++ other) is.is);
}
