-- The lines of programs, read one after the other.
use Rattle.std.proofs.Common.{ℕ, zero, suc, ◌≡◌, ◌≢◌, ◌+◌, ◌<◌, ◌≤◌, ◌^◌, Bool, true, false, List, [], ◌∷◌, ◌++◌, length, length-append, append_assoc, append-nil, codes, Option, None, Some, refl, sym, subst, ap, ◌∙◌, arith}
use Rattle.std.specs.Fmt.{decimal}
use Rattle.std.specs.List.{All}
use Rattle.report.specs.MarkReading.{lacks}
use Rattle.report.proofs.Back.{lacks_both}
use Rattle.report.specs.declared.head.ProgramHead.{ProgramHead}
use Rattle.report.specs.Report.{steps_word, guards_words, steps_text, program_line, program_lines}
use Rattle.join.specs.Heads.{join_words, option_words, program_words, IsFewOption, IsSmallOption, IsWord, IsProgramHead, IsProgramLine, NoProgram, NoProgramLine, ReadsGuards, ReadsMore, ReadsOption, ReadsProgram, ReadsPrograms, ReadsWord}
use Rattle.join.specs.Reading.{NoCut}
use Rattle.join.proofs.Texts.{cancel, one_cut, has_it}
use Rattle.join.proofs.Spans.{SaysNumber, line_lacks}
use Rattle.join.proofs.WordsRead.{spaced, words_spaced, number_word, less}
use Rattle.join.proofs.FlushesRead.{SaysSmall}

steps_are : (is : Bool) → IsWord (steps_word is)
steps_are true = (omega arith, refl)
steps_are false = (omega arith, refl)

steps_lack : (is : Bool) → lacks 10 (steps_word is) ≡ true
steps_lack true = refl
steps_lack false = refl

pub small_few : (o : Option ℕ) → IsFewOption o → IsSmallOption o
small_few None few = tt
small_few (Some n) few = less n few

-- the number of guards is read as that of an option
pub guards_read : (line rest : List ℕ) (found few : Option ℕ) → ReadsOption (codes "guards") line found rest → ((n : Option ℕ) → IsFewOption n → found ≡ n → few ≡ n) → ReadsGuards line few
guards_read line rest found few r says = record { read = λ o small e. says o small (r.read o [] tt (small_few o small) tt (e ∙ ap join_words (sym (append-nil (option_words (codes "guards") o))))).0 }

-- a program is read from its words
pub program_read : (line number r1 name r2 slots r3 steps r4 limit rest : List ℕ) (n m : ℕ) (is : Bool) (guards : Option ℕ)
    → ReadsWord line number r1 → ReadsWord r1 name r2 → ReadsWord r2 slots r3 → ReadsWord r3 steps r4 → ReadsWord r4 limit rest
    → ReadsGuards rest guards → SaysSmall slots n → SaysNumber limit m → ((b : Bool) → steps ≡ steps_word b → is ≡ b)
    → ReadsProgram line (record { slots = n; limit = m; verified = is; guards = guards })
program_read line number r1 name r2 slots r3 steps r4 limit rest n m is guards c1 c2 c3 c4 c5 c6 says1 says2 says3 = record { read = reads }
  where
    reads : (k : ℕ) (q : ProgramHead) → k < 2 ^ 64 → IsProgramHead q → line ≡ join_words (program_words k q) → record { slots = n; limit = m; verified = is; guards = guards } ≡ q
    reads k q small own e =
        let g : List (List ℕ) = option_words (codes "guards") q.guards in
        let p1 = c1.read (decimal k) (codes "slots" ∷ decimal q.slots ∷ steps_word q.verified ∷ decimal q.limit ∷ g) (number_word k small) e in
        let p2 = c2.read (codes "slots") (decimal q.slots ∷ steps_word q.verified ∷ decimal q.limit ∷ g) (omega arith, refl) p1.1 in
        let p3 = c3.read (decimal q.slots) (steps_word q.verified ∷ decimal q.limit ∷ g) (number_word q.slots (less q.slots own.slots)) p2.1 in
        let p4 = c4.read (steps_word q.verified) (decimal q.limit ∷ g) (steps_are q.verified) p3.1 in
        let p5 = c5.read (decimal q.limit) g (number_word q.limit own.limit) p4.1 in
        let e4 = c6.read q.guards own.guards p5.1 in
        let e1 = says1 q.slots own.slots p3.0 in
        let e2 = says2 q.limit own.limit p5.0 in
        let e3 = says3 q.verified p4.0 in
        rw (e1, e2, e3, e4) refl

guards_spaced : (o : Option ℕ) → spaced (option_words (codes "guards") o) ≡ guards_words o
guards_spaced None = refl
guards_spaced (Some n) = ap (λ (bs : List ℕ). codes " guards " ++ bs) (append-nil (decimal n))

-- the words of a program with their blanks
abbrev words_text : ℕ → ProgramHead → List ℕ
words_text k q = decimal k ++ codes " slots " ++ decimal q.slots ++ codes " " ++ steps_text q

words_are : (k : ℕ) (q : ProgramHead) → join_words (program_words k q) ≡ words_text k q
words_are k q =
    let e1 : spaced (option_words (codes "guards") q.guards) ≡ guards_words q.guards = guards_spaced q.guards in
    words_spaced (decimal k) (codes "slots" ∷ decimal q.slots ∷ steps_word q.verified ∷ decimal q.limit ∷ option_words (codes "guards") q.guards)
    ∙ ap (λ (bs : List ℕ). decimal k ++ 32 ∷ (codes "slots" ++ 32 ∷ (decimal q.slots ++ 32 ∷ (steps_word q.verified ++ 32 ∷ (decimal q.limit ++ bs))))) e1
    ∙ simp append_assoc

regrouped : (a b c d e f g more : List ℕ) → ((((((a ++ b) ++ c) ++ d) ++ e) ++ f) ++ g) ++ more ≡ a ++ (((((b ++ c) ++ d) ++ e) ++ f) ++ (g ++ more))
regrouped a b c d e f g more = simp append_assoc

-- the line of a program by its words
pub line_words : (k : ℕ) (q : ProgramHead) (more : List ℕ) → program_line k q ++ more ≡ codes "program " ++ (join_words (program_words k q) ++ 10 ∷ more)
unfolding program_line
line_words k q more =
    regrouped (codes "program ") (decimal k) (codes " slots ") (decimal q.slots) (codes " ") (steps_text q) (codes "\n") more
    ∙ ap (λ (bs : List ℕ). codes "program " ++ (bs ++ 10 ∷ more)) (sym (words_are k q))

guards_lack : (o : Option ℕ) → IsFewOption o → lacks 10 (guards_words o) ≡ true
guards_lack None small = refl
guards_lack (Some n) small = lacks_both 10 (codes " guards ") (decimal n) refl (line_lacks n (less n small))

words_lack : (k : ℕ) (q : ProgramHead) → k < 2 ^ 64 → IsProgramHead q → lacks 10 (join_words (program_words k q)) ≡ true
words_lack k q small own =
    let steps = lacks_both 10 (steps_word q.verified ++ codes " " ++ decimal q.limit) (guards_words q.guards)
    (lacks_both 10 (steps_word q.verified ++ codes " ") (decimal q.limit) (lacks_both 10 (steps_word q.verified) (codes " ") (steps_lack q.verified) refl) (line_lacks q.limit own.limit))
    (guards_lack q.guards own.guards) in
    let slots = lacks_both 10 (decimal k ++ codes " slots ") (decimal q.slots) (lacks_both 10 (decimal k) (codes " slots ") (line_lacks k small) refl) (line_lacks q.slots (less q.slots own.slots)) in
    subst (λ (bs : List ℕ). lacks 10 bs ≡ true) (sym (words_are k q))
    (lacks_both 10 (decimal k ++ codes " slots " ++ decimal q.slots ++ codes " ") (steps_text q) (lacks_both 10 (decimal k ++ codes " slots " ++ decimal q.slots) (codes " ") slots refl) steps)

-- a text without the line of a program
pub no_word : (text : List ℕ) → ((rest : List ℕ) → text ≢ codes "program " ++ rest) → NoProgramLine text
no_word text other = record { none = λ words rest one e. other (words ++ 10 ∷ rest) e }

pub no_end : (text begun : List ℕ) → text ≡ codes "program " ++ begun → NoCut 10 begun → NoProgramLine text
no_end text begun is lack = record {
  none = λ words rest one e.
      let same : begun ≡ words ++ 10 ∷ rest = cancel (codes "program ") begun (words ++ 10 ∷ rest) (sym is ∙ e) in
      has_it 10 words rest (subst (λ (bs : List ℕ). lacks 10 bs ≡ true) same lack.none);
}

pub line_shorter : (text words rest : List ℕ) → IsProgramLine text words rest → length rest < length text
line_shorter text words rest l =
    let long : length text ≡ length (codes "program ") + length (words ++ 10 ∷ rest) = ap length l.is ∙ length-append (codes "program ") (words ++ 10 ∷ rest) in
    let more = length-append words (10 ∷ rest) in
    omega (arith, long, more)

-- no more programs are read
pub none_more : (before : List ProgramHead) (text : List ℕ) → NoProgramLine text → ReadsMore before text before
none_more before text none = record { read = reads }
  where
    reads : (qs : List ProgramHead) (rest : List ℕ) → length before + length qs ≤ 8 → All IsProgramHead qs → NoProgram rest → text ≡ program_lines (length before) qs ++ rest → before ≡ before ++ qs
    reads [] rest few all other e = sym (append-nil before)
    reads (q ∷ qs) rest few all other e =
        let own = all 0 q (omega arith) in
        let e1 = e ∙ append_assoc (program_line (length before) q) (program_lines (length before + 1) qs) rest ∙ line_words (length before) q (program_lines (length before + 1) qs ++ rest) in
        absurd (none.none (join_words (program_words (length before) q)) (program_lines (length before + 1) qs ++ rest) (words_lack (length before) q (omega (arith, few)) own) e1)

pub too_many : (before : List ProgramHead) (text words rest : List ℕ) → IsProgramLine text words rest → 8 ≤ length before → ReadsMore before text before
too_many before text words more l many = record { read = reads }
  where
    reads : (qs : List ProgramHead) (rest : List ℕ) → length before + length qs ≤ 8 → All IsProgramHead qs → NoProgram rest → text ≡ program_lines (length before) qs ++ rest → before ≡ before ++ qs
    reads [] rest few all other e = sym (append-nil before)
    reads (q ∷ qs) rest few all other e = absurd (omega (arith, few, many))

-- one program is read, and those after it
pub one_more : (before found : List ProgramHead) (text words more : List ℕ) (p : ProgramHead) → IsProgramLine text words more → ReadsProgram words p → ReadsMore (before ++ p ∷ []) more found → ReadsMore before text found
one_more before found text words more p l says next = record { read = reads }
  where
    reads : (qs : List ProgramHead) (rest : List ℕ) → length before + length qs ≤ 8 → All IsProgramHead qs → NoProgram rest → text ≡ program_lines (length before) qs ++ rest → found ≡ before ++ qs
    reads [] rest few all other e = absurd (other (words ++ 10 ∷ more) (sym e ∙ l.is))
    reads (q ∷ qs) rest few all other e =
        let own = all 0 q (omega arith) in
        let small : length before < 2 ^ 64 = omega (arith, few) in
        let e1 = sym l.is ∙ e ∙ append_assoc (program_line (length before) q) (program_lines (length before + 1) qs) rest ∙ line_words (length before) q (program_lines (length before + 1) qs ++ rest) in
        let e2 = cancel (codes "program ") (words ++ 10 ∷ more) (join_words (program_words (length before) q) ++ 10 ∷ (program_lines (length before + 1) qs ++ rest)) e1 in
        let one = one_cut 10 words (join_words (program_words (length before) q)) more (program_lines (length before + 1) qs ++ rest) l.one (words_lack (length before) q small own) e2 in
        let same : p ≡ q = says.read (length before) q small own one.0 in
        let long : length (before ++ p ∷ []) ≡ length before + 1 = length-append before (p ∷ []) in
        let e3 : more ≡ program_lines (length (before ++ p ∷ [])) qs ++ rest = one.1 ∙ ap (λ (k : ℕ). program_lines k qs ++ rest) (sym long) in
        let is = next.read qs rest (omega (arith, few, long)) (λ k d inside. all (suc k) d (omega (arith, inside))) other e3 in
        is ∙ append_assoc before (p ∷ []) qs ∙ ap (λ (x : ProgramHead). before ++ x ∷ qs) same

-- what was read is what is left after none
pub from_none : (text : List ℕ) (found : List ProgramHead) → ReadsMore [] text found → ReadsPrograms text found
from_none text found r = record { read = λ qs rest few all other e. r.read qs rest (omega (arith, few)) all other e }

-- what is read up to a place: what is left to read is what the whole comes to
pub record ProgramsSoFar (text rest : List ℕ) (programs : List ProgramHead) : Type 0 where
  pub left : (found : List ProgramHead) → ReadsMore programs rest found → ReadsMore [] text found
  pub small : All IsProgramHead programs

pub begun : (text : List ℕ) → ProgramsSoFar text text []
begun text = record { left = λ found r. r; small = λ k d inside. absurd (omega (arith, inside)) }

pub gone_on : (text rest words more : List ℕ) (programs now : List ProgramHead) (p : ProgramHead) → ProgramsSoFar text rest programs → IsProgramLine rest words more → ReadsProgram words p → IsProgramHead p → now ≡ programs ++ p ∷ []
    → ProgramsSoFar text more now
gone_on text rest words more programs now p r l says own is =
    subst (λ (ps : List ProgramHead). ProgramsSoFar text more ps) (sym is) (record { left = λ found next. r.left found (one_more programs found rest words more p l says next); small = push programs r.small })
  where
    push : (ps : List ProgramHead) → All IsProgramHead ps → All IsProgramHead (ps ++ p ∷ [])
    push [] all zero d inside = own
    push [] all (suc k) d inside = absurd (omega (arith, inside))
    push (x ∷ xs) all zero d inside = all 0 d (omega arith)
    push (x ∷ xs) all (suc k) d inside = push xs (λ i e within. all (suc i) e (omega (arith, within))) k d (omega (arith, inside))

pub ended : (text rest : List ℕ) (programs : List ProgramHead) → ProgramsSoFar text rest programs → NoProgramLine rest → ReadsPrograms text programs
ended text rest programs r none = from_none text programs (r.left programs (none_more programs rest none))

pub filled : (text rest words more : List ℕ) (programs : List ProgramHead) → ProgramsSoFar text rest programs → IsProgramLine rest words more → 8 ≤ length programs → ReadsPrograms text programs
filled text rest words more programs r l many = from_none text programs (r.left programs (too_many programs rest words more l many))
