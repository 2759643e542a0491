-- Words of a line, and an option with a number, read.
use Rattle.std.proofs.Common.{ℕ, ◌≡◌, ◌≢◌, ◌+◌, ◌%◌, ◌<◌, ◌^◌, true, List, [], ◌∷◌, ◌++◌, length, length-append, append_assoc, append-nil, codes, Option, None, Some, refl, sym, subst, ap, ◌∙◌, arith}
use Rattle.std.specs.Fmt.{decimal}
use Rattle.std.proofs.lemmas.Fmt.{decimal_by_steps}
use Rattle.epochs.specs.declared.part.By.{By}
use Rattle.epochs.specs.declared.part.By.TheVariants as by
use Rattle.report.specs.MarkReading.{lacks}
use Rattle.join.specs.Heads.{join_words, option_words, by_list, IsWord, AreWords, IsOtherFirst, IsSmallOption, ReadsWord, ReadsOption, ReadsBy}
use Rattle.join.specs.Reading.{IsCut, NoCut}
use Rattle.join.proofs.Texts.{one_cut, has_it}
use Rattle.join.proofs.Spans.{SaysNumber, blank_lacks}

-- words, each after a blank
abbrev pub spaced : List (List ℕ) → List ℕ
spaced [] = []
spaced (w ∷ ws) = 32 ∷ (w ++ spaced ws)

pub words_spaced : (w : List ℕ) (ws : List (List ℕ)) → join_words (w ∷ ws) ≡ w ++ spaced ws
words_spaced w [] = sym (append-nil w)
words_spaced w (v ∷ vs) = ap (λ (bs : List ℕ). w ++ 32 ∷ bs) (words_spaced v vs)

pub spaced_both : (ws vs : List (List ℕ)) → spaced (ws ++ vs) ≡ spaced ws ++ spaced vs
spaced_both [] vs = refl
spaced_both (w ∷ ws) vs = ap (λ (bs : List ℕ). 32 ∷ (w ++ bs)) (spaced_both ws vs) ∙ ap (λ (bs : List ℕ). 32 ∷ bs) (sym (append_assoc w (spaced ws) (spaced vs)))

-- a number is a word
number_some : (n : ℕ) → n < 2 ^ 64 → 0 < length (decimal n)
number_some n = decimal_by_steps (λ (m : ℕ) (ds : List ℕ). 0 < length ds) (λ m small. omega arith)
    (λ m ds big l. let long = length-append ds ((48 + m % 10) ∷ []) in omega (arith, long, l)) n

pub number_word : (n : ℕ) → n < 2 ^ 64 → IsWord (decimal n)
number_word n small = (number_some n small, blank_lacks n small)

pub less : (n : ℕ) → n < 2 ^ 32 → n < 2 ^ 64
less n small = omega (arith, small)

-- the first word of a line is read
pub word_cut : (line front back : List ℕ) → IsCut 32 line front back → ReadsWord line front back
word_cut line front back cut = record { read = reads; none = empty }
  where
    reads : (w : List ℕ) (ws : List (List ℕ)) → IsWord w → line ≡ join_words (w ∷ ws) → (front ≡ w) × (back ≡ join_words ws)
    reads w [] own e = absurd (has_it 32 front back (subst (λ (bs : List ℕ). lacks 32 bs ≡ true) (sym e ∙ cut.is) own.1))
    reads w (v ∷ vs) own e = one_cut 32 front w back (join_words (v ∷ vs)) cut.first own.1 (sym cut.is ∙ e)

    empty : line ≡ [] → front ≡ []
    empty e = absurd (has_it 32 front back (subst (λ (bs : List ℕ). lacks 32 bs ≡ true) (sym e ∙ cut.is) refl))

pub word_last : (line : List ℕ) → NoCut 32 line → ReadsWord line line []
word_last line lack = record { read = reads; none = λ e. e }
  where
    reads : (w : List ℕ) (ws : List (List ℕ)) → IsWord w → line ≡ join_words (w ∷ ws) → (line ≡ w) × ([] ≡ join_words ws)
    reads w [] own e = (e, refl)
    reads w (v ∷ vs) own e = absurd (has_it 32 w (join_words (v ∷ vs)) (subst (λ (bs : List ℕ). lacks 32 bs ≡ true) e lack.none))

-- a line that begins with another word has no such option
pub other_word : (name line word value : List ℕ) (ws : List (List ℕ)) → 0 < length name → ReadsWord line word value → word ≡ name → AreWords ws → IsOtherFirst name ws → line ≡ join_words ws → ⊥
other_word name line word value [] some r same each other e =
    let none : length word ≡ 0 = ap length (r.none e) in
    let long : length word ≡ length name = ap length same in
    omega (arith, some, none, long)
other_word name line word value (w ∷ ws) some r same each other e = other (sym (r.read w ws each.0 e).0 ∙ same)

-- an option that isn't there
pub option_lacking : (name line word value : List ℕ) → IsWord name → ReadsWord line word value → word ≢ name → ReadsOption name line None line
option_lacking name line word value own r other = record { read = reads }
  where
    reads : (o : Option ℕ) (ws : List (List ℕ)) → AreWords ws → IsSmallOption o → IsOtherFirst name ws → line ≡ join_words (option_words name o ++ ws) → (None ≡ o) × (line ≡ join_words ws)
    reads None ws each small first e = (refl, e)
    reads (Some n) ws each small first e = absurd (other (r.read name (decimal n ∷ ws) own e).0)

pub option_found : (name line word value said rest : List ℕ) (n : ℕ) → IsWord name → ReadsWord line word value → word ≡ name → ReadsWord value said rest → SaysNumber said n → ReadsOption name line (Some n) rest
option_found name line word value said rest n own r same s says = record { read = reads }
  where
    reads : (o : Option ℕ) (ws : List (List ℕ)) → AreWords ws → IsSmallOption o → IsOtherFirst name ws → line ≡ join_words (option_words name o ++ ws) → (Some n ≡ o) × (rest ≡ join_words ws)
    reads None ws each small first e = absurd (other_word name line word value ws own.0 r same each first e)
    reads (Some m) ws each small first e =
        let one = r.read name (decimal m ∷ ws) own e in
        let two = s.read (decimal m) ws (number_word m small) one.1 in
        (ap (λ (k : ℕ). Some k) (says m small two.0), two.1)

-- what departs as one
pub by_sector : (line word value : List ℕ) → ReadsWord line word value → word ≢ codes "by" → ReadsBy line by.Sector line
by_sector line word value r other = record { read = reads }
  where
    reads : (way : By) (ws : List (List ℕ)) → AreWords ws → IsOtherFirst (codes "by") ws → line ≡ join_words (by_list way ++ ws) → (by.Sector ≡ way) × (line ≡ join_words ws)
    reads by.Sector ws each first e = (refl, e)
    reads by.Write ws each first e = absurd (other (r.read (codes "by") (codes "write" ∷ ws) (omega arith, refl) e).0)

pub by_write : (line word value write rest : List ℕ) → ReadsWord line word value → word ≡ codes "by" → ReadsWord value write rest → ReadsBy line by.Write rest
by_write line word value write rest r same s = record { read = reads }
  where
    reads : (way : By) (ws : List (List ℕ)) → AreWords ws → IsOtherFirst (codes "by") ws → line ≡ join_words (by_list way ++ ws) → (by.Write ≡ way) × (rest ≡ join_words ws)
    reads by.Sector ws each first e = absurd (other_word (codes "by") line word value ws (omega arith) r same each first e)
    reads by.Write ws each first e =
        let one = r.read (codes "by") (codes "write" ∷ ws) (omega arith, refl) e in
        let two = s.read (codes "write") ws (omega arith, refl) one.1 in
        (refl, two.1)
