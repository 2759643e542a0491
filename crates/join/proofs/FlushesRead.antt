-- The flushes that were added, read.
use Rattle.std.proofs.Common.{ℕ, zero, suc, ◌≡◌, ◌≢◌, ◌-◌, ◌<◌, ◌≤◌, ◌^◌, true, List, [], ◌∷◌, ◌++◌, length, length-append, append_assoc, append-nil, codes, refl, sym, subst, ap, ◌∙◌, arith}
use Rattle.std.specs.Fmt.{decimal}
use Rattle.std.specs.List.{flat_map}
use Rattle.std.proofs.lemmas.Bool.Decides.{nat_tests}
use Rattle.epochs.specs.declared.flushes.Flushes.{Flushes}
use Rattle.epochs.specs.Flushes.{places_of}
use Rattle.report.specs.Words.{next_flush}
use Rattle.report.specs.MarkReading.{lacks}
use Rattle.report.proofs.Back.{lacks_both}
use Rattle.join.specs.Heads.{join_words, entries_text, flush_list, AreEntries, AreWords, IsWord, IsOtherFirst, ReadsWord, ReadsEntries, ReadsFlushes}
use Rattle.join.specs.Reading.{IsCut, NoCut}
use Rattle.join.proofs.Texts.{one_cut, has_it}
use Rattle.join.proofs.Spans.{NoDigit, number_lacks, blank_lacks}
use Rattle.join.proofs.WordsRead.{number_word, less, other_word}

-- a number of 32 bits that a word says, if it says one
abbrev pub SaysSmall : List ℕ → ℕ → Type 0
SaysSmall word found = (n : ℕ) → n < 2 ^ 32 → word ≡ decimal n → found ≡ n

no_comma : NoDigit 44
no_comma k small = grind (arith, nat_tests)

comma_lacks : (n : ℕ) → n < 2 ^ 32 → lacks 44 (decimal n) ≡ true
comma_lacks n small = number_lacks 44 n no_comma (less n small)

pub first_of : (e : ℕ) (es : List ℕ) → AreEntries (e ∷ es) → e < 2 ^ 32
first_of e es all = all 0 0 (omega arith)

pub rest_of : (e : ℕ) (es : List ℕ) → AreEntries (e ∷ es) → AreEntries es
rest_of e es all = λ k d small. all (suc k) d (omega (arith, small))

-- one more entry after others
pub entries_push : (es fs : List ℕ) (e : ℕ) → e < 2 ^ 32 → fs ≡ es ++ e ∷ [] → AreEntries es → AreEntries fs
entries_push es fs e small is all = subst (λ (xs : List ℕ). AreEntries xs) (sym is) (push es all)
  where
    push : (xs : List ℕ) → AreEntries xs → AreEntries (xs ++ e ∷ [])
    push [] own zero d inside = small
    push [] own (suc k) d inside = absurd (omega (arith, inside))
    push (x ∷ xs) own zero d inside = first_of x xs own
    push (x ∷ xs) own (suc k) d inside = push xs (rest_of x xs own) k d (omega (arith, inside))

-- a list of entries is read
pub none_left : (before text : List ℕ) (found : Flushes) → ReadsEntries before 0 text found
none_left before text found = record { read = λ entry entries few. absurd (omega (arith, few)) }

pub last_entry : (before text : List ℕ) (left n : ℕ) (found : Flushes) → NoCut 44 text → SaysSmall text n → places_of found ≡ before ++ n ∷ [] → ReadsEntries before left text found
last_entry before text left n found lack says is = record { read = reads }
  where
    reads : (entry : ℕ) (entries : List ℕ) → length entries < left → AreEntries (entry ∷ entries) → text ≡ entries_text (entry ∷ entries) → places_of found ≡ before ++ entry ∷ entries
    reads e [] few all is_text =
        let same : n ≡ e = says e (first_of e [] all) (is_text ∙ append-nil (decimal e)) in
        is ∙ ap (λ (m : ℕ). before ++ m ∷ []) same
    reads e (f ∷ fs) few all is_text = absurd (has_it 44 (decimal e) (entries_text (f ∷ fs)) (subst (λ (bs : List ℕ). lacks 44 bs ≡ true) is_text lack.none))

pub more_entries : (before text front more between : List ℕ) (left n : ℕ) (found : Flushes) → IsCut 44 text front more → SaysSmall front n → between ≡ before ++ n ∷ [] → ReadsEntries between (left - 1) more found → ReadsEntries before left text found
more_entries before text front more between left n found cut says is rest = record { read = reads }
  where
    reads : (entry : ℕ) (entries : List ℕ) → length entries < left → AreEntries (entry ∷ entries) → text ≡ entries_text (entry ∷ entries) → places_of found ≡ before ++ entry ∷ entries
    reads e [] few all is_text =
        let here : lacks 44 text ≡ true = subst (λ (bs : List ℕ). lacks 44 bs ≡ true) (sym (is_text ∙ append-nil (decimal e))) (comma_lacks e (first_of e [] all)) in
        absurd (has_it 44 front more (subst (λ (bs : List ℕ). lacks 44 bs ≡ true) cut.is here))
    reads e (f ∷ fs) few all is_text =
        let one = one_cut 44 front (decimal e) more (entries_text (f ∷ fs)) cut.first (comma_lacks e (first_of e (f ∷ fs) all)) (sym cut.is ∙ is_text) in
        let same : n ≡ e = says e (first_of e (f ∷ fs) all) one.0 in
        let beyond = rest.read f fs (omega (arith, few)) (rest_of e (f ∷ fs) all) one.1 in
        beyond ∙ ap (λ (xs : List ℕ). xs ++ f ∷ fs) (is ∙ ap (λ (m : ℕ). before ++ m ∷ []) same) ∙ append_assoc before (e ∷ []) (f ∷ fs)

-- the list of entries is a word
next_lacks : (es : List ℕ) → AreEntries es → lacks 32 (flat_map next_flush es) ≡ true
next_lacks [] all = refl
next_lacks (e ∷ es) all = lacks_both 32 (next_flush e) (flat_map next_flush es) (blank_lacks e (less e (first_of e es all))) (next_lacks es (rest_of e es all))

pub entries_word : (e : ℕ) (es : List ℕ) → AreEntries (e ∷ es) → IsWord (entries_text (e ∷ es))
entries_word e es all =
    let own = number_word e (less e (first_of e es all)) in
    let some = own.0 in
    let long = length-append (decimal e) (flat_map next_flush es) in
    (omega (arith, some, long), lacks_both 32 (decimal e) (flat_map next_flush es) own.1 (next_lacks es (rest_of e es all)))

-- the flushes are read, where there are some
pub no_flush : (line word value : List ℕ) (found : Flushes) → ReadsWord line word value → word ≢ codes "flush" → places_of found ≡ [] → ReadsFlushes line found line
no_flush line word value found r other is = record { read = reads }
  where
    reads : (es : List ℕ) (ws : List (List ℕ)) → length es ≤ 64 → AreEntries es → AreWords ws → IsOtherFirst (codes "flush") ws → line ≡ join_words (flush_list es ++ ws) → (places_of found ≡ es) × (line ≡ join_words ws)
    reads [] ws few all each first e = (is, e)
    reads (x ∷ xs) ws few all each first e = absurd (other (r.read (codes "flush") (entries_text (x ∷ xs) ∷ ws) (omega arith, refl) e).0)

pub some_flush : (line word value list rest none : List ℕ) (found : Flushes) → ReadsWord line word value → word ≡ codes "flush" → ReadsWord value list rest → none ≡ [] → ReadsEntries none 64 list found → ReadsFlushes line found rest
some_flush line word value list rest none found r same s nothing entries = record { read = reads }
  where
    reads : (es : List ℕ) (ws : List (List ℕ)) → length es ≤ 64 → AreEntries es → AreWords ws → IsOtherFirst (codes "flush") ws → line ≡ join_words (flush_list es ++ ws) → (places_of found ≡ es) × (rest ≡ join_words ws)
    reads [] ws few all each first e = absurd (other_word (codes "flush") line word value ws (omega arith) r same each first e)
    reads (x ∷ xs) ws few all each first e =
        let one = r.read (codes "flush") (entries_text (x ∷ xs) ∷ ws) (omega arith, refl) e in
        let two = s.read (entries_text (x ∷ xs)) ws (entries_word x xs all) one.1 in
        (entries.read x xs (omega (arith, few)) all two.0 ∙ ap (λ (bs : List ℕ). bs ++ x ∷ xs) nothing, two.1)
