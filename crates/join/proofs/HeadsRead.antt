-- The line of the options, and the head with its programs, read.
use Rattle.std.proofs.Common.{ℕ, zero, suc, ◌≡◌, ◌≢◌, ◌<◌, ◌≤◌, ◌^◌, Bool, true, false, List, [], ◌∷◌, ◌++◌, length, get_or, take, append_assoc, append-nil, codes, Option, None, Some, refl, sym, subst, ap, ◌∙◌, arith}
use Rattle.std.specs.Fmt.{decimal}
use Rattle.std.specs.List.{flat_map}
use Rattle.epochs.specs.declared.cuts.CutKind.{CutKind}
use Rattle.epochs.specs.declared.cuts.CutKind.TheVariants as kinds
use Rattle.epochs.specs.declared.flushes.Flushes.{Flushes}
use Rattle.epochs.specs.declared.part.By.{By}
use Rattle.epochs.specs.declared.part.By.TheVariants as by
use Rattle.epochs.specs.Flushes.{places_of}
use Rattle.report.specs.Words.{next_flush, flush_words, from_words, to_words, cuts_words}
use Rattle.report.specs.MarkReading.{lacks, IsCutAt}
use Rattle.report.proofs.Back.{lacks_both}
use Rattle.report.specs.declared.head.ProgramHead.{ProgramHead}
use Rattle.report.specs.Text.{yes_or_no, cuts_word, by_words}
use Rattle.report.specs.Report.{HeadValue, base_words, device_text, choices_text, given_text, options_line, options_text, program_lines}
use Rattle.join.specs.declared.options.GivenOptions.{GivenOptions}
use Rattle.join.specs.Heads.{join_words, option_words, by_list, flush_list, device_words, choices_words, given_words, AreEntries, AreWords, IsWord, IsOtherFirst, IsSmallOption, IsSmallHead, IsPrintedHead, IsHeadRead, NoHeadRead, are_options_of_run, are_programs_of_run, HaveSameOptions, HasLines, NoProgram, ReadsWord, ReadsOption, ReadsBy, ReadsFlushes, ReadsDevice, ReadsChoices, ReadsGiven, ReadsOptions, ReadsPrograms, ReadsHead}
use Rattle.join.proofs.Spans.{line_lacks}
use Rattle.join.proofs.WordsRead.{spaced, spaced_both, words_spaced, number_word, less}
use Rattle.join.proofs.FlushesRead.{SaysSmall, entries_word, first_of, rest_of}

pub kind_word : (kind : CutKind) → IsWord (cuts_word kind)
kind_word kinds.All = (omega arith, refl)
kind_word kinds.BeforeFlush = (omega arith, refl)
kind_word kinds.AfterMark = (omega arith, refl)

pub yes_word : (is : Bool) → IsWord (yes_or_no is)
yes_word true = (omega arith, refl)
yes_word false = (omega arith, refl)

byte_less : (n : ℕ) → n < 2 ^ 8 → n < 2 ^ 64
byte_less n small = omega (arith, small)

-- the device, the log and the kind of cuts are read
pub device_read : (line w1 r1 w2 r2 w3 r3 w4 r4 w5 r5 w6 rest : List ℕ) (sectors entries : ℕ) (kind : CutKind)
    → ReadsWord line w1 r1 → ReadsWord r1 w2 r2 → ReadsWord r2 w3 r3 → ReadsWord r3 w4 r4 → ReadsWord r4 w5 r5 → ReadsWord r5 w6 rest
    → SaysSmall w2 sectors → SaysSmall w4 entries → ((k : CutKind) → w6 ≡ cuts_word k → kind ≡ k) → ReadsDevice line sectors entries kind rest
device_read line w1 r1 w2 r2 w3 r3 w4 r4 w5 r5 w6 rest sectors entries kind c1 c2 c3 c4 c5 c6 says1 says2 says3 = record { read = reads }
  where
    reads : (v : HeadValue) (ws : List (List ℕ)) → IsSmallHead v → line ≡ join_words (device_words v ++ ws) → (sectors ≡ v.sectors) × (entries ≡ v.entries) × (kind ≡ v.cuts.kind) × (rest ≡ join_words ws)
    reads v ws small e =
        let p1 = c1.read (codes "sectors") (decimal v.sectors ∷ codes "entries" ∷ decimal v.entries ∷ codes "cuts" ∷ cuts_word v.cuts.kind ∷ ws) (omega arith, refl) e in
        let p2 = c2.read (decimal v.sectors) (codes "entries" ∷ decimal v.entries ∷ codes "cuts" ∷ cuts_word v.cuts.kind ∷ ws) (number_word v.sectors (less v.sectors small.sectors)) p1.1 in
        let p3 = c3.read (codes "entries") (decimal v.entries ∷ codes "cuts" ∷ cuts_word v.cuts.kind ∷ ws) (omega arith, refl) p2.1 in
        let p4 = c4.read (decimal v.entries) (codes "cuts" ∷ cuts_word v.cuts.kind ∷ ws) (number_word v.entries (less v.entries small.entries)) p3.1 in
        let p5 = c5.read (codes "cuts") (cuts_word v.cuts.kind ∷ ws) (omega arith, refl) p4.1 in
        let p6 = c6.read (cuts_word v.cuts.kind) ws (kind_word v.cuts.kind) p5.1 in
        (says1 v.sectors small.sectors p2.0, says2 v.entries small.entries p4.0, says3 v.cuts.kind p6.0, p6.1)

-- the bound, the tears and the first image are read
pub choices_read : (line w1 r1 w2 r2 w3 r3 w4 r4 w5 r5 w6 rest : List ℕ) (bound : ℕ) (tears first : Bool)
    → ReadsWord line w1 r1 → ReadsWord r1 w2 r2 → ReadsWord r2 w3 r3 → ReadsWord r3 w4 r4 → ReadsWord r4 w5 r5 → ReadsWord r5 w6 rest
    → ((n : ℕ) → n < 2 ^ 8 → w2 ≡ decimal n → bound ≡ n) → ((is : Bool) → w4 ≡ yes_or_no is → tears ≡ is) → ((is : Bool) → w6 ≡ yes_or_no is → first ≡ is) → ReadsChoices line bound tears first rest
choices_read line w1 r1 w2 r2 w3 r3 w4 r4 w5 r5 w6 rest bound tears first c1 c2 c3 c4 c5 c6 says1 says2 says3 = record { read = reads }
  where
    reads : (v : HeadValue) (ws : List (List ℕ)) → IsSmallHead v → line ≡ join_words (choices_words v ++ ws) → (bound ≡ v.bound) × (tears ≡ v.tears) × (first ≡ v.first) × (rest ≡ join_words ws)
    reads v ws small e =
        let p1 = c1.read (codes "bound") (decimal v.bound ∷ codes "tears" ∷ yes_or_no v.tears ∷ codes "first" ∷ yes_or_no v.first ∷ ws) (omega arith, refl) e in
        let p2 = c2.read (decimal v.bound) (codes "tears" ∷ yes_or_no v.tears ∷ codes "first" ∷ yes_or_no v.first ∷ ws) (number_word v.bound (byte_less v.bound small.bound)) p1.1 in
        let p3 = c3.read (codes "tears") (yes_or_no v.tears ∷ codes "first" ∷ yes_or_no v.first ∷ ws) (omega arith, refl) p2.1 in
        let p4 = c4.read (yes_or_no v.tears) (codes "first" ∷ yes_or_no v.first ∷ ws) (yes_word v.tears) p3.1 in
        let p5 = c5.read (codes "first") (yes_or_no v.first ∷ ws) (omega arith, refl) p4.1 in
        let p6 = c6.read (yes_or_no v.first) ws (yes_word v.first) p5.1 in
        (says1 v.bound small.bound p2.0, says2 v.tears p4.0, says3 v.first p6.0, p6.1)

-- words of an option with a number
pub option_are : (name : List ℕ) (o : Option ℕ) (ws : List (List ℕ)) → IsWord name → IsSmallOption o → AreWords ws → AreWords (option_words name o ++ ws)
option_are name None ws own small each = each
option_are name (Some n) ws own small each = (own, (number_word n small, each))

pub option_other : (other name : List ℕ) (o : Option ℕ) (ws : List (List ℕ)) → name ≢ other → IsOtherFirst other ws → IsOtherFirst other (option_words name o ++ ws)
option_other other name None ws apart first = first
option_other other name (Some n) ws apart first = apart

pub flush_are : (es : List ℕ) (ws : List (List ℕ)) → AreEntries es → AreWords ws → AreWords (flush_list es ++ ws)
flush_are [] ws all each = each
flush_are (e ∷ es) ws all each = ((omega arith, refl), (entries_word e es all, each))

pub flush_other : (other : List ℕ) (es : List ℕ) (ws : List (List ℕ)) → codes "flush" ≢ other → IsOtherFirst other ws → IsOtherFirst other (flush_list es ++ ws)
flush_other other [] ws apart first = first
flush_other other (e ∷ es) ws apart first = apart

pub other_long : (xs ys : List ℕ) → length xs ≢ length ys → xs ≢ ys
other_long xs ys apart e = apart (ap length e)

-- flushes are at most 64
pub few_places : (f : Flushes) → length (places_of f) ≤ 64
few_places f = let few = f.few in at_most f.count f.entries 64 few
  where
    at_most : (n : ℕ) (xs : List ℕ) (m : ℕ) → n ≤ m → length (take n xs) ≤ m
    at_most zero xs m small = omega arith
    at_most (suc n) [] m small = omega arith
    at_most (suc n) (x ∷ xs) zero small = absurd (omega (arith, small))
    at_most (suc n) (x ∷ xs) (suc m) small = let rest = at_most n xs m (omega (arith, small)) in omega (arith, rest)

to_by : codes "to" ≢ codes "by"
to_by k = let first : 116 ≡ 98 = ap (λ (bs : List ℕ). get_or bs 0 0) k in absurd (omega (arith, first))

base_from : codes "base" ≢ codes "from"
base_from k = let first : 98 ≡ 102 = ap (λ (bs : List ℕ). get_or bs 0 0) k in absurd (omega (arith, first))

-- the options that are given are read
pub given_read : (line r1 r2 r3 r4 r5 : List ℕ) (g : GivenOptions)
    → ReadsBy line g.by r1 → ReadsFlushes r1 g.flushes r2 → ReadsOption (codes "from") r2 g.from r3 → ReadsOption (codes "to") r3 g.to r4 → ReadsOption (codes "base") r4 g.base r5 → ReadsGiven line g
given_read line r1 r2 r3 r4 r5 g c1 c2 c3 c4 c5 = record { read = reads }
  where
    reads : (v : HeadValue) → IsSmallHead v → line ≡ join_words (given_words v)
        → (g.by ≡ v.by) × (places_of g.flushes ≡ places_of v.cuts.flushes) × (g.from ≡ v.cuts.from) × (g.to ≡ v.cuts.to) × (g.base ≡ v.base)
    reads v small e =
        let b : List (List ℕ) = option_words (codes "base") v.base in
        let t : List (List ℕ) = option_words (codes "to") v.cuts.to ++ b in
        let f : List (List ℕ) = option_words (codes "from") v.cuts.from ++ t in
        let l : List (List ℕ) = flush_list (places_of v.cuts.flushes) ++ f in
        let no_more : option_words (codes "base") v.base ++ [] ≡ b = append-nil b in
        let own_b : AreWords b = subst (λ (ws : List (List ℕ)). AreWords ws) no_more (option_are (codes "base") v.base [] (omega arith, refl) small.base tt) in
        let own_t : AreWords t = option_are (codes "to") v.cuts.to b (omega arith, refl) small.to own_b in
        let own_f : AreWords f = option_are (codes "from") v.cuts.from t (omega arith, refl) small.from own_t in
        let own_l : AreWords l = flush_are (places_of v.cuts.flushes) f small.flushes own_f in
        let at_b : (other : List ℕ) → codes "base" ≢ other → IsOtherFirst other b = λ other apart. subst (λ (ws : List (List ℕ)). IsOtherFirst other ws) no_more (option_other other (codes "base") v.base [] apart tt) in
        let at_t : (other : List ℕ) → codes "base" ≢ other → codes "to" ≢ other → IsOtherFirst other t = λ other x y. option_other other (codes "to") v.cuts.to b y (at_b other x) in
        let at_f : (other : List ℕ) → codes "base" ≢ other → codes "to" ≢ other → codes "from" ≢ other → IsOtherFirst other f = λ other x y z. option_other other (codes "from") v.cuts.from t z (at_t other x y) in
        let at_l : IsOtherFirst (codes "by") l =
        flush_other (codes "by") (places_of v.cuts.flushes) f (other_long (codes "flush") (codes "by") (λ k. omega (arith, k)))
        (at_f (codes "by") (other_long (codes "base") (codes "by") (λ k. omega (arith, k))) to_by (other_long (codes "from") (codes "by") (λ k. omega (arith, k)))) in
        let p1 = c1.read v.by l own_l at_l e in
        let p2 = c2.read (places_of v.cuts.flushes) f (few_places v.cuts.flushes) small.flushes own_f
        (at_f (codes "flush") (other_long (codes "base") (codes "flush") (λ k. omega (arith, k))) (other_long (codes "to") (codes "flush") (λ k. omega (arith, k))) (other_long (codes "from") (codes "flush") (λ k. omega (arith, k)))) p1.1 in
        let p3 = c3.read v.cuts.from t own_t small.from (at_t (codes "from") base_from (other_long (codes "to") (codes "from") (λ k. omega (arith, k)))) p2.1 in
        let p4 = c4.read v.cuts.to b own_b small.to (at_b (codes "to") (other_long (codes "base") (codes "to") (λ k. omega (arith, k)))) p3.1 in
        let p5 = c5.read v.base [] tt small.base tt (p4.1 ∙ ap join_words (sym no_more)) in
        (p1.0, p2.0, p3.0, p4.0, p5.0)

-- the whole line is read
pub options_read : (line r1 r2 : List ℕ) (g : GivenOptions) (h : HeadValue)
    → ReadsDevice line h.sectors h.entries h.cuts.kind r1 → ReadsChoices r1 h.bound h.tears h.first r2 → ReadsGiven r2 g
    → h.by ≡ g.by → h.cuts.flushes ≡ g.flushes → h.cuts.from ≡ g.from → h.cuts.to ≡ g.to → h.base ≡ g.base → ReadsOptions line h
options_read line r1 r2 g h c1 c2 c3 e1 e2 e3 e4 e5 = record { read = reads }
  where
    reads : (v : HeadValue) → IsSmallHead v → line ≡ join_words (device_words v ++ (choices_words v ++ given_words v)) → HaveSameOptions h v
    reads v small e =
        let p1 = c1.read v (choices_words v ++ given_words v) small e in
        let p2 = c2.read v (given_words v) small p1.3 in
        let p3 = c3.read v small p2.3 in
        record {
          sectors = p1.0;
          entries = p1.1;
          kind = p1.2;
          from = e3 ∙ p3.2;
          to = e4 ∙ p3.3;
          flushes = ap places_of e2 ∙ p3.1;
          bound = p2.0;
          tears = p2.1;
          way = e1 ∙ p3.0;
          first = p2.2;
          base = e5 ∙ p3.4;
        }

-- the line of the options by its words
by_spaced : (way : By) → spaced (by_list way) ≡ by_words way
by_spaced by.Sector = refl
by_spaced by.Write = refl

flush_spaced : (es : List ℕ) → spaced (flush_list es) ≡ flush_words es
unfolding flush_words
flush_spaced [] = refl
flush_spaced (e ∷ es) = ap (λ (bs : List ℕ). codes " flush " ++ bs) (append-nil (decimal e ++ flat_map next_flush es))

from_spaced : (o : Option ℕ) → spaced (option_words (codes "from") o) ≡ from_words o
from_spaced None = refl
from_spaced (Some n) = ap (λ (bs : List ℕ). codes " from " ++ bs) (append-nil (decimal n))

to_spaced : (o : Option ℕ) → spaced (option_words (codes "to") o) ≡ to_words o
to_spaced None = refl
to_spaced (Some n) = ap (λ (bs : List ℕ). codes " to " ++ bs) (append-nil (decimal n))

base_spaced : (o : Option ℕ) → spaced (option_words (codes "base") o) ≡ base_words o
base_spaced None = refl
base_spaced (Some n) = ap (λ (bs : List ℕ). codes " base " ++ bs) (append-nil (decimal n))

pub given_spaced : (v : HeadValue) → spaced (given_words v) ≡ by_words v.by ++ (cuts_words v.cuts ++ base_words v.base)
unfolding cuts_words
given_spaced v =
    let b : List (List ℕ) = option_words (codes "base") v.base in
    let t : List (List ℕ) = option_words (codes "to") v.cuts.to ++ b in
    let f : List (List ℕ) = option_words (codes "from") v.cuts.from ++ t in
    let l : List (List ℕ) = flush_list (places_of v.cuts.flushes) ++ f in
    let e1 : spaced (given_words v) ≡ spaced (by_list v.by) ++ spaced l = spaced_both (by_list v.by) l in
    let e2 : spaced l ≡ spaced (flush_list (places_of v.cuts.flushes)) ++ spaced f = spaced_both (flush_list (places_of v.cuts.flushes)) f in
    let e3 : spaced f ≡ spaced (option_words (codes "from") v.cuts.from) ++ spaced t = spaced_both (option_words (codes "from") v.cuts.from) t in
    let e4 : spaced t ≡ spaced (option_words (codes "to") v.cuts.to) ++ spaced b = spaced_both (option_words (codes "to") v.cuts.to) b in
    rw (e1, e2, e3, e4, by_spaced v.by, flush_spaced (places_of v.cuts.flushes), from_spaced v.cuts.from, to_spaced v.cuts.to, base_spaced v.base) (simp append_assoc)

-- six texts one after the other, and twelve
six : (a b c d e f more : List ℕ) → (((((a ++ b) ++ c) ++ d) ++ e) ++ f) ++ more ≡ a ++ (b ++ (c ++ (d ++ (e ++ (f ++ more)))))
six a b c d e f more = simp append_assoc

twelve : (a b c d e f g h i j k l x y : List ℕ) → a ++ (b ++ (c ++ (d ++ (e ++ (f ++ (g ++ (h ++ (i ++ (j ++ (k ++ (l ++ (x ++ y))))))))))))
    ≡ (a ++ (b ++ (c ++ (d ++ (e ++ (f ++ (g ++ (h ++ (i ++ (j ++ (k ++ (l ++ x)))))))))))) ++ y
twelve a b c d e f g h i j k l x y = simp append_assoc

-- what stands before the options that are given
abbrev opened : HeadValue → List ℕ → List ℕ
opened v more =
    codes "sectors " ++ (decimal v.sectors ++ (codes " entries " ++ (decimal v.entries ++ (codes " cuts " ++ (cuts_word v.cuts.kind ++ (codes " bound " ++ (decimal v.bound ++ (codes " tears " ++ (yes_or_no v.tears ++ (codes " first " ++ (yes_or_no v.first ++ more)))))))))))

device_is : (v : HeadValue) (more : List ℕ) → device_text v ++ more ≡ codes "sectors " ++ (decimal v.sectors ++ (codes " entries " ++ (decimal v.entries ++ (codes " cuts " ++ (cuts_word v.cuts.kind ++ more)))))
unfolding device_text
device_is v more = six (codes "sectors ") (decimal v.sectors) (codes " entries ") (decimal v.entries) (codes " cuts ") (cuts_word v.cuts.kind) more

choices_are : (v : HeadValue) (more : List ℕ) → choices_text v ++ more ≡ codes " bound " ++ (decimal v.bound ++ (codes " tears " ++ (yes_or_no v.tears ++ (codes " first " ++ (yes_or_no v.first ++ more)))))
unfolding choices_text
choices_are v more = six (codes " bound ") (decimal v.bound) (codes " tears ") (yes_or_no v.tears) (codes " first ") (yes_or_no v.first) more

opened_is : (v : HeadValue) (more : List ℕ) → (device_text v ++ choices_text v) ++ (more ++ 10 ∷ []) ≡ opened v more ++ 10 ∷ []
opened_is v more =
    append_assoc (device_text v) (choices_text v) (more ++ 10 ∷ [])
    ∙ ap (λ (bs : List ℕ). device_text v ++ bs) (choices_are v (more ++ 10 ∷ []))
    ∙ device_is v (codes " bound " ++ (decimal v.bound ++ (codes " tears " ++ (yes_or_no v.tears ++ (codes " first " ++ (yes_or_no v.first ++ (more ++ 10 ∷ [])))))))
    ∙ twelve (codes "sectors ") (decimal v.sectors) (codes " entries ") (decimal v.entries) (codes " cuts ") (cuts_word v.cuts.kind) (codes " bound ") (decimal v.bound) (codes " tears ") (yes_or_no v.tears) (codes " first ") (yes_or_no v.first) more (10 ∷ [])

pub given_is : (v : HeadValue) → given_text v ≡ (by_words v.by ++ (cuts_words v.cuts ++ base_words v.base)) ++ 10 ∷ []
unfolding given_text
given_is v = simp append_assoc

abbrev line_of : HeadValue → List ℕ
line_of v = join_words (device_words v ++ (choices_words v ++ given_words v))

-- the words after the first
abbrev beyond_first : HeadValue → List (List ℕ)
beyond_first v = decimal v.sectors ∷ codes "entries" ∷ decimal v.entries ∷ codes "cuts" ∷ cuts_word v.cuts.kind ∷ (choices_words v ++ given_words v)

words_opened : (v : HeadValue) → line_of v ≡ opened v (spaced (given_words v))
words_opened v = words_spaced (codes "sectors") (beyond_first v)

line_is : (v : HeadValue) → options_line v ≡ line_of v ++ 10 ∷ []
line_is v =
    ap (λ (bs : List ℕ). (device_text v ++ choices_text v) ++ bs) (given_is v)
    ∙ opened_is v (by_words v.by ++ (cuts_words v.cuts ++ base_words v.base))
    ∙ ap (λ (bs : List ℕ). opened v bs ++ 10 ∷ []) (sym (given_spaced v))
    ∙ ap (λ (bs : List ℕ). bs ++ 10 ∷ []) (sym (words_opened v))

-- no newline stands in it
abbrev pub all_lack : List (List ℕ) → Type 0
all_lack [] = Unit {0}
all_lack (w ∷ ws) = (lacks 10 w ≡ true) × all_lack ws

pub spaced_lack : (ws : List (List ℕ)) → all_lack ws → lacks 10 (spaced ws) ≡ true
spaced_lack [] each = refl
spaced_lack (w ∷ ws) each = lacks_both 10 w (spaced ws) each.0 (spaced_lack ws each.1)

pub option_lack : (name : List ℕ) (o : Option ℕ) (ws : List (List ℕ)) → lacks 10 name ≡ true → IsSmallOption o → all_lack ws → all_lack (option_words name o ++ ws)
option_lack name None ws own small each = each
option_lack name (Some n) ws own small each = (own, (line_lacks n small, each))

by_lack : (way : By) (ws : List (List ℕ)) → all_lack ws → all_lack (by_list way ++ ws)
by_lack by.Sector ws each = each
by_lack by.Write ws each = (refl, (refl, each))

next_lack : (es : List ℕ) → AreEntries es → lacks 10 (flat_map next_flush es) ≡ true
next_lack [] all = refl
next_lack (e ∷ es) all = lacks_both 10 (next_flush e) (flat_map next_flush es) (line_lacks e (less e (first_of e es all))) (next_lack es (rest_of e es all))

flush_lack : (es : List ℕ) (ws : List (List ℕ)) → AreEntries es → all_lack ws → all_lack (flush_list es ++ ws)
flush_lack [] ws all each = each
flush_lack (e ∷ es) ws all each = (refl, (lacks_both 10 (decimal e) (flat_map next_flush es) (line_lacks e (less e (first_of e es all))) (next_lack es (rest_of e es all)), each))

pub kind_lack : (kind : CutKind) → lacks 10 (cuts_word kind) ≡ true
kind_lack kinds.All = refl
kind_lack kinds.BeforeFlush = refl
kind_lack kinds.AfterMark = refl

pub yes_lack : (is : Bool) → lacks 10 (yes_or_no is) ≡ true
yes_lack true = refl
yes_lack false = refl

pub given_lack : (v : HeadValue) → IsSmallHead v → all_lack (given_words v)
given_lack v small =
    let b : List (List ℕ) = option_words (codes "base") v.base in
    let own : all_lack b = subst (λ (ws : List (List ℕ)). all_lack ws) (append-nil b) (option_lack (codes "base") v.base [] refl small.base tt) in
    by_lack v.by (flush_list (places_of v.cuts.flushes) ++ (option_words (codes "from") v.cuts.from ++ (option_words (codes "to") v.cuts.to ++ b)))
    (flush_lack (places_of v.cuts.flushes) (option_words (codes "from") v.cuts.from ++ (option_words (codes "to") v.cuts.to ++ b)) small.flushes
    (option_lack (codes "from") v.cuts.from (option_words (codes "to") v.cuts.to ++ b) refl small.from (option_lack (codes "to") v.cuts.to b refl small.to own)))

after_lack : (v : HeadValue) → IsSmallHead v → all_lack (beyond_first v)
after_lack v small = (
  line_lacks v.sectors (less v.sectors small.sectors),
  (
    refl,
    (
      line_lacks v.entries (less v.entries small.entries),
      (
        refl,
        (
          kind_lack v.cuts.kind,
          (refl, (line_lacks v.bound (byte_less v.bound small.bound), (refl, (yes_lack v.tears, (refl, (yes_lack v.first, given_lack v small)))))),
        ),
      ),
    ),
  ),
)

line_one : (v : HeadValue) → IsSmallHead v → lacks 10 (line_of v) ≡ true
line_one v small =
    subst (λ (bs : List ℕ). lacks 10 bs ≡ true) (sym (words_spaced (codes "sectors") (beyond_first v)))
    (lacks_both 10 (codes "sectors") (spaced (beyond_first v)) refl (spaced_lack (beyond_first v) (after_lack v small)))

-- a head is read from its lines
pub head_read : (text line rest : List ℕ) (programs : List ProgramHead) (h : HeadValue) → IsCutAt 10 text line rest → ReadsPrograms rest programs → ReadsOptions line h → h.programs ≡ programs → ReadsHead text h
head_read text line rest programs h cut lines options same = record { read = reads }
  where
    reads : (v : HeadValue) (more : List ℕ) → IsPrintedHead v → NoProgram more → text ≡ options_text v ++ more → HaveSameOptions h v × (h.programs ≡ v.programs)
    reads v more printed other e =
        let words : List ℕ = line_of v in
        let e1 : options_text v ++ more ≡ words ++ 10 ∷ (program_lines 0 v.programs ++ more) =
        append_assoc (options_line v) (program_lines 0 v.programs) more ∙ ap (λ (bs : List ℕ). bs ++ (program_lines 0 v.programs ++ more)) (line_is v) ∙ append_assoc words (10 ∷ []) (program_lines 0 v.programs ++ more) in
        let p = cut.parts words (program_lines 0 v.programs ++ more) (line_one v printed.numbers) (e ∙ e1) in
        (options.read v printed.numbers p.0, same ∙ lines.read v.programs more printed.few printed.numbers.programs other p.1)

-- heads with the same options and programs are printed alike
pub same_text : (h v : HeadValue) → HaveSameOptions h v → h.programs ≡ v.programs → options_text h ≡ options_text v
unfolding device_text choices_text given_text cuts_words
same_text h v s programs = rw (s.sectors, s.entries, s.kind, s.from, s.to, s.flushes, s.bound, s.tears, s.way, s.first, s.base, programs) refl

-- a head that was read is one of a run where a head that has the same options and programs is
same_options : (h v : HeadValue) → HaveSameOptions h v → are_options_of_run h ≡ are_options_of_run v
same_options h v s = rw (s.sectors, s.entries, s.from, s.to, s.flushes, s.bound) refl

pub is_of_run : (h : HeadValue) → IsSmallHead h → (0 < length h.programs) × (length h.programs ≤ 8) → are_options_of_run h ≡ true → are_programs_of_run h.programs ≡ true → IsPrintedHead h
is_of_run h small count options programs = record { numbers = small; some = count.0; few = count.1; options = options; programs = programs }

pub has_count : (h : HeadValue) → IsPrintedHead h → (0 < length h.programs) × (length h.programs ≤ 8)
has_count h printed = (printed.some, printed.few)

pub moved : (h v : HeadValue) → IsSmallHead h → HaveSameOptions h v → h.programs ≡ v.programs → IsPrintedHead v → IsPrintedHead h
moved h v small s programs printed =
    let long : length h.programs ≡ length v.programs = ap length programs in
    let some = printed.some in
    let few = printed.few in
    record {
      numbers = small;
      some = omega (arith, some, long);
      few = omega (arith, few, long);
      options = same_options h v s ∙ printed.options;
      programs = rw programs printed.programs;
    }

-- of a text that stands at the head of another, its head is read
read_at : (text head : List ℕ) (h : HeadValue) → HasLines text head → ReadsHead text h → (v : HeadValue) → IsPrintedHead v → head ≡ options_text v → HaveSameOptions h v × (h.programs ≡ v.programs)
read_at text head h lines r v printed is = r.read v lines.rest printed lines.other (lines.is ∙ ap (λ (bs : List ℕ). bs ++ lines.rest) is)

pub not_of_run : (text head : List ℕ) (h : HeadValue) → HasLines text head → ReadsHead text h → IsSmallHead h → (IsPrintedHead h → ⊥) → NoHeadRead head
not_of_run text head h lines r small lack = record { none = λ v printed is. let p = read_at text head h lines r v printed is in lack (moved h v small p.0 p.1 printed) }

pub not_printed : (text head : List ℕ) (h : HeadValue) → HasLines text head → ReadsHead text h → (head ≡ options_text h → ⊥) → NoHeadRead head
not_printed text head h lines r lack = record { none = λ v printed is. let p = read_at text head h lines r v printed is in lack (is ∙ sym (same_text h v p.0 p.1)) }

pub is_head_read : (text head : List ℕ) (h : HeadValue) → HasLines text head → ReadsHead text h → IsPrintedHead h → head ≡ options_text h → IsHeadRead head h
is_head_read text head h lines r printed is = record { printed = printed; is = is; only = λ v own also. read_at text head h lines r v own also }
