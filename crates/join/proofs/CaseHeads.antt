-- The head of a text of cases, read.
use Rattle.std.proofs.Common.{ℕ, ◌≡◌, ◌≢◌, ◌<◌, ◌≤◌, ◌^◌, ◌==◌, ◌&&◌, nat_le, Bool, true, false, if◌then◌else◌, List, [], ◌∷◌, ◌++◌, length, get_or, append_assoc, append-nil, codes, Option, None, Some, unwrap_or, refl, sym, subst, ap, ◌∙◌, arith}
use Rattle.std.specs.Fmt.{decimal}
use Rattle.std.specs.List.{All}
use Rattle.std.proofs.lemmas.Bool.Decides.{nat_tests}
use Rattle.base.specs.Sizes.{most_sectors}
use Rattle.epochs.specs.declared.part.By.{By}
use Rattle.epochs.specs.declared.part.By.TheVariants as by
use Rattle.epochs.specs.Flushes.{places_of}
use Rattle.report.specs.MarkReading.{lacks, IsCutAt}
use Rattle.report.specs.declared.head.ProgramHead.{ProgramHead}
use Rattle.report.specs.Words.{cuts_words}
use Rattle.report.specs.Text.{yes_or_no, cuts_word, by_words}
use Rattle.report.specs.Report.{HeadValue, base_words, device_text, given_text, program_lines}
use Rattle.report.proofs.Back.{lacks_both}
use Rattle.losses.specs.declared.found.Losses.{Losses}
use Rattle.case_text.specs.Text.{torn_words, at_most_words, losses_text, options_text}
use Rattle.join.specs.declared.options.GivenOptions.{GivenOptions}
use Rattle.join.specs.Heads.{join_words, option_words, by_list, flush_list, device_words, given_words, AreWords, IsFewOption, IsOtherFirst, IsPrintedHead, IsSmallHead, IsSmallOption, HaveSameOptions, NoProgram, ReadsWord, ReadsOption, ReadsDevice, ReadsGiven, ReadsPrograms, are_cuts_of_run, are_options_of_run}
use Rattle.join.specs.CaseTexts.{AreLosses, are_torn_of_run, are_lost_of_run}
use Rattle.join.specs.CaseReading.{unbounded, AreAlike, torn_option, losses_words, ReadsLosses, ReadsCaseOptions, ReadsCaseHead, IsCaseHead, NoCaseHead}
use Rattle.join.proofs.Texts.{cancel}
use Rattle.join.proofs.Spans.{line_lacks}
use Rattle.join.proofs.WordsRead.{spaced, words_spaced, spaced_both, less}
use Rattle.join.proofs.ProgramsRead.{small_few}
use Rattle.join.proofs.HeadsRead.{option_are, option_other, flush_are, flush_other, few_places, other_long, given_spaced, given_is, all_lack, option_lack, given_lack, kind_lack, yes_lack, spaced_lack, moved, yes_word}

-- how many parts may be torn and lost, where that stands there
torn_is : (w : Losses) → are_torn_of_run w ≡ true → IsFewOption (torn_option w) × (unwrap_or (torn_option w) 0 ≡ w.torn)
torn_is w e = by_tears w.tears e
  where
    by_tears : (b : Bool) → (if b then nat_le 1 w.torn && nat_le w.torn 3 else w.torn == 0) ≡ true → IsFewOption (if b then Some w.torn else None) × (unwrap_or (if b then Some w.torn else None) 0 ≡ w.torn)
    by_tears true own = (high (nat_le 1 w.torn) own, refl)
      where
        high : (b : Bool) → (b && nat_le w.torn 3) ≡ true → w.torn < 2 ^ 32
        high true test = let low : w.torn ≤ 3 = grind (arith, nat_tests, test) in omega (arith, low)
        high false test = absurd (let bad : false ≡ true = test in cc)
    by_tears false own = (tt, let none : w.torn ≡ 0 = grind (arith, nat_tests, own) in sym none)

lost_is : (o : Option ℕ) → are_lost_of_run o ≡ true → IsFewOption o
lost_is None e = tt
lost_is (Some n) e = high (nat_le 1 n) e
  where
    high : (b : Bool) → (b && nat_le n 64) ≡ true → n < 2 ^ 32
    high true test = let low : n ≤ 64 = grind (arith, nat_tests, test) in omega (arith, low)
    high false test = absurd (let bad : false ≡ true = test in cc)

pub losses_read : (line w1 r1 w2 r2 w3 r3 w4 r4 r5 rest : List ℕ) (is : Bool) (torn lost few_torn few_lost : Option ℕ) → ReadsWord line w1 r1 → ReadsWord r1 w2 r2 → ReadsWord r2 w3 r3 → ReadsWord r3 w4 r4
    → ReadsOption (codes "torn") r4 torn r5 → ReadsOption (codes "at-most") r5 lost rest → ((b : Bool) → w4 ≡ yes_or_no b → is ≡ b) → ((n : Option ℕ) → IsFewOption n → torn ≡ n → few_torn ≡ n)
    → ((n : Option ℕ) → IsFewOption n → lost ≡ n → few_lost ≡ n) → ReadsLosses line (record { tears = is; torn = unwrap_or few_torn 0; lost = few_lost }) rest
losses_read line w1 r1 w2 r2 w3 r3 w4 r4 r5 rest is torn lost few_torn few_lost c1 c2 c3 c4 c5 c6 says1 says2 says3 = record { read = reads }
  where
    reads : (h : HeadValue) (w : Losses) (ws : List (List ℕ)) → AreLosses h w → AreWords ws → IsOtherFirst (codes "torn") ws → IsOtherFirst (codes "at-most") ws → line ≡ join_words (losses_words w ++ ws)
        → (record { tears = is; torn = unwrap_or few_torn 0; lost = few_lost } ≡ w) × (rest ≡ join_words ws)
    reads h w ws losses each other_torn other_most e =
        let t = torn_is w losses.torn in
        let l = lost_is w.lost losses.lost in
        let m : List (List ℕ) = option_words (codes "at-most") w.lost ++ ws in
        let all : List (List ℕ) = option_words (codes "torn") (torn_option w) ++ m in
        let grouped : (option_words (codes "torn") (torn_option w) ++ option_words (codes "at-most") w.lost) ++ ws ≡ all = append_assoc (option_words (codes "torn") (torn_option w)) (option_words (codes "at-most") w.lost) ws in
        let e2 : line ≡ join_words (codes "bound" ∷ codes "any" ∷ codes "tears" ∷ yes_or_no w.tears ∷ all) = e ∙ ap (λ (vs : List (List ℕ)). join_words (codes "bound" ∷ codes "any" ∷ codes "tears" ∷ yes_or_no w.tears ∷ vs)) grouped in
        let p1 = c1.read (codes "bound") (codes "any" ∷ codes "tears" ∷ yes_or_no w.tears ∷ all) (omega arith, refl) e2 in
        let p2 = c2.read (codes "any") (codes "tears" ∷ yes_or_no w.tears ∷ all) (omega arith, refl) p1.1 in
        let p3 = c3.read (codes "tears") (yes_or_no w.tears ∷ all) (omega arith, refl) p2.1 in
        let p4 = c4.read (yes_or_no w.tears) all (yes_word w.tears) p3.1 in
        let m_are : AreWords m = option_are (codes "at-most") w.lost ws (omega arith, refl) (small_few w.lost l) each in
        let m_other : IsOtherFirst (codes "torn") m = option_other (codes "torn") (codes "at-most") w.lost ws (other_long (codes "at-most") (codes "torn") (λ k. omega (arith, k))) other_torn in
        let p5 = c5.read (torn_option w) m m_are (small_few (torn_option w) t.0) m_other p4.1 in
        let p6 = c6.read w.lost ws each (small_few w.lost l) other_most p5.1 in
        let e3 : is ≡ w.tears = says1 w.tears p4.0 in
        let e4 : unwrap_or few_torn 0 ≡ w.torn = ap (λ (o : Option ℕ). unwrap_or o 0) (says2 (torn_option w) t.0 p5.0) ∙ t.1 in
        let e5 : few_lost ≡ w.lost = says3 w.lost l p6.0 in
        (rw (e3, e4, e5) refl, p6.1)

-- the words of the options that are given
by_are : (way : By) (ws : List (List ℕ)) → AreWords ws → AreWords (by_list way ++ ws)
by_are by.Sector ws each = each
by_are by.Write ws each = ((omega arith, refl), ((omega arith, refl), each))

by_other : (other : List ℕ) (way : By) (ws : List (List ℕ)) → codes "by" ≢ other → IsOtherFirst other ws → IsOtherFirst other (by_list way ++ ws)
by_other other by.Sector ws apart first = first
by_other other by.Write ws apart first = apart

given_are : (v : HeadValue) → IsSmallHead v → AreWords (given_words v)
given_are v small =
    let b : List (List ℕ) = option_words (codes "base") v.base in
    let own : AreWords b = subst (λ (ws : List (List ℕ)). AreWords ws) (append-nil b) (option_are (codes "base") v.base [] (omega arith, refl) small.base tt) in
    by_are v.by (flush_list (places_of v.cuts.flushes) ++ (option_words (codes "from") v.cuts.from ++ (option_words (codes "to") v.cuts.to ++ b)))
    (flush_are (places_of v.cuts.flushes) (option_words (codes "from") v.cuts.from ++ (option_words (codes "to") v.cuts.to ++ b)) small.flushes
    (option_are (codes "from") v.cuts.from (option_words (codes "to") v.cuts.to ++ b) (omega arith, refl) small.from (option_are (codes "to") v.cuts.to b (omega arith, refl) small.to own)))

given_other : (v : HeadValue) (other : List ℕ) → codes "by" ≢ other → codes "flush" ≢ other → codes "from" ≢ other → codes "to" ≢ other → codes "base" ≢ other → IsOtherFirst other (given_words v)
given_other v other n1 n2 n3 n4 n5 =
    let b : List (List ℕ) = option_words (codes "base") v.base in
    let own : IsOtherFirst other b = subst (λ (ws : List (List ℕ)). IsOtherFirst other ws) (append-nil b) (option_other other (codes "base") v.base [] n5 tt) in
    by_other other v.by (flush_list (places_of v.cuts.flushes) ++ (option_words (codes "from") v.cuts.from ++ (option_words (codes "to") v.cuts.to ++ b))) n1
    (flush_other other (places_of v.cuts.flushes) (option_words (codes "from") v.cuts.from ++ (option_words (codes "to") v.cuts.to ++ b)) n2
    (option_other other (codes "from") v.cuts.from (option_words (codes "to") v.cuts.to ++ b) n3 (option_other other (codes "to") v.cuts.to b n4 own)))

from_torn : codes "from" ≢ codes "torn"
from_torn k = let first : 102 ≡ 116 = ap (λ (bs : List ℕ). get_or bs 0 0) k in absurd (omega (arith, first))

base_torn : codes "base" ≢ codes "torn"
base_torn k = let first : 98 ≡ 116 = ap (λ (bs : List ℕ). get_or bs 0 0) k in absurd (omega (arith, first))

-- the whole line is read
pub options_read : (line r1 r2 : List ℕ) (g : GivenOptions) (h : HeadValue) (asked : Losses) → ReadsDevice line h.sectors h.entries h.cuts.kind r1 → ReadsLosses r1 asked r2 → ReadsGiven r2 g
    → h.by ≡ g.by → h.cuts.flushes ≡ g.flushes → h.cuts.from ≡ g.from → h.cuts.to ≡ g.to → h.base ≡ g.base → h.bound ≡ 0 → h.first ≡ false → h.tears ≡ asked.tears → ReadsCaseOptions line h asked
options_read line r1 r2 g h asked c1 c2 c3 e1 e2 e3 e4 e5 e6 e7 e8 = record { read = reads }
  where
    reads : (v : HeadValue) (w : Losses) → IsSmallHead v → AreLosses v w → line ≡ join_words (device_words v ++ (losses_words w ++ given_words v)) → HaveSameOptions h (unbounded v) × (asked ≡ w)
    reads v w small losses e =
        let p1 = c1.read v (losses_words w ++ given_words v) small e in
        let other_torn = given_other v (codes "torn") (other_long (codes "by") (codes "torn") (λ k. omega (arith, k))) (other_long (codes "flush") (codes "torn") (λ k. omega (arith, k))) from_torn (other_long (codes "to") (codes "torn") (λ k. omega (arith, k))) base_torn in
        let other_most = given_other v (codes "at-most") (other_long (codes "by") (codes "at-most") (λ k. omega (arith, k))) (other_long (codes "flush") (codes "at-most") (λ k. omega (arith, k))) (other_long (codes "from") (codes "at-most") (λ k. omega (arith, k))) (other_long (codes "to") (codes "at-most") (λ k. omega (arith, k))) (other_long (codes "base") (codes "at-most") (λ k. omega (arith, k))) in
        let p2 = c2.read v w (given_words v) losses (given_are v small) other_torn other_most p1.3 in
        let p3 = c3.read v small p2.1 in (
          record {
            sectors = p1.0;
            entries = p1.1;
            kind = p1.2;
            from = e3 ∙ p3.2;
            to = e4 ∙ p3.3;
            flushes = ap places_of e2 ∙ p3.1;
            bound = e6;
            tears = e8 ∙ ap (λ (x : Losses). x.tears) p2.0 ∙ losses.tears;
            way = e1 ∙ p3.0;
            first = e7;
            base = e5 ∙ p3.4;
          },
          p2.0,
        )

-- the line of the options by its words
abbrev line_of : HeadValue → Losses → List ℕ
line_of v w = join_words (device_words v ++ (losses_words w ++ given_words v))

abbrev beyond_first : HeadValue → Losses → List (List ℕ)
beyond_first v w = decimal v.sectors ∷ codes "entries" ∷ decimal v.entries ∷ codes "cuts" ∷ cuts_word v.cuts.kind ∷ (losses_words w ++ given_words v)

torn_spaced : (w : Losses) → spaced (option_words (codes "torn") (torn_option w)) ≡ torn_words w
torn_spaced w = by_tears w.tears
  where
    by_tears : (b : Bool) → spaced (option_words (codes "torn") (if b then Some w.torn else None)) ≡ (if b then codes " torn " ++ decimal w.torn else [])
    by_tears true = ap (λ (bs : List ℕ). codes " torn " ++ bs) (append-nil (decimal w.torn))
    by_tears false = refl

most_spaced : (o : Option ℕ) → spaced (option_words (codes "at-most") o) ≡ at_most_words o
most_spaced None = refl
most_spaced (Some n) = ap (λ (bs : List ℕ). codes " at-most " ++ bs) (append-nil (decimal n))

abbrev opened : HeadValue → Losses → List ℕ → List ℕ
opened v w more =
    codes "sectors " ++ (decimal v.sectors ++ (codes " entries " ++ (decimal v.entries ++ (codes " cuts " ++ (cuts_word v.cuts.kind ++ (codes " bound any tears " ++ (yes_or_no w.tears ++ (torn_words w ++ (at_most_words w.lost ++ more)))))))))

abbrev given_body : HeadValue → List ℕ
given_body v = by_words v.by ++ (cuts_words v.cuts ++ base_words v.base)

words_opened : (v : HeadValue) (w : Losses) → line_of v w ≡ opened v w (given_body v)
words_opened v w =
    let t : List (List ℕ) = option_words (codes "torn") (torn_option w) in
    let m : List (List ℕ) = option_words (codes "at-most") w.lost in
    let e1 : spaced ((t ++ m) ++ given_words v) ≡ torn_words w ++ (at_most_words w.lost ++ given_body v) =
    spaced_both (t ++ m) (given_words v) ∙ ap (λ (bs : List ℕ). bs ++ spaced (given_words v)) (spaced_both t m)
    ∙ append_assoc (spaced t) (spaced m) (spaced (given_words v))
    ∙ ap (λ (bs : List ℕ). bs ++ (spaced m ++ spaced (given_words v))) (torn_spaced w)
    ∙ ap (λ (bs : List ℕ). torn_words w ++ (bs ++ spaced (given_words v))) (most_spaced w.lost)
    ∙ ap (λ (bs : List ℕ). torn_words w ++ (at_most_words w.lost ++ bs)) (given_spaced v) in
    words_spaced (codes "sectors") (beyond_first v w)
    ∙ ap (λ (bs : List ℕ). codes "sectors " ++ (decimal v.sectors ++ (codes " entries " ++ (decimal v.entries ++ (codes " cuts " ++ (cuts_word v.cuts.kind ++ (codes " bound any tears " ++ (yes_or_no w.tears ++ bs)))))))) e1

device_is : (v : HeadValue) (more : List ℕ) → device_text v ++ more ≡ codes "sectors " ++ (decimal v.sectors ++ (codes " entries " ++ (decimal v.entries ++ (codes " cuts " ++ (cuts_word v.cuts.kind ++ more)))))
unfolding device_text
device_is v more = simp append_assoc

losses_are : (w : Losses) (more : List ℕ) → losses_text w ++ more ≡ codes " bound any tears " ++ (yes_or_no w.tears ++ (torn_words w ++ (at_most_words w.lost ++ more)))
unfolding losses_text
losses_are w more = four (codes " bound any tears ") (yes_or_no w.tears) (torn_words w) (at_most_words w.lost) more
  where
    four : (a b c d more : List ℕ) → (((a ++ b) ++ c) ++ d) ++ more ≡ a ++ (b ++ (c ++ (d ++ more)))
    four a b c d more = simp append_assoc

ten : (a b c d e f g h i j x y : List ℕ) → a ++ (b ++ (c ++ (d ++ (e ++ (f ++ (g ++ (h ++ (i ++ (j ++ (x ++ y)))))))))) ≡ (a ++ (b ++ (c ++ (d ++ (e ++ (f ++ (g ++ (h ++ (i ++ (j ++ x)))))))))) ++ y
ten a b c d e f g h i j x y = simp append_assoc

line_is : (v : HeadValue) (w : Losses) → (device_text v ++ losses_text w) ++ given_text v ≡ line_of v w ++ 10 ∷ []
line_is v w =
    append_assoc (device_text v) (losses_text w) (given_text v)
    ∙ ap (λ (bs : List ℕ). device_text v ++ (losses_text w ++ bs)) (given_is v)
    ∙ ap (λ (bs : List ℕ). device_text v ++ bs) (losses_are w (given_body v ++ 10 ∷ []))
    ∙ device_is v (codes " bound any tears " ++ (yes_or_no w.tears ++ (torn_words w ++ (at_most_words w.lost ++ (given_body v ++ 10 ∷ [])))))
    ∙ ten (codes "sectors ") (decimal v.sectors) (codes " entries ") (decimal v.entries) (codes " cuts ") (cuts_word v.cuts.kind) (codes " bound any tears ") (yes_or_no w.tears) (torn_words w) (at_most_words w.lost) (given_body v) (10 ∷ [])
    ∙ ap (λ (bs : List ℕ). bs ++ 10 ∷ []) (sym (words_opened v w))

-- no newline stands in it
losses_lack : (w : Losses) (ws : List (List ℕ)) → are_torn_of_run w ≡ true → are_lost_of_run w.lost ≡ true → all_lack ws → all_lack (losses_words w ++ ws)
losses_lack w ws torn lost each =
    let t = torn_is w torn in
    let m : List (List ℕ) = option_words (codes "at-most") w.lost in
    let inner : all_lack (m ++ ws) = option_lack (codes "at-most") w.lost ws refl (small_few w.lost (lost_is w.lost lost)) each in
    let outer : all_lack (option_words (codes "torn") (torn_option w) ++ (m ++ ws)) = option_lack (codes "torn") (torn_option w) (m ++ ws) refl (small_few (torn_option w) t.0) inner in
    (refl, (refl, (refl, (yes_lack w.tears, subst (λ (vs : List (List ℕ)). all_lack vs) (sym (append_assoc (option_words (codes "torn") (torn_option w)) m ws)) outer))))

line_one : (v : HeadValue) (w : Losses) → IsSmallHead v → AreLosses v w → lacks 10 (line_of v w) ≡ true
line_one v w small losses =
    let after : all_lack (beyond_first v w) =
    (line_lacks v.sectors (less v.sectors small.sectors), (refl, (line_lacks v.entries (less v.entries small.entries), (refl, (kind_lack v.cuts.kind, losses_lack w (given_words v) losses.torn losses.lost (given_lack v small)))))) in
    subst (λ (bs : List ℕ). lacks 10 bs ≡ true) (sym (words_spaced (codes "sectors") (beyond_first v w)))
    (lacks_both 10 (codes "sectors") (spaced (beyond_first v w)) refl (spaced_lack (beyond_first v w) after))

-- the lines of the options and the programs
lines_are : (v : HeadValue) (w : Losses) (more : List ℕ) → options_text v w ++ more ≡ line_of v w ++ 10 ∷ (program_lines 0 v.programs ++ more)
unfolding options_text
lines_are v w more =
    append_assoc ((device_text v ++ losses_text w) ++ given_text v) (program_lines 0 v.programs) more
    ∙ ap (λ (bs : List ℕ). bs ++ (program_lines 0 v.programs ++ more)) (line_is v w)
    ∙ append_assoc (line_of v w) (10 ∷ []) (program_lines 0 v.programs ++ more)

-- a head is read from its lines
pub head_read : (text line rest : List ℕ) (programs : List ProgramHead) (h : HeadValue) (asked : Losses) → IsCutAt 10 text line rest → ReadsPrograms rest programs → ReadsCaseOptions line h asked → h.programs ≡ programs
    → ReadsCaseHead text h asked
head_read text line rest programs h asked cut lines options same = record { read = reads }
  where
    reads : (v : HeadValue) (w : Losses) (more : List ℕ) → IsPrintedHead v → AreLosses v w → NoProgram more → text ≡ options_text v w ++ more → HaveSameOptions h (unbounded v) × (h.programs ≡ v.programs) × (asked ≡ w)
    reads v w more printed losses other e =
        let p = cut.parts (line_of v w) (program_lines 0 v.programs ++ more) (line_one v w printed.numbers losses) (e ∙ lines_are v w more) in
        let o = options.read v w printed.numbers losses p.0 in
        (o.0, same ∙ lines.read v.programs more printed.few printed.numbers.programs other p.1, o.1)

-- what a text of cases doesn't say makes no difference
unbound_options : (a b c d e : Bool) → (a && b && c && d && e) ≡ true → (a && b && c && true && e) ≡ true
unbound_options true true true true e own = own
unbound_options true true true false e own = absurd (let bad : false ≡ true = own in cc)
unbound_options true true false d e own = absurd (let bad : false ≡ true = own in cc)
unbound_options true false c d e own = absurd (let bad : false ≡ true = own in cc)
unbound_options false b c d e own = absurd (let bad : false ≡ true = own in cc)

pub unbounded_printed : (v : HeadValue) → IsPrintedHead v → IsPrintedHead (unbounded v)
unbounded_printed v printed =
    let n = printed.numbers in
    record {
      numbers = record { sectors = n.sectors; entries = n.entries; bound = omega arith; from = n.from; to = n.to; flushes = n.flushes; base = n.base; programs = n.programs };
      some = printed.some;
      few = printed.few;
      options = unbound_options (nat_le 1 v.sectors) (nat_le v.sectors most_sectors) (nat_le v.entries 65536) (nat_le v.bound 3) (are_cuts_of_run v.entries v.cuts) printed.options;
      programs = printed.programs;
    }

pub not_of_run : (text : List ℕ) (h : HeadValue) (asked : Losses) → ReadsCaseHead text h asked → IsSmallHead h → (IsPrintedHead h → ⊥) → NoCaseHead text
not_of_run text h asked r small lack = record {
  none = λ v w more printed losses other e. let p = r.read v w more printed losses other e in lack (moved h (unbounded v) small p.0 p.1 (unbounded_printed v printed));
}

pub no_losses : (text : List ℕ) (h : HeadValue) (asked : Losses) → ReadsCaseHead text h asked → asked.tears ≡ h.tears → (AreLosses h asked → ⊥) → NoCaseHead text
no_losses text h asked r same lack = record {
  none = λ v w more printed losses other e.
      let p = r.read v w more printed losses other e in
      lack (record { tears = same; torn = ap are_torn_of_run p.2 ∙ losses.torn; lost = ap (λ (x : Losses). are_lost_of_run x.lost) p.2 ∙ losses.lost });
}

same_text : (h v : HeadValue) (w : Losses) → HaveSameOptions h (unbounded v) → h.programs ≡ v.programs → options_text h w ≡ options_text v w
unfolding options_text device_text given_text cuts_words
same_text h v w s programs =
    let e1 : h.sectors ≡ v.sectors = s.sectors in
    let e2 : h.entries ≡ v.entries = s.entries in
    let e3 : h.cuts.kind ≡ v.cuts.kind = s.kind in
    let e4 : h.cuts.from ≡ v.cuts.from = s.from in
    let e5 : h.cuts.to ≡ v.cuts.to = s.to in
    let e6 : places_of h.cuts.flushes ≡ places_of v.cuts.flushes = s.flushes in
    let e7 : h.by ≡ v.by = s.way in
    let e8 : h.base ≡ v.base = s.base in
    rw (e1, e2, e3, e4, e5, e6, e7, e8, programs) refl

pub not_printed : (text printed : List ℕ) (h : HeadValue) (asked : Losses) → ReadsCaseHead text h asked → printed ≡ options_text h asked → ((rest : List ℕ) → text ≢ printed ++ rest) → NoCaseHead text
not_printed text printed h asked r is lack = record {
  none = λ v w more own losses other e.
      let p = r.read v w more own losses other e in
      lack more (e ∙ ap (λ (bs : List ℕ). bs ++ more) (sym (is ∙ same_text h v asked p.0 p.1 ∙ ap (λ (x : Losses). options_text v x) p.2)));
}

alike : (h v : HeadValue) → HaveSameOptions h (unbounded v) → h.programs ≡ v.programs → AreAlike h v
alike h v s programs = record {
  options = record { sectors = s.sectors; entries = s.entries; kind = s.kind; from = s.from; to = s.to; flushes = s.flushes; bound = refl; tears = s.tears; way = s.way; first = refl; base = s.base };
  programs = programs;
}

pub is_head : (text printed rest : List ℕ) (h : HeadValue) (asked : Losses) → ReadsCaseHead text h asked → IsPrintedHead h → AreLosses h asked → printed ≡ options_text h asked → text ≡ printed ++ rest
    → IsCaseHead text h asked rest
is_head text printed rest h asked r own losses is begins = record { printed = own; losses = losses; is = whole; only = only }
  where
    whole : text ≡ options_text h asked ++ rest
    whole = begins ∙ ap (λ (bs : List ℕ). bs ++ rest) is

    only : (v : HeadValue) (w : Losses) (more : List ℕ) → IsPrintedHead v → AreLosses v w → NoProgram more → text ≡ options_text v w ++ more → AreAlike h v × (asked ≡ w) × (rest ≡ more)
    only v w more also given other e =
        let p = r.read v w more also given other e in
        let same : options_text v w ≡ options_text h asked = sym (same_text h v asked p.0 p.1 ∙ ap (λ (x : Losses). options_text v x) p.2) in
        (alike h v p.0 p.1, p.2, cancel (options_text h asked) rest more (sym whole ∙ e ∙ ap (λ (bs : List ℕ). bs ++ more) same))
