-- The last line of a text of cases, read.
use Rattle.std.proofs.Common.{ℕ, ◌≡◌, ◌+◌, ◌<◌, ◌≤◌, ◌^◌, ◌==◌, ◌&&◌, nat_le, Bool, true, false, if◌then◌else◌, List, [], ◌∷◌, ◌++◌, length, append_assoc, append-nil, codes, Option, None, Some, unwrap_or, refl, sym, subst, ap, ◌∙◌, arith}
use Rattle.std.specs.Fmt.{decimal}
use Rattle.std.proofs.lemmas.Bool.Decides.{nat_tests}
use Rattle.base.specs.Sizes.{most_sectors}
use Rattle.epochs.specs.Cuts.{is_before_last}
use Rattle.epochs.specs.Flushes.{places_of}
use Rattle.report.specs.MarkReading.{lacks, IsCutAt}
use Rattle.report.specs.Report.{HeadValue}
use Rattle.report.proofs.Back.{lacks_both}
use Rattle.case_text.specs.Text.{counts_text, beyond_text, extent_words, complete_word}
use Rattle.join.specs.declared.case_parts.totals.CaseTotals.{CaseTotals}
use Rattle.join.specs.Heads.{join_words, IsWord, IsPrintedHead, ReadsWord, are_cuts_of_run, are_entries_of_run}
use Rattle.join.specs.CaseTexts.{first_of, last_of, totals_line}
use Rattle.join.specs.CaseReading.{IsSmallTotals, ReadsSecond, ReadsTotals}
use Rattle.join.proofs.Spans.{SaysNumber, line_lacks}
use Rattle.join.proofs.WordsRead.{spaced, words_spaced, spaced_both, number_word}

pub second_read : (line name rest word more : List ℕ) → ReadsWord line name rest → ReadsWord rest word more → ReadsSecond line word more
second_read line name rest word more one two = record {
  read = λ w v ws own also e. let p = one.read w (v ∷ ws) own e in two.read v ws also p.1;
}

-- the word after the numbers, where no case was left out
abbrev extent_list : Bool → List (List ℕ)
extent_list all = if all then codes "complete" ∷ [] else codes "of" ∷ codes "these" ∷ codes "cuts" ∷ []

abbrev complete_words : Bool → ℕ → ℕ → List (List ℕ)
complete_words all torn lost = if (torn == 0) && (lost == 0) then extent_list all else []

abbrev words_after : Bool → CaseTotals → List (List ℕ)
words_after all t = codes "lost" ∷ codes "beyond" ∷ decimal t.lost ∷ complete_words all t.torn t.lost

abbrev beyond_first : Bool → CaseTotals → List (List ℕ)
beyond_first all t = decimal t.cuts ∷ codes "cases" ∷ decimal t.cases ∷ codes "failing" ∷ decimal t.failing ∷ codes "torn" ∷ codes "beyond" ∷ decimal t.torn ∷ words_after all t

abbrev totals_words : Bool → CaseTotals → List (List ℕ)
totals_words all t = codes "cuts" ∷ beyond_first all t

complete_spaced : (all : Bool) (torn lost : ℕ) → spaced (complete_words all torn lost) ≡ complete_word all torn lost
complete_spaced all torn lost = by_test ((torn == 0) && (lost == 0)) all
  where
    by_test : (b a : Bool) → spaced (if b then extent_list a else []) ≡ (if b then extent_words a else [])
    by_test true true = refl
    by_test true false = refl
    by_test false a = refl

complete_lacks : (all : Bool) (torn lost : ℕ) → lacks 10 (complete_word all torn lost) ≡ true
complete_lacks all torn lost = by_test ((torn == 0) && (lost == 0)) all
  where
    by_test : (b a : Bool) → lacks 10 (if b then extent_words a else []) ≡ true
    by_test true true = refl
    by_test true false = refl
    by_test false a = refl

counts_is : (a b c : ℕ) (more : List ℕ) → counts_text a b c ++ more ≡ codes "cuts " ++ (decimal a ++ (codes " cases " ++ (decimal b ++ (codes " failing " ++ (decimal c ++ more)))))
unfolding counts_text
counts_is a b c more = simp append_assoc

beyond_is : (a b : ℕ) (more : List ℕ) → beyond_text a b ++ more ≡ codes " torn beyond " ++ (decimal a ++ (codes " lost beyond " ++ (decimal b ++ more)))
unfolding beyond_text
beyond_is a b more = simp append_assoc

-- the line without its newline
abbrev totals_body : Bool → CaseTotals → List ℕ
totals_body all t =
    codes "cuts " ++ (decimal t.cuts ++ (codes " cases " ++ (decimal t.cases ++ (codes " failing " ++ (decimal t.failing ++ (codes " torn beyond " ++ (decimal t.torn ++ (codes " lost beyond " ++ (decimal t.lost ++ complete_word all t.torn t.lost)))))))))

body_is : (all : Bool) (t : CaseTotals) → join_words (totals_words all t) ≡ totals_body all t
body_is all t =
    words_spaced (codes "cuts") (beyond_first all t)
    ∙ ap (λ (bs : List ℕ). codes "cuts " ++ (decimal t.cuts ++ (codes " cases " ++ (decimal t.cases ++ (codes " failing " ++ (decimal t.failing ++ (codes " torn beyond " ++ (decimal t.torn ++ (codes " lost beyond " ++ (decimal t.lost ++ bs))))))))))
    (complete_spaced all t.torn t.lost)

line_is : (all : Bool) (t : CaseTotals) → totals_line all t ≡ totals_body all t ++ 10 ∷ []
unfolding totals_line
line_is all t =
    append_assoc (counts_text t.cuts t.cases t.failing ++ beyond_text t.torn t.lost) (complete_word all t.torn t.lost) (codes "\n")
    ∙ append_assoc (counts_text t.cuts t.cases t.failing) (beyond_text t.torn t.lost) (complete_word all t.torn t.lost ++ codes "\n")
    ∙ ap (λ (bs : List ℕ). counts_text t.cuts t.cases t.failing ++ bs) (beyond_is t.torn t.lost (complete_word all t.torn t.lost ++ codes "\n"))
    ∙ counts_is t.cuts t.cases t.failing (codes " torn beyond " ++ (decimal t.torn ++ (codes " lost beyond " ++ (decimal t.lost ++ (complete_word all t.torn t.lost ++ codes "\n")))))
    ∙ regrouped (codes "cuts ") (decimal t.cuts) (codes " cases ") (decimal t.cases) (codes " failing ") (decimal t.failing) (codes " torn beyond ") (decimal t.torn) (codes " lost beyond ") (decimal t.lost) (complete_word all t.torn t.lost) (codes "\n")
  where
    regrouped : (a b c d e f g h i j k l : List ℕ) → a ++ (b ++ (c ++ (d ++ (e ++ (f ++ (g ++ (h ++ (i ++ (j ++ (k ++ l)))))))))) ≡ (a ++ (b ++ (c ++ (d ++ (e ++ (f ++ (g ++ (h ++ (i ++ (j ++ k)))))))))) ++ l
    regrouped a b c d e f g h i j k l = simp append_assoc

body_lacks : (all : Bool) (t : CaseTotals) → IsSmallTotals t → lacks 10 (totals_body all t) ≡ true
body_lacks all t small =
    let b1 : List ℕ = decimal t.lost ++ complete_word all t.torn t.lost in
    let b2 : List ℕ = decimal t.torn ++ (codes " lost beyond " ++ b1) in
    let b3 : List ℕ = decimal t.failing ++ (codes " torn beyond " ++ b2) in
    let b4 : List ℕ = decimal t.cases ++ (codes " failing " ++ b3) in
    let b5 : List ℕ = decimal t.cuts ++ (codes " cases " ++ b4) in
    let e1 = lacks_both 10 (decimal t.lost) (complete_word all t.torn t.lost) (line_lacks t.lost small.lost) (complete_lacks all t.torn t.lost) in
    let e2 = lacks_both 10 (decimal t.torn) (codes " lost beyond " ++ b1) (line_lacks t.torn small.torn) (lacks_both 10 (codes " lost beyond ") b1 refl e1) in
    let e3 = lacks_both 10 (decimal t.failing) (codes " torn beyond " ++ b2) (line_lacks t.failing small.failing) (lacks_both 10 (codes " torn beyond ") b2 refl e2) in
    let e4 = lacks_both 10 (decimal t.cases) (codes " failing " ++ b3) (line_lacks t.cases small.cases) (lacks_both 10 (codes " failing ") b3 refl e3) in
    let e5 = lacks_both 10 (decimal t.cuts) (codes " cases " ++ b4) (line_lacks t.cuts small.cuts) (lacks_both 10 (codes " cases ") b4 refl e4) in
    lacks_both 10 (codes "cuts ") b5 refl e5

pub totals_read : (text line rest w1 r1 w2 r2 w3 r3 n1 r4 w4 r5 n2 r6 w5 r7 : List ℕ) (a b c d e : ℕ) → IsCutAt 10 text line rest → ReadsSecond line w1 r1 → ReadsSecond r1 w2 r2 → ReadsSecond r2 w3 r3
    → ReadsWord r3 n1 r4 → ReadsSecond r4 w4 r5 → ReadsWord r5 n2 r6 → ReadsSecond r6 w5 r7 → SaysNumber w1 a → SaysNumber w2 b → SaysNumber w3 c → SaysNumber w4 d → SaysNumber w5 e
    → ReadsTotals text (record { cuts = a; cases = b; failing = c; torn = d; lost = e })
totals_read text line rest w1 r1 w2 r2 w3 r3 n1 r4 w4 r5 n2 r6 w5 r7 a b c d e cut c1 c2 c3 c4 c5 c6 c7 s1 s2 s3 s4 s5 = record { read = reads }
  where
    reads : (all : Bool) (t : CaseTotals) → IsSmallTotals t → text ≡ totals_line all t → record { cuts = a; cases = b; failing = c; torn = d; lost = e } ≡ t
    reads all t small is =
        let p0 = cut.parts (totals_body all t) [] (body_lacks all t small) (is ∙ line_is all t) in
        let l3 : List (List ℕ) = words_after all t in
        let l2 : List (List ℕ) = codes "torn" ∷ codes "beyond" ∷ decimal t.torn ∷ l3 in
        let l1 : List (List ℕ) = codes "failing" ∷ decimal t.failing ∷ l2 in
        let p1 = c1.read (codes "cuts") (decimal t.cuts) (codes "cases" ∷ decimal t.cases ∷ l1) (omega arith, refl) (number_word t.cuts small.cuts) (p0.0 ∙ sym (body_is all t)) in
        let p2 = c2.read (codes "cases") (decimal t.cases) l1 (omega arith, refl) (number_word t.cases small.cases) p1.1 in
        let p3 = c3.read (codes "failing") (decimal t.failing) l2 (omega arith, refl) (number_word t.failing small.failing) p2.1 in
        let p4 = c4.read (codes "torn") (codes "beyond" ∷ decimal t.torn ∷ l3) (omega arith, refl) p3.1 in
        let p5 = c5.read (codes "beyond") (decimal t.torn) l3 (omega arith, refl) (number_word t.torn small.torn) p4.1 in
        let p6 = c6.read (codes "lost") (codes "beyond" ∷ decimal t.lost ∷ complete_words all t.torn t.lost) (omega arith, refl) p5.1 in
        let p7 = c7.read (codes "beyond") (decimal t.lost) (complete_words all t.torn t.lost) (omega arith, refl) (number_word t.lost small.lost) p6.1 in
        let e1 : a ≡ t.cuts = s1 t.cuts small.cuts p1.0 in
        let e2 : b ≡ t.cases = s2 t.cases small.cases p2.0 in
        let e3 : c ≡ t.failing = s3 t.failing small.failing p3.0 in
        let e4 : d ≡ t.torn = s4 t.torn small.torn p5.0 in
        let e5 : e ≡ t.lost = s5 t.lost small.lost p7.0 in
        rw (e1, e2, e3, e4, e5) refl

-- the range of a run is within its log
pub and_both : (a b : Bool) → (a && b) ≡ true → (a ≡ true) × (b ≡ true)
and_both true b e = (refl, e)
and_both false b e = absurd (let bad : false ≡ true = e in cc)

last_by : (to : Option ℕ) (n : ℕ) → nat_le (unwrap_or to 0) n ≡ true → unwrap_or to n ≤ n
last_by None n e = omega arith
last_by (Some t) n e = grind (arith, nat_tests, e)

pub first_by : (to : Option ℕ) (first n : ℕ) → nat_le first n ≡ true → is_before_last to first ≡ true → first ≤ unwrap_or to n
first_by None first n e before = grind (arith, nat_tests, e)
first_by (Some t) first n e before = grind (arith, nat_tests, before)

pub record IsWithinLog (h : HeadValue) : Type 0 where
  pub entries : h.entries ≤ 65536
  pub last : last_of h ≤ h.entries
  pub first : first_of h ≤ last_of h

pub within_log : (h : HeadValue) → IsPrintedHead h → IsWithinLog h
within_log h printed =
    let all = and_both (nat_le 1 h.sectors && nat_le h.sectors most_sectors && nat_le h.entries 65536 && nat_le h.bound 3) (are_cuts_of_run h.entries h.cuts) printed.options in
    let sizes = and_both (nat_le 1 h.sectors && nat_le h.sectors most_sectors && nat_le h.entries 65536) (nat_le h.bound 3) all.0 in
    let entries = (and_both (nat_le 1 h.sectors && nat_le h.sectors most_sectors) (nat_le h.entries 65536) sizes.0).1 in
    let cuts = and_both (are_entries_of_run h.entries (places_of h.cuts.flushes) && nat_le (unwrap_or h.cuts.from 0) h.entries && nat_le (unwrap_or h.cuts.to 0) h.entries) (is_before_last h.cuts.to (unwrap_or h.cuts.from 0)) all.1 in
    let ends = and_both (are_entries_of_run h.entries (places_of h.cuts.flushes) && nat_le (unwrap_or h.cuts.from 0) h.entries) (nat_le (unwrap_or h.cuts.to 0) h.entries) cuts.0 in
    let begins = and_both (are_entries_of_run h.entries (places_of h.cuts.flushes)) (nat_le (unwrap_or h.cuts.from 0) h.entries) ends.0 in
    record {
      entries = grind (arith, nat_tests, entries);
      last = last_by h.cuts.to h.entries ends.1;
      first = first_by h.cuts.to (unwrap_or h.cuts.from 0) h.entries begins.1 cuts.1;
    }

pub last_small : (h : HeadValue) (last : ℕ) → IsPrintedHead h → last ≡ last_of h → last + 1 < 2 ^ 64
last_small h last printed is =
    let w = within_log h printed in
    let a = w.entries in
    let b = w.last in
    omega (arith, is, a, b)
