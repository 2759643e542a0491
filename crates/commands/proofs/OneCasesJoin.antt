-- Texts of cases come to one text, and beside that are refused for want of memory alone.
use Rattle.std.proofs.Common.{ℕ, zero, suc, ◌≡◌, ◌≢◌, ◌↔◌, IsTrue, ◌+◌, ◌-◌, ◌<◌, ◌≤◌, ◌^◌, ◌==◌, ◌&&◌, ◌||◌, not, if◌then◌else◌, Bool, true, false, inl, inr, List, [], ◌∷◌, ◌++◌, length, map, take, get_or, slice_get, codes, All, Option, Some, None, is_some, unwrap_or, refl, sym, ◌∙◌, ap, subst, arith}
use Rattle.std.specs.List.{flat_map, sum_by}
use Rattle.std.specs.List.Sorted.{IsPermutation}
use Rattle.std.proofs.lemmas.Bool.{false≢true}
use Rattle.std.proofs.lemmas.List.{length-map}
use Rattle.std.proofs.lemmas.List.Elements.{All-nil, All-cons}
use Rattle.std.proofs.lemmas.List.Sums.{sum_by-cons, sum_by-append}
use Rattle.std.proofs.lemmas.List.Sorted.{All-permutation, IsPermutation-map, IsPermutation-sym, length_permutation}
use Rattle.base.specs.declared.causes.JoinCause.TheVariants as cause
use Rattle.epochs.specs.declared.cuts.CutKind.{CutKind}
use Rattle.epochs.specs.Flushes.{places_of}
use Rattle.report.specs.Words.{cuts_words}
use Rattle.report.specs.declared.span.Span.{Span}
use Rattle.report.specs.Line.{FailingLine}
use Rattle.report.specs.Part.{span_text, span_report}
use Rattle.report.specs.Report.{HeadValue, device_text, given_text, findings_text, report_bytes}
use Rattle.report.specs.Report.{options_text as report_options}
use Rattle.losses.specs.declared.found.Losses.{Losses}
use Rattle.case_text.specs.Text.{in_word, is_each_cut, are_all_cuts, cases_head, opening_text, options_text}
use Rattle.join.specs.declared.case_parts.fault.CasesFault.{CasesFault}
use Rattle.join.specs.declared.case_parts.fault.CasesFault.TheVariants as refused
use Rattle.join.specs.declared.case_parts.totals.CaseTotals.{CaseTotals}
use Rattle.join.specs.Text.{PartValue, part_text}
use Rattle.join.specs.Reading.{PartRead, IsPartText, NoPartText}
use Rattle.join.specs.Joining.{ArePartTexts, IsJoined, joined_text, size_of, span_between}
use Rattle.join.specs.CaseTexts.{CasesValue, IsCasesText, NoCasesText, told_text, first_of, last_of, totals_line}
use Rattle.join.specs.CaseReading.{AreAlike, CasesRead, IsCasesPart}
use Rattle.join.specs.CaseJoining.{AreCasesParts, AreJoinedCases, AreByCuts, AreShortOfCuts, FollowInRow, HasFailing, IsFirstApart, IsFirstForeign, IsFirstMany, IsOfCaseRun, RefusesCases, all_cases, all_totals, head_between, joined_cases, joined_head, told_number, too_long, no_part, of_other_run, with_gap, with_overlap, with_many, short_of_cuts, no_memory}
use Rattle.join.proofs.CaseLasts.{within_log}
use Rattle.commands.proofs.OneRow.{Each, each_of, all_of, each_at, AreNumbered, Past, IsRising, IsNotFalling, NotBefore, rising_up, sorted_up, one_row}
use Rattle.commands.proofs.OneSize.{not_long}

-- WHAT TWO READINGS OF A TEXT HAVE IN COMMON

-- what is printed of a text: the number of its inputs, its options and programs over any range, the kind of its cuts, its range, its lines
-- and its totals; and its file
record CasesKey : Type 0 where
  inputs : Option ℕ
  text : Option ℕ → Option ℕ → List ℕ
  kind : CutKind
  from : Option ℕ
  to : Option ℕ
  entries : ℕ
  lines : List ℕ
  totals : CaseTotals
  file : ℕ

abbrev key_of : CasesRead → CasesKey
key_of r = record {
  inputs = r.inputs;
  text = λ from to. options_text (head_between r.head from to) r.asked;
  kind = r.head.cuts.kind;
  from = r.head.cuts.from;
  to = r.head.cuts.to;
  entries = r.head.entries;
  lines = r.lines;
  totals = r.totals;
  file = r.file;
}

-- and what it says of its run
abbrev said_of : CasesKey → List ℕ
said_of k = opening_text k.inputs ++ k.text None None

-- heads that say the same over one range are printed alike
same_options : (h v : HeadValue) (w u : Losses) (from to : Option ℕ) → AreAlike h v → w ≡ u → options_text (head_between h from to) w ≡ options_text (head_between v from to) u
unfolding options_text device_text given_text cuts_words
same_options h v w u from to alike asked =
    let o = alike.options in
    let e1 : h.sectors ≡ v.sectors = o.sectors in
    let e2 : h.entries ≡ v.entries = o.entries in
    let e3 : h.cuts.kind ≡ v.cuts.kind = o.kind in
    let e4 : places_of h.cuts.flushes ≡ places_of v.cuts.flushes = o.flushes in
    let e5 : h.by ≡ v.by = o.way in
    let e6 : h.base ≡ v.base = o.base in
    let e7 : h.programs ≡ v.programs = alike.programs in
    rw (e1, e2, e3, e4, e5, e6, e7, asked) refl

same_key : (t : List ℕ) (r s : CasesRead) → IsCasesPart t r → IsCasesPart t s → r.file ≡ s.file → key_of r ≡ key_of s
same_key t r s a b at =
    let says = a.only b.cases b.is in
    let own = b.only b.cases b.is in
    let alike : AreAlike r.head s.head = subst (λ (h : HeadValue). AreAlike r.head h) (sym b.head) says.head in
    let asked : r.asked ≡ s.asked = says.asked ∙ sym own.asked in
    let inputs : r.inputs ≡ s.inputs = says.inputs ∙ sym own.inputs in
    let lines : r.lines ≡ s.lines = says.lines ∙ sym own.lines in
    let totals : r.totals ≡ s.totals = says.totals ∙ sym own.totals in
    let kind : r.head.cuts.kind ≡ s.head.cuts.kind = alike.options.kind in
    let from : r.head.cuts.from ≡ s.head.cuts.from = alike.options.from in
    let to : r.head.cuts.to ≡ s.head.cuts.to = alike.options.to in
    let entries : r.head.entries ≡ s.head.entries = alike.options.entries in
    λ i. record {
      inputs = inputs i;
      text = λ a b. same_options r.head s.head r.asked s.asked a b alike asked i;
      kind = kind i;
      from = from i;
      to = to i;
      entries = entries i;
      lines = lines i;
      totals = totals i;
      file = at i;
    }

same_keys : (n : ℕ) (ts : List (List ℕ)) (rs ss : List CasesRead) → AreCasesParts n ts rs → AreCasesParts n ts ss → map key_of rs ≡ map key_of ss
same_keys n [] [] [] a b = refl
same_keys n [] [] (s ∷ ss) a b = absurd b
same_keys n [] (r ∷ rs) ss a b = absurd a
same_keys n (t ∷ ts) [] ss a b = absurd a
same_keys n (t ∷ ts) (r ∷ rs) [] a b = absurd b
same_keys n (t ∷ ts) (r ∷ rs) (s ∷ ss) a b =
    let one = same_key t r s a.0 b.0 (a.1 ∙ sym b.1) in
    let rest = same_keys (n + 1) ts rs ss a.2 b.2 in
    λ i. one i ∷ rest i

-- WHAT IS SAID OF READINGS, SAID OF THESE

each_keyed : (P : CasesKey → Type 0) (rs : List CasesRead) → Each (λ (r : CasesRead). P (key_of r)) rs → Each P (map key_of rs)
each_keyed P [] each = tt
each_keyed P (r ∷ rs) each = (each.0, each_keyed P rs each.1)

key_at : (rs : List CasesRead) (k : ℕ) (r : CasesRead) → slice_get rs k ≡ Some r → slice_get (map key_of rs) k ≡ Some (key_of r)
key_at [] k r there = absurd (let bad : None ≡ Some r = there in cc)
key_at (x ∷ rs) zero r there = let both : Some x ≡ Some r = there in let same : x ≡ r = cc in ap (λ (y : CasesRead). Some (key_of y)) same
key_at (x ∷ rs) (suc k) r there = key_at rs k r there

sum_keyed : (f : CasesKey → ℕ) (rs : List CasesRead) → sum_by (λ (r : CasesRead). f (key_of r)) rs ≡ sum_by f (map key_of rs)
sum_keyed f [] = refl
sum_keyed f (r ∷ rs) =
    let left = sum_by-cons (λ (s : CasesRead). f (key_of s)) r rs in
    let right = sum_by-cons f (key_of r) (map key_of rs) in
    let rest = sum_keyed f rs in
    omega (arith, left, right, rest)

lines_keyed : (rs : List CasesRead) → flat_map (λ (r : CasesRead). r.lines) rs ≡ flat_map (λ (k : CasesKey). k.lines) (map key_of rs)
lines_keyed [] = refl
lines_keyed (r ∷ rs) = ap (λ (bs : List ℕ). r.lines ++ bs) (lines_keyed rs)

numbers_keyed : (n : ℕ) (ts : List (List ℕ)) (rs : List CasesRead) → AreCasesParts n ts rs → AreNumbered (λ (k : CasesKey). k.file) n (map key_of rs)
numbers_keyed n [] [] each = tt
numbers_keyed n [] (r ∷ rs) each = absurd each
numbers_keyed n (t ∷ ts) [] each = absurd each
numbers_keyed n (t ∷ ts) (r ∷ rs) each = (each.1, numbers_keyed (n + 1) ts rs each.2)

-- ROWS

abbrev start_of : CasesKey → ℕ
start_of k = unwrap_or k.from 0

abbrev end_of : CasesKey → ℕ
end_of k = unwrap_or k.to k.entries

-- a range has a cut
abbrev HasCuts : CasesRead → Type 0
HasCuts r = first_of r.head ≤ last_of r.head

abbrev KeyHasCuts : CasesKey → Type 0
KeyHasCuts k = start_of k ≤ end_of k

have_cuts : (n : ℕ) (ts : List (List ℕ)) (rs : List CasesRead) → AreCasesParts n ts rs → Each HasCuts rs
have_cuts n [] [] each = tt
have_cuts n [] (r ∷ rs) each = absurd each
have_cuts n (t ∷ ts) [] each = absurd each
have_cuts n (t ∷ ts) (r ∷ rs) each =
    let part = each.0 in
    let within = within_log part.cases.head part.is.head in
    (subst (λ (h : HeadValue). first_of h ≤ last_of h) (sym part.head) within.first, have_cuts (n + 1) ts rs each.2)

abbrev FollowKeys : List CasesKey → Type 0
FollowKeys [] = Unit {0}
FollowKeys (k ∷ []) = Unit {0}
FollowKeys (k ∷ l ∷ ks) = (end_of k + 1 ≡ start_of l) × FollowKeys (l ∷ ks)

follow_keyed : (rs : List CasesRead) → FollowInRow rs → FollowKeys (map key_of rs)
follow_keyed [] follow = tt
follow_keyed (r ∷ []) follow = tt
follow_keyed (r ∷ s ∷ rs) follow = (follow.0, follow_keyed (s ∷ rs) follow.1)

keys_later : (n : ℕ) (k : CasesKey) (ks : List CasesKey) → n < start_of k → Each KeyHasCuts (k ∷ ks) → FollowKeys (k ∷ ks) → Each (Past start_of n) (k ∷ ks)
keys_later n k [] less some row = (less, tt)
keys_later n k (l ∷ ks) less some row =
    let own = some.0 in
    let next = row.0 in
    (less, keys_later n l ks (omega (arith, less, own, next)) some.1 row.1)

keys_rising : (ks : List CasesKey) → Each KeyHasCuts ks → FollowKeys ks → IsRising start_of ks
keys_rising [] some row = tt
keys_rising (k ∷ []) some row = (tt, tt)
keys_rising (k ∷ l ∷ ks) some row =
    let own = some.0 in
    let next = row.0 in
    (keys_later (start_of k) l ks (omega (arith, own, next)) some.1 row.1, keys_rising (l ∷ ks) some.1 row.1)

follow_rises : (texts : List (List ℕ)) (reads row : List CasesRead) → AreCasesParts 0 texts reads → IsPermutation reads row → FollowInRow row → IsRising start_of (map key_of row)
follow_rises texts reads row each order follow =
    let some = All-permutation HasCuts reads row order (all_of HasCuts reads (have_cuts 0 texts reads each)) in
    keys_rising (map key_of row) (each_keyed KeyHasCuts row (each_of HasCuts row some)) (follow_keyed row follow)

not_falling_keyed : (rs : List CasesRead) → IsNotFalling (λ (r : CasesRead). first_of r.head) rs → IsNotFalling start_of (map key_of rs)
not_falling_keyed [] up = tt
not_falling_keyed (r ∷ rs) up = (each_keyed (NotBefore start_of (first_of r.head)) rs up.0, not_falling_keyed rs up.1)

-- ONE TEXT

-- the text of a row, by these
abbrev key_totals : List CasesKey → CaseTotals
key_totals ks = record {
  cuts = sum_by (λ (k : CasesKey). k.totals.cuts) ks;
  cases = sum_by (λ (k : CasesKey). k.totals.cases) ks;
  failing = sum_by (λ (k : CasesKey). k.totals.failing) ks;
  torn = in_word (sum_by (λ (k : CasesKey). k.totals.torn) ks);
  lost = in_word (sum_by (λ (k : CasesKey). k.totals.lost) ks);
}

abbrev keys_are_all : CasesKey → CasesKey → Bool
keys_are_all first last = (start_of first == 0) && (end_of last == last.entries)

abbrev keys_have_all : CasesKey → CasesKey → Bool
keys_have_all first last =
    is_each_cut first.kind && not (is_some (if keys_are_all first last then None else first.from) || is_some (if keys_are_all first last then None else last.to))

abbrev joined_keys : CasesKey → CasesKey → List CasesKey → List ℕ
joined_keys first last ks =
    (opening_text (if keys_are_all first last then None else first.inputs) ++ first.text (if keys_are_all first last then None else first.from) (if keys_are_all first last then None else last.to))
    ++ (flat_map (λ (k : CasesKey). k.lines) ks ++ totals_line (keys_have_all first last) (key_totals ks))

totals_keyed : (rs : List CasesRead) → all_totals rs ≡ key_totals (map key_of rs)
totals_keyed rs =
    let e1 : sum_by (λ (r : CasesRead). r.totals.cuts) rs ≡ sum_by (λ (k : CasesKey). k.totals.cuts) (map key_of rs) = sum_keyed (λ (k : CasesKey). k.totals.cuts) rs in
    let e2 : all_cases rs ≡ sum_by (λ (k : CasesKey). k.totals.cases) (map key_of rs) = sum_keyed (λ (k : CasesKey). k.totals.cases) rs in
    let e3 : sum_by (λ (r : CasesRead). r.totals.failing) rs ≡ sum_by (λ (k : CasesKey). k.totals.failing) (map key_of rs) = sum_keyed (λ (k : CasesKey). k.totals.failing) rs in
    let e4 : sum_by (λ (r : CasesRead). r.totals.torn) rs ≡ sum_by (λ (k : CasesKey). k.totals.torn) (map key_of rs) = sum_keyed (λ (k : CasesKey). k.totals.torn) rs in
    let e5 : sum_by (λ (r : CasesRead). r.totals.lost) rs ≡ sum_by (λ (k : CasesKey). k.totals.lost) (map key_of rs) = sum_keyed (λ (k : CasesKey). k.totals.lost) rs in
    rw (e1, e2, e3, e4, e5) refl

joined_keyed : (first last : CasesRead) (rs : List CasesRead) → joined_cases first last rs ≡ joined_keys (key_of first) (key_of last) (map key_of rs)
joined_keyed first last rs =
    ap (λ (bs : List ℕ). cases_head (told_number first last) (joined_head first last) first.asked ++ (bs ++ totals_line (are_all_cuts (joined_head first last).cuts) (all_totals rs))) (lines_keyed rs)
    ∙ ap (λ (t : CaseTotals). cases_head (told_number first last) (joined_head first last) first.asked ++ (flat_map (λ (k : CasesKey). k.lines) (map key_of rs) ++ totals_line (are_all_cuts (joined_head first last).cuts) t)) (totals_keyed rs)

-- what two rows of keys have at a place
key_there : (ks ls : List CasesKey) (n m : ℕ) (k l : CasesKey) → ks ≡ ls → n ≡ m → slice_get ks n ≡ Some k → slice_get ls m ≡ Some l → k ≡ l
key_there ks ls n m k l same place a b =
    let both : Some k ≡ Some l = sym a ∙ ap (λ (xs : List CasesKey). slice_get xs n) same ∙ ap (λ (j : ℕ). slice_get ls j) place ∙ b in
    cc

same_long : (rs ss : List CasesRead) → map key_of rs ≡ map key_of ss → length rs ≡ length ss
same_long rs ss same = sym (length-map rs key_of) ∙ ap (λ (ks : List CasesKey). length ks) same ∙ length-map ss key_of

first_key : (rs ss : List CasesRead) (r s : CasesRead) → map key_of rs ≡ map key_of ss → slice_get rs 0 ≡ Some r → slice_get ss 0 ≡ Some s → key_of r ≡ key_of s
first_key rs ss r s same a b = key_there (map key_of rs) (map key_of ss) 0 0 (key_of r) (key_of s) same refl (key_at rs 0 r a) (key_at ss 0 s b)

last_key : (rs ss : List CasesRead) (r s : CasesRead) → map key_of rs ≡ map key_of ss → slice_get rs (length rs - 1) ≡ Some r → slice_get ss (length ss - 1) ≡ Some s → key_of r ≡ key_of s
last_key rs ss r s same a b =
    let place : length rs - 1 ≡ length ss - 1 = ap (λ (n : ℕ). n - 1) (same_long rs ss same) in
    key_there (map key_of rs) (map key_of ss) (length rs - 1) (length ss - 1) (key_of r) (key_of s) same place (key_at rs (length rs - 1) r a) (key_at ss (length ss - 1) s b)

-- a row that is joined rises
row_rises : {part : Bool} {texts : List (List ℕ)} {bytes : List ℕ} (h : AreJoinedCases part texts bytes) → IsRising start_of (map key_of h.row)
row_rises {texts = texts} h = follow_rises texts h.reads h.row h.each h.order h.follow

rows_alike : (texts : List (List ℕ)) (rs ss xs ys : List CasesRead) → AreCasesParts 0 texts rs → AreCasesParts 0 texts ss → IsPermutation rs xs → IsPermutation ss ys
    → IsRising start_of (map key_of xs) → IsNotFalling start_of (map key_of ys) → map key_of xs ≡ map key_of ys
rows_alike texts rs ss xs ys a b one other up rise =
    let keys : map key_of ss ≡ map key_of rs = same_keys 0 texts ss rs b a in
    let moved : IsPermutation (map key_of rs) (map key_of ys) = subst (λ (ks : List CasesKey). IsPermutation ks (map key_of ys)) keys (IsPermutation-map key_of ss ys other) in
    one_row start_of (λ (k : CasesKey). k.file) (map key_of rs) (map key_of xs) (map key_of ys) (numbers_keyed 0 texts rs a) (IsPermutation-map key_of rs xs one) moved up rise

pub one_cases_join : (part also : Bool) (texts : List (List ℕ)) (bytes others : List ℕ) → AreJoinedCases part texts bytes → AreJoinedCases also texts others → bytes ≡ others
one_cases_join part also texts bytes others h k =
    let up = row_rises h in
    let rise = rising_up start_of (map key_of k.row) (row_rises k) in
    let rows = rows_alike texts h.reads k.reads h.row k.row h.each k.each h.order k.order up rise in
    let first = first_key h.row k.row h.first k.first rows h.begins k.begins in
    let last = last_key h.row k.row h.last k.last rows h.ends k.ends in
    let text : joined_keys (key_of h.first) (key_of h.last) (map key_of h.row) ≡ joined_keys (key_of k.first) (key_of k.last) (map key_of k.row) = λ i. joined_keys (first i) (last i) (rows i) in
    h.is ∙ joined_keyed h.first h.last h.row ∙ text ∙ sym (joined_keyed k.first k.last k.row) ∙ sym k.is

-- and whether the texts have a failing line is one answer
pub one_failing : (texts : List (List ℕ)) (failing fails : Bool) → IsTrue failing ↔ HasFailing texts → IsTrue fails ↔ HasFailing texts → failing ≡ fails
one_failing texts true true one two = refl
one_failing texts false false one two = refl
one_failing texts true false one two = absurd (false≢true (two.1 (one.0 refl)))
one_failing texts false true one two = absurd (false≢true (one.1 (two.0 refl)))

-- NO REFUSAL BESIDE A TEXT

not_none : (n : ℕ) (ts : List (List ℕ)) (rs : List CasesRead) (k : ℕ) (t : List ℕ) → AreCasesParts n ts rs → slice_get ts k ≡ Some t → NoCasesText t → ⊥
not_none n [] rs k t each there none = let bad : None ≡ Some t = there in cc
not_none n (u ∷ ts) [] k t each there none = absurd each
not_none n (u ∷ ts) (r ∷ rs) zero t each there none =
    let both : Some u ≡ Some t = there in
    let same : t ≡ u = cc in
    let part = each.0 in
    (subst (λ (bs : List ℕ). NoCasesText bs) same none).none part.cases part.is
not_none n (u ∷ ts) (r ∷ rs) (suc k) t each there none = not_none (n + 1) ts rs k t each.2 there none

-- all say the same of their run
not_foreign : {part : Bool} {texts : List (List ℕ)} {bytes : List ℕ} (file : ℕ) → AreJoinedCases part texts bytes → IsFirstForeign texts file → ⊥
not_foreign {texts = texts} file h s =
    let keys : map key_of h.reads ≡ map key_of s.reads = same_keys 0 texts h.reads s.reads h.each s.each in
    let run : List ℕ = said_of (key_of h.first) in
    let own : All (IsOfCaseRun h.first) h.reads = All-permutation (IsOfCaseRun h.first) h.row h.reads (IsPermutation-sym h.reads h.row h.order) h.one in
    let of = each_keyed (λ (k : CasesKey). said_of k ≡ run) h.reads (each_of (IsOfCaseRun h.first) h.reads own) in
    let all : Each (λ (k : CasesKey). said_of k ≡ run) (map key_of s.reads) = subst (λ (ks : List CasesKey). Each (λ (k : CasesKey). said_of k ≡ run) ks) keys of in
    let first = each_at (λ (k : CasesKey). said_of k ≡ run) (map key_of s.reads) 0 (key_of s.run) all (key_at s.reads 0 s.run s.run_there) in
    let other = each_at (λ (k : CasesKey). said_of k ≡ run) (map key_of s.reads) file (key_of s.read) all (key_at s.reads file s.read s.there) in
    s.foreign (other ∙ sym first)

-- by their cuts they stand in that row
by_cuts_alike : {part : Bool} {texts : List (List ℕ)} {bytes : List ℕ} {reads row : List CasesRead} (h : AreJoinedCases part texts bytes) → AreByCuts texts reads row → map key_of h.row ≡ map key_of row
by_cuts_alike {texts = texts} {reads = reads} {row = row} h c =
    let rise = not_falling_keyed row (sorted_up (λ (r : CasesRead). first_of r.head) row c.rising) in
    rows_alike texts h.reads reads h.row row h.each c.each h.order c.order (row_rises h) rise

follow_rest : (k : CasesKey) (ks : List CasesKey) → FollowKeys (k ∷ ks) → FollowKeys ks
follow_rest k [] row = tt
follow_rest k (l ∷ ks) row = row.1

beside : (front back : List CasesRead) (left right : CasesRead) → FollowKeys (map key_of (front ++ left ∷ right ∷ back)) → last_of left.head + 1 ≡ first_of right.head
beside [] back left right row = row.0
beside (r ∷ front) back left right row = beside front back left right (follow_rest (key_of r) (map key_of (front ++ left ∷ right ∷ back)) row)

not_apart : {part : Bool} {texts : List (List ℕ)} {bytes : List ℕ} (left right : CasesRead) → AreJoinedCases part texts bytes → IsFirstApart texts left right → last_of left.head + 1 ≡ first_of right.head
not_apart left right h a =
    let rows = by_cuts_alike h a.by_cuts in
    let keys = rows ∙ ap (λ (rs : List CasesRead). map key_of rs) a.parted in
    beside a.front a.back left right (subst FollowKeys keys (follow_keyed h.row h.follow))

cases_first : (front back : List CasesRead) (r : CasesRead) → all_cases (front ++ r ∷ []) ≤ all_cases (front ++ r ∷ back)
cases_first front back r =
    let f : CasesRead → ℕ = λ s. s.totals.cases in
    let e1 = sum_by-append f front (r ∷ []) in
    let e2 = sum_by-append f front (r ∷ back) in
    let e3 = sum_by-cons f r [] in
    let e4 = sum_by-cons f r back in
    omega (arith, e1, e2, e3, e4)

not_many : {part : Bool} {texts : List (List ℕ)} {bytes : List ℕ} (read : CasesRead) → AreJoinedCases part texts bytes → IsFirstMany texts read → ⊥
not_many read h m =
    let rows = by_cuts_alike h m.by_cuts in
    let all : all_cases h.row ≡ all_cases m.row =
    sum_keyed (λ (k : CasesKey). k.totals.cases) h.row ∙ ap (λ (ks : List CasesKey). sum_by (λ (k : CasesKey). k.totals.cases) ks) rows ∙ sym (sum_keyed (λ (k : CasesKey). k.totals.cases) m.row) in
    let parted : all_cases m.row ≡ all_cases (m.front ++ read ∷ m.back) = ap all_cases m.parted in
    let some = cases_first m.front m.back read in
    let past = m.past in
    let few = h.few in
    omega (arith, all, parted, some, past, few)

not_short : {part : Bool} {texts : List (List ℕ)} {bytes : List ℕ} (file : ℕ) (h : AreJoinedCases part texts bytes) → part ≡ false → AreShortOfCuts texts file → ⊥
not_short file h asked s =
    let whole = h.whole asked in
    let rows = by_cuts_alike h s.by_cuts in
    let first = first_key h.row s.row h.first s.first rows h.begins s.begins in
    let last = last_key h.row s.row h.last s.last rows h.ends s.ends in
    let begins : first_of s.first.head ≡ 0 = ap start_of (sym first) ∙ whole.begins in
    let entries : h.last.head.entries ≡ s.last.head.entries = ap (λ (k : CasesKey). k.entries) last in
    let ends : last_of s.last.head ≡ s.last.head.entries = ap end_of (sym last) ∙ whole.ends ∙ entries in
    elim s.lacking [
      | inl (late, file_is) ↦ omega (arith, late, begins)
      | inr (none, early, file_is) ↦ early ends
    ]

pub cases_joined_or_refused : (part : Bool) (texts : List (List ℕ)) (bytes : List ℕ) (fault : CasesFault) → size_of texts ≤ 2 ^ 30 → AreJoinedCases part texts bytes → RefusesCases part texts fault
    → fault ≡ refused.Part (record { cause = cause.Memory; file = 0 })
cases_joined_or_refused part texts bytes _ short h (too_long file long) = absurd (not_long texts file short long)
cases_joined_or_refused part texts bytes _ short h (no_part file none) = absurd (not_none 0 texts h.reads file none.text h.each none.there none.other)
cases_joined_or_refused part texts bytes _ short h (of_other_run file foreign) = absurd (not_foreign file h foreign)
cases_joined_or_refused part texts bytes _ short h (with_gap left right apart gap) = absurd (let same = not_apart left right h apart in omega (arith, same, gap))
cases_joined_or_refused part texts bytes _ short h (with_overlap left right apart over) = absurd (let same = not_apart left right h apart in omega (arith, same, over))
cases_joined_or_refused part texts bytes _ short h (with_many read many) = absurd (not_many read h many)
cases_joined_or_refused part texts bytes _ short h (short_of_cuts file asked lacking) = absurd (not_short file h asked lacking)
cases_joined_or_refused part texts bytes _ short h no_memory = refl

-- WITH WHICH LINE A TEXT BEGINS

told_begins : (c : CasesValue) → take 14 (told_text c) ≡ codes "crash cases 1\n"
unfolding told_text
told_begins c = refl

pub text_begins : (text : List ℕ) (c : CasesValue) → IsCasesText text c → take 14 text ≡ codes "crash cases 1\n"
text_begins text c is = ap (λ (bs : List ℕ). take 14 bs) is.is ∙ told_begins c

pub cases_begin : (text : List ℕ) (r : CasesRead) → IsCasesPart text r → take 14 text ≡ codes "crash cases 1\n"
cases_begin text r part = text_begins text part.cases part.is

-- so does what they come to
pub joined_begin : (part : Bool) (texts : List (List ℕ)) (bytes : List ℕ) → AreJoinedCases part texts bytes → take 14 bytes ≡ codes "crash cases 1\n"
joined_begin part texts bytes h = ap (λ (bs : List ℕ). take 14 bs) h.is

-- a text of images begins otherwise
pub span_no_cases : (s : Span) (more : List ℕ) → take 14 (span_text s ++ more) ≢ codes "crash cases 1\n"
unfolding span_text
span_no_cases s more same = let bad : 112 ≡ 99 = ap (λ (bs : List ℕ). get_or bs 6 0) same in omega (arith, bad)

pub report_no_cases : (more : List ℕ) → take 14 (codes "crash report 2\n" ++ more) ≢ codes "crash cases 1\n"
report_no_cases more same = let bad : 114 ≡ 99 = ap (λ (bs : List ℕ). get_or bs 6 0) same in omega (arith, bad)

part_begins : (p : PartValue) → take 14 (part_text p) ≢ codes "crash cases 1\n"
unfolding part_text
part_begins p = span_no_cases p.span (p.head ++ findings_text p.first (p.span.to - p.span.from) p.lines)

pub part_no_cases : (text : List ℕ) (r : PartRead) → IsPartText text r → take 14 text ≢ codes "crash cases 1\n"
part_no_cases text r part same = part_begins part.part (sym (ap (λ (bs : List ℕ). take 14 bs) part.text) ∙ same)

-- what explore prints, of some images and of all
pub span_report_no_cases : (h : HeadValue) (s : Span) (ls : List FailingLine) → take 14 (span_report h s ls) ≢ codes "crash cases 1\n"
span_report_no_cases h s ls = span_no_cases s (report_options h ++ findings_text h.first (s.to - s.from) ls)

pub report_bytes_no_cases : (h : HeadValue) (ls : List FailingLine) → take 14 (report_bytes h ls) ≢ codes "crash cases 1\n"
unfolding report_bytes
report_bytes_no_cases h ls same = let bad : 114 ≡ 99 = ap (λ (bs : List ℕ). get_or bs 6 0) same in omega (arith, bad)

-- and what join makes of texts of images
pub joined_images_no_cases : (run : PartRead) (from to : ℕ) (ls : List FailingLine) → take 14 (joined_text run from to ls) ≢ codes "crash cases 1\n"
unfolding joined_text
joined_images_no_cases run from to ls = by_kind ((from == 0) && (to == run.span.images))
  where
    rest : List ℕ
    rest = run.head ++ findings_text run.first (to - from) ls

    by_kind : (b : Bool) → take 14 ((if b then codes "crash report 2\n" else span_text (span_between run from to)) ++ rest) ≢ codes "crash cases 1\n"
    by_kind true = report_no_cases rest
    by_kind false = span_no_cases (span_between run from to) rest

-- no text is one of images and one of cases
pub part_is_no_cases : (text : List ℕ) (r : PartRead) → IsPartText text r → NoCasesText text
part_is_no_cases text r part = record { none = λ c is. part_no_cases text r part (text_begins text c is) }

pub cases_is_no_part : (text : List ℕ) (r : CasesRead) → IsCasesPart text r → NoPartText text
cases_is_no_part text r cases = record { none = λ p is told. part_begins p (sym (ap (λ (bs : List ℕ). take 14 bs) told) ∙ cases_begin text r cases) }

-- a text that doesn't begin so isn't one of cases
pub no_cases_begin_so : (text : List ℕ) → take 14 text ≢ codes "crash cases 1\n" → NoCasesText text
no_cases_begin_so text other = record { none = λ c is. other (text_begins text c is) }

-- of texts that are joined all begin so, or none
pub all_begin : (n : ℕ) (ts : List (List ℕ)) (rs : List CasesRead) → AreCasesParts n ts rs → All (λ (t : List ℕ). take 14 t ≡ codes "crash cases 1\n") ts
all_begin n [] [] each = All-nil (λ (t : List ℕ). take 14 t ≡ codes "crash cases 1\n")
all_begin n [] (r ∷ rs) each = absurd each
all_begin n (t ∷ ts) [] each = absurd each
all_begin n (t ∷ ts) (r ∷ rs) each = All-cons (λ (u : List ℕ). take 14 u ≡ codes "crash cases 1\n") t ts (cases_begin t r each.0) (all_begin (n + 1) ts rs each.2)

pub none_begins : (n : ℕ) (ts : List (List ℕ)) (rs : List PartRead) → ArePartTexts n ts rs → All (λ (t : List ℕ). take 14 t ≢ codes "crash cases 1\n") ts
none_begins n [] [] each = All-nil (λ (t : List ℕ). take 14 t ≢ codes "crash cases 1\n")
none_begins n [] (r ∷ rs) each = absurd each
none_begins n (t ∷ ts) [] each = absurd each
none_begins n (t ∷ ts) (r ∷ rs) each = All-cons (λ (u : List ℕ). take 14 u ≢ codes "crash cases 1\n") t ts (part_no_cases t r each.0) (none_begins (n + 1) ts rs each.2)

no_two_kinds : (ts : List (List ℕ)) (rs : List CasesRead) (ss : List PartRead) → 0 < length ss → AreCasesParts 0 ts rs → ArePartTexts 0 ts ss → ⊥
no_two_kinds [] rs [] some cases images = omega (arith, some)
no_two_kinds [] rs (s ∷ ss) some cases images = absurd images
no_two_kinds (t ∷ ts) [] ss some cases images = absurd cases
no_two_kinds (t ∷ ts) (r ∷ rs) [] some cases images = absurd images
no_two_kinds (t ∷ ts) (r ∷ rs) (s ∷ ss) some cases images = part_no_cases t s images.0 (cases_begin t r cases.0)

pub images_or_cases : (part : Bool) (texts : List (List ℕ)) (bytes others : List ℕ) (failing : Bool) → AreJoinedCases part texts bytes → IsJoined texts others failing → ⊥
images_or_cases part texts bytes others failing h k =
    let long = length_permutation k.reads k.row k.order in
    let some = k.some in
    no_two_kinds texts h.reads k.reads (omega (arith, long, some)) h.each k.each
