-- What is found at the cuts of a run, in the segments that its ranges have.
use Rattle.std.proofs.Common.{ℕ, ◌≡◌, ◌+◌, ◌<◌, ◌≤◌, ◌==◌, ◌||◌, nat_lt, not, Bool, true, false, if◌then◌else◌, List, [], ◌∷◌, ◌++◌, length, map, find, Option, Some, refl, sym, ◌∙◌, ap, arith, inl, inr, append_assoc}
use Rattle.std.specs.List.{flat_map, sum_by}
use Rattle.std.specs.Option.{option_map_or}
use Rattle.std.proofs.lemmas.Bool.Decides.{nat_tests}
use Rattle.std.proofs.lemmas.Int.{clamps}
use Rattle.std.proofs.lemmas.List.Sums.{sum_by-cons, sum_by-append}
use Rattle.logfmt.specs.Bounds.{LogValue}
use Rattle.report.specs.Report.{HeadValue}
use Rattle.cases.specs.Laws.{IsAmong}
use Rattle.losses.specs.declared.found.Losses.{Losses}
use Rattle.losses.specs.declared.found.CaseFindings.{CaseFindings}
use Rattle.losses.specs.declared.found.CutFound.{CutFound}
use Rattle.losses.specs.FoundCases.{most_cases, cases_at, cases_in}
use Rattle.case_text.specs.Text.{in_word, inputs_told, all_found, count_cases, count_failing, fails_in, fails_at, is_any_failing}
use Rattle.join.specs.declared.case_parts.totals.CaseTotals.{CaseTotals}
use Rattle.join.specs.CaseTexts.{ToldCase, CasesValue, IsCasesText, told_text}
use Rattle.join.specs.CaseReading.{CasesRead, Each, SaysCases}
use Rattle.join.specs.CaseJoining.{AreCasesParts, head_between}
use Rattle.join.specs.CaseLaws.{CaseRun, AskedRange, cases_between, cuts_of_range}
use Rattle.commands.proofs.CaseOrder.{at_cut, cut_told, told_of_all, CutsRise}
use Rattle.commands.proofs.CasePrinted.{printed_cases, failing_in, programs_long, cases_counted}

-- WHAT IS FOUND AT A CUT

abbrev pub pick : ℕ → List CutFound → Option CutFound
pick k cs = find (λ (c : CutFound). c.cut == k) cs

later_cut : (n : ℕ) (cs : List CutFound) (c : CutFound) → CutsRise n cs → IsAmong cs c → n ≤ c.cut
later_cut n [] c rise among = absurd among
later_cut n (x ∷ cs) c rise (inl same) = let e = ap (λ (d : CutFound). d.cut) same in let low = rise.0 in omega (arith, e, low)
later_cut n (x ∷ cs) c rise (inr later) = let rest = later_cut (x.cut + 1) cs c rise.1 later in let low = rise.0 in omega (arith, rest, low)

pick_there : (n : ℕ) (cs : List CutFound) (c : CutFound) → CutsRise n cs → IsAmong cs c → pick c.cut cs ≡ Some c
pick_there n [] c rise among = absurd among
pick_there n (x ∷ cs) c rise (inl same) =
    let e : x.cut ≡ c.cut = ap (λ (d : CutFound). d.cut) same in
    let test : (x.cut == c.cut) ≡ true = grind (arith, nat_tests, e) in
    ap (λ (b : Bool). if b then Some x else pick c.cut cs) test ∙ ap (λ (d : CutFound). Some d) same
pick_there n (x ∷ cs) c rise (inr later) =
    let low = later_cut (x.cut + 1) cs c rise.1 later in
    let test : (x.cut == c.cut) ≡ false = grind (arith, nat_tests, low) in
    ap (λ (b : Bool). if b then Some x else pick c.cut cs) test ∙ pick_there (x.cut + 1) cs c rise.1 later

abbrev pub value_at : {A : Type 0} → (CutFound → A) → A → List CutFound → ℕ → A
value_at f none all k = option_map_or f (pick k all) none

value_is : {A : Type 0} (f : CutFound → A) (none : A) (all : List CutFound) (c : CutFound) → CutsRise 0 all → IsAmong all c → value_at f none all c.cut ≡ f c
value_is f none all c rise among = ap (λ (o : Option CutFound). option_map_or f o none) (pick_there 0 all c rise among)

abbrev pub cuts_found : List CutFound → List ℕ
cuts_found found = map (λ (c : CutFound). c.cut) found

lists_at : {A : Type 0} (f : CutFound → List A) (all seg : List CutFound) → CutsRise 0 all → Each (λ (c : CutFound). IsAmong all c) seg → flat_map (value_at f [] all) (cuts_found seg) ≡ flat_map f seg
lists_at f all [] rise each = refl
lists_at f all (c ∷ seg) rise each =
    let one = value_is f [] all c rise each.0 in
    let rest = lists_at f all seg rise each.1 in
    λ i. one i ++ rest i

sums_at : (f : CutFound → ℕ) (all seg : List CutFound) → CutsRise 0 all → Each (λ (c : CutFound). IsAmong all c) seg → sum_by (value_at f 0 all) (cuts_found seg) ≡ sum_by f seg
sums_at f all [] rise each = refl
sums_at f all (c ∷ seg) rise each =
    let one = value_is f 0 all c rise each.0 in
    let rest = sums_at f all seg rise each.1 in
    let left = sum_by-cons (value_at f 0 all) c.cut (cuts_found seg) in
    let right = sum_by-cons f c seg in
    omega (arith, one, rest, left, right)

-- what is counted at the cuts, program by program
pub sum_of_cuts : (g : CaseFindings → ℕ) (found : List CutFound) → sum_by (λ (c : CutFound). sum_by g c.programs.items) found ≡ sum_by g (all_found found)
sum_of_cuts g [] = refl
sum_of_cuts g (c ∷ found) =
    let rest = sum_of_cuts g found in
    let one = sum_by-append g c.programs.items (all_found found) in
    let two = sum_by-cons (λ (d : CutFound). sum_by g d.programs.items) c found in
    omega (arith, rest, one, two)

-- A RUN BY ITS CUTS

abbrev pub run_over : ℕ → HeadValue → Losses → (ℕ → ℕ → List ℕ) → LogValue → List CutFound → CaseRun
run_over inputs h asked cuts log all = record {
  inputs = inputs;
  head = h;
  asked = asked;
  cuts = cuts;
  told = λ k. value_at (cut_told log h.by asked.tears) [] all k;
  cases = λ k. value_at (λ (c : CutFound). cases_at c.programs.items) 0 all k;
  torn = λ k. value_at (λ (c : CutFound). sum_by (λ (f : CaseFindings). f.torn_beyond) c.programs.items) 0 all k;
  lost = λ k. value_at (λ (c : CutFound). sum_by (λ (f : CaseFindings). f.lost_beyond) c.programs.items) 0 all k;
}

length_at : (h : HeadValue) (asked : Losses) (log : LogValue) (all seg : List CutFound) → CutsRise 0 all → Each (λ (c : CutFound). IsAmong all c) seg
    → sum_by (λ (k : ℕ). length (value_at (cut_told log h.by asked.tears) [] all k)) (cuts_found seg) ≡ sum_by (λ (c : CutFound). sum_by failing_in c.programs.items) seg
length_at h asked log all [] rise each = refl
length_at h asked log all (c ∷ seg) rise each =
    let one = ap (λ (ts : List ToldCase). length ts) (value_is (cut_told log h.by asked.tears) [] all c rise each.0) in
    let long = programs_long (at_cut log h.by c.cut) asked.tears 0 c.programs.items in
    let rest = length_at h asked log all seg rise each.1 in
    let left = sum_by-cons (λ (k : ℕ). length (value_at (cut_told log h.by asked.tears) [] all k)) c.cut (cuts_found seg) in
    let right = sum_by-cons (λ (d : CutFound). sum_by failing_in d.programs.items) c seg in
    omega (arith, one, long, rest, left, right)

cuts_long : (found : List CutFound) → length (cuts_found found) ≡ length found
cuts_long [] = refl
cuts_long (c ∷ found) = let rest = cuts_long found in omega (arith, rest)

-- of a range that has the cuts of a segment it has what is found there
pub between_is : (inputs : ℕ) (h : HeadValue) (asked : Losses) (cuts : ℕ → ℕ → List ℕ) (log : LogValue) (all : List CutFound) (x : AskedRange) (seg : List CutFound) → CutsRise 0 all
    → Each (λ (c : CutFound). IsAmong all c) seg → cuts_of_range (run_over inputs h asked cuts log all) x ≡ cuts_found seg
    → cases_between (run_over inputs h asked cuts log all) x ≡ printed_cases inputs (head_between h x.from x.to) asked log seg
between_is inputs h asked cuts log all x seg rise each are =
    let r : CaseRun = run_over inputs h asked cuts log all in
    let told : flat_map r.told (cuts_of_range r x) ≡ told_of_all log h.by asked.tears seg = ap (λ (ks : List ℕ). flat_map r.told ks) are ∙ lists_at (cut_told log h.by asked.tears) all seg rise each in
    let count : length (cuts_of_range r x) ≡ length seg = ap (λ (ks : List ℕ). length ks) are ∙ cuts_long seg in
    let cases : sum_by r.cases (cuts_of_range r x) ≡ sum_by (λ (f : CaseFindings). f.cases) (all_found seg) =
    ap (λ (ks : List ℕ). sum_by r.cases ks) are ∙ sums_at (λ (c : CutFound). cases_at c.programs.items) all seg rise each ∙ sum_of_cuts (λ (f : CaseFindings). f.cases) seg in
    let failing : sum_by (λ (k : ℕ). length (r.told k)) (cuts_of_range r x) ≡ sum_by failing_in (all_found seg) =
    ap (λ (ks : List ℕ). sum_by (λ (k : ℕ). length (r.told k)) ks) are ∙ length_at h asked log all seg rise each ∙ sum_of_cuts failing_in seg in
    let torn : sum_by r.torn (cuts_of_range r x) ≡ sum_by (λ (f : CaseFindings). f.torn_beyond) (all_found seg) =
    ap (λ (ks : List ℕ). sum_by r.torn ks) are ∙ sums_at (λ (c : CutFound). sum_by (λ (f : CaseFindings). f.torn_beyond) c.programs.items) all seg rise each ∙ sum_of_cuts (λ (f : CaseFindings). f.torn_beyond) seg in
    let lost : sum_by r.lost (cuts_of_range r x) ≡ sum_by (λ (f : CaseFindings). f.lost_beyond) (all_found seg) =
    ap (λ (ks : List ℕ). sum_by r.lost ks) are ∙ sums_at (λ (c : CutFound). sum_by (λ (f : CaseFindings). f.lost_beyond) c.programs.items) all seg rise each ∙ sum_of_cuts (λ (f : CaseFindings). f.lost_beyond) seg in
    λ i. record {
      inputs = inputs_told (head_between h x.from x.to).cuts inputs;
      head = head_between h x.from x.to;
      asked = asked;
      told = told i;
      totals = record {
        cuts = count i;
        cases = in_word (cases i);
        failing = in_word (failing i);
        torn = in_word (torn i);
        lost = in_word (lost i);
      };
    }

-- SEGMENTS

abbrev pub joined_of : List (List CutFound) → List CutFound
joined_of [] = []
joined_of (seg ∷ segs) = seg ++ joined_of segs

among_front : (xs ys : List CutFound) (c : CutFound) → IsAmong xs c → IsAmong (xs ++ ys) c
among_front [] ys c among = absurd among
among_front (x ∷ xs) ys c (inl same) = inl same
among_front (x ∷ xs) ys c (inr later) = inr (among_front xs ys c later)

among_back : (xs ys : List CutFound) (c : CutFound) → IsAmong ys c → IsAmong (xs ++ ys) c
among_back [] ys c among = among
among_back (x ∷ xs) ys c among = inr (among_back xs ys c among)

each_own : (xs : List CutFound) → Each (λ (c : CutFound). IsAmong xs c) xs
each_own [] = tt
each_own (x ∷ xs) = (inl refl, later xs (each_own xs))
  where
    later : (ys : List CutFound) → Each (λ (c : CutFound). IsAmong xs c) ys → Each (λ (c : CutFound). IsAmong (x ∷ xs) c) ys
    later [] each = tt
    later (y ∷ ys) each = (inr each.0, later ys each.1)

pub all_own : (all : List CutFound) → Each (λ (c : CutFound). IsAmong all c) all
all_own all = each_own all

abbrev pub EachAmong : List CutFound → List (List CutFound) → Type 0
EachAmong all [] = Unit {0}
EachAmong all (seg ∷ segs) = Each (λ (c : CutFound). IsAmong all c) seg × EachAmong all segs

moved_front : (xs ys seg : List CutFound) → Each (λ (c : CutFound). IsAmong xs c) seg → Each (λ (c : CutFound). IsAmong (xs ++ ys) c) seg
moved_front xs ys [] each = tt
moved_front xs ys (c ∷ seg) each = (among_front xs ys c each.0, moved_front xs ys seg each.1)

moved_back : (xs ys seg : List CutFound) → Each (λ (c : CutFound). IsAmong ys c) seg → Each (λ (c : CutFound). IsAmong (xs ++ ys) c) seg
moved_back xs ys [] each = tt
moved_back xs ys (c ∷ seg) each = (among_back xs ys c each.0, moved_back xs ys seg each.1)

all_back : (xs ys : List CutFound) (segs : List (List CutFound)) → EachAmong ys segs → EachAmong (xs ++ ys) segs
all_back xs ys [] each = tt
all_back xs ys (seg ∷ segs) each = (moved_back xs ys seg each.0, all_back xs ys segs each.1)

pub segments_among : (segs : List (List CutFound)) → EachAmong (joined_of segs) segs
segments_among [] = tt
segments_among (seg ∷ segs) = (moved_front seg (joined_of segs) seg (each_own seg), all_back seg (joined_of segs) segs (segments_among segs))

pub cuts_joined : (xs ys : List CutFound) → cuts_found (xs ++ ys) ≡ cuts_found xs ++ cuts_found ys
cuts_joined [] ys = refl
cuts_joined (x ∷ xs) ys = ap (λ (ks : List ℕ). x.cut ∷ ks) (cuts_joined xs ys)

pub found_joined : (xs ys : List CutFound) → all_found (xs ++ ys) ≡ all_found xs ++ all_found ys
found_joined [] ys = refl
found_joined (x ∷ xs) ys =
    ap (λ (fs : List CaseFindings). x.programs.items ++ fs) (found_joined xs ys) ∙ sym (append_assoc x.programs.items (all_found xs) (all_found ys))

-- each range has the cuts of its segment, and has no more cases than a run may have
abbrev pub HaveSegments : CaseRun → List AskedRange → List (List CutFound) → Type 0
HaveSegments r [] [] = Unit {0}
HaveSegments r [] (seg ∷ segs) = ⊥
HaveSegments r (x ∷ xs) [] = ⊥
HaveSegments r (x ∷ xs) (seg ∷ segs) = (cuts_of_range r x ≡ cuts_found seg) × (cases_in seg ≤ most_cases) × HaveSegments r xs segs

pub cuts_all : (r : CaseRun) (xs : List AskedRange) (segs : List (List CutFound)) → HaveSegments r xs segs → flat_map (cuts_of_range r) xs ≡ cuts_found (joined_of segs)
cuts_all r [] [] have = refl
cuts_all r [] (seg ∷ segs) have = absurd have
cuts_all r (x ∷ xs) [] have = absurd have
cuts_all r (x ∷ xs) (seg ∷ segs) have =
    let rest = cuts_all r xs segs have.2 in
    (λ i. have.0 i ++ rest i) ∙ sym (cuts_joined seg (joined_of segs))

-- WHAT READERS OF THE TEXTS COUNT

abbrev pub text_of : CaseRun → AskedRange → List ℕ
text_of r x = told_text (cases_between r x)

abbrev pub ArePrintedRanges : CaseRun → List AskedRange → Type 0
ArePrintedRanges r xs = Each (λ (x : AskedRange). IsCasesText (text_of r x) (cases_between r x)) xs

reads_say : (f : CaseTotals → ℕ) (r : CaseRun) (n : ℕ) (xs : List AskedRange) (rs : List CasesRead) → AreCasesParts n (map (text_of r) xs) rs → ArePrintedRanges r xs
    → sum_by (λ (s : CasesRead). f s.totals) rs ≡ sum_by (λ (x : AskedRange). f (cases_between r x).totals) xs
reads_say f r n [] [] each printed = refl
reads_say f r n [] (s ∷ rs) each printed = absurd each
reads_say f r n (x ∷ xs) [] each printed = absurd each
reads_say f r n (x ∷ xs) (s ∷ rs) each printed =
    let says : SaysCases (cases_between r x) s = each.0.only (cases_between r x) printed.0 in
    let own : f s.totals ≡ f (cases_between r x).totals = ap f says.totals in
    let rest = reads_say f r (n + 1) xs rs each.2 printed.1 in
    let left = sum_by-cons (λ (t : CasesRead). f t.totals) s rs in
    let right = sum_by-cons (λ (y : AskedRange). f (cases_between r y).totals) x xs in
    omega (arith, own, rest, left, right)

as_it_is : (n : ℕ) → n ≤ most_cases → in_word n ≡ n
as_it_is n few = omega (arith, clamps, few)

-- a segment is counted so
record IsCounted (inputs : ℕ) (h : HeadValue) (asked : Losses) (cuts : ℕ → ℕ → List ℕ) (log : LogValue) (all : List CutFound) (x : AskedRange) (seg : List CutFound) : Type 0 where
  cases : (cases_between (run_over inputs h asked cuts log all) x).totals.cases ≡ cases_in seg
  failing : (cases_between (run_over inputs h asked cuts log all) x).totals.failing ≡ sum_by failing_in (all_found seg)

-- in each segment no more cases fail than there are
abbrev pub FewFail : List (List CutFound) → Type 0
FewFail [] = Unit {0}
FewFail (seg ∷ segs) = (sum_by failing_in (all_found seg) ≤ cases_in seg) × FewFail segs

counted : (inputs : ℕ) (h : HeadValue) (asked : Losses) (cuts : ℕ → ℕ → List ℕ) (log : LogValue) (all : List CutFound) (x : AskedRange) (seg : List CutFound) → CutsRise 0 all → Each (λ (c : CutFound). IsAmong all c) seg
    → cuts_of_range (run_over inputs h asked cuts log all) x ≡ cuts_found seg → cases_in seg ≤ most_cases → sum_by failing_in (all_found seg) ≤ cases_in seg → IsCounted inputs h asked cuts log all x seg
counted inputs h asked cuts log all x seg rise each are few less =
    let same : cases_between (run_over inputs h asked cuts log all) x ≡ printed_cases inputs (head_between h x.from x.to) asked log seg = between_is inputs h asked cuts log all x seg rise each are in
    let one : (cases_between (run_over inputs h asked cuts log all) x).totals.cases ≡ count_cases seg = ap (λ (c : CasesValue). c.totals.cases) same in
    let two : (cases_between (run_over inputs h asked cuts log all) x).totals.failing ≡ count_failing seg = ap (λ (c : CasesValue). c.totals.failing) same in
    record {
      cases = one ∙ ap in_word (cases_counted seg) ∙ as_it_is (cases_in seg) few;
      failing = two ∙ as_it_is (sum_by failing_in (all_found seg)) (omega (arith, few, less));
    }

sum_cases : (inputs : ℕ) (h : HeadValue) (asked : Losses) (cuts : ℕ → ℕ → List ℕ) (log : LogValue) (all : List CutFound) (xs : List AskedRange) (segs : List (List CutFound)) → CutsRise 0 all → EachAmong all segs
    → HaveSegments (run_over inputs h asked cuts log all) xs segs → FewFail segs → sum_by (λ (x : AskedRange). (cases_between (run_over inputs h asked cuts log all) x).totals.cases) xs ≡ cases_in (joined_of segs)
sum_cases inputs h asked cuts log all [] [] rise among have less = refl
sum_cases inputs h asked cuts log all [] (seg ∷ segs) rise among have less = absurd have
sum_cases inputs h asked cuts log all (x ∷ xs) [] rise among have less = absurd have
sum_cases inputs h asked cuts log all (x ∷ xs) (seg ∷ segs) rise among have less =
    let own = (counted inputs h asked cuts log all x seg rise among.0 have.0 have.1 less.0).cases in
    let rest = sum_cases inputs h asked cuts log all xs segs rise among.1 have.2 less.1 in
    let left = sum_by-cons (λ (y : AskedRange). (cases_between (run_over inputs h asked cuts log all) y).totals.cases) x xs in
    let right = sum_by-append (λ (c : CutFound). cases_at c.programs.items) seg (joined_of segs) in
    omega (arith, own, rest, left, right)

sum_failing : (inputs : ℕ) (h : HeadValue) (asked : Losses) (cuts : ℕ → ℕ → List ℕ) (log : LogValue) (all : List CutFound) (xs : List AskedRange) (segs : List (List CutFound)) → CutsRise 0 all → EachAmong all segs
    → HaveSegments (run_over inputs h asked cuts log all) xs segs → FewFail segs
    → sum_by (λ (x : AskedRange). (cases_between (run_over inputs h asked cuts log all) x).totals.failing) xs ≡ sum_by failing_in (all_found (joined_of segs))
sum_failing inputs h asked cuts log all [] [] rise among have less = refl
sum_failing inputs h asked cuts log all [] (seg ∷ segs) rise among have less = absurd have
sum_failing inputs h asked cuts log all (x ∷ xs) [] rise among have less = absurd have
sum_failing inputs h asked cuts log all (x ∷ xs) (seg ∷ segs) rise among have less =
    let own = (counted inputs h asked cuts log all x seg rise among.0 have.0 have.1 less.0).failing in
    let rest = sum_failing inputs h asked cuts log all xs segs rise among.1 have.2 less.1 in
    let left = sum_by-cons (λ (y : AskedRange). (cases_between (run_over inputs h asked cuts log all) y).totals.failing) x xs in
    let right = ap (λ (fs : List CaseFindings). sum_by failing_in fs) (found_joined seg (joined_of segs)) ∙ sum_by-append failing_in (all_found seg) (all_found (joined_of segs)) in
    omega (arith, own, rest, left, right)

-- all that is read of the texts of ranges with these segments
pub record AreCounted (all : List CutFound) (rs : List CasesRead) : Type 0 where
  pub cases : sum_by (λ (s : CasesRead). s.totals.cases) rs ≡ cases_in all
  pub failing : sum_by (λ (s : CasesRead). s.totals.failing) rs ≡ sum_by failing_in (all_found all)

pub reads_counted : (inputs : ℕ) (h : HeadValue) (asked : Losses) (cuts : ℕ → ℕ → List ℕ) (log : LogValue) (xs : List AskedRange) (segs : List (List CutFound)) (rs : List CasesRead) → CutsRise 0 (joined_of segs)
    → HaveSegments (run_over inputs h asked cuts log (joined_of segs)) xs segs → FewFail segs → AreCasesParts 0 (map (text_of (run_over inputs h asked cuts log (joined_of segs))) xs) rs
    → ArePrintedRanges (run_over inputs h asked cuts log (joined_of segs)) xs → AreCounted (joined_of segs) rs
reads_counted inputs h asked cuts log xs segs rs rise have less each printed =
    let all : List CutFound = joined_of segs in
    let r : CaseRun = run_over inputs h asked cuts log all in
    record {
      cases = reads_say (λ (t : CaseTotals). t.cases) r 0 xs rs each printed ∙ sum_cases inputs h asked cuts log all xs segs rise (segments_among segs) have less;
      failing = reads_say (λ (t : CaseTotals). t.failing) r 0 xs rs each printed ∙ sum_failing inputs h asked cuts log all xs segs rise (segments_among segs) have less;
    }

-- WHETHER A CASE FAILS

or_so : (a b : ℕ) → (nat_lt 0 a || nat_lt 0 b) ≡ nat_lt 0 (a + b)
or_so a b = by_test (nat_lt 0 a) refl (nat_lt 0 b) refl
  where
    by_test : (s : Bool) → nat_lt 0 a ≡ s → (t : Bool) → nat_lt 0 b ≡ t → (s || t) ≡ nat_lt 0 (a + b)
    by_test true e t f = let some : 0 < a = grind (arith, nat_tests, e) in let more : 0 < a + b = omega (arith, some) in let test : nat_lt 0 (a + b) ≡ true = grind (arith, nat_tests, more) in sym test
    by_test false e true f = let some : 0 < b = grind (arith, nat_tests, f) in let more : 0 < a + b = omega (arith, some) in let test : nat_lt 0 (a + b) ≡ true = grind (arith, nat_tests, more) in sym test
    by_test false e false f =
        let none : a ≤ 0 = grind (arith, nat_tests, e) in
        let also : b ≤ 0 = grind (arith, nat_tests, f) in
        let all : a + b ≤ 0 = omega (arith, none, also) in
        let test : nat_lt 0 (a + b) ≡ false = grind (arith, nat_tests, all) in
        sym test

one_fails : (f : CaseFindings) → fails_in f ≡ nat_lt 0 (length f.failing.items)
one_fails f = by_length (length f.failing.items)
  where
    by_length : (n : ℕ) → not (n == 0) ≡ nat_lt 0 n
    by_length n = by_test (n == 0) refl
      where
        by_test : (b : Bool) → (n == 0) ≡ b → not b ≡ nat_lt 0 n
        by_test true e = let none : n ≡ 0 = grind (arith, nat_tests, e) in let test : nat_lt 0 n ≡ false = grind (arith, nat_tests, none) in sym test
        by_test false e = let some : 0 < n = grind (arith, nat_tests, e) in let test : nat_lt 0 n ≡ true = grind (arith, nat_tests, some) in sym test

some_fail : (fs : List CaseFindings) → fails_at fs ≡ nat_lt 0 (sum_by failing_in fs)
some_fail [] = refl
some_fail (f ∷ fs) =
    let one = one_fails f in
    let rest = some_fail fs in
    (λ i. one i || rest i) ∙ or_so (failing_in f) (sum_by failing_in fs) ∙ ap (λ (n : ℕ). nat_lt 0 n) (sym (sum_by-cons failing_in f fs))

pub any_counted : (found : List CutFound) → is_any_failing found ≡ nat_lt 0 (sum_by failing_in (all_found found))
any_counted [] = refl
any_counted (c ∷ found) =
    let one = some_fail c.programs.items in
    let rest = any_counted found in
    (λ i. one i || rest i) ∙ or_so (sum_by failing_in c.programs.items) (sum_by failing_in (all_found found)) ∙ ap (λ (n : ℕ). nat_lt 0 n) (sym (sum_by-append failing_in c.programs.items (all_found found)))
