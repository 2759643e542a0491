-- What is told of cases is one, of all that fail and of the first alone; and where it is told, it isn't refused.
use Rattle.std.proofs.Common.{ℕ, zero, suc, ◌≡◌, ◌+◌, ◌<◌, ◌≤◌, ◌==◌, ◌||◌, ◌⊎◌, inl, inr, Bool, true, false, not, List, [], ◌∷◌, ◌++◌, length, map, take, slice_get, None, Some, refl, sym, ◌∙◌, ap, subst, arith}
use Rattle.std.specs.Prelude.{All}
use Rattle.std.specs.List.{list_any}
use Rattle.std.proofs.lemmas.Bool.{false≢true}
use Rattle.std.proofs.lemmas.Bool.Decides.{eqb_tells}
use Rattle.std.proofs.lemmas.List.{length-take-le}
use Rattle.std.proofs.lemmas.List.Sums.{sum_by-cons}
use Rattle.std.proofs.lemmas.Option.{slice_get_within, slice_get_cases, get_or_from_slice_get, same_Some}
use Rattle.logfmt.specs.Bounds.{LogValue}
use Rattle.logfmt.specs.Laws.{TextOfOneLog}
use Rattle.epochs.specs.declared.part.By.{By}
use Rattle.bpf_isa.specs.Laws.{OneProgram}
use Rattle.verifier.specs.Laws.{OneVerdict}
use Rattle.checker.specs.Checker.{CheckerValue}
use Rattle.report.specs.Report.{HeadValue}
use Rattle.cases.specs.AtCut.{CutValue}
use Rattle.losses.specs.declared.found.Losses.{Losses}
use Rattle.losses.specs.declared.found.CaseFindings.{CaseFindings}
use Rattle.losses.specs.declared.found.CutFound.{CutFound}
use Rattle.losses.specs.declared.found.FirstCase.{FirstCase}
use Rattle.losses.specs.declared.found.FailingCase.{FailingCase}
use Rattle.losses.specs.FoundCases.{cases_at, cases_in}
use Rattle.case_runs.specs.Found.{IsFoundAt, AreFoundAt, AreFoundIn, AreFirstAt, AreFirstIn, IsBegunAt, IsPastAt, AreTooMany, KnownCase, known_case, FindingIsOne}
use Rattle.case_runs.specs.First.{NoneFailsAt, NoneFails, FailsFirst, PassesMost, FailsFirstAt, PassesMostAt, IsFirstFailing, PassesMostIn, FirstIsOne}
use Rattle.case_text.specs.Text.{head_text, case_line, fails_in, fails_at, is_any_failing}
use Rattle.case_text.specs.First.{first_text, first_bytes}
use Rattle.request.specs.declared.any_losses.AnyLosses.{AnyLosses}
use Rattle.request.specs.declared.settings.CaseTelling.{CaseTelling}
use Rattle.request.specs.declared.settings.CaseTelling.TheVariants as telling
use Rattle.request.specs.declared.settings.Settings.{Settings}
use Rattle.request.specs.Source.{Recording}
use Rattle.case_runs.specs.Cuts.{case_cuts}
use Rattle.runs.specs.CaseCuts.{losses_of, AreMore}
use Rattle.request.specs.Inputs.{inputs_number}
use Rattle.runs.specs.Cases.{IsTextOf, TellsCases, TellsFirst, of_first, of_none, TellsLosses, IsByCases, IsLosses}
use Rattle.runs.specs.Explore.{head_of}
use Rattle.runs.specs.Why.{with_first}
use Rattle.commands.proofs.OneReport.{same_log, same_checkers}
use Rattle.commands.proofs.OneCases.{cut_value, CutsSame, each_same, cuts_same, known_line, sum_each, any_same, bytes_same, why_same, first_at, first_in, there_too, past_at, not_too_many}
use Rattle.commands.proofs.OneCasePage.{page_same}

-- what is found of cases is one
pub record CasesAreOne : Type 0 where
  pub findings : FindingIsOne
  pub first : FirstIsOne

-- numbers stand in order
three : (m n : ℕ) → (m < n) ⊎ ((m ≡ n) ⊎ (n < m))
three zero zero = inr (inl refl)
three zero (suc n) = inl (omega arith)
three (suc m) zero = inr (inr (omega arith))
three (suc m) (suc n) = elim (three m n) [
  | inl less ↦ inl (omega (arith, less))
  | inr rest ↦ elim rest [ inl same ↦ inr (inl (ap suc same)) | inr more ↦ inr (inr (omega (arith, more))) ]
]

-- what holds of all holds of one; of as many as a list has there is each
all_there : {X : Type 0} (P : X → Type 0) (xs : List X) (i : ℕ) (x : X) → All P xs → slice_get xs i ≡ Some x → P x
all_there P xs i x all there = subst P (get_or_from_slice_get xs i x x there) (all i x (slice_get_within xs i x there))

there_at : {X : Type 0} (xs : List X) (i : ℕ) → i < length xs → (x : X) × (slice_get xs i ≡ Some x)
there_at xs i low = elim (slice_get_cases xs i).1 [
  | inl a ↦ (a.0, a.2)
  | inr past ↦ let end = past.0 in absurd (omega (arith, low, end))
]

-- an element of the first n
taken : {X : Type 0} (n : ℕ) (xs : List X) (i : ℕ) (x : X) → slice_get xs i ≡ Some x → i < n → slice_get (take n xs) i ≡ Some x
taken zero xs i x there few = absurd (omega (arith, few))
taken (suc n) [] i x there few = there
taken (suc n) (y ∷ ys) zero x there few = there
taken (suc n) (y ∷ ys) (suc i) x there few = taken n ys i x there (omega (arith, few))

of_taken : {X : Type 0} (n : ℕ) (xs : List X) (i : ℕ) (x : X) → slice_get (take n xs) i ≡ Some x → slice_get xs i ≡ Some x
of_taken zero xs i x there = absurd (let bad : None ≡ Some x = there in cc)
of_taken (suc n) [] i x there = there
of_taken (suc n) (y ∷ ys) zero x there = there
of_taken (suc n) (y ∷ ys) (suc i) x there = of_taken n ys i x there

-- what was found with the first checkers is all that is found with these
all_at : (asked : Losses) (at : CutValue) (checkers : List CheckerValue) (n : ℕ) (found : List CaseFindings) → AreFirstAt asked at checkers n found → n ≤ length checkers
    → AreFoundAt asked at (take n checkers) found
all_at asked at checkers n found so few = record {
  count = so.count ∙ sym (length-take-le n checkers few);
  each = λ i c f one two. so.each i c f (of_taken n checkers i c one) two;
}

some_at : (asked : Losses) (at : CutValue) (checkers : List CheckerValue) (m n : ℕ) (found : List CaseFindings) → AreFirstAt asked at checkers n found → AreFirstAt asked at (take m checkers) n found
some_at asked at checkers m n found so = record { count = so.count; each = λ i c f one two. so.each i c f (of_taken m checkers i c one) two }

all_in : (asked : Losses) (log : LogValue) (way : By) (cuts : List ℕ) (checkers : List CheckerValue) (n : ℕ) (found : List CutFound) → AreFirstIn asked log way cuts checkers n found
    → n ≤ length cuts → AreFoundIn asked log way (take n cuts) checkers found
all_in asked log way cuts checkers n found so few = record {
  count = so.count ∙ sym (length-take-le n cuts few);
  cut = λ i k f one two. so.cut i k f (of_taken n cuts i k one) two;
  each = λ i k f one two. so.each i k f (of_taken n cuts i k one) two;
}

some_in : (asked : Losses) (log : LogValue) (way : By) (cuts : List ℕ) (checkers : List CheckerValue) (m n : ℕ) (found : List CutFound) → AreFirstIn asked log way cuts checkers n found
    → AreFirstIn asked log way (take m cuts) checkers n found
some_in asked log way cuts checkers m n found so = record {
  count = so.count;
  cut = λ i k f one two. so.cut i k f (of_taken m cuts i k one) two;
  each = λ i k f one two. so.each i k f (of_taken m cuts i k one) two;
}

-- how many cases were found is one

at_once : FindingIsOne → (asked : Losses) (at : CutValue) (checkers : List CheckerValue) (n : ℕ) (fs gs : List CaseFindings) → AreFirstAt asked at checkers n fs → AreFirstAt asked at checkers n gs
    → n ≤ length checkers → cases_at fs ≡ cases_at gs
at_once one asked at checkers n fs gs a b few =
    sum_each (λ (f : CaseFindings). f.cases) (λ at t f g s. s.cases) at asked.tears fs gs
    (each_same one asked at (take n checkers) fs gs (all_at asked at checkers n fs a few) (all_at asked at checkers n gs b few))

cuts_once : (log : LogValue) (way : By) (tears : Bool) (ls ms : List CutFound) → CutsSame log way tears ls ms → cases_in ls ≡ cases_in ms
cuts_once log way tears [] [] same = refl
cuts_once log way tears [] (d ∷ ds) same = absurd same
cuts_once log way tears (c ∷ cs) [] same = absurd same
cuts_once log way tears (c ∷ cs) (d ∷ ds) same =
    let own = sum_each (λ (f : CaseFindings). f.cases) (λ at t f g s. s.cases) (cut_value log way c.cut) tears c.programs.items d.programs.items same.1 in
    let rest = cuts_once log way tears cs ds same.2 in
    sum_by-cons (λ (x : CutFound). cases_at x.programs.items) c cs ∙ (λ i. own i + rest i) ∙ sym (sum_by-cons (λ (x : CutFound). cases_at x.programs.items) d ds)

in_once : FindingIsOne → (asked : Losses) (log : LogValue) (way : By) (cuts : List ℕ) (checkers : List CheckerValue) (n : ℕ) (ls ms : List CutFound)
    → AreFirstIn asked log way cuts checkers n ls → AreFirstIn asked log way cuts checkers n ms → n ≤ length cuts → cases_in ls ≡ cases_in ms
in_once one asked log way cuts checkers n ls ms a b few =
    cuts_once log way asked.tears ls ms
    (cuts_same one asked log way (take n cuts) checkers ls ms (all_in asked log way cuts checkers n ls a few) (all_in asked log way cuts checkers n ms b few))

-- the first failing case isn't among those of which none fails

none_told : (at : CutValue) (tears : Bool) (items : List FailingCase) (k : KnownCase) (ks : List KnownCase) → items ≡ [] → map (known_case at tears) items ≡ k ∷ ks → ⊥
none_told at tears items k ks none told = let bad : [] ≡ k ∷ ks = sym (ap (map (known_case at tears)) none) ∙ told in cc

not_found : FirstIsOne → (asked : Losses) (at : CutValue) (checker : CheckerValue) (f : FailingCase) (found : CaseFindings) → FailsFirst asked at checker f → IsFoundAt asked at checker found
    → found.failing.items ≡ [] → ⊥
not_found one asked at checker f found fails are none =
    let told = one.found asked at checker f found fails are in
    none_told at asked.tears found.failing.items (known_case at asked.tears f) told.0 none told.1

not_at : FirstIsOne → (asked : Losses) (at : CutValue) (checkers : List CheckerValue) (left : ℕ) (first : FirstCase) (n : ℕ) (found : List CaseFindings)
    → FailsFirstAt asked at checkers left first → AreFirstAt asked at checkers n found → NoneFailsAt found → first.program < n → ⊥
not_at one asked at checkers left first n found fails are none low =
    let count = are.count in
    let there = there_at found first.program (omega (arith, count, low)) in
    not_found one asked at fails.checker first.case there.0 fails.fails (are.each first.program fails.checker there.0 fails.own there.1)
    (all_there (λ (g : CaseFindings). g.failing.items ≡ []) found first.program there.0 none there.1)

not_among : FirstIsOne → (asked : Losses) (at : CutValue) (checkers : List CheckerValue) (left : ℕ) (first : FirstCase) (found : List CaseFindings)
    → FailsFirstAt asked at checkers left first → AreFoundAt asked at checkers found → NoneFailsAt found → ⊥
not_among one asked at checkers left first found fails are none =
    let there = there_too checkers found first.program fails.checker are.count fails.own in
    not_found one asked at fails.checker first.case there.0 fails.fails (are.each first.program fails.checker there.0 fails.own there.1)
    (all_there (λ (g : CaseFindings). g.failing.items ≡ []) found first.program there.0 none there.1)

not_in : FirstIsOne → (asked : Losses) (log : LogValue) (way : By) (cuts : List ℕ) (checkers : List CheckerValue) (first : FirstCase) (n : ℕ) (found : List CutFound)
    → (a : IsFirstFailing asked log way cuts checkers first) → AreFirstIn asked log way cuts checkers n found → NoneFails found → a.place < n → ⊥
not_in one asked log way cuts checkers first n found a are none low =
    let count = are.count in
    let there = there_at found a.place (omega (arith, count, low)) in
    not_among one asked (cut_value log way first.cut) checkers a.rest first there.0.programs.items a.fails (are.each a.place first.cut there.0 a.own there.1)
    (all_there (λ (c : CutFound). NoneFailsAt c.programs.items) found a.place there.0 none there.1)

-- nor is it where all were found, and none fails

or_left : (a b : Bool) → (a || b) ≡ false → a ≡ false
or_left false b h = refl
or_left true b h = absurd (false≢true (sym h))

or_right : (a b : Bool) → (a || b) ≡ false → b ≡ false
or_right false b h = h
or_right true b h = absurd (false≢true (sym h))

any_at : {X : Type 0} (p : X → Bool) (xs : List X) (i : ℕ) (x : X) → list_any p xs ≡ false → slice_get xs i ≡ Some x → p x ≡ false
any_at p [] i x none there = absurd (let bad : None ≡ Some x = there in cc)
any_at p (y ∷ ys) zero x none there = ap p (sym (same_Some y x there)) ∙ or_left (p y) (list_any p ys) none
any_at p (y ∷ ys) (suc i) x none there = any_at p ys i x (or_right (p y) (list_any p ys) none) there

none_of_none : (items : List FailingCase) → length items ≡ 0 → items ≡ []
none_of_none [] none = refl
none_of_none (x ∷ items) none = absurd (omega (arith, none))

no_items : (items : List FailingCase) → not (length items == 0) ≡ false → items ≡ []
no_items items h = elim (eqb_tells (length items) 0) [
  | inl same ↦ none_of_none items same.1
  | inr other ↦ absurd (false≢true (sym h ∙ ap not other.0))
]

not_passing : FirstIsOne → (asked : Losses) (log : LogValue) (way : By) (cuts : List ℕ) (checkers : List CheckerValue) (first : FirstCase) (found : List CutFound)
    → IsFirstFailing asked log way cuts checkers first → AreFoundIn asked log way cuts checkers found → is_any_failing found ≡ false → ⊥
not_passing one asked log way cuts checkers first found a are passes =
    let at_cut = there_too cuts found a.place first.cut are.count a.own in
    let own = are.each a.place first.cut at_cut.0 a.own at_cut.1 in
    let there = there_too checkers at_cut.0.programs.items first.program a.fails.checker own.count a.fails.own in
    not_found one asked (cut_value log way first.cut) a.fails.checker first.case there.0 a.fails.fails (own.each first.program a.fails.checker there.0 a.fails.own there.1)
    (no_items there.0.failing.items
    (any_at fails_in at_cut.0.programs.items first.program there.0 (any_at (λ (c : CutFound). fails_at c.programs.items) found a.place at_cut.0 passes at_cut.1) there.1))

-- the first failing case is one

record SameFirst (log : LogValue) (way : By) (tears : Bool) (first other : FirstCase) : Type 0 where
  pub cut : first.cut ≡ other.cut
  pub program : first.program ≡ other.program
  pub known : known_case (cut_value log way first.cut) tears first.case ≡ known_case (cut_value log way other.cut) tears other.case

-- at one cut
first_at_cut : FirstIsOne → (asked : Losses) (log : LogValue) (way : By) (cut : ℕ) (checkers : List CheckerValue) (left rest : ℕ) (first other : FirstCase)
    → FailsFirstAt asked (cut_value log way cut) checkers left first → FailsFirstAt asked (cut_value log way cut) checkers rest other
    → (first.program ≡ other.program) × (known_case (cut_value log way cut) asked.tears first.case ≡ known_case (cut_value log way cut) asked.tears other.case)
first_at_cut one asked log way cut checkers left rest first other a b = elim (three first.program other.program) [
  | inl less ↦ absurd (not_at one asked (cut_value log way cut) checkers left first other.program b.before a b.are b.none less)
  | inr more ↦ elim more [
    | inl same ↦
        let checker = same_Some b.checker a.checker (sym b.own ∙ ap (λ i. slice_get checkers i) (sym same) ∙ a.own) in (
          same,
          one.same asked (cut_value log way cut) a.checker first.case other.case a.fails
              (subst (λ (c : CheckerValue). FailsFirst asked (cut_value log way cut) c other.case) checker b.fails),
        )
    | inr less ↦ absurd (not_at one asked (cut_value log way cut) checkers rest other first.program a.before b a.are a.none less)
  ]
]

first_once : FirstIsOne → (asked : Losses) (log : LogValue) (way : By) (cuts : List ℕ) (checkers : List CheckerValue) (first other : FirstCase)
    → IsFirstFailing asked log way cuts checkers first → IsFirstFailing asked log way cuts checkers other → SameFirst log way asked.tears first other
first_once one asked log way cuts checkers first other a b = elim (three a.place b.place) [
  | inl less ↦ absurd (not_in one asked log way cuts checkers first b.place b.before a b.are b.none less)
  | inr more ↦ elim more [
    | inl same ↦
        let cut = same_Some first.cut other.cut (sym a.own ∙ ap (λ i. slice_get cuts i) same ∙ b.own) in
        let both = first_at_cut one asked log way first.cut checkers a.rest b.rest first other a.fails
        (subst (λ k. FailsFirstAt asked (cut_value log way k) checkers b.rest other) (sym cut) b.fails) in
        record { cut = cut; program = both.0; known = both.1 ∙ ap (λ k. known_case (cut_value log way k) asked.tears other.case) cut }
    | inr less ↦ absurd (not_in one asked log way cuts checkers other a.place a.before b a.are a.none less)
  ]
]

-- where it is told, fewer than `most_cases` cases pass before it

begun_past : (asked : Losses) (at : CutValue) (checker : CheckerValue) (most : ℕ) → PassesMost asked at checker most → IsBegunAt asked at checker (most + 1)
begun_past asked at checker most m = record { leaves = m.leaves ++ m.last ∷ []; those = m.those }

past_one : (asked : Losses) (at : CutValue) (checkers : List CheckerValue) (left : ℕ) → PassesMostAt asked at checkers left → IsPastAt asked at checkers left
past_one asked at checkers left m = record {
  number = m.number;
  before = m.before;
  are = m.are;
  checker = m.checker;
  own = m.own;
  rest = m.rest;
  counted = m.counted;
  past = record { more = m.rest + 1; begun = begun_past asked at m.checker m.rest m.past; past = omega arith };
}

many_of : (asked : Losses) (log : LogValue) (way : By) (cuts : List ℕ) (checkers : List CheckerValue) (cut : ℕ) → PassesMostIn asked log way cuts checkers cut
    → AreTooMany asked log way cuts checkers cut
many_of asked log way cuts checkers cut m = record {
  place = m.place;
  own = m.own;
  before = m.before;
  are = m.are;
  rest = m.rest;
  counted = m.counted;
  past = past_one asked (cut_value log way cut) checkers m.rest m.past;
}

few_at : FindingIsOne → FirstIsOne → (asked : Losses) (at : CutValue) (checkers : List CheckerValue) (left : ℕ) (first : FirstCase)
    → FailsFirstAt asked at checkers left first → PassesMostAt asked at checkers left → ⊥
few_at findings one asked at checkers left first a m = elim (three first.program m.number) [
  | inl less ↦ not_at one asked at checkers left first m.number m.before a m.are m.none less
  | inr rest ↦ elim rest [ inl same ↦ here same | inr more ↦ later more ]
]
  where
    low : first.program < length checkers
    low = slice_get_within checkers first.program a.checker a.own

    here : first.program ≡ m.number → ⊥
    here same =
        let checker = same_Some m.checker a.checker (sym m.own ∙ ap (λ i. slice_get checkers i) (sym same) ∙ a.own) in
        let past = one.after asked at a.checker first.case m.rest a.fails (subst (λ (c : CheckerValue). PassesMost asked at c m.rest) checker m.past) in
        let before = at_once findings asked at checkers first.program a.before m.before a.are (subst (λ n. AreFirstAt asked at checkers n m.before) (sym same) m.are) (omega (arith, low)) in
        let counted = a.counted in
        let others = m.counted in
        let few = a.few in
        omega (arith, past, before, counted, others, few)

    later : m.number < first.program → ⊥
    later more =
        let count = a.are.count in
        let there = there_at a.before m.number (omega (arith, count, more)) in
        let own = a.are.each m.number m.checker there.0 m.own there.1 in
        let many = findings.fewer asked at m.checker there.0 (m.rest + 1) own (begun_past asked at m.checker m.rest m.past) in
        let among = first_at findings asked at (take first.program checkers) m.number m.before a.before there.0 (some_at asked at checkers first.program m.number m.before m.are)
        (all_at asked at checkers first.program a.before a.are (omega (arith, low))) there.1 in
        let counted = a.counted in
        let others = m.counted in
        let few = a.few in
        omega (arith, many, among, counted, others, few)

few_in : FindingIsOne → FirstIsOne → (asked : Losses) (log : LogValue) (way : By) (cuts : List ℕ) (checkers : List CheckerValue) (first : FirstCase) (cut : ℕ)
    → IsFirstFailing asked log way cuts checkers first → PassesMostIn asked log way cuts checkers cut → ⊥
few_in findings one asked log way cuts checkers first cut a m = elim (three a.place m.place) [
  | inl less ↦ not_in one asked log way cuts checkers first m.place m.before a m.are m.none less
  | inr rest ↦ elim rest [ inl same ↦ here same | inr more ↦ later more ]
]
  where
    low : a.place < length cuts
    low = slice_get_within cuts a.place first.cut a.own

    here : a.place ≡ m.place → ⊥
    here same =
        let at_cut = same_Some cut first.cut (sym m.own ∙ ap (λ i. slice_get cuts i) (sym same) ∙ a.own) in
        let before = in_once findings asked log way cuts checkers a.place a.before m.before a.are (subst (λ n. AreFirstIn asked log way cuts checkers n m.before) (sym same) m.are) (omega (arith, low)) in
        let counted = a.counted in
        let others = m.counted in
        let left : m.rest ≡ a.rest = omega (arith, before, counted, others) in
        few_at findings one asked (cut_value log way first.cut) checkers a.rest first a.fails
        (subst (λ n. PassesMostAt asked (cut_value log way first.cut) checkers n) left (subst (λ k. PassesMostAt asked (cut_value log way k) checkers m.rest) at_cut m.past))

    later : m.place < a.place → ⊥
    later more =
        let count = a.are.count in
        let there = there_at a.before m.place (omega (arith, count, more)) in
        let own = a.are.each m.place cut there.0 m.own there.1 in
        let past = past_at findings asked (cut_value log way cut) checkers m.rest there.0.programs.items own (past_one asked (cut_value log way cut) checkers m.rest m.past) in
        let among = first_in findings asked log way (take a.place cuts) checkers m.place m.before a.before there.0 (some_in asked log way cuts checkers a.place m.place m.before m.are)
        (all_in asked log way cuts checkers a.place a.before a.are (omega (arith, low))) there.1 in
        let counted = a.counted in
        let others = m.counted in
        omega (arith, past, among, counted, others)

-- the cut with which there are too many cases is one

not_sooner : FindingIsOne → (asked : Losses) (log : LogValue) (way : By) (cuts : List ℕ) (checkers : List CheckerValue) (c d : ℕ)
    → (a : AreTooMany asked log way cuts checkers c) → (b : AreTooMany asked log way cuts checkers d) → a.place < b.place → ⊥
not_sooner findings asked log way cuts checkers c d a b less =
    let low = slice_get_within cuts b.place d b.own in
    let count = b.are.count in
    let there = there_at b.before a.place (omega (arith, count, less)) in
    let own = b.are.each a.place c there.0 a.own there.1 in
    let past = past_at findings asked (cut_value log way c) checkers a.rest there.0.programs.items own a.past in
    let among = first_in findings asked log way (take b.place cuts) checkers a.place a.before b.before there.0 (some_in asked log way cuts checkers b.place a.place a.before a.are)
    (all_in asked log way cuts checkers b.place b.before b.are (omega (arith, low))) there.1 in
    let counted = a.counted in
    let others = b.counted in
    omega (arith, past, among, counted, others)

pub many_once : FindingIsOne → (asked : Losses) (log : LogValue) (way : By) (cuts : List ℕ) (checkers : List CheckerValue) (c d : ℕ)
    → AreTooMany asked log way cuts checkers c → AreTooMany asked log way cuts checkers d → c ≡ d
many_once findings asked log way cuts checkers c d a b = elim (three a.place b.place) [
  | inl less ↦ absurd (not_sooner findings asked log way cuts checkers c d a b less)
  | inr more ↦ elim more [
    | inl same ↦ same_Some c d (sym a.own ∙ ap (λ i. slice_get cuts i) same ∙ b.own)
    | inr less ↦ absurd (not_sooner findings asked log way cuts checkers d c b a less)
  ]
]

-- so its text is one

abbrev told_text : HeadValue → Losses → LogValue → ℕ → ℕ → KnownCase → List ℕ
told_text h asked log cut program k = head_text h asked ++ known_line (cut_value log h.by cut) asked.tears program k ++ first_text cut program k.number

text_of_first : (h : HeadValue) (asked : Losses) (log : LogValue) (first : FirstCase)
    → first_bytes h asked log first ≡ told_text h asked log first.cut first.program (known_case (cut_value log h.by first.cut) asked.tears first.case)
unfolding first_bytes case_line known_line
text_of_first h asked log first = refl

text_once : (h : HeadValue) (asked : Losses) (log : LogValue) (first other : FirstCase) → SameFirst log h.by asked.tears first other → first_bytes h asked log first ≡ first_bytes h asked log other
text_once h asked log first other same =
    text_of_first h asked log first ∙ (λ i. told_text h asked log (same.cut i) (same.program i) (same.known i)) ∙ sym (text_of_first h asked log other)

-- the text of cases is one, whatever is told of them
text_same : (telling : CaseTelling) (inputs : ℕ) (h : HeadValue) (asked : Losses) (log : LogValue) (ls ms : List CutFound) (bytes others : List ℕ) → CutsSame log h.by asked.tears ls ms
    → IsTextOf telling inputs h asked log ls bytes → IsTextOf telling inputs h asked log ms others → bytes ≡ others
text_same telling.Cases inputs h asked log ls ms bytes others same a b = a ∙ bytes_same inputs h asked log ls ms same ∙ sym b
text_same telling.Causes inputs h asked log ls ms bytes others same a b = why_same h asked log ls ms bytes others same a b
text_same telling.Page inputs h asked log ls ms bytes others same a b = page_same h asked log ls ms bytes others same a b

tells_once : FindingIsOne → (inputs : ℕ) (l : AnyLosses) (s : Settings) (value : LogValue) (checkers : List CheckerValue) (bytes others : List ℕ) (failing fails : Bool)
    → TellsCases inputs l s value checkers bytes failing → TellsCases inputs l s value checkers others fails → (bytes ≡ others) × (failing ≡ fails)
unfolding head_of
tells_once one inputs l s value checkers bytes others failing fails a b =
    let same = cuts_same one (losses_of l s) value s.by (case_cuts l.at_most s.cuts value.entries) checkers a.found b.found a.are b.are in (
      text_same l.telling inputs (head_of (with_first false s) value checkers) (losses_of l s) value a.found b.found bytes others same a.text b.text,
      a.fails ∙ any_same value s.by s.tears a.found b.found same ∙ sym b.fails,
    )

first_told_once : FindingIsOne → FirstIsOne → (inputs : ℕ) (l : AnyLosses) (s : Settings) (value : LogValue) (checkers : List CheckerValue) (bytes others : List ℕ) (failing fails : Bool)
    → TellsFirst inputs l s value checkers bytes failing → TellsFirst inputs l s value checkers others fails → (bytes ≡ others) × (failing ≡ fails)
unfolding head_of
first_told_once findings one inputs l s value checkers bytes others _ _ (of_first first is text) (of_first other it written) = (
  text
      ∙ text_once (head_of (with_first false s) value checkers) (losses_of l s) value first other
      (first_once one (losses_of l s) value s.by (case_cuts l.at_most s.cuts value.entries) checkers first other is it)
      ∙ sym written,
  refl,
)
first_told_once findings one inputs l s value checkers bytes others _ _ (of_first first is text) (of_none tells) =
    absurd (not_passing one (losses_of l s) value s.by (case_cuts l.at_most s.cuts value.entries) checkers first tells.found is tells.are (sym tells.fails))
first_told_once findings one inputs l s value checkers bytes others _ _ (of_none tells) (of_first other it written) =
    absurd (not_passing one (losses_of l s) value s.by (case_cuts l.at_most s.cuts value.entries) checkers other tells.found it tells.are (sym tells.fails))
first_told_once findings one inputs l s value checkers bytes others _ _ (of_none tells) (of_none told) = ((tells_once findings inputs l s value checkers bytes others false false tells told).0, refl)

told_once : FindingIsOne → FirstIsOne → (first : Bool) (inputs : ℕ) (l : AnyLosses) (s : Settings) (value : LogValue) (checkers : List CheckerValue) (bytes others : List ℕ) (failing fails : Bool)
    → TellsLosses first inputs l s value checkers bytes failing → TellsLosses first inputs l s value checkers others fails → (bytes ≡ others) × (failing ≡ fails)
told_once findings one false inputs l s value checkers bytes others failing fails a b = tells_once findings inputs l s value checkers bytes others failing fails a b
told_once findings one true inputs l s value checkers bytes others failing fails a b = first_told_once findings one inputs l s value checkers bytes others failing fails a b

-- what is told by cases
pub one_by_cases : TextOfOneLog → OneProgram → OneVerdict → (Tells : Settings → LogValue → List CheckerValue → List ℕ → Bool → Type 0)
    → ((s : Settings) (value : LogValue) (checkers : List CheckerValue) (bytes others : List ℕ) (failing fails : Bool) → Tells s value checkers bytes failing → Tells s value checkers others fails
    → (bytes ≡ others) × (failing ≡ fails))
    → (text : Recording) (files : List (List ℕ)) (s : Settings) (bytes others : List ℕ) (failing fails : Bool) → IsByCases Tells text files s bytes failing
    → IsByCases Tells text files s others fails → (bytes ≡ others) × (failing ≡ fails)
one_by_cases texts programs verdicts Tells one text files s bytes others failing fails h k =
    let value = same_log texts text s h.value k.value h.source k.source in
    let checkers = same_checkers programs verdicts s files h.checkers k.checkers h.made k.made in
    let by_value = subst (λ (v : LogValue). Tells s v k.checkers others fails) (sym value) k.tells in
    let tells = subst (λ (cs : List CheckerValue). Tells s h.value cs others fails) (sym checkers) by_value in
    one s h.value h.checkers bytes others failing fails h.tells tells

pub one_losses : TextOfOneLog → OneProgram → OneVerdict → FindingIsOne → FirstIsOne → (first : Bool) (l : AnyLosses) (text : Recording) (files : List (List ℕ)) (s : Settings)
    (bytes others : List ℕ) (failing fails : Bool) → IsLosses first l text files s bytes failing → IsLosses first l text files s others fails → (bytes ≡ others) × (failing ≡ fails)
one_losses texts programs verdicts findings one first l text files =
    one_by_cases texts programs verdicts (TellsLosses first (inputs_number text.text files) l) (λ s value checkers. told_once findings one first (inputs_number text.text files) l s value checkers) text files

-- and it isn't refused

not_more : FindingIsOne → FirstIsOne → (inputs : ℕ) (l : AnyLosses) (s : Settings) (value : LogValue) (checkers : List CheckerValue) (bytes : List ℕ) (failing : Bool) (cut : ℕ)
    → TellsFirst inputs l s value checkers bytes failing → PassesMostIn (losses_of l s) value s.by (case_cuts l.at_most s.cuts value.entries) checkers cut → ⊥
not_more findings one inputs l s value checkers bytes _ cut (of_first first is text) many = few_in findings one (losses_of l s) value s.by (case_cuts l.at_most s.cuts value.entries) checkers first cut is many
not_more findings one inputs l s value checkers bytes _ cut (of_none tells) many =
    not_too_many findings inputs l s value checkers bytes false cut tells (many_of (losses_of l s) value s.by (case_cuts l.at_most s.cuts value.entries) checkers cut many)

pub not_refused : FindingIsOne → FirstIsOne → (first : Bool) (inputs : ℕ) (l : AnyLosses) (s : Settings) (value : LogValue) (checkers : List CheckerValue) (bytes : List ℕ) (failing : Bool) (cut : ℕ)
    → TellsLosses first inputs l s value checkers bytes failing → AreMore first (losses_of l s) value s.by (case_cuts l.at_most s.cuts value.entries) checkers cut → ⊥
not_refused findings one false inputs l s value checkers bytes failing cut tells many = not_too_many findings inputs l s value checkers bytes failing cut tells many
not_refused findings one true inputs l s value checkers bytes failing cut tells many = not_more findings one inputs l s value checkers bytes failing cut tells many
