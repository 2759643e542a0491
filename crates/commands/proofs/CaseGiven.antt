-- What a run of any number of losses finds is what a text of cases may tell.
use Rattle.std.proofs.Common.{ℕ, zero, suc, ◌≡◌, ◌+◌, ◌-◌, ◌<◌, ◌≤◌, ◌^◌, ◌==◌, ◌&&◌, ◌||◌, nat_le, min, not, Bool, true, false, if◌then◌else◌, List, [], ◌∷◌, length, map, filter, slice_get, All, Option, None, Some, is_some, unwrap_or, refl, sym, subst, ◌∙◌, ap, arith}
use Rattle.std.specs.List.{range_with_len}
use Rattle.std.specs.Option.{option_map}
use Rattle.std.proofs.lemmas.Bool.Decides.{nat_tests}
use Rattle.std.proofs.lemmas.Int.{clamps}
use Rattle.std.proofs.lemmas.List.Sums.{sum_by-cons}
use Rattle.base.specs.Check.{Check, check, first_failing}
use Rattle.logfmt.specs.declared.entry.Entry.{Entry}
use Rattle.logfmt.specs.Bounds.{LogValue, IsLog}
use Rattle.epochs.specs.declared.cuts.Cuts.{Cuts}
use Rattle.epochs.specs.declared.part.By.{By}
use Rattle.epochs.specs.Cuts.{is_of_kind, is_after_first, is_before_last, is_wanted}
use Rattle.bpf_isa.specs.Program.{IsProgram}
use Rattle.machine.specs.Outcome.{Ending, outcome, OutOfSteps}
use Rattle.machine.specs.Guards.{guarded_outcome}
use Rattle.images.specs.Views.{ViewValue, sectors_of, context_at}
use Rattle.checker.specs.Checker.{CheckerValue, judgement}
use Rattle.report.specs.Report.{HeadValue}
use Rattle.cases.specs.Risk.{parts_at_risk}
use Rattle.cases.specs.Choices.{Choice, departures, image_at}
use Rattle.cases.specs.Cases.{representative}
use Rattle.cases.specs.Trees.{ending_of}
use Rattle.cases.specs.AtCut.{CutValue}
use Rattle.cases.specs.Search.{LeafValue, leaf_case, EndsSo}
use Rattle.losses.specs.declared.found.Losses.{Losses}
use Rattle.losses.specs.declared.found.CaseFindings.{CaseFindings}
use Rattle.losses.specs.declared.found.CutFound.{CutFound}
use Rattle.case_runs.specs.Cuts.{is_explored, are_last_enough, first_wanted, last_wanted, case_cuts}
use Rattle.losses.specs.FoundCases.{most_cases, cases_at, cases_in, FailingValue, failing_value}
use Rattle.case_runs.specs.Found.{IsFoundAt, AreFoundAt, AreFoundIn}
use Rattle.case_runs.specs.Laws.{subject_at}
use Rattle.case_runs.specs.Leaves.{failing_from}
use Rattle.case_text.specs.Text.{cases_bytes, is_any_failing}
use Rattle.join.specs.Heads.{IsPrintedHead}
use Rattle.join.specs.Printable.{IsWithin}
use Rattle.join.specs.CaseTexts.{AreLosses, are_lost_of_run, IsCasesText}
use Rattle.join.specs.CaseReading.{Each}
use Rattle.join.proofs.CaseLasts.{within_log}
use Rattle.workers.proofs.Safe.{is_image}
use Rattle.request.specs.declared.any_losses.LossWords.{LossWords}
use Rattle.request.specs.declared.settings.CaseTelling.TheVariants as telling
use Rattle.request.specs.declared.settings.OptionPlace.{OptionPlace}
use Rattle.request.specs.declared.settings.OptionPlace.TheVariants as place
use Rattle.request.specs.declared.settings.Settings.{Settings}
use Rattle.request.specs.AnyLosses.{is_torn_asked, is_lost_asked, loss_checks, losses_asked, losses_refusal, torn_asked}
use Rattle.request.specs.Extents.{is_whole}
use Rattle.request.specs.Settings.{option_refusal, IsAsked}
use Rattle.request.specs.Source.{Recording}
use Rattle.request.proofs.Logs.{bounds_of}
use Rattle.runs.specs.Cases.{TellsCases, IsTextOf, IsCases, IsLosses}
use Rattle.runs.specs.CaseCuts.{losses_of}
use Rattle.runs.specs.Explore.{AreCheckersOf, head_of}
use Rattle.request.specs.Inputs.{inputs_number}
use Rattle.runs.specs.Why.{with_first}
use Rattle.commands.specs.CaseParts.{CasesAreText}
use Rattle.commands.proofs.CaseFates.{first_so, second_so, IsFair, cases_fair, IsOneOf, failing_are, failing_rise, failing_few, NumbersRise}
use Rattle.commands.proofs.CaseLines.{IsPrintedCase}
use Rattle.commands.proofs.CasePlaces.{length_mapped}
use Rattle.commands.proofs.CaseOrder.{at_cut, CutsRise}
use Rattle.commands.proofs.CasePrinted.{IsPrintedFound, IsPrintedCut, ArePrinted, printed_cases, printed_is_text}
use Rattle.commands.proofs.Ending.{ends_are_words, guarded_ends_are_words}
use Rattle.commands.proofs.Printed.{asked_of}
use Rattle.commands.proofs.RunOf.{IsGiven, is_run, made_there, heads_long, inputs_small}

-- WHAT A PROGRAM ENDS IN

ending_within : (log : LogValue) (way : By) (cut : ℕ) (c : CheckerValue) (torn : ℕ) (lost : Option ℕ) (choice : Choice) → IsLog log → IsProgram c.program
    → IsWithin (ending_of (subject_at log way cut c torn lost) choice)
unfolding sectors_of judgement
ending_within log way cut c torn lost choice bounds program = by_size (length device == log.sectors)
  where
    view : ViewValue
    view = record { log = log; cut = cut; departures = departures choice (parts_at_risk way log.entries cut) }

    device : List (List ℕ)
    device = image_at log way cut choice

    few : log.sectors < 2 ^ 32
    few = let size = bounds.device in omega (arith, size)

    by : (guards : Bool) → IsWithin (if guards then guarded_outcome c.program device (context_at log cut) c.limit else outcome c.program device (context_at log cut) c.limit)
    by true = guarded_ends_are_words c.program log.sectors device (context_at log cut) c.limit program few (is_image view bounds)
    by false = ends_are_words c.program log.sectors device (context_at log cut) c.limit program few (is_image view bounds)

    by_size : (b : Bool) → IsWithin (if b then judgement c device (context_at log cut) else OutOfSteps)
    by_size true = by (is_some c.guards)
    by_size false = tt

-- WHAT IS FOUND WITH A CHECKER

-- a leaf, of which each part has some fates, and on which a program ends in words
abbrev IsGood : CutValue → Bool → LeafValue → Type 0
IsGood at tears leaf = IsFair tears (leaf_case tears at leaf) × IsWithin leaf.ending

good_leaves : (asked : Losses) (at : CutValue) (c : CheckerValue) (told : List LeafValue) → IsLog at.log → IsProgram c.program → Each (IsFair asked.tears) (map (leaf_case asked.tears at) told)
    → All (EndsSo (subject_at at.log at.way at.cut c asked.torn asked.lost) asked.tears at) told → Each (IsGood at asked.tears) told
good_leaves asked at c [] bounds program fair ends = tt
good_leaves asked at c (leaf ∷ told) bounds program fair ends =
    let own : EndsSo (subject_at at.log at.way at.cut c asked.torn asked.lost) asked.tears at leaf = ends 0 leaf (omega arith) in
    let within = ending_within at.log at.way at.cut c asked.torn asked.lost (representative (leaf_case asked.tears at leaf)) bounds program in
    ((fair.0, subst (λ (e : Ending). IsWithin e) (sym own) within), good_leaves asked at c told bounds program fair.1 (λ k d small. ends (suc k) d (omega (arith, small))))

printed_each : (h : HeadValue) (at : CutValue) (tears : Bool) (m : ℕ) (fs : List FailingValue) → m ≤ most_cases → Each (IsOneOf (IsGood at tears) 0 m) fs → Each (IsPrintedCase h at tears) fs
printed_each h at tears m [] few each = tt
printed_each h at tears m (f ∷ fs) few each =
    let high = each.0.high in (
      record {
        number = omega (arith, high, few);
        fair = each.0.leaf.0;
        ending = record { ending = f.ending; within = each.0.leaf.1; failing = each.0.fails; is = refl };
      },
      printed_each h at tears m fs few each.1,
    )

found_printed : (h : HeadValue) (asked : Losses) (at : CutValue) (c : CheckerValue) (f : CaseFindings) → IsLog at.log → IsProgram c.program → f.cases ≤ most_cases → IsFoundAt asked at c f → IsPrintedFound h asked at f
found_printed h asked at c f bounds program few is =
    let leaves : List LeafValue = is.leaves in
    let own = is.those in
    let fair = cases_fair (subject_at at.log at.way at.cut c asked.torn asked.lost) asked.tears (map (leaf_case asked.tears at) own.told) own.left own.are in
    let told = good_leaves asked at c own.told bounds program fair own.endings in
    let good : Each (IsGood at asked.tears) leaves = subst (λ (ls : List LeafValue). Each (IsGood at asked.tears) ls) (sym own.added) told in
    let count = is.cases in
    let each = failing_are (IsGood at asked.tears) 0 (length leaves) leaves (omega arith) good in
    let printed = printed_each h at asked.tears (length leaves) (failing_from 0 leaves) (omega (arith, few, count)) each in
    let long : length (map failing_value f.failing.items) ≡ length (failing_from 0 leaves) = ap (λ (fs : List FailingValue). length fs) is.failing in
    let same = length_mapped failing_value f.failing.items in
    let fewer = failing_few 0 leaves in
    record {
      each = subst (λ (fs : List FailingValue). Each (IsPrintedCase h at asked.tears) fs) (sym is.failing) printed;
      rise = subst (λ (fs : List FailingValue). NumbersRise 0 fs) (sym is.failing) (failing_rise 0 leaves);
      few = omega (arith, long, same, fewer, count);
    }

-- of each checker the program is one
abbrev pub HavePrograms : List CheckerValue → Type 0
HavePrograms checkers = (n : ℕ) (c : CheckerValue) → slice_get checkers n ≡ Some c → IsProgram c.program

found_each : (h : HeadValue) (asked : Losses) (at : CutValue) (checkers : List CheckerValue) (found : List CaseFindings) → IsLog at.log → HavePrograms checkers → length found ≡ length checkers
    → ((i : ℕ) (c : CheckerValue) (f : CaseFindings) → slice_get checkers i ≡ Some c → slice_get found i ≡ Some f → IsFoundAt asked at c f) → cases_at found ≤ most_cases → Each (IsPrintedFound h asked at) found
found_each h asked at checkers [] bounds programs count each few = tt
found_each h asked at [] (f ∷ found) bounds programs count each few = absurd (omega (arith, count))
found_each h asked at (c ∷ checkers) (f ∷ found) bounds programs count each few =
    let sum = sum_by-cons (λ (g : CaseFindings). g.cases) f found in (
      found_printed h asked at c f bounds (programs 0 c refl) (omega (arith, few, sum)) (each 0 c f refl refl),
      found_each h asked at checkers found bounds (λ n d there. programs (suc n) d there) (omega (arith, count)) (λ i d g one two. each (suc i) d g one two) (omega (arith, few, sum)),
    )

-- WHICH CUTS

-- a cut that is wanted
pub record IsCutOf (cuts : Cuts) (n k : ℕ) : Type 0 where
  pub within : k ≤ n
  pub after : is_after_first cuts.from k ≡ true
  pub before : is_before_last cuts.to k ≡ true

abbrev pub Up : ℕ → List ℕ → Type 0
Up n [] = Unit {0}
Up n (k ∷ ks) = (n ≤ k) × Up (k + 1) ks

up_later : (n m : ℕ) (ks : List ℕ) → n ≤ m → Up m ks → Up n ks
up_later n m [] low up = tt
up_later n m (k ∷ ks) low up = let own = up.0 in (omega (arith, own, low), up.1)

up_range : (a n : ℕ) → Up a (range_with_len a n)
up_range a zero = tt
up_range a (suc n) = (omega arith, up_range (a + 1) n)

up_kept : (q : ℕ → Bool) (n : ℕ) (ks : List ℕ) → Up n ks → Up n (filter q ks)
up_kept q n [] up = tt
up_kept q n (k ∷ ks) up = by_test (q k) (up_kept q (k + 1) ks up.1)
  where
    by_test : (b : Bool) → Up (k + 1) (filter q ks) → Up n (if b then k ∷ filter q ks else filter q ks)
    by_test true rest = (up.0, rest)
    by_test false rest = let low = up.0 in up_later n (k + 1) (filter q ks) (omega (arith, low)) rest

each_kept : (P : ℕ → Type 0) (q : ℕ → Bool) (ks : List ℕ) → Each P ks → Each (λ k. P k × (q k ≡ true)) (filter q ks)
each_kept P q [] each = tt
each_kept P q (k ∷ ks) each = by_test (q k) refl (each_kept P q ks each.1)
  where
    by_test : (b : Bool) → q k ≡ b → Each (λ j. P j × (q j ≡ true)) (filter q ks) → Each (λ j. P j × (q j ≡ true)) (if b then k ∷ filter q ks else filter q ks)
    by_test true e rest = ((each.0, e), rest)
    by_test false e rest = rest

each_range : (a n m : ℕ) → a + n ≤ m → Each (λ k. (a ≤ k) × (k < m)) (range_with_len a n)
each_range a zero m few = tt
each_range a (suc n) m few = ((omega arith, omega (arith, few)), from_next (range_with_len (a + 1) n) (each_range (a + 1) n m (omega (arith, few))))
  where
    from_next : (ks : List ℕ) → Each (λ k. (a + 1 ≤ k) × (k < m)) ks → Each (λ k. (a ≤ k) × (k < m)) ks
    from_next [] each = tt
    from_next (k ∷ ks) each = let low = each.0.0 in ((omega (arith, low), each.0.1), from_next ks each.1)

each_so : (P Q : ℕ → Type 0) (ks : List ℕ) → ((k : ℕ) → P k → Q k) → Each P ks → Each Q ks
each_so P Q [] so each = tt
each_so P Q (k ∷ ks) so each = (so k each.0, each_so P Q ks so each.1)

after_told : (first : Option ℕ) (n k : ℕ) → unwrap_or first 0 ≤ n → min (unwrap_or first 0) n ≤ k → is_after_first first k ≡ true
after_told None n k few low = refl
after_told (Some m) n k few low = let up : m ≤ k = omega (arith, clamps, few, low) in grind (arith, nat_tests, up)

before_told : (last : Option ℕ) (n k : ℕ) → k ≤ min (unwrap_or last n) n → is_before_last last k ≡ true
before_told None n k high = refl
before_told (Some m) n k high = let down : k ≤ m = omega (arith, clamps, high) in grind (arith, nat_tests, down)

-- the cuts at which cases are looked for rise, and each is wanted
pub record AreCuts (cuts : Cuts) (n : ℕ) (ks : List ℕ) : Type 0 where
  pub rise : Up 0 ks
  pub each : Each (IsCutOf cuts n) ks

pub cuts_are : (at_most : Option ℕ) (cuts : Cuts) (es : List Entry) → unwrap_or cuts.from 0 ≤ length es → AreCuts cuts (length es) (case_cuts at_most cuts es)
unfolding case_cuts
cuts_are at_most cuts es few = by_test (are_last_enough at_most cuts)
  where
    explored : List ℕ
    explored = filter (is_explored es (last_wanted cuts (length es))) (range_with_len (first_wanted cuts (length es)) (last_wanted cuts (length es) + 1 - first_wanted cuts (length es)))

    one_explored : (k : ℕ) → ((first_wanted cuts (length es) ≤ k) × (k < first_wanted cuts (length es) + (last_wanted cuts (length es) + 1 - first_wanted cuts (length es)))) × (is_explored es (last_wanted cuts (length es)) k ≡ true)
        → IsCutOf cuts (length es) k
    one_explored k is =
        let low = is.0.0 in
        let high = is.0.1 in
        let end : k ≤ last_wanted cuts (length es) = omega (arith, low, high) in
        let inside : k ≤ length es = omega (arith, clamps, end) in
        record { within = inside; after = after_told cuts.from (length es) k few low; before = before_told cuts.to (length es) k end }

    one_wanted : (k : ℕ) → ((0 ≤ k) × (k < length es + 1)) × (is_wanted cuts es k ≡ true) → IsCutOf cuts (length es) k
    one_wanted k is =
        let high = is.0.1 in
        let both = first_so (is_of_kind cuts.kind es k && is_after_first cuts.from k) (is_before_last cuts.to k) is.1 in
        record {
          within = omega (arith, high);
          after = second_so (is_of_kind cuts.kind es k) (is_after_first cuts.from k) both;
          before = second_so (is_of_kind cuts.kind es k && is_after_first cuts.from k) (is_before_last cuts.to k) is.1;
        }

    by_test : (b : Bool) → AreCuts cuts (length es) (if b then explored else filter (is_wanted cuts es) (range_with_len 0 (length es + 1)))
    by_test true =
        let a : ℕ = first_wanted cuts (length es) in
        let n : ℕ = last_wanted cuts (length es) + 1 - first_wanted cuts (length es) in
        record {
          rise = up_later 0 a (filter (is_explored es (last_wanted cuts (length es))) (range_with_len a n)) (omega arith) (up_kept (is_explored es (last_wanted cuts (length es))) a (range_with_len a n) (up_range a n));
          each = each_so (λ k. ((a ≤ k) × (k < a + n)) × (is_explored es (last_wanted cuts (length es)) k ≡ true)) (IsCutOf cuts (length es)) explored one_explored
              (each_kept (λ k. (a ≤ k) × (k < a + n)) (is_explored es (last_wanted cuts (length es))) (range_with_len a n) (each_range a n (a + n) (omega arith)));
        }
    by_test false =
        let n : ℕ = length es + 1 in
        record {
          rise = up_kept (is_wanted cuts es) 0 (range_with_len 0 n) (up_range 0 n);
          each = each_so (λ k. ((0 ≤ k) × (k < n)) × (is_wanted cuts es k ≡ true)) (IsCutOf cuts (length es)) (filter (is_wanted cuts es) (range_with_len 0 n)) one_wanted
              (each_kept (λ k. (0 ≤ k) × (k < n)) (is_wanted cuts es) (range_with_len 0 n) (each_range 0 n n (omega arith)));
        }

-- WHAT IS FOUND AT THEM

found_rise : (n : ℕ) (ks : List ℕ) (found : List CutFound) → length found ≡ length ks → ((i k : ℕ) (f : CutFound) → slice_get ks i ≡ Some k → slice_get found i ≡ Some f → f.cut ≡ k) → Up n ks → CutsRise n found
found_rise n ks [] count cut up = tt
found_rise n [] (f ∷ found) count cut up = absurd (omega (arith, count))
found_rise n (k ∷ ks) (f ∷ found) count cut up =
    let same : f.cut ≡ k = cut 0 k f refl refl in
    let low = up.0 in
    let rest : Up (f.cut + 1) ks = subst (λ (j : ℕ). Up (j + 1) ks) (sym same) up.1 in
    (omega (arith, low, same), found_rise (f.cut + 1) ks found (omega (arith, count)) (λ i j g one two. cut (suc i) j g one two) rest)

cuts_printed : (h : HeadValue) (asked : Losses) (log : LogValue) (checkers : List CheckerValue) (ks : List ℕ) (found : List CutFound) → IsLog log → HavePrograms checkers → length checkers ≡ length h.programs
    → length found ≡ length ks → ((i k : ℕ) (f : CutFound) → slice_get ks i ≡ Some k → slice_get found i ≡ Some f → f.cut ≡ k)
    → ((i k : ℕ) (f : CutFound) → slice_get ks i ≡ Some k → slice_get found i ≡ Some f → AreFoundAt asked (record { log = log; way = h.by; cut = k }) checkers f.programs.items)
    → Each (IsCutOf h.cuts (length log.entries)) ks → cases_in found ≤ most_cases → Each (IsPrintedCut h asked log) found
cuts_printed h asked log checkers ks [] bounds programs long count cut each are few = tt
cuts_printed h asked log checkers [] (f ∷ found) bounds programs long count cut each are few = absurd (omega (arith, count))
cuts_printed h asked log checkers (k ∷ ks) (f ∷ found) bounds programs long count cut each are few =
    let same : k ≡ f.cut = sym (cut 0 k f refl refl) in
    let own : AreFoundAt asked (at_cut log h.by f.cut) checkers f.programs.items = subst (λ (j : ℕ). AreFoundAt asked (at_cut log h.by j) checkers f.programs.items) same (each 0 k f refl refl) in
    let is : IsCutOf h.cuts (length log.entries) f.cut = subst (λ (j : ℕ). IsCutOf h.cuts (length log.entries) j) same are.0 in
    let sum = sum_by-cons (λ (c : CutFound). cases_at c.programs.items) f found in
    let many = own.count in (
      record {
        within = is.within;
        after = is.after;
        before = is.before;
        programs = omega (arith, many, long);
        each = found_each h asked (at_cut log h.by f.cut) checkers f.programs.items bounds programs own.count own.each (omega (arith, few, sum));
      },
      cuts_printed h asked log checkers ks found bounds programs long (omega (arith, count)) (λ i j g one two. cut (suc i) j g one two) (λ i j g one two. each (suc i) j g one two) are.1 (omega (arith, few, sum)),
    )

-- WHAT IS ASKED OF LOSSES

third : (a b c d : Bool) (rest : List (Check OptionPlace)) → first_failing (check place.Torn a ∷ check place.AtMost b ∷ check place.Torn c ∷ check place.AtMost d ∷ rest) ≡ None → (c ≡ true) × (d ≡ true)
third true true true true rest passed = (refl, refl)
third true true true false rest passed = absurd (let bad : Some place.AtMost ≡ None = passed in cc)
third true true false d rest passed = absurd (let bad : Some place.Torn ≡ None = passed in cc)
third true false c d rest passed = absurd (let bad : Some place.AtMost ≡ None = passed in cc)
third false b c d rest passed = absurd (let bad : Some place.Torn ≡ None = passed in cc)

none_refused : (w : LossWords) (s : Settings) → losses_refusal w s ≡ None → first_failing (loss_checks w s) ≡ None
none_refused w s good = by_first (first_failing (loss_checks w s)) refl good
  where
    by_first : (o : Option OptionPlace) → first_failing (loss_checks w s) ≡ o → option_map option_refusal o ≡ None → o ≡ None
    by_first None e f = refl
    by_first (Some p) e f = absurd (let bad : Some (option_refusal p) ≡ None = f in cc)

losses_passed : (w : LossWords) (s : Settings) → losses_refusal w s ≡ None → (is_torn_asked w.torn s.tears ≡ true) × (is_lost_asked w.at_most ≡ true)
unfolding loss_checks
losses_passed w s good =
    third (w.any || not (is_some w.torn)) w.any (is_torn_asked w.torn s.tears) (is_lost_asked w.at_most) (check place.Cache (s.cache == 0) ∷ check place.Images (is_whole s.extent) ∷ [])
    (none_refused w s good)

torn_is : (number : Option ℕ) (tears : Bool) → is_torn_asked number tears ≡ true → (if tears then nat_le 1 (torn_asked number tears) && nat_le (torn_asked number tears) 3 else torn_asked number tears == 0) ≡ true
torn_is None true passed = refl
torn_is (Some n) true passed = passed
torn_is number false passed = refl

lost_is : (number : Option ℕ) → is_lost_asked number ≡ true → are_lost_of_run number ≡ true
lost_is None passed = refl
lost_is (Some n) passed = passed

pub losses_are : (w : LossWords) (s : Settings) (value : LogValue) (checkers : List CheckerValue) → losses_refusal w s ≡ None → AreLosses (head_of s value checkers) (losses_of (losses_asked w s) s)
unfolding head_of
losses_are w s value checkers good =
    let passed = losses_passed w s good in
    record { tears = refl; torn = torn_is w.torn s.tears passed.0; lost = lost_is w.at_most passed.1 }

-- THE TEXT

-- what is found at the cuts of a run with that head
pub found_is_printed : (h : HeadValue) (asked : Losses) (log : LogValue) (checkers : List CheckerValue) (at_most : Option ℕ) (found : List CutFound) → IsLog log → IsPrintedHead h → AreLosses h asked
    → h.entries ≡ length log.entries → length checkers ≡ length h.programs → HavePrograms checkers → AreFoundIn asked log h.by (case_cuts at_most h.cuts log.entries) checkers found → cases_in found ≤ most_cases
    → ArePrinted h asked log found
found_is_printed h asked log checkers at_most found bounds head losses entries long programs are few =
    let range = within_log h head in
    let low = range.first in
    let high = range.last in
    let first : unwrap_or h.cuts.from 0 ≤ length log.entries = omega (arith, low, high, entries) in
    let cuts = cuts_are at_most h.cuts log.entries first in
    record {
      bounds = bounds;
      entries = entries;
      head = head;
      losses = losses;
      each = cuts_printed h asked log checkers (case_cuts at_most h.cuts log.entries) found bounds programs long are.count are.cut are.each cuts.each few;
      rise = found_rise 0 (case_cuts at_most h.cuts log.entries) found are.count are.cut cuts.rise;
      few = few;
    }

pub made_programs : (s : Settings) (files : List (List ℕ)) (checkers : List CheckerValue) → AreCheckersOf s files checkers → HavePrograms checkers
made_programs s files checkers made = λ n c there. (made_there s files checkers n c made there).program

are_printed : (text : Recording) (files : List (List ℕ)) (s : Settings) (value : LogValue) (checkers : List CheckerValue) (w : LossWords) (found : List CutFound) → IsGiven text files s value checkers
    → losses_refusal w s ≡ None → AreFoundIn (losses_of (losses_asked w s) s) value s.by (case_cuts w.at_most s.cuts value.entries) checkers found → cases_in found ≤ most_cases
    → ArePrinted (head_of s value checkers) (losses_of (losses_asked w s) s) value found
unfolding head_of
are_printed text files s value checkers w found given good are few =
    found_is_printed (head_of s value checkers) (losses_of (losses_asked w s) s) value checkers w.at_most found (bounds_of text s value given.source.reads) (is_run text files s value checkers given).printed
    (losses_are w s value checkers good) refl (sym (heads_long checkers)) (made_programs s files checkers given.made) are few

-- the settings of a run that isn't asked for the first failing case alone
pub all_asked : (s : Settings) → s.first ≡ false → with_first false s ≡ s
all_asked s all = ap (λ (first : Bool). with_first first s) (sym all)

-- what a run prints of all its failing cases
pub record IsPrintedRun (text : Recording) (files : List (List ℕ)) (s : Settings) (w : LossWords) (bytes : List ℕ) (failing : Bool) : Type 0 where
  pub value : LogValue
  pub checkers : List CheckerValue
  pub given : IsGiven text files s value checkers
  pub found : List CutFound
  pub are : AreFoundIn (losses_of (losses_asked w s) s) value s.by (case_cuts w.at_most s.cuts value.entries) checkers found
  pub few : cases_in found ≤ most_cases
  pub is : bytes ≡ cases_bytes (inputs_number text.text files) (head_of s value checkers) (losses_of (losses_asked w s) s) value found
  pub fails : failing ≡ is_any_failing found

told_so : (inputs : ℕ) (w : LossWords) (s : Settings) (value : LogValue) (checkers : List CheckerValue) (found : List CutFound) (bytes : List ℕ) → s.first ≡ false → w.telling ≡ telling.Cases
    → IsTextOf w.telling inputs (head_of (with_first false s) value checkers) (losses_of (losses_asked w s) s) value found bytes
    → bytes ≡ cases_bytes inputs (head_of s value checkers) (losses_of (losses_asked w s) s) value found
told_so inputs w s value checkers found bytes all cases text =
    let own : bytes ≡ cases_bytes inputs (head_of (with_first false s) value checkers) (losses_of (losses_asked w s) s) value found =
    subst (λ (t : _). IsTextOf t inputs (head_of (with_first false s) value checkers) (losses_of (losses_asked w s) s) value found bytes) cases text in
    own ∙ ap (λ (t : Settings). cases_bytes inputs (head_of t value checkers) (losses_of (losses_asked w s) s) value found) (all_asked s all)

pub run_printed : (text : Recording) (files : List (List ℕ)) (s : Settings) (w : LossWords) (bytes : List ℕ) (failing : Bool) → IsAsked s → s.first ≡ false → w.telling ≡ telling.Cases
    → IsLosses s.first (losses_asked w s) text files s bytes failing → IsPrintedRun text files s w bytes failing
run_printed text files s w bytes failing asked all cases is =
    let h : IsCases (losses_asked w s) text files s bytes failing = subst (λ (first : Bool). IsLosses first (losses_asked w s) text files s bytes failing) all is in
    let tells : TellsCases (inputs_number text.text files) (losses_asked w s) s h.value h.checkers bytes failing = h.tells in
    record {
      value = h.value;
      checkers = h.checkers;
      given = record { asked = asked; count = h.count; source = h.source; made = h.made };
      found = tells.found;
      are = tells.are;
      few = tells.few;
      is = told_so (inputs_number text.text files) w s h.value h.checkers tells.found bytes all cases tells.text;
      fails = tells.fails;
    }

pub printed_told : (text : Recording) (files : List (List ℕ)) (s : Settings) (w : LossWords) (bytes : List ℕ) (failing : Bool) → losses_refusal w s ≡ None → (r : IsPrintedRun text files s w bytes failing)
    → IsCasesText bytes (printed_cases (inputs_number text.text files) (head_of s r.value r.checkers) (losses_of (losses_asked w s) s) r.value r.found)
printed_told text files s w bytes failing good r =
    let are = are_printed text files s r.value r.checkers w r.found r.given good r.are r.few in
    subst (λ (bs : List ℕ). IsCasesText bs (printed_cases (inputs_number text.text files) (head_of s r.value r.checkers) (losses_of (losses_asked w s) s) r.value r.found)) (sym r.is)
    (printed_is_text (inputs_number text.text files) (head_of s r.value r.checkers) (losses_of (losses_asked w s) s) r.value r.found (inputs_small text.text files) are)

pub cases_are_text : CasesAreText
cases_are_text w l files bytes status all cases answer =
    let s : Settings = answer.settings in
    let own = answer.answers in
    let first : s.first ≡ false = ap (λ (t : Settings). t.first) (sym answer.asked.asked) ∙ all in
    let run = run_printed _ own.programs s l bytes own.answers.failing (asked_of s answer.asked.good) first cases own.answers.told in
    (_, printed_told _ own.programs s l bytes own.answers.failing answer.good run)
