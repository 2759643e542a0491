-- What the text of cases says of every image that is asked for.
use Rattle.std.proofs.Common.{ℕ, ◌≡◌, ◌≤◌, ◌++◌, Bool, true, false, nat_le, nat_lt, if◌then◌else◌, List, [], ◌∷◌, length, filter, slice_get, Option, None, Some, IfSome, is_some, refl, sym, subst, ap, ◌∙◌, arith}
use Rattle.std.specs.Option.{option_map}
use Rattle.std.proofs.lemmas.Bool.{eq-eqb}
use Rattle.std.proofs.lemmas.List.Elements.{All-get_or}
use Rattle.std.proofs.lemmas.Option.{slice_get_within, slice_get-map, get_or_from_slice_get}
use Rattle.std.proofs.lemmas.Bool.Decides.{nat_tests}
use Rattle.logfmt.specs.Bounds.{LogValue, IsLog}
use Rattle.logfmt.specs.Flushed.{is_place}
use Rattle.logfmt.proofs.Flushed.{length-flushed}
use Rattle.epochs.specs.declared.part.By.{By}
use Rattle.epochs.specs.Flushes.{places_of}
use Rattle.helpers.specs.declared.device.Context.{Context}
use Rattle.images.specs.Views.{ViewValue, sectors_of, context_at}
use Rattle.machine.specs.Outcome.{OutOfSteps}
use Rattle.checker.specs.Checker.{CheckerValue, judgement}
use Rattle.soundness.specs.Accepted.{IsSafeRun, AcceptedRunsSafely}
use Rattle.workers.specs.Safe.{IsVerdict, IsAcceptedBy, IsAcceptedFor}
use Rattle.workers.proofs.Safe.{is_image}
use Rattle.cases.specs.Risk.{parts_at_risk}
use Rattle.cases.specs.Choices.{Choice, departures, image_at}
use Rattle.cases.specs.Cases.{Case, representative}
use Rattle.cases.specs.Trees as trees
use Rattle.cases.specs.Trees.{Subject}
use Rattle.cases.specs.Search.{leaf_case, EndsSo}
use Rattle.losses.specs.declared.found.Losses.{Losses}
use Rattle.losses.specs.declared.found.CaseFindings.{CaseFindings}
use Rattle.losses.specs.declared.found.FailingCase.{FailingCase}
use Rattle.losses.specs.FoundCases.{failing_value}
use Rattle.interp.specs.Ending.{ending_of}
use Rattle.cases.specs.Laws.{Includes}
use Rattle.cases.specs.AtCut.{CutValue, parts_of, case_of}
use Rattle.case_runs.specs.Laws.{subject_at as case_subject, judged_at}
use Rattle.case_runs.specs.AnyLoss.{LossesAreFound, FoundCutsAreWanted}
use Rattle.case_runs.specs.Found.{IsFoundAt, TheirImagesFail}
use Rattle.case_runs.specs.Cuts.{case_cuts}
use Rattle.case_runs.proofs.Failing.{IsLeafAt, failing_leaf}
use Rattle.case_runs.proofs.Judged.{length_image}
use Rattle.case_runs.proofs.Losing.{there_too}
use Rattle.request.specs.declared.settings.Settings.{Settings}
use Rattle.request.specs.Source.{Recording, IsLogOf, HasImages, cut_past, lacking}
use Rattle.request.proofs.Logs.{bounds_of, device_of}
use Rattle.runs.specs.CaseCuts.{losses_of}
use Rattle.runs.specs.Explore.{AreCheckersOf, subject_of}
use Rattle.runs.specs.AnyLoss.{AnyLossIsTold, ToldCasesFail, CasesAreFaultless}
use Rattle.runs.proofs.Faultless.{accepted_all, accepted_by}

pub any_loss_told : LossesAreFound → AnyLossIsTold
any_loss_told law l text files s bytes failing h cut choice program checker asked runs fail =
    law (losses_of l s) s.cuts h.value s.by h.checkers h.tells.found (bounds_of text s h.value h.source.reads) h.tells.are cut choice program checker asked runs fail

both_empty : (xs ys : List ℕ) → xs ++ ys ≡ [] → (xs ≡ []) × (ys ≡ [])
both_empty [] ys none = (refl, none)
both_empty (x ∷ xs) ys none = absurd (let bad : x ∷ (xs ++ ys) ≡ [] = none in cc)

cut_there : (n : ℕ) (cut : Option ℕ) → cut_past n cut ≡ [] → IfSome cut (λ k. k ≤ n)
cut_there n None none = tt
cut_there n (Some k) none = by_test (nat_lt n k) refl none
  where
    by_test : (b : Bool) → nat_lt n k ≡ b → (if b then k ∷ [] else []) ≡ [] → k ≤ n
    by_test true past is = absurd (let bad : k ∷ [] ≡ [] = is in cc)
    by_test false there is = grind (arith, nat_tests, there)

-- the log has the first cut that is wanted
first_there : (text : Recording) (s : Settings) (value : LogValue) → IsLogOf text s value → IfSome s.cuts.from (λ k. k ≤ length value.entries)
unfolding lacking
first_there text s value is =
    let n = length is.read.entries in
    let past = both_empty (filter (λ entry. nat_le n entry) (places_of s.cuts.flushes)) (cut_past n s.cuts.from ++ cut_past n s.cuts.to) is.has in
    let own = cut_there n s.cuts.from (both_empty (cut_past n s.cuts.from) (cut_past n s.cuts.to) past.1).0 in
    let long : length value.entries ≡ n = ap (λ (log : LogValue). length log.entries) is.added ∙ length-flushed (is_place (places_of s.cuts.flushes)) is.read.entries in
    subst (λ m. IfSome s.cuts.from (λ k. k ≤ m)) (sym long) own

pub told_cases_fail : TheirImagesFail → FoundCutsAreWanted → ToldCasesFail
told_cases_fail fail wanted l text files s bytes failing h place at program own checker number f choice told of_program runs there inside =
    let value = h.value in
    let cuts = case_cuts l.at_most s.cuts value.entries in
    let cut = there_too h.tells.found cuts place at (sym h.tells.are.count) told in
    let same = h.tells.are.cut place cut.0 at cut.1 told in
    let here = wanted (losses_of l s) s.cuts value s.by h.checkers h.tells.found (first_there text s value h.source.reads) h.tells.are place at told in
    let it = fail (losses_of l s) value s.by cuts h.checkers h.tells.found (bounds_of text s value h.source.reads) h.tells.are place program number cut.0 at checker own f choice
    (subst (λ k. k ≤ length value.entries) same here.0) cut.1 told runs of_program there
    (subst (λ k. Includes choice (case_of s.tears (parts_of (record { log = value; way = s.by; cut = k })) f.sets.items)) same inside) in
    (here.0, here.1, subst (λ k. judged_at value s.by k checker choice ≡ ending_of f.outcome) (sym same) it.0, it.1)

-- a program is accepted for the device of the log
accepted_for : (text : Recording) (files : List (List ℕ)) (s : Settings) (log : LogValue) (checkers : List CheckerValue) → HasImages text s log → AreCheckersOf s files checkers
    → s.checked ≡ None → s.guards ≡ false → (program : ℕ) (checker : CheckerValue) → slice_get checkers program ≡ Some checker
    → IsAcceptedFor (subject_of s log checkers) checker
accepted_for text files s log checkers source made free plain program checker runs =
    subst (λ g. IsAcceptedBy g (subject_of s log checkers) checker) plain
    (accepted_by s.guards (subject_of s log checkers) s.sectors checker (device_of text s log source.reads) (accepted_all s files checkers program checker made free runs))

-- it runs safely on the image of each choice
safe_at : AcceptedRunsSafely → (s : Settings) (log : LogValue) (checkers : List CheckerValue) (checker : CheckerValue) (way : By) (cut : ℕ) (choice : Choice) → IsLog log
    → IsAcceptedFor (subject_of s log checkers) checker → IsSafeRun checker.program (image_at log way cut choice) (context_at log cut) checker.limit
unfolding sectors_of
safe_at sound s log checkers checker way cut choice is it =
    let view : ViewValue = record { log = log; cut = cut; departures = departures choice (parts_at_risk way log.entries cut) } in
    sound checker.program log.sectors checker.limit (image_at log way cut choice) (context_at log cut) it.accepted (is_image view is)

-- so it ends in a verdict
verdict : (checker : CheckerValue) (device : List (List ℕ)) (context : Context) → is_some checker.guards ≡ false → IsSafeRun checker.program device context checker.limit
    → IsVerdict (judgement checker device context)
unfolding judgement
verdict checker device context kind safe = (safe.answer, safe.codes, rw kind safe.ends)

-- a failing case ends as its program does on the image of its representative
ends_so : (asked : Losses) (at : CutValue) (checker : CheckerValue) (own : CaseFindings) (n : ℕ) (f : FailingCase) → IsFoundAt asked at checker own
    → slice_get own.failing.items n ≡ Some f → (choice : Choice) × (ending_of f.outcome ≡ judged_at at.log at.way at.cut checker choice)
ends_so asked at checker own n f here it_at = (representative c, leaf.ending ∙ said ∙ first)
  where
    subject : Subject
    subject = case_subject at.log at.way at.cut checker asked.torn asked.lost

    leaf : IsLeafAt here.leaves (failing_value f)
    leaf =
        failing_leaf 0 here.leaves n (failing_value f)
        (sym (ap (λ fs. slice_get fs n) here.failing) ∙ slice_get-map failing_value own.failing.items n ∙ ap (option_map failing_value) it_at)

    told_at : slice_get here.those.told leaf.place ≡ Some leaf.leaf
    told_at = ap (λ ls. slice_get ls leaf.place) (sym here.those.added) ∙ leaf.there

    c : Case
    c = leaf_case asked.tears at leaf.leaf

    said : leaf.leaf.ending ≡ trees.ending_of subject (representative c)
    said =
        subst (EndsSo subject asked.tears at) (get_or_from_slice_get here.those.told leaf.place leaf.leaf leaf.leaf told_at)
        (All-get_or (EndsSo subject asked.tears at) here.those.told leaf.place leaf.leaf (slice_get_within here.those.told leaf.place leaf.leaf told_at) here.those.endings)

    first : trees.ending_of subject (representative c) ≡ judged_at at.log at.way at.cut checker (representative c)
    first =
        ap (λ b. if b then judged_at at.log at.way at.cut checker (representative c) else OutOfSteps)
        (eq-eqb (length (image_at at.log at.way at.cut (representative c))) at.log.sectors (length_image at.log at.way at.cut (representative c)))

pub cases_faultless : AcceptedRunsSafely → CasesAreFaultless
cases_faultless sound = record {
  runs = λ l text files s bytes failing h free plain program checker runs cut choice.
      safe_at sound s h.value h.checkers checker s.by cut choice (bounds_of text s h.value h.source.reads)
      (accepted_for text files s h.value h.checkers h.source h.made free plain program checker runs);
  cases = λ l text files s bytes failing h free plain place at program own checker number f told of_program runs there.
      let value = h.value in
      let cuts = case_cuts l.at_most s.cuts value.entries in
      let cut = there_too h.tells.found cuts place at (sym h.tells.are.count) told in
      let here = (h.tells.are.each place cut.0 at cut.1 told).each program checker own runs of_program in
      let ends = ends_so (losses_of l s) (record { log = value; way = s.by; cut = cut.0 }) checker own number f here there in
      let accepted = accepted_for text files s value h.checkers h.source h.made free plain program checker runs in
      let safe = safe_at sound s value h.checkers checker s.by cut.0 ends.0 (bounds_of text s value h.source.reads) accepted in
      subst IsVerdict (sym ends.1) (verdict checker (image_at value s.by cut.0 ends.0) (context_at value cut.0) accepted.kind safe);
}
