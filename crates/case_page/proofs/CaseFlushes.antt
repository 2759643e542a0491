-- The flushes that are missing for the failing cases of a program.
use Rattle.std.proofs.Common.{ℕ, zero, suc, ◌≡◌, ◌+◌, ◌-◌, ◌<◌, ◌≤◌, ◌==◌, Bool, true, false, All, List, [], ◌∷◌, ◌++◌, length, length-append, slice_get, Option, Some, None, MatchOption, refl, sym, ap, subst, ◌∙◌, arith, append-nil, inl, inr}
use Rattle.std.proofs.lemmas.Bool.Decides.{eqb_tells}
use Rattle.std.proofs.lemmas.List.Concat.{flat_map-append}
use Rattle.std.proofs.lemmas.List.Elements.{All-head, All-tail}
use Rattle.base.proofs.Lists.{slice_get_of_append, slice_get_of_push}
use Rattle.logfmt.specs.Bounds.{LogValue}
use Rattle.report.specs.declared.head.ProgramHead.{ProgramHead}
use Rattle.report.specs.Report.{HeadValue}
use Rattle.losses.specs.declared.flushes.window.Window.{Window}
use Rattle.losses.specs.declared.cure.failure.Failure.{Failure}
use Rattle.losses.specs.Places.{AreWindows}
use Rattle.losses.specs.FailureWindows.{if_window, own_window, windows_in}
use Rattle.cases.specs.AtCut.{CutValue, parts_of, case_of}
use Rattle.cases.specs.Cases.{Case}
use Rattle.losses.specs.declared.found.FailingCase.{FailingCase}
use Rattle.losses.specs.declared.found.Losses.{Losses}
use Rattle.losses.specs.declared.found.CutFound.{CutFound}
use Rattle.losses.specs.FoundCases.{failing_value}
use Rattle.case_text.specs.Window.{case_window}
use Rattle.case_text.specs.Laws.{IsWindow, HasNoWindow}
use Rattle.case_text.specs.Why.{program_failures, failure_of, told_of}
use Rattle.case_text.proofs.Failures.{none_inside, program_inside, failures_both}
use Rattle.case_page.specs.declared.case_program.CaseProgram.{CaseProgram}
use Rattle.case_page.specs.Counts.{failing_of}
use Rattle.case_page.specs.CasePage.{RunValue, cut_at, run_text, run_with, parts_text}
use Rattle.case_page.specs.CaseFlushes.{failures_at, failures_of, IsLacking, AreLacking, IsCasePage}

-- where no case fails nothing is taken
none_of : (at : CutValue) (tears : Bool) (own : List FailingCase) (old : List Failure) → true ≡ (length own == 0) → old ≡ old ++ program_failures at tears 0 own
none_of at tears [] old none = sym (append-nil old)
none_of at tears (f ∷ own) old none = elim (eqb_tells (length (f ∷ own)) 0) [
  | inl same ↦ absurd (let bad : length (f ∷ own) ≡ 0 = same.1 in omega (arith, bad))
  | inr other ↦ absurd (let bad : true ≡ false = none ∙ other.0 in cc)
]

pub none_taken : (run : RunValue) (program : ℕ) (c : CutFound) (own : List FailingCase) (old : List Failure) → own ≡ failing_of program c → true ≡ (length own == 0)
    → old ≡ old ++ failures_at run program c
none_taken run program c own old is none =
    none_of (cut_at run c.cut) run.tears own old none ∙ ap (λ (fs : List FailingCase). old ++ program_failures (cut_at run c.cut) run.tears 0 fs) is

-- the windows lie in the log
pub all_inside : (run : RunValue) (program : ℕ) (found : List CutFound) → All (λ (c : CutFound). c.cut ≤ length run.log.entries) found
    → AreWindows (length run.log.entries) (windows_in (failures_of run program found))
all_inside run program [] within = none_inside (length run.log.entries)
all_inside run program (c ∷ found) within =
    let here = failures_at run program c in
    let rest = failures_of run program found in
    failures_both (length run.log.entries) here rest
    (program_inside (cut_at run c.cut) run.tears 0 (failing_of program c) (All-head (λ (d : CutFound). d.cut ≤ length run.log.entries) c found within))
    (all_inside run program found (All-tail (λ (d : CutFound). d.cut ≤ length run.log.entries) c found within))

-- what a page has of programs, with one more
pub lacking_none : (run : RunValue) (found : List CutFound) (heads : List ProgramHead) (ps : List CaseProgram) → ps ≡ [] → AreLacking run found heads 0 ps
lacking_none run found heads ps none =
    subst (λ (qs : List CaseProgram). AreLacking run found heads 0 qs) (sym none)
    (record { all = refl; each = λ program p at. absurd (let bad : None ≡ Some p = at in cc) })

pub lacking_more : (run : RunValue) (found : List CutFound) (heads : List ProgramHead) (count : ℕ) (ps : List CaseProgram) (p : CaseProgram) → AreLacking run found heads count ps
    → IsLacking run found heads count p → AreLacking run found heads (count + 1) (ps ++ p ∷ [])
lacking_more run found heads count ps p was is =
    let all = was.all in
    record {
      all = omega (arith, all, length-append ps (p ∷ []));
      each = λ program q at. elim (slice_get_of_push ps p program q at) [
        | inl there ↦ was.each program q there
        | inr here ↦
            subst (λ (k : ℕ). IsLacking run found heads k q) (sym (here.0 ∙ all)) (subst (λ (r : CaseProgram). IsLacking run found heads count r) (sym here.1) is)
      ];
    }

-- the whole page
pub page_told : (h : HeadValue) (asked : Losses) (log : LogValue) (found : List CutFound) (run : RunValue) (none about all : List ℕ) (heads : List ProgramHead) (programs now : List CaseProgram) (bytes : List ℕ)
    → none ≡ [] → run ≡ run_with h asked log → about ≡ run_text h asked found → heads ≡ h.programs → AreLacking run found heads (length heads) programs → now ≡ programs
    → all ≡ none ++ parts_text run about now found → bytes ≡ all → IsCasePage h asked log found bytes
page_told h asked log found run none about all heads programs now bytes empty run_is text heads_are are same page is =
    record {
      programs = programs;
      are = subst (λ (r : RunValue). AreLacking r found h.programs (length h.programs) programs) run_is
          (subst (λ (hs : List ProgramHead). AreLacking run found hs (length hs) programs) heads_are are);
      page = is ∙ page ∙ (λ i. empty i ++ parts_text (run_is i) (text i) (same i) found);
    }
