-- The failing cases of a run as failures, one program after the other.
use Rattle.std.proofs.Common.{ℕ, zero, suc, ◌≡◌, ◌+◌, ◌-◌, ◌<◌, ◌≤◌, Bool, List, [], ◌∷◌, ◌++◌, length, take, slice_get, All, Option, None, Some, MatchOption, sym, ◌∙◌, ap, arith, append_assoc, append-nil, inl, inr, subst}
use Rattle.std.proofs.lemmas.List.Concat.{flat_map-append}
use Rattle.std.proofs.lemmas.List.Elements.{All-head, All-tail}
use Rattle.base.proofs.Lists.{slice_get_of_append}
use Rattle.logfmt.specs.Bounds.{LogValue}
use Rattle.epochs.specs.declared.part.By.{By}
use Rattle.losses.specs.declared.flushes.window.Window.{Window}
use Rattle.losses.specs.declared.cure.failure.Failure.{Failure}
use Rattle.losses.specs.Places.{AreWindows}
use Rattle.losses.specs.FailureWindows.{if_window, own_window, windows_in}
use Rattle.cases.specs.AtCut.{CutValue, parts_of, case_of}
use Rattle.cases.specs.Cases.{Case}
use Rattle.losses.specs.declared.found.FailingCase.{FailingCase}
use Rattle.losses.specs.declared.found.CaseFindings.{CaseFindings}
use Rattle.losses.specs.declared.found.CutFound.{CutFound}
use Rattle.losses.specs.FoundCases.{failing_value}
use Rattle.case_text.specs.Window.{case_window}
use Rattle.case_text.specs.Laws.{IsWindow, HasNoWindow}
use Rattle.case_text.specs.Why.{by_program, program_failures, found_failures, cut_failures, all_failures, failure_of, told_of}
use Rattle.case_text.proofs.Windowed.{window_is_told}

by_program-push : {A : Type 0} (own : ℕ → CaseFindings → List A) (n : ℕ) (fs : List CaseFindings) (x : CaseFindings) → by_program own n (fs ++ x ∷ []) ≡ by_program own n fs ++ own (n + length fs) x
by_program-push own n [] x = append-nil (own n x) ∙ ap (λ m. own m x) (let e : n ≡ n + 0 = omega arith in e)
by_program-push own n (f ∷ fs) x =
    ap (λ ys. own n f ++ ys)
    (by_program-push own (n + 1) fs x ∙ ap (λ m. by_program own (n + 1) fs ++ own m x) (let e : n + 1 + length fs ≡ n + suc (length fs) = omega arith in e))
    ∙ sym (append_assoc (own n f) (by_program own (n + 1) fs) (own (n + suc (length fs)) x))

pub program_next : {A : Type 0} (own : ℕ → CaseFindings → List A) (fs : List CaseFindings) (n : ℕ) (x y : CaseFindings) (first before after : List A)
    → take (n + 1) fs ≡ take n fs ++ x ∷ [] → length (take n fs) ≡ n → y ≡ x
    → before ≡ first ++ by_program own 0 (take n fs) → after ≡ before ++ own n y → after ≡ first ++ by_program own 0 (take (n + 1) fs)
program_next own fs n x y first before after more long same was is =
    is ∙ ap (λ (z : CaseFindings). before ++ own n z) same
    ∙ ap (λ ys. ys ++ own n x) was
    ∙ append_assoc first (by_program own 0 (take n fs)) (own n x)
    ∙ ap (λ m. first ++ (by_program own 0 (take n fs) ++ own m x)) (let e : n ≡ 0 + length (take n fs) = omega (arith, long) in e)
    ∙ ap (λ ys. first ++ ys) (sym (by_program-push own 0 (take n fs) x) ∙ ap (by_program own 0) (sym more))

-- windows inside of a log
both_inside : (n : ℕ) (ws vs : List Window) → AreWindows n ws → AreWindows n vs → AreWindows n (ws ++ vs)
both_inside n ws vs one two i w at = elim (slice_get_of_append ws vs i w at) [ inl early ↦ one i w early.1 | inr late ↦ two (i - length ws) w late.1 ]

pub none_inside : (n : ℕ) → AreWindows n []
none_inside n i w at = absurd (let bad : None ≡ Some w = at in cc)

case_inside : (at : CutValue) (c : Case) → at.cut ≤ length at.log.entries → AreWindows (length at.log.entries) (if_window (case_window at c))
case_inside at c within = by_window (case_window at c) (window_is_told at c within)
  where
    by_window : (o : Option Window) → MatchOption o (HasNoWindow at c) (IsWindow at c) → AreWindows (length at.log.entries) (if_window o)
    by_window None none = none_inside (length at.log.entries)
    by_window (Some w) is = one w is
      where
        one : (v : Window) → IsWindow at c v → AreWindows (length at.log.entries) (v ∷ [])
        one v own i u here = by_place i here
          where
            by_place : (j : ℕ) → slice_get (v ∷ []) j ≡ Some u → (1 ≤ u.start) × (u.start ≤ u.end) × (u.end < length at.log.entries)
            by_place zero there =
                let same : v ≡ u = (let e : Some v ≡ Some u = there in cc) in
                let start = own.start in
                let before = own.before in
                subst (λ (z : Window). (1 ≤ z.start) × (z.start ≤ z.end) × (z.end < length at.log.entries)) same (omega (arith, start), own.order, omega (arith, before, within))
            by_place (suc j) there = absurd (let bad : None ≡ Some u = there in cc)

pub program_inside : (at : CutValue) (tears : Bool) (program : ℕ) (failing : List FailingCase) → at.cut ≤ length at.log.entries
    → AreWindows (length at.log.entries) (windows_in (program_failures at tears program failing))
program_inside at tears program [] within = none_inside (length at.log.entries)
program_inside at tears program (f ∷ failing) within =
    both_inside (length at.log.entries) (own_window (failure_of program (told_of at tears (failing_value f)))) (windows_in (program_failures at tears program failing))
    (case_inside at (case_of tears (parts_of at) (failing_value f).sets) within) (program_inside at tears program failing within)

pub failures_both : (n : ℕ) (fs gs : List Failure) → AreWindows n (windows_in fs) → AreWindows n (windows_in gs) → AreWindows n (windows_in (fs ++ gs))
failures_both n fs gs one two = subst (AreWindows n) (sym (flat_map-append own_window fs gs)) (both_inside n (windows_in fs) (windows_in gs) one two)

each_inside : (at : CutValue) (tears : Bool) (program : ℕ) (fs : List CaseFindings) → at.cut ≤ length at.log.entries
    → AreWindows (length at.log.entries) (windows_in (by_program (found_failures at tears) program fs))
each_inside at tears program [] within = none_inside (length at.log.entries)
each_inside at tears program (f ∷ fs) within =
    failures_both (length at.log.entries) (found_failures at tears program f) (by_program (found_failures at tears) (program + 1) fs)
    (program_inside at tears program f.failing.items within) (each_inside at tears (program + 1) fs within)

pub all_inside : (log : LogValue) (way : By) (tears : Bool) (found : List CutFound) → All (λ (c : CutFound). c.cut ≤ length log.entries) found
    → AreWindows (length log.entries) (windows_in (all_failures log way tears found))
all_inside log way tears [] within = none_inside (length log.entries)
all_inside log way tears (c ∷ found) within =
    failures_both (length log.entries) (cut_failures log way tears c) (all_failures log way tears found)
    (each_inside (record { log = log; way = way; cut = c.cut }) tears 0 c.programs.items (All-head (λ (d : CutFound). d.cut ≤ length log.entries) c found within))
    (all_inside log way tears found (All-tail (λ (d : CutFound). d.cut ≤ length log.entries) c found within))
