-- What a run of cases says of its cure: the first case without a window, and that no flush entry stands in a window.
use Rattle.std.proofs.Common.{ℕ, zero, suc, ◌≡◌, ◌+◌, ◌-◌, ◌<◌, ◌≤◌, ◌==◌, ◌&&◌, ◌||◌, not, Bool, true, false, List, [], ◌∷◌, ◌++◌, length, map, take, slice_get, All, Option, None, Some, is_some, MatchOption, refl, sym, ◌∙◌, ap, subst, arith, append_assoc, append-nil, inl, inr}
use Rattle.std.specs.List.{flat_map}
use Rattle.std.specs.Option.{option_map, option_or}
use Rattle.std.proofs.lemmas.List.{map-append}
use Rattle.std.proofs.lemmas.List.Concat.{flat_map-append}
use Rattle.std.proofs.lemmas.List.Elements.{All-head, All-tail}
use Rattle.base.proofs.Lists.{slice_get_of_append}
use Rattle.logfmt.specs.Bounds.{LogValue}
use Rattle.logfmt.specs.declared.entry.Entry.{Entry}
use Rattle.epochs.specs.declared.part.Part.{Part}
use Rattle.epochs.specs.declared.part.By.{By}
use Rattle.epochs.specs.Units.{is_forced, is_flush_between}
use Rattle.report.specs.Report.{HeadValue}
use Rattle.losses.specs.declared.flushes.window.Window.{Window}
use Rattle.losses.specs.declared.cure.failure.Failure.{Failure}
use Rattle.losses.specs.Places.{Holds, AreWindows}
use Rattle.losses.specs.FailureWindows.{if_window, own_window, windows_in, HoldNoFlush}
use Rattle.cases.specs.Risk.{is_at_risk}
use Rattle.cases.specs.AtCut.{CutValue, parts_of, case_of}
use Rattle.cases.specs.Cases.{Case}
use Rattle.losses.specs.declared.found.FailingCase.{FailingCase}
use Rattle.losses.specs.declared.found.Losses.{Losses}
use Rattle.losses.specs.declared.found.CaseFindings.{CaseFindings}
use Rattle.losses.specs.declared.found.CutFound.{CutFound}
use Rattle.losses.specs.FoundCases.{failing_value}
use Rattle.case_text.specs.Known.{KnownValue, known_of}
use Rattle.case_text.specs.Window.{last_staying, later, between, case_window}
use Rattle.case_text.specs.Laws.{IsWindow, HasNoWindow}
use Rattle.case_text.specs.Why.{ToldValue, by_program, program_failures, found_failures, cut_failures, all_failures, failure_of, told_of}
use Rattle.case_text.specs.Cured.{begin_text, cure_begin, all_uncured}
use Rattle.case_text.proofs.Failures.{program_next}
use Rattle.case_text.proofs.Taking.{risky_told, flush_there}
use Rattle.case_text.proofs.Windowed.{window_is_told}

-- the window of a case, by what was read of it
pub window_read : (at : CutValue) (tears torn : Bool) (parts : List Part) (own sets : List ℕ) (known : KnownValue) (window : Option Window)
    → torn ≡ tears → parts ≡ parts_of at → own ≡ sets → known ≡ known_of torn (case_of torn parts own) parts → window ≡ between known.first_lost (later (last_staying at) known.last_arrived)
    → window ≡ case_window at (case_of tears (parts_of at) sets)
window_read at tears torn parts own sets known window torn_is parts_are sets_are known_is window_is =
    let read : known ≡ known_of tears (case_of tears (parts_of at) sets) (parts_of at) =
    known_is ∙ (λ i. known_of (torn_is i) (case_of (torn_is i) (parts_are i) (sets_are i)) (parts_are i)) in
    window_is ∙ ap (λ (k : KnownValue). between k.first_lost (later (last_staying at) k.last_arrived)) read

-- what is kept stays
pub some_stays : {S A : Type 0} (f : S → A) (o : Option S) (x : A) → is_some o ≡ true → option_map f o ≡ option_or (option_map f o) (Some x)
some_stays f None x is = absurd (let bad : false ≡ true = is in cc)
some_stays f (Some s) x is = refl

pub none_keeps : {S A : Type 0} (f : S → A) (o : Option S) (x : A) → is_some o ≡ false → Some x ≡ option_or (option_map f o) (Some x)
none_keeps f None x is = refl
none_keeps f (Some s) x is = absurd (let bad : true ≡ false = is in cc)

pub or_none : {A : Type 0} (o : Option A) → o ≡ option_or o None
or_none None = refl
or_none (Some x) = refl

-- the first of what is kept already and of more
kept_more : {A : Type 0} (o : Option A) (xs ys : List A) (was now : Option A) → was ≡ option_or o (slice_get xs 0) → now ≡ option_or was (slice_get ys 0) → now ≡ option_or o (slice_get (xs ++ ys) 0)
kept_more None [] ys was now before after = after ∙ ap (λ w. option_or w (slice_get ys 0)) before
kept_more None (x ∷ xs) ys was now before after = after ∙ ap (λ w. option_or w (slice_get ys 0)) before
kept_more (Some a) xs ys was now before after = after ∙ ap (λ w. option_or w (slice_get ys 0)) before

-- with what one more element has
pub kept_next : {X A : Type 0} (f : X → List A) (xs : List X) (n : ℕ) (x y : X) (o was now : Option A) → take (n + 1) xs ≡ take n xs ++ x ∷ [] → y ≡ x
    → was ≡ option_or o (slice_get (flat_map f (take n xs)) 0) → now ≡ option_or was (slice_get (f y) 0) → now ≡ option_or o (slice_get (flat_map f (take (n + 1) xs)) 0)
kept_next f xs n x y o was now more same before after =
    kept_more o (flat_map f (take n xs)) (f x) was now before (after ∙ ap (λ z. option_or was (slice_get (f z) 0)) same)
    ∙ ap (λ ys. option_or o (slice_get ys 0))
    (sym (ap (flat_map f) more ∙ flat_map-append f (take n xs) (x ∷ []) ∙ ap (λ ys. flat_map f (take n xs) ++ ys) (append-nil (f x))))

-- with what one more program has
pub kept_program : {A : Type 0} (own : ℕ → CaseFindings → List A) (fs : List CaseFindings) (n : ℕ) (x y : CaseFindings) (o was now : Option A) → take (n + 1) fs ≡ take n fs ++ x ∷ [] → length (take n fs) ≡ n → y ≡ x
    → was ≡ option_or o (slice_get (by_program own 0 (take n fs)) 0) → now ≡ option_or was (slice_get (own n y) 0) → now ≡ option_or o (slice_get (by_program own 0 (take (n + 1) fs)) 0)
kept_program own fs n x y o was now more long same before after =
    kept_more o (by_program own 0 (take n fs)) (own n y) was now before after
    ∙ ap (λ ys. option_or o (slice_get ys 0))
    (program_next own fs n x y [] (by_program own 0 (take n fs)) (by_program own 0 (take n fs) ++ own n y) more long same refl refl)

-- a list of what each element has, with one more
pub lists_next : {X A : Type 0} (f : X → List A) (xs : List X) (n : ℕ) (x y : X) (first before after : List A) → take (n + 1) xs ≡ take n xs ++ x ∷ [] → y ≡ x
    → before ≡ first ++ flat_map f (take n xs) → after ≡ before ++ f y → after ≡ first ++ flat_map f (take (n + 1) xs)
lists_next f xs n x y first before after more same was is =
    is ∙ ap (λ z. before ++ f z) same ∙ ap (λ ys. ys ++ f x) was ∙ append_assoc first (flat_map f (take n xs)) (f x)
    ∙ ap (λ ys. first ++ ys) (sym (ap (flat_map f) more ∙ flat_map-append f (take n xs) (x ∷ []) ∙ ap (λ ys. flat_map f (take n xs) ++ ys) (append-nil (f x))))

-- the failures of a program, with one more
pub failures_next : (at : CutValue) (tears : Bool) (program : ℕ) (xs : List FailingCase) (n : ℕ) (x y : FailingCase) (first before after : List Failure) → take (n + 1) xs ≡ take n xs ++ x ∷ [] → y ≡ x
    → before ≡ first ++ program_failures at tears program (take n xs) → after ≡ before ++ failure_of program (told_of at tears (failing_value y)) ∷ []
    → after ≡ first ++ program_failures at tears program (take (n + 1) xs)
failures_next at tears program xs n x y first before after more same was is =
    let own : FailingCase → ToldValue = λ f. told_of at tears (failing_value f) in
    let last : Failure = failure_of program (own x) in
    let pushed : program_failures at tears program (take n xs ++ x ∷ []) ≡ program_failures at tears program (take n xs) ++ last ∷ [] =
    ap (map (failure_of program)) (map-append own (take n xs) (x ∷ [])) ∙ map-append (failure_of program) (map own (take n xs)) (own x ∷ []) in
    is ∙ ap (λ (z : FailingCase). before ++ failure_of program (own z) ∷ []) same ∙ ap (λ ys. ys ++ last ∷ []) was ∙ append_assoc first (program_failures at tears program (take n xs)) (last ∷ [])
    ∙ ap (λ ys. first ++ ys) (sym (ap (program_failures at tears program) more ∙ pushed))

-- no window holds a flush entry

both_calm : (es : List Entry) (ws vs : List Window) → HoldNoFlush es ws → HoldNoFlush es vs → HoldNoFlush es (ws ++ vs)
both_calm es ws vs one two i w p e at holds there = elim (slice_get_of_append ws vs i w at) [ inl early ↦ one i w p e early.1 holds there | inr late ↦ two (i - length ws) w p e late.1 holds there ]

none_calm : (es : List Entry) → HoldNoFlush es []
none_calm es i w p e at holds there = absurd (let bad : None ≡ Some w = at in cc)

-- what is at risk has no flush entry after it
no_flush : (es : List Entry) (k f p : ℕ) (e : Entry) → k ≤ length es → is_at_risk es k f ≡ true → f < p → p < k → slice_get es p ≡ Some e → e.flags.flush ≡ false
no_flush es k f p e within risk low high there = by_flag e.flags.flush refl
  where
    and_no : (b : Bool) → (b && false) ≡ false
    and_no true = refl
    and_no false = refl

    by_flag : (b : Bool) → e.flags.flush ≡ b → b ≡ false
    by_flag false is = refl
    by_flag true is =
        let between : is_flush_between es f k ≡ true = flush_there es f p k e there is low high within in
        let calm : is_at_risk es k f ≡ false =
        ap (λ b. (not (is_forced es f) || (f + 1 == k)) && not b) between ∙ and_no (not (is_forced es f) || (f + 1 == k)) in
        sym risk ∙ calm

case_calm : (at : CutValue) (c : Case) → at.cut ≤ length at.log.entries → HoldNoFlush at.log.entries (if_window (case_window at c))
case_calm at c within = by_window (case_window at c) (window_is_told at c within)
  where
    by_window : (o : Option Window) → MatchOption o (HasNoWindow at c) (IsWindow at c) → HoldNoFlush at.log.entries (if_window o)
    by_window None none = none_calm at.log.entries
    by_window (Some w) is = one w is
      where
        one : (v : Window) → IsWindow at c v → HoldNoFlush at.log.entries (v ∷ [])
        one v own i u p e here holds there = by_place i here
          where
            by_place : (j : ℕ) → slice_get (v ∷ []) j ≡ Some u → e.flags.flush ≡ false
            by_place zero found =
                let same : v ≡ u = (let s : Some v ≡ Some u = found in cc) in
                let from : v.start ≤ p = subst (λ (z : Window). z.start ≤ p) (sym same) holds.from in
                let to : p ≤ v.end = subst (λ (z : Window). p ≤ z.end) (sym same) holds.to in
                let start = own.start in
                let before = own.before in
                no_flush at.log.entries at.cut own.first.entry p e within (risky_told at.way at.log.entries at.cut own.first own.risky).1 (omega (arith, start, from)) (omega (arith, before, to)) there
            by_place (suc j) found = absurd (let bad : None ≡ Some u = found in cc)

failures_calm : (es : List Entry) (fs gs : List Failure) → HoldNoFlush es (windows_in fs) → HoldNoFlush es (windows_in gs) → HoldNoFlush es (windows_in (fs ++ gs))
failures_calm es fs gs one two = subst (HoldNoFlush es) (sym (flat_map-append own_window fs gs)) (both_calm es (windows_in fs) (windows_in gs) one two)

program_calm : (at : CutValue) (tears : Bool) (program : ℕ) (failing : List FailingCase) → at.cut ≤ length at.log.entries
    → HoldNoFlush at.log.entries (windows_in (program_failures at tears program failing))
program_calm at tears program [] within = none_calm at.log.entries
program_calm at tears program (f ∷ failing) within =
    both_calm at.log.entries (own_window (failure_of program (told_of at tears (failing_value f)))) (windows_in (program_failures at tears program failing))
    (case_calm at (case_of tears (parts_of at) (failing_value f).sets) within) (program_calm at tears program failing within)

each_calm : (at : CutValue) (tears : Bool) (program : ℕ) (fs : List CaseFindings) → at.cut ≤ length at.log.entries
    → HoldNoFlush at.log.entries (windows_in (by_program (found_failures at tears) program fs))
each_calm at tears program [] within = none_calm at.log.entries
each_calm at tears program (f ∷ fs) within =
    failures_calm at.log.entries (found_failures at tears program f) (by_program (found_failures at tears) (program + 1) fs)
    (program_calm at tears program f.failing.items within) (each_calm at tears (program + 1) fs within)

pub all_calm : (log : LogValue) (way : By) (tears : Bool) (found : List CutFound) → All (λ (c : CutFound). c.cut ≤ length log.entries) found
    → HoldNoFlush log.entries (windows_in (all_failures log way tears found))
all_calm log way tears [] within = none_calm log.entries
all_calm log way tears (c ∷ found) within =
    failures_calm log.entries (cut_failures log way tears c) (all_failures log way tears found)
    (each_calm (record { log = log; way = way; cut = c.cut }) tears 0 c.programs.items (All-head (λ (d : CutFound). d.cut ≤ length log.entries) c found within))
    (all_calm log way tears found (All-tail (λ (d : CutFound). d.cut ≤ length log.entries) c found within))

-- how the text begins
pub begin_told : (h : HeadValue) (asked : Losses) (log : LogValue) (found : List CutFound) (fs gs : List Failure) (first : Option (List ℕ)) (bytes : List ℕ) → fs ≡ all_failures log h.by asked.tears found
    → gs ≡ fs → first ≡ slice_get (all_uncured log h.by asked.tears found) 0 → bytes ≡ begin_text h asked gs first → bytes ≡ cure_begin h asked log found
begin_told h asked log found fs gs first bytes failures same kept is = is ∙ (λ i. begin_text h asked ((same ∙ failures) i) (kept i))
