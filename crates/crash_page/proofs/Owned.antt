-- What a page takes of a program, by the images on which it fails.
use Rattle.std.proofs.Common.{ℕ, zero, suc, ◌≡◌, ◌+◌, ◌<◌, Bool, true, false, if◌then◌else◌, List, [], ◌∷◌, ◌++◌, length, length-append, filter, take, All, get_or, slice_get, Option, None, Some, refl, sym, ◌∙◌, ap, subst, inl, inr, arith}
use Rattle.std.proofs.lemmas.List.{take_more}
use Rattle.std.proofs.lemmas.List.Elements.{filter-append}
use Rattle.std.proofs.lemmas.Option.{same_Some, slice_get_within, slice_get-get_or}
use Rattle.base.proofs.Lists.{slice_get_of_push}
use Rattle.choices.specs.Sums.{StartsValue}
use Rattle.losses.specs.declared.flushes.window.Window.{Window}
use Rattle.losses.specs.declared.flushes.counted.MissingFlush.{MissingFlush}
use Rattle.losses.specs.Places.{AreWindows}
use Rattle.losses.specs.Counted.{AreMissing}
use Rattle.losses.specs.declared.cure.failure.Failure.{Failure}
use Rattle.losses.specs.FailureWindows.{if_window, windows_in}
use Rattle.losses.specs.CureText.{is_of}
use Rattle.crash_page.specs.declared.program.ProgramFailures.{ProgramFailures}
use Rattle.page_parts.specs.Judges.{judge_text}
use Rattle.crash_page.specs.Page.{AreOfRun, page_text}
use Rattle.crash_page.specs.Failing.{own_failures, IsFailing, AreFailing, IsPage}

-- the failures of a program, with one more
pub own_more : (program : ℕ) (fs : List Failure) (n : ℕ) (f : Failure) (old now : List Failure) → n < length fs → f ≡ get_or fs n f
    → old ≡ own_failures program (take n fs) → now ≡ old ++ own_failures program (f ∷ []) → now ≡ own_failures program (take (n + 1) fs)
own_more program fs n f old now within is was more =
    let taken : take (n + 1) fs ≡ take n fs ++ f ∷ [] = take_more fs n f within ∙ ap (λ (x : Failure). take n fs ++ x ∷ []) (sym is) in
    more ∙ ap (λ (xs : List Failure). xs ++ own_failures program (f ∷ [])) was ∙ sym (filter-append (is_of program) (take n fs) (f ∷ [])) ∙ ap (own_failures program) (sym taken)

-- a window of the failures of a program is one of all failures
beyond : (ws : List Window) (w : Window) (o : Option Window) → ((j : ℕ) × (slice_get ws j ≡ Some w)) → (j : ℕ) × (slice_get (if_window o ++ ws) j ≡ Some w)
beyond ws w None was = was
beyond ws w (Some v) was = (suc was.0, was.1)

front : (own ws : List Window) (w : Window) → ((k : ℕ) → slice_get own k ≡ Some w → (j : ℕ) × (slice_get ws j ≡ Some w)) → (o : Option Window) (i : ℕ)
    → slice_get (if_window o ++ own) i ≡ Some w → (j : ℕ) × (slice_get (if_window o ++ ws) j ≡ Some w)
front own ws w inner None i at = inner i at
front own ws w inner (Some v) zero at = (0, at)
front own ws w inner (Some v) (suc i) at = let was = inner i at in (suc was.0, was.1)

own_there : (p : Failure → Bool) (fs : List Failure) (i : ℕ) (w : Window) → slice_get (windows_in (filter p fs)) i ≡ Some w → (j : ℕ) × (slice_get (windows_in fs) j ≡ Some w)
own_there p [] i w at = absurd (let bad : None ≡ Some w = at in cc)
own_there p (f ∷ fs) i w at = by_test (λ k there. own_there p fs k w there) (p f) at
  where
    by_test : ((k : ℕ) → slice_get (windows_in (filter p fs)) k ≡ Some w → (j : ℕ) × (slice_get (windows_in fs) j ≡ Some w)) → (b : Bool)
        → slice_get (windows_in (if b then f ∷ filter p fs else filter p fs)) i ≡ Some w → (j : ℕ) × (slice_get (if_window f.window ++ windows_in fs) j ≡ Some w)
    by_test inner true here = front (windows_in (filter p fs)) (windows_in fs) w inner f.window i here
    by_test inner false here = beyond (windows_in fs) w f.window (inner i here)

-- so they lie in the log, too
own_inside : (n program : ℕ) (fs : List Failure) → AreWindows n (windows_in fs) → AreWindows n (windows_in (own_failures program fs))
own_inside n program fs are i w at = let there = own_there (is_of program) fs i w at in are there.0 w there.1

pub inside_of : (n program : ℕ) (fs own now : List Failure) → AreWindows n (windows_in fs) → own ≡ own_failures program fs → now ≡ own → AreWindows n (windows_in now)
inside_of n program fs own now are owns is = subst (λ (gs : List Failure). AreWindows n (windows_in gs)) (sym (is ∙ owns)) (own_inside n program fs are)

pub missing_of_own : (program : ℕ) (fs own now : List Failure) (ms : List MissingFlush) → own ≡ own_failures program fs → now ≡ own → AreMissing (windows_in now) ms
    → AreMissing (windows_in (own_failures program fs)) ms
missing_of_own program fs own now ms owns is are = subst (λ (gs : List Failure). AreMissing (windows_in gs) ms) (is ∙ owns) are

pub failing_none : (s : StartsValue) (Said : ℕ → List ℕ → Type 0) (images : ℕ → List ℕ) (outcomes : ℕ → List (List ℕ)) (fs : List Failure) (programs : List ProgramFailures) → programs ≡ []
    → AreFailing s Said images outcomes fs 0 programs
failing_none s Said images outcomes fs programs none =
    subst (λ (gs : List ProgramFailures). AreFailing s Said images outcomes fs 0 gs) (sym none)
    (record {
      all = refl;
      named = λ program f at. absurd (let bad : None ≡ Some f = at in cc);
      each = λ program f at. absurd (let bad : None ≡ Some f = at in cc);
    })

-- what fails of programs, with one more
pub failing_more : (s : StartsValue) (Said : ℕ → List ℕ → Type 0) (images : ℕ → List ℕ) (outcomes : ℕ → List (List ℕ)) (fs : List Failure) (count : ℕ) (programs : List ProgramFailures) (f : ProgramFailures)
    → AreFailing s Said images outcomes fs count programs → Said count (judge_text f.judge) → IsFailing s (images count) (outcomes count) count fs f
    → AreFailing s Said images outcomes fs (count + 1) (programs ++ f ∷ [])
failing_more s Said images outcomes fs count programs f was said is =
    let all = was.all in
    record {
      all = omega (arith, all, length-append programs (f ∷ []));
      named = λ program g at. elim (slice_get_of_push programs f program g at) [
        | inl there ↦ was.named program g there
        | inr here ↦
            subst (λ (k : ℕ). Said k (judge_text g.judge)) (sym (here.0 ∙ all))
            (subst (λ (h : ProgramFailures). Said count (judge_text h.judge)) (sym here.1) said)
      ];
      each = λ program g at. elim (slice_get_of_push programs f program g at) [
        | inl there ↦ was.each program g there
        | inr here ↦
            subst (λ (k : ℕ). IsFailing s (images k) (outcomes k) k fs g) (sym (here.0 ∙ all))
            (subst (λ (h : ProgramFailures). IsFailing s (images count) (outcomes count) count fs h) (sym here.1) is)
      ];
    }

pub taken_none : (s : StartsValue) (programs : List ProgramFailures) → programs ≡ [] → All (AreOfRun s) programs
taken_none s programs none = subst (λ (gs : List ProgramFailures). All (AreOfRun s) gs) (sym none) (λ k d lt. absurd (omega (arith, lt)))

-- what is taken, with one more
pub taken_more : (s : StartsValue) (programs : List ProgramFailures) (f : ProgramFailures) → All (AreOfRun s) programs → AreOfRun s f → All (AreOfRun s) (programs ++ f ∷ [])
taken_more s programs f are is k d lt =
    elim (slice_get_of_push programs f k (get_or (programs ++ f ∷ []) k d) (slice_get-get_or (programs ++ f ∷ []) k d lt)) [
      | inl there ↦
          let within = slice_get_within programs k (get_or (programs ++ f ∷ []) k d) there in
          subst (λ (g : ProgramFailures). AreOfRun s g) (same_Some (get_or programs k d) (get_or (programs ++ f ∷ []) k d) (sym (slice_get-get_or programs k d within) ∙ there)) (are k d within)
      | inr here ↦ subst (λ (g : ProgramFailures). AreOfRun s g) (sym here.1) is
    ]

-- the whole page
pub page_told : (about : List ℕ) (s : StartsValue) (Said : ℕ → List ℕ → Type 0) (images : ℕ → List ℕ) (outcomes : ℕ → List (List ℕ)) (fs : List Failure) (count : ℕ) (none given all : List ℕ)
    (now programs : List ProgramFailures) (bytes : List ℕ)
    → none ≡ [] → given ≡ about → AreFailing s Said images outcomes fs count programs → now ≡ programs → all ≡ none ++ page_text given s now → bytes ≡ all
    → IsPage about s Said images outcomes fs count bytes
page_told about s Said images outcomes fs count none given all now programs bytes empty head are same page is =
    record {
      programs = programs;
      are = are;
      page = is
          ∙ page
          ∙ ap (λ (bs : List ℕ). bs ++ page_text given s now) empty
          ∙ ap (λ (bs : List ℕ). page_text bs s now) head
          ∙ ap (λ (gs : List ProgramFailures). page_text about s gs) same;
    }
