-- The cure of a log, tried, has one text.
use Rattle.std.proofs.Common.{ℕ, zero, suc, ◌≡◌, ◌+◌, ◌<◌, ◌≤◌, inl, inr, Bool, false, Option, None, List, [], ◌∷◌, ◌++◌, length, take, length-append, Some, slice_get, refl, sym, ◌∙◌, ap, subst, arith}
use Rattle.logfmt.specs.Bounds.{LogValue}
use Rattle.logfmt.specs.Flushed.{with_flushes}
use Rattle.logfmt.specs.declared.entry.Entry.{Entry}
use Rattle.epochs.specs.declared.part.By.{By}
use Rattle.epochs.specs.Cuts.{cuts_of}
use Rattle.choices.specs.Picks.{fates_of}
use Rattle.choices.specs.Choices.{choices_at, choices_over, ranked_before, limit, IsFirstPast}
use Rattle.checker.specs.Checker.{CheckerValue}
use Rattle.losses.specs.declared.flushes.window.Window.{Window}
use Rattle.losses.specs.declared.flushes.counted.MissingFlush.{MissingFlush}
use Rattle.losses.specs.Counted.{AreMissing}
use Rattle.losses.specs.declared.cure.failure.Failure.{Failure}
use Rattle.losses.specs.FailureWindows.{windows_in, places_in}
use Rattle.losses.specs.CureText.{begin_text, uncured_text, rounds_text, refused_line}
use Rattle.case_runs.specs.Found.{FindingIsOne}
use Rattle.request.specs.declared.any_losses.AnyLosses.{AnyLosses}
use Rattle.request.specs.declared.settings.Settings.{Settings}
use Rattle.request.specs.Source.{plan_of}
use Rattle.runs.specs.Explore.{head_of}
use Rattle.runs.specs.Why.{with_first}
use Rattle.case_runs.specs.Cuts.{case_cuts}
use Rattle.runs.specs.CaseCuts.{losses_of}
use Rattle.runs.specs.Cured.{run_lines, Finds, IsPast, IsRound, AreRounds, with_rounds, Ends, with_totals, with_refusal, TellsRounds, TellsCure, Cures}
use Rattle.commands.proofs.OneMissing.{one_end, same_failures, same_missing}
use Rattle.commands.proofs.OneReport.{not_past, same_test}
use Rattle.case_text.specs.Text.{are_all_cuts}
use Rattle.commands.proofs.OneCases.{cuts_same, failures_same, cure_begins, totals_same, not_many}
use Rattle.commands.proofs.OneFirst.{many_once}

-- more cuts have no fewer choices
more_over : (way : By) (es : List Entry) (m bound place : ℕ) (k n : ℕ) (cuts : List ℕ) → k ≤ n
    → length (choices_over way es m bound place (take k cuts)) ≤ length (choices_over way es m bound place (take n cuts))
unfolding choices_over
more_over way es m bound place zero n cuts few = omega arith
more_over way es m bound place (suc k) zero cuts few = absurd (omega (arith, few))
more_over way es m bound place (suc k) (suc n) [] few = omega arith
more_over way es m bound place (suc k) (suc n) (cut ∷ cuts) few =
    omega (
      arith,
      more_over way es m bound (place + 1) k n cuts (omega (arith, few)),
      length-append (choices_at way es m bound place cut) (choices_over way es m bound (place + 1) (take k cuts)),
      length-append (choices_at way es m bound place cut) (choices_over way es m bound (place + 1) (take n cuts)),
    )

not_later : (s : Settings) (value : LogValue) (c d : ℕ) (a : IsFirstPast (plan_of s value) s.bound s.tears c) (b : IsFirstPast (plan_of s value) s.bound s.tears d)
    → a.place < b.place → ⊥
unfolding ranked_before
not_later s value c d a b less =
    let past = a.past in
    let before = b.before in
    let more = more_over s.by value.entries (fates_of s.tears) s.bound 0 (a.place + 1) b.place (cuts_of s.cuts value.entries) (omega (arith, less)) in
    omega (arith, past, before, more)

-- the cut with which there are too many images is one
same_past : (s : Settings) (value : LogValue) (c d : ℕ) → IsFirstPast (plan_of s value) s.bound s.tears c → IsFirstPast (plan_of s value) s.bound s.tears d → c ≡ d
same_past s value c d a b =
    let place : a.place ≡ b.place = one_end a.place b.place (not_later s value c d a b) (not_later s value d c b a) in
    let both : Some c ≡ Some d = sym a.wanted ∙ ap (λ n. slice_get (cuts_of s.cuts value.entries) n) place ∙ b.wanted in
    cc

-- what a run finds is one
record SameFinds (fs gs : List Failure) (begin begun last ended : List ℕ) : Type 0 where
  pub failures : fs ≡ gs
  pub begins : begin ≡ begun
  pub ends : last ≡ ended

images_begin : Settings → List CheckerValue → LogValue → List Failure → List ℕ
images_begin s cs value fs = begin_text (head_of (with_first false s) value cs) fs ++ uncured_text (run_lines s cs value) fs

same_finds : FindingIsOne → (o : Option AnyLosses) (s : Settings) (cs : List CheckerValue) (value : LogValue) (fs gs : List Failure) (begin begun last ended : List ℕ)
    → Finds o s cs value fs begin last → Finds o s cs value gs begun ended → SameFinds fs gs begin begun last ended
unfolding head_of images_begin
same_finds one None s cs value fs gs begin begun last ended a b =
    let failures = same_failures s.by value.entries (run_lines s cs value) fs gs a.fail b.fail in
    let text : images_begin s cs value fs ≡ images_begin s cs value gs = ap (images_begin s cs value) failures in
    record { failures = failures; begins = a.begins ∙ text ∙ sym b.begins; ends = a.ends ∙ sym b.ends }
same_finds one (Some l) s cs value fs gs begin begun last ended a b =
    let same = cuts_same one (losses_of l s) value s.by (case_cuts l.at_most s.cuts value.entries) cs a.found b.found a.are b.are in
    record {
      failures = a.fail ∙ failures_same value s.by s.tears a.found b.found same ∙ sym b.fail;
      begins = a.begins ∙ cure_begins (head_of (with_first false s) value cs) (losses_of l s) value a.found b.found same ∙ sym b.begins;
      ends = a.ends ∙ totals_same (are_all_cuts s.cuts) value s.by s.tears a.found b.found same ∙ sym b.ends;
    }

-- and where it finds something there aren't too many images or cases
finds_few : FindingIsOne → (o : Option AnyLosses) (s : Settings) (cs : List CheckerValue) (value : LogValue) (fs : List Failure) (begin last : List ℕ) (cut : ℕ)
    → Finds o s cs value fs begin last → IsPast o s cs value cut → ⊥
finds_few one None s cs value fs begin last cut h past = not_past limit s value cut h.few past
finds_few one (Some l) s cs value fs begin last cut h past = elim past [
  | inl images ↦ not_past limit s value cut h.images images
  | inr cases ↦ not_many one (losses_of l s) value s.by (case_cuts l.at_most s.cuts value.entries) cs h.found cut h.are h.few cases.1
]

-- the cut with which there are too many is one
same_cut : FindingIsOne → (o : Option AnyLosses) (s : Settings) (cs : List CheckerValue) (value : LogValue) (c d : ℕ) → IsPast o s cs value c → IsPast o s cs value d → c ≡ d
same_cut one None s cs value c d a b = same_past s value c d a b
same_cut one (Some l) s cs value c d a b = elim a [
  | inl images ↦ elim b [ inl others ↦ same_past s value c d images others | inr cases ↦ absurd (not_past limit s value c cases.0 images) ]
  | inr cases ↦ elim b [
    | inl images ↦ absurd (not_past limit s value d cases.0 images)
    | inr others ↦ many_once one (losses_of l s) value s.by (case_cuts l.at_most s.cuts value.entries) cs c d cases.1 others.1
  ]
]

-- the last run says one thing
same_end : FindingIsOne → (o : Option AnyLosses) (s : Settings) (cs : List CheckerValue) (value : LogValue) (end other : List ℕ) → Ends o s cs value end → Ends o s cs value other → end ≡ other
same_end one o s cs value _ _ (with_totals fs begin last finds none) (with_totals gs begun ended found nothing) = (same_finds one o s cs value fs gs begin begun last ended finds found).ends
same_end one o s cs value _ _ (with_totals fs begin last finds none) (with_refusal cut past) = absurd (finds_few one o s cs value fs begin last cut finds past)
same_end one o s cs value _ _ (with_refusal cut past) (with_totals fs begin last finds none) = absurd (finds_few one o s cs value fs begin last cut finds past)
same_end one o s cs value _ _ (with_refusal cut past) (with_refusal other beyond) = ap refused_line (same_cut one o s cs value cut other past beyond)

-- after the last run there is no round
no_round : FindingIsOne → (o : Option AnyLosses) (s : Settings) (cs : List CheckerValue) (value : LogValue) (ms : List MissingFlush) (end : List ℕ) → IsRound o s cs value ms → Ends o s cs value end → ⊥
no_round one o s cs value ms _ round (with_totals fs begin last finds none) =
    round.some (ap windows_in (same_finds one o s cs value round.failures fs round.begin begin round.last last round.finds finds).failures ∙ none)
no_round one o s cs value ms _ round (with_refusal cut past) = finds_few one o s cs value round.failures round.begin round.last cut round.finds past

same_round : FindingIsOne → (o : Option AnyLosses) (s : Settings) (cs : List CheckerValue) (value : LogValue) (ms ns : List MissingFlush) → IsRound o s cs value ms → IsRound o s cs value ns → ms ≡ ns
same_round one o s cs value ms ns a b =
    let windows = ap windows_in (same_finds one o s cs value a.failures b.failures a.begin b.begin a.last b.last a.finds b.finds).failures in
    same_missing (windows_in a.failures) ms ns a.missing (subst (λ (ws : List Window). AreMissing ws ns) (sym windows) b.missing)

-- the rounds from a log on, and the last run
pub record Rounds (o : Option AnyLosses) (s : Settings) (cs : List CheckerValue) (value : LogValue) (rounds : List (List MissingFlush)) (end : List ℕ) : Type 0 where
  pub are : AreRounds o s cs value rounds
  pub ends : Ends o s cs (with_rounds value rounds) end

same_rounds : FindingIsOne → (o : Option AnyLosses) (s : Settings) (cs : List CheckerValue) (value : LogValue) (rs qs : List (List MissingFlush)) (end other : List ℕ)
    → Rounds o s cs value rs end → Rounds o s cs value qs other → (rs ≡ qs) × (end ≡ other)
same_rounds one o s cs value [] [] end other a b = (refl, same_end one o s cs value end other a.ends b.ends)
same_rounds one o s cs value [] (q ∷ qs) end other a b = absurd (no_round one o s cs value q end b.are.0 a.ends)
same_rounds one o s cs value (r ∷ rs) [] end other a b = absurd (no_round one o s cs value r other a.are.0 b.ends)
same_rounds one o s cs value (r ∷ rs) (q ∷ qs) end other a b =
    let same : r ≡ q = same_round one o s cs value r q a.are.0 b.are.0 in
    let beyond : Rounds o s cs (with_flushes (places_in q) value) qs other = record { are = b.are.1; ends = b.ends } in
    let moved : Rounds o s cs (with_flushes (places_in r) value) qs other = subst (λ (ms : List MissingFlush). Rounds o s cs (with_flushes (places_in ms) value) qs other) (sym same) beyond in
    let own : Rounds o s cs (with_flushes (places_in r) value) rs end = record { are = a.are.1; ends = a.ends } in
    let rest = same_rounds one o s cs (with_flushes (places_in r) value) rs qs end other own moved in
    (λ i. same i ∷ rest.0 i, rest.1)

same_tale : FindingIsOne → (o : Option AnyLosses) (s : Settings) (cs : List CheckerValue) (value : LogValue) (number : ℕ) (text other : List ℕ) → TellsRounds o s cs value number text
    → TellsRounds o s cs value number other → text ≡ other
same_tale one o s cs value number text other a b =
    let same = same_rounds one o s cs value a.rounds b.rounds a.end b.end (record { are = a.are; ends = a.ends }) (record { are = b.are; ends = b.ends }) in
    let told : rounds_text number a.rounds ++ a.end ≡ rounds_text number b.rounds ++ b.end = λ i. rounds_text number (same.0 i) ++ same.1 i in
    a.told ∙ told ∙ sym b.told

-- the whole text is one
pub one_cure : FindingIsOne → (o : Option AnyLosses) (s : Settings) (value : LogValue) (cs : List CheckerValue) (bytes others : List ℕ) → TellsCure o s value cs bytes → TellsCure o s value cs others → bytes ≡ others
one_cure one o s value cs bytes others a b =
    let begins = (same_finds one o s cs value a.failures b.failures a.begin b.begin a.last b.last a.finds b.finds).begins in
    let rounds = same_tale one o s cs value 1 a.rounds b.rounds a.tells b.tells in
    let same : a.begin ++ a.rounds ≡ b.begin ++ b.rounds = λ i. begins i ++ rounds i in
    a.text ∙ same ∙ sym b.text

-- and so is whether the first run has a failure
pub one_cures : FindingIsOne → (o : Option AnyLosses) (s : Settings) (value : LogValue) (cs : List CheckerValue) (bytes others : List ℕ) (failing fails : Bool) → Cures o s value cs bytes failing
    → Cures o s value cs others fails → (bytes ≡ others) × (failing ≡ fails)
one_cures one o s value cs bytes others failing fails a b =
    let p = a.tells in
    let q = b.tells in
    let failures = (same_finds one o s cs value p.failures q.failures p.begin q.begin p.last q.last p.finds q.finds).failures in
    (one_cure one o s value cs bytes others p q, same_test failing fails p.failures q.failures a.fails b.fails failures)
