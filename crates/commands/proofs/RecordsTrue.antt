-- What the text of `explore --known` says of a program, where its records are true.
use Rattle.std.proofs.Common.{ℕ, ◌≡◌, ◌+◌, ◌≤◌, ◌&&◌, ◌||◌, not, Bool, true, false, List, [], ◌∷◌, ◌++◌, length, slice_get, Option, None, Some, is_some, refl, sym, ◌∙◌, subst, arith, append_assoc}
use Rattle.std.specs.List.{flat_map}
use Rattle.std.proofs.lemmas.Bool.{false≢true}
use Rattle.logfmt.specs.Bounds.{LogValue}
use Rattle.logfmt.specs.declared.entry.Entry.{Entry}
use Rattle.epochs.specs.declared.cuts.Cuts.{Cuts}
use Rattle.epochs.specs.declared.cuts.CutKind.{CutKind}
use Rattle.epochs.specs.declared.cuts.CutKind.TheVariants as kind
use Rattle.epochs.specs.Cuts.{is_of_kind, is_after_first, is_before_last}
use Rattle.machine.specs.Outcome.{Ending, fails}
use Rattle.cases.specs.Choices.{Choice}
use Rattle.cases.specs.Laws.{IsChoice, LastCutsHaveAll}
use Rattle.report.specs.Report as report
use Rattle.case_text.specs.Text.{are_all_cuts, is_each_cut}
use Rattle.losses.specs.declared.found.Losses.{Losses}
use Rattle.known.specs.Records.{RecordsValue}
use Rattle.known.specs.declared.found.KnownAt.{KnownAt}
use Rattle.known.specs.declared.found.KnownFailing.{KnownFailing}
use Rattle.known.specs.Found.{IsKnownAt}
use Rattle.known.specs.Laws.{FoundFail, CompleteHasAll, IsInFailingOf, truth_at}
use Rattle.known_text.specs.Texts.{HeadValue}
use Rattle.request.proofs.Logs.{bounds_of}
use Rattle.request.specs.declared.command.Request.TheVariants as request
use Rattle.request.specs.declared.settings.KnownTelling.{KnownTelling}
use Rattle.request.specs.declared.settings.KnownTelling.TheVariants as telling
use Rattle.request.specs.declared.settings.Settings.{Settings}
use Rattle.request.specs.Inputs.{head_given}
use Rattle.request.specs.Known.{known_asked}
use Rattle.known_runs.specs.Asked.{KnownAsked, asked_losses, asked_cuts}
use Rattle.known_runs.specs.Number.{source_of}
use Rattle.known_runs.specs.Text.{cut_lines, opening_lines, program_text, known_bytes}
use Rattle.known_runs.specs.Told.{TellsKnown, records_of}
use Rattle.known_runs.specs.Totals.{totals_of, totals_text}
use Rattle.commands.specs.Acting.{recording, search_asked, TellsRecords}
use Rattle.commands.specs.Records.{Found, TrueOf, TellTruth, IsAskedCut, IsComplete, TellEvery, SaysComplete, RecordsTellTruth, cut_in}
use Rattle.commands.proofs.RecordsEvery.{every_is_told}
use Rattle.commands.proofs.RecordsTotals.{AreClean, SaysWord, complete_at, found_there, none_failing, says_word, whole_of, zero_is_clean}

none_there : (items : List KnownFailing) (n : ℕ) (c : KnownFailing) → length items ≡ 0 → slice_get items n ≡ Some c → ⊥
none_there [] n c none there = let bad : ◌≡◌ {A = Option KnownFailing} None (Some c) = there in cc
none_there (x ∷ items) n c none there = omega (arith, none)

-- what would have to be in a failing case that isn't there is false
unless : (b : Bool) → (b ≡ true → ⊥) → b ≡ false
unless true never = absurd (never refl)
unless false never = refl

-- what the answer found
abbrev found_in : (a : KnownAsked) (bytes : List ℕ) (status : ℕ) → TellsKnown a bytes status → Found
found_in a bytes status h = record { asked = a; value = h.value; plain = h.source.reads.read; runs = h.tells.finds.runs; found = h.tells.found }

tell_truth : FoundFail → CompleteHasAll → (a : KnownAsked) (bytes : List ℕ) (status : ℕ) (h : TellsKnown a bytes status) (truth : ℕ → List (List ℕ) → Ending)
    → TrueOf (found_in a bytes status h) truth → TellTruth (found_in a bytes status h) status truth
tell_truth fail all a bytes status h truth true_of = record {
  failing = λ i k n at c choice within own there its inside. fail asked (cut_in f k) records a.stops at truth n c choice within true_of (known i k at own there) its inside;
  complete = λ i k at choice within own there whole possible failing. all asked (cut_in f k) records a.stops at truth choice within true_of (known i k at own there) whole possible failing;
  clean = λ zero_is i k choice within own possible. clean (zero_is_clean h.tells.found (sym zero_is ∙ h.tells.is)) i k choice within own possible;
}
  where
    f : Found
    f = found_in a bytes status h

    asked : Losses
    asked = asked_losses a

    records : RecordsValue
    records = records_of a f.plain f.runs

    known : (i k : ℕ) (at : KnownAt) → slice_get (asked_cuts a f.value) i ≡ Some k → slice_get f.found i ≡ Some at → IsKnownAt asked (cut_in f k) records a.stops at
    known i k at own there = h.tells.finds.finds.are.each i k at own there

    clean : AreClean h.tells.found → (i k : ℕ) (choice : Choice) → k ≤ length f.value.entries → slice_get (asked_cuts a f.value) i ≡ Some k → IsChoice a.settings.tears choice
        → fails (truth_at truth (cut_in f k) choice) ≡ false
    clean none i k choice within own possible =
        let it = found_there (asked_cuts a f.value) f.found i k h.tells.finds.finds.are.count own in
        unless (fails (truth_at truth (cut_in f k) choice)) (λ failing.
        let inside = all asked (cut_in f k) records a.stops it.0 truth choice within true_of (known i k it.0 own it.1) (complete_at f.found none.whole i it.0 it.1) possible failing in
        none_there it.0.failing.items inside.number inside.own (none_failing f.found none i it.0 it.1) inside.there)

tell_every : CompleteHasAll → LastCutsHaveAll → (a : KnownAsked) (bytes : List ℕ) (status : ℕ) (h : TellsKnown a bytes status) (truth : ℕ → List (List ℕ) → Ending)
    → TrueOf (found_in a bytes status h) truth → TellEvery (found_in a bytes status h) status truth
tell_every has_all last a bytes status h truth true_of = record {
  complete = every;
  clean = λ zero_is k choice is possible. clean (zero_is_clean h.tells.found (sym zero_is ∙ h.tells.is)) k choice is possible;
}
  where
    f : Found
    f = found_in a bytes status h

    every : IsComplete f → (k : ℕ) (choice : Choice) → IsAskedCut f k → IsChoice a.settings.tears choice → fails (truth_at truth (cut_in f k) choice) ≡ true
        → IsInFailingOf (asked_losses a) f.value a.settings.by (asked_cuts a f.value) f.found k choice (truth_at truth (cut_in f k) choice)
    every complete k choice is possible failing =
        every_is_told has_all last f truth (bounds_of a.text a.settings h.value h.source.reads) true_of h.tells.finds.finds.are complete k choice is possible failing

    clean : AreClean h.tells.found → (k : ℕ) (choice : Choice) → IsAskedCut f k → IsChoice a.settings.tears choice → fails (truth_at truth (cut_in f k) choice) ≡ false
    clean none k choice is possible =
        unless (fails (truth_at truth (cut_in f k) choice)) (λ failing.
        let it = every (complete_at f.found none.whole) k choice is possible failing in
        none_there it.at_last.failing.items it.in_leaf.number it.in_leaf.own (none_failing f.found none it.place it.at_last it.there) it.in_leaf.there)

-- WHAT THE END OF THE TEXT SAYS

-- all cuts of a log were asked for
each_wanted : (of : CutKind) (from to : Option ℕ) (es : List Entry) (k : ℕ) → (is_each_cut of && not (is_some from || is_some to)) ≡ true
    → ((is_of_kind of es k && is_after_first from k) && is_before_last to k) ≡ true
each_wanted kind.All None None es k is = refl
each_wanted kind.All None (Some last) es k is = absurd (false≢true is)
each_wanted kind.All (Some first) to es k is = absurd (false≢true is)
each_wanted kind.BeforeFlush from to es k is = absurd (false≢true is)
each_wanted kind.AfterMark from to es k is = absurd (false≢true is)

cuts_given : (s : Settings) (value : LogValue) → (head_given s value).cuts ≡ s.cuts
unfolding head_given
cuts_given s value = refl

-- the last line of the text
abbrev before_totals : ℕ → report.HeadValue → Losses → Option HeadValue → LogValue → List KnownAt → List ℕ
before_totals inputs h asked by log found = opening_lines inputs h asked ++ program_text by ++ flat_map (cut_lines log h.by asked.tears) found

ends_in_totals : (inputs : ℕ) (h : report.HeadValue) (asked : Losses) (by : Option HeadValue) (log : LogValue) (found : List KnownAt)
    → known_bytes inputs h asked by log found ≡ before_totals inputs h asked by log found ++ totals_text (are_all_cuts h.cuts) (length found) (totals_of found)
ends_in_totals inputs h asked by log found =
    sym (append_assoc (opening_lines inputs h asked ++ program_text by) (flat_map (cut_lines log h.by asked.tears) found) (totals_text (are_all_cuts h.cuts) (length found) (totals_of found)))

says_complete : (a : KnownAsked) (bytes : List ℕ) (status : ℕ) (h : TellsKnown a bytes status) → SaysComplete (found_in a bytes status h) bytes
says_complete a bytes status h = record {
  every = λ ends. (let it = word.every ends in (complete_at h.tells.found it.0, λ k within. record { within = within; wanted = each_wanted cuts.kind cuts.from cuts.to h.value.entries k it.1 }));
  these = λ ends. complete_at h.tells.found (word.these ends);
  said = λ complete. word.said (whole_of h.tells.found complete);
}
  where
    cuts : Cuts
    cuts = a.settings.cuts

    inputs : ℕ
    inputs = (source_of a h.source.reads.read).inputs

    given : report.HeadValue
    given = head_given a.settings h.value

    word : SaysWord bytes (are_all_cuts cuts) h.tells.found
    word =
        subst (λ (c : Cuts). SaysWord bytes (are_all_cuts c) h.tells.found) (cuts_given a.settings h.value)
        (says_word (before_totals inputs given (asked_losses a) h.tells.head h.value h.tells.found) bytes (are_all_cuts given.cuts) (length h.tells.found) h.tells.found
        (h.tells.text ∙ ends_in_totals inputs given (asked_losses a) h.tells.head h.value h.tells.found))

told_cases : (t : KnownTelling) (a : KnownAsked) (bytes : List ℕ) (status : ℕ) → t ≡ telling.Cases → TellsRecords t a bytes status → TellsKnown a bytes status
told_cases t a bytes status is h = subst (λ (x : KnownTelling). TellsRecords x a bytes status) is h

pub records_tell_truth : FoundFail → CompleteHasAll → LastCutsHaveAll → RecordsTellTruth
records_tell_truth fail all last w k files bytes status cases h =
    let a = search_asked (recording h.log h.initial) h.records (known_asked k h.settings) h.settings in
    let told = told_cases k.telling a bytes status cases h.told in (
      found_in a bytes status told,
      record {
        log = h.log;
        initial = h.initial;
        read = h.read;
        second = h.second;
        based = h.based;
        asks = refl;
        source = told.source;
        plain = refl;
        head = told.tells.head;
        records = told.tells.finds.read;
        text = told.tells.text;
      },
      says_complete a bytes status told,
      λ truth true_of. (tell_truth fail all a bytes status told truth true_of, tell_every all last a bytes status told truth true_of),
    )
