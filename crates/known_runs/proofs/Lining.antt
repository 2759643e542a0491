-- The lines of cases.
use Rattle.std.proofs.Common.{ℕ, ◌≡◌, ◌+◌, Bool, List, [], ◌∷◌, ◌++◌, codes, Option, sym, ◌∙◌, ap}
use Rattle.epochs.specs.declared.part.Part.{Part}
use Rattle.epochs.specs.declared.part.By.{By}
use Rattle.epochs.specs.Units.{epoch_at, marks_at}
use Rattle.cases.specs.AtCut.{CutValue, parts_of, case_of}
use Rattle.losses.specs.declared.flushes.window.Window.{Window}
use Rattle.case_text.specs.Known.{KnownValue, known_of}
use Rattle.case_text.specs.Window.{last_staying, later, between, case_window}
use Rattle.case_text.specs.Text.{place_text, number_text, known_text, window_text}
use Rattle.case_text.proofs.Lining.{joined}
use Rattle.known.specs.declared.run.RunEnd.{RunEnd}
use Rattle.known.specs.declared.found.KnownFailing.{KnownFailing}
use Rattle.known_runs.specs.Text.{end_words, case_line}

pub line_told : (at : CutValue) (tears torn : Bool) (cut epoch marks : ℕ) (f : KnownFailing) (way : By) (parts : List Part) (sets : List ℕ) (known : KnownValue)
    (window : Option Window) (old a n b c d new : List ℕ)
    → cut ≡ at.cut → epoch ≡ epoch_at at.log.entries at.cut → marks ≡ marks_at at.log.entries at.cut → way ≡ at.way → torn ≡ tears → parts ≡ parts_of at → sets ≡ f.sets.items
    → known ≡ known_of torn (case_of torn parts sets) parts → window ≡ between known.first_lost (later (last_staying at) known.last_arrived)
    → a ≡ old ++ place_text cut epoch marks → n ≡ a ++ number_text 0 f.number → b ≡ n ++ end_words f.end → c ≡ b ++ known_text way known → d ≡ c ++ window_text window
    → new ≡ d ++ codes "\n" → new ≡ old ++ case_line at tears f
unfolding case_line
line_told at tears torn cut epoch marks f way parts sets known window old a n b c d new cut_is epoch_is marks_is way_is torn_is parts_are sets_are known_is window_is one two three four five six =
    let all : KnownValue = known_of tears (case_of tears (parts_of at) f.sets.items) (parts_of at) in
    let read : known ≡ all = known_is ∙ (λ i. known_of (torn_is i) (case_of (torn_is i) (parts_are i) (sets_are i)) (parts_are i)) in
    let place : List ℕ = place_text at.cut (epoch_at at.log.entries at.cut) (marks_at at.log.entries at.cut) in
    let ends : List ℕ = end_words f.end in
    let said : known_text way known ≡ known_text at.way all = (λ i. known_text (way_is i) (read i)) in
    let held : window_text window ≡ window_text (case_window at (case_of tears (parts_of at) f.sets.items)) =
    ap window_text (window_is ∙ ap (λ (k : KnownValue). between k.first_lost (later (last_staying at) k.last_arrived)) read) in
    let first : a ≡ old ++ place = one ∙ (λ i. old ++ place_text (cut_is i) (epoch_is i) (marks_is i)) in
    let second : n ≡ old ++ (place ++ number_text 0 f.number) = two ∙ joined old place (number_text 0 f.number) a first in
    let third : b ≡ old ++ (place ++ number_text 0 f.number ++ ends) = three ∙ joined old (place ++ number_text 0 f.number) ends n second in
    let fourth : c ≡ old ++ (place ++ number_text 0 f.number ++ ends ++ known_text at.way all) =
    four ∙ joined old (place ++ number_text 0 f.number ++ ends) (known_text way known) b third
    ∙ ap (λ xs. old ++ (place ++ number_text 0 f.number ++ ends ++ xs)) said in
    let fifth : d ≡ old ++ (place ++ number_text 0 f.number ++ ends ++ known_text at.way all ++ window_text (case_window at (case_of tears (parts_of at) f.sets.items))) =
    five ∙ joined old (place ++ number_text 0 f.number ++ ends ++ known_text at.way all) (window_text window) c fourth
    ∙ ap (λ xs. old ++ (place ++ number_text 0 f.number ++ ends ++ known_text at.way all ++ xs)) held in
    six ∙ joined old (place ++ number_text 0 f.number ++ ends ++ known_text at.way all ++ window_text (case_window at (case_of tears (parts_of at) f.sets.items))) (codes "\n") d fifth
