-- The lines of cases, one program after the other.
use Rattle.std.proofs.Common.{ℕ, suc, ◌≡◌, ◌+◌, Bool, List, [], ◌∷◌, ◌++◌, length, take, codes, Option, sym, ◌∙◌, ap, arith, append_assoc, append-nil}
use Rattle.losses.specs.declared.found.CaseFindings.{CaseFindings}
use Rattle.epochs.specs.declared.part.Part.{Part}
use Rattle.epochs.specs.declared.part.By.{By}
use Rattle.epochs.specs.Units.{epoch_at, marks_at}
use Rattle.cases.specs.AtCut.{CutValue, parts_of, case_of}
use Rattle.report.specs.LineText.{ending_text}
use Rattle.losses.specs.declared.flushes.window.Window.{Window}
use Rattle.losses.specs.FoundCases.{FailingValue}
use Rattle.case_text.specs.Known.{KnownValue, known_of}
use Rattle.case_text.specs.Window.{last_staying, later, between, case_window}
use Rattle.case_text.specs.Text.{place_text, number_text, known_text, window_text, case_line, program_cases, programs_cases}

programs-push : (at : CutValue) (tears : Bool) (n : ℕ) (fs : List CaseFindings) (x : CaseFindings)
    → programs_cases at tears n (fs ++ x ∷ []) ≡ programs_cases at tears n fs ++ program_cases at tears (n + length fs) x.failing.items
programs-push at tears n [] x =
    append-nil (program_cases at tears n x.failing.items) ∙ ap (λ m. program_cases at tears m x.failing.items) (let e : n ≡ n + 0 = omega arith in e)
programs-push at tears n (f ∷ fs) x =
    ap (λ bytes. program_cases at tears n f.failing.items ++ bytes)
    (programs-push at tears (n + 1) fs x ∙ ap (λ m. programs_cases at tears (n + 1) fs ++ program_cases at tears m x.failing.items) (let e : n + 1 + length fs ≡ n + suc (length fs) = omega arith in e))
    ∙ sym (append_assoc (program_cases at tears n f.failing.items) (programs_cases at tears (n + 1) fs) (program_cases at tears (n + suc (length fs)) x.failing.items))

pub programs_next : (at : CutValue) (tears : Bool) (fs : List CaseFindings) (n : ℕ) (x y : CaseFindings) (first before after : List ℕ)
    → take (n + 1) fs ≡ take n fs ++ x ∷ [] → length (take n fs) ≡ n → y ≡ x
    → before ≡ first ++ programs_cases at tears 0 (take n fs) → after ≡ before ++ program_cases at tears n y.failing.items
    → after ≡ first ++ programs_cases at tears 0 (take (n + 1) fs)
programs_next at tears fs n x y first before after more long same was is =
    is ∙ ap (λ (z : CaseFindings). before ++ program_cases at tears n z.failing.items) same
    ∙ ap (λ bytes. bytes ++ program_cases at tears n x.failing.items) was
    ∙ append_assoc first (programs_cases at tears 0 (take n fs)) (program_cases at tears n x.failing.items)
    ∙ ap (λ m. first ++ (programs_cases at tears 0 (take n fs) ++ program_cases at tears m x.failing.items)) (let e : n ≡ 0 + length (take n fs) = omega (arith, long) in e)
    ∙ ap (λ bytes. first ++ bytes) (sym (programs-push at tears 0 (take n fs) x) ∙ ap (programs_cases at tears 0) (sym more))

-- more after a text that begins with another
pub joined : (first own more text : List ℕ) → text ≡ first ++ own → text ++ more ≡ first ++ (own ++ more)
joined first own more text is = ap (λ xs. xs ++ more) is ∙ append_assoc first own more

pub line_told : (at : CutValue) (tears torn : Bool) (program cut epoch marks : ℕ) (f : FailingValue) (way : By) (parts : List Part) (sets : List ℕ) (known : KnownValue)
    (window : Option Window) (old a n b c d new : List ℕ)
    → cut ≡ at.cut → epoch ≡ epoch_at at.log.entries at.cut → marks ≡ marks_at at.log.entries at.cut → way ≡ at.way → torn ≡ tears → parts ≡ parts_of at → sets ≡ f.sets
    → known ≡ known_of torn (case_of torn parts sets) parts → window ≡ between known.first_lost (later (last_staying at) known.last_arrived)
    → a ≡ old ++ place_text cut epoch marks → n ≡ a ++ number_text program f.number → b ≡ n ++ ending_text f.ending → c ≡ b ++ known_text way known → d ≡ c ++ window_text window
    → new ≡ d ++ codes "\n" → new ≡ old ++ case_line at tears program f
unfolding case_line
line_told at tears torn program cut epoch marks f way parts sets known window old a n b c d new cut_is epoch_is marks_is way_is torn_is parts_are sets_are known_is window_is one two three four five six =
    let all : KnownValue = known_of tears (case_of tears (parts_of at) f.sets) (parts_of at) in
    let read : known ≡ all = known_is ∙ (λ i. known_of (torn_is i) (case_of (torn_is i) (parts_are i) (sets_are i)) (parts_are i)) in
    let place : List ℕ = place_text at.cut (epoch_at at.log.entries at.cut) (marks_at at.log.entries at.cut) in
    let said : known_text way known ≡ known_text at.way all = (λ i. known_text (way_is i) (read i)) in
    let held : window_text window ≡ window_text (case_window at (case_of tears (parts_of at) f.sets)) =
    ap window_text (window_is ∙ ap (λ (k : KnownValue). between k.first_lost (later (last_staying at) k.last_arrived)) read) in
    let first : a ≡ old ++ place = one ∙ (λ i. old ++ place_text (cut_is i) (epoch_is i) (marks_is i)) in
    let second : n ≡ old ++ (place ++ number_text program f.number) = two ∙ joined old place (number_text program f.number) a first in
    let third : b ≡ old ++ (place ++ number_text program f.number ++ ending_text f.ending) = three ∙ joined old (place ++ number_text program f.number) (ending_text f.ending) n second in
    let fourth : c ≡ old ++ (place ++ number_text program f.number ++ ending_text f.ending ++ known_text at.way all) =
    four ∙ joined old (place ++ number_text program f.number ++ ending_text f.ending) (known_text way known) b third
    ∙ ap (λ xs. old ++ (place ++ number_text program f.number ++ ending_text f.ending ++ xs)) said in
    let fifth : d ≡ old ++ (place ++ number_text program f.number ++ ending_text f.ending ++ known_text at.way all ++ window_text (case_window at (case_of tears (parts_of at) f.sets))) =
    five ∙ joined old (place ++ number_text program f.number ++ ending_text f.ending ++ known_text at.way all) (window_text window) c fourth
    ∙ ap (λ xs. old ++ (place ++ number_text program f.number ++ ending_text f.ending ++ known_text at.way all ++ xs)) held in
    six ∙ joined old (place ++ number_text program f.number ++ ending_text f.ending ++ known_text at.way all ++ window_text (case_window at (case_of tears (parts_of at) f.sets))) (codes "\n") d fifth
