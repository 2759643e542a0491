-- The lines of a run of cases stand by cut, then by program, then by number.
use Rattle.std.proofs.Common.{ℕ, ◌≡◌, ◌+◌, ◌-◌, ◌<◌, ◌≤◌, ◌⊎◌, ◌==◌, nat_lt, not, Bool, true, false, if◌then◌else◌, List, [], ◌∷◌, ◌++◌, length, map, append_assoc, Option, None, Some, refl, sym, subst, ◌∙◌, ap, arith, inl, inr}
use Rattle.std.specs.List.{flat_map}
use Rattle.std.proofs.lemmas.Bool.Decides.{nat_tests}
use Rattle.std.proofs.lemmas.List.{map-append}
use Rattle.logfmt.specs.Bounds.{LogValue}
use Rattle.epochs.specs.declared.part.By.{By}
use Rattle.epochs.specs.Units.{epoch_at, marks_at}
use Rattle.cases.specs.AtCut.{CutValue}
use Rattle.losses.specs.declared.found.FailingCase.{FailingCase}
use Rattle.losses.specs.declared.found.CaseFindings.{CaseFindings}
use Rattle.losses.specs.declared.found.CutFound.{CutFound}
use Rattle.losses.specs.FoundCases.{FailingValue, failing_value}
use Rattle.join.specs.declared.case_parts.front.CaseFront.{CaseFront}
use Rattle.join.specs.CaseTexts.{ToldCase, is_next, goes_on, fronts_rise, is_new_cut, count_cuts, fronts_of}
use Rattle.join.specs.CaseReading.{Each}
use Rattle.commands.proofs.CaseFates.{both_so, NumbersRise}
use Rattle.commands.proofs.CaseLines.{front_at, told_case}

-- WHAT IS TOLD OF A RUN

abbrev pub program_told : CutValue → Bool → ℕ → List FailingCase → List ToldCase
program_told at tears program fs = map (λ (f : FailingCase). told_case at tears program (failing_value f)) fs

abbrev pub programs_told : CutValue → Bool → ℕ → List CaseFindings → List ToldCase
programs_told at tears program [] = []
programs_told at tears program (found ∷ rest) = program_told at tears program found.failing.items ++ programs_told at tears (program + 1) rest

abbrev pub at_cut : LogValue → By → ℕ → CutValue
at_cut log way cut = record { log = log; way = way; cut = cut }

abbrev pub cut_told : LogValue → By → Bool → CutFound → List ToldCase
cut_told log way tears c = programs_told (at_cut log way c.cut) tears 0 c.programs.items

abbrev pub told_of_all : LogValue → By → Bool → List CutFound → List ToldCase
told_of_all log way tears found = flat_map (cut_told log way tears) found

-- with which words these begin
abbrev program_fronts : CutValue → ℕ → List FailingValue → List CaseFront
program_fronts at program fs = map (λ (f : FailingValue). front_at at program f.number) fs

abbrev failing_of : CaseFindings → List FailingValue
failing_of f = map failing_value f.failing.items

abbrev programs_fronts : CutValue → ℕ → List CaseFindings → List CaseFront
programs_fronts at program [] = []
programs_fronts at program (found ∷ rest) = program_fronts at program (failing_of found) ++ programs_fronts at (program + 1) rest

abbrev cuts_fronts : LogValue → By → List CutFound → List CaseFront
cuts_fronts log way [] = []
cuts_fronts log way (c ∷ cs) = programs_fronts (at_cut log way c.cut) 0 c.programs.items ++ cuts_fronts log way cs

program_begins : (at : CutValue) (tears : Bool) (program : ℕ) (fs : List FailingCase) → fronts_of (program_told at tears program fs) ≡ program_fronts at program (map failing_value fs)
program_begins at tears program [] = refl
program_begins at tears program (f ∷ fs) = ap (λ (ls : List CaseFront). front_at at program f.number ∷ ls) (program_begins at tears program fs)

programs_begin : (at : CutValue) (tears : Bool) (program : ℕ) (found : List CaseFindings) → fronts_of (programs_told at tears program found) ≡ programs_fronts at program found
programs_begin at tears program [] = refl
programs_begin at tears program (f ∷ found) =
    let one = program_begins at tears program f.failing.items in
    let rest = programs_begin at tears (program + 1) found in
    map-append (λ (t : ToldCase). t.front) (program_told at tears program f.failing.items) (programs_told at tears (program + 1) found)
    ∙ ap (λ (ls : List CaseFront). ls ++ fronts_of (programs_told at tears (program + 1) found)) one
    ∙ ap (λ (ls : List CaseFront). program_fronts at program (failing_of f) ++ ls) rest

cuts_begin : (log : LogValue) (way : By) (tears : Bool) (found : List CutFound) → fronts_of (told_of_all log way tears found) ≡ cuts_fronts log way found
cuts_begin log way tears [] = refl
cuts_begin log way tears (c ∷ found) =
    let one = programs_begin (at_cut log way c.cut) tears 0 c.programs.items in
    let rest = cuts_begin log way tears found in
    map-append (λ (t : ToldCase). t.front) (cut_told log way tears c) (told_of_all log way tears found)
    ∙ ap (λ (ls : List CaseFront). ls ++ fronts_of (told_of_all log way tears found)) one
    ∙ ap (λ (ls : List CaseFront). programs_fronts (at_cut log way c.cut) 0 c.programs.items ++ ls) rest

-- THEY RISE

-- at the cut, with its epoch and its marks
record IsAtCut (l : CaseFront) (at : CutValue) : Type 0 where
  cut : l.cut ≡ at.cut
  epoch : l.epoch ≡ epoch_at at.log.entries at.cut
  marks : l.marks ≡ marks_at at.log.entries at.cut

-- before case n of a program
abbrev IsPrior : Option CaseFront → CutValue → ℕ → ℕ → Type 0
IsPrior None at program n = Unit {0}
IsPrior (Some l) at program n = (l.cut < at.cut) ⊎ (IsAtCut l at × ((l.program < program) ⊎ ((l.program ≡ program) × (l.number < n))))

-- before any of a program
abbrev IsUnder : Option CaseFront → CutValue → ℕ → Type 0
IsUnder None at program = Unit {0}
IsUnder (Some l) at program = (l.cut < at.cut) ⊎ (IsAtCut l at × (l.program < program))

-- of no later cut
abbrev IsUpTo : Option CaseFront → ℕ → Type 0
IsUpTo None cut = Unit {0}
IsUpTo (Some l) cut = l.cut ≤ cut

abbrev IsLow : Option CaseFront → ℕ → Type 0
IsLow None n = Unit {0}
IsLow (Some l) n = l.cut < n

next_is : (l : CaseFront) (at : CutValue) (program n number : ℕ) → IsPrior (Some l) at program n → n ≤ number → is_next l (front_at at program number) ≡ true
next_is l at program n number (inl less) low =
    let one : nat_lt l.cut at.cut ≡ true = grind (arith, nat_tests, less) in
    rw one refl
next_is l at program n number (inr (same, inl less)) low =
    let e1 = same.cut in
    let e2 = same.epoch in
    let e3 = same.marks in
    let none : nat_lt l.cut at.cut ≡ false = grind (arith, nat_tests, e1) in
    let one : (l.cut == at.cut) ≡ true = grind (arith, nat_tests, e1) in
    let two : (l.epoch == epoch_at at.log.entries at.cut) ≡ true = grind (arith, nat_tests, e2) in
    let three : (l.marks == marks_at at.log.entries at.cut) ≡ true = grind (arith, nat_tests, e3) in
    let four : nat_lt l.program program ≡ true = grind (arith, nat_tests, less) in
    rw (none, one, two, three, four) refl
next_is l at program n number (inr (same, inr (own, less))) low =
    let e1 = same.cut in
    let e2 = same.epoch in
    let e3 = same.marks in
    let none : nat_lt l.cut at.cut ≡ false = grind (arith, nat_tests, e1) in
    let one : (l.cut == at.cut) ≡ true = grind (arith, nat_tests, e1) in
    let two : (l.epoch == epoch_at at.log.entries at.cut) ≡ true = grind (arith, nat_tests, e2) in
    let three : (l.marks == marks_at at.log.entries at.cut) ≡ true = grind (arith, nat_tests, e3) in
    let four : nat_lt l.program program ≡ false = grind (arith, nat_tests, own) in
    let five : (l.program == program) ≡ true = grind (arith, nat_tests, own) in
    let up : l.number < number = omega (arith, less, low) in
    let six : nat_lt l.number number ≡ true = grind (arith, nat_tests, up) in
    rw (none, one, two, three, four, five, six) refl

goes : (last : Option CaseFront) (at : CutValue) (program n number : ℕ) → IsPrior last at program n → n ≤ number → goes_on last (front_at at program number) ≡ true
goes None at program n number prior low = refl
goes (Some l) at program n number prior low = next_is l at program n number prior low

under_prior : (last : Option CaseFront) (at : CutValue) (program n : ℕ) → IsUnder last at program → IsPrior last at program n
under_prior None at program n under = tt
under_prior (Some l) at program n (inl less) = inl less
under_prior (Some l) at program n (inr (same, less)) = inr (same, inl less)

under_more : (last : Option CaseFront) (at : CutValue) (program : ℕ) → IsUnder last at program → IsUnder last at (program + 1)
under_more None at program under = tt
under_more (Some l) at program (inl less) = inl less
under_more (Some l) at program (inr (same, less)) = inr (same, omega (arith, less))

under_up : (last : Option CaseFront) (at : CutValue) (program : ℕ) → IsUnder last at program → IsUpTo last at.cut
under_up None at program under = tt
under_up (Some l) at program (inl less) = omega (arith, less)
under_up (Some l) at program (inr (same, less)) = let own = same.cut in omega (arith, own)

own_cut : (at : CutValue) (program number : ℕ) → IsAtCut (front_at at program number) at
own_cut at program number = record { cut = refl; epoch = refl; marks = refl }

program_rises : (at : CutValue) (program n : ℕ) (fs : List FailingValue) (last : Option CaseFront) (more : List CaseFront) → IsPrior last at program n → IsUnder last at (program + 1) → NumbersRise n fs
    → ((o : Option CaseFront) → IsUnder o at (program + 1) → fronts_rise o more ≡ true) → fronts_rise last (program_fronts at program fs ++ more) ≡ true
program_rises at program n [] last more prior under rise next = next last under
program_rises at program n (f ∷ fs) last more prior under rise next =
    both_so (goes_on last (front_at at program f.number)) (fronts_rise (Some (front_at at program f.number)) (program_fronts at program fs ++ more))
    (goes last at program n f.number prior rise.0)
    (program_rises at program (f.number + 1) fs (Some (front_at at program f.number)) more (inr (own_cut at program f.number, inr (refl, omega arith))) (inr (own_cut at program f.number, omega arith)) rise.1 next)

programs_rise : (at : CutValue) (program : ℕ) (found : List CaseFindings) (last : Option CaseFront) (more : List CaseFront) → IsUnder last at program → Each (λ (f : CaseFindings). NumbersRise 0 (failing_of f)) found
    → ((o : Option CaseFront) → IsUpTo o at.cut → fronts_rise o more ≡ true) → fronts_rise last (programs_fronts at program found ++ more) ≡ true
programs_rise at program [] last more under each next = next last (under_up last at program under)
programs_rise at program (f ∷ found) last more under each next =
    subst (λ (ls : List CaseFront). fronts_rise last ls ≡ true) (sym (append_assoc (program_fronts at program (failing_of f)) (programs_fronts at (program + 1) found) more))
    (program_rises at program 0 (failing_of f) last (programs_fronts at (program + 1) found ++ more) (under_prior last at program 0 under) (under_more last at program under) each.0
    (λ o own. programs_rise at (program + 1) found o more own each.1 next))

-- cuts that rise, from one on
abbrev pub CutsRise : ℕ → List CutFound → Type 0
CutsRise n [] = Unit {0}
CutsRise n (c ∷ cs) = (n ≤ c.cut) × CutsRise (c.cut + 1) cs

low_under : (last : Option CaseFront) (n : ℕ) (at : CutValue) → IsLow last n → n ≤ at.cut → IsUnder last at 0
low_under None n at low up = tt
low_under (Some l) n at low up = inl (omega (arith, low, up))

up_low : (last : Option CaseFront) (cut : ℕ) → IsUpTo last cut → IsLow last (cut + 1)
up_low None cut up = tt
up_low (Some l) cut up = omega (arith, up)

abbrev pub NumbersOf : CutFound → Type 0
NumbersOf c = Each (λ (f : CaseFindings). NumbersRise 0 (map failing_value f.failing.items)) c.programs.items

cuts_rise : (log : LogValue) (way : By) (n : ℕ) (found : List CutFound) (last : Option CaseFront) → IsLow last n → CutsRise n found → Each NumbersOf found → fronts_rise last (cuts_fronts log way found) ≡ true
cuts_rise log way n [] last low rise each = refl
cuts_rise log way n (c ∷ found) last low rise each =
    programs_rise (at_cut log way c.cut) 0 c.programs.items last (cuts_fronts log way found) (low_under last n (at_cut log way c.cut) low rise.0) each.0
    (λ o up. cuts_rise log way (c.cut + 1) found o (up_low o c.cut up) rise.1 each.1)

pub told_rise : (log : LogValue) (way : By) (tears : Bool) (found : List CutFound) → CutsRise 0 found → Each NumbersOf found → fronts_rise None (fronts_of (told_of_all log way tears found)) ≡ true
told_rise log way tears found rise each = subst (λ (ls : List CaseFront). fronts_rise None ls ≡ true) (sym (cuts_begin log way tears found)) (cuts_rise log way 0 found None tt rise each)

-- AT HOW MANY CUTS THERE IS A LINE

abbrev AreAt : ℕ → List CaseFront → Type 0
AreAt cut ls = Each (λ (l : CaseFront). l.cut ≡ cut) ls

more_at : (cut n : ℕ) (ls more : List CaseFront) (l : CaseFront) → l.cut ≡ cut → AreAt cut ls → ((o : Option CaseFront) → count_cuts o more ≤ n) → count_cuts (Some l) (ls ++ more) ≤ n
more_at cut n [] more l own each few = few (Some l)
more_at cut n (f ∷ ls) more l own each few =
    let same : l.cut ≡ f.cut = own ∙ sym each.0 in
    let test : (l.cut == f.cut) ≡ true = grind (arith, nat_tests, same) in
    let one_if : Bool → ℕ = λ b. if not b then 1 else 0 in
    let none : one_if (l.cut == f.cut) ≡ 0 = ap one_if test in
    let rest = more_at cut n ls more f each.0 each.1 few in
    omega (arith, none, rest)

cut_few : (cut n : ℕ) (ls more : List CaseFront) (o : Option CaseFront) → AreAt cut ls → ((p : Option CaseFront) → count_cuts p more ≤ n) → count_cuts o (ls ++ more) ≤ n + 1
cut_few cut n [] more o each few = let own = few o in omega (arith, own)
cut_few cut n (f ∷ ls) more o each few =
    let rest = more_at cut n ls more f each.0 each.1 few in
    let one = at_most (is_new_cut o f.cut) in
    omega (arith, rest, one)
  where
    at_most : (b : Bool) → (if b then 1 else 0) ≤ 1
    at_most true = omega arith
    at_most false = omega arith

each_appended : {A : Type 0} (P : A → Type 0) (xs ys : List A) → Each P xs → Each P ys → Each P (xs ++ ys)
each_appended P [] ys one two = two
each_appended P (x ∷ xs) ys one two = (one.0, each_appended P xs ys one.1 two)

program_at : (at : CutValue) (program : ℕ) (fs : List FailingValue) → AreAt at.cut (program_fronts at program fs)
program_at at program [] = tt
program_at at program (f ∷ fs) = (refl, program_at at program fs)

programs_at : (at : CutValue) (program : ℕ) (found : List CaseFindings) → AreAt at.cut (programs_fronts at program found)
programs_at at program [] = tt
programs_at at program (f ∷ found) =
    each_appended (λ (l : CaseFront). l.cut ≡ at.cut) (program_fronts at program (failing_of f)) (programs_fronts at (program + 1) found) (program_at at program (failing_of f)) (programs_at at (program + 1) found)

cuts_few : (log : LogValue) (way : By) (found : List CutFound) (o : Option CaseFront) → count_cuts o (cuts_fronts log way found) ≤ length found
cuts_few log way [] o = omega arith
cuts_few log way (c ∷ found) o =
    let few = cut_few c.cut (length found) (programs_fronts (at_cut log way c.cut) 0 c.programs.items) (cuts_fronts log way found) o (programs_at (at_cut log way c.cut) 0 c.programs.items) (λ p. cuts_few log way found p) in
    omega (arith, few)

pub told_at_few : (log : LogValue) (way : By) (tears : Bool) (found : List CutFound) → count_cuts None (fronts_of (told_of_all log way tears found)) ≤ length found
told_at_few log way tears found = subst (λ (ls : List CaseFront). count_cuts None ls ≤ length found) (sym (cuts_begin log way tears found)) (cuts_few log way found None)

-- NO MORE CUTS THAN A RANGE HAS

pub rise_few : (n m : ℕ) (found : List CutFound) → CutsRise n found → Each (λ (c : CutFound). c.cut ≤ m) found → length found ≤ m + 1 - n
rise_few n m [] rise each = omega arith
rise_few n m (c ∷ found) rise each =
    let rest = rise_few (c.cut + 1) m found rise.1 each.1 in
    let low = rise.0 in
    let high = each.0 in
    omega (arith, rest, low, high)

pub rise_later : (n : ℕ) (found : List CutFound) → CutsRise 0 found → Each (λ (c : CutFound). n ≤ c.cut) found → CutsRise n found
rise_later n [] rise each = tt
rise_later n (c ∷ found) rise each = (each.0, rise.1)
