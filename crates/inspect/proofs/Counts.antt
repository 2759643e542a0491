-- How many choices a cut has.
use Rattle.std.proofs.Common.{ℕ, zero, suc, ◌≡◌, ◌+◌, ◌≤◌, Bool, List, [], ◌∷◌, length, map, slice_get, None, Some, refl, sym, ◌∙◌, ap, arith, length-append}
use Rattle.logfmt.specs.declared.entry.Entry.{Entry}
use Rattle.epochs.specs.Cuts.{cuts_of}
use Rattle.epochs.specs.Plan.{PlanValue}
use Rattle.epochs.specs.declared.part.By.{By}
use Rattle.epochs.specs.Parts.{volatile_parts}
use Rattle.choices.specs.Picks.{picks_within, fates_of}
use Rattle.choices.specs.Choices.{choice_of, choices_at, choices_over, ranked_choices, ranked_at}

pub long : {X Y : Type 0} (f : X → Y) (xs : List X) → length (map f xs) ≡ length xs
long f [] = refl
long f (x ∷ xs) = ap suc (long f xs)

-- how many choices a cut has, whatever its place
length_at : (way : By) (es : List Entry) (m bound place cut : ℕ) → length (choices_at way es m bound place cut) ≡ length (picks_within m bound (length (volatile_parts way es cut)))
unfolding choices_at
length_at way es m bound place cut = long (choice_of way es place cut) (picks_within m bound (length (volatile_parts way es cut)))

part_of_all : (way : By) (es : List Entry) (m bound place : ℕ) (cuts : List ℕ) (i cut : ℕ) → slice_get cuts i ≡ Some cut
    → length (choices_at way es m bound 0 cut) ≤ length (choices_over way es m bound place cuts)
unfolding choices_over
part_of_all way es m bound place [] i cut h = absurd (let bad : None ≡ Some cut = h in cc)
part_of_all way es m bound place (c ∷ cs) zero cut h =
    let same : c ≡ cut = (let e : Some c ≡ Some cut = h in cc) in
    let here = length_at way es m bound place c ∙ ap (λ k. length (picks_within m bound (length (volatile_parts way es k)))) same ∙ sym (length_at way es m bound 0 cut) in
    omega (arith, here, length-append (choices_at way es m bound place c) (choices_over way es m bound (place + 1) cs))
part_of_all way es m bound place (c ∷ cs) (suc i) cut h =
    omega (arith, part_of_all way es m bound (place + 1) cs i cut h, length-append (choices_at way es m bound place c) (choices_over way es m bound (place + 1) cs))

-- a wanted cut has no more choices than all have
pub few_at : (plan : PlanValue) (bound : ℕ) (tears : Bool) (i cut : ℕ) → slice_get (cuts_of plan.kind plan.log.entries) i ≡ Some cut
    → length (ranked_at plan bound tears cut) ≤ length (ranked_choices plan bound tears)
unfolding ranked_choices ranked_at
few_at plan bound tears i cut h = part_of_all plan.by plan.log.entries (fates_of tears) bound 0 (cuts_of plan.kind plan.log.entries) i cut h
