-- What the text says of a group, and of which images it speaks.
use Rattle.std.proofs.Common.{ℕ, ◌≡◌, ◌+◌, ◌<◌, List, [], length, map, slice_get, Some, ap, sym, ◌∙◌, arith}
use Rattle.std.specs.List.{range_with_len}
use Rattle.std.specs.Option.{option_map_or}
use Rattle.std.proofs.lemmas.Option.{slice_get-get_or}
use Rattle.epochs.specs.declared.part.By.{By}
use Rattle.choices.specs.Choices.{ChoiceValue, ranked_choices}
use Rattle.choices.specs.Sums.{StartsValue}
use Rattle.losses.specs.declared.why.group.FailingGroup.{FailingGroup}
use Rattle.losses.specs.declared.why.cut.CutFailures.{CutFailures}
use Rattle.losses.specs.CountedGroups.{group_at}
use Rattle.losses.specs.Failures.{AreImages, first_at, is_between, failing_before, failing_at}
use Rattle.losses.specs.WhyText.{chosen_line, group_line, AreAllNumbered}
use Rattle.losses.proofs.Between.{left_in, parts_few}
use Rattle.losses.proofs.Collected.{AreFirstCuts}
use Rattle.losses.proofs.Standing.{left_of_groups, of_range}

-- the line of a group whose image there is
pub group_shown : (way : By) (s : StartsValue) (outcomes : List (List ℕ)) (g : FailingGroup) (c : ChoiceValue) → slice_get (ranked_choices s.plan s.bound s.tears) g.image ≡ Some c
    → group_line way s outcomes g ≡ chosen_line way outcomes g c.departures
group_shown way s outcomes g c at = ap (λ o. option_map_or (λ (d : ChoiceValue). chosen_line way outcomes g d.departures) o []) at

-- the images of the groups are among those that fail
pub first_numbered : (s : StartsValue) (failing : List ℕ) (outcomes : List (List ℕ)) (count : ℕ) (cs : List CutFailures) → AreImages s failing
    → AreFirstCuts s failing outcomes count cs → AreAllNumbered s (length failing) cs
first_numbered s failing outcomes count cs are of_cuts place c there i g at =
    let is = (of_cuts.each place c there).grouped in
    let images : List ℕ = failing_at s failing place in
    let f : ℕ → FailingGroup = group_at outcomes (failing_before s failing place) images is.places in
    let left = left_of_groups (map f (range_with_len 0 (length images))) i g (ap (λ gs. slice_get gs i) (sym is.listed) ∙ at) in
    let made = of_range f 0 (length images) left.0 g left.1 in
    let within : made.0 < length images = let lt = made.1 in omega (arith, lt) in
    let image = slice_get-get_or images made.0 0 within ∙ ap (λ n. Some n) (sym (ap (λ (h : FailingGroup). h.image) made.2)) in
    let own = left_in (is_between (first_at s place) (first_at s (place + 1))) failing made.0 g.image image in
    let line : g.line ≡ failing_before s failing place + made.0 = ap (λ (h : FailingGroup). h.line) made.2 in
    let few = parts_few (first_at s place) (first_at s (place + 1)) failing in
    record {
      image = are.within own.0 g.image own.1;
      line = omega (arith, line, within, few);
    }
