use Rattle.std.proofs.Common.{rules, ◌≡◌, ◌≤◌, ◌<◌, ℕ, length, map, slice_get, Some, List, sym, ◌∙◌, ap, subst, arith}
use Rattle.std.specs.Ordering.{nat_cmp}
use Rattle.std.specs.BTreeMap as tree
use Rattle.std.proofs.lemmas.List.{length-map}
use Rattle.std.proofs.lemmas.Option.{slice_get_read, slice_get-get_or}
use Rattle.losses.specs.Folded.{lost_or_torn}
use Rattle.losses.specs.Keys.{key_of, Takes}
use Rattle.losses.proofs.Parts.{part_is_before}
use Rattle.losses.proofs.Progress.{IsSmall, numbers_at}
use Rattle.losses.proofs.Folds.{go_on}
use Rattle.losses.proofs.groups.folding.fold.Goals as goal

pub example_of-requires-clause-part : goal.example_of-requires-clause-part
example_of-requires-clause-part c =
    let cs : List (List ℕ) = map (λ x. x.items) c.args.failing.now in
    let long = c.in_ok-parts.ensures.each_once in
    let test = c.loop-place-test.true in
    let within : c.loop-place.place < length c.in_ok-parts.parts.items = omega (arith, long, test, length-map c.args.failing.now (λ x. x.items)) in
    let there : slice_get c.in_ok-parts.parts.items c.loop-place.place ≡ Some c.index-part.result.now =
    slice_get-get_or c.in_ok-parts.parts.items c.loop-place.place _ within ∙ ap (λ n. Some n) (sym c.index-part.ensures) in
    let is = c.in_ok-parts.ensures.each c.loop-place.place c.index-part.result.now there in
    let le = part_is_before cs c.index-part.result.now c.loop-place.place c.requires is.is_part in
    let count = c.loop-place.invariant.count in
    let whole = ap (λ (xs : List ℕ). length xs) c.as_slice.ensures.value in
    omega (arith, le, count, whole)

pub loop-place-preserved : goal.loop-place-preserved
loop-place-preserved c =
    let cs : List (List ℕ) = map (λ x. x.items) c.args.failing.now in
    let long = c.in_ok-parts.ensures.each_once in
    let test = c.loop-place-test.true in
    let within : c.loop-place.place < length c.in_ok-parts.parts.items = omega (arith, long, test, length-map c.args.failing.now (λ x. x.items)) in
    let there : slice_get c.in_ok-parts.parts.items c.loop-place.place ≡ Some c.index-part.result.now =
    slice_get-get_or c.in_ok-parts.parts.items c.loop-place.place _ within ∙ ap (λ n. Some n) (sym c.index-part.ensures) in
    let is = c.in_ok-parts.ensures.each c.loop-place.place c.index-part.result.now there in
    let read : slice_get c.args.failing.now c.loop-place.place ≡ Some c.index-failing-place.result = search (rules, slice_get_read) in
    let at = numbers_at (λ x. x.items) c.args.failing.now c.loop-place.place c.index-failing-place.result read in
    let own = c.as_slice-in-loop-place.ensures.value in
    let few : length c.index-failing-place.result.items ≤ 3 = search rules in
    let small : IsSmall (map lost_or_torn c.index-failing-place.result.items) = record {
      few = omega (arith, few, length-map c.index-failing-place.result.items lost_or_torn);
      words = subst (λ (ns : List ℕ). Rattle.losses.specs.Keys.AreWords (map lost_or_torn ns)) own c.in_ok-example.ensures.words;
    } in
    let keyed = ap (λ (ns : List ℕ). key_of (map lost_or_torn ns)) own in
    let takes = subst (λ (ps : List ℕ). Takes (tree.get nat_cmp c.loop-place.examples) (tree.get nat_cmp c.example_of.new.examples)
    (key_of (map lost_or_torn c.as_slice-in-loop-place.result.now)) ps c.index-part.result.now c.in_ok-example.example) c.as_slice.ensures.value c.in_ok-example.ensures.takes in
    rw c.in_ok-push.ensures.items
    (go_on cs c.loop-place.place _ _ c.loop-place.places.items c.index-failing-place.result.items _ _ _ c.requires c.loop-place.invariant is at small keyed takes)
