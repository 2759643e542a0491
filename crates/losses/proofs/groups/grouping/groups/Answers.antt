use Rattle.std.proofs.Common.{rules, ◌≡◌, ℕ, map, slice_get, Some, List, sym, subst}
use Rattle.std.specs.List.Sorted.{IsNonDecreasing}
use Rattle.std.proofs.lemmas.Option.{slice_get_read}
use Rattle.losses.specs.FirstParts.{IsGroup}
use Rattle.losses.specs.Keys.{AreWords, part_keys, Lacks, IsFirstFound}
use Rattle.losses.proofs.Progress.{IsSmall, keys_in_order, alone, in_group, go_on, numbers_at}
use Rattle.losses.proofs.groups.grouping.groups.Goals as goal
use Rattle.losses.proofs.groups.grouping.groups.Goals.{in-Some, in-None}

pub part_among-requires-clause-rising : goal.part_among-requires-clause-rising
part_among-requires-clause-rising c =
    subst (λ ks. IsNonDecreasing ks) (sym c.as_slice.ensures.value) (keys_in_order _ _ _ _ c.requires c.loop-place.invariant)

pub loop-place-preserved : goal.loop-place-preserved
loop-place-preserved c =
    let words : AreWords c.index-failing-place.result.items = subst (λ ns. AreWords ns) c.as_slice-in-loop-place-2.ensures.value c.key_of.ensures.words in
    let small : IsSmall c.index-failing-place.result.items = record { few = search rules; words = words } in
    let read : slice_get c.args.failing.now c.loop-place.place ≡ Some c.index-failing-place.result = search (rules, slice_get_read) in
    let at = numbers_at (λ x. x.items) c.args.failing.now c.loop-place.place c.index-failing-place.result read in
    let keyed : c.key_of.result ≡ Rattle.losses.specs.Keys.key_of c.index-failing-place.result.items = search rules in
    let cs : List (List ℕ) = map (λ x. x.items) c.args.failing.now in
    let found_in : List ℕ → List ℕ → ℕ → Type 0 = λ ks ns place. IsFirstFound ks (part_keys ns) place in
    let lacked_in : List ℕ → List ℕ → Type 0 = λ ks ns. (m other : ℕ) → slice_get (part_keys ns) m ≡ Some other → Lacks ks other in
    let group : IsGroup cs c.loop-place.place c.match-part_among.group = elim c.match-part_among.branch [
      | in-Some w ↦
          let found = subst (λ ks. found_in ks c.as_slice-in-loop-place.result.now w.in-Some.part) c.as_slice.ensures.value w.in-Some.ensures in
          let here = subst (λ ns. found_in c.loop-place.keys.items ns w.in-Some.part) c.as_slice-in-loop-place.ensures.value found in
          subst (λ g. IsGroup cs c.loop-place.place g) (sym w.group-is) (in_group _ _ _ _ _ c.requires c.loop-place.invariant at small _ here)
      | in-None w ↦
          let lacked = subst (λ ks. lacked_in ks c.as_slice-in-loop-place.result.now) c.as_slice.ensures.value w.in-None.ensures in
          let here = subst (λ ns. lacked_in c.loop-place.keys.items ns) c.as_slice-in-loop-place.ensures.value lacked in
          subst (λ g. IsGroup cs c.loop-place.place g) (sym w.group-is) (alone _ _ _ _ _ c.requires c.loop-place.invariant at small here)
    ] in
    rw (c.in_ok-push-2.ensures.items, c.in_ok-push.ensures.items)
    (go_on _ _ _ _ _ _ _ c.loop-place.invariant at small keyed group)
