use Rattle.std.proofs.Common.{◌≡◌, ◌+◌, ◌<◌, length, sym, ◌∙◌, arith}
use Rattle.std.specs.Prelude.{get_or}
use Rattle.std.proofs.lemmas.List.{length-set}
use Rattle.ranges.proofs.Arrays.{one_more, read_one, places_filled}
use Rattle.ranges.specs.Changing.{group_beyond, groups_after}
use Rattle.ranges.specs.SeenStates.{group_of}
use Rattle.ranges.proofs.Nothing.{no_marks}
use Rattle.ranges.proofs.writes.groups_after.Goals as goal

pub loop-g-preserved : goal.loop-g-preserved
loop-g-preserved c =
    let inside : c.loop-g.g < length c.loop-g.groups = omega (arith, c.loop-g.invariant.0) in
    let x_inside : c.loop-g.g < length c.args.x.now = omega (arith, c.told-x) in (
      rw (length-set c.loop-g.groups c.loop-g.g _) c.loop-g.invariant.0,
      one_more group_of (λ k. group_beyond c.args.bytes.are_set c.args.bytes.at c.args.bytes.n k (group_of (get_or c.args.x.now k no_marks))) c.loop-g.groups c.loop-g.g _ no_marks inside c.loop-g.invariant.1
          (read_one group_of (group_beyond c.args.bytes.are_set c.args.bytes.at c.args.bytes.n c.loop-g.g) c.args.x.now c.loop-g.g c.index-x-g.result no_marks c.group_beyond.result x_inside c.group_beyond.ensures),
    )

pub returns : goal.returns
unfolding groups_after
returns c =
    places_filled group_of (group_beyond c.args.bytes.are_set c.args.bytes.at c.args.bytes.n) c.args.x.now c.loop-g.groups 0 no_marks (c.loop-g.invariant.0 ∙ sym c.told-x)
    (λ k small. let z : 0 + k ≡ k = omega arith in rw z (c.loop-g.invariant.1 k (omega (arith, c.told-x))))
