use Rattle.std.proofs.Common.{◌≡◌, ◌∙◌, ap, length, arith, map}
use Rattle.std.proofs.lemmas.List.{length-map}
use Rattle.ranges.specs.Changing.{group_beyond}
use Rattle.ranges.specs.SeenStates.{group_of, state_of}
use Rattle.ranges.proofs.Writing.{group_written}
use Rattle.ranges.proofs.change.group_changed.Goals as goal

pub returns : goal.returns
returns c =
    let s = c.args.state.now in
    let b = c.args.bytes in
    let long : length (map group_of s.groups) ≡ 64 = length-map s.groups group_of ∙ s.stack in
    c.group_beyond.ensures
    ∙ ap (group_beyond b.are_set b.at b.n c.args.k) c.group.ensures
    ∙ group_written b.are_set b.at b.n (state_of s).groups c.args.k (omega (arith, long, c.requires))
