use Rattle.std.proofs.Common.{◌≡◌, map, filter}
use Rattle.std.specs.List.{range_with_len}
use Rattle.losses.specs.CountedGroups.{group_at, has_images}
use Rattle.losses.proofs.why.group.groups_of.Given as goal

abbrev pub invariant-loop-place : goal.invariant-loop-place
invariant-loop-place l = l.groups.items ≡ filter has_images (map (group_at (map (λ o. o.now) l.fn.outcomes) l.fn.begin l.fn.images l.fn.places) (range_with_len 0 l.place))
