use Rattle.std.proofs.Common.{◌≡◌, drop}
use Rattle.explore_core.specs.Lists.{listed_under}
use Rattle.explore_core.proofs.lists.listed_under.Given as goal

abbrev pub invariant-loop-drawn : goal.invariant-loop-drawn
invariant-loop-drawn l = listed_under l.worker l.block (drop l.drawn-index l.lists) ≡ listed_under l.worker l.block l.lists
