use Rattle.std.proofs.Common.{◌≡◌, map, take}
use Rattle.crash_page.specs.Counts.{image_count}
use Rattle.crash_page.proofs.counts.image_counts.Given as goal

abbrev pub invariant-loop-cut : goal.invariant-loop-cut
invariant-loop-cut l = l.counts.items ≡ map image_count (take l.cut-index l.cuts)
