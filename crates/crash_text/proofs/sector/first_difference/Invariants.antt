use Rattle.std.proofs.Common.{◌≡◌, []}
use Rattle.crash_text.specs.Sectors.{differences}
use Rattle.crash_text.proofs.sector.first_difference.Given as goal

abbrev pub invariant-loop-place : goal.invariant-loop-place
invariant-loop-place l = differences l.left l.right 0 l.place ≡ []
