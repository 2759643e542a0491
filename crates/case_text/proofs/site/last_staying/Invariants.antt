use Rattle.std.proofs.Common.{◌≡◌, ◌≤◌}
use Rattle.case_text.specs.Window.{stays, last_below}
use Rattle.case_text.proofs.site.last_staying.Given as goal

abbrev pub invariant-loop-number : goal.invariant-loop-number
invariant-loop-number l = (last_below (stays l.by l.entries l.cut) l.cut ≡ last_below (stays l.by l.entries l.cut) l.number) × (l.number ≤ l.cut)

abbrev pub decreases-loop-number : goal.decreases-loop-number
decreases-loop-number l = l.number
