use Rattle.std.proofs.Common.{◌≡◌, false, take}
use Rattle.case_runs.proofs.Imaging.{lists}
use Rattle.case_runs.proofs.image.CaseImage.kept.Given as goal

abbrev pub invariant-loop-each : goal.invariant-loop-each
invariant-loop-each l = lists (take l.each-index l.each-items) l.number ≡ false
