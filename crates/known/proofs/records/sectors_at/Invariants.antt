use Rattle.std.proofs.Common.{◌≡◌, map, take, true}
use Rattle.cases.specs.AtCut.{parts_of, case_of, image_of}
use Rattle.known.specs.Records.{looked_at}
use Rattle.known.proofs.records.sectors_at.Given as goal

abbrev pub invariant-loop-number : goal.invariant-loop-number
invariant-loop-number l = l.out.items ≡ map (looked_at (image_of l.cut (case_of true (parts_of l.cut) l.sets))) (take l.number-index l.looked)
