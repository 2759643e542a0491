use Rattle.std.proofs.Common.{◌≡◌, ◌*◌, ◌≤◌, take}
use Rattle.join.specs.Reading.{none_read}
use Rattle.join.specs.Joining.{totalled}
use Rattle.join.proofs.joining.total_of.Given as goal

abbrev pub invariant-loop-part : goal.invariant-loop-part
invariant-loop-part l =
    (l.tally ≡ totalled none_read (take l.part-index l.parts)) × (l.tally.lines ≤ l.part-index * 1073741824) × (l.tally.images ≤ l.part-index * 1073741824)
