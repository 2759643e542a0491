use Rattle.std.proofs.Common.{length, map}
use Rattle.known_text.specs.Records.{ran_of}
use Rattle.known_text.specs.Pieces.{IsGot, head_said}
use Rattle.known_text.proofs.text.records_of.Given as goal

abbrev pub invariant-loop-rest : goal.invariant-loop-rest
invariant-loop-rest l = IsGot (record { log = l.log; way = l.way; inputs = l.inputs }) (head_said l.head) l.bytes l.rest l.line (map ran_of l.runs.items)

abbrev pub decreases-loop-rest : goal.decreases-loop-rest
decreases-loop-rest l = length l.rest
