use Rattle.std.proofs.Common.{map}
use Rattle.known_text.specs.Records.{ran_of}
use Rattle.known_text.specs.Pieces.{head_said}
use Rattle.known_text.proofs.Gotten.{got_low}
use Rattle.known_text.proofs.text.records_of.Goals as goal

pub next_piece-requires-clause-line : goal.next_piece-requires-clause-line
next_piece-requires-clause-line c =
    got_low (record { log = c.args.log.now; way = c.args.way; inputs = c.args.inputs }) (head_said c.args.head.now) c.args.bytes.now c.loop-rest.rest.now c.loop-rest.line (map ran_of c.loop-rest.runs.items) c.loop-rest.invariant c.requires.short
