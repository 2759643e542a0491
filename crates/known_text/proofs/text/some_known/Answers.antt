use Rattle.std.proofs.Common.{map, rules}
use Rattle.known_text.specs.Records.{ran_of}
use Rattle.known_text.specs.Pieces.{head_said}
use Rattle.known_text.proofs.Refused.{known_only, refused_first, refused_later}
use Rattle.known_text.proofs.text.some_known.Goals as goal

pub returns-in-Ok-records_of-clause-known : goal.returns-in-Ok-records_of-clause-known
returns-in-Ok-records_of-clause-known c =
    known_only (record { log = c.args.log.now; way = c.args.way; inputs = c.args.inputs }) (head_said c.in-Ok-first_head.head) c.args.bytes.now c.in-Ok-first_head.rest.now (map ran_of c.in-Ok-records_of.runs.items)
    c.in-Ok-first_head.ensures.head c.in-Ok-records_of.ensures.runs

pub returns-in-Ok-first_head-clause-refused : goal.returns-in-Ok-first_head-clause-refused
returns-in-Ok-first_head-clause-refused c =
    refused_later (record { log = c.args.log.now; way = c.args.way; inputs = c.args.inputs }) (head_said c.in-Ok-first_head.head) c.args.bytes.now c.in-Ok-first_head.rest.now c.in-Err-records_of.fault (search rules) c.in-Ok-first_head.ensures.head
    c.in-Err-records_of.ensures.refused

pub returns-clause-refused : goal.returns-clause-refused
returns-clause-refused c = refused_first (record { log = c.args.log.now; way = c.args.way; inputs = c.args.inputs }) c.args.bytes.now c.in-Err.fault (search rules) c.requires.some c.in-Err.ensures.refused
