use Rattle.std.proofs.Common.{ℕ, ◌≤◌, length, map, sym, subst}
use Rattle.std.proofs.lemmas.List.{length-map}
use Rattle.known_text.specs.Records.{ran_of}
use Rattle.known_text.specs.Pieces.{head_said}
use Rattle.known_text.proofs.Pieced.{head_taken, head_fault}
use Rattle.known_text.proofs.text.next_piece.Goals as goal

pub returns-in-Ok-clause-piece : goal.returns-in-Ok-clause-piece
returns-in-Ok-clause-piece c =
    head_taken (record { log = c.args.log.now; way = c.args.way; inputs = c.args.inputs }) (head_said c.args.head.now) c.args.bytes.now c.in-Some.after.now c.in-Ok.rest.now c.args.line (map ran_of c.args.runs.now.items) c.in-Some.ensures c.in-Ok.ensures.rest
    (subst (λ (n : ℕ). n ≤ 1048576) (sym (length-map c.args.runs.now.items ran_of)) c.requires.few)

pub returns-in-Err-clause-refused : goal.returns-in-Err-clause-refused
returns-in-Err-clause-refused c =
    head_fault (record { log = c.args.log.now; way = c.args.way; inputs = c.args.inputs }) (head_said c.args.head.now) c.args.bytes.now c.in-Some.after.now c.args.line (length c.args.runs.now.items) c.in-Err.fault c.in-Some.ensures c.in-Err.ensures.refused
