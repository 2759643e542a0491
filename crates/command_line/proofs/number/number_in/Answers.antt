use Rattle.std.proofs.Common.{subst, List, ℕ}
use Rattle.command_line.specs.Number.{IsPlain}
use Rattle.command_line.proofs.Numbers.{plain_number, no_number}
use Rattle.command_line.proofs.number.number_in.Goals as goal

pub returns-in-Ok : goal.returns-in-Ok
returns-in-Ok c =
    plain_number c.args.word.now c.in-Ok.number (subst (λ (bs : List ℕ). IsPlain bs) c.as_bytes.ensures.value (c.is_plain.ensures.0 c.if-not-is_plain.false)) c.in-Ok.ensures.value.0

pub returns-in-Err : goal.returns-in-Err
returns-in-Err c = no_number c.args.word.now c.in-Err.ensures.value.0
