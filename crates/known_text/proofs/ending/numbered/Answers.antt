use Rattle.std.proofs.Common.{rules}
use Rattle.known_text.proofs.Endings.{answer_read}
use Rattle.known_text.proofs.ending.numbered.Goals as goal

pub returns-then-eq : goal.returns-then-eq
returns-then-eq c =
    answer_read c.args.kind.now c.args.text.now c.cut.result.0.now c.cut.result.1.now c.byte_number-number.result (search rules) c.cut.ensures.parts c.byte_number-number.ensures
