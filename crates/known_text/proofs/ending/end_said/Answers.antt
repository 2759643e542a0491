use Rattle.std.proofs.Common.{rules}
use Rattle.known_text.proofs.Endings.{late_read}
use Rattle.known_text.proofs.ending.end_said.Goals as goal

pub returns-then-eq : goal.returns-then-eq
returns-then-eq c =
    late_read c.args.text.now c.cut.result.0.now c.cut.result.1.now c.cut-then-eq.result.0.now c.cut-then-eq.result.1.now c.cut-then-eq-2.result.0.now c.cut-then-eq-2.result.1.now
    c.cut.ensures.parts (search rules) c.cut-then-eq.ensures.parts c.cut-then-eq-2.ensures.parts
