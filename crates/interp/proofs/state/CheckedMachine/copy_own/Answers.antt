use Rattle.std.proofs.Common.{arith}
use Rattle.machine.specs.State.{word}
use Rattle.interp.specs.Going.{at_slot}
use Rattle.interp.proofs.Reached.{lies_in, copied, few_bytes}
use Rattle.interp.proofs.state.CheckedMachine.copy_own.Goals as goal

pub copy_bytes_own-answer-requires-clause-few : goal.copy_bytes_own-answer-requires-clause-few
copy_bytes_own-answer-requires-clause-few g c = let few = few_bytes (word c.args.self.now 3) c.requires.count in omega (arith, few, c.word-count.ensures)

pub copy_bytes_own-answer-requires-clause-above : goal.copy_bytes_own-answer-requires-clause-above
copy_bytes_own-answer-requires-clause-above g c =
    let low = (lies_in (g.D.Device.content c.args.world.now.device.now) (word c.args.self.now 2) (word c.args.self.now 3) c.requires.inside).low in
    omega (arith, low, c.word-address.ensures)

pub copy_bytes_own-answer-requires-clause-inside : goal.copy_bytes_own-answer-requires-clause-inside
copy_bytes_own-answer-requires-clause-inside g c =
    let high = (lies_in (g.D.Device.content c.args.world.now.device.now) (word c.args.self.now 2) (word c.args.self.now 3) c.requires.inside).high in
    omega (arith, high, c.word-address.ensures, c.word-count.ensures, c.requires.long)

pub returns-clause-made : goal.returns-clause-made
returns-clause-made g c =
    copied c.args.world.now.program.now (g.D.Device.content c.args.world.now.device.now) c.args.memory.now c.copy_bytes_own-answer.new.memory (at_slot c.args.slot c.args.self.now) c.copy_bytes_own-answer.result _ c.requires.count c.requires.inside
    (rw (c.word-position.ensures, c.word-address.ensures, c.word-count.ensures) at c.copy_bytes_own-answer.ensures.written) (rw (c.word-position.ensures, c.word-count.ensures) at c.copy_bytes_own-answer.ensures.answer) c.answer_next.ensures.made
