use Rattle.std.proofs.Common.{◌+◌, sym}
use Rattle.interp.proofs.Runs.{stepped_nowhere, stepped_there}
use Rattle.interp.proofs.own_memory.next_after.Goals as goal

pub returns-then-is_none-clause-made : goal.returns-then-is_none-clause-made
returns-then-is_none-clause-made g c = λ s t. sym (stepped_nowhere c.args.world.now.program.now c.args.slot (c.args.slot + 1) t c.at.result c.at.ensures.value c.if-is_none.ensures)

pub returns-clause-made : goal.returns-clause-made
returns-clause-made g c = λ s t. sym (stepped_there c.args.world.now.program.now c.args.slot (c.args.slot + 1) t c.at.result c.at.ensures.value c.if-is_none.ensures)
