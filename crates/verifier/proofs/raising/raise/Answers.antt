use Rattle.std.proofs.Common.{rules, ◌≡◌}
use Rattle.verifier.specs.SeenUnsigned.{unsigned_table}
use Rattle.verifier.proofs.Staying.{good_stays}
use Rattle.verifier.proofs.raising.raise.Goals as goal

pub returns-clause-good : goal.returns-clause-good
returns-clause-good c program sectors few made good =
    let same : c.of.result ≡ unsigned_table c.args.table.now.states.items = search rules in
    rw same (good_stays program sectors (unsigned_table c.args.table.now.states.items) few made good)
