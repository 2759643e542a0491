use Rattle.std.proofs.Common.{arith}
use Rattle.verifier.proofs.Ascending.{good_is_settled}
use Rattle.verifier.proofs.inferring.infer.Goals as goal

pub returns-in-Ok-clause-found : goal.returns-in-Ok-clause-found
returns-in-Ok-clause-found c =
    good_is_settled c.args.scene.now.guards c.args.scene.now.program.now c.args.scene.now.sectors c.in_ok-table.table (omega (arith, c.args.scene.now.few)) c.in_ok-table.ensures.program c.args.scene.now.rules
    c.in_ok-table.ensures.sought c.in-Ok.ensures.good
