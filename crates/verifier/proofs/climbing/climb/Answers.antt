use Rattle.std.proofs.Common.{rules, ◌≡◌, length}
use Rattle.verifier.specs.Rounds.{first_table}
use Rattle.verifier.proofs.Ascending.{first_climbed}
use Rattle.verifier.proofs.climbing.climb.Goals as goal

pub loop-step-init : goal.loop-step-init
loop-step-init c =
    let table : c.in_ok-table.table ≡ first_table (length c.args.scene.now.program.now) = search rules in
    first_climbed c.args.scene.now.guards c.args.scene.now.program.now c.args.scene.now.sectors c.in_ok-table.table table
