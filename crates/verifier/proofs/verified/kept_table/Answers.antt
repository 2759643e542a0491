use Rattle.std.proofs.Common.{inr, arith, Some, None}
use Rattle.verifier.specs.Inferred.{without_memory, on_table}
use Rattle.verifier.proofs.Accepting.{refused, cut_short, none_met, one_met}
use Rattle.verifier.proofs.verified.kept_table.Goals as goal

pub returns-in-Err-clause-known : goal.returns-in-Err-clause-known
returns-in-Err-clause-known c = rw c.by_itself.ensures (without_memory c.from.ensures)

pub returns-in-Some-clause-refused : goal.returns-in-Some-clause-refused
returns-in-Some-clause-refused c =
    let scene = c.args.scene.now in
    let met = one_met scene.guards scene.program.now scene.sectors c.in-Ok.found.0 c.in-Ok.found.1 c.in-Some.fault c.in-Some.is c.in-Ok.ensures.found in
    rw c.on_table.ensures.fault (inr (cut_short scene.guards scene.program.now scene.sectors c.in-Ok.found.0 c.in-Some.fault (omega (arith, scene.few)) c.in-Ok.ensures.program scene.rules met))

pub returns-in-Some-clause-known : goal.returns-in-Some-clause-known
returns-in-Some-clause-known c =
    let scene = c.args.scene.now in
    let met = one_met scene.guards scene.program.now scene.sectors c.in-Ok.found.0 c.in-Ok.found.1 c.in-Some.fault c.in-Some.is c.in-Ok.ensures.found in
    rw (c.on_table.ensures.known, c.on_table.ensures.fault) (on_table c.in-Ok.found.0 (record { shape = scene.rules; met = Some c.in-Some.fault; found = met }))

pub returns-in-Err-check_rules-clause-refused : goal.returns-in-Err-check_rules-clause-refused
returns-in-Err-check_rules-clause-refused c =
    let scene = c.args.scene.now in
    let settled = none_met scene.guards scene.program.now scene.sectors c.in-Ok.found.0 c.in-Ok.found.1 c.in_default.is c.in-Ok.ensures.found in
    rw c.on_table-in-Err-check_rules.ensures.fault
    (inr (refused scene.guards scene.program.now scene.sectors c.in-Ok.found.0 _ _ (omega (arith, scene.few)) c.in-Ok.ensures.program scene.rules settled c.in-Err-check_rules.ensures.broken))

pub returns-in-Err-check_rules-clause-known : goal.returns-in-Err-check_rules-clause-known
returns-in-Err-check_rules-clause-known c =
    let scene = c.args.scene.now in
    let settled = none_met scene.guards scene.program.now scene.sectors c.in-Ok.found.0 c.in-Ok.found.1 c.in_default.is c.in-Ok.ensures.found in
    rw (c.on_table-in-Err-check_rules.ensures.known, c.on_table-in-Err-check_rules.ensures.fault)
    (on_table c.in-Ok.found.0 (record { shape = scene.rules; met = None; found = settled }))
