use Rattle.std.proofs.Common.{◌∙◌, arith}
use Rattle.epochs.proofs.Runs.{last_flush_le}
use Rattle.cases.proofs.AtRisk.{none_risky, risky_more, all_risky}
use Rattle.cases.proofs.cut.parts_at_risk.Goals as goal

pub loop-number-init : goal.loop-number-init
loop-number-init c =
    let same = c.requires.flush in
    c.new-parts.ensures.items ∙ none_risky c.args.way c.args.log.now.entries c.args.cut c.args.flush c.requires.cut (omega (arith, same))

pub loop-number-preserved : goal.loop-number-preserved
loop-number-preserved c =
    risky_more c.args.way c.args.log.now.entries c.args.cut c.loop-number.number c.loop-number.parts.items c.put_risky.new.parts.items (omega arith) c.loop-number.invariant c.in_ok-put_risky.ensures

pub returns : goal.returns
returns c =
    let low = last_flush_le c.args.log.now.entries c.args.cut in
    let same = c.requires.flush in
    all_risky c.args.way c.args.log.now.entries c.args.cut c.loop-number.number c.loop-number.parts.items
    (omega (arith, c.loop-number.auto.number-end, c.loop-number-test.false, low, same)) c.loop-number.invariant
