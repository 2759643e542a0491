use Rattle.std.proofs.Common.{◌-◌, drop, length, arith}
use Rattle.std.proofs.lemmas.List.{take_all, length-drop}
use Rattle.commands.proofs.action.after_title.Goals as goal

pub returns : goal.returns
returns c =
    let left = length-drop 15 c.args.report.now in
    take_all (length c.args.report.now - 15) (drop 15 c.args.report.now) (omega (arith, left))
