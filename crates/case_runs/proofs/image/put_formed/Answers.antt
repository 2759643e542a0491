use Rattle.std.proofs.Common.{arith}
use Rattle.case_runs.proofs.Imaging.{formed_one}
use Rattle.case_runs.proofs.image.put_formed.Goals as goal

pub returns-in_ok-push : goal.returns-in_ok-push
returns-in_ok-push c = λ tears.
    let less = c.if-number-from.true in
    let from = c.from.ensures in
    let own = c.sectors.ensures.value in
    formed_one (record { at = c.args.cut.now; tears = tears; sets = c.args.sets.now }) c.args.number c.args.out.now.items c.push.new.self.items _ c.in_ok-push.ensures.items (c.sector-bytes.ensures tears)
    (omega (arith, less, from, own))
