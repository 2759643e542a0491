use Rattle.std.proofs.Common.{List, length, ap, arith}
use Rattle.known.specs.declared.run.KnownRun.{KnownRun}
use Rattle.known.specs.Records.{tells}
use Rattle.known.proofs.Telling.{first_here, first_skip, first_past}
use Rattle.known.proofs.Counting.{there_next}
use Rattle.known.proofs.records.KnownRecords.first_telling.Goals as goal

pub returns-then-tells_at : goal.returns-then-tells_at
returns-then-tells_at g c =
    first_here (tells c.args.self.now.log c.args.self.now.way c.args.marks (g.D.Device.content c.args.device.now)) c.args.self.now.runs c.loop-place.place
    (c.if-tells_at.ensures (g.D.Device.content c.args.device.now) c.there_at-there.ensures) c.loop-place.invariant.0

pub loop-place-preserved : goal.loop-place-preserved
loop-place-preserved g c = (
  first_skip (tells c.args.self.now.log c.args.self.now.way c.args.marks (g.D.Device.content c.args.device.now)) c.args.self.now.runs c.loop-place.place
      (c.if-tells_at.ensures (g.D.Device.content c.args.device.now) c.there_at-there.ensures) c.loop-place.invariant.0,
  there_next c.args.self.now (g.D.Device.content c.args.device.now) c.loop-place.place _ c.there_at-there.ensures,
)

pub returns : goal.returns
returns g c =
    let long = ap (λ (rs : List KnownRun). length rs) c.runs-runs.ensures in
    first_past (tells c.args.self.now.log c.args.self.now.way c.args.marks (g.D.Device.content c.args.device.now)) c.args.self.now.runs c.loop-place.place _ (omega arith) (omega arith) c.loop-place.invariant.0
