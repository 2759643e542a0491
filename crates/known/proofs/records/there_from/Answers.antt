use Rattle.std.proofs.Common.{refl, sym, ◌∙◌, arith}
use Rattle.known.proofs.Counting.{read_more, read_stop, there_all}
use Rattle.known.proofs.records.there_from.Goals as goal

pub loop-place-init : goal.loop-place-init
loop-place-init g c = λ le. le

pub returns-then-not-is_there : goal.returns-then-not-is_there
returns-then-not-is_there g c = λ le.
    read_stop (g.D.Device.content c.args.device.now) c.args.sectors.now c.loop-place.place _ (c.loop-place.invariant le) c.loop-place-test.true (sym c.is_there.ensures ∙ c.if-not-is_there.true)

pub loop-place-preserved : goal.loop-place-preserved
loop-place-preserved g c = λ le.
    read_more (g.D.Device.content c.args.device.now) c.args.sectors.now c.loop-place.place _ (c.loop-place.invariant le) c.loop-place-test.true (sym c.is_there.ensures ∙ c.if-not-is_there.false)

pub returns : goal.returns
returns g c = λ le. there_all (g.D.Device.content c.args.device.now) c.args.sectors.now c.loop-place.place _ (c.loop-place.invariant le) (omega (arith, c.loop-place-test.false)) refl
