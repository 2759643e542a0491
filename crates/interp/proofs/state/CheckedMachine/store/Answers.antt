use Rattle.std.proofs.Common.{refl, arith}
use Rattle.interp.proofs.Stacks.{stored_is}
use Rattle.interp.proofs.Opened.{change_after}
use Rattle.interp.proofs.state.CheckedMachine.store.Goals as goal

pub returns-then-spot-eq0 : goal.returns-then-spot-eq0
returns-then-spot-eq0 g c = λ a lies.
    let first = rw (← c.self.view_is, c.if-spot-eq0.true) at lies in
    rw (
      ← c.self.view_is,
      c.write.ensures.written,
      stored_is c.args.bytes.now _ first.found a 0 c.args.spot.place first.there first.long first.few first.start first.fits,
    ) refl

pub returns-else-spot-eq0 : goal.returns-else-spot-eq0
returns-else-spot-eq0 g c = λ a lies.
    let there = rw (← c.self.view_is) at lies in
    rw (
      ← c.self.view_is,
      stored_is c.args.bytes.now _ there.found a c.args.spot.frame c.args.spot.place there.there there.long there.few there.start there.fits,
      change_after c.args.spot.frame _ _ _ (omega (arith, c.if-spot-eq0.false)),
      c.write_above.ensures,
    ) refl
