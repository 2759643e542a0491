use Rattle.std.proofs.Common.{◌≡◌, ◌<◌, None, length, refl, arith}
use Rattle.interp.proofs.Opened.{open_count, open_frame}
use Rattle.interp.proofs.frames.Frames.stack.Goals as goal

pub offset_bounds-self-inside-number : goal.offset_bounds-self-inside-number
offset_bounds-self-inside-number c = record { fits = omega (arith, c.requires.few) }

pub returns : goal.returns
returns c =
    let count : length c.args.self.now ≡ c.self.inside.count = rw (← c.self.view_is) (open_count c.self.inside.stacks c.self.inside.callers c.self.inside.count c.self.invariant) in
    let below : c.args.number < c.self.inside.count = omega (arith, c.requires.number, count) in
    rw (
      ← c.self.view_is,
      open_frame c.self.inside.stacks c.self.inside.callers c.self.inside.count c.args.number c.index-self-number.result (record { slot = 0; r6 = None; r7 = None; r8 = None; r9 = None; r10 = None }) c.self.invariant below,
    ) refl
