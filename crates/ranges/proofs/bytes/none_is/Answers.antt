use Rattle.std.proofs.Common.{◌≡◌, ◌+◌, true, false, sym, ◌∙◌}
use Rattle.ranges.specs.Places.{mark_at, is_mark}
use Rattle.ranges.specs.SeenStates.{state_of}
use Rattle.ranges.proofs.Marks.{none_next, none_here, none_ends}
use Rattle.ranges.proofs.bytes.none_is.Goals as goal

pub returns-then-is_mark : goal.returns-then-is_mark
returns-then-is_mark c =
    let found : is_mark (mark_at (state_of c.args.state.now).groups (c.args.at + c.loop-k.k)) c.args.mark ≡ true =
    rw c.mark_at.ensures at (sym c.is_mark.ensures ∙ c.if-is_mark.true) in
    none_here c.args.mark (state_of c.args.state.now).groups c.args.at c.args.n c.loop-k.k _ c.loop-k-test.true found c.loop-k.invariant

pub loop-k-preserved : goal.loop-k-preserved
loop-k-preserved c =
    let other : is_mark (mark_at (state_of c.args.state.now).groups (c.args.at + c.loop-k.k)) c.args.mark ≡ false =
    rw c.mark_at.ensures at (sym c.is_mark.ensures ∙ c.if-is_mark.false) in
    none_next c.args.mark (state_of c.args.state.now).groups c.args.at c.args.n c.loop-k.k _ c.loop-k-test.true other c.loop-k.invariant

pub returns : goal.returns
returns c = none_ends c.args.mark (state_of c.args.state.now).groups c.args.at c.args.n c.loop-k.k _ c.loop-k-test.false c.loop-k.invariant
