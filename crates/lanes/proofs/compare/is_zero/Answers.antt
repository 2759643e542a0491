use Rattle.std.proofs.Common.{refl, sym, ◌∙◌, arith}
use Rattle.lanes.proofs.Sectors.{zero_so_far, zero_row, zero_whole}
use Rattle.lanes.proofs.compare.is_zero.Goals as goal

pub returns-then-not-same_lanes : goal.returns-then-not-same_lanes
returns-then-not-same_lanes c = (
  λ bad. absurd (cc),
  λ zero. c.if-not-same_lanes.ensures.1 (c.load_row.ensures ∙ zero_row c.args.sector.now c.loop-row.row (omega arith) zero),
)

pub loop-row-preserved : goal.loop-row-preserved
loop-row-preserved c =
    let equal = c.if-not-same_lanes.ensures.0 refl in
    zero_so_far c.args.sector.now c.loop-row.row c.loop-row.invariant (sym c.load_row.ensures ∙ equal)

pub returns : goal.returns
returns c = (λ _. zero_whole c.args.sector.now c.loop-row.row (omega arith) (omega arith) c.loop-row.invariant, λ _. refl)
