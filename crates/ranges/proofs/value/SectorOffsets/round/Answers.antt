use Rattle.std.proofs.Common.{rules, arith, ◌<◌, ◌^◌}
use Rattle.ranges.proofs.value.SectorOffsets.round.Goals as goal

-- src/value.rt:127:19
pub overflow_cast-result-2 : goal.overflow_cast-result-2
overflow_cast-result-2 c =
    let small : c.from-2.result < 65536 = search rules in
    let high : c.round-rounded.result.high < 2 ^ 16 = c.round-rounded.ensures.small 16 small in
    search rules

pub invariant_of-result-clause-fits : goal.invariant_of-result-clause-fits
invariant_of-result-clause-fits c =
    let small : c.from-2.result < 65536 = search rules in
    let high : c.round-rounded.result.high < 2 ^ 16 = c.round-rounded.ensures.small 16 small in
    omega (arith, high)
