use Rattle.std.proofs.Common.{length, ap, arith}
use Rattle.inspect.proofs.Risks.{few_at_risk}
use Rattle.inspect.proofs.looks.risks.risk_at.Goals as goal

pub overflow_cast-result : goal.overflow_cast-result
overflow_cast-result c =
    let few = few_at_risk c.in_ok-at.at c.sectors-sectors.ensures.bounds in
    let long = ap length c.parts-parts.ensures.value in
    omega (arith, few, long)

pub count_in_flight-requires : goal.count_in_flight-requires
count_in_flight-requires c =
    let few = few_at_risk c.in_ok-at.at c.sectors-sectors.ensures.bounds in
    let long = ap length c.parts-parts.ensures.value in
    omega (arith, few, long)
