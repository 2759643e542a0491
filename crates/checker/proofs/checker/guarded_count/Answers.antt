use Rattle.std.proofs.Common.{◌≡◌, ◌≤◌, ◌∙◌, length, ap, arith}
use Rattle.verifier.specs.Guards.{guarded_slots}
use Rattle.checker.proofs.Counted.{few_guarded}
use Rattle.checker.proofs.checker.guarded_count.Goals as goal

pub overflow_cast-result : goal.overflow_cast-result
overflow_cast-result c =
    let v = c.args.verified.now in
    let few = few_guarded v c.has_guards.ensures.verified in
    let long : length c.in_ok-slots.slots.items ≡ length (guarded_slots v.program v.table) = ap length c.in_ok-slots.ensures in
    omega (arith, few, long, c.len.ensures)
