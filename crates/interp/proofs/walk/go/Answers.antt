use Rattle.std.proofs.Common.{rules, ◌≡◌, ◌<◌, length, refl, sym, ◌∙◌, inr, arith}
use Rattle.bpf_isa.specs.declared.ready.Code.TheVariants.{CallHelper}
use Rattle.interp.specs.Going.{at_slot}
use Rattle.interp.proofs.Runs.{begins_inside, record_inside, record_there, call_below, again_inside, step_is, stepped_nowhere, stepped_there, some_is_made}
use Rattle.interp.proofs.walk.go.Goals as goal

pub bounds-records-slot : goal.bounds-records-slot
bounds-records-slot g c =
    let inside = begins_inside c.args.world.now.program.now c.args.slot c.requires in
    record_inside c.ready-records.result.now c.args.world.now.program.now c.args.slot (length c.args.world.now.program.now) c.ready-records.ensures.made refl inside

pub make_step-requires : goal.make_step-requires
make_step-requires g c =
    let inside = begins_inside c.args.world.now.program.now c.args.slot c.requires in
    let there = record_there c.ready-records.result.now c.args.world.now.program.now c.args.slot (length c.args.world.now.program.now) c.index-records-slot.result c.ready-records.ensures.made refl inside c.index-records-slot.is in
    let below : c.index-records-slot.result.code ≡ CallHelper → c.args.slot < 4096 = λ call. call_below c.args.world.now.program.now c.args.slot c.index-records-slot.result c.ready-records.ensures.program there call in (
      search rules,
      (
        omega (arith, inside, c.ready-records.ensures.program.count.limit),
        (below, λ call. λ named. again_inside c.args.world.now.program.now c.args.slot c.index-records-slot.result 4096 c.ready-records.ensures.program there call named (inr c.ready-records.ensures.program.count.limit)),
      ),
    )

pub returns-then-is_none-clause-made : goal.returns-then-is_none-clause-made
returns-then-is_none-clause-made g c =
    let inside = begins_inside c.args.world.now.program.now c.args.slot c.requires in
    let there = record_there c.ready-records.result.now c.args.world.now.program.now c.args.slot (length c.args.world.now.program.now) c.index-records-slot.result c.ready-records.ensures.made refl inside c.index-records-slot.is in
    let came = rw (c.in-Some-Next.is, c.in-Some-Next.field-0-is) at c.make_step.ensures.made in
    sym (stepped_nowhere c.args.world.now.program.now c.args.slot c.in-Some-Next.next c.make_step.new.self c.at.result c.at.ensures.value c.if-is_none.ensures)
    ∙ step_is 1 c.args.world.now.program.now c.args.world.now.context (g.D.Device.content c.args.world.now.device.now) (at_slot c.args.slot c.args.machine.now) c.index-records-slot.result _
    c.ready-records.ensures.program there came

pub unreachable-requires : goal.unreachable-requires
unreachable-requires g c =
    let inside = begins_inside c.args.world.now.program.now c.args.slot c.requires in
    let there = record_there c.ready-records.result.now c.args.world.now.program.now c.args.slot (length c.args.world.now.program.now) c.index-records-slot.result c.ready-records.ensures.made refl inside c.index-records-slot.is in
    let none = rw c.in-None.is at c.make_step.ensures.made in
    some_is_made c.args.world.now.program.now c.args.world.now.context (g.D.Device.content c.args.world.now.device.now) (at_slot c.args.slot c.args.machine.now) c.index-records-slot.result
    c.ready-records.ensures.program there c.requires none

pub returns-else-is_none-clause-made : goal.returns-else-is_none-clause-made
returns-else-is_none-clause-made g c =
    let inside = begins_inside c.args.world.now.program.now c.args.slot c.requires in
    let there = record_there c.ready-records.result.now c.args.world.now.program.now c.args.slot (length c.args.world.now.program.now) c.index-records-slot.result c.ready-records.ensures.made refl inside c.index-records-slot.is in
    let came = rw (c.in-Some-Next.is, c.in-Some-Next.field-0-is) at c.make_step.ensures.made in
    sym (stepped_there c.args.world.now.program.now c.args.slot c.in-Some-Next.next c.make_step.new.self c.at.result c.at.ensures.value c.if-is_none.ensures)
    ∙ step_is 1 c.args.world.now.program.now c.args.world.now.context (g.D.Device.content c.args.world.now.device.now) (at_slot c.args.slot c.args.machine.now) c.index-records-slot.result _
    c.ready-records.ensures.program there came

pub returns-in-Some-Done-clause-made : goal.returns-in-Some-Done-clause-made
returns-in-Some-Done-clause-made g c =
    let inside = begins_inside c.args.world.now.program.now c.args.slot c.requires in
    let there = record_there c.ready-records.result.now c.args.world.now.program.now c.args.slot (length c.args.world.now.program.now) c.index-records-slot.result c.ready-records.ensures.made refl inside c.index-records-slot.is in
    let came = rw (c.in-Some-Done.is, c.in-Some-Done.field-0-is) at c.make_step.ensures.made in
    step_is 1 c.args.world.now.program.now c.args.world.now.context (g.D.Device.content c.args.world.now.device.now) (at_slot c.args.slot c.args.machine.now) c.index-records-slot.result _
    c.ready-records.ensures.program there came

pub returns-in-Some-Fault-clause-made : goal.returns-in-Some-Fault-clause-made
returns-in-Some-Fault-clause-made g c =
    let inside = begins_inside c.args.world.now.program.now c.args.slot c.requires in
    let there = record_there c.ready-records.result.now c.args.world.now.program.now c.args.slot (length c.args.world.now.program.now) c.index-records-slot.result c.ready-records.ensures.made refl inside c.index-records-slot.is in
    let came = rw (c.in-Some-Fault.is, c.in-Some-Fault.field-0-is) at c.make_step.ensures.made in
    step_is 1 c.args.world.now.program.now c.args.world.now.context (g.D.Device.content c.args.world.now.device.now) (at_slot c.args.slot c.args.machine.now) c.index-records-slot.result _
    c.ready-records.ensures.program there came
