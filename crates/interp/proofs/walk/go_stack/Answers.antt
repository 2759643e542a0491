use Rattle.std.proofs.Common.{◌≡◌, ◌∙◌, Bool, Option, true, false, refl, sym, ap}
use Rattle.std.specs.Option.{option_map, option_map_or}
use Rattle.bpf_isa.specs.declared.instr.Instr.{Instr}
use Rattle.machine.specs.Step.{step}
use Rattle.machine.specs.Guards.{guarded, writes_own, writes_own_here, stack_step}
use Rattle.interp.specs.Going.{at_slot, settled_of}
use Rattle.interp.specs.Walks.{is_local_call}
use Rattle.interp.specs.declared.state.CheckedGoing.{CheckedGoing}
use Rattle.interp.proofs.Filling.{going_is, leads_on}
use Rattle.interp.proofs.Reached.{owns_anywhere}
use Rattle.interp.proofs.walk.go_stack.Goals as goal

pub go_filled-going-requires-clause-there : goal.go_filled-going-requires-clause-there
go_filled-going-requires-clause-there g c = rw c.requires.here refl

pub go_filled-going-requires-clause-calls : goal.go_filled-going-requires-clause-calls
go_filled-going-requires-clause-calls g c = c.is_local_call.ensures ∙ ap (λ (i : Option Instr). option_map_or is_local_call i false) (sym c.requires.here)

pub returns-clause-made : goal.returns-clause-made
unfolding stack_step writes_own_here
returns-clause-made g c =
    let s = at_slot c.args.slot c.args.machine.now in
    let own = c.writes_own-own.result in
    let done = step c.args.world.now.program.now c.args.world.now.context (g.D.Device.content c.args.world.now.device.now) s in
    ap (λ (x : Option CheckedGoing). option_map (settled_of c.args.slot c.go_filled-going.new.machine) x) c.guarded_going.ensures
    ∙ going_is own done c.args.slot c.go_filled-going.new.machine c.go_filled-going.result c.go_filled-going.ensures.made
    ∙ ap (λ (b : Bool). guarded b done) (c.writes_own-own.ensures ∙ owns_anywhere c.args.machine.now c.args.slot c.args.instr.now ∙ ap (λ (i : Option Instr). option_map_or (writes_own s) i true) (sym c.requires.here))

pub returns-clause-next : goal.returns-clause-next
returns-clause-next g c = rw c.guarded_going.ensures (leads_on c.args.world.now.program.now c.writes_own-own.result c.go_filled-going.result c.go_filled-going.ensures.next)
