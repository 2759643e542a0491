use Rattle.std.proofs.Common.{◌≡◌, List, [], ◌∷◌, None, Some, sym, ◌∙◌, arith}
use Rattle.machine.specs.State.{Frame}
use Rattle.machine.specs.Memory.{byte_at}
use Rattle.interp.specs.Frames.{frames_above}
use Rattle.interp.proofs.Regions.{around, nothing_written_to, stack_written}
use Rattle.interp.proofs.Opened.{none_above, all_long, nowhere, open_there, spot_fault, spot_lies}
use Rattle.interp.proofs.state.CheckedMachine.writable_above.Goals as goal

pub returns-then-this-eq0-clause-fault : goal.returns-then-this-eq0-clause-fault
returns-then-this-eq0-clause-fault g c = λ context device long.
    let first : Frame = record { stack = c.self.inside.stack; caller = None } in
    let none : frames_above c.self.inside.called ≡ [] = none_above c.self.inside.called (c.self.told ∙ c.if-this-eq0.true) in
    rw (← c.self.view_is, none)
    (sym (nothing_written_to (byte_at context device (first ∷ [])) c.args.address c.args.count c.requires.some
    (around context device (first ∷ []) c.args.address long (all_long first [] c.self.invariant (λ i f e. absurd (let bad : None ≡ Some f = e in cc))) c.requires.below c.requires.context
    (nowhere first [] c.args.address c.requires.first (λ q p e within lt. absurd (omega (arith, within)))))))

pub returns-in-None-clause-fault : goal.returns-in-None-clause-fault
returns-in-None-clause-fault g c = λ context device long.
    let first : Frame = record { stack = c.self.inside.stack; caller = None } in
    let above : List Frame = c.above-frames.result.now in
    let some : frames_above c.self.inside.called ≡ above = sym c.above-frames.ensures in
    rw (← c.self.view_is, some)
    (sym (nothing_written_to (byte_at context device (first ∷ above)) c.args.address c.args.count c.requires.some
    (around context device (first ∷ above) c.args.address long (all_long first above c.self.invariant c.spot_above.ensures.long) c.requires.below c.requires.context
    (nowhere first above c.args.address c.requires.first c.in-None.ensures.none))))

pub returns-in-Some-clause-fault : goal.returns-in-Some-clause-fault
returns-in-Some-clause-fault g c = λ context device long.
    let first : Frame = record { stack = c.self.inside.stack; caller = None } in
    let above : List Frame = c.above-frames.result.now in
    let some : frames_above c.self.inside.called ≡ above = sym c.above-frames.ensures in
    let at = c.in-Some.ensures.found in
    let here = open_there first above c.in-Some.spot.frame c.self.invariant c.spot_above.ensures.long at.within in
    rw (← c.self.view_is, some)
    (spot_fault c.spot_within.result c.in-Some.spot c.args.count c.spot_within.ensures
    ∙ sym (stack_written context device (first ∷ above) here.found c.args.address c.in-Some.spot.frame c.in-Some.spot.place c.args.count
    here.there at.few here.long at.start at.short c.requires.few))

pub returns-in-Some-clause-spot : goal.returns-in-Some-clause-spot
returns-in-Some-clause-spot g c =
    let first : Frame = record { stack = c.self.inside.stack; caller = None } in
    let above : List Frame = c.above-frames.result.now in
    let some : frames_above c.self.inside.called ≡ above = sym c.above-frames.ensures in
    let at = c.in-Some.ensures.found in
    let here = open_there first above c.in-Some.spot.frame c.self.invariant c.spot_above.ensures.long at.within in
    rw (← c.self.view_is, some)
    (spot_lies c.spot_within.result c.in-Some.spot (first ∷ above) here.found c.args.address c.args.count here.there here.long at.few at.start c.spot_within.ensures)
