use Rattle.std.proofs.Common.{ℕ, ◌≡◌, List, [], ◌∷◌, Option, None, Some, sym, ap, ◌∙◌, arith}
use Rattle.machine.specs.State.{Frame}
use Rattle.machine.specs.Memory.{byte_count, byte_at}
use Rattle.interp.specs.Frames.{frames_above}
use Rattle.interp.specs.Reading.{reading, stack_byte}
use Rattle.interp.proofs.Regions.{some_bytes, few_bytes, around, nothing_read, stack_reading}
use Rattle.interp.proofs.Opened.{none_above, all_long, nowhere, find_frame}
use Rattle.interp.proofs.state.CheckedMachine.read_above.Goals as goal

pub returns-then-this-eq0 : goal.returns-then-this-eq0
returns-then-this-eq0 g c = λ context device long.
    let first : Frame = record { stack = c.self.inside.stack; caller = None } in
    let none : frames_above c.self.inside.called ≡ [] = none_above c.self.inside.called (c.self.told ∙ c.if-this-eq0.true) in
    rw (← c.self.view_is, none)
    (sym (nothing_read (byte_at context device (first ∷ [])) c.args.address (byte_count c.args.size) (some_bytes c.args.size)
    (around context device (first ∷ []) c.args.address long (all_long first [] c.self.invariant (λ i f e. absurd (let bad : None ≡ Some f = e in cc))) c.requires.below c.requires.context
    (nowhere first [] c.args.address c.requires.first (λ q p e within lt. absurd (omega (arith, within)))))))

pub returns-in-None : goal.returns-in-None
returns-in-None g c = λ context device long.
    let first : Frame = record { stack = c.self.inside.stack; caller = None } in
    let above : List Frame = c.above-frames.result.now in
    let some : frames_above c.self.inside.called ≡ above = sym c.above-frames.ensures in
    rw (← c.self.view_is, some)
    (sym (nothing_read (byte_at context device (first ∷ above)) c.args.address (byte_count c.args.size) (some_bytes c.args.size)
    (around context device (first ∷ above) c.args.address long (all_long first above c.self.invariant c.spot_above.ensures.long) c.requires.below c.requires.context
    (nowhere first above c.args.address c.requires.first c.in-None.ensures.none))))

pub returns-in-Some : goal.returns-in-Some
returns-in-Some g c = λ context device long.
    let first : Frame = record { stack = c.self.inside.stack; caller = None } in
    let above : List Frame = c.above-frames.result.now in
    let some : frames_above c.self.inside.called ≡ above = sym c.above-frames.ensures in
    let at = c.in-Some.ensures.found in
    let frame = find_frame first above c.in-Some.spot.frame c.stack.result.now at.some c.stack.ensures in
    rw (← c.self.view_is, some)
    (c.read.ensures
    ∙ ap (λ (s : List (Option ℕ)). reading (stack_byte s) c.in-Some.spot.place (byte_count c.args.size)) (sym frame.same)
    ∙ sym (stack_reading context device (first ∷ above) frame.found c.args.address c.in-Some.spot.frame c.in-Some.spot.place (byte_count c.args.size)
    frame.there at.few at.start at.short (few_bytes c.args.size)))
