use Rattle.std.proofs.Common.{ℕ, ◌≡◌, List, [], ◌∷◌, None, Some, length, sym, ◌∙◌, arith, rules}
use Rattle.machine.specs.State.{Frame}
use Rattle.machine.specs.Memory.{byte_at}
use Rattle.interp.specs.Frames.{frames_above}
use Rattle.interp.proofs.Regions.{around, nothing_written_to}
use Rattle.interp.proofs.Opened.{none_above, all_long, nowhere}
use Rattle.interp.proofs.state.CheckedMachine.fault_outside.Goals as goal

pub returns-in-None : goal.returns-in-None
returns-in-None g c =
    let device : List (List ℕ) = g.D.Device.content c.args.world.now.device.now in
    let context : List ℕ = c.args.world.now.context in
    let long : length c.args.world.now.context ≡ 32 = search rules in
    let first : Frame = record { stack = c.self.inside.stack; caller = None } in
    let none : frames_above c.self.inside.called ≡ [] = none_above c.self.inside.called (c.self.told ∙ c.requires.only) in
    let below = rw c.in-None.is at c.block_fault.ensures.below in
    let past = rw c.in-None.is at c.block_fault.ensures.context in
    rw (← c.self.view_is, none)
    (sym (nothing_written_to (byte_at context device (first ∷ [])) c.args.address c.args.count c.requires.some
    (around context device (first ∷ []) c.args.address long (all_long first [] c.self.invariant (λ i f e. absurd (let bad : None ≡ Some f = e in cc))) below past
    (nowhere first [] c.args.address c.requires.first (λ q p e within lt. absurd (omega (arith, within)))))))
