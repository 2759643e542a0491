use Rattle.std.proofs.Common.{ℕ, ◌≡◌, ◌∙◌, List, ap}
use Rattle.lanes.specs.Sector.{mix}
use Rattle.lanes.proofs.Mixes.{joined_none, joined_more}
use Rattle.logfmt.specs.Initial.{initial_sector}
use Rattle.images.specs.Number.{initial_mix}
use Rattle.images.proofs.number.joined_mixes.Goals as goal

pub loop-number-init : goal.loop-number-init
loop-number-init c = joined_none (initial_mix c.args.log.now)

pub loop-number-preserved : goal.loop-number-preserved
loop-number-preserved c =
    let held = ap (λ (initial : List ℕ). initial_sector initial c.loop-number.number) c.initial-initial.ensures.value in
    let own : c.mix-sector.result ≡ initial_mix c.args.log.now c.loop-number.number = c.mix-sector.ensures ∙ ap mix (c.sector.ensures ∙ held) in
    rw own (joined_more (initial_mix c.args.log.now) c.loop-number.number c.loop-number.mixed c.loop-number.invariant)
