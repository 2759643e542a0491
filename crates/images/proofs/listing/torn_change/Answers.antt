use Rattle.std.proofs.Common.{Some, None, if◌then◌else◌, sym, ◌∙◌, ap}
use Rattle.lanes.proofs.CallerLemmas.{same_test}
use Rattle.images.specs.Keys.{ChangedValue}
use Rattle.images.proofs.Listed.{change_by_test}
use Rattle.images.proofs.listing.torn_change.Goals as goal

pub returns-then-same : goal.returns-then-same
returns-then-same c = λ durable image here shown.
    let own : ChangedValue = record { number = c.args.number; content = c.args.sector.now } in
    ap (λ b. if b then None else Some own) (sym c.if-same.true)
    ∙ change_by_test durable image c.args.number c.args.base.now c.args.sector.now c.same.result (same_test _ _ c.same.result c.same.ensures) here shown

pub returns : goal.returns
returns c = λ durable image here shown.
    let own : ChangedValue = record { number = c.args.number; content = c.args.sector.now } in
    ap (λ (s : ChangedValue). Some s) c.in_ok-torn_sector.ensures
    ∙ ap (λ b. if b then None else Some own) (sym c.if-same.false)
    ∙ change_by_test durable image c.args.number c.args.base.now c.args.sector.now c.same.result (same_test _ _ c.same.result c.same.ensures) here shown
