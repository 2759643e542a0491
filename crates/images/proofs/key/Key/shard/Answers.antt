use Rattle.std.proofs.Common.{◌∙◌, ap}
use Rattle.images.specs.Keys.{KeyValue}
use Rattle.images.proofs.Shards.{sum_of_all}
use Rattle.images.proofs.key.Key.shard.Goals as goal

pub returns-clause-value : goal.returns-clause-value
returns-clause-value c =
    sum_of_all c.args.self.now _ c.loop-sector.sector-index c.loop-sector.sum
    (c.as_slice-sector-items.ensures.value ∙ ap (λ (key : KeyValue). key.changed) c.self.view_is) c.loop-sector-test.false c.loop-sector.invariant
