use Rattle.images.specs.Keys.{ChangedValue}
use Rattle.std.proofs.Common.{◌≡◌, ◌+◌, ◌%◌, ◌^◌, take, sum_by}
use Rattle.lanes.specs.Sector.{mix}
use Rattle.images.proofs.key.Key.shard.Given as goal

abbrev pub invariant-loop-sector : goal.invariant-loop-sector
invariant-loop-sector l = l.sum ≡ (l.self.program + sum_by (λ (sector : ChangedValue). mix sector.content + sector.number) (take l.sector-index l.sector-items)) % 2 ^ 64
