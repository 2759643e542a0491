-- The shard of a key, from a sum that wraps.
use Rattle.std.proofs.Common.{ℕ, ◌≡◌, ◌+◌, ◌%◌, ◌^◌, ◌≤◌, List, length, take, sum_by, ◌∙◌, ap, arith}
use Rattle.std.proofs.lemmas.List.{take_all}
use Rattle.lanes.specs.Sector.{mix}
use Rattle.images.specs.Keys.{ChangedValue, KeyValue, shard_of}

wrapped : (n : ℕ) → n % 2 ^ 64 % 16 ≡ n % 16
wrapped n = omega arith

-- the sum over all sectors of a key gives its shard
pub sum_of_all : (key : KeyValue) (sectors : List ChangedValue) (i sum : ℕ) → sectors ≡ key.changed → length sectors ≤ i
    → sum ≡ (key.program + sum_by (λ (sector : ChangedValue). mix sector.content + sector.number) (take i sectors)) % 2 ^ 64
    → sum % 16 ≡ shard_of key
unfolding shard_of
sum_of_all key sectors i sum is long told =
    let f : ChangedValue → ℕ = λ sector. mix sector.content + sector.number in
    ap (λ s. s % 16) (told ∙ ap (λ cs. (key.program + sum_by f cs) % 2 ^ 64) (take_all i sectors long ∙ is)) ∙ wrapped (key.program + sum_by f key.changed)
