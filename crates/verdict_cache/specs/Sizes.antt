-- How the entries of a cache are spread over its shards (docs/PROVED.md, Threads and the cache).
use Rattle.std.specs.Prelude.{ℕ, ◌+◌, ◌/◌, ◌%◌, nat_lt, if◌then◌else◌, List, [], map}
use Rattle.std.specs.List.{range_with_len}
use Rattle.verdict_cache.specs.Shard.{ShardValue}

-- how many entries the shard of that number may have in a cache of that size
abbrev pub share_of : ℕ → ℕ → ℕ
share_of size number = size / 16 + (if nat_lt number (size % 16) then 1 else 0)

-- the shard of that number, at the start
abbrev pub empty_shard : ℕ → ℕ → ShardValue
empty_shard size number = record { number = number; entries = []; capacity = share_of size number; hits = 0 }

-- the first n shards of a cache of that size, at the start
abbrev pub first_shards : ℕ → ℕ → List ShardValue
first_shards size n = map (empty_shard size) (range_with_len 0 n)
