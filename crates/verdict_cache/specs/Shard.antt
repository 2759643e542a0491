-- A shard as a list of entries, and what a look makes of it (docs/PROVED.md, Threads and the cache).
use Rattle.std.specs.Prelude.{ℕ, ◌+◌, ◌-◌, ◌^◌, min, List, [], ◌∷◌, Option, None, Some}
use Rattle.std.specs.Map.{lookup, remove_entry}
use Rattle.interp.specs.declared.outcome.Outcome.{Outcome}
use Rattle.images.specs.Keys.{KeyValue}
use Rattle.images.specs.Equal.{same_key}
use Rattle.lru.specs.LruCache.{LruCache}

-- the number of the shard among those of its cache, the entries, the most recently used first, how many there may be, and
-- how many looks have found one
pub record ShardValue : Type 0 where
  pub number : ℕ
  pub entries : List (KeyValue × Outcome)
  pub capacity : ℕ
  pub hits : ℕ

-- the outcome that is listed for a key
abbrev pub listed_outcome : List (KeyValue × Outcome) → KeyValue → Option Outcome
listed_outcome entries key = lookup (same_key key) entries

-- the entry first, in the place of the one that had its key
abbrev pub to_front : List (KeyValue × Outcome) → KeyValue → Outcome → List (KeyValue × Outcome)
to_front entries key outcome = (key, outcome) ∷ remove_entry (same_key key) entries

-- one look more that found an entry; the count stays at its greatest value
abbrev pub count_hit : ℕ → ℕ
count_hit hits = min (hits + 1) (2 ^ 64 - 1)

-- a shard after a look that found the outcome
abbrev pub after_look : ShardValue → KeyValue → Outcome → ShardValue
after_look shard key outcome = record {
  number = shard.number;
  entries = to_front shard.entries key outcome;
  capacity = shard.capacity;
  hits = count_hit shard.hits;
}

-- a shard as it is kept: as a map of bounded size, or without one where the capacity is 0
abbrev pub entries_of : Option (LruCache KeyValue Outcome) → List (KeyValue × Outcome)
entries_of None = []
entries_of (Some cache) = cache.entries

abbrev pub capacity_of : Option (LruCache KeyValue Outcome) → ℕ
capacity_of None = 0
capacity_of (Some cache) = cache.cap

abbrev pub shard_value : ℕ → Option (LruCache KeyValue Outcome) → ℕ → ShardValue
shard_value number cache hits = record { number = number; entries = entries_of cache; capacity = capacity_of cache; hits = hits }
