-- The cache: outcomes by key (docs/PROVED.md, Threads and the cache).
use Rattle.std.specs.Prelude.{ℕ, ◌==◌, not, List, filter, find, Option, option_map}
use Rattle.std.specs.List.{list_any}
use Rattle.explore_core.specs.declared.cache.CacheEntry.{CacheEntry}

-- the outcome that the cache has for a key
abbrev pub cache_outcome : List CacheEntry → ℕ → Option ℕ
cache_outcome cache key = option_map (λ (e : CacheEntry). e.outcome) (find (λ (e : CacheEntry). e.key == key) cache)

-- the entries whose keys aren't among those
abbrev pub without : List ℕ → List CacheEntry → List CacheEntry
without gone cache = filter (λ (e : CacheEntry). not (list_any (λ key. key == e.key) gone)) cache
