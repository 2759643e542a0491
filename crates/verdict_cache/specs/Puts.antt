-- What a put answers, and what it makes of the entries (docs/PROVED.md, Threads and the cache).
use Rattle.std.specs.Prelude.{ℕ, ◌-◌, ◌≡◌, ◌<◌, List, ◌∷◌, length, take, IsSome, IsNone}
use Rattle.interp.specs.declared.outcome.Outcome.{Outcome}
use Rattle.images.specs.Keys.{KeyValue}
use Rattle.verdict_cache.specs.declared.kept.Kept.{Kept}
use Rattle.verdict_cache.specs.declared.kept.Kept.TheVariants as kept
use Rattle.verdict_cache.specs.Shard.{ShardValue, listed_outcome, to_front}

-- where a put answers so. The entries, the capacity and the key determine the answer, but that memory for a new
-- key may be refused
abbrev pub Answers : Kept → List (KeyValue × Outcome) → ℕ → KeyValue → Type 0
Answers kept.Off entries capacity key = capacity ≡ 0
Answers kept.Again entries capacity key = (0 < capacity) × IsSome (listed_outcome entries key)
Answers kept.New entries capacity key = (length entries < capacity) × IsNone (listed_outcome entries key)
Answers kept.Evicted entries capacity key = (0 < capacity) × (length entries ≡ capacity) × IsNone (listed_outcome entries key)
Answers kept.NoMemory entries capacity key = (0 < capacity) × IsNone (listed_outcome entries key)

-- the entries after a put with that answer: the entry is first, and where none had its key and there was no room, the
-- last one has left
abbrev pub entries_after : Kept → List (KeyValue × Outcome) → ℕ → KeyValue → Outcome → List (KeyValue × Outcome)
entries_after kept.Off entries capacity key outcome = entries
entries_after kept.Again entries capacity key outcome = to_front entries key outcome
entries_after kept.New entries capacity key outcome = (key, outcome) ∷ entries
entries_after kept.Evicted entries capacity key outcome = (key, outcome) ∷ take (capacity - 1) entries
entries_after kept.NoMemory entries capacity key outcome = entries

-- a shard after a put with that answer
abbrev pub after_put : Kept → ShardValue → KeyValue → Outcome → ShardValue
after_put answer shard key outcome = record {
  number = shard.number;
  entries = entries_after answer shard.entries shard.capacity key outcome;
  capacity = shard.capacity;
  hits = shard.hits;
}
