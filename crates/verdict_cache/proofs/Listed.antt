-- What the map of a shard makes of its entries, in the words of a shard.
use Rattle.std.proofs.Common.{arith, ◌≡◌, ◌-◌, ◌<◌, ◌≤◌, true, false, List, [], ◌∷◌, length, take, Option, None, Some, IsSome, IsNone, refl, sym, ap, ◌∙◌}
use Rattle.std.specs.Map.{lookup_entry}
use Rattle.std.proofs.lemmas.List.{take_all}
use Rattle.interp.specs.declared.outcome.Outcome.{Outcome}
use Rattle.images.specs.Keys.{KeyValue}
use Rattle.images.specs.Equal.{same_key, key_decides}
use Rattle.lru.specs.LruCache.{LruCache, promoted, put_entries}
use Rattle.verdict_cache.specs.Shard.{listed_outcome, to_front}

-- the entry of a listed outcome
pub listed_entry : (entries : List (KeyValue × Outcome)) (key : KeyValue) (outcome : Outcome) → listed_outcome entries key ≡ Some outcome
    → lookup_entry (same_key key) entries ≡ Some (key, outcome)
listed_entry [] key outcome there = absurd (let bad : None ≡ Some outcome = there in cc)
listed_entry (e ∷ entries) key outcome there = (elim (same_key key e.0) as (λ y. same_key key e.0 ≡ y → lookup_entry (same_key key) (e ∷ entries) ≡ Some (key, outcome)) [
  | true ↦ λ t.
      let found : Some e.1 ≡ Some outcome = rw t at there in
      let own : e.1 ≡ outcome = cc in
      let same : key ≡ e.0 = (key_decides key e.0).0 t in
      rw t (λ i. Some (sym same i, own i))
  | false ↦ λ t. rw t (listed_entry entries key outcome (rw t at there))
]) refl

-- no entry of a key that isn't listed
pub no_entry : (entries : List (KeyValue × Outcome)) (key : KeyValue) → IsNone (listed_outcome entries key) → lookup_entry (same_key key) entries ≡ None
no_entry [] key missing = refl
no_entry (e ∷ entries) key missing = (elim (same_key key e.0) as (λ y. same_key key e.0 ≡ y → lookup_entry (same_key key) (e ∷ entries) ≡ None) [
  | true ↦ λ t. absurd (let bad : true ≡ false = rw t at missing in cc)
  | false ↦ λ t. rw t (no_entry entries key (rw t at missing))
]) refl

-- a used entry is in front
pub promoted_is : (entries : List (KeyValue × Outcome)) (key : KeyValue) (outcome : Outcome) → listed_outcome entries key ≡ Some outcome
    → promoted (same_key key) entries ≡ to_front entries key outcome
promoted_is entries key outcome there = rw (listed_entry entries key outcome there) refl

some_put : (cache : LruCache KeyValue Outcome) (key : KeyValue) (outcome : Outcome) (old : Option Outcome) → listed_outcome cache.entries key ≡ old → IsSome old
    → put_entries same_key cache key outcome ≡ to_front cache.entries key outcome
some_put cache key outcome None there some = absurd (let bad : false ≡ true = some in cc)
some_put cache key outcome (Some old) there some = rw (listed_entry cache.entries key old there) refl

-- an entry whose key was there
pub put_again : (cache : LruCache KeyValue Outcome) (key : KeyValue) (outcome : Outcome) → IsSome (listed_outcome cache.entries key)
    → put_entries same_key cache key outcome ≡ to_front cache.entries key outcome
put_again cache key outcome some = some_put cache key outcome (listed_outcome cache.entries key) refl some

-- an entry whose key is new, where the last one has to leave
pub put_full : (cache : LruCache KeyValue Outcome) (key : KeyValue) (outcome : Outcome) → IsNone (listed_outcome cache.entries key)
    → put_entries same_key cache key outcome ≡ (key, outcome) ∷ take (cache.cap - 1) cache.entries
put_full cache key outcome missing = rw (no_entry cache.entries key missing) refl

-- the same, where there is room
pub put_room : (cache : LruCache KeyValue Outcome) (key : KeyValue) (outcome : Outcome) → IsNone (listed_outcome cache.entries key) → length cache.entries < cache.cap
    → put_entries same_key cache key outcome ≡ (key, outcome) ∷ cache.entries
put_room cache key outcome missing room =
    let within : length cache.entries ≤ cache.cap - 1 = omega arith in
    put_full cache key outcome missing ∙ ap (λ es. (key, outcome) ∷ es) (take_all (cache.cap - 1) cache.entries within)
