use Rattle.std.proofs.Common.{rules, ◌≡◌, ◌<◌, length, IsSome, IsNone, ap, ◌∙◌}
use Rattle.lru.specs.LruCache.{lru_cache, put_entries}
use Rattle.images.specs.Equal.{same_key}
use Rattle.verdict_cache.specs.Shard.{listed_outcome}
use Rattle.verdict_cache.proofs.Listed.{put_again, put_full, put_room}
use Rattle.verdict_cache.proofs.shard.put_in.Goals as goal

pub returns-then-was_there-clause-kept : goal.returns-then-was_there-clause-kept
returns-then-was_there-clause-kept c =
    let kept : c.put.new.self ≡ lru_cache (put_entries same_key c.args.cache.now c.args.key c.args.outcome) c.args.cache.now.cap = search rules in
    let there : IsSome (listed_outcome c.args.cache.now.entries c.args.key) = search rules in
    kept ∙ ap (λ es. lru_cache es c.args.cache.now.cap) (put_again c.args.cache.now c.args.key c.args.outcome there)

pub returns-then-is_full-clause-kept : goal.returns-then-is_full-clause-kept
returns-then-is_full-clause-kept c =
    let kept : c.put.new.self ≡ lru_cache (put_entries same_key c.args.cache.now c.args.key c.args.outcome) c.args.cache.now.cap = search rules in
    let missing : IsNone (listed_outcome c.args.cache.now.entries c.args.key) = search rules in
    kept ∙ ap (λ es. lru_cache es c.args.cache.now.cap) (put_full c.args.cache.now c.args.key c.args.outcome missing)

pub returns-clause-kept : goal.returns-clause-kept
returns-clause-kept c =
    let kept : c.put.new.self ≡ lru_cache (put_entries same_key c.args.cache.now c.args.key c.args.outcome) c.args.cache.now.cap = search rules in
    let missing : IsNone (listed_outcome c.args.cache.now.entries c.args.key) = search rules in
    let room : length c.args.cache.now.entries < c.args.cache.now.cap = search rules in
    kept ∙ ap (λ es. lru_cache es c.args.cache.now.cap) (put_room c.args.cache.now c.args.key c.args.outcome missing room)
