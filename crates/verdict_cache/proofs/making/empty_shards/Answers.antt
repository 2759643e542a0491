use Rattle.std.proofs.Common.{rules, arith, ◌≡◌, ◌++◌, [], ◌∷◌, sym, ◌∙◌}
use Rattle.std.proofs.lemmas.List.FromFn.{map-range_with_len_more}
use Rattle.verdict_cache.specs.Sizes.{empty_shard, first_shards}
use Rattle.verdict_cache.proofs.making.empty_shards.Goals as goal

pub loop-number-preserved : goal.loop-number-preserved
loop-number-preserved g c =
    let number = c.loop-number.number in
    let own : c.push.new.self.items ≡ first_shards c.args.size number ++ empty_shard c.args.size number ∷ [] = search rules in
    own ∙ sym (map-range_with_len_more (empty_shard c.args.size) 0 number number (omega arith))
