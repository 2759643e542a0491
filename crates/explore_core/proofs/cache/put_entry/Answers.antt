use Rattle.std.proofs.Common.{rules, ◌∙◌, ap}
use Rattle.std.proofs.lemmas.Fn.{filter_same}
use Rattle.explore_core.specs.Cache.{without}
use Rattle.explore_core.proofs.cache.put_entry.Goals as goal

pub returns-clause-put : goal.returns-clause-put
returns-clause-put c = filter_same _ _ _ (λ x b f' k. search rules) _ _ c.retain.ensures.filtered ∙ ap (without c.args.gone.now) c.in_ok-push.ensures.items
