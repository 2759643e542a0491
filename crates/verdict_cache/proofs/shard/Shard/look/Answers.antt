use Rattle.std.proofs.Common.{rules, ◌≡◌, Some, subst, sym, ap, ◌∙◌}
use Rattle.verdict_cache.specs.Endings.{AreTrue}
use Rattle.verdict_cache.specs.Shard.{listed_outcome, entries_of, capacity_of}
use Rattle.verdict_cache.proofs.Truth.{listed_true, front_true}
use Rattle.verdict_cache.proofs.shard.Shard.look.Goals as goal

pub invariant_of-self-2 : goal.invariant_of-self-2
invariant_of-self-2 g c =
    let plan = g.J.Run.plan in
    let checkers = g.J.Run.checkers in
    let old = c.in-Some.cache.entries in
    let outcome = c.in_ok-outcome.outcome in
    let there : listed_outcome old c.args.key.now ≡ Some outcome = search rules in
    let were = subst (λ o. AreTrue plan checkers (entries_of o)) c.in-Some.is c.self.invariant.0 in
    let own = listed_true plan checkers old c.args.key.now outcome were there in
    let room = ap capacity_of (sym c.in-Some.is) ∙ c.self.invariant.1 in (
      subst (AreTrue plan checkers) (sym (ap (λ n. n.entries) c.in_ok-outcome.ensures.found)) (front_true plan checkers old c.args.key.now outcome were own),
      ap (λ n. n.cap) c.in_ok-outcome.ensures.found ∙ room,
    )

pub returns-clause-told : goal.returns-clause-told
returns-clause-told g c =
    let plan = g.J.Run.plan in
    let checkers = g.J.Run.checkers in
    let there : listed_outcome c.in-Some.cache.entries c.args.key.now ≡ Some c.in_ok-outcome.outcome = search rules in
    let were = subst (λ o. AreTrue plan checkers (entries_of o)) c.in-Some.is c.self.invariant.0 in
    listed_true plan checkers c.in-Some.cache.entries c.args.key.now c.in_ok-outcome.outcome were there
