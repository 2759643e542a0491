use Rattle.std.proofs.Common.{subst, sym, ap, ◌∙◌}
use Rattle.verdict_cache.specs.Endings.{AreTrue}
use Rattle.verdict_cache.specs.Shard.{entries_of, capacity_of}
use Rattle.verdict_cache.proofs.Truth.{put_true}
use Rattle.verdict_cache.proofs.shard.Shard.put.Goals as goal
use Rattle.verdict_cache.proofs.shard.Shard.put.Goals.{in-Some, in-None}

pub invariant_of-self : goal.invariant_of-self
invariant_of-self g c = elim c.match-self.branch [
  | in-Some w ↦
      let plan = g.J.Run.plan in
      let checkers = g.J.Run.checkers in
      let old = w.in-Some.cache in
      let were = subst (λ o. AreTrue plan checkers (entries_of o)) w.in-Some.is c.self.invariant.0 in
      let are = put_true plan checkers old.entries c.args.key c.args.outcome w.put_in.result old.cap were c.requires in
      let room = ap capacity_of (sym w.in-Some.is) ∙ c.self.invariant.1 in
      rw w.self-inside-is (subst (AreTrue plan checkers) (sym (ap (λ n. n.entries) w.put_in.ensures.kept)) are, ap (λ n. n.cap) w.put_in.ensures.kept ∙ room)
  | in-None w ↦ rw w.self-inside-is c.self.invariant
]
