use Rattle.std.proofs.Common.{rules}
use Rattle.export.proofs.Appending.{appends_more, keeps_appended, rest_is_within}
use Rattle.export.proofs.writing.emit.Goals as goal
use Rattle.export.proofs.writing.emit.Goals.{in-Ok, in-Err+else-ne}

pub loop-turn-preserved : goal.loop-turn-preserved
loop-turn-preserved g c =
    let (below, appended, going) = c.loop-turn.invariant in
    elim c.match-write.branch [
      | in-Ok w ↦ rw w.done-is (rest_is_within _ _ _ below w.in-Ok.ensures.bound, appends_more _ _ _ _ _ _ appended w.in-Ok.ensures.bytes, search rules)
      | in-Err+else-ne w ↦ rw w.done-is (below, keeps_appended _ _ _ _ appended w.in-Err.ensures.bytes, search rules)
    ]
