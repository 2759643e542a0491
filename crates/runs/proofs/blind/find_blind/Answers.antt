use Rattle.std.proofs.Common.{ℕ, length, refl, sym, subst}
use Rattle.std.proofs.lemmas.Option.{slice_get_read}
use Rattle.checker.specs.Checker.{AreFor}
use Rattle.checker.proofs.Suiting.{for_each}
use Rattle.runs.proofs.blind.find_blind.Goals as goal

pub is_noticed-requires-clause-device : goal.is_noticed-requires-clause-device
is_noticed-requires-clause-device c =
    let task = c.args.task.now in
    for_each task.log.now.sectors task.checkers.now c.loop-checker.checker-index c.checker-item.result (subst (λ (n : ℕ). AreFor n task.checkers.now) (sym task.device) c.requires.verified)
    (slice_get_read task.checkers.now (length task.checkers.now) c.loop-checker.checker-index c.checker-item.result refl c.loop-checker-test.true c.checker-item.is)
