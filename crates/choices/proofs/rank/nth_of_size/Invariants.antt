use Rattle.std.proofs.Common.{◌≡◌, ◌-◌, length, slice_get}
use Rattle.choices.specs.Picks.{ranked_picks}
use Rattle.choices.proofs.Ranks.{Seeks}
use Rattle.choices.proofs.rank.nth_of_size.Given as goal

abbrev pub invariant-loop-taken : goal.invariant-loop-taken
invariant-loop-taken l =
    (length l.picks.items ≡ l.taken)
    × Seeks l.fates (l.size - l.taken) l.begin l.parts l.rest l.picks.items (slice_get (ranked_picks l.fates l.size 0 l.parts) l.number)
