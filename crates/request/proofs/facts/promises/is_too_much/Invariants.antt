use Rattle.std.proofs.Common.{ℕ, ◌≡◌, ◌+◌, ◌≤◌, length, get_or}
use Rattle.request.specs.Search.{TellForced, NoneIsUnforced}
use Rattle.request.proofs.facts.promises.is_too_much.Given as goal

abbrev pub invariant-loop-place : goal.invariant-loop-place
invariant-loop-place l =
    NoneIsUnforced l.entries l.place l.mark
    × TellForced l.entries l.place l.mark (l.mark + 1) l.stamps
    × ((n : ℕ) → get_or l.stamps n 0 ≤ l.mark + 1)
    × (length l.stamps ≡ length l.initial.stamps)
