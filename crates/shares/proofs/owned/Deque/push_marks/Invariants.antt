use Rattle.std.proofs.Common.{◌≡◌, ◌+◌}
use Rattle.shares.specs.Owned.{with_marks}
use Rattle.shares.proofs.owned.Deque.push_marks.Given as goal

abbrev pub invariant-loop-mark : goal.invariant-loop-mark
invariant-loop-mark g l = l.self ≡ with_marks l.initial.self (l.initial.self.marks_pushed + l._mark) l.initial.self.marks_got
