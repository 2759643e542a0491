use Rattle.std.proofs.Common.{◌≡◌, true, not, filter, if◌then◌else◌}
use Rattle.std.specs.List.{list_all, range_with_len}
use Rattle.cases.specs.Rows.{shows}
use Rattle.cases.specs.Sets.{has, fate_at}
use Rattle.cases.proofs.fates.alike.Given as goal

abbrev pub invariant-loop-piece : goal.invariant-loop-piece
invariant-loop-piece l =
    list_all (λ i. if shows (fate_at l.one) l.part l.unit i then shows (fate_at l.other) l.part l.unit i else not (shows (fate_at l.other) l.part l.unit i))
    (filter (has l.pieces) (range_with_len 0 l.piece)) ≡ true
