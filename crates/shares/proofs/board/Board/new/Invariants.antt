use Rattle.std.proofs.Common.{◌≡◌, ◌-◌, [], length, All}
use Rattle.shares.specs.Board.{view_of}
use Rattle.shares.specs.Seats.{SeatValue, board_name}
use Rattle.shares.proofs.board.Board.new.Given as goal

abbrev pub invariant-loop-made : goal.invariant-loop-made
invariant-loop-made l = (l.root.table_id ≡ l.board-inside.table.shared.table_id)
    × (l.root.me ≡ (view_of (l.seats - l._made) [], []))
    × (length l.places.items ≡ l._made)
    × All (λ (s : SeatValue). (s.board ≡ board_name l.board-inside.table.shared.table_id l.board-inside.blocks) × (s.steps ≡ [])) l.places.items
