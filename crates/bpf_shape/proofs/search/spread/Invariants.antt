use Rattle.std.proofs.Common.{◌+◌, ◌*◌, length}
use Rattle.bpf_shape.specs.Search.{search_edges, unmarked_count, IsMarked}
use Rattle.bpf_shape.proofs.Searching.{Searching}
use Rattle.bpf_shape.proofs.search.spread.Given as goal

abbrev pub invariant-loop-slot : goal.invariant-loop-slot
invariant-loop-slot l = Searching (search_edges l.kind l.program) (length l.program) (IsMarked l.initial.marks.items) l.marks.items l.waiting.items

abbrev pub decreases-loop-slot : goal.decreases-loop-slot
decreases-loop-slot l = 2 * unmarked_count l.marks.items + length l.waiting.items
