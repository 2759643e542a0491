-- Marks of slots, and the search that makes them. Only this crate's own contracts cite it.
use Rattle.std.specs.Prelude.{ℕ, ◌+◌, ◌≡◌, ◌<◌, ◌≤◌, ◌*◌, ◌⊎◌, nat_lt, not, ◌&&◌, if◌then◌else◌, Bool, true, false, List, [], ◌∷◌, ◌++◌, length, get_or, set, Option, None, Some}
use Rattle.std.specs.List.{count_by}
use Rattle.bpf_isa.specs.declared.instr.Instr.{Instr}
use Rattle.bpf_shape.specs.declared.edges.Edges.{Edges}
use Rattle.bpf_shape.specs.declared.search.EdgeKind.{EdgeKind}
use Rattle.bpf_shape.specs.declared.search.EdgeKind.TheVariants as kind
use Rattle.bpf_shape.specs.Edges.{edges, control}
use Rattle.bpf_shape.specs.Calls.{callee}
use Rattle.bpf_shape.specs.Again.{plain}
use Rattle.bpf_shape.specs.Paths.{Leads, LeadsTo}

-- with a mark for that slot, if there is one
abbrev pub with_mark : List Bool → Option ℕ → List Bool
with_mark marks None = marks
with_mark marks (Some slot) = set marks slot true

abbrev pub IsMarked : List Bool → ℕ → Type 0
IsMarked marks slot = get_or marks slot false ≡ true

-- a slot that has no mark yet
abbrev pub is_new : List Bool → ℕ → Bool
is_new marks slot = nat_lt slot (length marks) && not (get_or marks slot false)

-- the marks and the waiting slots, after a slot was met
abbrev pub marks_after : List Bool → Option ℕ → List Bool
marks_after marks None = marks
marks_after marks (Some slot) = if is_new marks slot then set marks slot true else marks

abbrev pub waiting_after : List Bool → List ℕ → Option ℕ → List ℕ
waiting_after marks waiting None = waiting
waiting_after marks waiting (Some slot) = if is_new marks slot then waiting ++ slot ∷ [] else waiting

abbrev pub Has : List ℕ → ℕ → Type 0
Has [] x = ⊥
Has (y ∷ ys) x = (x ≡ y) ⊎ Has ys x

-- how many slots have no mark
abbrev pub unmarked_count : List Bool → ℕ
unmarked_count marks = count_by not marks

-- From these marks and waiting slots the slots of P were met: they are marked, no other slot is that
-- wasn't, and each that wasn't waits.
pub record Met (P : ℕ → Type 0) (m : List Bool) (w : List ℕ) (marks : List Bool) (waiting : List ℕ) : Type 0 where
  pub kept : (t : ℕ) → IsMarked m t → IsMarked marks t
  pub only : (t : ℕ) → IsMarked marks t → IsMarked m t ⊎ P t
  pub met : (t : ℕ) → P t → t < length m → IsMarked marks t
  pub stay : (t : ℕ) → Has w t → Has waiting t
  pub wait : (t : ℕ) → IsMarked marks t → IsMarked m t ⊎ Has waiting t
  pub come : (t : ℕ) → Has waiting t → Has w t ⊎ IsMarked marks t
  pub long : length marks ≡ length m
  pub size : 2 * unmarked_count marks + length waiting ≤ 2 * unmarked_count m + length w

-- the edges, and one to the entry of a local call, if there is one
abbrev pub with_entry : Option ℕ → Edges → Edges
with_entry None e = e
with_entry (Some entry) e = edges e.next (Some entry)

-- the control edges of a slot, and one from a local call to its entry
unfoldable pub entering : List (Option Instr) → ℕ → Edges
entering program slot = with_entry (callee program slot) (control program slot)

-- the edges that a search follows
abbrev pub search_edges : EdgeKind → List (Option Instr) → ℕ → Edges
search_edges kind.All program = control program
search_edges kind.Plain program = plain program
search_edges kind.Entering program = entering program

-- each edge leads to a slot
abbrev pub EdgesFit : (ℕ → Edges) → ℕ → Type 0
EdgesFit next n = (s t : ℕ) → Leads (next s) t → t < n

-- the marked slots are those that wait
pub record AllWait (n : ℕ) (marks : List Bool) (waiting : List ℕ) : Type 0 where
  pub long : length marks ≡ n
  pub wait : (t : ℕ) → IsMarked marks t → Has waiting t
  pub marked : (t : ℕ) → Has waiting t → IsMarked marks t

-- the marks are of the slots to which a walk leads from one of these
pub record AreMarks (next : ℕ → Edges) (n : ℕ) (starts : ℕ → Type 0) (marks : List Bool) : Type 0 where
  pub long : length marks ≡ n
  pub sound : (t : ℕ) → IsMarked marks t → LeadsTo next starts t
  pub complete : (t : ℕ) → LeadsTo next starts t → IsMarked marks t

-- a marked call enters slot t, one at a slot below n
pub record Enters (program : List (Option Instr)) (outer : List Bool) (n t : ℕ) : Type 0 where
  pub call : ℕ
  pub below : call < n
  pub marked : IsMarked outer call
  pub enters : callee program call ≡ Some t

-- each entry is a slot
abbrev pub EntriesFit : List (Option Instr) → Type 0
EntriesFit program = (s t : ℕ) → callee program s ≡ Some t → t < length program
