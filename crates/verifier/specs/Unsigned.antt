-- Good tables under the rules without signed bounds and spilled numbers (docs/VERIFIER.md, Without
-- signed bounds). A number there is a range of words, of which nothing is known but these, so it is
-- seen as the words of the range, whatever their readings are. What isn't defined here is the same
-- under both rules.
use Rattle.std.specs.Prelude.{◌≡◌, ℕ, ◌+◌, ◌/◌, ◌&&◌, IsTrue, Bool, true, false, if◌then◌else◌, List, [], ◌++◌, map, length, get_or, slice_set, Option, None, Some}
use Rattle.std.specs.Option.{option_map, option_or}
use Rattle.bpf_isa.specs.declared.instr.Instr.{Instr}
use Rattle.bpf_isa.specs.declared.instr.Instr.TheVariants as instr
use Rattle.bpf_isa.specs.declared.instr.Source.TheVariants as source
use Rattle.bpf_isa.specs.declared.instr.Width.TheVariants as width
use Rattle.bpf_isa.specs.declared.instr.Operator.TheVariants as op
use Rattle.bpf_isa.specs.declared.instr.Size.{Size}
use Rattle.bpf_isa.specs.Slots.{at, target_slot}
use Rattle.bpf_shape.specs.Again.{heads}
use Rattle.machine.specs.Memory.{byte_count}
use Rattle.intervals.specs.Spans.{Span}
use Rattle.intervals.specs.Rounding.{round_span}
use Rattle.intervals.specs.Results.{result_of}
use Rattle.intervals.specs.Edges.{jump_edge}
use Rattle.intervals.specs.Reducing.{Limits, any_sign}
use Rattle.ranges.specs.declared.place.AccessPlace.{AccessPlace}
use Rattle.ranges.specs.declared.place.AccessPlace.TheVariants as place
use Rattle.ranges.specs.Kinds.{Kind, Unset, Num, is_pointer, round}
use Rattle.ranges.specs.Groups.{GroupKind, Marked, Spilled, round_group}
use Rattle.ranges.specs.States.{Abstract, start}
use Rattle.ranges.specs.Reading.{value, second, with_value, with_groups, words}
use Rattle.ranges.specs.Places.{place_of, is_group}
use Rattle.ranges.specs.Pointers.{moved_pointer}
use Rattle.ranges.specs.Rules.{is_null_test}
use Rattle.ranges.specs.After.{groups_after_write, after_of}
use Rattle.ranges.specs.Passing.{edge_of, is_equal_edge, tested_kind, with_both, passed_state, passes}
use Rattle.ranges.specs.Order.{Each, Holds}
use Rattle.verifier.specs.Tables.{state_at, Covers, CoversAll, AreStates, rule_at}

-- a number of a range
abbrev pub number : Span → Kind
number u = Num (any_sign u)

-- a value that says nothing of readings, and a group that keeps no number
abbrev pub IsUnsigned : Kind → Type 0
IsUnsigned (Num x) = x ≡ any_sign x.unsigned
IsUnsigned k = Unit {0}

abbrev pub IsUnsignedGroup : GroupKind → Type 0
IsUnsignedGroup (Marked marks) = Unit {0}
IsUnsignedGroup (Spilled k) = IsTrue (is_pointer k)

pub record IsUnsignedState (s : Abstract) : Type 0 where
  pub values : Each IsUnsigned s.values
  pub groups : Each IsUnsignedGroup s.groups

-- what arithmetic makes of the ranges of two numbers, and of two values
abbrev pub unsigned_computed : Instr → Kind → Kind → Option Kind
unsigned_computed i k l = option_map number (result_of i (words k).unsigned (words l).unsigned)

unfoldable pub unsigned_result : Instr → Kind → Kind → Option Kind
unsigned_result (instr.Arithmetic width.W64 op.Mov dst from) k l = Some l
unsigned_result (instr.Arithmetic width.W64 op.Add dst from) k l = option_or (moved_pointer false k l) (unsigned_computed (instr.Arithmetic width.W64 op.Add dst from) k l)
unsigned_result (instr.Arithmetic width.W64 op.Sub dst from) k l = option_or (moved_pointer true k l) (unsigned_computed (instr.Arithmetic width.W64 op.Sub dst from) k l)
unsigned_result i k l = unsigned_computed i k l

-- a pointer stored to a group is kept there; other stores make bytes written
unfoldable pub unsigned_stored : Kind → List GroupKind → AccessPlace → ℕ → List GroupKind
unsigned_stored k groups (place.Stack at) n =
    if is_pointer k && is_group at n then slice_set groups (at / 8) (Spilled k) else groups_after_write at n groups
unsigned_stored k groups p n = groups

abbrev pub unsigned_store : Abstract → Kind → Size → AccessPlace → Abstract
unsigned_store s k size p = with_groups s (unsigned_stored k s.groups p (byte_count size))

-- the state after an instruction that is no jump
unfoldable pub unsigned_after : ℕ → Abstract → Instr → Option Abstract
unsigned_after sectors s (instr.Arithmetic w o dst from) = option_map (with_value s dst) (unsigned_result (instr.Arithmetic w o dst from) (value s dst) (second s from))
unsigned_after sectors s (instr.Negate w dst) = option_map (with_value s dst) (unsigned_computed (instr.Negate w dst) (value s dst) Unset)
unsigned_after sectors s (instr.SignExtend e dst src) = option_map (with_value s dst) (unsigned_computed (instr.SignExtend e dst src) Unset (value s src))
unsigned_after sectors s (instr.ByteOrder o size dst) = option_map (with_value s dst) (unsigned_computed (instr.ByteOrder o size dst) (value s dst) Unset)
unsigned_after sectors s (instr.StoreImmediate size base distance n) = Some (unsigned_store s (second s (source.Immediate n)) size (place_of (value s base) distance (byte_count size)))
unsigned_after sectors s (instr.Store size base distance src) = Some (unsigned_store s (value s src) size (place_of (value s base) distance (byte_count size)))
unsigned_after sectors s i = after_of sectors s i

-- the state on an edge of a conditional jump
abbrev pub numbers : Span × Span → Limits × Limits
numbers p = (any_sign p.0, any_sign p.1)

unfoldable pub unsigned_edge : Abstract → Instr → Bool → Option Abstract
unsigned_edge s (instr.Branch w c dst from distance) taken =
    if is_null_test w c from (value s dst) then Some (with_value s dst (tested_kind (is_equal_edge c taken)))
    else option_map (λ p. with_both s dst from (numbers p)) (jump_edge (instr.Branch w c dst from distance) taken (words (value s dst)).unsigned (words (second s from)).unsigned)
unsigned_edge s i taken = edge_of s i taken

-- to which slots what state is passed
unfoldable pub unsigned_passes : ℕ → Abstract → ℕ → Instr → List (ℕ × Abstract)
unsigned_passes sectors s slot (instr.Branch w c dst from distance) =
    passed_state (slot + 1) (unsigned_edge s (instr.Branch w c dst from distance) false)
    ++ passed_state (target_slot slot distance) (unsigned_edge s (instr.Branch w c dst from distance) true)
unsigned_passes sectors s slot (instr.Arithmetic w o dst from) = passed_state (slot + 1) (unsigned_after sectors s (instr.Arithmetic w o dst from))
unsigned_passes sectors s slot (instr.Negate w dst) = passed_state (slot + 1) (unsigned_after sectors s (instr.Negate w dst))
unsigned_passes sectors s slot (instr.SignExtend e dst src) = passed_state (slot + 1) (unsigned_after sectors s (instr.SignExtend e dst src))
unsigned_passes sectors s slot (instr.ByteOrder o size dst) = passed_state (slot + 1) (unsigned_after sectors s (instr.ByteOrder o size dst))
unsigned_passes sectors s slot (instr.StoreImmediate size base distance n) = passed_state (slot + 1) (unsigned_after sectors s (instr.StoreImmediate size base distance n))
unsigned_passes sectors s slot (instr.Store size base distance src) = passed_state (slot + 1) (unsigned_after sectors s (instr.Store size base distance src))
unsigned_passes sectors s slot i = passes sectors s slot i

-- rounding at heads
unfoldable pub unsigned_round : Kind → Kind
unsigned_round (Num x) = number (round_span x.unsigned)
unsigned_round k = round k

unfoldable pub unsigned_round_state : Abstract → Abstract
unsigned_round_state s = record { values = map unsigned_round s.values; groups = map round_group s.groups }

abbrev pub unsigned_arriving : List Bool → ℕ → Abstract → Abstract
unsigned_arriving heads slot s = if get_or heads slot false then unsigned_round_state s else s

abbrev pub unsigned_arrival : List Bool → ℕ × Abstract → ℕ × Abstract
unsigned_arrival heads p = (p.0, unsigned_arriving heads p.0 p.1)

abbrev pub unsigned_passed_on : List Bool → ℕ → ℕ → Option Instr → Option Abstract → List (ℕ × Abstract)
unsigned_passed_on heads sectors slot (Some i) (Some s) = map (unsigned_arrival heads) (unsigned_passes sectors s slot i)
unsigned_passed_on heads sectors slot _ _ = []

unfoldable pub unsigned_sent_from : List (Option Instr) → ℕ → List (Option Abstract) → ℕ → List (ℕ × Abstract)
unsigned_sent_from program sectors table slot = unsigned_passed_on (heads program) sectors slot (at program slot) (state_at table slot)

-- a slot breaks no rule, and what it passes on is contained where it arrives
pub record IsUnsignedGoodAt (program : List (Option Instr)) (sectors : ℕ) (table : List (Option Abstract)) (slot : ℕ) : Type 0 where
  pub rules : rule_at program table slot ≡ None
  pub edges : CoversAll table (unsigned_sent_from program sectors table slot)

pub record IsUnsignedGood (program : List (Option Instr)) (sectors : ℕ) (table : List (Option Abstract)) : Type 0 where
  pub states : AreStates table
  pub unsigned : (slot : ℕ) → Holds IsUnsignedState (state_at table slot)
  pub long : length table ≡ length program
  pub start : Covers (state_at table 0) start
  pub slots : (slot : ℕ) → IsUnsignedGoodAt program sectors table slot
