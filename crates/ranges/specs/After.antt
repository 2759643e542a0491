-- What is known after an instruction (docs/VERIFIER.md, Results of arithmetic on numbers to Helper
-- calls, and Guards). It is asked where no rule is broken that guards don't lift.
use Rattle.std.specs.Prelude.{ℕ, ◌+◌, ◌*◌, ◌-◌, ◌/◌, ◌^◌, ◌==◌, nat_lt, nat_le, ◌&&◌, ◌||◌, not, Bool, true, false, if◌then◌else◌, ℤ, pos, List, [], ◌∷◌, slice_index_or, slice_set, Option, Some}
use Rattle.std.specs.Option.{option_map, option_map_or, option_or}
use Rattle.std.specs.Int.{cast_unsigned, w32}
use Rattle.bpf_isa.specs.declared.instr.Instr.{Instr}
use Rattle.bpf_isa.specs.declared.instr.Instr.TheVariants as instr
use Rattle.bpf_isa.specs.declared.instr.Source.TheVariants as source
use Rattle.bpf_isa.specs.declared.instr.Width.TheVariants as width
use Rattle.bpf_isa.specs.declared.instr.Operator.TheVariants as op
use Rattle.bpf_isa.specs.declared.instr.Size.{Size}
use Rattle.bpf_isa.specs.declared.instr.Size.TheVariants as size
use Rattle.helpers.specs.declared.helper.Helper.{Helper}
use Rattle.helpers.specs.declared.helper.Helper.TheVariants as helper
use Rattle.helpers.specs.declared.helper.Answer.{Answer}
use Rattle.helpers.specs.declared.helper.Answer.TheVariants as answer
use Rattle.helpers.specs.Helper.{asked_of, answer_of}
use Rattle.machine.specs.Memory.{byte_count}
use Rattle.intervals.specs.Spans.{span, only}
use Rattle.intervals.specs.Reducing.{any_sign}
use Rattle.intervals.specs.SignedResults.{limits_result_of}
use Rattle.ranges.specs.declared.place.AccessPlace.{AccessPlace}
use Rattle.ranges.specs.declared.place.AccessPlace.TheVariants as place
use Rattle.ranges.specs.declared.place.ByteMark.TheVariants as mark
use Rattle.ranges.specs.Kinds.{Kind, Unset, Word, Num, SectorOrNull, is_unknown}
use Rattle.ranges.specs.Groups.{GroupKind, Marked, Spilled, unset_marks, map_places}
use Rattle.ranges.specs.States.{Abstract, unset_groups}
use Rattle.ranges.specs.Pointers.{moved_pointer}
use Rattle.ranges.specs.Places.{place_of, is_own_memory, mark_in, is_mark, is_group}
use Rattle.ranges.specs.Reading.{value, second, with_value, with_groups, words, any_word}
use Rattle.ranges.specs.Rules.{length_of}

-- what arithmetic makes of the words of two numbers; None where it leaves no word
abbrev pub number_result : Instr → Kind → Kind → Option Kind
number_result i k l = option_map (λ x. Num x) (limits_result_of i (words k) (words l))

-- what it makes of two values, dst and the second operand: a move in 64 bits copies, and pointers
-- move
unfoldable pub result_kind : Instr → Kind → Kind → Option Kind
result_kind (instr.Arithmetic width.W64 op.Mov dst from) k l = Some l
result_kind (instr.Arithmetic width.W64 op.Add dst from) k l = option_or (moved_pointer false k l) (number_result (instr.Arithmetic width.W64 op.Add dst from) k l)
result_kind (instr.Arithmetic width.W64 op.Sub dst from) k l = option_or (moved_pointer true k l) (number_result (instr.Arithmetic width.W64 op.Sub dst from) k l)
result_kind i k l = number_result i k l

-- an aligned word of the context: the number of sectors, the epoch and the marks, and 0
abbrev pub context_word : ℕ → ℕ → Kind
context_word sectors at =
    if at == 0 then Num (any_sign (only sectors))
    else if at == 8 || at == 16 then Num (any_sign (span 0 65536))
    else Num (any_sign (only 0))

-- any number of n bytes
abbrev pub any_of : ℕ → Kind
any_of n = Num (any_sign (span 0 (2 ^ (8 * n) - 1)))

-- what a group gives to a load of its eight bytes
abbrev pub group_value : GroupKind → Kind
group_value (Marked marks) = any_of 8
group_value (Spilled k) = k

unfoldable pub loaded_kind : ℕ → List GroupKind → AccessPlace → ℕ → Kind
loaded_kind sectors groups (place.Context at) n = if is_group at n then context_word sectors at else any_of n
loaded_kind sectors groups (place.Stack at) n = if is_group at n then group_value (slice_index_or groups (at / 8) (Marked [])) else any_of n
loaded_kind sectors groups p n = any_of n

-- whether byte k of group g is one of n from a place on
abbrev pub is_among : ℕ → ℕ → ℕ → ℕ → Bool
is_among at n g k = nat_le at (8 * g + k) && nat_lt (8 * g + k) (at + n)

-- the marks of group g where n bytes from a place on are written; those of a spilled value are written
-- too
abbrev pub mark_after : ℕ → ℕ → ℕ → GroupKind → ℕ → Bool
mark_after at n g group k = is_among at n g k || not (is_mark (mark_in group k) mark.Unset)

abbrev pub marks_after : ℕ → ℕ → ℕ → GroupKind → List Bool
marks_after at n g group =
    mark_after at n g group 0 ∷ mark_after at n g group 1 ∷ mark_after at n g group 2 ∷ mark_after at n g group 3
    ∷ mark_after at n g group 4 ∷ mark_after at n g group 5 ∷ mark_after at n g group 6 ∷ mark_after at n g group 7 ∷ []

-- whether a group has one of n bytes from a place on
abbrev pub is_touched : ℕ → ℕ → ℕ → Bool
is_touched at n g = nat_lt at (8 * g + 8) && nat_lt (8 * g) (at + n)

unfoldable pub group_after : ℕ → ℕ → ℕ → GroupKind → GroupKind
group_after at n g group = if is_touched at n g then Marked (marks_after at n g group) else group

-- the groups where n bytes from a place on are written
unfoldable pub groups_after_write : ℕ → ℕ → List GroupKind → List GroupKind
groups_after_write at n groups = map_places (group_after at n) 0 groups

-- the groups where the bytes of an access are written
abbrev pub written_at : List GroupKind → AccessPlace → ℕ → List GroupKind
written_at groups (place.Stack at) n = groups_after_write at n groups
written_at groups p n = groups

-- a value stored to a group is kept there; other stores make bytes written
unfoldable pub stored_groups : Kind → List GroupKind → AccessPlace → ℕ → List GroupKind
stored_groups k groups (place.Stack at) n =
    if not (is_unknown k) && is_group at n then slice_set groups (at / 8) (Spilled k) else groups_after_write at n groups
stored_groups k groups p n = groups

-- what a helper answers
abbrev pub kind_answered : Answer → Kind
kind_answered answer.Address = SectorOrNull
kind_answered (answer.UpTo most) = Num (any_sign (span 0 most))

abbrev pub answer_kind : Helper → Kind
answer_kind h = kind_answered (answer_of h)

-- a call answers in register 0 and unsets registers 1 to 5; of a local function any word
abbrev pub after_answer : Abstract → Kind → Abstract
after_answer s k =
    with_value (with_value (with_value (with_value (with_value (with_value s 0 k) 1 Unset) 2 Unset) 3 Unset) 4 Unset) 5 Unset

-- helper 2 writes bytes of the stack
abbrev pub copied_state : Abstract → Abstract
copied_state s = with_groups s (written_at s.groups (place_of (value s 2) (pos 0) (length_of (value s 3))) (length_of (value s 3)))

abbrev pub load_after : ℕ → Abstract → ℕ → Size → ℕ → ℤ → Abstract
load_after sectors s dst size base distance =
    with_value s dst (loaded_kind sectors s.groups (place_of (value s base) distance (byte_count size)) (byte_count size))

abbrev pub store_after : Abstract → Kind → Size → ℕ → ℤ → Abstract
store_after s k size base distance =
    with_groups s (stored_groups k s.groups (place_of (value s base) distance (byte_count size)) (byte_count size))

-- Where a rule is broken that guards lift less is known: of arithmetic any word.
abbrev pub computed : Bool → Option Kind → Option Kind
computed true m = Some Word
computed false m = m

-- a load of eight bytes may give an address; one of the memory that a program has of its own gives any number
abbrev pub loosely_loaded : Size → Kind
loosely_loaded size.Double = Word
loosely_loaded n = any_of (byte_count n)

abbrev pub loosely_loaded_at : Abstract → Size → ℕ → ℤ → Kind
loosely_loaded_at s size base distance = if is_own_memory (value s base) distance (byte_count size) then any_of (byte_count size) else loosely_loaded size

-- the groups where nothing is known of those that have one of n bytes from a place on, or of any
abbrev pub group_forgotten : ℕ → ℕ → ℕ → GroupKind → GroupKind
group_forgotten at n g group = if is_touched at n g then Marked unset_marks else group

unfoldable pub groups_forgotten : List GroupKind → AccessPlace → ℕ → List GroupKind
groups_forgotten groups (place.Stack at) n = map_places (group_forgotten at n) 0 groups
groups_forgotten groups p n = unset_groups

-- a store to that memory leaves the frame as it is
abbrev pub groups_left : List GroupKind → Kind → ℤ → ℕ → List GroupKind
groups_left groups k distance n = if is_own_memory k distance n then groups else groups_forgotten groups (place_of k distance n) n

abbrev pub loosely_stored : Abstract → ℕ → ℤ → ℕ → Abstract
loosely_stored s base distance n = with_groups s (groups_left s.groups (value s base) distance n)

-- `loose` says whether such a rule is broken
unfoldable pub call_with : Bool → Abstract → Helper → Abstract
call_with loose s helper.Copy = after_answer (if loose then loosely_stored s 2 (pos 0) (length_of (value s 3)) else copied_state s) (answer_kind helper.Copy)
call_with loose s h = after_answer s (answer_kind h)

-- the state after an instruction that is no conditional jump, on a device of that many sectors; None where
-- arithmetic leaves no word, so that no machine gets there
unfoldable pub after_with : Bool → ℕ → Abstract → Instr → Option Abstract
after_with loose sectors s (instr.Arithmetic w o dst from) =
    option_map (with_value s dst) (computed loose (result_kind (instr.Arithmetic w o dst from) (value s dst) (second s from)))
after_with loose sectors s (instr.Negate w dst) = option_map (with_value s dst) (computed loose (number_result (instr.Negate w dst) (value s dst) Unset))
after_with loose sectors s (instr.SignExtend e dst src) = option_map (with_value s dst) (computed loose (number_result (instr.SignExtend e dst src) Unset (value s src)))
after_with loose sectors s (instr.ByteOrder o size dst) = option_map (with_value s dst) (computed loose (number_result (instr.ByteOrder o size dst) (value s dst) Unset))
after_with loose sectors s (instr.Load size dst base distance) =
    Some (if loose then with_value s dst (loosely_loaded_at s size base distance) else load_after sectors s dst size base distance)
after_with loose sectors s (instr.LoadSigned size dst base distance) = Some (with_value s dst (Num any_word))
after_with loose sectors s (instr.StoreImmediate size base distance n) =
    Some (if loose then loosely_stored s base distance (byte_count size) else store_after s (second s (source.Immediate n)) size base distance)
after_with loose sectors s (instr.Store size base distance src) =
    Some (if loose then loosely_stored s base distance (byte_count size) else store_after s (value s src) size base distance)
after_with loose sectors s (instr.LoadImmediate dst x) = Some (with_value s dst (Num (any_sign (only x))))
after_with loose sectors s (instr.CallHelper number) =
    Some (option_map_or (call_with loose s) (asked_of (cast_unsigned w32 number)) (after_answer s (Num any_word)))
after_with loose sectors s (instr.CallLocal distance) = Some (after_answer s (Num any_word))
after_with loose sectors s i = Some s

-- where no rule is broken
abbrev pub call_after : Abstract → Helper → Abstract
call_after s = call_with false s

abbrev pub after_of : ℕ → Abstract → Instr → Option Abstract
after_of sectors s i = after_with false sectors s i
