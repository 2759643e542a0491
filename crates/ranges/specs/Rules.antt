-- The rules of an instruction at a state, in their order (docs/VERIFIER.md, Rules at a slot and Guards). Guards lift some of
-- them, and ask of a register only that it isn't unset.
use Rattle.std.specs.Prelude.{ℕ, not, ◌&&◌, ◌||◌, Bool, if◌then◌else◌, true, false, ℤ, pos, List, [], ◌∷◌, is_some}
use Rattle.std.specs.Option.{option_map_or}
use Rattle.std.specs.Ordering.{int_eq}
use Rattle.std.specs.Int.{cast_unsigned, w32}
use Rattle.base.specs.Check.{Check, check}
use Rattle.bpf_isa.specs.declared.instr.Instr.{Instr}
use Rattle.bpf_isa.specs.declared.instr.Instr.TheVariants as instr
use Rattle.bpf_isa.specs.declared.instr.Source.{Source}
use Rattle.bpf_isa.specs.declared.instr.Source.TheVariants as source
use Rattle.bpf_isa.specs.declared.instr.Width.{Width}
use Rattle.bpf_isa.specs.declared.instr.Width.TheVariants as width
use Rattle.bpf_isa.specs.declared.instr.Operator.{Operator}
use Rattle.bpf_isa.specs.declared.instr.Operator.TheVariants as op
use Rattle.bpf_isa.specs.declared.instr.Condition.{Condition}
use Rattle.bpf_isa.specs.declared.instr.Condition.TheVariants as cond
use Rattle.helpers.specs.declared.helper.Helper.{Helper}
use Rattle.helpers.specs.declared.helper.Helper.TheVariants as helper
use Rattle.helpers.specs.Helper.{helper_of, asked_of, arguments}
use Rattle.machine.specs.Memory.{byte_count, plain_size}
use Rattle.machine.specs.Step.{source_registers, operands}
use Rattle.base.specs.declared.causes.VerifierCause.{VerifierCause}
use Rattle.base.specs.declared.causes.VerifierCause.TheVariants as cause
use Rattle.ranges.specs.declared.place.AccessPlace.{AccessPlace}
use Rattle.ranges.specs.declared.place.AccessPlace.TheVariants as place
use Rattle.ranges.specs.declared.place.ByteMark.{ByteMark}
use Rattle.ranges.specs.declared.place.ByteMark.TheVariants as mark
use Rattle.ranges.specs.Kinds.{Kind, SectorOrNull, is_number, is_unset, is_unknown}
use Rattle.ranges.specs.Groups.{GroupKind}
use Rattle.ranges.specs.States.{Abstract}
use Rattle.ranges.specs.Pointers.{moved_pointer}
use Rattle.ranges.specs.Places.{place_of, is_inside, none_is, is_group}
use Rattle.std.specs.List.{list_all}
use Rattle.ranges.specs.Reading.{value, second, words, is_stack, is_base, has_length}

-- the rule that each of these registers is set; with guards none may be unset
abbrev pub is_read : Bool → Kind → Bool
is_read true k = not (is_unset k)
is_read false k = not (is_unknown k)

abbrev pub are_read : Bool → Abstract → List ℕ → Bool
are_read guards s registers = list_all (λ r. is_read guards (value s r)) registers

abbrev pub reads : Bool → Abstract → List ℕ → Check VerifierCause
reads guards s registers = check cause.UnsetRegister (are_read guards s registers)

-- Whether arithmetic may take these operands: a move in 64 bits takes any, an addition or
-- subtraction in 64 bits may move a pointer, and all else takes numbers. A move does not read dst.
unfoldable pub may_compute : Width → Operator → Kind → Kind → Bool
may_compute width.W64 op.Mov k l = true
may_compute width.W32 op.Mov k l = is_number l
may_compute width.W64 op.Add k l = (is_number k && is_number l) || is_some (moved_pointer false k l)
may_compute width.W64 op.Sub k l = (is_number k && is_number l) || is_some (moved_pointer true k l)
may_compute _ _ k l = is_number k && is_number l

abbrev pub computes : Bool → Check VerifierCause
computes may = check cause.PointerArithmetic may

-- the test of the answer of helper 1 against 0
abbrev pub is_zero : Source → Bool
is_zero (source.Immediate n) = int_eq n (pos 0)
is_zero (source.Register r) = false

abbrev pub is_equality : Condition → Bool
is_equality cond.Eq = true
is_equality cond.Ne = true
is_equality _ = false

abbrev pub may_be_null : Kind → Bool
may_be_null SectorOrNull = true
may_be_null _ = false

abbrev pub is_wide : Width → Bool
is_wide width.W64 = true
is_wide width.W32 = false

unfoldable pub is_null_test : Width → Condition → Source → Kind → Bool
is_null_test w c from k = is_wide w && (is_equality c && (is_zero from && may_be_null k))

-- whether a jump tests numbers, or an answer of helper 1 against 0
unfoldable pub compares : Abstract → Width → Condition → ℕ → Source → Bool
compares s w c dst from = is_null_test w c from (value s dst) || (is_number (value s dst) && is_number (second s from))

-- whether none of the bytes of an access is of this kind
abbrev pub has_no : ByteMark → List GroupKind → AccessPlace → ℕ → Bool
has_no m groups (place.Stack at) n = none_is m groups at n
has_no m groups p n = true

-- whether they are the eight of a group of the stack
abbrev pub is_whole : AccessPlace → ℕ → Bool
is_whole (place.Stack at) n = is_group at n
is_whole p n = false

unfoldable pub load_rules : Bool → Abstract → ℕ → ℤ → ℕ → List (Check VerifierCause)
load_rules guards s base distance n =
    reads guards s (base ∷ [])
    ∷ check cause.OutsideRegion (guards || is_inside (place_of (value s base) distance n))
    ∷ check cause.UnsetByte (guards || has_no mark.Unset s.groups (place_of (value s base) distance n) n)
    ∷ check cause.PointerAsNumber (guards || (is_whole (place_of (value s base) distance n) n || has_no mark.Pointer s.groups (place_of (value s base) distance n) n))
    ∷ []

-- `set` says whether the registers are set that the store reads
unfoldable pub store_rules : Bool → Abstract → Bool → Kind → ℕ → ℤ → ℕ → List (Check VerifierCause)
store_rules guards s set stored base distance n =
    check cause.UnsetRegister set
    ∷ check cause.OutsideRegion (guards || is_base (value s base))
    ∷ check cause.ReadOnly (guards || is_stack (value s base))
    ∷ check cause.OutsideRegion (guards || is_inside (place_of (value s base) distance n))
    ∷ check cause.PointerAsNumber (guards || (is_number stored || is_whole (place_of (value s base) distance n) n))
    ∷ []

-- the length of helper 2
abbrev pub length_of : Kind → ℕ
length_of k = (words k).unsigned.low

abbrev pub are_numbers : Abstract → List ℕ → Bool
are_numbers s registers = list_all (λ r. is_number (value s r)) registers

-- of helper 2 guards don't lift the rule of its length
unfoldable pub call_rules : Bool → Abstract → Helper → List (Check VerifierCause)
call_rules guards s helper.Copy =
    reads guards s (1 ∷ 2 ∷ 3 ∷ [])
    ∷ check cause.HelperArgument ((guards || is_number (value s 1)) && ((guards || is_stack (value s 2)) && has_length (value s 3)))
    ∷ check cause.OutsideRegion (guards || is_inside (place_of (value s 2) (pos 0) (length_of (value s 3))))
    ∷ []
call_rules guards s h = reads guards s (arguments h) ∷ check cause.HelperArgument (guards || are_numbers s (arguments h)) ∷ []

-- of the helper of a number; that it is known is a rule of shape too
abbrev pub number_rules : Bool → Abstract → ℕ → List (Check VerifierCause)
number_rules guards s n = option_map_or (call_rules guards s) (if guards then asked_of n else helper_of n) (check cause.UnknownHelper false ∷ [])

-- the rules of an instruction, with guards or without
unfoldable pub rules_with : Bool → Abstract → Instr → List (Check VerifierCause)
rules_with guards s (instr.Arithmetic w o dst from) =
    reads guards s (operands o dst from) ∷ computes (guards || may_compute w o (value s dst) (second s from)) ∷ []
rules_with guards s (instr.Negate w dst) = reads guards s (dst ∷ []) ∷ computes (guards || is_number (value s dst)) ∷ []
rules_with guards s (instr.SignExtend e dst src) = reads guards s (src ∷ []) ∷ computes (guards || is_number (value s src)) ∷ []
rules_with guards s (instr.ByteOrder o size dst) = reads guards s (dst ∷ []) ∷ computes (guards || is_number (value s dst)) ∷ []
rules_with guards s (instr.Jump distance) = []
rules_with guards s (instr.LongJump distance) = []
rules_with guards s (instr.Branch w c dst from distance) =
    reads guards s (dst ∷ source_registers from) ∷ check cause.PointerAsNumber (guards || compares s w c dst from) ∷ []
rules_with guards s (instr.CallHelper number) = number_rules guards s (cast_unsigned w32 number)
rules_with guards s (instr.CallLocal distance) = []
rules_with guards s instr.Exit = reads guards s (0 ∷ []) ∷ check cause.PointerAsNumber (guards || is_number (value s 0)) ∷ []
rules_with guards s (instr.Load size dst base distance) = load_rules guards s base distance (byte_count size)
rules_with guards s (instr.LoadSigned size dst base distance) = load_rules guards s base distance (byte_count (plain_size size))
rules_with guards s (instr.StoreImmediate size base distance n) =
    store_rules guards s (are_read guards s (base ∷ [])) (second s (source.Immediate n)) base distance (byte_count size)
rules_with guards s (instr.Store size base distance src) = store_rules guards s (are_read guards s (base ∷ src ∷ [])) (value s src) base distance (byte_count size)
rules_with guards s (instr.LoadImmediate dst x) = []

-- without guards, and with them
abbrev pub rules : Abstract → Instr → List (Check VerifierCause)
rules s i = rules_with false s i

abbrev pub guarded_rules : Abstract → Instr → List (Check VerifierCause)
guarded_rules s i = rules_with true s i
