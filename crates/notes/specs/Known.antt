-- What is known of the registers that an instruction reads (docs/REFUSALS.md, Notes; docs/VERIFIER.md,
-- Abstract values).
use Rattle.std.specs.Prelude.{ℕ, ℤ, ◌-◌, ◌==◌, ◌||◌, ◌&&◌, Bool, if◌then◌else◌, List, [], ◌++◌, codes}
use Rattle.std.specs.Option.{option_map_or}
use Rattle.std.specs.Int.{cast_unsigned, w32}
use Rattle.std.specs.Ordering.{int_eq}
use Rattle.std.specs.Fmt.{decimal, signed_decimal}
use Rattle.bpf_isa.specs.declared.instr.Instr.{Instr}
use Rattle.bpf_isa.specs.declared.instr.Instr.TheVariants as instr
use Rattle.bpf_isa.specs.declared.instr.Source.{Source}
use Rattle.bpf_isa.specs.declared.instr.Source.TheVariants as source
use Rattle.bpf_isa.specs.declared.instr.Operator.{Operator}
use Rattle.bpf_isa.specs.declared.instr.Operator.TheVariants as op
use Rattle.bpf_asm.specs.Listing.{with_sign}
use Rattle.helpers.specs.declared.helper.Helper.{Helper}
use Rattle.helpers.specs.declared.helper.Helper.TheVariants as helper
use Rattle.helpers.specs.Helper.{asked_of}
use Rattle.helpers.specs.declared.helper.Arity.{Arity}
use Rattle.helpers.specs.declared.helper.Arity.TheVariants as numbers
use Rattle.helpers.specs.Queries.{arity_of}
use Rattle.machine.specs.Memory.{byte_count, plain_size}
use Rattle.intervals.specs.Spans.{Span}
use Rattle.intervals.specs.SignedSpans.{SignedSpan, least, greatest}
use Rattle.intervals.specs.Reducing.{Limits, has_one_sign}
use Rattle.ranges.specs.Kinds.{Kind, Unset, Word, Num, Ctx, Stack, Sector, SectorOrNull}
use Rattle.ranges.specs.States.{Abstract}
use Rattle.ranges.specs.Reading.{value}

abbrev pub word_text : Span → List ℕ
word_text x = if x.low == x.high then codes "the number " ++ decimal x.low else codes "a number, " ++ decimal x.low ++ codes " to " ++ decimal x.high

abbrev pub is_full : SignedSpan → Bool
is_full s = int_eq s.low least && int_eq s.high greatest

-- the signed range is named where it says more than the words do: they are of both signs, and not
-- every reading is possible
abbrev pub says_no_more : Limits → Bool
says_no_more x = has_one_sign x.unsigned || is_full x.signed

abbrev pub reading_text : SignedSpan → List ℕ
reading_text s = codes ", signed " ++ signed_decimal s.low ++ codes " to " ++ signed_decimal s.high

abbrev pub number_text : Limits → List ℕ
number_text x = word_text x.unsigned ++ (if says_no_more x then [] else reading_text x.signed)

-- what a register may hold; an offset in the stack counts from its lower end
abbrev pub kind_text : Kind → List ℕ
kind_text Unset = codes "unset, or not of one kind on all paths"
kind_text Word = codes "unset, or not of one kind on all paths"
kind_text (Num x) = number_text x
kind_text (Ctx at) = codes "the context, offset " ++ decimal at
kind_text (Stack at) = codes "the stack, " ++ decimal (512 - at) ++ codes " below r10"
kind_text (Sector x) = codes "a sector, offset " ++ decimal x.low ++ codes " to " ++ decimal x.high
kind_text SectorOrNull = codes "a sector or 0"

-- what is wanted of an access of n bytes at a distance, to a region of that many
unfoldable pub size_text : ℕ → List ℕ
size_text n = codes "; an access of size " ++ decimal n ++ codes " at "

unfoldable pub room_text : ℕ → List ℕ
room_text room = codes " has to lie within its " ++ decimal room

abbrev pub within_text : ℕ → ℤ → ℕ → List ℕ
within_text room distance n = size_text n ++ with_sign distance ++ room_text room

abbrev pub wanted_text : Kind → ℤ → ℕ → List ℕ
wanted_text Unset distance n = []
wanted_text Word distance n = []
wanted_text (Num x) distance n = codes "; an address is wanted"
wanted_text (Ctx at) distance n = within_text 32 distance n
wanted_text (Stack at) distance n = within_text 512 distance n
wanted_text (Sector x) distance n = within_text 512 distance n
wanted_text SectorOrNull distance n = codes "; a test against 0 has to come first"

abbrev pub head_text : ℕ → List ℕ
head_text r = codes "note: r" ++ decimal r ++ codes ": "

unfoldable pub register_note : Abstract → ℕ → List ℕ
register_note s r = head_text r ++ kind_text (value s r) ++ codes "\n"

-- of the register with the address of an access
unfoldable pub base_note : Abstract → ℕ → ℤ → ℕ → List ℕ
base_note s r distance n = head_text r ++ kind_text (value s r) ++ wanted_text (value s r) distance n ++ codes "\n"

abbrev pub source_note : Abstract → Source → List ℕ
source_note s (source.Immediate n) = []
source_note s (source.Register r) = register_note s r

-- a move does not read dst
abbrev pub operand_notes : Abstract → Operator → ℕ → Source → List ℕ
operand_notes s op.Mov dst from = source_note s from
operand_notes s _ dst from = register_note s dst ++ source_note s from

-- of the numbers that a helper takes
abbrev pub number_notes : Abstract → Arity → List ℕ
number_notes s numbers.One = register_note s 1
number_notes s numbers.Two = register_note s 1 ++ register_note s 2
number_notes s numbers.Three = register_note s 1 ++ register_note s 2 ++ register_note s 3

abbrev pub argument_notes : Abstract → Helper → List ℕ
argument_notes s helper.Copy = number_notes s numbers.Three
argument_notes s (helper.Query q) = number_notes s (arity_of q)
argument_notes s _ = number_notes s numbers.One

unfoldable pub known_notes : Abstract → Instr → List ℕ
known_notes s (instr.Arithmetic w o dst from) = operand_notes s o dst from
known_notes s (instr.Negate w dst) = register_note s dst
known_notes s (instr.SignExtend e dst src) = register_note s src
known_notes s (instr.ByteOrder o size dst) = register_note s dst
known_notes s (instr.Jump distance) = []
known_notes s (instr.LongJump distance) = []
known_notes s (instr.Branch w c dst from distance) = register_note s dst ++ source_note s from
known_notes s (instr.CallHelper number) = option_map_or (argument_notes s) (asked_of (cast_unsigned w32 number)) []
known_notes s (instr.CallLocal distance) = []
known_notes s instr.Exit = register_note s 0
known_notes s (instr.Load size dst base distance) = base_note s base distance (byte_count size)
known_notes s (instr.LoadSigned size dst base distance) = base_note s base distance (byte_count (plain_size size))
known_notes s (instr.StoreImmediate size base distance n) = base_note s base distance (byte_count size)
known_notes s (instr.Store size base distance src) = base_note s base distance (byte_count size) ++ register_note s src
known_notes s (instr.LoadImmediate dst x) = []
