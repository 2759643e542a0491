-- Which fields each form has, and the tests of a slot in their order (RFC 9669, sections 3 to 5;
-- docs/MACHINE.md, Encoding).
use Rattle.std.specs.Prelude.{ℕ, ◌==◌, nat_lt, ◌&&◌, Bool, true, false, if◌then◌else◌, List, [], ◌∷◌, Option, None, Some}
use Rattle.base.specs.Check.{Check, check}
use Rattle.base.specs.declared.causes.CodeCause.{CodeCause}
use Rattle.base.specs.declared.causes.CodeCause.TheVariants as cause
use Rattle.bpf_isa.specs.declared.fields.Fields.{Fields}
use Rattle.bpf_isa.specs.declared.form.OpcodeForm.{OpcodeForm}
use Rattle.bpf_isa.specs.declared.form.OpcodeForm.TheVariants as form
use Rattle.bpf_isa.specs.declared.instr.Width.{Width}
use Rattle.bpf_isa.specs.declared.instr.Width.TheVariants as width
use Rattle.bpf_isa.specs.declared.instr.Operator.{Operator}
use Rattle.bpf_isa.specs.declared.instr.Operator.TheVariants as op

-- what stands in a register field: a register, a number that tells the kind of source (of those that
-- are known), or nothing, so that it is zero
pub data Use : Type 0 where
  Named : Use
  Kind : List ℕ → Use
  Unused : Use

-- the numbers that may stand in a field
pub data Values : Type 0 where
  Any : Values
  Only : List ℕ → Values

pub record Layout : Type 0 where
  pub dst : Use
  pub src : Use
  pub offsets : Values
  pub immediates : Values

abbrev pub layout : Use → Use → Values → Values → Layout
layout dst src offsets immediates = record { dst = dst; src = src; offsets = offsets; immediates = immediates }

abbrev pub zero_only : Values
zero_only = Only (0 ∷ [])

-- division and modulo have a signed form, of offset 1
abbrev pub offsets_of : Operator → List ℕ
offsets_of op.Div = 0 ∷ 1 ∷ []
offsets_of op.SignedDiv = 0 ∷ 1 ∷ []
offsets_of op.Mod = 0 ∷ 1 ∷ []
offsets_of op.SignedMod = 0 ∷ 1 ∷ []
offsets_of _ = 0 ∷ []

-- a move from a register may extend the sign of its low 8, 16 or 32 bits
abbrev pub move_offsets : Width → List ℕ
move_offsets width.W32 = 0 ∷ 8 ∷ 16 ∷ []
move_offsets width.W64 = 0 ∷ 8 ∷ 16 ∷ 32 ∷ []

abbrev pub register_offsets : Width → Operator → List ℕ
register_offsets w op.Mov = move_offsets w
register_offsets w o = offsets_of o

-- the kinds of source: a call is of a helper or of a function of the program, a constant a number
abbrev pub call_kinds : List ℕ
call_kinds = 0 ∷ 1 ∷ []

abbrev pub constant_kinds : List ℕ
constant_kinds = 0 ∷ []

-- the fields of each form
unfoldable pub layout_of : OpcodeForm → Layout
layout_of (form.Arithmetic w o false) = layout Named Unused (Only (offsets_of o)) Any
layout_of (form.Arithmetic w o true) = layout Named Named (Only (register_offsets w o)) zero_only
layout_of (form.Negate w) = layout Named Unused zero_only zero_only
layout_of (form.ByteOrder o) = layout Named Unused zero_only (Only (16 ∷ 32 ∷ 64 ∷ []))
layout_of form.Jump = layout Unused Unused Any zero_only
layout_of form.LongJump = layout Unused Unused zero_only Any
layout_of (form.Branch w c false) = layout Named Unused Any Any
layout_of (form.Branch w c true) = layout Named Named Any zero_only
layout_of form.Call = layout Unused (Kind call_kinds) zero_only Any
layout_of form.Exit = layout Unused Unused zero_only zero_only
layout_of (form.Load s) = layout Named Named Any zero_only
layout_of (form.LoadSigned s) = layout Named Named Any zero_only
layout_of (form.StoreImmediate s) = layout Named Unused Any Any
layout_of (form.Store s) = layout Named Named Any zero_only
layout_of form.LoadImmediate = layout Named (Kind constant_kinds) zero_only Any

abbrev pub is_one_of : List ℕ → ℕ → Bool
is_one_of [] n = false
is_one_of (x ∷ xs) n = if n == x then true else is_one_of xs n

-- a number that may name a register or a kind of source
abbrev pub is_known : Use → ℕ → Bool
is_known Named n = nat_lt n 11
is_known (Kind kinds) n = is_one_of kinds n
is_known Unused n = true

abbrev pub is_clear : Use → ℕ → Bool
is_clear Unused n = n == 0
is_clear _ n = true

abbrev pub is_among : Values → ℕ → Bool
is_among Any n = true
is_among (Only xs) n = is_one_of xs n

-- the second slot of an instruction has nothing but an immediate
abbrev pub is_second : Option Fields → Bool
is_second None = false
is_second (Some s) = (s.opcode == 0) && (s.dst == 0) && (s.src == 0) && (s.offset == 0)

abbrev pub has_its_second : OpcodeForm → Option Fields → Bool
has_its_second form.LoadImmediate next = is_second next
has_its_second _ next = true

-- the tests of the fields of a slot, where the next slot has the fields `next`
unfoldable pub checks : OpcodeForm → Fields → Option Fields → List (Check CodeCause)
checks f s next =
    let l = layout_of f in
    check cause.Register (is_known l.dst s.dst && is_known l.src s.src)
    ∷ check cause.Field (is_clear l.dst s.dst && is_clear l.src s.src && is_among l.offsets s.offset && is_among l.immediates s.immediate)
    ∷ check cause.SecondHalf (has_its_second f next)
    ∷ []

-- the tests of a slot
abbrev pub slot_checks : Option OpcodeForm → Fields → Option Fields → List (Check CodeCause)
slot_checks None s next = check cause.Opcode false ∷ []
slot_checks (Some f) s next = checks f s next
