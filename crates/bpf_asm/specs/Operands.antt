-- The operands of instructions (docs/ASSEMBLY.md, Operands and Instructions).
use Rattle.std.specs.Prelude.{ℕ, ℤ, pos, Bool, true, false, ◌==◌, if◌then◌else◌, List, [], ◌∷◌, Option, None, Some, option_map}
use Rattle.bpf_isa.specs.declared.instr.Instr.{Instr}
use Rattle.bpf_isa.specs.declared.instr.Instr.TheVariants as instr
use Rattle.bpf_isa.specs.declared.instr.Source.{Source}
use Rattle.bpf_isa.specs.declared.instr.Source.TheVariants as source
use Rattle.bpf_asm.specs.declared.number.Number.{Number}
use Rattle.bpf_asm.specs.declared.mnemonic.Mnemonic.{Mnemonic}
use Rattle.bpf_asm.specs.declared.mnemonic.Mnemonic.TheVariants as kind
use Rattle.bpf_asm.specs.Parts.{Part, Word, Mark, is_none_left}
use Rattle.bpf_asm.specs.Words.{number_of, number_with_sign, register_of, is_name, in_range, in_wide_range}

infixl 10 ◌>>=◌
abbrev pub ◌>>=◌ : {A B : Type 0} → Option A → (A → Option B) → Option B
None >>= f = None
(Some x) >>= f = f x

-- Parts that begin with an operand stand for its value, and there are the parts after it.
abbrev pub Reading : Type 0 → Type 0
Reading X = List Part → Option (X × List Part)

-- this mark
abbrev pub mark : ℕ → List Part → Option (List Part)
mark c (Mark m ∷ rest) = if m == c then Some rest else None
mark c _ = None

-- a register
unfoldable pub register : Reading ℕ
register (Word w ∷ rest) = option_map (λ r. (r, rest)) (register_of w)
register _ = None

-- a number without a sign, as the magnitude of one with this sign
unfoldable pub magnitude_of : Bool → Reading Number
magnitude_of negative (Word w ∷ rest) = option_map (λ n. (number_with_sign negative n, rest)) (number_of w)
magnitude_of negative _ = None

-- a number, or `-` and a number
unfoldable pub number : Reading Number
number (Mark m ∷ rest) = if m == 45 then magnitude_of true rest else None
number ps = magnitude_of false ps

-- `+` or `-`; the value is whether it is `-`
unfoldable pub sign : Reading Bool
sign (Mark m ∷ rest) = if m == 43 then Some (false, rest) else if m == 45 then Some (true, rest) else None
sign _ = None

-- `+` or `-` and a number
unfoldable pub distance : Reading Number
distance ps = do
  s ← sign ps
  magnitude_of s.0 s.1

-- a register, or else an immediate
pub data Operand : Type 0 where
  InRegister : ℕ → Operand
  Constant : Number → Operand

abbrev pub or_number : Option (ℕ × List Part) → Option (Number × List Part) → Option (Operand × List Part)
or_number (Some r) n = Some (InRegister r.0, r.1)
or_number None n = option_map (λ x. (Constant x.0, x.1)) n

unfoldable pub operand : Reading Operand
operand ps = or_number (register ps) (number ps)

-- a memory place: the base and the offset
unfoldable pub place : Reading (ℕ × Number)
place ps = do
  inside ← mark 91 ps
  base ← register inside
  offset ← distance base.1
  rest ← mark 93 offset.1
  Some ((base.0, offset.0), rest)

-- where a jump or a local call goes: at a distance, or to a label
pub data Target : Type 0 where
  At : Number → Target
  To : List ℕ → Target

unfoldable pub target : Reading Target
target (Word w ∷ rest) = if is_name w then Some (To w, rest) else None
target ps = option_map (λ x. (At x.0, x.1)) (distance ps)

-- the last operand
abbrev pub last_operand : {A : Type 0} → Option (A × List Part) → Option A
last_operand None = None
last_operand (Some (x, [])) = Some x
last_operand (Some (x, _ ∷ _)) = None

-- an operand and a comma
abbrev pub with_comma : {A : Type 0} → Option (A × List Part) → Option (A × List Part)
with_comma None = None
with_comma (Some x) = option_map (λ rest. (x.0, rest)) (mark 44 x.1)

-- one, two or three operands with commas between, and nothing after them
abbrev pub one : {A : Type 0} → Reading A → List Part → Option A
one first ps = last_operand (first ps)

abbrev pub two : {A B : Type 0} → Reading A → Reading B → List Part → Option (A × B)
two first second ps = do
  a ← with_comma (first ps)
  b ← last_operand (second a.1)
  Some (a.0, b)

abbrev pub three : {A B C : Type 0} → Reading A → Reading B → Reading C → List Part → Option (A × B × C)
three first second third ps = do
  a ← with_comma (first ps)
  b ← with_comma (second a.1)
  c ← last_operand (third b.1)
  Some (a.0, b.0, c)

-- An instruction as a line says it. Where a label tells its distance, the distance is 0 until the label's slot is known.
pub record Draft : Type 0 where
  pub instr : Instr
  pub label : Option (List ℕ)

abbrev pub whole : Instr → Draft
whole i = record { instr = i; label = None }

-- an immediate or a register in its range
abbrev pub source_in_range : Operand → Option Source
source_in_range (InRegister r) = Some (source.Register r)
source_in_range (Constant n) = option_map source.Immediate (in_range 0x8000_0000 n)

abbrev pub offset_in_range : Number → Option ℤ
offset_in_range n = in_range 0x8000 n

abbrev pub immediate_in_range : Number → Option ℤ
immediate_in_range n = in_range 0x8000_0000 n

-- a distance with its label, in its range
abbrev pub distance_to : (Number → Option ℤ) → Target → Option (ℤ × Option (List ℕ))
distance_to range (At n) = option_map (λ d. (d, None)) (range n)
distance_to range (To name) = Some (pos 0, Some name)

-- the operands after the name of each instruction, then their ranges
unfoldable pub draft : Mnemonic → List Part → Option Draft
draft (kind.Arithmetic w o) ps = do
  x ← two register operand ps
  s ← source_in_range x.1
  Some (whole (instr.Arithmetic w o x.0 s))
draft (kind.Negate w) ps = do
  dst ← one register ps
  Some (whole (instr.Negate w dst))
draft (kind.SignExtend e) ps = do
  x ← two register register ps
  Some (whole (instr.SignExtend e x.0 x.1))
draft (kind.ByteOrder o s) ps = do
  dst ← one register ps
  Some (whole (instr.ByteOrder o s dst))
draft kind.Jump ps = do
  to ← one target ps
  d ← distance_to offset_in_range to
  Some (record { instr = instr.Jump d.0; label = d.1 })
draft kind.LongJump ps = do
  to ← one target ps
  d ← distance_to immediate_in_range to
  Some (record { instr = instr.LongJump d.0; label = d.1 })
draft (kind.Branch w c) ps = do
  x ← three register operand target ps
  s ← source_in_range x.1
  d ← distance_to offset_in_range x.2
  Some (record { instr = instr.Branch w c x.0 s d.0; label = d.1 })
draft kind.CallHelper ps = do
  n ← one number ps
  helper ← immediate_in_range n
  Some (whole (instr.CallHelper helper))
draft kind.CallLocal ps = do
  to ← one target ps
  d ← distance_to immediate_in_range to
  Some (record { instr = instr.CallLocal d.0; label = d.1 })
draft kind.Exit ps = if is_none_left ps then Some (whole instr.Exit) else None
draft (kind.Load s) ps = do
  x ← two register place ps
  offset ← offset_in_range x.1.1
  Some (whole (instr.Load s x.0 x.1.0 offset))
draft (kind.LoadSigned s) ps = do
  x ← two register place ps
  offset ← offset_in_range x.1.1
  Some (whole (instr.LoadSigned s x.0 x.1.0 offset))
draft (kind.StoreImmediate s) ps = do
  x ← two place number ps
  offset ← offset_in_range x.0.1
  n ← immediate_in_range x.1
  Some (whole (instr.StoreImmediate s x.0.0 offset n))
draft (kind.Store s) ps = do
  x ← two place register ps
  offset ← offset_in_range x.0.1
  Some (whole (instr.Store s x.0.0 offset x.1))
draft kind.LoadImmediate ps = do
  x ← two register number ps
  value ← in_wide_range x.1
  Some (whole (instr.LoadImmediate x.0 value))
