-- What holds of the ranges: they cover the words of the machine, and a smaller range makes a smaller
-- one.
use Rattle.std.specs.Prelude.{◌≡◌, ℕ, ◌-◌, ◌^◌, ◌≤◌, ◌<◌, ◌↔◌, Bool, ℤ, Option, None, Some}
use Rattle.bpf_isa.specs.declared.instr.Instr.{Instr}
use Rattle.bpf_isa.specs.declared.instr.Instr.TheVariants as instr
use Rattle.bpf_isa.specs.declared.instr.Source.{Source}
use Rattle.bpf_isa.specs.declared.instr.Source.TheVariants as source
use Rattle.bpf_isa.specs.declared.instr.Width.{Width}
use Rattle.bpf_isa.specs.declared.instr.Operator.{Operator}
use Rattle.bpf_isa.specs.declared.instr.Operator.TheVariants as op
use Rattle.bpf_isa.specs.declared.instr.SignExtension.{SignExtension}
use Rattle.bpf_isa.specs.declared.instr.Order.{Order}
use Rattle.bpf_isa.specs.declared.instr.OrderSize.{OrderSize}
use Rattle.bpf_isa.specs.declared.instr.Condition.{Condition}
use Rattle.machine.specs.Arithmetic.{arithmetic, sign_extension, in_order, holds}
use Rattle.machine.specs.State.{State}
use Rattle.machine.specs.Step.{second}
use Rattle.intervals.specs.Spans.{Span, IsSpan, Has, Within, hull}
use Rattle.intervals.specs.Rounding.{floor, ceiling, round_span, IsFloor, IsCeiling}
use Rattle.intervals.specs.Results.{result_of}
use Rattle.intervals.specs.Edges.{jump_edge}
use Rattle.intervals.specs.Seen.{immediate_span}

-- a range of words
abbrev pub IsWordSpan : Span → Type 0
IsWordSpan x = IsSpan (2 ^ 64 - 1) x

-- a result that has this word
abbrev pub HasResult : Option Span → ℕ → Type 0
HasResult None n = ⊥
HasResult (Some r) n = Has r n

-- The words of the operands that an instruction reads lead to words of its result's range, by the
-- arithmetic of the machine. A range of an operand that isn't read may be any.
pub record ResultsCover : Type 0 where
  pub operators : (w : Width) (o : Operator) (dst : ℕ) (from : Source) (x y : Span) (a b : ℕ) → IsWordSpan x → IsWordSpan y → Has x a → Has y b
      → HasResult (result_of (instr.Arithmetic w o dst from) x y) (arithmetic w o a b)
  pub opposites : (w : Width) (dst : ℕ) (x y : Span) (a : ℕ) → IsWordSpan x → Has x a → HasResult (result_of (instr.Negate w dst) x y) (arithmetic w op.Sub 0 a)
  pub signs : (e : SignExtension) (dst src : ℕ) (x y : Span) (b : ℕ) → IsWordSpan y → Has y b → HasResult (result_of (instr.SignExtend e dst src) x y) (sign_extension e b)
  pub orders : (o : Order) (size : OrderSize) (dst : ℕ) (x y : Span) (a : ℕ) → IsWordSpan x → Has x a
      → HasResult (result_of (instr.ByteOrder o size dst) x y) (in_order o size a)

-- a result, where there is one, is a range of words
abbrev pub FitsWords : Option Span → Type 0
FitsWords None = Unit {0}
FitsWords (Some r) = IsWordSpan r

abbrev pub ResultsFit : Type 0
ResultsFit = (i : Instr) (x y : Span) → IsWordSpan x → IsWordSpan y → FitsWords (result_of i x y)

-- smaller ranges have a smaller result
abbrev pub WithinOne : Option Span → Option Span → Type 0
WithinOne None q = Unit {0}
WithinOne (Some p) None = ⊥
WithinOne (Some p) (Some q) = Within p q

abbrev pub ResultsAreMonotone : Type 0
ResultsAreMonotone = (i : Instr) (x y s t : Span) → IsWordSpan x → IsWordSpan y → IsWordSpan s → IsWordSpan t → Within x s → Within y t
    → WithinOne (result_of i x y) (result_of i s t)

-- the range of an immediate is the word that the machine takes for it
abbrev pub ImmediatesAgree : Type 0
ImmediatesAgree = (s : State) (n : ℤ) → Has (immediate_span n) (second s (source.Immediate n))

-- an edge that leaves two words, each in its range
abbrev pub Leaves : Option (Span × Span) → ℕ → ℕ → Type 0
Leaves None a b = ⊥
Leaves (Some p) a b = Has p.0 a × Has p.1 b

-- where the test of the machine goes the way of an edge, the edge leaves the words that were tested
abbrev pub RefinementsCover : Type 0
RefinementsCover = (w : Width) (c : Condition) (dst : ℕ) (from : Source) (offset : ℤ) (taken : Bool) (x y : Span) (a b : ℕ)
    → Has x a → Has y b → holds w c a b ≡ taken → Leaves (jump_edge (instr.Branch w c dst from offset) taken x y) a b

-- an edge that leaves ranges of words, none larger than before
abbrev pub Shrinks : Option (Span × Span) → Span → Span → Type 0
Shrinks None x y = Unit {0}
Shrinks (Some p) x y = IsWordSpan p.0 × IsWordSpan p.1 × Within p.0 x × Within p.1 y

abbrev pub RefinementsFit : Type 0
RefinementsFit = (i : Instr) (taken : Bool) (x y : Span) → IsWordSpan x → IsWordSpan y → Shrinks (jump_edge i taken x y) x y

-- what one edge leaves lies in what another leaves; an edge that isn't taken lies in any
abbrev pub WithinBoth : Option (Span × Span) → Option (Span × Span) → Type 0
WithinBoth None q = Unit {0}
WithinBoth (Some p) None = ⊥
WithinBoth (Some p) (Some q) = Within p.0 q.0 × Within p.1 q.1

abbrev pub RefinementsAreMonotone : Type 0
RefinementsAreMonotone = (i : Instr) (taken : Bool) (x y s t : Span) → IsWordSpan x → IsWordSpan y → Within x s → Within y t
    → WithinBoth (jump_edge i taken x y) (jump_edge i taken s t)

-- the hull of two ranges is the least that holds both, and it is the first where that holds the other
pub record HullIsLeast : Type 0 where
  pub first : (x y : Span) → Within x (hull x y)
  pub other : (x y : Span) → Within y (hull x y)
  pub least : (x y z : Span) → Within x z → Within y z → Within (hull x y) z
  pub absorbs : (x y : Span) → (hull x y ≡ x) ↔ Within y x
  pub fits : (m : ℕ) (x y : Span) → IsSpan m x → IsSpan m y → IsSpan m (hull x y)

-- rounding goes to the nearest ends, and keeps what there was
pub record RoundingContains : Type 0 where
  pub low : (a : ℕ) → a < 2 ^ 64 → IsFloor a (floor a)
  pub high : (a : ℕ) → a < 2 ^ 64 → IsCeiling a (ceiling a)
  pub contains : (x : Span) → IsWordSpan x → Within x (round_span x)
  pub fits : (bits : ℕ) (x : Span) → bits ≤ 64 → IsSpan (2 ^ bits - 1) x → IsSpan (2 ^ bits - 1) (round_span x)

abbrev pub RoundingIsMonotone : Type 0
RoundingIsMonotone = (x s : Span) → IsWordSpan x → IsWordSpan s → Within x s → Within (round_span x) (round_span s)
