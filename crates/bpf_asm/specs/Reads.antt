-- What the functions that read parts answer, seen as the values of `Operands` (docs/ASSEMBLY.md, Operands).
use Rattle.std.specs.Prelude.{◌≡◌, ℕ, ℤ, List, Option, None, Some, option_map, Result, Ok, Err}
use Rattle.std.specs.Borrow.{Bor}
use Rattle.bpf_asm.specs.declared.fault.LineCause.{LineCause}
use Rattle.bpf_asm.specs.declared.operand.Operand as code
use Rattle.bpf_asm.specs.declared.operand.Operand.TheVariants as one
use Rattle.bpf_asm.specs.declared.operand.Target as code_target
use Rattle.bpf_asm.specs.declared.operand.Target.TheVariants as to
use Rattle.bpf_asm.specs.Parts.{Part, parts}
use Rattle.bpf_asm.specs.Operands.{Operand, InRegister, Constant, Target, At, To}

-- a value, seen so, and the line after it
abbrev pub Reads : {X Y : Type 0} → (X → Y) → Option (X × Bor (List ℕ)) → Option (Y × List Part) → Type 0
Reads view None said = said ≡ None
Reads view (Some x) said = said ≡ Some (view x.0, parts x.1.now)

-- a value, seen so, or a fault where there is none
abbrev pub Gives : {X Y : Type 0} → (X → Y) → Result X LineCause → Option Y → Type 0
Gives view (Ok x) said = said ≡ Some (view x)
Gives view (Err cause) said = said ≡ None

abbrev pub operand_value : code.Operand → Operand
operand_value (one.Register r) = InRegister r
operand_value (one.Number n) = Constant n

abbrev pub target_value : code_target.Target → Target
target_value (to.Distance n) = At n
target_value (to.Label name) = To name.now

-- a distance and a label
abbrev pub aim_value : ℤ × Option (Bor (List ℕ)) → ℤ × Option (List ℕ)
aim_value x = (x.0, option_map (λ name. name.now) x.1)
