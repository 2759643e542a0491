-- A program with a loop inside a loop (docs/ASSEMBLY.md, nested_loops).
use Rattle.std.specs.Prelude.{ℕ, ℤ, pos, negsuc, List, [], ◌∷◌, Option, Some}
use Rattle.bpf_isa.specs.declared.instr.Instr.{Instr}
use Rattle.bpf_isa.specs.declared.instr.Instr.TheVariants as instr
use Rattle.bpf_isa.specs.declared.instr.Width.TheVariants as width
use Rattle.bpf_isa.specs.declared.instr.Operator.TheVariants as op
use Rattle.bpf_isa.specs.declared.instr.Source.TheVariants as source
use Rattle.bpf_isa.specs.declared.instr.Condition.TheVariants as cond

-- mov64 of a constant, and a jump where r0 is 0
abbrev pub set_to : ℕ → ℤ → Option Instr
set_to dst n = Some (instr.Arithmetic width.W64 op.Mov dst (source.Immediate n))

abbrev pub jump_on_zero : ℤ → Option Instr
jump_on_zero distance = Some (instr.Branch width.W64 cond.Eq 0 (source.Immediate (pos 0)) distance)

-- negsuc 5 is -6, and negsuc 3 is -4
unfoldable pub nested_loops : List (Option Instr)
nested_loops =
    set_to 1 (pos 2)
    ∷ Some (instr.CallHelper (pos 3))
    ∷ jump_on_zero (pos 4)
    ∷ set_to 1 (pos 3)
    ∷ Some (instr.CallHelper (pos 3))
    ∷ jump_on_zero (negsuc 5)
    ∷ Some (instr.Jump (negsuc 3))
    ∷ set_to 0 (pos 0)
    ∷ Some instr.Exit
    ∷ []
