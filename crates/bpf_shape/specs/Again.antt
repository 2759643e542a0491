-- Calls of `again`, which is helper 3, and the edges and heads that they make (docs/VERIFIER.md, The
-- form of `again`).
use Rattle.std.specs.Prelude.{ℕ, ◌-◌, ◌==◌, nat_le, Bool, false, ◌&&◌, ◌||◌, if◌then◌else◌, pos, List, Option, None, Some, length, map}
use Rattle.std.specs.Int.{cast_unsigned, w32, w64}
use Rattle.std.specs.List.{list_any, range_with_len, sum}
use Rattle.std.specs.Option.{option_map_or, option_and_then}
use Rattle.std.specs.Ordering.{int_eq}
use Rattle.bpf_isa.specs.declared.instr.Instr.{Instr}
use Rattle.bpf_isa.specs.declared.instr.Instr.TheVariants as instr
use Rattle.bpf_isa.specs.declared.instr.Source.TheVariants as source
use Rattle.bpf_isa.specs.declared.instr.Width.TheVariants as width
use Rattle.bpf_isa.specs.declared.instr.Operator.TheVariants as op
use Rattle.bpf_isa.specs.declared.instr.Condition.{Condition}
use Rattle.bpf_isa.specs.declared.instr.Condition.TheVariants as cond
use Rattle.bpf_shape.specs.declared.edges.Edges.{Edges}
use Rattle.bpf_isa.specs.Slots.{at}
use Rattle.bpf_shape.specs.Edges.{edges, control}
use Rattle.bpf_shape.specs.Calls.{callee}

-- the number of the helper that an instruction calls
abbrev pub helper_number : Instr → Option ℕ
helper_number (instr.CallHelper number) = Some (cast_unsigned w32 number)
helper_number _ = None

-- the instruction at a slot calls `again`
unfoldable pub calls_again : List (Option Instr) → ℕ → Bool
calls_again program slot = option_map_or (λ n. n == 3) (option_and_then helper_number (at program slot)) false

-- K of `mov64 r1, K`, the word that r1 is set to, where it is 1 to 1,048,576
unfoldable pub limit_of : Instr → Option ℕ
limit_of (instr.Arithmetic width.W64 op.Mov dst (source.Immediate n)) =
    if (dst == 1) && (nat_le 1 (cast_unsigned w64 n) && nat_le (cast_unsigned w64 n) 1048576) then Some (cast_unsigned w64 n) else None
limit_of _ = None

-- the condition of a jump that compares r0 with the constant 0, in 64 bits
unfoldable pub zero_test : Instr → Option Condition
zero_test (instr.Branch width.W64 c dst (source.Immediate n) distance) = if (dst == 0) && int_eq n (pos 0) then Some c else None
zero_test _ = None

-- K of a call of `again` at a slot, from the slot before
unfoldable pub limit_before : List (Option Instr) → ℕ → Option ℕ
limit_before program slot = if slot == 0 then None else option_and_then limit_of (at program (slot - 1))

-- the condition that a slot after a call of `again` tests of its answer, r0
unfoldable pub answer_test : List (Option Instr) → ℕ → Option Condition
answer_test program slot =
    if slot == 0 then None else if calls_again program (slot - 1) then option_and_then zero_test (at program slot) else None

-- of the two edges of such a test that for r0 not 0, and the others
abbrev pub again_of : Option Condition → Edges → Option ℕ
again_of (Some cond.Eq) e = e.next
again_of (Some cond.Ne) e = e.target
again_of _ e = None

abbrev pub others_of : Option Condition → Edges → Edges
others_of (Some cond.Eq) e = edges None e.target
others_of (Some cond.Ne) e = edges e.next None
others_of _ e = e

-- the again edge of a slot
unfoldable pub again_edge : List (Option Instr) → ℕ → Option ℕ
again_edge program slot = again_of (answer_test program slot) (control program slot)

-- the control edges of a slot without its again edge
unfoldable pub plain : List (Option Instr) → ℕ → Edges
plain program slot = others_of (answer_test program slot) (control program slot)

abbrev pub is_slot : ℕ → Option ℕ → Bool
is_slot slot to = option_map_or (λ t. t == slot) to false

-- the jump or the local call at slot s leads to the slot
abbrev pub aims_at : List (Option Instr) → ℕ → ℕ → Bool
aims_at program slot s = is_slot slot (control program s).target || is_slot slot (callee program s)

-- a jump or a local call leads to the slot
unfoldable pub is_target : List (Option Instr) → ℕ → Bool
is_target program slot = list_any (aims_at program slot) (range_with_len 0 (length program))

-- an again edge leads to the slot
unfoldable pub is_head : List (Option Instr) → ℕ → Bool
is_head program slot = list_any (λ s. is_slot slot (again_edge program s)) (range_with_len 0 (length program))

-- for each slot, whether it is a head
unfoldable pub heads : List (Option Instr) → List Bool
heads program = map (is_head program) (range_with_len 0 (length program))

-- what the call at a slot adds to the sum of all K
unfoldable pub turns_at : List (Option Instr) → ℕ → ℕ
turns_at program slot = if calls_again program slot then option_map_or (λ k. k) (limit_before program slot) 0 else 0

-- the sum of K over all calls of `again`
unfoldable pub turns : List (Option Instr) → ℕ
turns program = sum (map (turns_at program) (range_with_len 0 (length program)))
