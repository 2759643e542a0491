-- What an edge of a conditional jump says of the ranges of its operands (docs/VERIFIER.md,
-- Branches). x is the range of dst, y that of the second operand; None where one of them would be
-- empty, so that the edge isn't taken.
use Rattle.std.specs.Prelude.{ℕ, ◌+◌, ◌-◌, ◌==◌, nat_le, ◌&&◌, Bool, true, false, if◌then◌else◌, Option, None, Some, min, max}
use Rattle.bpf_isa.specs.declared.instr.Instr.{Instr}
use Rattle.bpf_isa.specs.declared.instr.Instr.TheVariants as instr
use Rattle.bpf_isa.specs.declared.instr.Source.{Source}
use Rattle.bpf_isa.specs.declared.instr.Source.TheVariants as source
use Rattle.bpf_isa.specs.declared.instr.Width.TheVariants as width
use Rattle.bpf_isa.specs.declared.instr.Condition.{Condition}
use Rattle.bpf_isa.specs.declared.instr.Condition.TheVariants as cond
use Rattle.intervals.specs.Spans.{Span, span, is_constant}

-- both, where neither is empty
abbrev pub both : Span → Span → Option (Span × Span)
both x y = if nat_le x.low x.high && nat_le y.low y.high then Some (x, y) else None

-- dst = second
unfoldable pub equal : Span → Span → Option (Span × Span)
equal x y = both (span (max x.low y.low) (min x.high y.high)) (span (max x.low y.low) (min x.high y.high))

-- a constant is cut off the ends of a range, which stays where the other is no constant
abbrev pub without : Span → Span → Span
without x y =
    if is_constant y then span (if x.low == y.low then x.low + 1 else x.low) (if x.high == y.low then x.high - 1 else x.high) else x

-- dst is not second. The range of the one number 0 ends below zero when 0 is cut off; that it is
-- empty then shows at its low end.
unfoldable pub apart : Span → Span → Option (Span × Span)
apart x y = both (without x y) (without y x)

-- dst > second. Where dst is 0 alone the other range would end below zero, and that of dst is empty.
unfoldable pub above : Span → Span → Option (Span × Span)
above x y = both (span (max x.low (y.low + 1)) x.high) (span y.low (min y.high (x.high - 1)))

-- dst ≤ second
unfoldable pub at_most : Span → Span → Option (Span × Span)
at_most x y = both (span x.low (min x.high y.high)) (span (max x.low y.low) y.high)

-- dst ≥ second
unfoldable pub at_least : Span → Span → Option (Span × Span)
at_least x y = both (span (max x.low y.low) x.high) (span y.low (min y.high x.high))

-- dst < second, the same the other way round
unfoldable pub below : Span → Span → Option (Span × Span)
below x y = both (span x.low (min x.high (y.high - 1))) (span (max y.low (x.low + 1)) y.high)

-- the edge of a condition that holds, or does not; the others tell nothing
unfoldable pub condition_edge : Condition → Bool → Span → Span → Option (Span × Span)
condition_edge cond.Eq true x y = equal x y
condition_edge cond.Eq false x y = apart x y
condition_edge cond.Ne true x y = apart x y
condition_edge cond.Ne false x y = equal x y
condition_edge cond.Gt true x y = above x y
condition_edge cond.Gt false x y = at_most x y
condition_edge cond.Ge true x y = at_least x y
condition_edge cond.Ge false x y = below x y
condition_edge cond.Lt true x y = below x y
condition_edge cond.Lt false x y = at_least x y
condition_edge cond.Le true x y = at_most x y
condition_edge cond.Le false x y = above x y
condition_edge _ _ x y = Some (x, y)

-- whether the second operand is the register dst
abbrev pub is_same : ℕ → Source → Bool
is_same dst (source.Immediate n) = false
is_same dst (source.Register r) = dst == r

abbrev pub is_branch : Instr → Bool
is_branch (instr.Branch w c dst from offset) = true
is_branch _ = false

-- the edge of a jump: only a test of two operands in 64 bits tells something
unfoldable pub jump_edge : Instr → Bool → Span → Span → Option (Span × Span)
jump_edge (instr.Branch width.W64 c dst from offset) taken x y = if is_same dst from then Some (x, y) else condition_edge c taken x y
jump_edge _ taken x y = Some (x, y)
