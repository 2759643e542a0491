-- The limits that an arithmetic instruction makes of the limits of its operands (docs/VERIFIER.md,
-- Results of arithmetic on numbers).
use Rattle.std.specs.Prelude.{ℤ, ◌+ℤ◌, ◌-ℤ◌, int_le, ◌&&◌, if◌then◌else◌, Option, Some, None, unwrap_or}
use Rattle.std.specs.Option.{option_and_then}
use Rattle.bpf_isa.specs.declared.instr.Instr.{Instr}
use Rattle.bpf_isa.specs.declared.instr.Instr.TheVariants as instr
use Rattle.bpf_isa.specs.declared.instr.Width.TheVariants as width
use Rattle.bpf_isa.specs.declared.instr.Operator.TheVariants as op
use Rattle.intervals.specs.Results.{result_of}
use Rattle.intervals.specs.SignedSpans.{SignedSpan, signed_span, signed_full, least, greatest}
use Rattle.intervals.specs.Reducing.{Limits, limits, reduction}

-- the range with these ends, where neither leaves the signed numbers
unfoldable pub if_signed : ℤ → ℤ → Option SignedSpan
if_signed a b = if int_le least a && int_le b greatest then Some (signed_span a b) else None

-- that range, else all signed numbers
abbrev pub signed_or_full : ℤ → ℤ → SignedSpan
signed_or_full a b = unwrap_or (if_signed a b) signed_full

-- Only a move, an addition and a subtraction in 64 bits tell something of the reading.
unfoldable pub signed_result_of : Instr → SignedSpan → SignedSpan → SignedSpan
signed_result_of (instr.Arithmetic width.W64 op.Mov dst from) x y = y
signed_result_of (instr.Arithmetic width.W64 op.Add dst from) x y = signed_or_full (x.low +ℤ y.low) (x.high +ℤ y.high)
signed_result_of (instr.Arithmetic width.W64 op.Sub dst from) x y = signed_or_full (x.low -ℤ y.high) (x.high -ℤ y.low)
signed_result_of _ x y = signed_full

-- the limits for those of dst and of the second operand, reduced; None where no word is left
unfoldable pub limits_result_of : Instr → Limits → Limits → Option Limits
limits_result_of i x y =
    option_and_then (λ u. reduction (limits u (signed_result_of i x.signed y.signed))) (result_of i x.unsigned y.unsigned)
