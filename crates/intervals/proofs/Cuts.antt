-- The part of a range that a width computes with.
use Rattle.std.proofs.Common.{ℕ, ◌-◌, ◌^◌, arith}
use Rattle.std.proofs.lemmas.Bool.Decides.{nat_tests}
use Rattle.bpf_isa.specs.declared.instr.Width.{Width}
use Rattle.bpf_isa.specs.declared.instr.Width.TheVariants as width
use Rattle.machine.specs.Arithmetic.{low}
use Rattle.intervals.specs.Spans.{Span, IsSpan, Has, Within}
use Rattle.intervals.specs.Operators.{most}
use Rattle.intervals.specs.Results.{part_of_width}
use Rattle.intervals.proofs.TableLaws.{words}

pub cut_has : (w : Width) (x : Span) (a : ℕ) → Has x a → Has (part_of_width w x) (low w a)
unfolding part_of_width
cut_has width.W32 x a h = record { from = grind (arith, nat_tests, h.from, h.upto); upto = grind (arith, nat_tests, h.from, h.upto) }
cut_has width.W64 x a h = h

pub cut_fits : (w : Width) (x : Span) → IsSpan (2 ^ 64 - 1) x → IsSpan (most w) (part_of_width w x)
unfolding part_of_width
cut_fits width.W32 x h = record { ordered = grind (arith, nat_tests, h.ordered); most = grind (arith, nat_tests) }
cut_fits width.W64 x h = h

pub cut_mono : (w : Width) (x s : Span) → IsSpan (2 ^ 64 - 1) x → Within x s → Within (part_of_width w x) (part_of_width w s)
unfolding part_of_width
cut_mono width.W32 x s h a =
    record { from = grind (arith, nat_tests, h.ordered, a.from, a.upto); upto = grind (arith, nat_tests, h.ordered, a.from, a.upto) }
cut_mono width.W64 x s h a = a

-- a range of a width is one of words
pub wider : (w : Width) (x : Span) → IsSpan (most w) x → IsSpan (2 ^ 64 - 1) x
wider w x h = record { ordered = h.ordered; most = omega (arith, h.most, words w) }
