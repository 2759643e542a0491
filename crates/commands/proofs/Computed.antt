-- What instructions make of words are words.
use Rattle.std.proofs.Common.{◌<◌, ℕ, ◌-◌, ◌^◌, arith}
use Rattle.bpf_isa.specs.declared.instr.Width.{Width}
use Rattle.bpf_isa.specs.declared.instr.Operator.{Operator}
use Rattle.bpf_isa.specs.declared.instr.SignExtension.{SignExtension}
use Rattle.bpf_isa.specs.declared.instr.Order.{Order}
use Rattle.bpf_isa.specs.declared.instr.OrderSize.{OrderSize}
use Rattle.machine.specs.Arithmetic.{arithmetic, sign_extension, in_order}
use Rattle.intervals.specs.Spans.{only, IsSpan, Has}
use Rattle.intervals.proofs.Computations.{arithmetic_has, arithmetic_fits}
use Rattle.intervals.proofs.Extensions.{extended_has, extended_fits}
use Rattle.intervals.proofs.Orders.{ordered_has, ordered_fits}

one_span : (n : ℕ) → n < 2 ^ 64 → IsSpan (2 ^ 64 - 1) (only n)
one_span n small = record { ordered = omega arith; most = omega (arith, small) }

itself : (n : ℕ) → Has (only n) n
itself n = record { from = omega arith; upto = omega arith }

pub computed_word : (w : Width) (o : Operator) (a b : ℕ) → a < 2 ^ 64 → b < 2 ^ 64 → arithmetic w o a b < 2 ^ 64
computed_word w o a b x y =
    let fits = arithmetic_fits w o (only a) (only b) (one_span a x) (one_span b y) in
    let has = arithmetic_has w o (only a) (only b) a b (one_span a x) (one_span b y) (itself a) (itself b) in
    omega (arith, fits.most, has.upto)

pub extended_word : (e : SignExtension) (a : ℕ) → a < 2 ^ 64 → sign_extension e a < 2 ^ 64
extended_word e a x =
    let fits = extended_fits e (only a) (one_span a x) in
    let has = extended_has e (only a) a (one_span a x) (itself a) in
    omega (arith, fits.most, has.upto)

pub ordered_word : (o : Order) (size : OrderSize) (a : ℕ) → a < 2 ^ 64 → in_order o size a < 2 ^ 64
ordered_word o size a x =
    let fits = ordered_fits o size (only a) (one_span a x) in
    let has = ordered_has o size (only a) a (one_span a x) (itself a) in
    omega (arith, fits.most, has.upto)
