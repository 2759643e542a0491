use Rattle.std.proofs.Common.{rules, ◌≡◌, ◌<◌, length, sym, ap, option_map, arith}
use Rattle.bpf_asm.specs.Words.{in_64_bits}
use Rattle.bpf_asm.proofs.Words.{not_a_numeral, one_more, whole_numeral}
use Rattle.bpf_asm.proofs.number.numeral.Goals as goal

pub returns-then-digit-base : goal.returns-then-digit-base
returns-then-digit-base c =
    let value = c.digit-digit.ensures.value in
    let above = c.if-digit-base.true in
    sym (ap (option_map in_64_bits) (not_a_numeral c.args.base c.args.digits.now c.loop-c.c-index c.loop-c.magnitude c.loop-c-test.true (rw value at above) c.loop-c.invariant))

pub loop-c-preserved : goal.loop-c-preserved
loop-c-preserved c =
    let value = c.digit-digit.ensures.value in
    let below = c.if-digit-base.false in
    let more = c.with_digit-magnitude.ensures in
    one_more c.args.base c.args.digits.now c.loop-c.c-index c.loop-c.magnitude c.with_digit-magnitude.result c.loop-c-test.true (rw value at below) c.loop-c.invariant (rw value at more)

pub returns : goal.returns
returns c =
    let some : 0 < length c.args.digits.now = search rules in
    let end : c.loop-c.c-index ≡ length c.args.digits.now = omega arith in
    whole_numeral c.args.base c.args.digits.now c.loop-c.c-index c.loop-c.magnitude some end c.loop-c.invariant
