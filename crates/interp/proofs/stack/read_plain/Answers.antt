use Rattle.std.proofs.Common.{◌+◌, ◌≤◌, ◌<◌, length, ℕ, sym, arith}
use Rattle.machine.specs.Memory.{byte_count}
use Rattle.interp.specs.Reading.{plain}
use Rattle.interp.proofs.Windows.{read_unmapped, read_in_plain, plain_unmapped}
use Rattle.interp.proofs.stack.read_plain.Goals as goal

pub returns-then-place-byte_count : goal.returns-then-place-byte_count
returns-then-place-byte_count c =
    let n : ℕ = byte_count c.args.size in
    let past : length c.args.bytes.now < c.args.place + n = rw c.byte_count.ensures.value at c.if-place-byte_count.true in
    sym (read_unmapped (plain c.args.bytes.now) c.args.place n (plain_unmapped n c.args.bytes.now c.args.place c.requires.short (omega (arith, c.requires.place)) past))

pub returns : goal.returns
returns c =
    let n : ℕ = byte_count c.args.size in
    let fits : c.args.place + n ≤ length c.args.bytes.now = rw c.byte_count.ensures.value at c.if-place-byte_count.false in
    rw c.number.ensures (sym (read_in_plain c.args.bytes.now c.args.place n c.requires.short fits))
