use Rattle.std.proofs.Common.{rules, length, ◌/◌, ◌≤◌}
use Rattle.bpf_isa.proofs.Slots.{ends}
use Rattle.bpf_isa.proofs.Unique.{no_fault}
use Rattle.bpf_isa.proofs.codec.decode.Goals as goal

pub returns-clause-clean : goal.returns-clause-clean
returns-clause-clean c =
    let all : length c.args.bytes.now / 8 ≤ length c.loop-slots.slots.items = search rules in
    no_fault c.args.bytes.now c.loop-slots.slots.items
    (ends c.args.bytes.now c.loop-slots.slots.items c.in_ok-check_length.ensures.whole c.loop-slots.invariant all)
