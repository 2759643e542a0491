use Rattle.std.proofs.Common.{rules, ◌≡◌, length, inr}
use Rattle.bpf_isa.proofs.Bytes.{AreBytes}
use Rattle.bpf_isa.proofs.Slots.{goes_on}
use Rattle.bpf_isa.proofs.Faults.{is_at_slot}
use Rattle.bpf_isa.proofs.codec.read_next.Goals as goal

pub returns-in_ok-push_entry-in-Ok-clause-begins :
    goal.returns-in_ok-push_entry-in-Ok-clause-begins
returns-in_ok-push_entry-in-Ok-clause-begins c =
    let are : AreBytes c.args.bytes.now = record { fits = c.type_inv.bytes } in
    let place : c.len.result ≡ length c.args.slots.now.items = search rules in
    let spelled = rw place at c.in-Ok.ensures.spelled in
    rw c.in_ok-push_entry-in-Ok.ensures.appended
    (goes_on c.args.bytes.now c.args.slots.now.items c.in-Ok.instr are c.requires.begins c.requires.more spelled)

pub returns-in-Err-clause-fault : goal.returns-in-Err-clause-fault
returns-in-Err-clause-fault c =
    let place : c.len.result ≡ length c.args.slots.now.items = search rules in
    let fails = rw place at c.in-Err.ensures.cause in
    let slot = rw place at c.in-Err.ensures.slot in
    inr (is_at_slot c.args.bytes.now c.args.slots.now.items c.in-Err.fault.code c.in-Err.fault.slot c.requires.whole c.requires.begins c.requires.more fails slot)
