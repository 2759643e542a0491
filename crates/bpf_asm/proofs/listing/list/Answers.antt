use Rattle.std.proofs.Common.{sym, ap, ◌∙◌, ◌≡◌, ◌<◌, ◌++◌, length, List, ℕ, string_bytes, arith, take, flat_map}
use Rattle.std.proofs.Math.Seq.{take-length}
use Rattle.bpf_asm.specs.Listing.{slot_text, listing}
use Rattle.bpf_asm.proofs.Again.{listing_says}
use Rattle.bpf_asm.proofs.Listed.{one_slot}
use Rattle.bpf_asm.proofs.listing.list.Goals as goal

pub loop-slot-preserved : goal.loop-slot-preserved
loop-slot-preserved c =
    let number = c.slots-slot-end.ensures.number in
    let there : c.loop-slot.slot < length c.args.program.now = rw number at c.loop-slot-test.true in
    c.in_ok-put_slot.ensures
    ∙ ap (λ (x : List ℕ). x ++ slot_text c.at.result) c.loop-slot.invariant
    ∙ rw c.at.ensures.value (sym (one_slot c.args.program.now c.loop-slot.slot there))

pub returns-clause-says : goal.returns-clause-says
returns-clause-says c =
    let p = c.args.program.now in
    let number = c.slots-slot-end.ensures.number in
    let up_to = c.loop-slot.auto.slot-end in
    let past = c.loop-slot-test.false in
    let end : c.loop-slot.slot ≡ length p = omega (arith, number, up_to, past) in
    let text : string_bytes c.loop-slot.out ≡ listing p =
    c.loop-slot.invariant ∙ ap (λ (n : ℕ). flat_map slot_text (take n p)) end ∙ ap (flat_map slot_text) (take-length p) in
    rw text (listing_says c.args.program.now c.slots-slot-end.ensures.program)
