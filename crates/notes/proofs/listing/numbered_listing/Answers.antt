use Rattle.std.proofs.Common.{ℕ, ◌≡◌, ◌++◌, List, length, ◌∙◌, ap, sym, arith}
use Rattle.std.specs.List.{flat_map, range_with_len}
use Rattle.bpf_isa.specs.Slots.{at}
use Rattle.notes.specs.Listing.{numbered_slot}
use Rattle.crash_text.proofs.Lines.{one_more_line}
use Rattle.notes.proofs.listing.numbered_listing.Goals as goal

pub loop-slot-preserved : goal.loop-slot-preserved
loop-slot-preserved c =
    let line : ℕ → List ℕ = λ slot. numbered_slot slot (at c.args.program.now slot) in
    c.in_ok-put_slot.ensures
    ∙ ap (λ (text : List ℕ). text ++ numbered_slot c.loop-slot.slot c.at.result) c.loop-slot.invariant
    ∙ rw c.at.ensures.value (sym (one_more_line line c.loop-slot.slot))

pub returns : goal.returns
returns c =
    let end : c.loop-slot.slot ≡ length c.args.program.now = omega (arith, c.slots-slot-end.ensures.number, c.loop-slot.auto.slot-end, c.loop-slot-test.false) in
    c.loop-slot.invariant ∙ ap (λ (n : ℕ). flat_map (λ slot. numbered_slot slot (at c.args.program.now slot)) (range_with_len 0 n)) end
