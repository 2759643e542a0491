use Rattle.std.proofs.Common.{sym, ap, ◌∙◌, ◌≡◌, length, ℕ, List, inr, Option}
use Rattle.bpf_asm.specs.Operands.{Draft}
use Rattle.bpf_asm.specs.Statements.{name_value}
use Rattle.bpf_asm.specs.Says.{drafts_of, all_placed}
use Rattle.bpf_asm.specs.Outlines.{labels_in}
use Rattle.bpf_asm.proofs.Outlines.{width_of, two_or_one}
use Rattle.bpf_asm.proofs.Places.{draft_at, placed_pushed, not_placed, same_labels, labels_fit}
use Rattle.bpf_isa.specs.Program.{entry}
use Rattle.bpf_asm.proofs.assembler.place_all.Goals.{then-is_wide, else-is_wide}
use Rattle.bpf_asm.proofs.assembler.place_all.Goals as goal

pub place-requires-clause-labels : goal.place-requires-clause-labels
place-requires-clause-labels c = labels_fit c.args.outline.now c.requires.said c.requires.outline

pub returns-in_default-clause-fault : goal.returns-in_default-clause-fault
returns-in_default-clause-fault c = inr (λ said h.
    let o = c.args.outline.now in
    let value = c.deref-instr-items.ensures.value in
    let there = c.loop-i-test.true in
    let is = c.instr-item.is in
    let d : Draft = record { instr = c.instr-item.result; label = name_value c.index-wanted.result.now.label } in
    let here = draft_at o said c.loop-i.i c.instr-item.result c.index-wanted.result.now h (rw value at there) (rw value at is) c.index-wanted.ensures in
    ap (λ (f : List ℕ → Option ℕ). all_placed f 0 (drafts_of said)) (sym (same_labels o said h))
    ∙ not_placed (labels_in o) (drafts_of said) c.loop-i.i c.loop-i.instrs.items c.loop-i.slot d here (sym c.in_default.ensures) (c.loop-i.invariant said h))

pub loop-i-preserved : goal.loop-i-preserved
loop-i-preserved c = λ said h.
    let o = c.args.outline.now in
    let value = c.deref-instr-items.ensures.value in
    let there = c.loop-i-test.true in
    let is = c.instr-item.is in
    let d : Draft = record { instr = c.instr-item.result; label = name_value c.index-wanted.result.now.label } in
    let here = draft_at o said c.loop-i.i c.instr-item.result c.index-wanted.result.now h (rw value at there) (rw value at is) c.index-wanted.ensures in
    let width : c.if-is_wide.slot ≡ length (entry c.instr-item.result) = elim c.if-is_wide.branch [
      | then-is_wide w ↦ w.slot-is ∙ sym (width_of c.instr-item.result c.is_wide.result c.is_wide.ensures ∙ ap two_or_one w.if-is_wide.true)
      | else-is_wide w ↦ w.slot-is ∙ sym (width_of c.instr-item.result c.is_wide.result c.is_wide.ensures ∙ ap two_or_one w.if-is_wide.false)
    ] in
    placed_pushed (labels_in o) (drafts_of said) c.loop-i.i c.loop-i.instrs.items c.extend_from_slice.new.self.items c.loop-i.slot c.if-is_wide.slot d c.in-Some.placed
    c.in_ok-extend_from_slice.ensures.items width here (sym c.in-Some.ensures) (c.loop-i.invariant said h)
