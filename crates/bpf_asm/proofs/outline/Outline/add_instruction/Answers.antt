use Rattle.std.proofs.Common.{arith, sym, ap, ◌∙◌, ◌≡◌, ◌<◌, ◌≤◌, ◌+◌, length, [], ◌∷◌, ◌++◌, inr, map}
use Rattle.bpf_asm.specs.Operands.{Draft}
use Rattle.bpf_asm.specs.Statements.{name_value}
use Rattle.bpf_asm.specs.Outlines.{labels_in, wanted_in}
use Rattle.std.proofs.lemmas.List.{map-append}
use Rattle.bpf_isa.specs.Program.{entry}
use Rattle.bpf_asm.proofs.Outlines.{holds_pushed, too_many, width_of, two_or_one, takes_some}
use Rattle.bpf_asm.proofs.outline.Outline.add_instruction.Goals.{then-is_wide, else-is_wide, then-self-ge-MOST_SLOTS-via-then-self-ge-MOST_SLOTS, then-self-ge-MOST_SLOTS-via-else-self-ge-MOST_SLOTS+then-self-more-gt-MOST_SLOTS}
use Rattle.bpf_asm.proofs.outline.Outline.add_instruction.Goals as goal

pub returns-then-self-ge-MOST_SLOTS-clause-fault : goal.returns-then-self-ge-MOST_SLOTS-clause-fault
returns-then-self-ge-MOST_SLOTS-clause-fault c =
    let d : Draft = record { instr = c.args.instr; label = name_value c.args.label } in
    let more : c.if-is_wide.more ≡ length (entry c.args.instr) = elim c.if-is_wide.branch [
      | then-is_wide w ↦ w.more-is ∙ sym (width_of c.args.instr c.is_wide.result c.is_wide.ensures ∙ ap two_or_one w.if-is_wide.true)
      | else-is_wide w ↦ w.more-is ∙ sym (width_of c.args.instr c.is_wide.result c.is_wide.ensures ∙ ap two_or_one w.if-is_wide.false)
    ] in
    let some = takes_some c.args.instr in
    let past : 4096 < c.args.self.now.slots + length (entry c.args.instr) = elim c.then-self-ge-MOST_SLOTS.branch [
      | then-self-ge-MOST_SLOTS-via-then-self-ge-MOST_SLOTS w ↦ omega (arith, w.if-self-ge-MOST_SLOTS.true)
      | then-self-ge-MOST_SLOTS-via-else-self-ge-MOST_SLOTS+then-self-more-gt-MOST_SLOTS w ↦ omega (arith, w.if-self-more-gt-MOST_SLOTS.true)
    ] in
    inr (λ said o. too_many (labels_in c.args.self.now) c.args.self.now.instrs.items (wanted_in c.args.self.now) c.args.self.now.slots said d o past)

pub returns-clause-added : goal.returns-clause-added
returns-clause-added c = λ said o.
    let d : Draft = record { instr = c.args.instr; label = name_value c.args.label } in
    let more : c.if-is_wide.more ≡ length (entry c.args.instr) = elim c.if-is_wide.branch [
      | then-is_wide w ↦ w.more-is ∙ sym (width_of c.args.instr c.is_wide.result c.is_wide.ensures ∙ ap two_or_one w.if-is_wide.true)
      | else-is_wide w ↦ w.more-is ∙ sym (width_of c.args.instr c.is_wide.result c.is_wide.ensures ∙ ap two_or_one w.if-is_wide.false)
    ] in
    let limit : c.args.self.now.slots + c.if-is_wide.more ≤ 4096 = omega (arith, c.if-self-more-gt-MOST_SLOTS.false) in
    let pushed : map (λ w. name_value w.label) c.push.new.self.items ≡ wanted_in c.args.self.now ++ d.label ∷ [] =
    ap (map (λ w. name_value w.label)) c.in_ok-push.ensures.items ∙ map-append (λ w. name_value w.label) c.args.self.now.wanted.items (record { label = c.args.label; line = c.args.line } ∷ []) in
    holds_pushed (labels_in c.args.self.now) c.args.self.now.instrs.items c.extend_from_slice.new.self.items (wanted_in c.args.self.now) (map (λ w. name_value w.label) c.push.new.self.items) c.args.self.now.slots said d c.if-is_wide.more
    c.in_ok-extend_from_slice.ensures.items pushed o more limit
