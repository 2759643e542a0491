use Rattle.bpf_asm.specs.Statements.{Label, Instruction, Empty, name_value}
use Rattle.bpf_asm.specs.Outlines.{labels_in, wanted_in}
use Rattle.bpf_asm.proofs.Outlines.{holds_empty, breaks_with}
use Rattle.bpf_asm.proofs.outline.Outline.add_line.Goals as goal

pub returns-in-Ok-Empty-clause-added : goal.returns-in-Ok-Empty-clause-added
returns-in-Ok-Empty-clause-added c = λ said o.
    let e = c.in-Ok-Empty.ensures in
    let is = c.in-Ok-Empty.field-0-is in
    record {
      next = Empty;
      read = rw is at e;
      outline = holds_empty (labels_in c.args.self.now) c.args.self.now.instrs.items (wanted_in c.args.self.now) c.args.self.now.slots said o;
    }

pub returns-in-Ok-Label-clause-fault : goal.returns-in-Ok-Label-clause-fault
returns-in-Ok-Label-clause-fault c =
    let e = c.in-Ok-Label.ensures in
    let is = c.in-Ok-Label.field-0-is in
    breaks_with c.args.text.now (Label c.in-Ok-Label.name.now) c.args.self.now c.add_label.result (rw is at e) c.add_label.ensures.fault

pub returns-in-Ok-Instruction-clause-fault : goal.returns-in-Ok-Instruction-clause-fault
returns-in-Ok-Instruction-clause-fault c =
    let e = c.in-Ok-Instruction.ensures in
    let is = c.in-Ok-Instruction.field-0-is in
    breaks_with c.args.text.now (Instruction (record { instr = c.in-Ok-Instruction.draft.instr; label = name_value c.in-Ok-Instruction.draft.label })) c.args.self.now c.add_instruction.result (rw is at e) c.add_instruction.ensures.fault
