use Rattle.std.proofs.Common.{inl, inr}
use Rattle.std.proofs.lemmas.Result.{err_from_is_err_and}
use Rattle.bpf_asm.specs.Outlines.{Outlines}
use Rattle.bpf_asm.proofs.Outlines.{unread_says_none, nothing_is_read}
use Rattle.bpf_asm.proofs.Programs.{unplaced, miscounted, nothing_is_placed}
use Rattle.bpf_asm.proofs.assembler.assemble.Goals as goal

pub returns-in_err-outline-clause-fault : goal.returns-in_err-outline-clause-fault
returns-in_err-outline-clause-fault c =
    let p = err_from_is_err_and c.from_residual.result c.from_residual.ensures.1 in
    let fault = c.in_err-outline.ensures.fault in
    let value = c.as_bytes.ensures.value in
    rw (p.1, p.2) (elim (rw value at fault) [ inl m ↦ inl m | inr none ↦ inr (unread_says_none c.args.text.now none) ])

pub returns-in_err-outline-clause-empty : goal.returns-in_err-outline-clause-empty
returns-in_err-outline-clause-empty c = λ nothing.
    let p = err_from_is_err_and c.from_residual.result c.from_residual.ensures.1 in
    let fault = c.in_err-outline.ensures.fault in
    let value = c.as_bytes.ensures.value in
    rw (p.1, p.2) (elim (rw value at fault) [ inl m ↦ inl m | inr none ↦ absurd (nothing_is_read c.args.text.now none nothing) ])

pub returns-in_err-outline-clause-memory : goal.returns-in_err-outline-clause-memory
returns-in_err-outline-clause-memory c =
    let p = err_from_is_err_and c.from_residual.result c.from_residual.ensures.1 in
    rw (p.1, p.2) c.in_err-outline.ensures.memory

pub returns-in_err-instrs-clause-fault : goal.returns-in_err-instrs-clause-fault
returns-in_err-instrs-clause-fault c =
    let p = err_from_is_err_and c.from_residual-in_err-instrs.result c.from_residual-in_err-instrs.ensures.1 in
    let read = c.in_ok-outline.ensures.read in
    let value = c.as_bytes.ensures.value in
    let all : Outlines c.args.text.now c.in_ok-outline.outline = rw value at read in
    rw (p.1, p.2) (elim c.in_err-instrs.ensures.fault [ inl m ↦ inl m | inr none ↦ inr (unplaced c.args.text.now c.in_ok-outline.outline all none) ])

pub returns-in_err-instrs-clause-empty : goal.returns-in_err-instrs-clause-empty
returns-in_err-instrs-clause-empty c = λ nothing.
    let p = err_from_is_err_and c.from_residual-in_err-instrs.result c.from_residual-in_err-instrs.ensures.1 in
    let read = c.in_ok-outline.ensures.read in
    let value = c.as_bytes.ensures.value in
    let all : Outlines c.args.text.now c.in_ok-outline.outline = rw value at read in
    rw (p.1, p.2) (elim c.in_err-instrs.ensures.fault [ inl m ↦ inl m | inr none ↦ absurd (nothing_is_placed c.args.text.now c.in_ok-outline.outline all none nothing) ])

pub returns-in_err-instrs-clause-memory : goal.returns-in_err-instrs-clause-memory
returns-in_err-instrs-clause-memory c =
    let p = err_from_is_err_and c.from_residual-in_err-instrs.result c.from_residual-in_err-instrs.ensures.1 in
    rw (p.1, p.2) c.in_err-instrs.ensures.memory

pub returns-clause-fault : goal.returns-clause-fault
returns-clause-fault c =
    let read = c.in_ok-outline.ensures.read in
    let value = c.as_bytes.ensures.value in
    let all : Outlines c.args.text.now c.in_ok-outline.outline = rw value at read in
    elim c.in-Err.ensures.fault [
      | inl m ↦ inl (c.of_code.ensures.memory m)
      | inr bad ↦ inr (miscounted c.args.text.now c.in_ok-outline.outline c.in_ok-instrs.instrs.items all c.in_ok-instrs.ensures.placed bad.1)
    ]

pub returns-clause-empty : goal.returns-clause-empty
returns-clause-empty c = λ nothing. elim c.in-Err.ensures.fault [ inl m ↦ inl (c.of_code.ensures.memory m) | inr bad ↦ inr (c.of_code.ensures.count bad.0) ]
