use Rattle.std.proofs.Common.{refl, Some, inl, inr}
use Rattle.std.proofs.lemmas.Result.{err_from_is_err_and}
use Rattle.bpf_asm.proofs.Outlines.{SoFar, no_line, first_of, one_line, breaks_text}
use Rattle.bpf_asm.proofs.outline.read_outline.Goals as goal

pub loop-left-init : goal.loop-left-init
loop-left-init c = no_line c.args.text (record { labels = c.new.result; instrs = c.new-2.result; wanted = c.new-3.result; slots = 0 }) c.new.ensures.empty c.new-2.ensures.items c.new-3.ensures.items refl

pub returns-in_err-add_line-clause-fault : goal.returns-in_err-add_line-clause-fault
returns-in_err-add_line-clause-fault c =
    let p = err_from_is_err_and c.from_residual.result c.from_residual.ensures.1 in
    let so_far = c.loop-left.invariant in
    let left = c.in-Some.is in
    let h : SoFar c.args.text.now (Some c.in-Some.text) c.loop-left.line c.loop-left.outline = rw left at so_far in
    let e = c.split_line.ensures in
    let f = first_of c.in-Some.text.now c.split_line.result.0.now c.split_line.result.1 e.first e.more e.shorter in
    rw (p.1, p.2) (elim c.in_err-add_line.ensures.fault [
      | inl m ↦ inl m
      | inr bad ↦ inr (breaks_text c.args.text.now c.in-Some.text c.loop-left.line c.loop-left.outline c.split_line.result.0.now c.split_line.result.1 h f (bad h.said h.outline))
    ])

pub returns-in_err-add_line-clause-memory : goal.returns-in_err-add_line-clause-memory
returns-in_err-add_line-clause-memory c =
    let p = err_from_is_err_and c.from_residual.result c.from_residual.ensures.1 in
    rw (p.1, p.2) c.in_err-add_line.ensures.memory

pub loop-left-preserved : goal.loop-left-preserved
loop-left-preserved c =
    let so_far = c.loop-left.invariant in
    let left = c.in-Some.is in
    let h : SoFar c.args.text.now (Some c.in-Some.text) c.loop-left.line c.loop-left.outline = rw left at so_far in
    let e = c.split_line.ensures in
    let f = first_of c.in-Some.text.now c.split_line.result.0.now c.split_line.result.1 e.first e.more e.shorter in
    one_line c.args.text.now c.in-Some.text c.loop-left.line c.loop-left.outline c.add_line.new.self c.split_line.result.0.now c.split_line.result.1 h f
    (c.in_ok-add_line.ensures.added h.said h.outline)
