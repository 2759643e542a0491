use Rattle.std.proofs.Common.{arith, ◌≡◌, ◌+◌, length, drop}
use Rattle.std.proofs.lemmas.Bool.{ne_eqb}
use Rattle.std.proofs.lemmas.List.{drop-drop}
use Rattle.bpf_asm.proofs.Lines.{line_more, split_there, whole_line}
use Rattle.bpf_asm.proofs.outline.split_line.Goals as goal

pub returns-then-c-eq10-clause-more : goal.returns-then-c-eq10-clause-more
returns-then-c-eq10-clause-more c =
    let text = c.args.text.now in
    let beyond : drop 1 (drop c.loop-i.i text) ≡ drop (c.loop-i.i + 1) text = drop-drop 1 c.loop-i.i text in
    rw (c.split_at.ensures.front, c.split_at-then-c-eq10.ensures.back, c.split_at.ensures.back, beyond)
    (split_there text c.loop-i.i c.loop-i-test.true c.if-c-eq10.true c.loop-i.invariant)

pub loop-i-preserved : goal.loop-i-preserved
loop-i-preserved c = line_more c.args.text.now c.loop-i.i c.loop-i-test.true (ne_eqb _ 10 c.if-c-eq10.false) c.loop-i.invariant

pub returns-clause-first : goal.returns-clause-first
returns-clause-first c =
    let end : c.loop-i.i ≡ length c.args.text.now = omega arith in
    let all = c.loop-i.invariant in
    whole_line c.args.text.now (rw end at all)
