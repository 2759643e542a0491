use Rattle.std.proofs.Common.{arith}
use Rattle.std.specs.Prelude.{string_bytes}
use Rattle.notes.specs.SourceLines.{values_of}
use Rattle.inspect.proofs.Lines.{begin, go_on, ended, spent}
use Rattle.inspect.proofs.Steps.{not_some}
use Rattle.inspect.proofs.trial.trace.put_trace.Goals as goal

pub loop-made-init : goal.loop-made-init
loop-made-init g c = begin c.args.limits (values_of c.args.lines.now) c.args.walk.now c.args.steps c.args.above (string_bytes c.args.out.now)

pub returns-in-Some : goal.returns-in-Some
returns-in-Some g c =
    ended c.args.limits (values_of c.args.lines.now) c.args.walk.now c.args.steps c.args.above (string_bytes c.args.out.now) (string_bytes c.loop-made.out) (string_bytes c.trace_step.new.out) c.loop-made.made c.loop-made.walk
    c.trace_step.new.walk c.in_ok-end.end c.in-Some._halt c.loop-made-test.true c.loop-made.invariant c.in_ok-end.ensures.line c.in-Some.is c.in_ok-end.ensures.made

pub loop-made-preserved : goal.loop-made-preserved
loop-made-preserved g c =
    go_on c.args.limits (values_of c.args.lines.now) c.args.walk.now c.args.steps c.args.above (string_bytes c.args.out.now) (string_bytes c.loop-made.out) (string_bytes c.trace_step.new.out) c.loop-made.made c.loop-made.walk
    c.trace_step.new.walk c.in_ok-end.end c.loop-made-test.true c.loop-made.invariant c.in_ok-end.ensures.line (not_some c.in_ok-end.end c.in_default.not-Some)
    c.in_ok-end.ensures.made c.in_ok-end.ensures.same

pub returns : goal.returns
returns g c =
    let past = c.loop-made-test.false in
    spent c.args.limits (values_of c.args.lines.now) c.args.walk.now c.args.steps c.args.above (string_bytes c.args.out.now) (string_bytes c.loop-made.out) c.loop-made.made c.loop-made.walk (omega (arith, past)) c.loop-made.invariant
