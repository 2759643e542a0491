use Rattle.std.specs.Prelude.{string_bytes}
use Rattle.notes.specs.SourceLines.{values_of}
use Rattle.inspect.proofs.Lines.{Traces}
use Rattle.inspect.proofs.trial.trace.put_trace.Given as goal

abbrev pub invariant-loop-made : goal.invariant-loop-made
invariant-loop-made g l = Traces l.limits (values_of l.lines) l.initial.walk l.steps l.above (string_bytes l.initial.out) (string_bytes l.out) l.made l.walk
