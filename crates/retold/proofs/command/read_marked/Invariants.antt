use Rattle.retold.specs.Retold.{NoneUpTo}
use Rattle.retold.proofs.command.read_marked.Given as goal

abbrev pub invariant-loop-fewer : goal.invariant-loop-fewer
invariant-loop-fewer l = NoneUpTo l.fn.basis.file.now l.fn.basis.options.now l.fn.basis.log.now l.fn.report l.fewer
