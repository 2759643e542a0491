use Rattle.cases.proofs.Forming.{LaidSo}
use Rattle.cases.proofs.form.lay.Given as goal

abbrev pub invariant-loop-place : goal.invariant-loop-place
invariant-loop-place l = LaidSo l.pieces l.from l.initial.out l.out l.place
