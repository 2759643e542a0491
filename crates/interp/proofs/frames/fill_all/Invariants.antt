use Rattle.std.specs.Prelude.{◌≡◌, ◌++◌, map, take, drop}
use Rattle.interp.specs.Cells.{filled_stack}
use Rattle.interp.proofs.frames.fill_all.Given as goal

abbrev pub invariant-loop-frame : goal.invariant-loop-frame
invariant-loop-frame l = l.stacks ≡ map filled_stack (take l.frame l.initial.stacks) ++ drop l.frame l.initial.stacks
