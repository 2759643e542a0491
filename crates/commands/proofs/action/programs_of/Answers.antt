use Rattle.std.proofs.Common.{rules}
use Rattle.commands.proofs.Acts.{held_next, none_next}
use Rattle.commands.proofs.action.programs_of.Goals as goal
use Rattle.commands.proofs.action.programs_of.Goals.{in-Some+in_ok-to_vec+in_ok-push, in_default}

pub loop-file-preserved : goal.loop-file-preserved
loop-file-preserved c = elim c.match-file.branch [
  | in-Some+in_ok-to_vec+in_ok-push w ↦
      rw (w.programs-is, w.in_ok-push.ensures.items)
      (held_next (λ f. f.items) c.args.files.now c.loop-file.file-index c.file-item.result w.in-Some.bytes w.in_ok-to_vec.field-0 c.loop-file.programs.items
      c.loop-file-test.true c.file-item.is w.in-Some.is (search rules) c.loop-file.invariant)
  | in_default w ↦
      rw w.programs-is
      (none_next (λ f. f.items) c.args.files.now c.loop-file.file-index c.file-item.result c.loop-file.programs.items c.loop-file-test.true c.file-item.is w.in_default.is c.loop-file.invariant)
]
