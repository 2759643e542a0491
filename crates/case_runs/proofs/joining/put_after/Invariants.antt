use Rattle.std.proofs.Common.{◌≡◌, ◌++◌, length, map}
use Rattle.std.specs.Vec.Iter.{into_iter_items, into_iter_len}
use Rattle.losses.specs.FoundCases.{failing_value}
use Rattle.case_runs.specs.Pieces.{later}
use Rattle.case_runs.proofs.joining.put_after.Given as goal

abbrev pub invariant-loop-case : goal.invariant-loop-case
invariant-loop-case l = (l.yielded ++ into_iter_items l.case-iterator ≡ into_iter_items l.initial.case-iterator)
    × (map failing_value l.out.items ≡ map failing_value l.initial.out.items ++ map (later l.leaves) (map failing_value l.yielded))
    × (into_iter_len l.case-iterator ≡ length (into_iter_items l.case-iterator))
