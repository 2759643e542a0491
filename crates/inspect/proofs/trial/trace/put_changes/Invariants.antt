use Rattle.std.proofs.Common.{◌≡◌, ◌++◌, None}
use Rattle.std.specs.Prelude.{string_bytes, slice_index_or}
use Rattle.std.specs.List.{flat_map, range_with_len}
use Rattle.inspect.specs.Trace.{change_text}
use Rattle.inspect.proofs.trial.trace.put_changes.Given as goal

abbrev pub invariant-loop-number : goal.invariant-loop-number
invariant-loop-number l =
    string_bytes l.out ≡ string_bytes l.initial.out ++ flat_map (λ r. change_text l.limits r (slice_index_or l.before r None) (slice_index_or l.now r None)) (range_with_len 0 l.number)
