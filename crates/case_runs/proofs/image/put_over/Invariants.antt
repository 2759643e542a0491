use Rattle.std.proofs.Common.{◌≡◌, ◌++◌, Bool}
use Rattle.std.specs.List.{flat_map, range_with_len}
use Rattle.case_runs.specs.Images.{formed_if}
use Rattle.case_runs.proofs.image.put_over.Given as goal

abbrev pub invariant-loop-place : goal.invariant-loop-place
invariant-loop-place l = (tears : Bool) → l.out.items ≡ l.initial.out.items ++ flat_map (formed_if (record { at = l.fn.cut; tears = tears; sets = l.fn.sets })) (range_with_len l.fn.part.sector l.place)
