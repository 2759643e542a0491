use Rattle.std.proofs.Common.{◌≡◌, Bool}
use Rattle.std.specs.List.{flat_map, range_with_len}
use Rattle.case_runs.specs.Images.{formed_of}
use Rattle.case_runs.proofs.image.form.Given as goal

abbrev pub invariant-loop-number : goal.invariant-loop-number
invariant-loop-number l = (tears : Bool) → l.out.items ≡ flat_map (formed_of (record { at = l.fn.cut; tears = tears; sets = l.fn.sets })) (range_with_len 0 l.number)
