use Rattle.std.proofs.Common.{◌≡◌, Bool, None}
use Rattle.std.specs.List.{range_with_len}
use Rattle.case_runs.proofs.Running.{first_of}
use Rattle.case_runs.proofs.runs.split_anywhere.Given as goal

abbrev pub invariant-loop-sector : goal.invariant-loop-sector
invariant-loop-sector l = (tears : Bool) → first_of (record { at = l.fn.cut; tears = tears; sets = l.fn.sets }) (range_with_len 0 l.sector) ≡ None
