use Rattle.std.proofs.Common.{◌≡◌, ◌++◌, Bool, string_bytes}
use Rattle.std.specs.List.{flat_map, range_with_len}
use Rattle.cases.specs.AtCut.{parts_of, case_of, image_of}
use Rattle.crash_text.specs.Sectors.{sector_at}
use Rattle.inspect.proofs.looks.any_image_command.put_differences.Given as goal

abbrev pub invariant-loop-number : goal.invariant-loop-number
invariant-loop-number l = (tears : Bool) → string_bytes l.out ≡ string_bytes l.initial.out
    ++ flat_map (sector_at (image_of l.at (case_of tears (parts_of l.at) l.whole)) (image_of l.at (case_of tears (parts_of l.at) l.sets))) (range_with_len 0 l.number)
