use Rattle.std.proofs.Common.{◌≡◌, Bool, take}
use Rattle.cases.specs.AtCut.{parts_of, case_of, image_of}
use Rattle.inspect.specs.Image.{sector_bytes}
use Rattle.inspect.proofs.looks.any_image_command.bytes_of.Given as goal

abbrev pub invariant-loop-number : goal.invariant-loop-number
invariant-loop-number l = (tears : Bool) → l.bytes.items ≡ sector_bytes (take l.number (image_of l.at (case_of tears (parts_of l.at) l.sets)))
