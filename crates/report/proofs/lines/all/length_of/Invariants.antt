use Rattle.std.proofs.Common.{◌≡◌, ◌-◌, ◌^◌, length, min, take, string_bytes}
use Rattle.std.specs.List.{flat_map}
use Rattle.report.proofs.lines.all.length_of.Given as goal

abbrev pub invariant-loop-text : goal.invariant-loop-text
invariant-loop-text l = l.bytes ≡ min (length (flat_map (λ t. string_bytes t) (take l.text-index l.texts))) (2 ^ 64 - 1)
