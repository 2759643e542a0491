use Rattle.std.proofs.Common.{◌≡◌, ◌++◌, take, string_bytes}
use Rattle.std.specs.List.{flat_map}
use Rattle.epochs.specs.Parts.{volatile_parts}
use Rattle.crash_text.specs.Cut.{volatile_line}
use Rattle.crash_text.proofs.cut.put_parts.Given as goal

abbrev pub invariant-loop-number : goal.invariant-loop-number
invariant-loop-number l = string_bytes l.out ≡ string_bytes l.initial.out ++ flat_map volatile_line (take l.number (volatile_parts l.plan.by l.plan.log.entries l.cut))
