use Rattle.std.proofs.Common.{◌≡◌, ◌++◌, take, string_bytes}
use Rattle.std.specs.List.{flat_map}
use Rattle.losses.specs.CureText.{missing_line}
use Rattle.losses.proofs.cure.text.put_missing.Given as goal

abbrev pub invariant-loop-flush : goal.invariant-loop-flush
invariant-loop-flush l = string_bytes l.out ≡ string_bytes l.initial.out ++ flat_map missing_line (take l.flush-index l.flushes)
