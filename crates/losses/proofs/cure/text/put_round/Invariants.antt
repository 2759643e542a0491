use Rattle.std.proofs.Common.{◌≡◌, ◌++◌, take, string_bytes}
use Rattle.std.specs.List.{flat_map}
use Rattle.losses.specs.CureText.{flush_line}
use Rattle.losses.proofs.cure.text.put_round.Given as goal

abbrev pub invariant-loop-flush : goal.invariant-loop-flush
invariant-loop-flush l = string_bytes l.out ≡ string_bytes l.initial.out ++ flat_map (flush_line l.round) (take l.flush-index l.flushes)
