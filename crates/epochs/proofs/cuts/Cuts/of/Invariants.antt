use Rattle.std.proofs.Common.{◌≡◌, filter}
use Rattle.std.specs.List.{range_with_len}
use Rattle.epochs.specs.Cuts.{is_wanted}
use Rattle.epochs.proofs.cuts.Cuts.of.Given as goal

abbrev pub invariant-loop-cut : goal.invariant-loop-cut
invariant-loop-cut l = l.cuts.items ≡ filter (is_wanted l.self l.entries) (range_with_len 0 l.cut)
