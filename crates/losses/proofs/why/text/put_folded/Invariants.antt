use Rattle.std.proofs.Common.{◌≡◌, ◌++◌, take, string_bytes}
use Rattle.std.specs.List.{flat_map}
use Rattle.losses.specs.WhyText.{next_lost_text}
use Rattle.losses.proofs.why.text.put_folded.Given as goal

abbrev pub invariant-loop-departure : goal.invariant-loop-departure
invariant-loop-departure l =
    string_bytes l.out ≡ (string_bytes l.initial.out) ++ flat_map (next_lost_text l.by) (take l.departure-index l.rest)
