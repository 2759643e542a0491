use Rattle.std.proofs.Common.{◌≡◌, ◌++◌, map, take, string_bytes}
use Rattle.std.specs.List.{flat_map}
use Rattle.losses.specs.WhyText.{cut_text}
use Rattle.losses.proofs.why.text.put_cuts.Given as goal

abbrev pub invariant-loop-cut : goal.invariant-loop-cut
invariant-loop-cut l = string_bytes l.out ≡ string_bytes l.initial.out ++ flat_map (cut_text l.by l.starts (map (λ o. o.now) l.outcomes) l.program) (take l.cut-index l.cuts)
