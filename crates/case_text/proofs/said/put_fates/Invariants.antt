use Rattle.std.proofs.Common.{◌≡◌, ◌++◌, take, string_bytes}
use Rattle.std.specs.List.{flat_map}
use Rattle.case_text.specs.Text.{next_fate}
use Rattle.case_text.proofs.said.put_fates.Given as goal

abbrev pub invariant-loop-fate : goal.invariant-loop-fate
invariant-loop-fate l = string_bytes l.out ≡ string_bytes l.initial.out ++ flat_map next_fate (take l.fate-index l.rest)
