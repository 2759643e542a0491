use Rattle.std.proofs.Common.{◌≡◌, true, take, not}
use Rattle.std.specs.List.{list_all}
use Rattle.logfmt.specs.declared.entry.Entry.{Entry}
use Rattle.runs.specs.Blind.{covers}
use Rattle.runs.proofs.blind.is_bare.Given as goal

abbrev pub invariant-loop-entry : goal.invariant-loop-entry
invariant-loop-entry l = list_all (λ (e : Entry). not (covers l.sector e)) (take l.entry-index l.entries) ≡ true
