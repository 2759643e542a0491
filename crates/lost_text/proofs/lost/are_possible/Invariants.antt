use Rattle.std.proofs.Common.{All, take}
use Rattle.choices.specs.declared.name.Name.{Name}
use Rattle.choices.specs.CrashModel.{IsFate}
use Rattle.lost_text.proofs.lost.are_possible.Given as goal

abbrev pub invariant-loop-name : goal.invariant-loop-name
invariant-loop-name l = All (λ (n : Name). IsFate l.tears n.fate) (take l.name-index l.names)
