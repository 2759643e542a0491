use Rattle.std.proofs.Common.{◌≡◌, filter}
use Rattle.epochs.specs.declared.part.Part.{Part}
use Rattle.epochs.specs.Parts.{parts_before}
use Rattle.cases.specs.Risk.{is_at_risk}
use Rattle.cases.proofs.cut.parts_at_risk.Given as goal

abbrev pub invariant-loop-number : goal.invariant-loop-number
invariant-loop-number l = l.parts.items ≡ filter (λ (p : Part). is_at_risk l.fn.log.entries l.fn.cut p.entry) (parts_before l.fn.way l.fn.log.entries l.number)
