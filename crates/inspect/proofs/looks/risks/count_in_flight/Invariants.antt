use Rattle.std.proofs.Common.{◌≡◌, ◌≤◌, take, count_by}
use Rattle.epochs.specs.declared.part.Part.{Part}
use Rattle.crash_text.specs.AnyShown.{is_in_flight}
use Rattle.inspect.proofs.looks.risks.count_in_flight.Given as goal

abbrev pub invariant-loop-part : goal.invariant-loop-part
invariant-loop-part l = (l.count ≡ count_by (λ (p : Part). is_in_flight l.entries l.cut p.entry) (take l.part-index l.parts)) × (l.count ≤ l.part-index)
