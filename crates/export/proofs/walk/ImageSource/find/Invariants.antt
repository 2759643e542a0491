use Rattle.std.proofs.Common.{nat_eq}
use Rattle.std.specs.HashMap.{get}
use Rattle.export.specs.Kept.{AreOthers, firsts}
use Rattle.export.proofs.walk.ImageSource.find.Given as goal

abbrev pub invariant-loop-step : goal.invariant-loop-step
invariant-loop-step l = AreOthers l.self l.place (firsts (get nat_eq l.places)) l.step
