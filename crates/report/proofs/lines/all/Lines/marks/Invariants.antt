use Rattle.std.proofs.Common.{drop, map, string_bytes}
use Rattle.report.proofs.Texts.{AreRead}
use Rattle.report.proofs.lines.all.Lines.marks.Given as goal

abbrev pub invariant-loop-text : goal.invariant-loop-text
invariant-loop-text l = AreRead (map (λ t. string_bytes t) (drop l.text-index l.text-items)) l.self l.marks.items
