use Rattle.std.proofs.Common.{refl, sym}
use Rattle.known.proofs.contradict.are_alike_past.Goals as goal

pub returns-then-differ_at : goal.returns-then-differ_at
returns-then-differ_at c = sym (c.if-differ_at.ensures refl)
