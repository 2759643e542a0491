use Rattle.std.proofs.Common.{map}
use Rattle.losses.proofs.Sames.{AreSame}
use Rattle.losses.proofs.why.same.same_of.Given as goal

abbrev pub invariant-loop-place : goal.invariant-loop-place
invariant-loop-place l = AreSame (map (λ o. o.now) l.fn.outcomes) l.fn.begin l.fn.places l.same.items l.place
