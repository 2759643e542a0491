use Rattle.intervals.proofs.Reduced.{reduced_twice, agree_is_reduced}
use Rattle.intervals.proofs.bounds_laws.reduced_agree.Goals as goal

pub returns : goal.returns
returns c = λ x h. ((λ e. (reduced_twice x x h e).0.kind), (λ k. agree_is_reduced x h k))
