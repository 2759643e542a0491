use Rattle.intervals.specs.Reducing.{reduction}
use Rattle.intervals.proofs.Reduced.{reduced_twice}
use Rattle.intervals.proofs.Smaller.{reduced_related}
use Rattle.intervals.proofs.Outcomes.{reduced_has, reduces_words, limits_from_settled}
use Rattle.intervals.proofs.bounds_laws.reducing_keeps.Goals as goal

pub returns : goal.returns
returns c =
    record {
      words = λ x a hx f. ((λ k. reduced_has x a hx k), (λ k. reduces_words x a hx k));
      shrinks = λ x y hx e. (reduced_twice x y hx e).0.within;
      idempotent = λ x y hx e. limits_from_settled x y (reduced_twice x y hx e).0;
      monotone = reduced_related;
    }
