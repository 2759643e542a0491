use Rattle.std.proofs.Common.{◌≡◌, ◌∙◌, sym, ap, subst, Option, None, Some}
use Rattle.std.specs.Option.{IsSomeAnd}
use Rattle.intervals.specs.Spans.{Span}
use Rattle.intervals.specs.SignedSpans.{SignedSpan}
use Rattle.intervals.specs.Reducing.{Limits, limits, reduction, IsLimits}
use Rattle.intervals.specs.SignedRounding.{round_limits}
use Rattle.intervals.specs.SeenBounds.{limits_of}
use Rattle.intervals.proofs.SignedDigits.{IsRounded, rounded_there}
use Rattle.intervals.proofs.Typed.{limits_are}
use Rattle.intervals.proofs.bounds.Bounds.round.Goals as goal

there : (x : Limits) (u : Span) (s : SignedSpan) (r : Option Limits) → IsLimits x → u ≡ (round_limits x).unsigned → s ≡ (round_limits x).signed
    → r ≡ reduction (limits u s) → IsSomeAnd r (λ y. IsRounded x y)
there x u s r h p q e = rounded_there x h r (e ∙ ap (λ v. reduction (limits v s)) p ∙ ap (λ t. reduction (limits (round_limits x).unsigned t)) q)

pub unreachable-requires : goal.unreachable-requires
unreachable-requires c =
    there (limits_of c.args.self) _ _ None (limits_are c.args.self) c.round.ensures.nearest c.round-2.ensures c.in-None.ensures

pub returns-clause-nearest : goal.returns-clause-nearest
returns-clause-nearest c =
    let k = there (limits_of c.args.self) _ _ (Some (limits_of c.in-Some.bounds)) (limits_are c.args.self) c.round.ensures.nearest c.round-2.ensures c.in-Some.ensures in
    sym k.rounded_is

pub returns-clause-contains : goal.returns-clause-contains
returns-clause-contains c =
    let k = there (limits_of c.args.self) _ _ (Some (limits_of c.in-Some.bounds)) (limits_are c.args.self) c.round.ensures.nearest c.round-2.ensures c.in-Some.ensures in
    k.within
