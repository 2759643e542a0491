use Rattle.std.proofs.Common.{rules}
use Rattle.std.specs.Option.{option_map}
use Rattle.plain.specs.Guards.{GuardsValue}
use Rattle.checker.specs.Checker.{CheckerValue}
use Rattle.checker.proofs.Verified.{ends_verified}
use Rattle.checker.proofs.checker.Checker.judge_unguarded.Goals as goal

pub run_plain-requires : goal.run_plain-requires
run_plain-requires g c =
    let inside = c.self.inside in
    let checker : CheckerValue = record { program = inside.program.now; limit = inside.limit; verified = inside.verified; guards = option_map (λ (g : GuardsValue). inside.count) inside.guarded } in
    (search rules, ends_verified c.accepted_runs_safely.ensures checker inside.guarded _ _ _ c.in-Some.is (rw (← c.self.view_is) at c.requires.unguarded) c.self.invariant (rw (← c.self.view_is) at c.requires.image))
