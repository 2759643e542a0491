use Rattle.std.proofs.Common.{◌∙◌, rules, sym, ap}
use Rattle.std.specs.Option.{option_map}
use Rattle.plain.specs.Guards.{GuardsValue}
use Rattle.checker.specs.Checker.{CheckerValue}
use Rattle.checker.proofs.Serving.{served_there}
use Rattle.checker.proofs.Verified.{ends_guarded}
use Rattle.checker.proofs.checker.Checker.judge_noted.Goals as goal

pub run_guarded_in-requires : goal.run_guarded_in-requires
run_guarded_in-requires g c =
    let inside = c.self.inside in
    let checker : CheckerValue = record { program = inside.program.now; limit = inside.limit; verified = inside.verified; guards = option_map (λ (g : GuardsValue). inside.count) inside.guarded } in
    let guards = sym (ap (λ (v : CheckerValue). v.guards) c.self.view_is) ∙ ap (option_map (λ (g : GuardsValue). inside.count)) c.in-Some.is in (
      search rules,
      (
        served_there c.args.memory.now c.args.self.now.guards inside.count guards c.requires.served,
        ends_guarded c.guarded_runs_safely.ensures checker inside.guarded c.in-Some.guarded _ _ c.in-Some.is c.self.invariant (rw (← c.self.view_is) at c.requires.image),
      ),
    )
