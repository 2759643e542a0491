use Rattle.std.proofs.Common.{ℕ, sym, subst}
use Rattle.choices.specs.Picked.{IsRanked}
use Rattle.workers.specs.Failing.{Subject}
use Rattle.workers.proofs.input.Input.choice_by.Goals as goal

pub choice-requires : goal.choice-requires
choice-requires c =
    let (n, here) = subst (λ (s : Subject). (n : ℕ) × IsRanked s.plan s.bound s.tears n c.args.picked.now) (sym c.self.view_is) c.requires in
    (_, _, n, here)
