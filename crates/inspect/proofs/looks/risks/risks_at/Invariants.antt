use Rattle.std.proofs.Common.{ℕ, ◌≡◌, map, take}
use Rattle.inspect.specs.CutSurvey.{risk_at}
use Rattle.inspect.proofs.looks.risks.risks_at.Given as goal

abbrev pub invariant-loop-cut : goal.invariant-loop-cut
invariant-loop-cut l = l.risks.items ≡ map (λ (cut : ℕ). risk_at (record { log = l.log; way = l.by; cut = cut })) (take l.cut-index l.cuts)
