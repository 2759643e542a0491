use Rattle.std.proofs.Common.{◌≡◌, ◌++◌, codes, take, string_bytes}
use Rattle.std.specs.List.{flat_map}
use Rattle.inspect.specs.CutSurvey.{risk_line}
use Rattle.inspect.proofs.looks.cuts_command.text_of.Given as goal

abbrev pub invariant-loop-risk : goal.invariant-loop-risk
invariant-loop-risk l = string_bytes l.out ≡ codes "crash cuts 1\n" ++ flat_map (risk_line l.plan) (take l.risk-index l.risks)
