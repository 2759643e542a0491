use Rattle.std.proofs.Common.{ℕ, ◌≢◌, List, ◌++◌, rules}
use Rattle.join.proofs.CaseOpenings.{no_opening}
use Rattle.join.proofs.case_parts.opening.read_opening.Goals as goal

pub returns : goal.returns
returns c =
    let lack : (rest : List ℕ) → c.args.text.now ≢ c.as_str.result.now ++ rest = rw c.in-None.is at c.beyond.ensures in
    no_opening c.args.text.now c.as_str.result.now c.inputs_said-inputs.result c.inputs_said-inputs.ensures.read (search rules) lack
