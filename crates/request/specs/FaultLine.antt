-- The line that a refusal prints (docs/REFUSALS.md, The line of a refusal).
use Rattle.std.specs.Prelude.{ℕ, List, [], ◌++◌, codes, Option, None, Some}
use Rattle.std.specs.Fmt.{decimal}
use Rattle.base.specs.declared.refusal.Refusal.{Refusal}
use Rattle.base.specs.Refusals.{cause_number}

abbrev pub program_part : Option ℕ → List ℕ
program_part None = []
program_part (Some number) = codes " of program " ++ decimal number

unfoldable pub fault_text : Refusal → List ℕ
fault_text r = codes "refused " ++ decimal (cause_number r.code) ++ codes " at " ++ decimal r.at ++ program_part r.program ++ codes "\n"
