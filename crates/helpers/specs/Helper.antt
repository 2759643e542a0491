-- The helpers by their numbers (docs/MACHINE.md, Helpers).
use Rattle.std.specs.Prelude.{ℕ, ◌==◌, if◌then◌else◌, List, [], ◌∷◌, Option, Some}
use Rattle.std.specs.Option.{option_map, option_or}
use Rattle.helpers.specs.declared.helper.Answer.{Answer}
use Rattle.helpers.specs.declared.helper.Answer.TheVariants as answer
use Rattle.helpers.specs.declared.helper.Helper.{Helper}
use Rattle.helpers.specs.declared.helper.Helper.TheVariants as helper
use Rattle.helpers.specs.Queries.{query_of, query_for, query_arguments, query_kind}
use Rattle.helpers.specs.Sums.{checksum_of, polynomial_of}

abbrev pub helper_of : ℕ → Option Helper
helper_of n =
    if n == 2 then Some helper.Copy
    else if n == 3 then Some helper.Again
    else if n == 4 then Some helper.Report
    else option_map (λ q. helper.Query q) (query_of n)

-- what a program with guards asks for by a number, if it may; a checksum of its own bytes is that of the device, by its
-- arguments and what it may answer
abbrev pub summing_of : ℕ → Option Helper
summing_of n = option_map (λ c. helper.Query (query_for (polynomial_of c))) (checksum_of n)

abbrev pub asked_of : ℕ → Option Helper
asked_of n = option_or (helper_of n) (summing_of n)

-- the registers of its arguments
abbrev pub arguments : Helper → List ℕ
arguments helper.Copy = 1 ∷ 2 ∷ 3 ∷ []
arguments (helper.Query q) = query_arguments q
arguments _ = 1 ∷ []

-- what it may answer
abbrev pub answer_of : Helper → Answer
answer_of (helper.Query q) = query_kind q
answer_of _ = answer.UpTo 1
