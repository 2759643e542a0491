-- What is said of cases that a clean run left out (docs/REFUSALS.md, Notes).
use Rattle.std.specs.Prelude.{ℕ, List, ◌++◌, codes}
use Rattle.std.specs.Fmt.{decimal}

unfoldable pub left_most : ℕ → List ℕ
left_most most = decimal most ++ codes " are left out: "

unfoldable pub left_count : ℕ → List ℕ
left_count count = decimal count ++ codes "\n"

abbrev pub left_words : ℕ → ℕ → List ℕ
left_words most count = left_most most ++ left_count count

unfoldable pub torn_words : List ℕ
torn_words = codes "note: cases with more torn parts than "

abbrev pub torn_text : ℕ → ℕ → List ℕ
torn_text most count = torn_words ++ left_words most count

unfoldable pub lost_words : List ℕ
lost_words = codes "note: cases with more lost or torn parts than "

abbrev pub lost_text : ℕ → ℕ → List ℕ
lost_text most count = lost_words ++ left_words most count

unfoldable pub covered_words : List ℕ
covered_words = codes "note: every loss is covered, with at most "

unfoldable pub torn_parts : ℕ → List ℕ
torn_parts most = decimal most ++ codes " of the parts torn\n"

abbrev pub covered_text : ℕ → List ℕ
covered_text most = covered_words ++ torn_parts most
