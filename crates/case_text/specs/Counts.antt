-- How the totals are counted, program by program.
use Rattle.std.specs.Prelude.{◌+◌, List, [], ◌∷◌, length}
use Rattle.losses.specs.declared.found.CaseFindings.{CaseFindings}
use Rattle.case_text.specs.declared.totals.Totals.{Totals}
use Rattle.case_text.specs.Text.{in_word}

-- some totals, and what was found with one more program
abbrev pub with_found : Totals → CaseFindings → Totals
with_found t f = record {
  cases = in_word (t.cases + f.cases);
  failing = in_word (t.failing + length f.failing.items);
  torn_beyond = in_word (t.torn_beyond + f.torn_beyond);
  lost_beyond = in_word (t.lost_beyond + f.lost_beyond);
}

-- and with more, one after the other
abbrev pub with_all : Totals → List CaseFindings → Totals
with_all t [] = t
with_all t (f ∷ found) = with_all (with_found t f) found
