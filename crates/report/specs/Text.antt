-- Words as they stand at the head of the report (docs/OUTPUT.md).
use Rattle.std.specs.Prelude.{ℕ, Bool, true, false, List, [], codes}
use Rattle.epochs.specs.declared.part.By.{By}
use Rattle.epochs.specs.declared.part.By.TheVariants as by
use Rattle.epochs.specs.declared.cuts.CutKind.{CutKind}
use Rattle.epochs.specs.declared.cuts.CutKind.TheVariants.{All, BeforeFlush, AfterMark}

abbrev pub yes_or_no : Bool → List ℕ
yes_or_no true = codes "yes"
yes_or_no false = codes "no"

abbrev pub cuts_word : CutKind → List ℕ
cuts_word All = codes "all"
cuts_word BeforeFlush = codes "flush"
cuts_word AfterMark = codes "mark"

-- what departs as one, where it isn't a sector
abbrev pub by_words : By → List ℕ
by_words by.Sector = []
by_words by.Write = codes " by write"
