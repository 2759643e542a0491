-- What is told of the wanted cuts after their kind (docs/OUTPUT.md, The report).
use Rattle.std.specs.Prelude.{ℕ, List, [], ◌∷◌, ◌++◌, Option, None, Some, codes}
use Rattle.std.specs.Fmt.{decimal}
use Rattle.std.specs.List.{flat_map}
use Rattle.epochs.specs.declared.cuts.Cuts.{Cuts}
use Rattle.epochs.specs.Flushes.{places_of}

-- an entry that follows another
abbrev pub next_flush : ℕ → List ℕ
next_flush entry = codes "," ++ decimal entry

-- the entries before which a flush is added, joined by commas, where there are some
unfoldable pub flush_words : List ℕ → List ℕ
flush_words [] = []
flush_words (entry ∷ rest) = codes " flush " ++ decimal entry ++ flat_map next_flush rest

-- the first and the last cut that are wanted, each where it is given
abbrev pub from_words : Option ℕ → List ℕ
from_words None = []
from_words (Some cut) = codes " from " ++ decimal cut

abbrev pub to_words : Option ℕ → List ℕ
to_words None = []
to_words (Some cut) = codes " to " ++ decimal cut

-- the flushes that were added, and the range of the cuts
unfoldable pub cuts_words : Cuts → List ℕ
cuts_words cuts = flush_words (places_of cuts.flushes) ++ from_words cuts.from ++ to_words cuts.to
