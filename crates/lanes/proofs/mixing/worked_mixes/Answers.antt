use Rattle.std.proofs.Common.{refl}
use Rattle.lanes.specs.Sector.{mix, horner, column, word, one_word}
use Rattle.lanes.proofs.mixing.worked_mixes.Goals as goal

pub returns : goal.returns
unfolding mix horner column word one_word
returns c = record { zeros = refl; word_63 = refl; word_55 = refl; word_62 = refl; word_54 = refl }
