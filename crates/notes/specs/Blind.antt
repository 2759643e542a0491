-- What is said of a program that passes without looking at what a log writes (docs/REFUSALS.md, Notes).
use Rattle.std.specs.Prelude.{ℕ, Bool, true, false, List, [], ◌∷◌, ◌+◌, ◌++◌, codes}
use Rattle.std.specs.Fmt.{decimal}

unfoldable pub whose_text : ℕ → List ℕ
whose_text program = codes "note: program " ++ decimal program

unfoldable pub blind_words : List ℕ
blind_words = codes ": looks at no sector that an entry writes, so no crash makes it fail\n"

-- of one program
abbrev pub blind_text : ℕ → Bool → List ℕ
blind_text program true = whose_text program ++ blind_words
blind_text program false = []

-- of the programs from that number on
abbrev pub blind_texts : ℕ → List Bool → List ℕ
blind_texts number [] = []
blind_texts number (b ∷ bs) = blind_text number b ++ blind_texts (number + 1) bs
