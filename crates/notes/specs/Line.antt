-- The line of a note (docs/REFUSALS.md, Notes).
use Rattle.std.specs.Prelude.{ℕ, List, [], ◌∷◌, ◌++◌, codes}

abbrev pub note_line : List ℕ → List ℕ
note_line text = codes "note: " ++ text ++ codes "\n"

-- what is wrong, and what helps, if anything is known
abbrev pub cure_note : List ℕ → List ℕ
cure_note [] = []
cure_note (c ∷ cure) = note_line (c ∷ cure)

abbrev pub refused_notes : List ℕ → List ℕ → List ℕ
refused_notes rule cure = note_line rule ++ cure_note cure
