-- The order of a part's lines, by what the text says of each.
use Rattle.std.specs.Prelude.{ℕ, ◌==◌, Bool, true, ◌&&◌, ◌||◌, nat_lt, nat_le, List, [], ◌∷◌, Option, None, Some}
use Rattle.report.specs.declared.lines.marks.LineMark.{LineMark}

-- a line stands after another: by image, and then by program
abbrev pub is_after : LineMark → LineMark → Bool
is_after last m = nat_lt last.image m.image || (last.image == m.image && nat_lt last.program m.program)

abbrev pub follows : Option LineMark → LineMark → Bool
follows None m = true
follows (Some last) m = is_after last m

-- lines of images from `from` to below `to`, each after the one before it, after a line `last`
abbrev pub in_order : ℕ → ℕ → Option LineMark → List LineMark → Bool
in_order from to last [] = true
in_order from to last (m ∷ ms) = (nat_le from m.image && nat_lt m.image to && follows last m) && in_order from to (Some m) ms
