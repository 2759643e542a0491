-- The images on which a program fails, by the marks of the failing lines.
use Rattle.std.specs.Prelude.{ℕ, ◌==◌, if◌then◌else◌, List, [], ◌∷◌}
use Rattle.std.specs.List.{flat_map}
use Rattle.report.specs.declared.lines.marks.LineMark.{LineMark}

-- the image of a mark, if it is of that program
abbrev pub own_image : ℕ → LineMark → List ℕ
own_image program m = if m.program == program then m.image ∷ [] else []

abbrev pub images_marked : List LineMark → ℕ → List ℕ
images_marked ms program = flat_map (own_image program) ms
