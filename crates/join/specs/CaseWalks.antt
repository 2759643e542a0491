-- Walks over two lists of parts that rise: where a part of the one may stand among those of the other.
use Rattle.std.specs.Prelude.{◌==◌, Bool, false, if◌then◌else◌, List, [], ◌∷◌, Option, None, Some, slice_get}
use Rattle.std.specs.Option.{option_map_or}
use Rattle.choices.specs.declared.fate.Fate.{Fate}
use Rattle.choices.specs.declared.name.Name.{Name}
use Rattle.join.specs.declared.case_parts.names.PartName.{PartName}
use Rattle.join.specs.CaseTexts.{MixedPart, part_of, is_before, is_named_alike, fate_number}

-- what is left of some things that have a part, without the first ones before this part
abbrev pub from_part : {A : Type 0} → (A → PartName) → PartName → List A → List A
from_part part p [] = []
from_part part p (x ∷ xs) = if is_before (part x) p then from_part part p xs else x ∷ xs

-- the first of some is that part
abbrev pub begins_with : List PartName → PartName → Bool
begins_with [] p = false
begins_with (q ∷ qs) p = is_named_alike p q

-- what becomes of a part, where the first of some names is its name
abbrev pub first_fate : List Name → PartName → Option Fate
first_fate [] p = None
first_fate (n ∷ ns) p = if is_named_alike p (part_of n) then Some n.fate else None

-- that is the first fate of a part
abbrev pub is_first_of : Option Fate → MixedPart → Bool
is_first_of fate m = option_map_or (λ (f : Option Fate). fate_number f == fate_number fate) (slice_get m.fates 0) false
