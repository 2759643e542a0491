-- The bytes of a stack in aligned groups of eight (docs/VERIFIER.md, Abstract states).
use Rattle.std.specs.Prelude.{◌≡◌, ℕ, ◌+◌, ◌&&◌, if◌then◌else◌, Bool, false, List, [], ◌∷◌, replicate}
use Rattle.ranges.specs.Kinds.{Kind, Unset, Word, is_number, join, round}

-- two lists, element by element
unfoldable pub zip_with : {A B C : Type 0} → (A → B → C) → List A → List B → List C
zip_with f [] ys = []
zip_with f (x ∷ xs) [] = []
zip_with f (x ∷ xs) (y ∷ ys) = f x y ∷ zip_with f xs ys

-- a list, each element with its place; the first has place n
unfoldable pub map_places : {A B : Type 0} → (ℕ → A → B) → ℕ → List A → List B
map_places f n [] = []
map_places f n (x ∷ xs) = f n x ∷ map_places f (n + 1) xs

-- eight bytes: for each whether it is written, or a number or pointer that was spilled to all of them
pub data GroupKind : Type 0 where
  Marked : List Bool → GroupKind
  Spilled : Kind → GroupKind

abbrev pub unset_marks : List Bool
unset_marks = replicate 8 false

-- a value that is kept in eight bytes; what may be anything leaves them unset
abbrev pub group_kept : Kind → GroupKind
group_kept Unset = Marked unset_marks
group_kept Word = Marked unset_marks
group_kept k = Spilled k

-- what bytes that are known by marks are where a value is kept instead: all bytes of a number are
-- written, and those of a pointer become unset
abbrev pub marks_at_join : List Bool → Kind → List Bool
marks_at_join marks k = if is_number k then marks else unset_marks

-- bytes of different kinds become unset; spilled values join as values do
unfoldable pub join_group : GroupKind → GroupKind → GroupKind
join_group (Marked xs) (Marked ys) = Marked (zip_with (λ a b. a && b) xs ys)
join_group (Marked xs) (Spilled l) = Marked (marks_at_join xs l)
join_group (Spilled k) (Marked ys) = Marked (marks_at_join ys k)
join_group (Spilled k) (Spilled l) = group_kept (join k l)

unfoldable pub round_group : GroupKind → GroupKind
round_group (Marked xs) = Marked xs
round_group (Spilled k) = Spilled (round k)

-- the first holds all that the second does
abbrev pub GroupContains : GroupKind → GroupKind → Type 0
GroupContains g h = join_group g h ≡ g
