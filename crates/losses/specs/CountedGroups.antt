-- Groups of failing images with their numbers.
use Rattle.std.specs.Prelude.{ℕ, ◌≡◌, ◌+◌, ◌==◌, Bool, not, ◌||◌, bytes_eq, List, [], length, map, filter}
use Rattle.std.specs.List.{slice_index_or, range_with_len, list_all}
use Rattle.losses.specs.Folded.{AreFolded}
use Rattle.losses.specs.declared.why.group.FailingGroup.{FailingGroup}

-- how often a number stands in a list
abbrev pub times : ℕ → List ℕ → ℕ
times k ns = length (filter (λ (n : ℕ). n == k) ns)

-- what the program ends in on the failing image of a number
abbrev pub ends_at : List (List ℕ) → ℕ → List ℕ
ends_at outcomes line = slice_index_or outcomes line []

-- it ends alike on both
abbrev pub ends_alike : List (List ℕ) → ℕ → ℕ → Bool
ends_alike outcomes i j = bytes_eq (ends_at outcomes i) (ends_at outcomes j)

-- an image that stands under another ends as that one does, where the first image has the number `begin`
abbrev pub ends_as : List (List ℕ) → ℕ → List ℕ → ℕ → ℕ → Bool
ends_as outcomes begin places k i = not (slice_index_or places i 0 == k) || ends_alike outcomes (begin + i) (begin + k)

-- all images that stand under one do
abbrev pub same_at : List (List ℕ) → ℕ → List ℕ → ℕ → Bool
same_at outcomes begin places k = list_all (ends_as outcomes begin places k) (range_with_len 0 (length places))

-- the group of the image at a place, where each image stands under the one at its place in `places`
abbrev pub group_at : List (List ℕ) → ℕ → List ℕ → List ℕ → ℕ → FailingGroup
group_at outcomes begin images places k = record {
  image = slice_index_or images k 0;
  line = begin + k;
  failing = times k places;
  same = same_at outcomes begin places k;
}

abbrev pub has_images : FailingGroup → Bool
has_images g = not (g.failing == 0)

-- the groups in which images stand
abbrev pub groups_of : List (List ℕ) → ℕ → List ℕ → List ℕ → List FailingGroup
groups_of outcomes begin images places = filter has_images (map (group_at outcomes begin images places) (range_with_len 0 (length images)))

-- The groups of images with those choices, of which the first has the outcome of number `begin`: each image stands under the
-- example of the first of these choices that is a part of its own.
pub record AreGrouped (outcomes : List (List ℕ)) (begin : ℕ) (images : List ℕ) (cs : List (List ℕ)) (groups : List FailingGroup) : Type 0 where
  pub places : List ℕ
  pub folded : AreFolded cs places
  pub listed : groups ≡ groups_of outcomes begin images places
