-- Keys of images (docs/CRASH-MODEL.md, Keys of images): a program, a context, and the sectors of an image that differ
-- from what a flush has made durable.
use Rattle.std.specs.Prelude.{ℕ, ◌+◌, ◌%◌, nat_eq, nat_lt, Bool, not, if◌then◌else◌, List, [], length, map, filter, sum_by, Option, Some, None}
use Rattle.std.specs.List.{slice_index_or, range_with_len}
use Rattle.std.specs.Cmp.Lexicographic.{pointwise}
use Rattle.lanes.specs.Sector.{mix}
use Rattle.logfmt.specs.Bounds.{LogValue}
use Rattle.epochs.specs.Units.{epoch_at, marks_at}
use Rattle.epochs.specs.Laws.{last_flush}
use Rattle.images.specs.Images.{crash_image}
use Rattle.images.specs.Views.{ViewValue, sectors_of}

-- the base of cut k: the image of all units of entries before its last flush entry, each whole. Without a flush
-- entry there is no such unit, and the base is what the device held before entry 0
unfoldable pub base_of : LogValue → ℕ → List (List ℕ)
base_of log k = crash_image log (last_flush log.entries k) []

-- the content of sector n
abbrev pub content_at : List (List ℕ) → ℕ → List ℕ
content_at image n = slice_index_or image n []

-- a sector of an image, with its content
pub record ChangedValue : Type 0 where
  pub number : ℕ
  pub content : List ℕ

-- sector n has another content than in the base
unfoldable pub differs : List (List ℕ) → List (List ℕ) → ℕ → Bool
differs base image n = not (pointwise nat_eq (content_at base n) (content_at image n))

-- a sector of an image as it stands in a key
abbrev pub with_content : List (List ℕ) → ℕ → ChangedValue
with_content image n = record { number = n; content = content_at image n }

-- of the first m sectors of an image those that differ from the base, rising, each with its content
unfoldable pub changed_below : List (List ℕ) → List (List ℕ) → ℕ → List ChangedValue
changed_below base image m = map (with_content image) (filter (differs base image) (range_with_len 0 m))

-- the sectors of an image that differ from the base
abbrev pub changed_sectors : List (List ℕ) → List (List ℕ) → List ChangedValue
changed_sectors base image = changed_below base image (length image)

-- the sectors in which a view differs from the base of its cut
abbrev pub changed_of : ViewValue → List ChangedValue
changed_of view = changed_sectors (base_of view.log view.cut) (sectors_of view)

-- how many sectors a key has at most
abbrev pub most_changed : ℕ
most_changed = 64

-- a key
pub record KeyValue : Type 0 where
  pub program : ℕ
  pub epoch : ℕ
  pub marks : ℕ
  pub changed : List ChangedValue

-- what tells a program and a view: the program, epoch and marks of the cut, and the changed sectors
abbrev pub identity_of : ViewValue → ℕ → KeyValue
identity_of view program = record {
  program = program;
  epoch = epoch_at view.log.entries view.cut;
  marks = marks_at view.log.entries view.cut;
  changed = changed_of view;
}

-- the key of a program and a view; there is none exactly where more sectors differ from the base than a key has
unfoldable pub key_of : ViewValue → ℕ → Option KeyValue
key_of view program =
    if nat_lt most_changed (length (changed_of view)) then None
    else Some (identity_of view program)

-- the key of the same image and of another program
abbrev pub with_program : KeyValue → ℕ → KeyValue
with_program key program = record { program = program; epoch = key.epoch; marks = key.marks; changed = key.changed }

-- the shard of a key: the mixes and the numbers of its sectors and the program, summed, modulo the number of shards
unfoldable pub shard_of : KeyValue → ℕ
shard_of key = (key.program + sum_by (λ (sector : ChangedValue). mix sector.content + sector.number) key.changed) % 16
