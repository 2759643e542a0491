-- The size of a device by what it held before (docs/COMMANDS.md, Options).
use Rattle.std.specs.Prelude.{ℕ, ◌≡◌, ◌≤◌, ◌*◌, ◌/◌, List, length, take, Option, None, Some}
use Rattle.base.specs.Sizes.{sector_limit}
use Rattle.base.specs.declared.limits.Limits.{Limits}
use Rattle.input_files.specs.Kinds.{base_read}

-- how many whole sectors the file after --base holds; none where none is named, or it can't be read
abbrev pub base_sectors : Option (Option (List ℕ)) → Option ℕ
base_sectors None = None
base_sectors (Some None) = None
base_sectors (Some (Some bytes)) = Some (length bytes / 512)

-- of a file of whole sectors, as many as a device within the limits may have, the same is read for the largest device as for one of the
-- file's size: all of it
abbrev pub BaseIsReadAlike : Type 0
BaseIsReadAlike =
    (limits : Limits) (sectors : ℕ) (bytes : List ℕ) → length bytes ≡ 512 * sectors → sectors ≤ sector_limit limits
    → (take (base_read (sector_limit limits) limits) bytes ≡ bytes) × (take (base_read sectors limits) bytes ≡ bytes)
