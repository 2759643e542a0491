-- The sectors in which an image differs from a base, over images as functions from sectors to contents, and what is known
-- of a cut.
use Rattle.std.specs.Prelude.{ℕ, zero, suc, ◌+◌, ◌≡◌, ◌≤◌, ◌==◌, nat_eq, nat_le, nat_lt, ◌&&◌, if◌then◌else◌, List, [], ◌++◌, length, Option, Some, None}
use Rattle.std.specs.Option.{option_to_list}
use Rattle.std.specs.Cmp.Lexicographic.{pointwise}
use Rattle.logfmt.specs.Bounds.{LogValue}
use Rattle.epochs.specs.declared.unit.Unit.{Unit as LogUnit}
use Rattle.epochs.specs.Units.{units_before, epoch_at}
use Rattle.epochs.specs.Laws.{last_flush}
use Rattle.images.specs.Images.{sector_after}
use Rattle.images.specs.Views.{ViewValue}
use Rattle.images.specs.Keys.{ChangedValue}

-- sector n of an image, where it differs from that of the base
unfoldable pub change_at : (ℕ → List ℕ) → (ℕ → List ℕ) → ℕ → Option ChangedValue
change_at base image n = if pointwise nat_eq (base n) (image n) then None else Some (record { number = n; content = image n })

-- of k sectors from a on those that differ, rising
unfoldable pub changes : (ℕ → List ℕ) → (ℕ → List ℕ) → ℕ → ℕ → List ChangedValue
changes base image a zero = []
changes base image a (suc k) = option_to_list (change_at base image a) ++ changes base image (a + 1) k

-- an image with another content of sector s
abbrev pub with_sector : (ℕ → List ℕ) → ℕ → List ℕ → ℕ → List ℕ
with_sector image s content n = if n == s then content else image n

-- an image with the content of another in that many sectors from one on
abbrev pub with_sectors : (ℕ → List ℕ) → ℕ → ℕ → (ℕ → List ℕ) → ℕ → List ℕ
with_sectors image first count other n = if nat_le first n && nat_lt n (first + count) then other n else image n

-- the image of a cut where nothing departs
abbrev pub whole_image : LogValue → ℕ → ℕ → List ℕ
whole_image log cut n = sector_after log (units_before log.entries cut) [] n

-- the image of a view
abbrev pub image_of : ViewValue → ℕ → List ℕ
image_of view n = sector_after view.log (units_before view.log.entries view.cut) view.departures n

-- the sectors in which what units leave, where nothing departs, differs from the image of a cut
abbrev pub changes_by : LogValue → ℕ → List LogUnit → List ChangedValue
changes_by log first us = changes (whole_image log first) (sector_after log us []) 0 log.sectors

-- the sectors in which the image of a cut, where nothing departs, differs from that of an earlier one
unfoldable pub changes_between : LogValue → ℕ → ℕ → List ChangedValue
changes_between log first cut = changes_by log first (units_before log.entries cut)

-- what is known of a cut: its epoch, its last flush entry, and the sectors in which its image, where nothing departs,
-- differs from the base
pub record IsKnown (log : LogValue) (epoch flush cut : ℕ) (sectors : List ChangedValue) : Type 0 where
  pub within : cut ≤ length log.entries
  pub told : epoch ≡ epoch_at log.entries cut
  pub last : flush ≡ last_flush log.entries cut
  pub listed : sectors ≡ changes_between log flush cut
