-- Records of a program, and which image a record tells.
use Rattle.std.specs.Prelude.{ℕ, ◌≡◌, ◌<◌, ◌≤◌, ◌==◌, nat_eq, Bool, true, false, not, ◌&&◌, List, [], length, map, filter, slice_index_or, slice_get, Option, None, Some, All}
use Rattle.std.specs.List.{list_all, list_any, find}
use Rattle.std.specs.Option.{option_map_or}
use Rattle.std.specs.Cmp.Lexicographic.{pointwise}
use Rattle.logfmt.specs.Bounds.{LogValue}
use Rattle.epochs.specs.declared.part.By.{By}
use Rattle.machine.specs.Outcome.{Ending}
use Rattle.cases.specs.Trees.{Program}
use Rattle.cases.specs.AtCut.{CutValue, parts_of, case_of, image_of}
use Rattle.known.specs.declared.run.KnownRun.{KnownRun}
use Rattle.known.specs.declared.records.Looked.{Looked}
use Rattle.known.specs.declared.records.KeptRun.{KeptRun}
use Rattle.known.specs.declared.run.RunEnd.{RunEnd}
use Rattle.known.specs.Ends.{ending_of, open_ending, same_end}

-- records, of a log and of what departs as one
pub record RecordsValue : Type 0 where
  pub log : LogValue
  pub way : By
  pub runs : List KnownRun

-- the image of a record: that of its cut and its choice
abbrev pub cut_of_run : LogValue → By → KnownRun → CutValue
cut_of_run log way r = record { log = log; way = way; cut = r.cut }

abbrev pub image_of_run : LogValue → By → KnownRun → List (List ℕ)
image_of_run log way r = image_of (cut_of_run log way r) (case_of true (parts_of (cut_of_run log way r)) r.sets.items)

-- a record is one of a log: of one of its cuts, with a set for each part at risk there, and of sectors of the device
pub record IsRun (log : LogValue) (way : By) (r : KnownRun) : Type 0 where
  pub within : r.cut ≤ length log.entries
  pub each : length r.sets.items ≡ length (parts_of (cut_of_run log way r))
  pub device : All (λ s. s < log.sectors) r.looked.items

-- two devices have the same bytes in a sector, or neither has it
abbrev pub same_sector : Option (List ℕ) → Option (List ℕ) → Bool
same_sector None None = true
same_sector None (Some other) = false
same_sector (Some one) None = false
same_sector (Some one) (Some other) = pointwise nat_eq one other

-- they have the same bytes in each of some sectors
abbrev pub agree : List (List ℕ) → List (List ℕ) → List ℕ → Bool
agree device other sectors = list_all (λ s. same_sector (slice_get device s) (slice_get other s)) sectors

-- A record tells each image after as many marks that has the same bytes in each sector at which the program looked.
unfoldable pub tells : LogValue → By → ℕ → List (List ℕ) → KnownRun → Bool
tells log way marks device r = (r.marks == marks) && agree (image_of_run log way r) device r.looked.items

-- the first of some records that tells an image
abbrev pub first_telling : LogValue → By → ℕ → List (List ℕ) → List KnownRun → Option KnownRun
first_telling log way marks device runs = find (tells log way marks device) runs

-- how the program ends by a record, or that none tells, and at which sectors it looks then
abbrev pub told_ending : Option KnownRun → Ending
told_ending None = open_ending
told_ending (Some r) = ending_of r.end

abbrev pub told_looks : Option KnownRun → List ℕ
told_looks None = []
told_looks (Some r) = r.looked.items

-- Records as a program, by how many marks came before. On a device that none of them tells it ends open, and it looks at no sector.
abbrev pub program_of : RecordsValue → ℕ → Program
program_of v marks = record {
  ending = λ device. told_ending (first_telling v.log v.way marks device v.runs);
  footprint = λ device. told_looks (first_telling v.log v.way marks device v.runs);
}

-- the sectors that stand in both lists
abbrev pub in_both : List ℕ → List ℕ → List ℕ
in_both sectors others = filter (λ s. list_any (λ other. s == other) others) sectors

-- Two records contradict each other: after as many marks the program ended otherwise, and the images have the same bytes in each sector
-- at which it looked on both.
unfoldable pub contradict : LogValue → By → KnownRun → KnownRun → Bool
contradict log way r t =
    (r.marks == t.marks) && (not (same_end r.end t.end) && agree (image_of_run log way r) (image_of_run log way t) (in_both r.looked.items t.looked.items))

-- whether the record at a place tells an image
abbrev pub tells_at : RecordsValue → ℕ → List (List ℕ) → ℕ → Bool
tells_at v marks device place = option_map_or (tells v.log v.way marks device) (slice_get v.runs place) false

-- the bytes of a sector of a record's image, as they are kept
abbrev pub looked_at : List (List ℕ) → ℕ → Looked
looked_at image s = record { number = s; bytes = slice_index_or image s [] }

-- those of all sectors at which the program looked
abbrev pub sectors_of_run : LogValue → By → KnownRun → List Looked
sectors_of_run log way r = map (looked_at (image_of_run log way r)) r.looked.items

-- a device has the bytes of a kept sector
abbrev pub is_there : List (List ℕ) → Looked → Bool
is_there device k = same_sector (Some k.bytes) (slice_get device k.number)

-- what is kept of a record
pub record KeptValue : Type 0 where
  pub marks : ℕ
  pub end : RunEnd
  pub sectors : List Looked

abbrev pub kept_value : KeptRun → KeptValue
kept_value k = record { marks = k.marks; end = k.end; sectors = k.sectors.items }

abbrev pub kept_of_run : LogValue → By → KnownRun → KeptValue
kept_of_run log way r = record { marks = r.marks; end = r.end; sectors = sectors_of_run log way r }

abbrev pub kept_tells : ℕ → List (List ℕ) → KeptValue → Bool
kept_tells marks device k = (k.marks == marks) && list_all (is_there device) k.sectors

-- all of some records
pub record AreRecords (v : RecordsValue) (kept : List KeptRun) : Type 0 where
  pub runs : All (IsRun v.log v.way) v.runs
  pub those : map kept_value kept ≡ map (kept_of_run v.log v.way) v.runs
