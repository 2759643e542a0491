-- A checker as a program that judges cases, and what a run of it on the image of a case's representative tells.
use Rattle.std.specs.Prelude.{ℕ, ◌≡◌, ◌==◌, Bool, if◌then◌else◌, List, [], length, Option, None, Some}
use Rattle.std.specs.List.{range_with_len}
use Rattle.helpers.specs.declared.device.Context.{Context}
use Rattle.machine.specs.Outcome.{OutOfSteps}
use Rattle.interp.specs.Ending.{ending_of}
use Rattle.checker.specs.Checker.{CheckerValue, judgement}
use Rattle.checker.specs.Footprints.{kept_footprint}
use Rattle.cases.specs.declared.split.Parted.{Parted}
use Rattle.cases.specs.Cases.{first_split}
use Rattle.cases.specs.Trees.{Program}
use Rattle.cases.specs.AtCut.{CutValue, parts_of, case_of, image_of, IsFound}
use Rattle.case_runs.specs.declared.runs.Looked.{Looked}
use Rattle.interp.specs.declared.outcome.Outcome.{Outcome}
use Rattle.case_runs.specs.Images.{ImageValue, sectors_in}

-- how many sectors of a footprint are kept: as many as a device has within the usual limits
abbrev pub most_looks : ℕ
most_looks = 16384

-- a list of sectors, or all of a device
abbrev pub or_all : List (List ℕ) → Option (List ℕ) → List ℕ
or_all device None = range_with_len 0 (length device)
or_all device (Some sectors) = sectors

-- At which sectors a checker looks on a device, each once, by its first look; where these are too many all sectors of the device, which
-- are then taken to be looked at.
unfoldable pub looks : CheckerValue → Context → List (List ℕ) → List ℕ
looks checker context device = or_all device (kept_footprint most_looks checker device context).sectors

-- a checker as a program, on devices of the size that its context tells of; on others it isn't run
abbrev pub program_of : CheckerValue → Context → Program
program_of checker context = record {
  ending = λ device. if length device == context.sectors then judgement checker device context else OutOfSteps;
  footprint = λ device. if length device == context.sectors then looks checker context device else [];
}

-- the part that splits a case, of some sectors
abbrev pub IsSplitAt : CutValue → Bool → List ℕ → Option Parted → List ℕ → Type 0
IsSplitAt at tears sets found sectors = IsFound (parts_of at) found (first_split at.log at.way at.cut (case_of tears (parts_of at) sets) sectors)

-- at which sectors a checker looked: at these, or at all of a device of that many
abbrev pub looked_in : ℕ → Looked → List ℕ
looked_in count looked = if looked.all then range_with_len 0 count else looked.sectors.items

-- a run of a checker on an image
pub record RunsSo (checker : CheckerValue) (context : Context) (v : ImageValue) (outcome : Outcome) (looked : Looked) : Type 0 where
  pub ending : ending_of outcome ≡ judgement checker (sectors_in v) context
  pub sectors : looked_in v.at.log.sectors looked ≡ looks checker context (sectors_in v)

-- a run of a program on the image of a case's representative
pub record JudgesSo (program : Program) (at : CutValue) (tears : Bool) (sets : List ℕ) (outcome : Outcome) (looked : List ℕ) : Type 0 where
  pub ending : ending_of outcome ≡ program.ending (image_of at (case_of tears (parts_of at) sets))
  pub sectors : looked ≡ program.footprint (image_of at (case_of tears (parts_of at) sets))
