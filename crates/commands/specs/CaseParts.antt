-- What `explore --bound any` prints is a text of cases, and the texts of ranges of cuts, joined, are what it prints of the whole range
-- (docs/COMMANDS.md, Joining parts).
use Rattle.std.specs.Prelude.{ℕ, ◌+◌, ◌≡◌, ◌==◌, ◌&&◌, ◌⊎◌, if◌then◌else◌, Bool, false, List, [], ◌∷◌, length, map, Option, None, Some, unwrap_or}
use Rattle.std.specs.List.{flat_map}
use Rattle.base.specs.declared.causes.JoinCause.TheVariants as cause
use Rattle.logfmt.specs.declared.entry.Entry.{Entry}
use Rattle.logfmt.specs.Bounds.{LogValue}
use Rattle.epochs.specs.declared.cuts.Cuts.{Cuts}
use Rattle.case_runs.specs.Cuts.{first_wanted, last_wanted, case_cuts}
use Rattle.request.specs.declared.any_losses.AnyLosses.{AnyLosses}
use Rattle.request.specs.declared.any_losses.LossWords.{LossWords}
use Rattle.request.specs.declared.command.OptionWords.{OptionWords}
use Rattle.request.specs.declared.command.Request.TheVariants as request
use Rattle.request.specs.declared.settings.CaseTelling.TheVariants as telling
use Rattle.request.specs.declared.settings.Settings.{Settings}
use Rattle.request.specs.AnyLosses.{losses_refusal}
use Rattle.request.specs.OptionWords.{AskFor}
use Rattle.request.specs.Source.{Recording, HasImages}
use Rattle.join.specs.declared.case_parts.fault.CasesFault.{CasesFault}
use Rattle.join.specs.declared.case_parts.fault.CasesFault.TheVariants as refused
use Rattle.join.specs.CaseTexts.{CasesValue, IsCasesText}
use Rattle.join.specs.CaseJoining.{RefusesCases, cuts_between}
use Rattle.join.specs.CaseLaws.{AskedRange, start_of}
use Rattle.inspect.specs.declared.looks.risks.CutRisk.{CutRisk}
use Rattle.inspect.specs.declared.looks.cut_layout.CutRange.{CutRange}
use Rattle.inspect.specs.CutLayout.{cut_part_count, cut_ranges}
use Rattle.inspect.specs.CutParts.{IsRange}
use Rattle.commands.specs.Acting.{Files, HoldsRecording, Answers}
use Rattle.commands.specs.OneAnswer.{alone}

-- What it prints of all failing cases is a text that `join` reads: the text of some cases, as a run can print it.
abbrev pub CasesAreText : Type 0
CasesAreText = (w : OptionWords) (l : LossWords) (files : Files) (bytes : List ℕ) (status : ℕ) → w.settings.first ≡ false → l.telling ≡ telling.Cases
    → Answers (request.Cases w l) files bytes status → (c : CasesValue) × IsCasesText bytes c

-- RANGES OF CUTS

-- the same words over a range of cuts
abbrev pub over : AskedRange → OptionWords → OptionWords
over x w = record w { settings = record w.settings { cuts = cuts_between w.settings.cuts x.from x.to } }

-- the last cut of a range, of a log of n entries
abbrev pub end_in : ℕ → AskedRange → ℕ
end_in n x = unwrap_or x.to n

-- a range as its run is asked for it: without --from and --to where it has all cuts of a log of n entries
abbrev pub as_asked : ℕ → AskedRange → AskedRange
as_asked n x = if (start_of x == 0) && (end_in n x == n) then record { from = None; to = None } else x

-- ranges that follow one another, from a cut on, of which the last ends as it is asked for
abbrev pub FollowTo : ℕ → ℕ → Option ℕ → List AskedRange → Type 0
FollowTo n from to [] = ⊥
FollowTo n from to (x ∷ []) = (start_of x ≡ from) × (x.to ≡ to)
FollowTo n from to (x ∷ y ∷ more) = (start_of x ≡ from) × FollowTo n (end_in n x + 1) to (y ∷ more)

-- the cuts of a range at which cases are looked for
abbrev pub cuts_over : Option ℕ → Cuts → List Entry → AskedRange → List ℕ
cuts_over at_most cuts es x = case_cuts at_most (cuts_between cuts x.from x.to) es

-- They are parts of a range: they follow one another from its first cut to its last one, and together they have its cuts.
pub record ArePartsOfRange (at_most : Option ℕ) (cuts : Cuts) (es : List Entry) (ranges : List AskedRange) (whole : AskedRange) : Type 0 where
  pub first : AskedRange
  pub others : List AskedRange
  pub are : ranges ≡ first ∷ others
  pub begins : first.from ≡ whole.from
  pub follow : FollowTo (length es) (start_of whole) whole.to ranges
  pub together : flat_map (cuts_over at_most cuts es) ranges ≡ cuts_over at_most cuts es whole

-- a range of a layout as its run is asked for it, and the range of all cuts that are wanted of a log of n entries
abbrev pub range_of : CutRange → AskedRange
range_of r = record { from = Some r.from; to = Some r.to }

abbrev pub wanted_range : Cuts → ℕ → AskedRange
wanted_range cuts n = record { from = Some (first_wanted cuts n); to = Some (last_wanted cuts n) }

-- The ranges in which `images --bound any --parts` lays a run out are parts of that range.
abbrev pub LaidOutRangesAreParts : Type 0
LaidOutRangesAreParts = (l : AnyLosses) (cuts : Cuts) (es : List Entry) (risks : List CutRisk) (parts : ℕ) → IsRange cuts (length es)
    → map (λ (r : CutRisk). r.cut) risks ≡ case_cuts l.at_most cuts es
    → ArePartsOfRange l.at_most cuts es
    (map range_of (cut_ranges (cut_part_count risks parts) (first_wanted cuts (length es)) (last_wanted cuts (length es)) risks))
    (wanted_range cuts (length es))

-- ON THE COMMAND LINE

-- `explore --bound any` prints this text of a range of cuts of a run, and ends with some status
abbrev pub PrintsRange : OptionWords → LossWords → Files → AskedRange → List ℕ → Type 0
PrintsRange w l files x t = (status : ℕ) × Answers (request.Cases (over x w) l) files t status

abbrev pub PrintRanges : OptionWords → LossWords → Files → List AskedRange → List (List ℕ) → Type 0
PrintRanges w l files [] [] = Unit {0}
PrintRanges w l files [] (t ∷ texts) = ⊥
PrintRanges w l files (x ∷ ranges) [] = ⊥
PrintRanges w l files (x ∷ ranges) (t ∷ texts) = PrintsRange w l files x t × PrintRanges w l files ranges texts

-- the words and the files are of a run that may be made
pub record AreOfRun (w : OptionWords) (files : Files) : Type 0 where
  pub settings : Settings
  pub asked : AskFor w settings
  pub log : Recording
  pub held : HoldsRecording files log
  pub value : LogValue
  pub source : HasImages log settings value

-- these files hold what `explore --bound any` prints for parts of a range of the cuts of a log of n entries
pub record HoldRanges (w : OptionWords) (l : LossWords) (files parts : Files) (whole : AskedRange) (n : ℕ) : Type 0 where
  pub ranges : List AskedRange
  pub texts : List (List ℕ)
  pub held : parts.named ≡ map Some texts
  pub prints : PrintRanges w l files ranges texts
  pub run : AreOfRun (over (as_asked n whole) w) files
  pub entries : n ≡ length run.value.entries
  pub of_range : ArePartsOfRange l.at_most run.settings.cuts run.value.entries ranges whole

-- Of such files `join` prints what `explore --bound any` prints of the whole range, with the same status, and so it does with --part. Where
-- the range has all cuts of the log that is what `explore` prints without --from and --to.
abbrev pub JoinIsExploreOfCases : Type 0
JoinIsExploreOfCases = (part : Bool) (w : OptionWords) (l : LossWords) (files parts : Files) (whole : AskedRange) (n : ℕ) (bytes : List ℕ) (status : ℕ) → w.settings.first ≡ false
    → l.telling ≡ telling.Cases → HoldRanges w l files parts whole n → Answers (request.Join part) parts bytes status
    → Answers (request.Cases (over (as_asked n whole) w) l) files bytes status

-- WITH WORDS OF THEIR OWN FOR THE WORKERS

-- `explore --bound any` prints this text of a range of cuts of a run, with words of its own for the number of workers, and with some status
pub record PrintsRangeByOwn (w : OptionWords) (l : LossWords) (files : Files) (x : AskedRange) (t : List ℕ) : Type 0 where
  pub own : OptionWords
  pub same : alone own ≡ alone (over x w)
  pub status : ℕ
  pub answers : Answers (request.Cases own l) files t status

abbrev pub PrintRangesByOwn : OptionWords → LossWords → Files → List AskedRange → List (List ℕ) → Type 0
PrintRangesByOwn w l files [] [] = Unit {0}
PrintRangesByOwn w l files [] (t ∷ texts) = ⊥
PrintRangesByOwn w l files (x ∷ ranges) [] = ⊥
PrintRangesByOwn w l files (x ∷ ranges) (t ∷ texts) = PrintsRangeByOwn w l files x t × PrintRangesByOwn w l files ranges texts

-- these files hold what `explore --bound any` prints so for parts of a range of the cuts of a log of n entries
pub record HoldRangesByOwn (w : OptionWords) (l : LossWords) (files parts : Files) (whole : AskedRange) (n : ℕ) : Type 0 where
  pub ranges : List AskedRange
  pub texts : List (List ℕ)
  pub held : parts.named ≡ map Some texts
  pub prints : PrintRangesByOwn w l files ranges texts
  pub run : AreOfRun (over (as_asked n whole) w) files
  pub good : losses_refusal l run.settings ≡ None
  pub entries : n ≡ length run.value.entries
  pub of_range : ArePartsOfRange l.at_most run.settings.cuts run.value.entries ranges whole

-- of such files `join` prints what `explore --bound any` prints of the whole range with any number of workers
abbrev pub JoinIsExploreOfCasesByOwn : Type 0
JoinIsExploreOfCasesByOwn = (part : Bool) (w : OptionWords) (l : LossWords) (files parts : Files) (whole : AskedRange) (n : ℕ) (bytes : List ℕ) (status : ℕ) → w.settings.first ≡ false
    → l.telling ≡ telling.Cases → HoldRangesByOwn w l files parts whole n → Answers (request.Join part) parts bytes status
    → Answers (request.Cases (over (as_asked n whole) w) l) files bytes status

-- WHEN THEY ARE NOT JOINED

-- for their length, for want of memory, or since they have more cases than a run may have
abbrev pub IsOfSize : CasesFault → Type 0
IsOfSize (refused.Part fault) = (fault.cause ≡ cause.TooLong) ⊎ (fault.cause ≡ cause.Memory)
IsOfSize (refused.TooMany file) = Unit {0}

-- such texts are refused for that alone, where the range has all cuts of the log, or may be a part of them
abbrev pub RangesOfRunAreJoined : Type 0
RangesOfRunAreJoined = (part : Bool) (w : OptionWords) (l : LossWords) (files parts : Files) (whole : AskedRange) (n : ℕ) (fault : CasesFault) → w.settings.first ≡ false → l.telling ≡ telling.Cases
    → (h : HoldRanges w l files parts whole n) → (part ≡ false → (start_of whole ≡ 0) × (end_in n whole ≡ n)) → RefusesCases part h.texts fault → IsOfSize fault
