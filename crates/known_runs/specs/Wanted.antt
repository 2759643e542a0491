-- The images that are wanted: those of the representatives of open cases, in the order of the search. They are told in the form of `export`
-- (docs/OUTPUT.md, The text of `export`), each by what differs from the last that was new. They have places from 0.
use Rattle.std.specs.Prelude.{ℕ, zero, suc, ◌≡◌, ◌==◌, ◌≤◌, ◌^◌, nat_eq, Bool, ◌&&◌, if◌then◌else◌, List, [], ◌++◌, length, map, filter, count_by, slice_get, slice_index_or, Option, Some, None}
use Rattle.std.specs.List.{range_with_len, flat_map}
use Rattle.std.specs.Option.{is_none}
use Rattle.std.specs.Cmp.Lexicographic.{pointwise}
use Rattle.logfmt.specs.Bounds.{LogValue}
use Rattle.epochs.specs.declared.part.By.{By}
use Rattle.epochs.specs.Units.{epoch_at, marks_at}
use Rattle.cases.specs.AtCut.{parts_of, case_of}
use Rattle.cases.specs.Cases.{Case, representative}
use Rattle.cases.specs.Choices.{departures}
use Rattle.images.specs.Views.{ViewValue, sectors_of}
use Rattle.images.specs.Keys.{changed_sectors}
use Rattle.report.specs.ChoiceText.{departures_text}
use Rattle.export.specs.Export.{total_text}
use Rattle.export.specs.Kept.{place_text, new_text, same_text}
use Rattle.request.specs.Inputs.{number_line}
use Rattle.request.specs.Source.{HasImages}
use Rattle.known.specs.declared.found.OpenCase.{OpenCase}
use Rattle.known.specs.declared.found.KnownAt.{KnownAt}
use Rattle.known_text.specs.Texts.{HeadValue}
use Rattle.known_runs.specs.Asked.{KnownAsked}
use Rattle.known_runs.specs.Number.{source_of}
use Rattle.known_runs.specs.Told.{FindsKnown}

-- an open case, by its cut and what it leaves each part
pub record WantedValue : Type 0 where
  pub cut : ℕ
  pub is : Case

-- those of some cuts, of a log, with parts that may be torn or not
abbrev pub wanted_case : LogValue → By → Bool → ℕ → List ℕ → WantedValue
wanted_case log way tears cut sets = record { cut = cut; is = case_of tears (parts_of (record { log = log; way = way; cut = cut })) sets }

abbrev pub wanted_at : LogValue → By → Bool → KnownAt → List WantedValue
wanted_at log way tears f = map (λ (o : OpenCase). wanted_case log way tears f.cut o.sets.items) f.open_cases.items

abbrev pub wanted_in : LogValue → By → Bool → List KnownAt → List WantedValue
wanted_in log way tears found = flat_map (wanted_at log way tears) found

-- the image of its representative
abbrev pub wanted_view : LogValue → By → WantedValue → ViewValue
wanted_view log way w =
    record { log = log; cut = w.cut; departures = departures (representative w.is) (parts_of (record { log = log; way = way; cut = w.cut })) }

-- of which log they are, what departs as one, and the images
pub record ExportedValue : Type 0 where
  pub log : LogValue
  pub way : By
  pub views : List ViewValue

-- what the device held before entry 0: the image of cut 0
abbrev pub initial_view : LogValue → ViewValue
initial_view log = record { log = log; cut = 0; departures = [] }

-- the image at a place
abbrev pub view_at : ExportedValue → ℕ → ViewValue
view_at e i = slice_index_or e.views i (initial_view e.log)

-- how many marks stand before the cut of an image
abbrev pub marks_of : ViewValue → ℕ
marks_of v = marks_at v.log.entries v.cut

-- two images have the same bytes, and as many marks before them
unfoldable pub is_same : ViewValue → ViewValue → Bool
is_same one other = (marks_of one == marks_of other) && pointwise (pointwise nat_eq) (sectors_of one) (sectors_of other)

-- the first place before place i whose image is the same; none where the image is new
unfoldable pub first_same : ExportedValue → ℕ → Option ℕ
first_same e i = slice_get (filter (λ j. is_same (view_at e i) (view_at e j)) (range_with_len 0 i)) 0

abbrev pub is_new : ExportedValue → ℕ → Bool
is_new e i = is_none (first_same e i)

-- the last new image of the first n, and what the device held before entry 0 where none is
abbrev pub last_new : ExportedValue → ℕ → ViewValue
last_new e zero = initial_view e.log
last_new e (suc i) = if is_new e i then view_at e i else last_new e i

-- which image it is
abbrev pub head_text : By → ℕ → ViewValue → List ℕ
head_text way i v = place_text i v.cut (epoch_at v.log.entries v.cut) (marks_of v) ++ departures_text way v.departures

-- that it is new, with the sectors in which it differs from the last new image before it, rising; or as which image it is
abbrev pub told_text : ViewValue → ViewValue → Option ℕ → List ℕ
told_text shown v None = new_text (changed_sectors (sectors_of shown) (sectors_of v))
told_text shown v (Some j) = same_text j

unfoldable pub image_text : ExportedValue → ℕ → List ℕ
image_text e i = head_text e.way i (view_at e i) ++ told_text (last_new e i) (view_at e i) (first_same e i)

-- how many of the first n images are new
abbrev pub new_count : ExportedValue → ℕ → ℕ
new_count e n = count_by (is_new e) (range_with_len 0 n)

-- the images, and the last line
abbrev pub images_text : ExportedValue → List ℕ
images_text e = flat_map (image_text e) (range_with_len 0 (length e.views)) ++ total_text (length e.views) (new_count e (length e.views))

-- all of it, by the number of the records
abbrev pub wanted_bytes : ℕ → ExportedValue → List ℕ
wanted_bytes inputs e = number_line inputs ++ images_text e

-- the open cases of what is found of a log
abbrev pub exported_of : KnownAsked → LogValue → List KnownAt → ExportedValue
exported_of a value found =
    record { log = value; way = a.settings.by; views = map (wanted_view value a.settings.by) (wanted_in value a.settings.by a.settings.tears found) }

-- the text of the images that are wanted, by what records tell of a log
pub record WantsOf (a : KnownAsked) (value plain : LogValue) (bytes : List ℕ) : Type 0 where
  pub head : Option HeadValue
  pub found : List KnownAt
  pub finds : FindsKnown a value plain head found
  pub text : bytes ≡ wanted_bytes (source_of a plain).inputs (exported_of a value found)

-- the same of the log that is asked for of the recording, by records of that log without flushes that are added
pub record TellsWanted (a : KnownAsked) (bytes : List ℕ) : Type 0 where
  pub short : length a.records ≤ 2 ^ 30
  pub value : LogValue
  pub source : HasImages a.text a.settings value
  pub wants : WantsOf a value source.reads.read bytes
