-- The text of `export`: the crash images of a plan from one number to below another, each by what differs from the last that was
-- new (docs/OUTPUT.md, The text of `export`). They have places from 0: image a.from + i stands at place i.
use Rattle.std.specs.Prelude.{ℕ, zero, suc, ◌+◌, ◌-◌, ◌==◌, nat_eq, Bool, ◌&&◌, if◌then◌else◌, List, [], ◌++◌, length, map, filter, slice_get, codes, Option, Some, None}
use Rattle.std.specs.Fmt.{decimal}
use Rattle.std.specs.List.{slice_index_or, range_with_len, flat_map}
use Rattle.std.specs.Option.{is_none}
use Rattle.std.specs.Cmp.Lexicographic.{pointwise}
use Rattle.base.specs.Numbers.{number_bytes}
use Rattle.logfmt.specs.Bounds.{LogValue}
use Rattle.logfmt.specs.Initial.{initial_sector}
use Rattle.epochs.specs.Units.{epoch_at, marks_at}
use Rattle.epochs.specs.Plan.{PlanValue}
use Rattle.choices.specs.Choices.{ChoiceValue, ranked_choices}
use Rattle.report.specs.ChoiceText.{departures_text}
use Rattle.images.specs.Views.{sectors_of, view_of}
use Rattle.images.specs.Keys.{ChangedValue, changed_sectors}

-- which images are asked for
pub record AskedValue : Type 0 where
  pub plan : PlanValue
  pub bound : ℕ
  pub tears : Bool
  pub from : ℕ
  pub to : ℕ

-- what stands for a choice, where there is none
abbrev pub no_choice : ChoiceValue
no_choice = record { place = 0; cut = 0; picks = []; departures = [] }

-- the choice of the image at a place
unfoldable pub choice_at : AskedValue → ℕ → ChoiceValue
choice_at a i = slice_index_or (ranked_choices a.plan a.bound a.tears) (a.from + i) no_choice

-- its sectors, and how many marks stand before its cut
unfoldable pub device_at : AskedValue → ℕ → List (List ℕ)
device_at a i = sectors_of (view_of a.plan (choice_at a i))

unfoldable pub marks_before : AskedValue → ℕ → ℕ
marks_before a i = marks_at a.plan.log.entries (choice_at a i).cut

-- the images at two places have the same bytes, and as many marks before them
unfoldable pub is_same : AskedValue → ℕ → ℕ → Bool
is_same a i j = (marks_before a i == marks_before a j) && pointwise (pointwise nat_eq) (device_at a i) (device_at a j)

-- the first place before place i whose image is the same; none where the image is new
unfoldable pub first_same : AskedValue → ℕ → Option ℕ
first_same a i = slice_get (filter (is_same a i) (range_with_len 0 i)) 0

unfoldable pub is_new : AskedValue → ℕ → Bool
is_new a i = is_none (first_same a i)

-- what the device held before entry 0
unfoldable pub initial_device : LogValue → List (List ℕ)
initial_device log = map (initial_sector log.initial) (range_with_len 0 log.sectors)

-- the last new image of the first n, and what the device held before entry 0 where none is
unfoldable pub last_new : AskedValue → ℕ → List (List ℕ)
last_new a zero = initial_device a.plan.log
last_new a (suc i) = if is_new a i then device_at a i else last_new a i

-- the sectors in which the image at a place differs from the last new image before it, rising
unfoldable pub records_at : AskedValue → ℕ → List ChangedValue
records_at a i = changed_sectors (last_new a i) (device_at a i)

-- a sector: its number in 8 bytes, and its 512 bytes
unfoldable pub record_text : ChangedValue → List ℕ
record_text sector = number_bytes 8 sector.number ++ sector.content

-- which image it is
unfoldable pub head_text : AskedValue → ℕ → ChoiceValue → List ℕ
head_text a i choice =
    codes "image " ++ decimal (a.from + i) ++ codes " cut " ++ decimal choice.cut ++ codes " epoch " ++ decimal (epoch_at a.plan.log.entries choice.cut)
    ++ codes " marks " ++ decimal (marks_at a.plan.log.entries choice.cut) ++ codes " choice " ++ departures_text a.plan.by choice.departures

-- that it is new, with its records, or as which image it is
unfoldable pub told_text : AskedValue → List ChangedValue → Option ℕ → List ℕ
told_text a sectors None = codes " new " ++ decimal (length sectors) ++ codes "\n" ++ flat_map record_text sectors
told_text a sectors (Some j) = codes " same " ++ decimal (a.from + j) ++ codes "\n"

unfoldable pub image_text : AskedValue → ℕ → List ℕ
image_text a i = head_text a i (choice_at a i) ++ told_text a (records_at a i) (first_same a i)

-- how many images there are, and how many of them are new
unfoldable pub total_text : ℕ → ℕ → List ℕ
total_text images new = codes "total " ++ decimal images ++ codes " new " ++ decimal new ++ codes "\n"

-- how many of the first n images are new
unfoldable pub new_count : AskedValue → ℕ → ℕ
new_count a n = length (filter (is_new a) (range_with_len 0 n))

-- all of it
unfoldable pub export_text : AskedValue → List ℕ
export_text a = flat_map (image_text a) (range_with_len 0 (a.to - a.from)) ++ total_text (a.to - a.from) (new_count a (a.to - a.from))
