-- What is kept while images are gone through: the sums by which equal ones are found, and where each new one is kept.
use Rattle.std.specs.Prelude.{ℕ, bit_xor, ◌+◌, ◌-◌, ◌*◌, ◌/◌, ◌%◌, ◌^◌, ◌≡◌, ◌<◌, ◌≤◌, ◌&&◌, filter, Bool, true, false, List, [], ◌++◌, length, map, sum_by, slice_get, codes, Option, Some, None, MatchOption}
use Rattle.std.specs.Option.{option_map}
use Rattle.std.specs.Fmt.{decimal}
use Rattle.std.specs.List.{range_with_len, flat_map}
use Rattle.lanes.specs.Sector.{mix}
use Rattle.logfmt.specs.Bounds.{IsLog}
use Rattle.choices.specs.Choices.{ranked_choices}
use Rattle.images.specs.Views.{ViewValue, sectors_of}
use Rattle.images.specs.Table.{AreParts}
use Rattle.images.specs.Keys.{ChangedValue, content_at, with_content, differs}
use Rattle.logfmt.specs.declared.entry.Entry.{Entry}
use Rattle.choices.specs.declared.choice.Departure.{Departure}
use Rattle.export.specs.Export.{AskedValue, device_at, marks_before, is_same, first_same, last_new, records_at, record_text, image_text, new_count}
use Rattle.export.specs.Streaming.{StreamValue, Puts}
use Rattle.export.specs.declared.walk.KeptImage.{KeptImage}
use Rattle.export.specs.declared.walk.KeyPlace.{KeyPlace}
use Rattle.export.specs.declared.walk.KeyPlace.TheVariants as found

-- what can be asked for
pub record IsAsked (a : AskedValue) : Type 0 where
  pub bound : a.bound ≤ 3
  pub counted : length (ranked_choices a.plan a.bound a.tears) < 2 ^ 63
  pub rising : a.from ≤ a.to
  pub within : a.to ≤ length (ranked_choices a.plan a.bound a.tears)
  pub few : a.to ≤ a.from + 16777216

-- an image, as a view shows it, or without a view what the device held before entry 0
pub record IsImage (image : ViewValue) (view : Option ViewValue) : Type 0 where
  pub bounds : IsLog image.log
  pub within : image.cut ≤ length image.log.entries
  pub departs : AreParts image.log image.departures
  pub shown : MatchOption view ((image.cut ≡ 0) × (image.departures ≡ [])) (λ v. v ≡ image)

-- by which numbers are spread
abbrev pub factor : ℕ
factor = 11400714819323198485

-- a number in which each bit depends on many of another's
unfoldable pub spread : ℕ → ℕ
spread n = bit_xor n (n / 2 ^ 32) * factor % 2 ^ 64

-- what a sector adds to the sum of an image, below 2 ^ 38: so no sum of at most 2 ^ 25 sectors passes 2 ^ 63
unfoldable pub weight : ℕ → List ℕ → ℕ
weight n sector = spread (spread ((mix sector + factor * n % 2 ^ 64) % 2 ^ 64)) / 2 ^ 26

-- of a sector of a device
unfoldable pub weight_at : List (List ℕ) → ℕ → ℕ
weight_at device n = weight n (content_at device n)

-- the sum of a device
unfoldable pub sum_of : List (List ℕ) → ℕ
sum_of device = sum_by (weight_at device) (range_with_len 0 (length device))

-- the key of an image by its sum and the marks before it, and the keys that follow one
unfoldable pub key_by : ℕ → ℕ → ℕ
key_by sum marks = (factor * marks % 2 ^ 64 + sum) % 2 ^ 64

unfoldable pub key_at : AskedValue → ℕ → ℕ
key_at a i = key_by (sum_of (device_at a i)) (marks_before a i)

abbrev pub key_after : ℕ → ℕ → ℕ
key_after key steps = (key + steps) % 2 ^ 64

-- the first keys from that of an image on have other images
pub record AreOthers (a : AskedValue) (i : ℕ) (at : ℕ → Option ℕ) (steps : ℕ) : Type 0 where
  pub others : (s : ℕ) → s < steps → (j : ℕ) × (at (key_after (key_at a i) s) ≡ Some j) × (is_same a i j ≡ false)

-- of the first n images the new ones are kept, each at the first key from its own on that was free
pub record IsIndex (a : AskedValue) (n : ℕ) (at : ℕ → Option ℕ) : Type 0 where
  pub held : (k j : ℕ) → at k ≡ Some j → (j < n) × (first_same a j ≡ None)
  pub found : (j : ℕ) → j < n → first_same a j ≡ None
      → (t : ℕ) × (at (key_after (key_at a j) t) ≡ Some j) × ((s : ℕ) → s < t → at (key_after (key_at a j) s) ≡ None → ⊥)

-- of what is kept at each key the first place
abbrev pub firsts : (ℕ → Option KeptImage) → ℕ → Option ℕ
firsts at k = option_map (λ (h : KeptImage). h.first) (at k)

-- each new image of the first n is kept, with the place of an image that is the same
pub record IsHeld (a : AskedValue) (n : ℕ) (at : ℕ → Option KeptImage) : Type 0 where
  pub index : IsIndex a n (firsts at)
  pub recent : (k : ℕ) (h : KeptImage) → at k ≡ Some h → (h.last < n) × (is_same a h.last h.first ≡ true)

-- a sector is one of that many from one on
abbrev pub Spans : ℕ → ℕ → ℕ → Type 0
Spans first count n = (first ≤ n) × (n < first + count)

-- a part that departs has it
abbrev pub IsDeparting : List Departure → ℕ → Type 0
IsDeparting ds n = (j : ℕ) × (d : Departure) × (slice_get ds j ≡ Some d) × Spans d.part.sector d.part.count n

-- an entry writes or discards it, or one from an entry to before another
abbrev pub IsWrittenBy : List Entry → ℕ → ℕ → Type 0
IsWrittenBy es e n = (x : Entry) × (slice_get es e ≡ Some x) × Spans x.sector x.count n

abbrev pub IsWritten : List Entry → ℕ → ℕ → ℕ → Type 0
IsWritten es first last n = (e : ℕ) × (first ≤ e) × (e < last) × IsWrittenBy es e n

-- of the sectors that pass a test those in which two images differ, rising
abbrev pub listed : ViewValue → ViewValue → (ℕ → Bool) → List ℕ
listed one other p = filter (λ n. p n && differs (sectors_of one) (sectors_of other) n) (range_with_len 0 one.log.sectors)

-- what is listed are those of some sectors, of which are all that pass a test, and all of some more
pub record Lists (one other : ViewValue) (numbers : List ℕ) (p : ℕ → Bool) (More : ℕ → Type 0) : Type 0 where
  pub chosen : ℕ → Bool
  pub is : numbers ≡ listed one other chosen
  pub stays : (n : ℕ) → p n ≡ true → chosen n ≡ true
  pub more : (n : ℕ) → More n → chosen n ≡ true

-- two images of one log
abbrev pub OfOneLog : ViewValue → ViewValue → Type 0
OfOneLog one other = one.log ≡ other.log

-- the image at a place, how many marks stand before its cut, and its sum
pub record IsNext (a : AskedValue) (i : ℕ) (image : ViewValue) (marks sum : ℕ) : Type 0 where
  pub log : image.log ≡ a.plan.log
  pub device : sectors_of image ≡ device_at a i
  pub passed : marks ≡ marks_before a i
  pub sum_is : sum ≡ sum_of (device_at a i)

-- the numbers of the sectors in which the image at a place differs from the last new one before it
pub record AreRecords (a : AskedValue) (i : ℕ) (image : ViewValue) (numbers : List ℕ) : Type 0 where
  pub inside : (k n : ℕ) → slice_get numbers k ≡ Some n → n < image.log.sectors
  pub told : map (with_content (sectors_of image)) numbers ≡ records_at a i
  pub none : numbers ≡ [] → last_new a i ≡ device_at a i

-- what is kept after the first n images: the last new one, any one with its sum, how many were new, and where these are
pub record IsKept (a : AskedValue) (n : ℕ) (shown near : ViewValue) (own fresh : ℕ) (at : ℕ → Option KeptImage) : Type 0 where
  pub log : shown.log ≡ a.plan.log
  pub device : sectors_of shown ≡ last_new a n
  pub beside : near.log ≡ a.plan.log
  pub sum : own ≡ sum_of (sectors_of near)
  pub count : fresh ≡ new_count a n
  pub few : fresh ≤ n
  pub held : IsHeld a n at

-- a key is free for the image at a place, and the keys from its own on to before that one have other images
unfoldable pub IsFree : AskedValue → ℕ → (ℕ → Option ℕ) → ℕ → Type 0
IsFree a i at key = (steps : ℕ) × (key ≡ key_after (key_at a i) steps) × AreOthers a i at steps × (at key ≡ None)

-- what a search for an image ends in
unfoldable pub IsFound : AskedValue → ℕ → (ℕ → Option KeptImage) → KeyPlace → Type 0
IsFound a i at (found.Free key) = IsFree a i (firsts at) key
IsFound a i at (found.Same key place) = (first_same a i ≡ Some place) × (firsts at key ≡ Some place)

-- the beginning of the text of an image, before its choice
abbrev pub place_text : ℕ → ℕ → ℕ → ℕ → List ℕ
place_text number cut epoch marks =
    codes "image " ++ decimal number ++ codes " cut " ++ decimal cut ++ codes " epoch " ++ decimal epoch ++ codes " marks " ++ decimal marks ++ codes " choice "

-- of the images asked for the text of the first ones was put, of some
abbrev pub PutsImages : AskedValue → StreamValue → StreamValue → Type 0
PutsImages a before after = (n : ℕ) × (n ≤ a.to - a.from) × Puts before after (flat_map (image_text a) (range_with_len 0 n))

-- the text after the head of a new image, and of one that isn't new
abbrev pub new_text : List ChangedValue → List ℕ
new_text sectors = codes " new " ++ decimal (length sectors) ++ codes "\n" ++ flat_map record_text sectors

abbrev pub same_text : ℕ → List ℕ
same_text number = codes " same " ++ decimal number ++ codes "\n"
