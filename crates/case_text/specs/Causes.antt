-- Why cases fail (docs/OUTPUT.md, The text of `why`, 'With `--bound any`'). Numbers are decimal.
use Rattle.std.specs.Prelude.{ℕ, ◌+◌, ◌==◌, nat_le, Bool, false, ◌||◌, if◌then◌else◌, List, [], ◌∷◌, ◌++◌, length, Option, None, Some, codes}
use Rattle.std.specs.Fmt.{decimal}
use Rattle.std.specs.List.{flat_map}
use Rattle.epochs.specs.declared.part.Part.{Part}
use Rattle.epochs.specs.declared.part.By.{By}
use Rattle.choices.specs.declared.choice.Departure.{Departure}
use Rattle.losses.specs.declared.flushes.window.Window.{Window}
use Rattle.case_text.specs.Known.{KnownValue, is_gone}
use Rattle.case_text.specs.Text.{parts_text}

-- the part of a departure, if it is lost, and if it is torn
abbrev pub if_lost : Departure → List Part
if_lost d = if is_gone (Some d.fate) then d.part ∷ [] else []

abbrev pub if_torn : Departure → List Part
if_torn d = if is_gone (Some d.fate) then [] else d.part ∷ []

abbrev pub lost_parts : List Departure → List Part
lost_parts ds = flat_map if_lost ds

abbrev pub torn_parts : List Departure → List Part
torn_parts ds = flat_map if_torn ds

-- some parts after a word, where there are some
abbrev pub lost_said : By → List Part → List ℕ
lost_said way parts = if length parts == 0 then [] else codes "lost " ++ parts_text way parts

abbrev pub torn_said : By → List Part → List ℕ
torn_said way parts = if length parts == 0 then [] else codes "torn " ++ parts_text way parts

-- a word between both, where there are some of each
abbrev pub and_said : List Part → List Part → List ℕ
and_said lost torn = if (length lost == 0) || (length torn == 0) then [] else codes " and "

-- what is gone: parts that are lost, and parts that are torn
unfoldable pub gone_text : By → List Part → List Part → List ℕ
gone_text way lost torn = lost_said way lost ++ and_said lost torn ++ torn_said way torn

-- a part is of an entry from that one on
abbrev pub if_from : ℕ → Part → List Part
if_from start p = if nat_le start p.entry then p ∷ [] else []

abbrev pub parts_from : ℕ → List Part → List Part
parts_from start parts = flat_map (if_from start) parts

-- how many were kept
abbrev pub kept_word : ℕ → List ℕ
kept_word n = if n == 1 then codes " was kept" else codes " were kept"

-- the parts that are kept; where there is none, the last entry of which something is there
unfoldable pub kept_said : By → List Part → ℕ → List ℕ
kept_said way parts end = if length parts == 0 then codes "entry " ++ decimal end ++ codes " was there" else parts_text way parts ++ kept_word (length parts)

-- something is gone while something later is there
unfoldable pub while_text : By → KnownValue → Window → List ℕ
while_text way known w = gone_text way (lost_parts known.lost) (torn_parts known.lost) ++ codes " while " ++ kept_said way (parts_from w.start known.kept) w.end

-- an image in which nothing is lost
unfoldable pub nothing_text : ℕ → List ℕ
nothing_text cut = codes "at cut " ++ decimal cut ++ codes ", with nothing lost"

-- a part is of entry e
abbrev pub if_at : ℕ → Part → List Part
if_at e p = if p.entry == e then p ∷ [] else []

abbrev pub parts_at : ℕ → List Part → List Part
parts_at e parts = flat_map (if_at e) parts

-- the cut after entry e
unfoldable pub after_text : ℕ → List ℕ
after_text e = codes "at cut " ++ decimal (e + 1) ++ codes ", "

-- its image in which only what departs of that entry is lost or torn
unfoldable pub only_text : By → ℕ → List Departure → List ℕ
only_text way e ds = after_text e ++ gone_text way (parts_at e (lost_parts ds)) (parts_at e (torn_parts ds))

-- that entry is it
abbrev pub is_entry : Option ℕ → ℕ → Bool
is_entry None e = false
is_entry (Some f) e = f == e

-- A case without a window, of which entry e is the first with a part that isn't whole on any image. Where something of e is there on each
-- image it is the last such entry.
abbrev pub left_text : By → KnownValue → ℕ → List ℕ
left_text way known e = if is_entry known.last_arrived e then only_text way e known.lost else nothing_text e

-- a case without a window
abbrev pub uncured_text : By → ℕ → KnownValue → Option ℕ → List ℕ
uncured_text way cut known None = nothing_text cut
uncured_text way cut known (Some e) = left_text way known e

-- why a case fails
abbrev pub cause_text : By → ℕ → KnownValue → Option Window → List ℕ
cause_text way cut known None = uncured_text way cut known known.first_lost
cause_text way cut known (Some w) = while_text way known w
