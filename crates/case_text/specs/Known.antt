-- What a case says of a part at risk (docs/CRASH-MODEL.md, Any number of losses).
use Rattle.std.specs.Prelude.{ℕ, ◌==◌, nat_lt, Bool, true, false, not, ◌&&◌, List, [], ◌∷◌, length, map, filter, count_by, find, reverse, Option, None, Some, option_map}
use Rattle.std.specs.List.{list_all}
use Rattle.epochs.specs.declared.part.Part.{Part}
use Rattle.choices.specs.declared.fate.Fate.{Fate}
use Rattle.choices.specs.declared.fate.Fate.TheVariants as fate
use Rattle.choices.specs.declared.choice.Departure.{Departure}
use Rattle.cases.specs.Choices.{all_fates, departures}
use Rattle.cases.specs.Cases.{Case, representative}
use Rattle.cases.specs.Trees.{is_lost}

-- the part is whole, and nothing else becomes of it
abbrev pub is_kept : List (Option Fate) → Bool
is_kept [] = false
is_kept (Some f ∷ fates) = false
is_kept (None ∷ []) = true
is_kept (None ∷ g ∷ fates) = false

-- all that may become of a part may become of it
abbrev pub is_free : Bool → List (Option Fate) → Bool
is_free tears fates = length fates == length (all_fates tears)

-- more than one fate may become of it, and not all
abbrev pub is_mixed : Bool → List (Option Fate) → Bool
is_mixed tears fates = nat_lt 1 (length fates) && not (is_free tears fates)

-- it isn't whole, whatever becomes of it
abbrev pub is_never_whole : List (Option Fate) → Bool
is_never_whole fates = list_all is_lost fates

-- nothing of the part arrives
abbrev pub is_gone : Option Fate → Bool
is_gone None = false
is_gone (Some fate.Drop) = true
is_gone (Some (fate.Head t)) = false
is_gone (Some (fate.Tail t)) = false

-- something of it arrives, whatever becomes of it
abbrev pub is_never_gone : List (Option Fate) → Bool
is_never_gone fates = list_all (λ f. not (is_gone f)) fates

-- a part with what may become of it
pub record PartFates : Type 0 where
  pub part : Part
  pub fates : List (Option Fate)

-- a part with what may become of it in a case
abbrev pub with_fates : Case → Part → PartFates
with_fates c p = record { part = p; fates = c p }

-- of some parts those of which more than one fate is possible, and not all
abbrev pub mixed_parts : Bool → Case → List Part → List PartFates
mixed_parts tears c parts = map (with_fates c) (filter (λ (p : Part). is_mixed tears (c p)) parts)

-- of these how many may have any fate
abbrev pub count_free : Bool → Case → List Part → ℕ
count_free tears c parts = count_by (λ (p : Part). is_free tears (c p)) parts

-- the entry of the first of some parts for which a test holds
abbrev pub entry_where : (Part → Bool) → List Part → Option ℕ
entry_where test parts = option_map (λ (p : Part). p.entry) (find test parts)

-- the first entry of which a part isn't whole, on each image of a case
abbrev pub first_lost : Case → List Part → Option ℕ
first_lost c parts = entry_where (λ (p : Part). is_never_whole (c p)) parts

-- the last entry of which something of some part arrived, on each image of a case
abbrev pub last_arrived : Case → List Part → Option ℕ
last_arrived c parts = entry_where (λ (p : Part). is_never_gone (c p)) (reverse parts)

-- what is known of some parts in a case: what its representative loses and tears of them, which are whole, of which more than one fate is
-- possible and not all, how many may have any fate, and the entries between which a flush is missing
pub record KnownValue : Type 0 where
  pub lost : List Departure
  pub kept : List Part
  pub mixed : List PartFates
  pub free : ℕ
  pub first_lost : Option ℕ
  pub last_arrived : Option ℕ

abbrev pub known_of : Bool → Case → List Part → KnownValue
known_of tears c parts = record {
  lost = departures (representative c) parts;
  kept = filter (λ (p : Part). is_kept (c p)) parts;
  mixed = mixed_parts tears c parts;
  free = count_free tears c parts;
  first_lost = first_lost c parts;
  last_arrived = last_arrived c parts;
}
