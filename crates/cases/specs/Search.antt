-- The search for the leaves: a case as a set for each part at risk, and what is still to be explored.
use Rattle.std.specs.Prelude.{ℕ, zero, suc, ◌≡◌, ◌+◌, ◌-◌, ◌^◌, ◌<◌, ◌≤◌, min, nat_le, Bool, true, false, not, ◌&&◌, if◌then◌else◌, List, [], ◌∷◌, ◌++◌, length, map, reverse, set, count_by, Option, None, Some, IsTrue, IsFalse, All}
use Rattle.epochs.specs.declared.part.Part.{Part}
use Rattle.cases.specs.declared.search.Frame.{Frame}
use Rattle.cases.specs.Cases.{Case, whole_case, representative}
use Rattle.cases.specs.AtCut.{CutValue, parts_of, case_of}
use Rattle.machine.specs.Outcome.{Ending}
use Rattle.cases.specs.Cases.{Split, with_part}
use Rattle.cases.specs.Trees.{Program, Subject, ending_of, is_torn, surely, is_within, split_of}
use Rattle.cases.specs.Laws.{AreCases}
use Rattle.cases.specs.Sets.{all_torn, all_lost}

-- What is still to be explored beside a case: the groups of each part that was split which weren't taken yet, the last split first.
-- All else is as it stood when the split was made.
abbrev pub others : Bool → List Part → List ℕ → List Frame → List Case
others tears parts sets [] = []
others tears parts sets (f ∷ frames) =
    map (λ bits. case_of tears parts (set sets f.part bits)) f.groups.items ++ others tears parts (set sets f.part f.old) frames

-- what is asked of a program at a cut
pub record Asked : Type 0 where
  pub at : CutValue
  pub torn : ℕ
  pub lost : Option ℕ

abbrev pub subject_of : Asked → Program → Subject
subject_of asked program = record { log = asked.at.log; way = asked.at.way; cut = asked.at.cut; program = program; torn = asked.torn; lost = asked.lost }

-- a set for each part, and each split of one of the parts
pub record IsSearch (at : CutValue) (sets : List ℕ) (frames : List Frame) : Type 0 where
  pub within : at.cut ≤ length at.log.entries
  pub each : length sets ≡ length (parts_of at)
  pub splits : All (λ (f : Frame). f.part < length sets) frames

-- a search: what is asked, whether parts may be torn, the sets of the last case, whether that is still to be explored, the splits that
-- led to it, and how many cases were left out
pub record SearchValue : Type 0 where
  pub asked : Asked
  pub tears : Bool
  pub sets : List ℕ
  pub fresh : Bool
  pub frames : List Frame
  pub torn_beyond : ℕ
  pub lost_beyond : ℕ

-- a case of a search
abbrev pub case_in : SearchValue → Case
case_in v = case_of v.tears (parts_of v.asked.at) v.sets

-- the cases that are still to be explored
abbrev pub pending : SearchValue → List Case
pending v = (if v.fresh then case_in v ∷ [] else []) ++ others v.tears (parts_of v.asked.at) v.sets (reverse v.frames)

-- The leaves of some cases up to others, which are still to be explored, and the cases beyond what is asked, as in `AreLeaves`.
pub data LeadTo (s : Subject) (to : List Case) : List Case → List Case → List Case → Type 0 where
  are_there : LeadTo s to to [] []
  past_beyond : (c : Case) (cs leaves left : List Case) → is_within s c ≡ false → LeadTo s to cs leaves left → LeadTo s to (c ∷ cs) leaves (c ∷ left)
  past_leaf : (c : Case) (cs leaves left : List Case) → is_within s c ≡ true → split_of s c ≡ None → LeadTo s to cs leaves left → LeadTo s to (c ∷ cs) (c ∷ leaves) left
  past_split : (c : Case) (it : Split) (cs leaves left : List Case) → is_within s c ≡ true → split_of s c ≡ Some it
      → LeadTo s to (map (with_part c it.part) it.groups ++ cs) leaves left → LeadTo s to (c ∷ cs) leaves left

-- some leaves, and some cases that were left out, lead from some cases to others: they come before what leads on from these
abbrev pub Leads : Subject → List Case → List Case → List Case → List Case → Type 0
Leads s from leaves left to = (end more rest : List Case) → LeadTo s end to more rest → LeadTo s end from (leaves ++ more) (left ++ rest)

-- of some sets those without whole and without the drop, and those without whole
abbrev pub count_torn : List ℕ → ℕ
count_torn sets = count_by all_torn sets

abbrev pub count_lost : List ℕ → ℕ
count_lost sets = count_by all_lost sets

-- more parts are torn in a case than is asked, whatever becomes of it
abbrev pub is_torn_beyond : Subject → Case → Bool
is_torn_beyond s c = not (nat_le (surely s is_torn c) s.torn)

-- each of some more adds one, up to what a word holds
abbrev pub plus : ℕ → ℕ → ℕ
plus n zero = n
plus n (suc more) = min (plus n more + 1) (2 ^ 64 - 1)

-- what is asked stays the same
pub record SameSearch (old new : SearchValue) : Type 0 where
  pub asked : new.asked ≡ old.asked
  pub tears : new.tears ≡ old.tears

-- the counts alone change
pub record OnlyCounts (old new : SearchValue) : Type 0 where
  pub asked : new.asked ≡ old.asked
  pub tears : new.tears ≡ old.tears
  pub sets : new.sets ≡ old.sets
  pub fresh : new.fresh ≡ old.fresh
  pub frames : new.frames ≡ old.frames

-- the case of a search is beyond what is asked, or it isn't, and one that is was counted
pub record Counted (s : Subject) (old new : SearchValue) (beyond : Bool) : Type 0 where
  pub is : is_within s (case_in old) ≡ not beyond
  pub torn : new.torn_beyond ≡ plus old.torn_beyond (if beyond && is_torn_beyond s (case_in old) then 1 else 0)
  pub lost : new.lost_beyond ≡ plus old.lost_beyond (if beyond && not (is_torn_beyond s (case_in old)) then 1 else 0)

-- Some cases lead to a leaf, with others after it: none of them is another leaf, and some that come before it are left out.
pub record LeadToLeaf (s : Subject) (from left : List Case) (leaf : Case) (rest : List Case) : Type 0 where
  pub leads : Leads s from [] left (leaf ∷ rest)
  pub within : is_within s leaf ≡ true
  pub whole : split_of s leaf ≡ None

-- from a case that isn't beyond what is asked it goes down to a leaf, and what is left of the case is to be explored after it
abbrev pub Descends : Asked → Program → Bool → List ℕ → List Frame → List ℕ → List Frame → Type 0
Descends asked program tears sets frames last more =
    is_within (subject_of asked program) (case_of tears (parts_of asked.at) sets) ≡ true
    → LeadToLeaf (subject_of asked program) (case_of tears (parts_of asked.at) sets ∷ others tears (parts_of asked.at) sets frames) [] (case_of tears (parts_of asked.at) last)
    (others tears (parts_of asked.at) last more)

-- it took the next case that isn't beyond what is asked, if there is one, and left out those before it
pub record Took (s : Subject) (old new : SearchValue) (found : Bool) : Type 0 where
  pub left : List Case
  pub leads : Leads s (pending old) [] left (if found then case_in new ∷ pending new else [])
  pub within : IsTrue found → is_within s (case_in new) ≡ true
  pub ended : IsFalse found → pending new ≡ []
  pub torn : new.torn_beyond ≡ plus old.torn_beyond (count_by (is_torn_beyond s) left)
  pub lost : new.lost_beyond ≡ plus old.lost_beyond (count_by (λ c. not (is_torn_beyond s c)) left)

-- a search went from one leaf to the next, if there is one, and no further, and counted the cases between that were left out
pub record Went (s : Subject) (old new : SearchValue) (found : Bool) : Type 0 where
  pub left : List Case
  pub leads : Leads s (pending old) (if found then case_in new ∷ [] else []) left (pending new)
  pub leaf : IsTrue found → LeadToLeaf s (pending old) left (case_in new) (pending new)
  pub ended : IsFalse found → pending new ≡ []
  pub torn : new.torn_beyond ≡ plus old.torn_beyond (count_by (is_torn_beyond s) left)
  pub lost : new.lost_beyond ≡ plus old.lost_beyond (count_by (λ c. not (is_torn_beyond s c)) left)

-- a leaf: a set for each part at risk, and what the program ends in on the image of its representative
pub record LeafValue : Type 0 where
  pub sets : List ℕ
  pub ending : Ending

abbrev pub leaf_case : Bool → CutValue → LeafValue → Case
leaf_case tears at leaf = case_of tears (parts_of at) leaf.sets

-- what the program ends in there
abbrev pub EndsSo : Subject → Bool → CutValue → LeafValue → Type 0
EndsSo s tears at leaf = leaf.ending ≡ ending_of s (representative (leaf_case tears at leaf))

-- a search went over some leaves, of which a judge was told, and counted the cases between that were left out
pub record Ran (s : Subject) (old new : SearchValue) (before after : List LeafValue) : Type 0 where
  pub told : List LeafValue
  pub left : List Case
  pub added : after ≡ before ++ told
  pub leads : Leads s (pending old) (map (leaf_case old.tears old.asked.at) told) left (pending new)
  pub endings : All (EndsSo s old.tears old.asked.at) told
  pub torn : new.torn_beyond ≡ plus old.torn_beyond (count_by (is_torn_beyond s) left)
  pub lost : new.lost_beyond ≡ plus old.lost_beyond (count_by (λ c. not (is_torn_beyond s c)) left)

-- A judge was told of the leaves of all choices of a cut, in order, and of no other, each with what the program ends in there. `torn`
-- counts the cases that were left out since more parts are torn in them than is asked, and `lost` the others, in which more are lost.
pub record FoundCases (s : Subject) (tears : Bool) (at : CutValue) (before after : List LeafValue) (torn lost : ℕ) : Type 0 where
  pub told : List LeafValue
  pub left : List Case
  pub added : after ≡ before ++ told
  pub are : AreCases s tears (map (leaf_case tears at) told) left
  pub endings : All (EndsSo s tears at) told
  pub torn_beyond : torn ≡ plus 0 (count_by (is_torn_beyond s) left)
  pub lost_beyond : lost ≡ plus 0 (count_by (λ c. not (is_torn_beyond s c)) left)

-- A judge was told of the first `most` leaves of a cut, each with what the program ends in there, and other cases were to be explored.
pub record BegunCases (s : Subject) (tears : Bool) (at : CutValue) (before after : List LeafValue) (most : ℕ) : Type 0 where
  pub told : List LeafValue
  pub left : List Case
  pub to : List Case
  pub added : after ≡ before ++ told
  pub many : length told ≡ most
  pub leads : LeadTo s to (whole_case tears ∷ []) (map (leaf_case tears at) told) left
  pub endings : All (EndsSo s tears at) told
