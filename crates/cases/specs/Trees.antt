-- The tree of a cut and a program, whose leaves are the cases (docs/CRASH-MODEL.md, Any number of losses).
use Rattle.std.specs.Prelude.{ℕ, ◌≡◌, nat_le, Bool, true, false, ◌&&◌, List, [], ◌∷◌, ◌++◌, map, count_by, Option, None, Some}
use Rattle.std.specs.List.{list_all}
use Rattle.std.specs.Option.{option_map_or}
use Rattle.logfmt.specs.Bounds.{LogValue}
use Rattle.epochs.specs.declared.part.Part.{Part}
use Rattle.epochs.specs.declared.part.By.{By}
use Rattle.choices.specs.declared.fate.Fate.{Fate}
use Rattle.choices.specs.declared.fate.Fate.TheVariants as fate
use Rattle.machine.specs.Outcome.{Ending}
use Rattle.cases.specs.Risk.{parts_at_risk}
use Rattle.cases.specs.Choices.{Choice, image_at}
use Rattle.cases.specs.Cases.{Case, representative, with_part, Split, first_split}

-- a program: what it ends in on a device, and the sectors at which it looks there, in their order
pub record Program : Type 0 where
  pub ending : List (List ℕ) → Ending
  pub footprint : List (List ℕ) → List ℕ

-- a cut with what is asked of it: how many parts may be torn, and, if that is bounded, how many not whole
pub record Subject : Type 0 where
  pub log : LogValue
  pub way : By
  pub cut : ℕ
  pub program : Program
  pub torn : ℕ
  pub lost : Option ℕ

-- what the program ends in on the image of a choice
abbrev pub ending_of : Subject → Choice → Ending
ending_of s choice = s.program.ending (image_at s.log s.way s.cut choice)

-- the first part that tells choices of a case apart, in the footprint of the run on the image of its representative
abbrev pub split_of : Subject → Case → Option Split
split_of s c = first_split s.log s.way s.cut c (s.program.footprint (image_at s.log s.way s.cut (representative c)))

abbrev pub is_lost : Option Fate → Bool
is_lost None = false
is_lost (Some f) = true

abbrev pub is_torn : Option Fate → Bool
is_torn None = false
is_torn (Some fate.Drop) = false
is_torn (Some (fate.Head t)) = true
is_torn (Some (fate.Tail t)) = true

-- how many parts at risk do what a test says, each whatever becomes of it in a case
abbrev pub surely : Subject → (Option Fate → Bool) → Case → ℕ
surely s test c = count_by (λ (p : Part). list_all test (c p)) (parts_at_risk s.way s.log.entries s.cut)

-- a case has a choice with as few torn, and as few not whole, as is asked
abbrev pub is_within : Subject → Case → Bool
is_within s c = nat_le (surely s is_torn c) s.torn && option_map_or (λ n. nat_le (surely s is_lost c) n) s.lost true

-- The leaves of some cases, in order, and the cases beyond what is asked: of no case there are none. A case that is beyond is left out.
-- One whose choices no part tells apart is a leaf. In the place of any other the cases of its groups stand.
pub data AreLeaves (s : Subject) : List Case → List Case → List Case → Type 0 where
  no_case : AreLeaves s [] [] []
  is_beyond : (c : Case) (cs leaves left : List Case) → is_within s c ≡ false → AreLeaves s cs leaves left → AreLeaves s (c ∷ cs) leaves (c ∷ left)
  is_leaf : (c : Case) (cs leaves left : List Case) → is_within s c ≡ true → split_of s c ≡ None → AreLeaves s cs leaves left → AreLeaves s (c ∷ cs) (c ∷ leaves) left
  is_split : (c : Case) (it : Split) (cs leaves left : List Case) → is_within s c ≡ true → split_of s c ≡ Some it
      → AreLeaves s (map (with_part c it.part) it.groups ++ cs) leaves left → AreLeaves s (c ∷ cs) leaves left
