-- What holds of the cases of a cut (docs/CRASH-MODEL.md, Any number of losses).
use Rattle.std.specs.Prelude.{ℕ, ◌≡◌, ◌≤◌, ◌==◌, ◌⊎◌, Bool, true, ◌||◌, List, [], ◌∷◌, ◌++◌, length, count_by, slice_get, None, Some, IfSome}
use Rattle.logfmt.specs.Bounds.{LogValue, IsLog}
use Rattle.epochs.specs.declared.part.Part.{Part}
use Rattle.epochs.specs.declared.part.By.{By}
use Rattle.epochs.specs.Units.{epoch_at, marks_at}
use Rattle.machine.specs.Footprint.{AreAlike, HaveSame}
use Rattle.cases.specs.Risk.{is_last_cut, parts_at_risk}
use Rattle.cases.specs.Choices.{Choice, image_at}
use Rattle.cases.specs.Cases.{Case, whole_case, representative}
use Rattle.cases.specs.Trees.{Program, Subject, ending_of, split_of, is_lost, is_torn, AreLeaves}

-- it is one of some fates
abbrev pub IsAmong : {A : Type 0} → List A → A → Type 0
IsAmong [] x = ⊥
IsAmong (y ∷ ys) x = (y ≡ x) ⊎ IsAmong ys x

-- a choice is in a case: what becomes of each part is among what the case says
abbrev pub Includes : Choice → Case → Type 0
Includes choice c = (p : Part) → IsAmong (c p) (choice p)

-- it holds of none
abbrev pub OfNone : {A : Type 0} → (A → Type 0) → List A → Type 0
OfNone P [] = Unit {0}
OfNone P (x ∷ xs) = (P x → ⊥) × OfNone P xs

-- it holds of exactly one
abbrev pub OfOne : {A : Type 0} → (A → Type 0) → List A → Type 0
OfOne P [] = ⊥
OfOne P (x ∷ xs) = (P x × OfNone P xs) ⊎ ((P x → ⊥) × OfOne P xs)

-- a choice of parts that may be torn, or not
abbrev pub IsChoice : Bool → Choice → Type 0
IsChoice tears choice = Includes choice (whole_case tears)

-- it has as few torn parts, and as few that aren't whole, as is asked
pub record IsAsked (s : Subject) (choice : Choice) : Type 0 where
  pub torn : count_by (λ (p : Part). is_torn (choice p)) (parts_at_risk s.way s.log.entries s.cut) ≤ s.torn
  pub lost : IfSome s.lost (λ n. count_by (λ (p : Part). is_lost (choice p)) (parts_at_risk s.way s.log.entries s.cut) ≤ n)

-- the leaves of all choices of a cut
abbrev pub AreCases : Subject → Bool → List Case → List Case → Type 0
AreCases s tears leaves left = AreLeaves s (whole_case tears ∷ []) leaves left

-- each choice is in exactly one of the leaves and of the cases that were left out, and one with as few losses as is asked in none of these
pub record EachIsInOne : Type 0 where
  pub one : (s : Subject) (tears : Bool) (leaves left : List Case) (choice : Choice) → AreCases s tears leaves left → IsChoice tears choice
      → OfOne (Includes choice) (leaves ++ left)
  pub asked : (s : Subject) (tears : Bool) (leaves left : List Case) (choice : Choice) → AreCases s tears leaves left → IsAsked s choice
      → OfNone (Includes choice) left

-- a program's footprint tells what it ends in on devices of one size
abbrev pub FootprintTellsEnding : Program → Type 0
FootprintTellsEnding program =
    (device other : List (List ℕ)) → AreAlike device other → HaveSame device other (program.footprint device) → program.ending other ≡ program.ending device

-- The image of each choice of a case that no part splits has the sectors of the footprint in common with that of the representative. A
-- leaf is such a case.
abbrev pub LeavesLookAlike : Type 0
LeavesLookAlike =
    (s : Subject) (c : Case) (choice : Choice) → s.cut ≤ length s.log.entries → split_of s c ≡ None → Includes choice c
    → HaveSame (image_at s.log s.way s.cut (representative c)) (image_at s.log s.way s.cut choice) (s.program.footprint (image_at s.log s.way s.cut (representative c)))

-- on the image of each choice that a leaf includes the program ends as on that of its representative
abbrev pub LeavesEndAlike : Type 0
LeavesEndAlike =
    (s : Subject) (tears : Bool) (leaves left : List Case) (i : ℕ) (c : Case) (choice : Choice) → IsLog s.log → s.cut ≤ length s.log.entries
    → FootprintTellsEnding s.program → AreCases s tears leaves left → slice_get leaves i ≡ Some c → Includes choice c
    → ending_of s choice ≡ ending_of s (representative c)

-- An image of a cut is one of a cut of a range that comes no earlier, a last cut or the end of the range, of the same epoch and after as many
-- marks, in which as many parts are torn. Where the range ends with the log that is a last cut.
pub record IsOfCut (log : LogValue) (way : By) (tears : Bool) (cut to last : ℕ) (choice : Choice) : Type 0 where
  pub from : cut ≤ last
  pub within : last ≤ to
  pub is_last : (is_last_cut log.entries last || (last == to)) ≡ true
  pub other : Choice
  pub possible : IsChoice tears other
  pub image : image_at log way last other ≡ image_at log way cut choice
  pub epoch : epoch_at log.entries last ≡ epoch_at log.entries cut
  pub marks : marks_at log.entries last ≡ marks_at log.entries cut
  pub torn : count_by (λ (p : Part). is_torn (other p)) (parts_at_risk way log.entries last)
      ≡ count_by (λ (p : Part). is_torn (choice p)) (parts_at_risk way log.entries cut)

-- each image of a cut of a range is one of a last cut of the range, or of its end
abbrev pub LastCutsHaveAll : Type 0
LastCutsHaveAll = (log : LogValue) (way : By) (tears : Bool) (cut to : ℕ) (choice : Choice) → IsLog log → cut ≤ to → to ≤ length log.entries → IsChoice tears choice
    → (last : ℕ) × IsOfCut log way tears cut to last choice
