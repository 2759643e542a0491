-- What an entry that was found says of an image, and of those that differ from it in the last departure alone.
use Rattle.std.proofs.Common.{ℕ, ◌≡◌, Bool, true, false, List, [], ◌∷◌, ◌++◌, length, slice_get, Option, Some, None, refl, sym, ap, ◌∙◌, subst, inl, inr}
use Rattle.std.specs.List.{slice_index_or}
use Rattle.std.proofs.lemmas.Option.{slice_get_within}
use Rattle.base.proofs.Lists.{slice_get-append_left, slice_get_of_push}
use Rattle.choices.specs.declared.pick.Pick.{Pick}
use Rattle.choices.specs.Picked.{PickedValue, IsRanked, choice_of_picked, marked_picks, with_last}
use Rattle.checker.specs.Checker.{CheckerValue}
use Rattle.workers.specs.declared.entries.KnownEntry.{KnownEntry}
use Rattle.workers.specs.Failing.{Subject, ending_at}
use Rattle.workers.specs.Reuse.{EntryValue, AreKnown, IsFound, NoneTold, tells}
use Rattle.workers.proofs.Marking.{none_marked}

-- of no entries each is true
pub none_known : (s : Subject) (place : ℕ) (checker : CheckerValue) (entries : List EntryValue) → entries ≡ [] → AreKnown s place checker entries
none_known s place checker entries is i entry there =
    absurd (let bad : None ≡ Some entry = ap (λ (es : List EntryValue). slice_get es i) (sym is) ∙ there in cc)

-- the outcome that was found is that of the image
pub found_ends : (s : Subject) (checker : CheckerValue) (entries : List EntryValue) (n : ℕ) (p : PickedValue) (found : KnownEntry)
    → AreKnown s p.place checker entries → IsRanked s.plan s.bound s.tears n p → (is : IsFound entries p.picks found)
    → ending_at s (choice_of_picked s.plan p) checker ≡ is.entry.ending
found_ends s checker entries n p found known ranked is = known found.entry is.entry is.there n p found.marks refl ranked is.holds

-- a last departure that isn't marked is left out
unmarked_last : (marks : List Bool) (front : List Pick) (x : Pick) → slice_index_or marks (length front) false ≡ false → marked_picks marks (front ++ x ∷ []) ≡ marked_picks marks front
unmarked_last [] front x unmarked = refl
unmarked_last (true ∷ marks) [] x unmarked = absurd (let bad : true ≡ false = unmarked in cc)
unmarked_last (false ∷ marks) [] x unmarked = none_marked marks
unmarked_last (true ∷ marks) (y ∷ front) x unmarked = ap (λ (rest : List Pick). y ∷ rest) (unmarked_last marks front x unmarked)
unmarked_last (false ∷ marks) (y ∷ front) x unmarked = unmarked_last marks front x unmarked

other_last : (told : Option (List ℕ)) (marks : List Bool) (front : List Pick) (last other : Pick) → NoneTold told marks (front ++ last ∷ []) → tells told other.part ≡ false
    → NoneTold told marks (front ++ other ∷ [])
other_last told marks front last other none untold i x there unmarked = elim (slice_get_of_push front other i x there) [
  | inl was ↦ none i x (slice_get-append_left front (last ∷ []) i (slice_get_within front i x was) ∙ was) unmarked
  | inr new ↦ ap (λ (y : Pick). tells told y.part) new.1 ∙ untold
]

-- and of each choice with another last departure, where the last isn't marked and the other's part isn't told
pub found_passes : (s : Subject) (checker : CheckerValue) (entries : List EntryValue) (m : ℕ) (p : PickedValue) (found : KnownEntry) (front : List Pick) (last other : Pick)
    → AreKnown s p.place checker entries → (is : IsFound entries p.picks found) → p.picks ≡ front ++ last ∷ [] → slice_index_or found.marks (length front) false ≡ false
    → tells is.entry.told other.part ≡ false → IsRanked s.plan s.bound s.tears m (with_last p front other)
    → ending_at s (choice_of_picked s.plan (with_last p front other)) checker ≡ is.entry.ending
found_passes s checker entries m p found front last other known is picks unmarked untold ranked =
    known found.entry is.entry is.there m (with_last p front other) found.marks refl ranked (record {
      own =
          unmarked_last found.marks front other unmarked ∙ sym (unmarked_last found.marks front last unmarked)
          ∙ ap (marked_picks found.marks) (sym picks) ∙ is.holds.own;
      others = other_last is.entry.told found.marks front last other (subst (NoneTold is.entry.told found.marks) picks is.holds.others) untold;
    })
