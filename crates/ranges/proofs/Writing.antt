-- What stands at a place after a change: a group of a stack of which bytes are written, and a register after a call.
use Rattle.std.proofs.Common.{◌≡◌, ℕ, zero, suc, ◌+◌, ◌<◌, ◌≤◌, ◌==◌, nat_le, Bool, true, false, if◌then◌else◌, List, [], ◌∷◌, map, length, get_or, replicate, refl, sym, ◌∙◌, arith}
use Rattle.std.proofs.lemmas.Bool.Decides.{nat_tests}
use Rattle.std.proofs.lemmas.List.{length-map}
use Rattle.std.specs.Prelude.{slice_index_or}
use Rattle.ranges.specs.Kinds.{Kind, Unset}
use Rattle.ranges.specs.Groups.{GroupKind, Marked, unset_marks, map_places}
use Rattle.ranges.specs.States.{unset_groups}
use Rattle.ranges.specs.declared.state.State.{State}
use Rattle.ranges.specs.SeenStates.{group_of}
use Rattle.ranges.specs.Reading.{value}
use Rattle.ranges.specs.After.{is_touched, after_answer, group_forgotten}
use Rattle.ranges.specs.Changing.{group_beyond, groups_after}

place_mapped : {A B : Type 0} (f : ℕ → A → B) (g : ℕ) (xs : List A) (k : ℕ) (d : A) (e : B) → k < length xs
    → get_or (map_places f g xs) k e ≡ f (g + k) (get_or xs k d)
unfolding map_places
place_mapped f g [] k d e small = absurd (let bad : k < 0 = small in omega arith)
place_mapped f g (x ∷ xs) zero d e small = let z : g + 0 ≡ g = omega arith in rw z refl
place_mapped f g (x ∷ xs) (suc k) d e small =
    let next : g + suc k ≡ g + 1 + k = omega arith in
    rw next (place_mapped f (g + 1) xs k d e (omega arith))

pub group_written : (are_set : Bool) (at n : ℕ) (groups : List GroupKind) (k : ℕ) → k < length groups
    → group_beyond are_set at n k (slice_index_or groups k (Marked [])) ≡ slice_index_or (groups_after are_set at n groups) k (Marked [])
unfolding groups_after
group_written are_set at n groups k small =
    let z : 0 + k ≡ k = omega arith in
    let e : get_or (map_places (group_beyond are_set at n) 0 groups) k (Marked []) ≡ group_beyond are_set at n k (get_or groups k (Marked [])) =
    rw z at (place_mapped (group_beyond are_set at n) 0 groups k (Marked []) (Marked []) small) in
    sym e

-- where all bytes are forgotten no group is known
touched : (g : ℕ) → g < 64 → is_touched 0 512 g ≡ true
touched g small = grind (arith, nat_tests)

forgotten_from : (m g : ℕ) (groups : List GroupKind) → length groups ≡ m → g + m ≤ 64 → map_places (group_forgotten 0 512) g groups ≡ replicate m (Marked unset_marks)
unfolding map_places
forgotten_from zero g [] e small = refl
forgotten_from zero g (x ∷ xs) e small = absurd (omega (arith, e))
forgotten_from (suc m) g [] e small = absurd (omega (arith, e))
forgotten_from (suc m) g (x ∷ xs) e small =
    rw (touched g (omega (arith, small)), forgotten_from m (g + 1) xs (omega (arith, e)) (omega (arith, small))) refl

pub all_forgotten : (s : State) → map_places (group_forgotten 0 512) 0 (map group_of s.groups) ≡ unset_groups
unfolding unset_groups
all_forgotten s = forgotten_from 64 0 (map group_of s.groups) (length-map s.groups group_of ∙ s.stack) (omega arith)

pub answered_at : (values : List Kind) (groups : List GroupKind) (k : Kind) (r : ℕ) (x : Kind) → length values ≡ 11 → x ≡ get_or values r Unset
    → (if r == 0 then k else if nat_le r 5 then Unset else x) ≡ value (after_answer (record { values = values; groups = groups }) k) r
answered_at (a ∷ b ∷ c ∷ d ∷ e ∷ f ∷ rest) groups k zero x n h = refl
answered_at (a ∷ b ∷ c ∷ d ∷ e ∷ f ∷ rest) groups k (suc zero) x n h = refl
answered_at (a ∷ b ∷ c ∷ d ∷ e ∷ f ∷ rest) groups k (suc (suc zero)) x n h = refl
answered_at (a ∷ b ∷ c ∷ d ∷ e ∷ f ∷ rest) groups k (suc (suc (suc zero))) x n h = refl
answered_at (a ∷ b ∷ c ∷ d ∷ e ∷ f ∷ rest) groups k (suc (suc (suc (suc zero)))) x n h = refl
answered_at (a ∷ b ∷ c ∷ d ∷ e ∷ f ∷ rest) groups k (suc (suc (suc (suc (suc zero))))) x n h = refl
answered_at (a ∷ b ∷ c ∷ d ∷ e ∷ f ∷ rest) groups k (suc (suc (suc (suc (suc (suc r)))))) x n h =
    let some : (suc (suc (suc (suc (suc (suc r))))) == 0) ≡ false = grind (arith, nat_tests) in
    let past : nat_le (suc (suc (suc (suc (suc (suc r)))))) 5 ≡ false = grind (arith, nat_tests) in
    rw (some, past) h
answered_at [] groups k r x n h = absurd (let bad : 0 ≡ 11 = n in omega arith)
answered_at (a ∷ []) groups k r x n h = absurd (let bad : 1 ≡ 11 = n in omega arith)
answered_at (a ∷ b ∷ []) groups k r x n h = absurd (let bad : 2 ≡ 11 = n in omega arith)
answered_at (a ∷ b ∷ c ∷ []) groups k r x n h = absurd (let bad : 3 ≡ 11 = n in omega arith)
answered_at (a ∷ b ∷ c ∷ d ∷ []) groups k r x n h = absurd (let bad : 4 ≡ 11 = n in omega arith)
answered_at (a ∷ b ∷ c ∷ d ∷ e ∷ []) groups k r x n h = absurd (let bad : 5 ≡ 11 = n in omega arith)
