-- The marked ones of some departures.
use Rattle.std.proofs.Common.{ℕ, zero, suc, ◌≡◌, ◌+◌, ◌==◌, ◌≤◌, IsTrue, Bool, true, false, if◌then◌else◌, List, [], ◌∷◌, ◌++◌, length, take, slice_get, Some, None, refl, sym, ap, ◌∙◌, arith, add-one, append-nil}
use Rattle.std.specs.List.{slice_index_or}
use Rattle.std.proofs.lemmas.Bool.Decides.{nat_tests}
use Rattle.std.proofs.lemmas.List.{take_all}
use Rattle.std.proofs.lemmas.Option.{same_Some}
use Rattle.choices.specs.declared.pick.Pick.{Pick}
use Rattle.choices.specs.Picked.{marked_picks}

pub none_marked : (marks : List Bool) → marked_picks marks [] ≡ []
none_marked [] = refl
none_marked (b ∷ marks) = refl

abbrev pub if_marked : Bool → Pick → List Pick
if_marked mark x = if mark then x ∷ [] else []

pub marked_more : (marks : List Bool) (picks : List Pick) (i : ℕ) (x : Pick) → slice_get picks i ≡ Some x
    → marked_picks marks (take (suc i) picks) ≡ marked_picks marks (take i picks) ++ if_marked (slice_index_or marks i false) x
marked_more [] picks i x there = refl
marked_more (b ∷ marks) [] i x there = absurd (let bad : None ≡ Some x = there in cc)
marked_more (true ∷ marks) (p ∷ picks) zero x there = ap (λ (rest : List Pick). p ∷ rest) (none_marked marks) ∙ ap (λ (y : Pick). y ∷ []) (same_Some p x there)
marked_more (false ∷ marks) (p ∷ picks) zero x there = none_marked marks
marked_more (true ∷ marks) (p ∷ picks) (suc i) x there = ap (λ (rest : List Pick). p ∷ rest) (marked_more marks picks i x there)
marked_more (false ∷ marks) (p ∷ picks) (suc i) x there = marked_more marks picks i x there

taken_on : (own : List Pick) (i : ℕ) (x : Pick) → slice_get own i ≡ Some x → take i own ++ x ∷ [] ≡ take (suc i) own
taken_on [] i x there = absurd (let bad : None ≡ Some x = there in cc)
taken_on (p ∷ own) zero x there = ap (λ (y : Pick). y ∷ []) (sym (same_Some p x there))
taken_on (p ∷ own) (suc i) x there = ap (λ (rest : List Pick). p ∷ rest) (taken_on own i x there)

-- after the last of them, all are marked that there are
pub all_marked : (marks : List Bool) (picks own : List Pick) (place seen : ℕ) → length picks ≤ place → marked_picks marks (take place picks) ≡ take seen own
    → IsTrue (seen == length own) → marked_picks marks picks ≡ own
all_marked marks picks own place seen past so whole =
    let same : seen ≡ length own = grind (arith, nat_tests) in
    ap (marked_picks marks) (sym (take_all place picks past)) ∙ so ∙ take_all seen own (omega arith)

-- one more, which is marked or isn't
pub marked_on : (marks : List Bool) (picks own : List Pick) (place seen : ℕ) (x : Pick) → slice_get picks place ≡ Some x → slice_index_or marks place false ≡ true
    → slice_get own seen ≡ Some x → marked_picks marks (take place picks) ≡ take seen own → marked_picks marks (take (place + 1) picks) ≡ take (seen + 1) own
marked_on marks picks own place seen x there mark next so =
    ap (λ (n : ℕ). marked_picks marks (take n picks)) (add-one place)
    ∙ marked_more marks picks place x there
    ∙ ap (λ (b : Bool). marked_picks marks (take place picks) ++ if_marked b x) mark
    ∙ ap (λ (front : List Pick). front ++ x ∷ []) so
    ∙ taken_on own seen x next
    ∙ ap (λ (n : ℕ). take n own) (sym (add-one seen))

pub unmarked_on : (marks : List Bool) (picks own : List Pick) (place seen : ℕ) (x : Pick) → slice_get picks place ≡ Some x → slice_index_or marks place false ≡ false
    → marked_picks marks (take place picks) ≡ take seen own → marked_picks marks (take (place + 1) picks) ≡ take seen own
unmarked_on marks picks own place seen x there mark so =
    ap (λ (n : ℕ). marked_picks marks (take n picks)) (add-one place)
    ∙ marked_more marks picks place x there
    ∙ ap (λ (b : Bool). marked_picks marks (take place picks) ++ if_marked b x) mark
    ∙ append-nil (marked_picks marks (take place picks))
    ∙ so
