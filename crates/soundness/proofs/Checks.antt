-- Checks that pass.
use Rattle.std.proofs.Common.{◌≡◌, Bool, true, false, ◌&&◌, List, [], ◌∷◌, None, Some, refl}
use Rattle.base.specs.Check.{Check, check, first_failing}
use Rattle.base.specs.declared.causes.MachineFault.{MachineFault}
use Rattle.machine.specs.State.{State}
use Rattle.machine.specs.Step.{Stepped, after_checks}

-- where none fails, the first one passes, and none of the rest fails
pub first_check : {C : Type 0} (c : C) (b : Bool) (rest : List (Check C)) → first_failing (check c b ∷ rest) ≡ None → (b ≡ true) × (first_failing rest ≡ None)
first_check c true rest e = (refl, e)
first_check c false rest e = absurd (let bad : Some c ≡ None = e in cc)

-- checks that all pass
pub pass_one : {C : Type 0} (c : C) (x : Bool) → x ≡ true → first_failing (check c x ∷ []) ≡ None
pass_one c x e = rw e refl

pub pass_two : {C : Type 0} (c d : C) (x y : Bool) → x ≡ true → y ≡ true → first_failing (check c x ∷ check d y ∷ []) ≡ None
pass_two c d x y e f = rw (e, f) refl

pub pass_three : {C : Type 0} (c d a : C) (x y z : Bool) → x ≡ true → y ≡ true → z ≡ true → first_failing (check c x ∷ check d y ∷ check a z ∷ []) ≡ None
pass_three c d a x y z e f g = rw (e, f, g) refl

pub pass_four : {C : Type 0} (c d a b : C) (x y z u : Bool) → x ≡ true → y ≡ true → z ≡ true → u ≡ true
    → first_failing (check c x ∷ check d y ∷ check a z ∷ check b u ∷ []) ≡ None
pass_four c d a b x y z u e f g h = rw (e, f, g, h) refl

pub pass_five : {C : Type 0} (c d a b i : C) (x y z u v : Bool) → x ≡ true → y ≡ true → z ≡ true → u ≡ true → v ≡ true
    → first_failing (check c x ∷ check d y ∷ check a z ∷ check b u ∷ check i v ∷ []) ≡ None
pass_five c d a b i x y z u v e f g h k = rw (e, f, g, h, k) refl

pub tested_passes : (s : State) (list : List (Check MachineFault)) (done : Stepped) → first_failing list ≡ None → after_checks s list done ≡ done
tested_passes s list done e = rw e refl

pub and_parts : (a b : Bool) → (a && b) ≡ true → (a ≡ true) × (b ≡ true)
and_parts true b e = (refl, e)
and_parts false b e = absurd (let bad : false ≡ true = e in cc)

-- what two, three, four or five checks tell that pass
pub two_tell : {C : Type 0} (c d : C) (x y : Bool) → first_failing (check c x ∷ check d y ∷ []) ≡ None → (x ≡ true) × (y ≡ true)
two_tell c d x y e = let h = first_check c x (check d y ∷ []) e in (h.0, (first_check d y [] h.1).0)

pub three_tell : {C : Type 0} (c d a : C) (x y z : Bool) → first_failing (check c x ∷ check d y ∷ check a z ∷ []) ≡ None → (x ≡ true) × (y ≡ true) × (z ≡ true)
three_tell c d a x y z e =
    let h = first_check c x (check d y ∷ check a z ∷ []) e in
    let k = two_tell d a y z h.1 in (h.0, k.0, k.1)

pub four_tell : {C : Type 0} (c d a b : C) (x y z u : Bool) → first_failing (check c x ∷ check d y ∷ check a z ∷ check b u ∷ []) ≡ None
    → (x ≡ true) × (y ≡ true) × (z ≡ true) × (u ≡ true)
four_tell c d a b x y z u e =
    let h = first_check c x (check d y ∷ check a z ∷ check b u ∷ []) e in
    let k = three_tell d a b y z u h.1 in (h.0, k.0, k.1, k.2)

pub five_tell : {C : Type 0} (c d a b i : C) (x y z u v : Bool) → first_failing (check c x ∷ check d y ∷ check a z ∷ check b u ∷ check i v ∷ []) ≡ None
    → (x ≡ true) × (y ≡ true) × (z ≡ true) × (u ≡ true) × (v ≡ true)
five_tell c d a b i x y z u v e =
    let h = first_check c x (check d y ∷ check a z ∷ check b u ∷ check i v ∷ []) e in
    let k = four_tell d a b i y z u v h.1 in (h.0, k.0, k.1, k.2, k.3)
