-- Arrays that a loop fills from others.
use Rattle.std.proofs.Common.{◌≡◌, ℕ, suc, ◌<◌, List, [], ◌∷◌, length, map, get_or, replicate, false, refl, arith}
use Rattle.std.proofs.lemmas.List.{get_or_default}
use Rattle.verifier.specs.declared.unsigned_state.UnsignedGroup.{UnsignedGroup}
use Rattle.verifier.specs.declared.unsigned_state.UnsignedGroup.TheVariants as group

pub filled : {W X Y : Type 0} (f : X → Y) (g : W → Y) (a : List W) (out : List X) (d : X) (e : W) → length out ≡ length a
    → ((k : ℕ) → k < length a → f (get_or out k d) ≡ g (get_or a k e)) → map f out ≡ map g a
filled f g [] [] d e long h = refl
filled f g [] (o ∷ os) d e long h = absurd (let bad : suc (length os) ≡ 0 = long in cc)
filled f g (x ∷ xs) [] d e long h = absurd (let bad : 0 ≡ suc (length xs) = long in cc)
filled f g (x ∷ xs) (o ∷ os) d e long h =
    let here : f o ≡ g x = h 0 (omega arith) in
    let less : length os ≡ length xs = omega arith in
    let rest : map f os ≡ map g xs = filled f g xs os d e less (λ k small. h (suc k) (omega arith)) in
    rw (here, rest) refl

-- what was read at a place is what stands there, by any default
pub read : {W X Y : Type 0} (f : X → Y) (g : W → Y) (a : List W) (k : ℕ) (u e : W) (r : X) → k < length a → f r ≡ g (get_or a k u) → f r ≡ g (get_or a k e)
read f g a k u e r inside h = rw (get_or_default a k e u inside) h

-- a group that stands in where a list has no more
pub nothing : UnsignedGroup
nothing = group.Marked (record { written = replicate 8 false; all = refl })
