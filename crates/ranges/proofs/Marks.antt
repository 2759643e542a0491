-- Bytes of the stack, looked at one after the other.
use Rattle.std.proofs.Common.{◌≡◌, ℕ, suc, ◌+◌, ◌-◌, ◌<◌, ◌≤◌, Bool, true, false, not, ◌&&◌, List, [], ◌∷◌, refl, arith, sym, ◌∙◌}
use Rattle.ranges.specs.declared.place.ByteMark.{ByteMark}
use Rattle.ranges.specs.Groups.{GroupKind, zip_with}
use Rattle.ranges.specs.Places.{mark_at, is_mark, none_is}

none_more : (m : ByteMark) (groups : List GroupKind) (at n : ℕ)
    → none_is m groups at (suc n) ≡ (not (is_mark (mark_at groups at) m) && none_is m groups (at + 1) n)
unfolding none_is
none_more m groups at n = refl

-- a byte without the mark: the answer is that of the bytes after it
pub none_next : (m : ByteMark) (groups : List GroupKind) (at n k : ℕ) (whole : Bool) → k < n
    → is_mark (mark_at groups (at + k)) m ≡ false
    → none_is m groups (at + k) (n - k) ≡ whole
    → none_is m groups (at + (k + 1)) (n - (k + 1)) ≡ whole
none_next m groups at n k whole inside other so =
    let left : n - k ≡ suc (n - (k + 1)) = omega arith in
    let next : at + k + 1 ≡ at + (k + 1) = omega arith in
    let so2 : none_is m groups (at + k) (suc (n - (k + 1))) ≡ whole = rw (← left) so in
    let so3 : (not (is_mark (mark_at groups (at + k)) m) && none_is m groups (at + k + 1) (n - (k + 1))) ≡ whole = sym (none_more m groups (at + k) (n - (k + 1))) ∙ so2 in
    let so4 : (not false && none_is m groups (at + k + 1) (n - (k + 1))) ≡ whole = rw other at so3 in
    rw (← next) so4

-- a byte with the mark: the answer is false
pub none_here : (m : ByteMark) (groups : List GroupKind) (at n k : ℕ) (whole : Bool) → k < n
    → is_mark (mark_at groups (at + k)) m ≡ true
    → none_is m groups (at + k) (n - k) ≡ whole
    → false ≡ whole
none_here m groups at n k whole inside same so =
    let left : n - k ≡ suc (n - (k + 1)) = omega arith in
    let so2 : none_is m groups (at + k) (suc (n - (k + 1))) ≡ whole = rw (← left) so in
    let so3 : (not (is_mark (mark_at groups (at + k)) m) && none_is m groups (at + k + 1) (n - (k + 1))) ≡ whole = sym (none_more m groups (at + k) (n - (k + 1))) ∙ so2 in
    let so4 : (not true && none_is m groups (at + k + 1) (n - (k + 1))) ≡ whole = rw same at so3 in
    so4

-- no byte is left: the answer is true
pub none_ends : (m : ByteMark) (groups : List GroupKind) (at n k : ℕ) (whole : Bool) → n ≤ k
    → none_is m groups (at + k) (n - k) ≡ whole
    → true ≡ whole
unfolding none_is
none_ends m groups at n k whole past so =
    let left : n - k ≡ 0 = omega arith in
    let so2 : none_is m groups (at + k) 0 ≡ whole = rw left at so in
    so2

-- marks that are the same are those that both have
and_self : (x : Bool) → (x && x) ≡ x
and_self true = refl
and_self false = refl

pub same_marks : (xs ys : List Bool) → xs ≡ ys → zip_with (λ a b. a && b) xs ys ≡ xs
unfolding zip_with
same_marks [] ys e = refl
same_marks (x ∷ xs) [] e = absurd (let bad : x ∷ xs ≡ [] = e in cc)
same_marks (x ∷ xs) (y ∷ ys) e =
    let first : x ≡ y = cc in
    let rest : xs ≡ ys = cc in
    let both : (x && y) ≡ x = rw (← first) (and_self x) in
    rw (both, same_marks xs ys rest) refl
