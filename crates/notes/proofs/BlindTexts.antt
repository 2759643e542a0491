-- The notes of blind programs after one more.
use Rattle.std.proofs.Common.{ℕ, zero, suc, ◌≡◌, ◌+◌, ◌<◌, Bool, List, [], ◌∷◌, ◌++◌, length, take, get_or, refl, arith, append_assoc, append-nil, add-one, add-zero}
use Rattle.notes.specs.Blind.{blind_text, blind_texts}

blind_texts-take : (bs : List Bool) (n i : ℕ) (d : Bool) → i < length bs
    → blind_texts n (take (suc i) bs) ≡ blind_texts n (take i bs) ++ blind_text (n + i) (get_or bs i d)
blind_texts-take [] n i d h = absurd (omega (arith, h))
blind_texts-take (b ∷ bs) n zero d h = rw (append-nil, add-zero n) refl
blind_texts-take (b ∷ bs) n (suc i) d h =
    let before = blind_texts-take bs (n + 1) i d (omega (arith, h)) in
    let e : n + 1 + i ≡ n + suc i = omega arith in
    rw (before, e, append_assoc) refl

pub blind_texts-next : (bs : List Bool) (i : ℕ) (d : Bool) (first before : List ℕ) → i < length bs
    → before ≡ first ++ blind_texts 0 (take i bs)
    → before ++ blind_text i (get_or bs i d) ≡ first ++ blind_texts 0 (take (i + 1) bs)
blind_texts-next bs i d first before h so =
    let here : 0 + i ≡ i = omega arith in
    rw (add-one i, blind_texts-take bs 0 i d h, here, so, append_assoc) refl
