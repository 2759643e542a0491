-- How rows make up a sector, and what the mask of a comparison says of two rows.
use Rattle.std.proofs.Common.{◌≡◌, ◌↔◌, ℕ, ◌+◌, ◌*◌, ◌%◌, ◌^◌, ◌<◌, ◌≤◌, Bool, not, cond, eqb, nat_eq, IsTrue, List, [], ◌∷◌, ◌++◌, length, map, take, drop, replicate, refl, sym, ap, subst, ◌∙◌, inl, inr, arith, w8, append_assoc}
use Rattle.std.proofs.lemmas.Bool.{eq-eqb, eqb-true}
use Rattle.std.proofs.lemmas.Bool.Decides.{eqb_tells}
use Rattle.std.proofs.lemmas.Grind.{same_number_lists}
use Rattle.std.proofs.lemmas.List.{take_all, length-take-le, drop-drop, get_or-replicate}
use Rattle.std.proofs.lemmas.List.Elements.{All-append, All-drop, All-take, All-replicate, All-same}
use Rattle.std.proofs.lemmas.Simd.{tops_compared, mask_l-mod, length-zip2, length-chunk, put_chunk_is}
use Rattle.std.proofs.Math.Seq.{take-add, take-append_seam, drop-append_seam}
use Rattle.std.specs.Simd.Lanes.{mask_l, zip2, top, put_chunk, chunk}
use Rattle.lanes.specs.Rows.{row_of}
use Rattle.lanes.specs.Sector.{IsZero}

-- ---- rows

pub row_of-chunk : (bytes : List ℕ) (row : ℕ) → chunk (64 * row) 64 bytes ≡ row_of bytes row
unfolding row_of
row_of-chunk bytes row = refl

pub length-row_of : (bytes : List ℕ) (row : ℕ) → 64 * row + 64 ≤ length bytes → length (row_of bytes row) ≡ 64
unfolding row_of
length-row_of bytes row room = length-chunk (64 * row) 64 bytes room

-- the rows so far, and one more
take-row_of : (bytes : List ℕ) (row : ℕ) → take (64 * (row + 1)) bytes ≡ take (64 * row) bytes ++ row_of bytes row
unfolding row_of
take-row_of bytes row =
    let more : 64 * (row + 1) ≡ 64 * row + 64 = omega arith in
    rw more (take-add (64 * row) 64 bytes)

-- ---- equal sectors

pub same_so_far : (xs ys : List ℕ) (row : ℕ) → take (64 * row) xs ≡ take (64 * row) ys → row_of xs row ≡ row_of ys row → take (64 * (row + 1)) xs ≡ take (64 * (row + 1)) ys
same_so_far xs ys row before here =
    let left = take-row_of xs row in
    let right = take-row_of ys row in
    cc

pub same_whole : (xs ys : List ℕ) (row : ℕ) → length xs ≡ 512 → length ys ≡ 512 → 8 ≤ row → take (64 * row) xs ≡ take (64 * row) ys → xs ≡ ys
same_whole xs ys row left right all same =
    sym (take_all (64 * row) xs (omega arith)) ∙ same ∙ take_all (64 * row) ys (omega arith)

-- ---- a sector of zeros

pub zero_so_far : (bytes : List ℕ) (row : ℕ) → IsZero (take (64 * row) bytes) → row_of bytes row ≡ replicate {A = ℕ} 64 0 → IsZero (take (64 * (row + 1)) bytes)
zero_so_far bytes row before here =
    let zero = All-same (λ byte. byte ≡ 0) _ _ here (All-replicate (λ byte. byte ≡ 0) 64 0 refl) in
    All-same (λ byte. byte ≡ 0) _ _ (take-row_of bytes row) (All-append (λ byte. byte ≡ 0) (take (64 * row) bytes) (row_of bytes row) before zero)

pub zero_row : (bytes : List ℕ) (row : ℕ) → 64 * row + 64 ≤ length bytes → IsZero bytes → row_of bytes row ≡ replicate {A = ℕ} 64 0
unfolding row_of
zero_row bytes row room zero =
    let here = All-take (λ byte. byte ≡ 0) 64 _ (All-drop (λ byte. byte ≡ 0) (64 * row) bytes zero) in
    let long = length-row_of bytes row room in
    same_number_lists _ _ long (λ k lt. here k 0 lt ∙ sym (get_or-replicate 64 k 0 0 (omega arith)))

pub zero_whole : (bytes : List ℕ) (row : ℕ) → length bytes ≡ 512 → 8 ≤ row → IsZero (take (64 * row) bytes) → IsZero bytes
zero_whole bytes row long all zero = All-same (λ byte. byte ≡ 0) _ _ (sym (take_all (64 * row) bytes (omega arith))) zero

-- ---- the head of one sector and the tail of another

pub put_row : (bytes lanes : List ℕ) (row : ℕ) → 64 * row + 64 ≤ length bytes → length lanes ≡ 64
    → put_chunk (64 * row) bytes lanes ≡ take (64 * row) bytes ++ lanes ++ drop (64 * row + 64) bytes
put_row bytes lanes row room long =
    put_chunk_is (64 * row) bytes lanes (omega arith)
    ∙ ap (λ rest. take (64 * row) bytes ++ (lanes ++ rest)) (ap (λ n. drop n (drop (64 * row) bytes)) long ∙ drop-drop 64 (64 * row) bytes)
    ∙ sym (append_assoc (take (64 * row) bytes) lanes (drop (64 * row + 64) bytes))

-- one row more of the head
pub spliced_more : (new old so_far next : List ℕ) (row : ℕ) → length new ≡ 512 → row < 8 → so_far ≡ take (64 * row) new ++ drop (64 * row) old
    → next ≡ take (64 * row) so_far ++ row_of new row ++ drop (64 * row + 64) so_far → next ≡ take (64 * (row + 1)) new ++ drop (64 * (row + 1)) old
spliced_more new old so_far next row long_new lt before now =
    let at = 64 * row in
    let head = take at new in
    let tail = drop at old in
    let more : 64 * (row + 1) ≡ at + 64 = omega arith in
    let long : length head ≡ at = length-take-le at new (omega arith) in
    let kept : take at so_far ≡ head = ap (take at) before ∙ ap (λ n. take n (head ++ tail)) (sym long) ∙ take-append_seam head tail in
    let rest : drop (at + 64) so_far ≡ drop (at + 64) old =
    sym (drop-drop 64 at so_far) ∙ ap (drop 64) (ap (drop at) before ∙ ap (λ n. drop n (head ++ tail)) (sym long) ∙ drop-append_seam head tail) ∙ drop-drop 64 at old in
    now ∙ ap (λ xs. xs ++ row_of new row ++ drop (at + 64) so_far) kept ∙ ap (λ ys. head ++ row_of new row ++ ys) rest
    ∙ ap (λ xs. xs ++ drop (at + 64) old) (sym (take-row_of new row)) ∙ ap (λ n. take (64 * (row + 1)) new ++ drop n old) (sym more)

-- ---- masks

-- whether two lanes differ
abbrev pub differ : ℕ → ℕ → Bool
differ a b = not (eqb a b)

mask-same : (xs : List ℕ) → mask_l (zip2 differ xs xs) ≡ 0
mask-same [] = refl
mask-same (x ∷ xs) = rw (eq-eqb x x refl) (omega (arith, mask-same xs))

same_from_mask : (xs ys : List ℕ) → length xs ≡ length ys → mask_l (zip2 differ xs ys) ≡ 0 → xs ≡ ys
same_from_mask [] [] long none = refl
same_from_mask [] (y ∷ ys) long none = absurd (omega arith)
same_from_mask (x ∷ xs) [] long none = absurd (omega arith)
same_from_mask (x ∷ xs) (y ∷ ys) long none =
    elim (eqb_tells x y) [
      | inl equal ↦
          let first = equal.1 in
          let rest = same_from_mask xs ys (omega arith) (omega arith) in
          cc
      | inr other ↦
          let set : 1 + 2 * mask_l (zip2 differ xs ys) ≡ 0 = rw other.0 at none in
          absurd (omega arith)
    ]

-- the bits of a comparison by lanes: none is set exactly where the two vectors are equal
pub mask_tells : (xs ys : List ℕ) → length xs ≡ 64 → length ys ≡ 64
    → IsTrue (nat_eq (mask_l (map (top 7) (zip2 (λ a b. cond (differ a b) 255 0) xs ys)) % 2 ^ 64) 0) ↔ (xs ≡ ys)
mask_tells xs ys left right =
    let bits = ap (λ (ms : List Bool). mask_l ms % 2 ^ 64) (tops_compared w8 differ xs ys) ∙ mask_l-mod (zip2 differ xs ys) 64 (omega (arith, length-zip2 differ xs ys (omega arith))) in (
      λ none. same_from_mask xs ys (omega arith) (sym bits ∙ eqb-true _ 0 none),
      λ same. eq-eqb _ 0 (bits ∙ subst (λ zs. mask_l (zip2 differ xs zs) ≡ 0) same (mask-same xs)),
    )
