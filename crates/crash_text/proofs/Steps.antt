-- Loops over a range, one step more.
use Rattle.std.proofs.Common.{◌≡◌, ℕ, zero, ◌≤◌, ◌⊎◌, inl, inr, take, ◌+◌, ◌-◌, ◌<◌, suc, Bool, true, false, if◌then◌else◌, List, [], ◌∷◌, ◌++◌, length, length-append, append_assoc, filter, slice_get, Option, Some, None, IfSome, refl, sym, ap, ◌∙◌, arith}
use Rattle.std.specs.List.{flat_map, range_with_len, last_or}
use Rattle.std.proofs.lemmas.List.{append-nil, take_all}
use Rattle.std.proofs.lemmas.Option.{same_Some}
use Rattle.epochs.specs.declared.part.Part.{Part}
use Rattle.std.proofs.lemmas.Grind.{flat_map-append}
use Rattle.std.proofs.lemmas.List.Elements.{filter-append}
use Rattle.base.proofs.Lists.{range_with_len-more, range_with_len-append}

one_of : (f : ℕ → List ℕ) (x : ℕ) → flat_map f (x ∷ []) ≡ f x
one_of f x = append-nil (f x)

-- a text to which the next one of a range is appended
pub text_more : (f : ℕ → List ℕ) (old new head : List ℕ) (a n : ℕ) → old ≡ head ++ flat_map f (range_with_len a n) → new ≡ old ++ f (a + n) → new ≡ head ++ flat_map f (range_with_len a (n + 1))
text_more f old new head a n so_far appended =
    let range : flat_map f (range_with_len a (n + 1)) ≡ flat_map f (range_with_len a n) ++ f (a + n) =
    ap (flat_map f) (range_with_len-more a n) ∙ flat_map-append f (range_with_len a n) ((a + n) ∷ []) ∙ ap (λ (xs : List ℕ). flat_map f (range_with_len a n) ++ xs) (one_of f (a + n)) in
    appended ∙ ap (λ (xs : List ℕ). xs ++ f (a + n)) so_far ∙ append_assoc head (flat_map f (range_with_len a n)) (f (a + n)) ∙ ap (λ (xs : List ℕ). head ++ xs) (sym range)

pub text_next : (f : ℕ → List ℕ) (old new head : List ℕ) (n : ℕ) → old ≡ head ++ flat_map f (range_with_len 0 n) → new ≡ old ++ f n → new ≡ head ++ flat_map f (range_with_len 0 (n + 1))
text_next f old new head n so_far appended = text_more f old new head 0 n so_far (let e : 0 + n ≡ n = omega arith in rw e appended)

filter_more : (p : ℕ → Bool) (a n : ℕ) → filter p (range_with_len a (n + 1)) ≡ filter p (range_with_len a n) ++ filter p ((a + n) ∷ [])
filter_more p a n = ap (filter p) (range_with_len-more a n) ∙ filter-append p (range_with_len a n) ((a + n) ∷ [])

-- how many of a range are so
pub count_more : (p : ℕ → Bool) (old new a n : ℕ) → old ≡ length (filter p (range_with_len a n)) → new ≡ old + (if p (a + n) then 1 else 0) → new ≡ length (filter p (range_with_len a (n + 1)))
count_more p old new a n so_far added =
    let whole : length (filter p (range_with_len a (n + 1))) ≡ length (filter p (range_with_len a n)) + length (filter p ((a + n) ∷ [])) =
    ap length (filter_more p a n) ∙ length-append (filter p (range_with_len a n)) (filter p ((a + n) ∷ [])) in
    omega (arith, whole, so_far, added, one (p (a + n)) refl)
  where
    one : (b : Bool) → p (a + n) ≡ b → length (filter p ((a + n) ∷ [])) ≡ (if p (a + n) then 1 else 0)
    one true e = rw e refl
    one false e = rw e refl

-- none of a range is so
pub none_more : (p : ℕ → Bool) (n : ℕ) → filter p (range_with_len 0 n) ≡ [] → p n ≡ false → filter p (range_with_len 0 (n + 1)) ≡ []
none_more p n so_far e = let place : 0 + n ≡ n = omega arith in filter_more p 0 n ∙ rw (so_far, place, e) refl

-- the first of a range that is so
pub first_is : (p : ℕ → Bool) (n m : ℕ) → filter p (range_with_len 0 n) ≡ [] → p n ≡ true → n < m → Some n ≡ slice_get (filter p (range_with_len 0 m)) 0
first_is p n m so_far e below =
    let place : 0 + n ≡ n = omega arith in
    let length_is : n + suc (m - n - 1) ≡ m = omega (arith, below) in
    let range : range_with_len 0 (n + suc (m - n - 1)) ≡ range_with_len 0 n ++ range_with_len (0 + n) (suc (m - n - 1)) = range_with_len-append 0 n (suc (m - n - 1)) in
    let parts : filter p (range_with_len 0 m) ≡ filter p (range_with_len (0 + n) (suc (m - n - 1))) =
    ap (λ (k : ℕ). filter p (range_with_len 0 k)) (sym length_is) ∙ ap (filter p) range ∙ filter-append p (range_with_len 0 n) (range_with_len (0 + n) (suc (m - n - 1)))
    ∙ ap (λ (xs : List ℕ). xs ++ filter p (range_with_len (0 + n) (suc (m - n - 1)))) so_far in
    sym (ap (λ (xs : List ℕ). slice_get xs 0) parts ∙ ap (λ (k : ℕ). slice_get (filter p (range_with_len k (suc (m - n - 1)))) 0) place ∙ found (m - n - 1))
  where
    found : (rest : ℕ) → slice_get (filter p (range_with_len n (suc rest))) 0 ≡ Some n
    found rest = rw e refl

last_push : (o : Option ℕ) (xs : List ℕ) (x : ℕ) → last_or o (xs ++ x ∷ []) ≡ Some x
last_push o [] x = refl
last_push o (y ∷ xs) x = last_push (Some y) xs x

-- the last of a range that is so
pub last_more : (p : ℕ → Bool) (n : ℕ) (last now : Option ℕ) → last ≡ last_or None (filter p (range_with_len 0 n)) → now ≡ (if p n then Some n else last) → now ≡ last_or None (filter p (range_with_len 0 (n + 1)))
last_more p n last now so_far e =
    let place : 0 + n ≡ n = omega arith in
    by (p n) refl ∙ ap (last_or None) (sym (filter_more p 0 n ∙ ap (λ (k : ℕ). filter p (range_with_len 0 n) ++ filter p (k ∷ [])) place))
  where
    by : (b : Bool) → p n ≡ b → now ≡ last_or None (filter p (range_with_len 0 n) ++ filter p (n ∷ []))
    by true is = e ∙ rw is (sym (last_push None (filter p (range_with_len 0 n)) n))
    by false is = e ∙ rw is (so_far ∙ ap (last_or None) (sym (append-nil (filter p (range_with_len 0 n)))))

pub last_below : (n : ℕ) (b : Bool) (last now : Option ℕ) → IfSome last (λ e. e < n) → now ≡ (if b then Some n else last) → IfSome now (λ e. e < n + 1)
last_below n true last now below e = rw e (omega arith)
last_below n false None now below e = rw e tt
last_below n false (Some k) now below e = rw e (omega (arith, below))

-- a text to which the next one of a list is appended
pub part_more : (f : Part → List ℕ) (parts : List Part) (p : Part) (n : ℕ) (old new head : List ℕ) → slice_get parts n ≡ Some p
    → old ≡ head ++ flat_map f (take n parts) → new ≡ old ++ f p → new ≡ head ++ flat_map f (take (n + 1) parts)
part_more f parts p n old new head there so_far appended =
    let next : take (n + 1) parts ≡ take n parts ++ p ∷ [] = take_next parts n p there in
    let grown : flat_map f (take (n + 1) parts) ≡ flat_map f (take n parts) ++ f p =
    ap (flat_map f) next ∙ flat_map-append f (take n parts) (p ∷ []) ∙ ap (λ (xs : List ℕ). flat_map f (take n parts) ++ xs) (append-nil (f p)) in
    appended ∙ ap (λ (xs : List ℕ). xs ++ f p) so_far ∙ append_assoc head (flat_map f (take n parts)) (f p) ∙ ap (λ (xs : List ℕ). head ++ xs) (sym grown)
  where
    take_next : (xs : List Part) (n : ℕ) (p : Part) → slice_get xs n ≡ Some p → take (n + 1) xs ≡ take n xs ++ p ∷ []
    take_next [] n p h = absurd (let bad : None ≡ Some p = h in cc)
    take_next (x ∷ xs) zero p h = let same : x ≡ p = same_Some x p h in rw same refl
    take_next (x ∷ xs) (suc n) p h = let e : suc n + 1 ≡ suc (n + 1) = omega arith in rw e (ap (λ (ys : List Part). x ∷ ys) (take_next xs n p h))

-- as many as there are, and that many at most
pub first_of : (f : Part → List ℕ) (parts : List Part) (n shown count : ℕ) (text head : List ℕ) → n ≡ shown → count ≡ length parts → ((count < 32) × (shown ≡ count)) ⊎ ((32 ≤ count) × (shown ≡ 32))
    → text ≡ head ++ flat_map f (take n parts) → text ≡ head ++ flat_map f (take 32 parts)
first_of f parts n shown count text head end told (inl (few, all)) so_far =
    let whole : n ≡ length parts = omega (arith, end, told, all) in
    so_far ∙ ap (λ (xs : List Part). head ++ flat_map f xs) (ap (λ (k : ℕ). take k parts) whole ∙ take_all (length parts) parts (omega arith) ∙ sym (take_all 32 parts (omega (arith, few, told))))
first_of f parts n shown count text head end told (inr (many, some)) so_far = so_far ∙ ap (λ (k : ℕ). head ++ flat_map f (take k parts)) (end ∙ some)

-- the last of a range that is so, and that it is below its end
pub last_step : (p : ℕ → Bool) (n : ℕ) (last now : Option ℕ) → (last ≡ last_or None (filter p (range_with_len 0 n))) × IfSome last (λ e. e < n) → now ≡ (if p n then Some n else last)
    → (now ≡ last_or None (filter p (range_with_len 0 (n + 1)))) × IfSome now (λ e. e < n + 1)
last_step p n last now so_far e = (last_more p n last now so_far.0 e, last_below n (p n) last now so_far.1 e)
