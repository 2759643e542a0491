-- Texts that are cut at a mark, and bytes at their first newline.
use Rattle.std.proofs.Common.{ℕ, zero, suc, ◌≡◌, ◌≢◌, ◌+◌, ◌-◌, ◌<◌, ◌≤◌, ◌==◌, Bool, true, false, if◌then◌else◌, List, [], ◌∷◌, ◌++◌, length, take, drop, get_or, Option, Some, None, Bor, MatchOption, refl, sym, ◌∙◌, ap, add-one, inl, inr, arith}
use Rattle.std.specs.Prelude.{cond, eqb, position, nat_lt, not}
use Rattle.std.specs.List.{position_or_len}
use Rattle.std.proofs.lemmas.Bool.Decides.{nat_tests, eqb_tells}
use Rattle.std.proofs.lemmas.List.Quantifiers.{position-Some}
use Rattle.std.proofs.lemmas.Option.{slice_get-get_or}
use Rattle.std.proofs.lemmas.Str.Pattern.{IsSplitOnceResult, split_parts}
use Rattle.base.proofs.Lists.{split_at_place}
use Rattle.report.specs.MarkReading.{lacks}
use Rattle.known_text.specs.Reading.{IsCut, NoCut}

-- no byte at a place is c
pub lacks_each : (c : ℕ) (xs : List ℕ) → ((i : ℕ) → i < length xs → get_or xs i 0 ≢ c) → lacks c xs ≡ true
lacks_each c [] h = refl
lacks_each c (x ∷ xs) h = first (x == c) refl (lacks_each c xs (λ i small. h (suc i) (omega (arith, small))))
  where
    first : (t : Bool) → (x == c) ≡ t → lacks c xs ≡ true → (if t then false else lacks c xs) ≡ true
    first true same rest = absurd (h 0 (omega arith) (grind (arith, nat_tests, same)))
    first false other rest = rest

pub parted : (c : ℕ) (text : List ℕ) (r : Option (Bor (List ℕ) × Bor (List ℕ))) → IsSplitOnceResult c text r → c < 128
    → MatchOption r (NoCut c text) (λ x. IsCut c text x.0.now x.1.now)
parted c text None split ascii = record { none = lacks_each c text (split_parts c text None split ascii) }
parted c text (Some x) split ascii =
    let (is, first) = split_parts c text (Some x) split ascii in
    record { is = is; first = lacks_each c x.0.now first }

-- a cut at the first c has one front and one back
pub one_cut : (c : ℕ) (xs ys us vs : List ℕ) → lacks c xs ≡ true → lacks c ys ≡ true → xs ++ c ∷ us ≡ ys ++ c ∷ vs → (xs ≡ ys) × (us ≡ vs)
one_cut c [] [] us vs l m e = (refl, let same : c ∷ us ≡ c ∷ vs = e in cc)
one_cut c [] (y ∷ ys) us vs l m e = absurd (first (y == c) refl m)
  where
    here : c ≡ y
    here = let same : c ∷ us ≡ y ∷ (ys ++ c ∷ vs) = e in cc

    first : (t : Bool) → (y == c) ≡ t → (if t then false else lacks c ys) ≡ true → ⊥
    first true same bad = let lack : false ≡ true = bad in cc
    first false other own = grind (arith, nat_tests, here, other)
one_cut c (x ∷ xs) [] us vs l m e = absurd (first (x == c) refl l)
  where
    here : x ≡ c
    here = let same : x ∷ (xs ++ c ∷ us) ≡ c ∷ vs = e in cc

    first : (t : Bool) → (x == c) ≡ t → (if t then false else lacks c xs) ≡ true → ⊥
    first true same bad = let lack : false ≡ true = bad in cc
    first false other own = grind (arith, nat_tests, here, other)
one_cut c (x ∷ xs) (y ∷ ys) us vs l m e =
    let same : x ∷ (xs ++ c ∷ us) ≡ y ∷ (ys ++ c ∷ vs) = e in
    let head : x ≡ y = cc in
    let tail : xs ++ c ∷ us ≡ ys ++ c ∷ vs = cc in
    let rest = one_cut c xs ys us vs (rest_lacks x xs l) (rest_lacks y ys m) tail in
    let first = rest.0 in
    (cc, rest.1)
  where
    rest_lacks : (z : ℕ) (zs : List ℕ) → lacks c (z ∷ zs) ≡ true → lacks c zs ≡ true
    rest_lacks z zs = by_test (z == c)
      where
        by_test : (t : Bool) → (if t then false else lacks c zs) ≡ true → lacks c zs ≡ true
        by_test true bad = absurd (let lack : false ≡ true = bad in cc)
        by_test false own = own

same : (c : ℕ) → (c == c) ≡ true
same c = grind (arith, nat_tests)

pub has_it : (c : ℕ) (xs ys : List ℕ) → lacks c (xs ++ c ∷ ys) ≡ true → ⊥
has_it c [] ys l = first (c == c) (same c) l
  where
    first : (t : Bool) → t ≡ true → (if t then false else lacks c ys) ≡ true → ⊥
    first true is bad = let lack : false ≡ true = bad in cc
    first false is own = let lack : false ≡ true = is in cc
has_it c (x ∷ xs) ys l = first (x == c) l (has_it c xs ys)
  where
    first : (t : Bool) → (if t then false else lacks c (xs ++ c ∷ ys)) ≡ true → (lacks c (xs ++ c ∷ ys) ≡ true → ⊥) → ⊥
    first true bad rest = let lack : false ≡ true = bad in cc
    first false own rest = rest own

-- two bytes are told to be the same where they are
pub byte_decides : (a b : ℕ) → (eqb a b ≡ true → a ≡ b) × (a ≡ b → eqb a b ≡ true)
byte_decides a b = elim (eqb_tells a b) [
  | inl same ↦ (λ is. same.1, λ is. same.0)
  | inr other ↦ (λ is. absurd (let bad : false ≡ true = sym other.0 ∙ is in cc), λ is. absurd (other.1 is))
]

-- bytes at their first newline

-- what stands after the first ones, cut at the end
take_all : (xs : List ℕ) → take (length xs) xs ≡ xs
take_all [] = refl
take_all (x ∷ xs) = ap (λ (ys : List ℕ). x ∷ ys) (take_all xs)

no_bytes : (n : ℕ) → take {A = ℕ} n [] ≡ []
no_bytes zero = refl
no_bytes (suc n) = refl

get_or-take : (xs : List ℕ) (n i : ℕ) → i < n → i < length (take n xs) → get_or (take n xs) i 0 ≡ get_or xs i 0
get_or-take [] n i less small = ap (λ (ys : List ℕ). get_or ys i 0) (no_bytes n)
get_or-take (x ∷ xs) zero i less small = absurd (omega (arith, less))
get_or-take (x ∷ xs) (suc n) zero less small = refl
get_or-take (x ∷ xs) (suc n) (suc i) less small = get_or-take xs n i (omega (arith, less)) (omega (arith, small))

take_short : (xs : List ℕ) (n : ℕ) → n < length xs → length (take n xs) ≡ n
take_short [] n less = absurd (omega (arith, less))
take_short (x ∷ xs) zero less = refl
take_short (x ∷ xs) (suc n) less = ap suc (take_short xs n (omega (arith, less)))

pub line_found : (bytes : List ℕ) (place : ℕ) → position (λ (b : ℕ). b == 10) bytes ≡ Some place → IsCut 10 bytes (take place bytes) (drop (place + 1) bytes)
line_found bytes place e =
    let (inside, there, before) = position-Some (λ (b : ℕ). b == 10) bytes place 0 e in
    let newline : get_or bytes place 0 ≡ 10 = grind (arith, nat_tests, there) in
    let parts = split_at_place bytes place (get_or bytes place 0) (slice_get-get_or bytes place 0 inside) in
    let short = take_short bytes place inside in
    record {
      is = parts ∙ ap (λ (b : ℕ). take place bytes ++ b ∷ drop (suc place) bytes) newline ∙ ap (λ (n : ℕ). take place bytes ++ 10 ∷ drop n bytes) (sym (add-one place));
      first = lacks_each 10 (take place bytes)
          (λ i small bad.
          let less : i < place = omega (arith, small, short) in
          let other : (get_or bytes i 0 == 10) ≡ false = before i less in
          let here : get_or bytes i 0 ≡ 10 = sym (get_or-take bytes place i less small) ∙ bad in
          (grind (arith, nat_tests, other, here)));
    }

pub take_rest : (xs : List ℕ) (n : ℕ) → take (length xs - n) (drop n xs) ≡ drop n xs
take_rest [] zero = no_bytes (0 - 0)
take_rest [] (suc n) = no_bytes (0 - suc n)
take_rest (x ∷ xs) zero =
    let long : length (x ∷ xs) - 0 ≡ length (x ∷ xs) = omega arith in
    ap (λ (k : ℕ). take k (x ∷ xs)) long ∙ take_all (x ∷ xs)
take_rest (x ∷ xs) (suc n) =
    let long : length (x ∷ xs) - suc n ≡ length xs - n = omega arith in
    ap (λ (k : ℕ). take k (drop n xs)) long ∙ take_rest xs n

-- texts that begin with other bytes are others
pub other_first : (xs ys : List ℕ) → get_or xs 0 0 < get_or ys 0 0 → xs ≡ ys → ⊥
other_first xs ys less e = let same : get_or xs 0 0 ≡ get_or ys 0 0 = ap (λ (bs : List ℕ). get_or bs 0 0) e in omega (arith, less, same)

lack_all : (bytes : List ℕ) → length bytes ≤ position_or_len (λ (b : ℕ). b == 10) bytes → lacks 10 bytes ≡ true
lack_all [] h = refl
lack_all (b ∷ bytes) h = first (b == 10) h (lack_all bytes)
  where
    first : (t : Bool) → suc (length bytes) ≤ cond (not t) (1 + position_or_len (λ (x : ℕ). x == 10) bytes) 0
        → (length bytes ≤ position_or_len (λ (x : ℕ). x == 10) bytes → lacks 10 bytes ≡ true) → (if t then false else lacks 10 bytes) ≡ true
    first true long rest = absurd (omega (arith, long))
    first false long rest = rest (omega (arith, long))

pub no_line : (bytes : List ℕ) → position (λ (b : ℕ). b == 10) bytes ≡ None → NoCut 10 bytes
no_line bytes e = record { none = lack_all bytes (by_test (nat_lt place (length bytes)) refl e) }
  where
    place : ℕ
    place = position_or_len (λ (b : ℕ). b == 10) bytes

    by_test : (t : Bool) → nat_lt place (length bytes) ≡ t → cond t (Some place) None ≡ None → length bytes ≤ place
    by_test true is bad = absurd (let some : Some place ≡ None = bad in cc)
    by_test false is none = grind (arith, nat_tests, is)
