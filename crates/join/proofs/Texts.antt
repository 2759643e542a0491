-- Texts that are cut, and the same bytes in front of two texts.
use Rattle.std.proofs.Common.{ℕ, suc, ◌≡◌, ◌≢◌, ◌+◌, ◌-◌, ◌<◌, ◌==◌, Bool, true, false, if◌then◌else◌, List, [], ◌∷◌, ◌++◌, length, length-append, take, get_or, Option, Some, None, Bor, MatchOption, refl, ◌∙◌, ap, arith}
use Rattle.std.proofs.Math.Seq.{take-append_seam}
use Rattle.std.proofs.lemmas.Bool.Decides.{nat_tests}
use Rattle.std.proofs.lemmas.Str.Pattern.{IsSplitOnceResult, split_parts}
use Rattle.std.specs.Str.Pattern.{StripsPrefix, StripsSuffix, FindsTextPrefix, FindsTextSuffix}
use Rattle.report.specs.MarkReading.{lacks}
use Rattle.join.specs.Reading.{IsCut, NoCut}

-- no byte at a place is c
pub lacks_each : (c : ℕ) (xs : List ℕ) → ((i : ℕ) → i < length xs → get_or xs i 0 ≢ c) → lacks c xs ≡ true
lacks_each c [] h = refl
lacks_each c (x ∷ xs) h = first (x == c) refl (lacks_each c xs (λ i small. h (suc i) (omega (arith, small))))
  where
    first : (t : Bool) → (x == c) ≡ t → lacks c xs ≡ true → (if t then false else lacks c xs) ≡ true
    first true same rest = absurd (h 0 (omega arith) (grind (arith, nat_tests, same)))
    first false other rest = rest

pub parted : (c : ℕ) (text : List ℕ) (r : Option (Bor (List ℕ) × Bor (List ℕ))) → IsSplitOnceResult c text r → c < 128
    → MatchOption r (NoCut c text) (λ x. IsCut c text x.0.now x.1.now)
parted c text None split ascii = record { none = lacks_each c text (split_parts c text None split ascii) }
parted c text (Some x) split ascii =
    let (is, first) = split_parts c text (Some x) split ascii in
    record { is = is; first = lacks_each c x.0.now first }

-- a cut at the first c has one front and one back
pub one_cut : (c : ℕ) (xs ys us vs : List ℕ) → lacks c xs ≡ true → lacks c ys ≡ true → xs ++ c ∷ us ≡ ys ++ c ∷ vs → (xs ≡ ys) × (us ≡ vs)
one_cut c [] [] us vs l m e = (refl, let same : c ∷ us ≡ c ∷ vs = e in cc)
one_cut c [] (y ∷ ys) us vs l m e = absurd (first (y == c) refl m)
  where
    here : c ≡ y
    here = let same : c ∷ us ≡ y ∷ (ys ++ c ∷ vs) = e in cc

    first : (t : Bool) → (y == c) ≡ t → (if t then false else lacks c ys) ≡ true → ⊥
    first true same bad = let lack : false ≡ true = bad in cc
    first false other own = grind (arith, nat_tests, here, other)
one_cut c (x ∷ xs) [] us vs l m e = absurd (first (x == c) refl l)
  where
    here : x ≡ c
    here = let same : x ∷ (xs ++ c ∷ us) ≡ c ∷ vs = e in cc

    first : (t : Bool) → (x == c) ≡ t → (if t then false else lacks c xs) ≡ true → ⊥
    first true same bad = let lack : false ≡ true = bad in cc
    first false other own = grind (arith, nat_tests, here, other)
one_cut c (x ∷ xs) (y ∷ ys) us vs l m e =
    let same : x ∷ (xs ++ c ∷ us) ≡ y ∷ (ys ++ c ∷ vs) = e in
    let head : x ≡ y = cc in
    let tail : xs ++ c ∷ us ≡ ys ++ c ∷ vs = cc in
    let rest = one_cut c xs ys us vs (rest_lacks x xs l) (rest_lacks y ys m) tail in
    let first = rest.0 in
    (cc, rest.1)
  where
    rest_lacks : (z : ℕ) (zs : List ℕ) → lacks c (z ∷ zs) ≡ true → lacks c zs ≡ true
    rest_lacks z zs = by_test (z == c)
      where
        by_test : (t : Bool) → (if t then false else lacks c zs) ≡ true → lacks c zs ≡ true
        by_test true bad = absurd (let lack : false ≡ true = bad in cc)
        by_test false own = own

-- the same bytes in front
pub cancel : (xs us vs : List ℕ) → xs ++ us ≡ xs ++ vs → us ≡ vs
cancel [] us vs e = e
cancel (x ∷ xs) us vs e = let same : x ∷ (xs ++ us) ≡ x ∷ (xs ++ vs) = e in cancel xs us vs (let tail : xs ++ us ≡ xs ++ vs = cc in tail)

-- a text with or without these words in front
pub fronted : (words text : List ℕ) (r : Option (Bor (List ℕ))) → MatchOption r (FindsTextPrefix words text None) (λ x. StripsPrefix (FindsTextPrefix words) text x.now)
    → MatchOption r ((rest : List ℕ) → text ≢ words ++ rest) (λ x. text ≡ words ++ x.now)
fronted words text None h = h
fronted words text (Some x) (n, (long, is, at), rest, all) = rw rest is

-- the bytes before the last ones
pub front_is : (text rest front : List ℕ) → text ≡ front ++ rest → take (length text - length rest) text ≡ front
front_is text rest front e =
    let long : length text ≡ length front + length rest = ap length e ∙ length-append front rest in
    let at : length text - length rest ≡ length front = omega (arith, long) in
    rw (at, e) (take-append_seam front rest)

same : (c : ℕ) → (c == c) ≡ true
same c = grind (arith, nat_tests)

pub has_it : (c : ℕ) (xs ys : List ℕ) → lacks c (xs ++ c ∷ ys) ≡ true → ⊥
has_it c [] ys l = first (c == c) (same c) l
  where
    first : (t : Bool) → t ≡ true → (if t then false else lacks c ys) ≡ true → ⊥
    first true is bad = let lack : false ≡ true = bad in cc
    first false is own = let lack : false ≡ true = is in cc
has_it c (x ∷ xs) ys l = first (x == c) l (has_it c xs ys)
  where
    first : (t : Bool) → (if t then false else lacks c (xs ++ c ∷ ys)) ≡ true → (lacks c (xs ++ c ∷ ys) ≡ true → ⊥) → ⊥
    first true bad rest = let lack : false ≡ true = bad in cc
    first false own rest = rest own

-- a text with or without these words at its end
pub backed : (words text : List ℕ) (r : Option (Bor (List ℕ))) → MatchOption r (FindsTextSuffix words text None) (λ x. StripsSuffix (FindsTextSuffix words) text x.now)
    → MatchOption r ((front : List ℕ) → text ≢ front ++ words) (λ x. text ≡ x.now ++ words)
backed words text None h = h
backed words text (Some x) (n, (long, is, at), front, all) = rw front is
