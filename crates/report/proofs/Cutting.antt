-- Texts that are cut at a mark.
use Rattle.std.proofs.Common.{◌≡◌, ℕ, ◌+◌, ◌<◌, ◌==◌, suc, true, List, [], ◌∷◌, ◌++◌, length, length-append, Option, Some, None, Bor, MatchOption, refl, ◌∙◌, arith}
use Rattle.std.specs.List.{position_or_len, before_first, after_first}
use Rattle.std.proofs.Math.Seq.{take-append_seam, drop-append-add}
use Rattle.std.proofs.lemmas.Bool.Decides.{nat_tests}
use Rattle.std.proofs.lemmas.Str.Pattern.{IsSplitOnceResult, split_once_first}
use Rattle.report.specs.Reading.{Lacks, IsCutAt, NoCutAt}

pub lacks_append : (c : ℕ) (xs ys : List ℕ) → Lacks c xs → Lacks c ys → Lacks c (xs ++ ys)
lacks_append c [] ys a b = b
lacks_append c (x ∷ xs) ys a b = (a.0, lacks_append c xs ys a.1 b)

same : (c : ℕ) → (c == c) ≡ true
same c = grind (arith, nat_tests)

-- the place of the first c
place_is : (c : ℕ) (xs ys : List ℕ) → Lacks c xs → position_or_len (λ (b : ℕ). b == c) (xs ++ c ∷ ys) ≡ length xs
place_is c [] ys l = rw (same c) refl
place_is c (x ∷ xs) ys l = rw (l.0, place_is c xs ys l.1) (omega arith)

no_place : (c : ℕ) (xs : List ℕ) → Lacks c xs → position_or_len (λ (b : ℕ). b == c) xs ≡ length xs
no_place c [] l = refl
no_place c (x ∷ xs) l = rw (l.0, no_place c xs l.1) (omega arith)

front_is : (c : ℕ) (text xs ys : List ℕ) → Lacks c xs → text ≡ xs ++ c ∷ ys → before_first (λ (b : ℕ). b == c) text ≡ xs
front_is c text xs ys l e = rw (e, place_is c xs ys l) (take-append_seam xs (c ∷ ys))

back_is : (c : ℕ) (text xs ys : List ℕ) → Lacks c xs → text ≡ xs ++ c ∷ ys → after_first (λ (b : ℕ). b == c) text ≡ ys
back_is c text xs ys l e = rw (e, place_is c xs ys l) (drop-append-add xs (c ∷ ys) 1)

pub cut_is : (c : ℕ) (text : List ℕ) (r : Option (Bor (List ℕ) × Bor (List ℕ))) → IsSplitOnceResult c text r → c < 128
    → MatchOption r (NoCutAt c text) (λ x. IsCutAt c text x.0.now x.1.now)
cut_is c text None split ascii =
    let none = split_once_first c text None split ascii in
    record {
      none = λ xs ys l e.
          let place = rw e at none in
          let long : length (xs ++ c ∷ ys) ≡ length xs + suc (length ys) = length-append xs (c ∷ ys) in
          omega (arith, place_is c xs ys l, place, long);
    }
cut_is c text (Some x) split ascii =
    let (inside, front, back) = split_once_first c text (Some x) split ascii in
    record {
      parts = λ xs ys l e. (front ∙ front_is c text xs ys l e, back ∙ back_is c text xs ys l e);
      some = λ l. omega (arith, no_place c text l, inside);
    }
