-- The least image of lines.
use Rattle.std.proofs.Common.{ℕ, ◌≡◌, ◌∙◌, ◌+◌, ◌*◌, inl, inr, min, Bool, true, false, ◌&&◌, ◌||◌, nat_lt, nat_le, List, [], ◌∷◌, ◌++◌, Option, None, Some, refl, sym, ap, arith, append-nil}
use Rattle.std.specs.List.{list_any}
use Rattle.std.proofs.lemmas.Bool.Decides.{leb_tells, nat_tests}
use Rattle.std.proofs.lemmas.Grind.{flat_map-append}
use Rattle.report.specs.Line.{FailingLine}
use Rattle.workers.specs.declared.found.BlockFound.{BlockFound}
use Rattle.workers.specs.declared.found.BlockFound.TheVariants.{Lines, Passed}
use Rattle.workers.specs.Counting.{reaches, counts_with}
use Rattle.workers.specs.Least.{lower, least_image}
use Rattle.workers.specs.Pieces.{PieceValue, lines_of, full_lines, counts}

lower_again : (a b c : Option ℕ) → lower a (lower b c) ≡ lower (lower a b) c
lower_again None b c = refl
lower_again (Some a) None c = refl
lower_again (Some a) (Some b) None = refl
lower_again (Some a) (Some b) (Some c) = let e : min a (min b c) ≡ min (min a b) c = omega arith in ap (λ n. Some n) e

pub least_append : (xs ys : List FailingLine) → least_image (xs ++ ys) ≡ lower (least_image xs) (least_image ys)
least_append [] ys = refl
least_append (x ∷ xs) ys = ap (lower (Some x.image)) (least_append xs ys) ∙ lower_again (Some x.image) (least_image xs) (least_image ys)

-- with one more line
pub least_push : (ls : List FailingLine) (l : FailingLine) → lower (least_image ls) (Some l.image) ≡ least_image (ls ++ l ∷ [])
least_push ls l = sym (least_append ls (l ∷ []))

-- the lines with one more piece
pub lines_push : (ps : List PieceValue) (p : PieceValue) → full_lines (ps ++ p ∷ []) ≡ full_lines ps ++ lines_of p.found
lines_push ps p =
    flat_map-append (λ (q : PieceValue). lines_of q.found) ps (p ∷ []) ∙ ap (λ (ls : List FailingLine). full_lines ps ++ ls) (append-nil (lines_of p.found))

pub least_of_push : (ps : List PieceValue) (p : PieceValue) → lower (least_image (full_lines ps)) (least_image (lines_of p.found)) ≡ least_image (full_lines (ps ++ p ∷ []))
least_of_push ps p = sym (ap least_image (lines_push ps p) ∙ least_append (full_lines ps) (lines_of p.found))

-- the least image decides which pieces count

reaches_lower : (n image : ℕ) (least : Option ℕ) → reaches (lower (Some n) least) image ≡ (nat_le n image || reaches least image)
reaches_lower n image None = or_false (nat_le n image)
  where
    or_false : (b : Bool) → b ≡ (b || false)
    or_false true = refl
    or_false false = refl
reaches_lower n image (Some m) = elim (leb_tells n image) [
  | inl low ↦ elim (leb_tells m image) [
    | inl also ↦ grind (arith, nat_tests, low.1, also.1)
    | inr other ↦ grind (arith, nat_tests, low.1, other.1)
  ]
  | inr high ↦ elim (leb_tells m image) [
    | inl also ↦ grind (arith, nat_tests, high.1, also.1)
    | inr other ↦ grind (arith, nat_tests, high.1, other.1)
  ]
]

reaches_any : (image : ℕ) (ls : List FailingLine) → reaches (least_image ls) image ≡ list_any (λ (l : FailingLine). nat_le l.image image) ls
reaches_any image [] = refl
reaches_any image (l ∷ ls) = reaches_lower l.image image (least_image ls) ∙ ap (λ b. nat_le l.image image || b) (reaches_any image ls)

pub counts_by_least : (from : ℕ) (lines : List FailingLine) (block : ℕ) (found : BlockFound) → counts_with from (least_image lines) block found ≡ counts from lines block found
counts_by_least from lines block (Lines own) = refl
counts_by_least from lines block (Passed image) = ap (λ b. nat_lt image (64 * block) && b) (reaches_any (from + image) lines)
