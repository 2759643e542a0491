-- From the pieces of all workers, and those of the blocks that they left, to one of each block.
use Rattle.std.proofs.Common.{ℕ, suc, ◌≡◌, ◌+◌, ◌*◌, ◌<◌, ◌≤◌, true, nat_lt, List, [], ◌∷◌, ◌++◌, map, All, refl, sym, ◌∙◌, ap, subst, append_assoc, append-nil, arith}
use Rattle.std.proofs.lemmas.Bool.Decides.{nat_tests}
use Rattle.shares.specs.declared.view.SeatStep.{SeatStep}
use Rattle.shares.specs.Seats.{FoundArePosted, times}
use Rattle.shares.proofs.Seats.{times_append}
use Rattle.workers.specs.declared.found.BlockFound.{BlockFound}
use Rattle.workers.specs.declared.found.BlockFound.TheVariants.{Lines, Passed}
use Rattle.workers.specs.Counting.{counts_with}
use Rattle.workers.specs.Exploring.{ArePiecesOf}
use Rattle.workers.specs.Failing.{Subject}
use Rattle.workers.specs.Least.{least_image}
use Rattle.workers.specs.Pieces.{PieceValue, block_count, full_lines, piece_of, pieces_at, counts}
use Rattle.workers.specs.Taking.{IsSeen, HandsOver}
use Rattle.workers.proofs.HandingOver.{full_more}
use Rattle.workers.proofs.Least.{counts_by_least}
use Rattle.workers.proofs.Takes.{one_more}

-- the pieces of blocks that were left are handed over too
left_handed : (s : Subject) (steps : List SeatStep) (ps : List PieceValue) (left : List ℕ) → HandsOver s steps ps → All (λ (b : ℕ). b < block_count s) left → HandsOver s steps (ps ++ map (piece_of s) left)
left_handed s steps ps [] h below = subst (HandsOver s steps) (sym (append-nil ps)) h
left_handed s steps ps (b ∷ left) h below =
    subst (HandsOver s steps) (append_assoc ps (piece_of s b ∷ []) (map (piece_of s) left))
    (left_handed s steps (ps ++ piece_of s b ∷ []) left (full_more s b steps ps h (below 0 b (omega arith))) (λ i d lt. below (suc i) d (omega (arith, lt))))

left_counted : (s : Subject) (ps : List PieceValue) (left : List ℕ) (x : ℕ) → pieces_at (ps ++ map (piece_of s) left) x ≡ pieces_at ps x + times x left
left_counted s ps [] x = ap (λ (qs : List PieceValue). pieces_at qs x) (append-nil ps) ∙ (let z : pieces_at ps x ≡ pieces_at ps x + 0 = omega arith in z)
left_counted s ps (b ∷ left) x =
    let rest = left_counted s (ps ++ piece_of s b ∷ []) left x in
    let same = ap (λ (qs : List PieceValue). pieces_at qs x) (append_assoc ps (piece_of s b ∷ []) (map (piece_of s) left)) in
    omega (arith, rest, same, one_more ps (piece_of s b) x, times_append x (b ∷ []) left)

pub whole_run : (s : Subject) (steps : List SeatStep) (ps all : List PieceValue) (left : List ℕ) → block_count s ≤ 262144 → HandsOver s steps ps → FoundArePosted steps
    → ((b : ℕ) → b < block_count s → pieces_at ps b + times b left ≡ 1) → All (λ (b : ℕ). b < block_count s) left → all ≡ ps ++ map (piece_of s) left → ArePiecesOf s all
whole_run s steps ps all left few h found_posted once below are =
    let handed : HandsOver s steps all = subst (HandsOver s steps) (sym are) (left_handed s steps ps left h below) in
    record {
      once = λ b lt. omega (arith, ap (λ (qs : List PieceValue). pieces_at qs b) are, left_counted s ps left b, once b lt);
      own = handed.own;
      counted = λ i p there. by_found handed p.block p.found (handed.own i p there).0 (handed.seen i p there);
      full = handed.full;
    }
  where
    by_found : HandsOver s steps all → (block : ℕ) (found : BlockFound) → block < block_count s → IsSeen steps block found → counts s.from (full_lines all) block found ≡ true
    by_found handed block (Lines own) lt seen = refl
    by_found handed block (Passed image) lt seen =
        let before : nat_lt image (64 * block) ≡ true = grind (arith, nat_tests, seen.0) in
        let posted = found_posted.each image (omega (arith, seen.0, lt, few)) seen.1 in
        let reached = handed.posted image posted in
        let counted : counts_with s.from (least_image (full_lines all)) block (Passed image) ≡ true = rw (before, reached) refl in
        sym (counts_by_least s.from (full_lines all) block (Passed image)) ∙ counted
