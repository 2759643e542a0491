-- Each drawn block is in one place.
use Rattle.std.proofs.Common.{ℕ, zero, suc, ◌≡◌, ◌+◌, ◌<◌, ◌≤◌, ◌==◌, ◌⊎◌, ◌≢◌, ◌&&◌, inl, inr, Bool, true, false, cond, List, [], ◌∷◌, ◌++◌, replicate, Some, slice_get, slice_set, refl, sym, subst, ap, arith}
use Rattle.std.specs.List.{count_by}
use Rattle.std.proofs.lemmas.Bool.{cases_lt}
use Rattle.std.proofs.lemmas.Bool.Decides.{eqb_tells, nat_tests}
use Rattle.std.proofs.lemmas.List.Sums.{sum_by-cons}
use Rattle.base.proofs.Lists.{count_by-push}
use Rattle.explore_core.specs.declared.job.Job.{Job}
use Rattle.explore_core.specs.declared.hand.WorkerHand.{WorkerHand}
use Rattle.explore_core.specs.declared.hand.WorkerHand.TheVariants.{Idle, Holding}
use Rattle.explore_core.specs.declared.piece.HandedBlock.{HandedBlock}
use Rattle.explore_core.specs.declared.lists.Drawn.{Drawn}
use Rattle.explore_core.specs.Lists.{is_under, listed_under, lists_without}
use Rattle.explore_core.specs.Sound.{holds, loses, hold_count, loss_count, piece_count, ArePlaced}
use Rattle.explore_core.proofs.Each.{count_set, left_out, none_out, any_counts}

abbrev bit : Bool → ℕ
bit b = cond b 1 0

bit_of : (a b : ℕ) → ((a ≡ b) × (bit (a == b) ≡ 1)) ⊎ ((a ≢ b) × (bit (a == b) ≡ 0))
bit_of a b = elim (eqb_tells a b) [ inl h ↦ inl (h.1, rw h.0 refl) | inr h ↦ inr (h.1, rw h.0 refl) ]

none_idle : (test : WorkerHand → Bool) (n : ℕ) → test Idle ≡ false → count_by test (replicate n Idle) ≡ 0
none_idle test zero h = refl
none_idle test (suc n) h =
    let rest = none_idle test n h in
    let first : bit (test Idle) ≡ 0 = ap bit h in
    omega (arith, sum_by-cons (λ x. bit (test x)) Idle (replicate n Idle), first, rest)

pub placed_first : (blocks workers : ℕ) → ArePlaced blocks 0 [] (replicate workers Idle) []
placed_first blocks workers = record {
  drawn = λ b lt within. absurd (omega (arith, lt));
  waiting = λ b le. omega (arith, none_idle (holds b) workers refl, none_idle (loses b) workers refl);
  beyond = λ b le. omega (arith, none_idle (holds b) workers refl, none_idle (loses b) workers refl);
}

-- the same block in hand or lost
pub placed_same : (blocks next : ℕ) (lists : List Drawn) (hands : List WorkerHand) (pieces : List HandedBlock) (w : ℕ) (old new : WorkerHand) → slice_get hands w ≡ Some old
    → ((b : ℕ) → bit (holds b old) + bit (loses b old) ≡ bit (holds b new) + bit (loses b new))
    → ArePlaced blocks next lists hands pieces → ArePlaced blocks next lists (slice_set hands w new) pieces
placed_same blocks next lists hands pieces w old new at same placed = record {
  drawn = λ b lt within. omega (arith, same b, count_set (holds b) hands w old new at, count_set (loses b) hands w old new at, placed.drawn b lt within);
  waiting = λ b le. omega (arith, same b, count_set (holds b) hands w old new at, count_set (loses b) hands w old new at, placed.waiting b le);
  beyond = λ b le. omega (arith, same b, count_set (holds b) hands w old new at, count_set (loses b) hands w old new at, placed.beyond b le);
}

-- from a hand to a piece
pub placed_over : (blocks next : ℕ) (lists : List Drawn) (hands : List WorkerHand) (pieces : List HandedBlock) (w : ℕ) (judged : List Job) (piece : HandedBlock) → slice_get hands w ≡ Some (Holding piece.block judged)
    → ArePlaced blocks next lists hands pieces → ArePlaced blocks next lists (slice_set hands w Idle) (pieces ++ piece ∷ [])
placed_over blocks next lists hands pieces w judged piece at placed = record {
  drawn = λ b lt within. omega (arith, moved b, placed.drawn b lt within);
  waiting = λ b le. omega (arith, moved b, placed.waiting b le);
  beyond = λ b le. omega (arith, moved b, placed.beyond b le);
}
  where
    moved : (b : ℕ) → hold_count lists (slice_set hands w Idle) b + (loss_count (slice_set hands w Idle) b + piece_count (pieces ++ piece ∷ []) b) ≡ hold_count lists hands b + (loss_count hands b + piece_count pieces b)
    moved b =
        let holding = count_set (holds b) hands w (Holding piece.block judged) Idle at in
        let losing = count_set (loses b) hands w (Holding piece.block judged) Idle at in
        let more = count_by-push (λ (p : HandedBlock). p.block == b) pieces piece in
        omega (arith, holding, losing, more)

-- the next block, from nowhere to a list
pub placed_drawn : (blocks next : ℕ) (lists : List Drawn) (hands : List WorkerHand) (pieces : List HandedBlock) (w : ℕ) → next < blocks
    → ArePlaced blocks next lists hands pieces → ArePlaced blocks (next + 1) (lists ++ record { worker = w; block = next } ∷ []) hands pieces
placed_drawn blocks next lists hands pieces w more placed = record {
  drawn = λ b lt within. elim (bit_of next b) [
    | inl this ↦ omega (arith, this.0, this.1, came b, placed.waiting b (omega (arith, this.0)))
    | inr other ↦ omega (arith, other.1, came b, placed.drawn b (omega (arith, other.0, lt)) within)
  ];
  waiting = λ b le. elim (bit_of next b) [
    | inl this ↦ absurd (omega (arith, this.0, le))
    | inr other ↦ omega (arith, other.1, came b, placed.waiting b (omega (arith, le)))
  ];
  beyond = λ b le. elim (bit_of next b) [
    | inl this ↦ absurd (omega (arith, this.0, le, more))
    | inr other ↦ omega (arith, other.1, came b, placed.beyond b le)
  ];
}
  where
    came : (b : ℕ) → count_by (λ (d : Drawn). d.block == b) (lists ++ record { worker = w; block = next } ∷ []) ≡ count_by (λ (d : Drawn). d.block == b) lists + bit (next == b)
    came b = count_by-push (λ (d : Drawn). d.block == b) lists (record { worker = w; block = next })

-- what is that block in the list of that worker is that block
is_block : (from block : ℕ) (d : Drawn) → is_under from block d ≡ true → (d.block == block) ≡ true
is_block from block d e = step (d.worker == from) (d.block == block) e
  where
    step : (a b : Bool) → (a && b) ≡ true → b ≡ true
    step true b e = e
    step false b e = absurd (let bad : false ≡ true = e in cc)

no_other : (from block other : ℕ) (d : Drawn) → block ≢ other → is_under from block d ≡ true → (d.block == other) ≡ false
no_other from block other d apart e =
    let this : d.block ≡ block = grind (arith, nat_tests, is_block from block d e) in
    elim (eqb_tells d.block other) [
      | inl h ↦ absurd (apart (omega (arith, h.1, this)))
      | inr h ↦ h.0
    ]

-- a block in a list is one of the run
pub listed_within : (blocks next : ℕ) (lists : List Drawn) (hands : List WorkerHand) (pieces : List HandedBlock) (from block : ℕ) → listed_under from block lists ≡ true
    → ArePlaced blocks next lists hands pieces → block < blocks
listed_within blocks next lists hands pieces from block there placed =
    let some = any_counts (is_under from block) lists there in
    let parts = left_out (λ (d : Drawn). d.block == block) (is_under from block) lists (is_block from block) in
    elim (cases_lt block blocks) [
      | inl less ↦ less
      | inr past ↦ absurd (omega (arith, some, parts, placed.beyond block past))
    ]

-- from a list to a hand
pub placed_given : (blocks next : ℕ) (lists : List Drawn) (hands : List WorkerHand) (pieces : List HandedBlock) (w from block : ℕ) → slice_get hands w ≡ Some Idle → listed_under from block lists ≡ true
    → ArePlaced blocks next lists hands pieces → ArePlaced blocks next (lists_without from block lists) (slice_set hands w (Holding block [])) pieces
placed_given blocks next lists hands pieces w from block at there placed = record {
  drawn = λ b lt within. omega (arith, moved b, placed.drawn b lt within);
  waiting = λ b le. omega (arith, moved b, placed.waiting b le);
  beyond = λ b le. omega (arith, moved b, placed.beyond b le);
}
  where
    some : 0 < count_by (is_under from block) lists
    some = any_counts (is_under from block) lists there

    parts : count_by (λ (d : Drawn). d.block == block) (lists_without from block lists) + count_by (is_under from block) lists ≡ count_by (λ (d : Drawn). d.block == block) lists
    parts = left_out (λ (d : Drawn). d.block == block) (is_under from block) lists (is_block from block)

    once : count_by (λ (d : Drawn). d.block == block) lists ≤ 1
    once =
        let within = listed_within blocks next lists hands pieces from block there placed in
        elim (cases_lt block next) [
          | inl less ↦ omega (arith, placed.drawn block less within)
          | inr past ↦ omega (arith, placed.waiting block past)
        ]

    own : bit (block == block) ≡ 1 → count_by (λ (d : Drawn). d.block == block) (lists_without from block lists) + bit (block == block) ≡ count_by (λ (d : Drawn). d.block == block) lists
    own one = omega (arith, some, parts, once, one)

    left : (b : ℕ) → count_by (λ (d : Drawn). d.block == b) (lists_without from block lists) + bit (block == b) ≡ count_by (λ (d : Drawn). d.block == b) lists
    left b = elim (bit_of block b) [
      | inl this ↦ subst (λ c. count_by (λ (d : Drawn). d.block == c) (lists_without from block lists) + bit (block == c) ≡ count_by (λ (d : Drawn). d.block == c) lists) this.0 (own (subst (λ c. bit (block == c) ≡ 1) (sym this.0) this.1))
      | inr other ↦ omega (arith, other.1, none_out (λ (d : Drawn). d.block == b) (is_under from block) lists (λ d. no_other from block b d other.0))
    ]

    moved : (b : ℕ) → hold_count (lists_without from block lists) (slice_set hands w (Holding block [])) b + (loss_count (slice_set hands w (Holding block [])) b + piece_count pieces b) ≡ hold_count lists hands b + (loss_count hands b + piece_count pieces b)
    moved b =
        let holding = count_set (holds b) hands w Idle (Holding block []) at in
        let losing = count_set (loses b) hands w Idle (Holding block []) at in
        omega (arith, holding, losing, left b)

-- a draw that found no block
pub placed_late : (blocks next : ℕ) (lists : List Drawn) (hands : List WorkerHand) (pieces : List HandedBlock) → blocks ≤ next → ArePlaced blocks next lists hands pieces → ArePlaced blocks (next + 1) lists hands pieces
placed_late blocks next lists hands pieces late placed = record {
  drawn = λ b lt within. placed.drawn b (omega (arith, late, within)) within;
  waiting = λ b le. placed.waiting b (omega (arith, le));
  beyond = placed.beyond;
}
