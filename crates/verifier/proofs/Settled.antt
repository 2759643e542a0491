-- The tables of the rounds, and what holds where a round changes nothing.
use Rattle.std.proofs.Common.{◌≡◌, ◌<◌, ◌^◌, ◌≤◌, ◌+◌, ℕ, zero, suc, Bool, true, false, if◌then◌else◌, is_some, List, [], ◌∷◌, ◌++◌, append-nil, length, replicate, flat_map, Option, Some, None, refl, ◌∙◌, inl, inr, arith}
use Rattle.std.specs.List.{range_with_len}
use Rattle.std.proofs.lemmas.Bool.{cases_eq, cases_lt}
use Rattle.std.proofs.lemmas.List.{length-set, length-replicate}
use Rattle.std.proofs.lemmas.List.Concat.{flat_map-cons}
use Rattle.std.proofs.lemmas.Grind.{flat_map-append}
use Rattle.base.proofs.Lists.{range_with_len-more}
use Rattle.bpf_isa.specs.declared.instr.Instr.{Instr}
use Rattle.bpf_isa.specs.Program.{IsProgram}
use Rattle.bpf_shape.specs.Rules.{IsShaped}
use Rattle.ranges.specs.States.{Abstract, start}
use Rattle.ranges.specs.Order.{IsState, Each}
use Rattle.ranges.proofs.Fitting.{start_fits}
use Rattle.verifier.specs.Tables.{state_at, Covers, CoversAll, rule_with, sent_with, AreStates}
use Rattle.verifier.specs.Good.{IsGoodAt}
use Rattle.verifier.specs.Rounds.{passed_by, passed_states, round_of, first_table, rounds, IsSame}
use Rattle.verifier.specs.Passing.{Arrive, IsRound}
use Rattle.verifier.specs.Laws.{SettledIsGood}
use Rattle.verifier.proofs.Chains.{contains_self}
use Rattle.verifier.proofs.Arriving.{all_long, all_fit, all_keep, same_covers}
use Rattle.verifier.proofs.Reaching.{each_append, each_left, each_right, sent_fits, nothing_past}

-- what holds of what all slots pass on holds of what each does, and the other way round

each_of_range : {X : Type 0} (P : X → Type 0) (f : ℕ → List X) (a n k : ℕ) → a ≤ k → k < a + n → Each P (flat_map f (range_with_len a n)) → Each P (f k)
each_of_range P f a zero k least most h = absurd (let bad : k < k = omega (arith, least, most) in omega (arith, bad))
each_of_range P f a (suc n) k least most h =
    let parts : Each P (f a ++ flat_map f (range_with_len (a + 1) n)) = rw (flat_map-cons f a (range_with_len (a + 1) n)) at h in
    elim (cases_eq a k) [
      | inl same ↦ rw (← same) (each_left P (f a) (flat_map f (range_with_len (a + 1) n)) parts)
      | inr other ↦
          each_of_range P f (a + 1) n k (omega (arith, least, other)) (omega (arith, most)) (each_right P (f a) (flat_map f (range_with_len (a + 1) n)) parts)
    ]

pub each_in_range : {X : Type 0} (P : X → Type 0) (f : ℕ → List X) (a n : ℕ) → ((k : ℕ) → Each P (f k)) → Each P (flat_map f (range_with_len a n))
each_in_range P f a zero h = tt
each_in_range P f a (suc n) h =
    rw (flat_map-cons f a (range_with_len (a + 1) n)) (each_append P (f a) (flat_map f (range_with_len (a + 1) n)) (h a) (each_in_range P f (a + 1) n h))

-- what the slots up to one pass on, and what that one does
flat_map_one : {X : Type 0} (f : ℕ → List X) (n : ℕ) → flat_map f (n ∷ []) ≡ f n
flat_map_one f n = flat_map-cons f n [] ∙ append-nil (f n)

pub one_slot_more : {X : Type 0} (f : ℕ → List X) (n : ℕ) (xs : List X) → xs ≡ flat_map f (range_with_len 0 n) → xs ++ f n ≡ flat_map f (range_with_len 0 (n + 1))
one_slot_more f n xs e =
    let zero_plus : 0 + n ≡ n = omega arith in
    let one : flat_map f (n ∷ []) ≡ f n = flat_map_one f n in
    rw (range_with_len-more 0 n, zero_plus, flat_map-append f (range_with_len 0 n) (n ∷ []), one, e) refl

pub slot_fits : (guards : Bool) (program : List (Option Instr)) (sectors : ℕ) (table : List (Option Abstract)) (slot : ℕ) → sectors < 2 ^ 64 → IsProgram program → IsShaped guards program → AreStates table
    → Arrive (length program) (passed_by guards program sectors table slot)
slot_fits guards program sectors table slot few p h states = pick (is_some (rule_with guards program table slot))
  where
    pick : (b : Bool) → Arrive (length program) (if b then [] else sent_with guards program sectors table slot)
    pick true = tt
    pick false = sent_fits guards program sectors table slot few p h states

pub passed_fits : (guards : Bool) (program : List (Option Instr)) (sectors : ℕ) (table : List (Option Abstract)) → sectors < 2 ^ 64 → IsProgram program → IsShaped guards program → AreStates table
    → Arrive (length program) (passed_states guards program sectors table)
unfolding passed_states
passed_fits guards program sectors table few p h states =
    each_in_range (λ q. (q.0 < length program) × IsState q.1) (passed_by guards program sectors table) 0 (length program)
    (λ slot. slot_fits guards program sectors table slot few p h states)

-- the tables of the rounds are of states, as long as the program, and have the start in slot 0

pub first_long : (n : ℕ) → length (first_table n) ≡ n
unfolding first_table
first_long n = length-set (replicate {A = Option Abstract} n None) 0 (Some start) ∙ length-replicate {A = Option Abstract} n None

no_state : (n slot : ℕ) → state_at (replicate {A = Option Abstract} n None) slot ≡ None
no_state zero slot = refl
no_state (suc n) zero = refl
no_state (suc n) (suc slot) = no_state n slot

pub first_fits : (n : ℕ) → AreStates (first_table n)
unfolding first_table
first_fits zero slot = tt
first_fits (suc n) zero = start_fits
first_fits (suc n) (suc slot) = rw (no_state n slot) tt

first_starts : (n : ℕ) → 0 < n → Covers (state_at (first_table n) 0) start
unfolding first_table
first_starts zero some = absurd (omega (arith, some))
first_starts (suc n) some = contains_self start start_fits

pub next_round : (guards : Bool) (program : List (Option Instr)) (sectors : ℕ) (table : List (Option Abstract)) → sectors < 2 ^ 64 → IsProgram program → IsShaped guards program
    → IsRound (length program) table → IsRound (length program) (round_of guards program sectors table)
unfolding round_of
next_round guards program sectors table few p h r =
    let arrive : Arrive (length table) (passed_states guards program sectors table) = rw r.long (passed_fits guards program sectors table few p h r.states) in
    record {
      long = all_long table (passed_states guards program sectors table) ∙ r.long;
      states = all_fit table (passed_states guards program sectors table) r.states arrive;
      starts = all_keep table (passed_states guards program sectors table) 0 start r.states arrive start_fits r.starts;
    }

pub each_round : (guards : Bool) (program : List (Option Instr)) (sectors : ℕ) (turns : ℕ) → sectors < 2 ^ 64 → IsProgram program → IsShaped guards program
    → IsRound (length program) (rounds guards program sectors turns)
each_round guards program sectors zero few p h =
    record { long = first_long (length program); states = first_fits (length program); starts = first_starts (length program) p.count.some }
each_round guards program sectors (suc n) few p h = next_round guards program sectors (rounds guards program sectors n) few p h (each_round guards program sectors n few p h)

-- where a round changes nothing, all that is passed on is covered

pub settled_covers : (guards : Bool) (program : List (Option Instr)) (sectors : ℕ) (table : List (Option Abstract)) → sectors < 2 ^ 64 → IsProgram program → IsShaped guards program
    → IsRound (length program) table → IsSame guards program sectors table → CoversAll table (passed_states guards program sectors table)
unfolding round_of
settled_covers guards program sectors table few p h r same =
    let arrive : Arrive (length table) (passed_states guards program sectors table) = rw r.long (passed_fits guards program sectors table few p h r.states) in
    same_covers table (passed_states guards program sectors table) r.states arrive same

-- past the end nothing is passed on
pub passed_past : (guards : Bool) (program : List (Option Instr)) (sectors : ℕ) (table : List (Option Abstract)) (slot : ℕ) → length program ≤ slot → passed_by guards program sectors table slot ≡ []
passed_past guards program sectors table slot past = let none = nothing_past guards program sectors table slot past in rw (none.0, none.1) refl

-- what each slot passes on is covered, where all that is passed on is
pub slot_covers : (guards : Bool) (program : List (Option Instr)) (sectors : ℕ) (table new : List (Option Abstract)) (slot : ℕ) → CoversAll new (passed_states guards program sectors table)
    → CoversAll new (passed_by guards program sectors table slot)
unfolding passed_states
slot_covers guards program sectors table new slot h =
    elim (cases_lt slot (length program)) [
      | inl inside ↦ each_of_range (λ q. Covers (state_at new q.0) q.1) (passed_by guards program sectors table) 0 (length program) slot (omega arith) (omega (arith, inside)) h
      | inr past ↦ rw (passed_past guards program sectors table slot past) tt
    ]

pub good_past : (guards : Bool) (program : List (Option Instr)) (sectors : ℕ) (table : List (Option Abstract)) (slot : ℕ) → length program ≤ slot → IsGoodAt guards program sectors table slot
good_past guards program sectors table slot past =
    let none = nothing_past guards program sectors table slot past in
    record { rules = none.0; edges = rw none.1 tt }

pub settled_is_good : SettledIsGood
settled_is_good guards program sectors table few p h s kept =
    let round : IsRound (length program) table = rw s.is (each_round guards program sectors s.turns few p h) in
    let covered = settled_covers guards program sectors table few p h round s.same in
    record {
      states = round.states;
      long = round.long;
      start = round.starts;
      slots = λ slot. elim (cases_lt slot (length program)) [
        | inl inside ↦
            let part = slot_covers guards program sectors table table slot covered in
            let here : CoversAll table (sent_with guards program sectors table slot) = rw (kept slot) at part in
            record { rules = kept slot; edges = here }
        | inr past ↦ good_past guards program sectors table slot past
      ];
    }
