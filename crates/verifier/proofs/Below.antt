-- The tables of the rounds are below each good table, so where the rounds end there is the least good table or none.
use Rattle.std.proofs.Common.{◌≡◌, ◌<◌, ◌^◌, ℕ, zero, suc, Bool, true, false, if◌then◌else◌, is_some, List, [], ◌∷◌, map, length, replicate, get_or, Option, Some, None, refl, sym, ◌∙◌, inl, inr}
use Rattle.std.specs.List.{fold}
use Rattle.std.proofs.lemmas.Bool.{cases_eq}
use Rattle.base.specs.Check.{first_failing}
use Rattle.base.specs.declared.causes.VerifierCause.{VerifierCause}
use Rattle.bpf_isa.specs.declared.instr.Instr.{Instr}
use Rattle.bpf_isa.specs.Program.{IsProgram}
use Rattle.bpf_isa.specs.Slots.{at}
use Rattle.bpf_isa.specs.Spelling.{IsInRange}
use Rattle.bpf_shape.specs.Again.{heads}
use Rattle.bpf_shape.specs.Rules.{IsShaped}
use Rattle.ranges.specs.Rules.{rules_with}
use Rattle.ranges.specs.States.{Abstract, round_state, start}
use Rattle.ranges.specs.Order.{StateUnder, IsState, Each, Holds, EdgeUnder, SentUnder}
use Rattle.ranges.proofs.Chains.{state_chain}
use Rattle.ranges.proofs.Covering.{state_least, state_same, state_under, state_round_mono}
use Rattle.ranges.proofs.Fitting.{start_fits, round_state_fits}
use Rattle.ranges.proofs.SmallerRules.{rules_mono}
use Rattle.ranges.proofs.SmallerStates.{passes_mono, passes_fit}
use Rattle.ranges.proofs.GuardedRules.{guarded_mono}
use Rattle.ranges.proofs.GuardedPasses.{guarded_passes_mono, guarded_passes_fit}
use Rattle.verifier.specs.Tables.{state_at, Covers, CoversAll, AreStates, arriving, arrival, passes_with, broken_with, passed_on_with, rule_with, sent_with}
use Rattle.verifier.specs.Good.{IsGoodWith}
use Rattle.verifier.specs.Breaches.{FirstRule, FirstBreach, KeepsRules, at_slot}
use Rattle.verifier.specs.Least.{IsLeast, HasNoGood}
use Rattle.verifier.specs.Rounds.{join_arrival, receive, passed_by, passed_states, round_of, first_table, rounds, IsSettled}
use Rattle.verifier.specs.Passing.{Arrive, IsRound}
use Rattle.verifier.specs.Sought.{Below, AllBelow}
use Rattle.verifier.proofs.Arriving.{here, elsewhere, receive_fits, still}
use Rattle.verifier.proofs.Reaching.{in_range}
use Rattle.verifier.proofs.Settled.{each_in_range, passed_fits, each_round, settled_covers, slot_covers, settled_is_good}

-- covering and being under are the same, of states
pub covered_is_under : (m : Option Abstract) (s : Abstract) → Holds IsState m → IsState s → Covers m s → EdgeUnder (Some s) m
covered_is_under None s h a c = absurd c
covered_is_under (Some t) s h a c = state_under t s h a c

pub under_is_covered : (m n : Option Abstract) → Holds IsState m → Holds IsState n → EdgeUnder m n → Holds (Covers n) m
under_is_covered None n h g u = tt
under_is_covered (Some s) None h g u = absurd u
under_is_covered (Some s) (Some t) h g u = state_same t s g h u

-- states that arrive

joined_below : (m n : Option Abstract) (s : Abstract) → Holds IsState m → IsState s → Holds IsState n → EdgeUnder m n → EdgeUnder (Some s) n → EdgeUnder (Some (join_arrival m s)) n
joined_below None n s h a g u v = v
joined_below (Some t) None s h a g u v = absurd v
joined_below (Some t) (Some x) s h a g u v = state_least t s x h a g u v

receive_below : (table g : List (Option Abstract)) (p : ℕ × Abstract) → p.0 < length table → AreStates table → IsState p.1 → AreStates g
    → Below table g → EdgeUnder (Some p.1) (state_at g p.0) → Below (receive table p) g
receive_below table g p inside h a k below arrives slot =
    elim (cases_eq slot p.0) [
      | inl same ↦ rw (same, here table p inside) (joined_below (state_at table p.0) (state_at g p.0) p.1 (h p.0) a (k p.0) (below p.0) arrives)
      | inr other ↦ rw (elsewhere table p slot other) (below slot)
    ]

pub all_below : (table g : List (Option Abstract)) (ps : List (ℕ × Abstract)) → AreStates table → Arrive (length table) ps → AreStates g
    → Below table g → AllBelow g ps → Below (fold receive table ps) g
all_below table g [] h a k below arrive = below
all_below table g (p ∷ ps) h a k below arrive =
    all_below (receive table p) g ps (receive_fits table p a.0.0 h a.0.1) (still table p ps a.1) k
    (receive_below table g p a.0.0 h a.0.1 k below arrive.0) arrive.1

-- what a slot passes on

arriving_under : (b : Bool) (s t : Abstract) → IsState s → IsState t → StateUnder s t → StateUnder (if b then round_state s else s) (if b then round_state t else t)
arriving_under true s t a b u = state_round_mono s t a b u
arriving_under false s t a b u = u

arriving_is : (b : Bool) (s : Abstract) → IsState s → IsState (if b then round_state s else s)
arriving_is true s a = round_state_fits s a
arriving_is false s a = a

one_below : (marks : List Bool) (g : List (Option Abstract)) (p q : ℕ × Abstract) → AreStates g → IsState p.1 → IsState q.1 → p.0 ≡ q.0 → StateUnder p.1 q.1
    → Covers (state_at g q.0) (arriving marks q.0 q.1) → EdgeUnder (Some (arriving marks p.0 p.1)) (state_at g p.0)
one_below marks g p q k a b e u c = rw e (by_known (state_at g q.0) (k q.0) c)
  where
    smaller : StateUnder (arriving marks q.0 p.1) (arriving marks q.0 q.1)
    smaller = arriving_under (get_or marks q.0 false) p.1 q.1 a b u

    by_known : (m : Option Abstract) → Holds IsState m → Covers m (arriving marks q.0 q.1) → EdgeUnder (Some (arriving marks q.0 p.1)) m
    by_known None h c = absurd c
    by_known (Some t) h c = state_chain (arriving marks q.0 p.1) (arriving marks q.0 q.1) t smaller (state_under t (arriving marks q.0 q.1) h (arriving_is (get_or marks q.0 false) q.1 b) c)

sent_below : (marks : List Bool) (g : List (Option Abstract)) (ps qs : List (ℕ × Abstract)) → AreStates g → Each (λ p. IsState p.1) ps → Each (λ p. IsState p.1) qs
    → SentUnder ps qs → CoversAll g (map (arrival marks) qs) → AllBelow g (map (arrival marks) ps)
sent_below marks g [] qs k a b s c = tt
sent_below marks g (p ∷ ps) [] k a b s c = absurd s
sent_below marks g (p ∷ ps) (q ∷ qs) k a b (inl s) c = (one_below marks g p q k a.0 b.0 s.0 s.1 c.0, sent_below marks g ps qs k a.1 b.1 s.2 c.1)
sent_below marks g (p ∷ ps) (q ∷ qs) k a b (inr s) c = sent_below marks g (p ∷ ps) qs k a b.1 s c.1

-- at a smaller state, with guards or without

rules_below : (guards : Bool) (s t : Abstract) (i : Instr) → IsInRange i → IsState s → IsState t → StateUnder s t
    → first_failing (rules_with guards t i) ≡ None → first_failing (rules_with guards s i) ≡ None
rules_below true s t i r a b u e = guarded_mono s t i r a b u e
rules_below false s t i r a b u e = rules_mono s t i r a b u e

passes_below : (guards : Bool) (sectors slot : ℕ) (s t : Abstract) (i : Instr) → IsInRange i → IsState s → IsState t → StateUnder s t
    → first_failing (rules_with guards t i) ≡ None → SentUnder (passes_with guards sectors s slot i) (passes_with guards sectors t slot i)
passes_below true sectors slot s t i r a b u e = guarded_passes_mono sectors slot s t i r a b u e
passes_below false sectors slot s t i r a b u e = passes_mono sectors slot s t i r a b u e

passed_states_fit : (guards : Bool) (sectors slot : ℕ) (s : Abstract) (i : Instr) → sectors < 2 ^ 64 → IsInRange i → IsState s
    → Each (λ p. IsState p.1) (passes_with guards sectors s slot i)
passed_states_fit true sectors slot s i few r a = guarded_passes_fit sectors slot s i few r a
passed_states_fit false sectors slot s i few r a = passes_fit sectors slot s i few r a

-- where a slot of a good table breaks no rule, one with a smaller state breaks none
pub keeps_below : (guards : Bool) (program : List (Option Instr)) (sectors : ℕ) (table g : List (Option Abstract)) (slot : ℕ) → IsProgram program → AreStates table → IsGoodWith guards program sectors g
    → Below table g → rule_with guards program table slot ≡ None
unfolding rule_with
keeps_below guards program sectors table g slot p h good below =
    by_state (at program slot) (state_at table slot) (state_at g slot) refl (h slot) (good.states slot) (below slot) (good.slots slot).rules
  where
    by_state : (i : Option Instr) (m n : Option Abstract) → at program slot ≡ i → Holds IsState m → Holds IsState n → EdgeUnder m n → broken_with guards i n ≡ None → broken_with guards i m ≡ None
    by_state None m n e a b u f = refl
    by_state (Some i) None n e a b u f = refl
    by_state (Some i) (Some s) None e a b u f = absurd u
    by_state (Some i) (Some s) (Some t) e a b u f = rules_below guards s t i (in_range program slot i p e) a b u f

rule_of : (guards : Bool) (program : List (Option Instr)) (g : List (Option Abstract)) (slot : ℕ) → rule_with guards program g slot ≡ None → broken_with guards (at program slot) (state_at g slot) ≡ None
unfolding rule_with
rule_of guards program g slot e = e

pub sent_all_below : (guards : Bool) (program : List (Option Instr)) (sectors : ℕ) (table g : List (Option Abstract)) (slot : ℕ) → sectors < 2 ^ 64 → IsProgram program → AreStates table
    → IsGoodWith guards program sectors g → Below table g → AllBelow g (sent_with guards program sectors table slot)
unfolding sent_with
sent_all_below guards program sectors table g slot few p h good below =
    sent (at program slot) (state_at table slot) (state_at g slot) refl (h slot) (good.states slot) (below slot) rules (good.slots slot).edges
  where
    rules : broken_with guards (at program slot) (state_at g slot) ≡ None
    rules = rule_of guards program g slot (good.slots slot).rules

    sent : (i : Option Instr) (m n : Option Abstract) → at program slot ≡ i → Holds IsState m → Holds IsState n → EdgeUnder m n → broken_with guards i n ≡ None
        → CoversAll g (passed_on_with guards (heads program) sectors slot i n) → AllBelow g (passed_on_with guards (heads program) sectors slot i m)
    sent None m n e a b u f c = tt
    sent (Some i) None n e a b u f c = tt
    sent (Some i) (Some s) None e a b u f c = absurd u
    sent (Some i) (Some s) (Some t) e a b u f c =
        let r : IsInRange i = in_range program slot i p e in
        sent_below (heads program) g (passes_with guards sectors s slot i) (passes_with guards sectors t slot i) good.states
        (passed_states_fit guards sectors slot s i few r a) (passed_states_fit guards sectors slot t i few r b)
        (passes_below guards sectors slot s t i r a b u f) c

slot_below : (guards : Bool) (program : List (Option Instr)) (sectors : ℕ) (table g : List (Option Abstract)) (slot : ℕ) → sectors < 2 ^ 64 → IsProgram program → AreStates table
    → IsGoodWith guards program sectors g → Below table g → AllBelow g (passed_by guards program sectors table slot)
slot_below guards program sectors table g slot few p h good below = by_rule (is_some (rule_with guards program table slot))
  where
    by_rule : (b : Bool) → AllBelow g (if b then [] else sent_with guards program sectors table slot)
    by_rule true = tt
    by_rule false = sent_all_below guards program sectors table g slot few p h good below

-- rounds

round_below : (guards : Bool) (program : List (Option Instr)) (sectors : ℕ) (table g : List (Option Abstract)) → sectors < 2 ^ 64 → IsProgram program → IsShaped guards program
    → IsRound (length program) table → IsGoodWith guards program sectors g → Below table g → Below (round_of guards program sectors table) g
unfolding round_of passed_states
round_below guards program sectors table g few p h r good below =
    let arrive : Arrive (length table) (passed_states guards program sectors table) = rw r.long (passed_fits guards program sectors table few p h r.states) in
    all_below table g (passed_states guards program sectors table) r.states arrive good.states below
    (each_in_range (λ q. EdgeUnder (Some q.1) (state_at g q.0)) (passed_by guards program sectors table) 0 (length program)
    (λ slot. slot_below guards program sectors table g slot few p r.states good below))

no_states : (n slot : ℕ) → state_at (replicate {A = Option Abstract} n None) slot ≡ None
no_states zero slot = refl
no_states (suc n) zero = refl
no_states (suc n) (suc slot) = no_states n slot

pub first_below : (n : ℕ) (g : List (Option Abstract)) → AreStates g → Covers (state_at g 0) start → Below (first_table n) g
unfolding first_table
first_below zero g k s slot = tt
first_below (suc n) g k s zero = covered_is_under (state_at g 0) start (k 0) start_fits s
first_below (suc n) g k s (suc slot) = rw (no_states n slot) tt

pub rounds_below : (guards : Bool) (program : List (Option Instr)) (sectors turns : ℕ) (g : List (Option Abstract)) → sectors < 2 ^ 64 → IsProgram program → IsShaped guards program
    → IsGoodWith guards program sectors g → Below (rounds guards program sectors turns) g
rounds_below guards program sectors zero g few p h good = first_below (length program) g good.states good.start
rounds_below guards program sectors (suc n) g few p h good =
    round_below guards program sectors (rounds guards program sectors n) g few p h (each_round guards program sectors n few p h) good (rounds_below guards program sectors n g few p h good)

pub settled_below : (guards : Bool) (program : List (Option Instr)) (sectors : ℕ) (table g : List (Option Abstract)) → sectors < 2 ^ 64 → IsProgram program → IsShaped guards program
    → IsSettled guards program sectors table → IsGoodWith guards program sectors g → Below table g
settled_below guards program sectors table g few p h s good = rw s.is (rounds_below guards program sectors s.turns g few p h good)

-- where the rounds end

pub settled_is_least : (guards : Bool) (program : List (Option Instr)) (sectors : ℕ) (table : List (Option Abstract)) → sectors < 2 ^ 64 → IsProgram program → IsShaped guards program
    → IsSettled guards program sectors table → KeepsRules guards program table → IsLeast guards program sectors table
settled_is_least guards program sectors table few p h s kept =
    let good : IsGoodWith guards program sectors table = settled_is_good guards program sectors table few p h s kept in
    record {
      good = good;
      least = λ g is slot.
          under_is_covered (state_at table slot) (state_at g slot) (good.states slot) (is.states slot) (settled_below guards program sectors table g few p h s is slot);
    }

pub settled_round : (guards : Bool) (program : List (Option Instr)) (sectors : ℕ) (table : List (Option Abstract)) → sectors < 2 ^ 64 → IsProgram program → IsShaped guards program
    → IsSettled guards program sectors table → IsRound (length program) table
settled_round guards program sectors table few p h s = rw s.is (each_round guards program sectors s.turns few p h)

pub broken_has_no_good : (guards : Bool) (program : List (Option Instr)) (sectors : ℕ) (table : List (Option Abstract)) (c : VerifierCause) (slot : ℕ) → sectors < 2 ^ 64 → IsProgram program
    → IsShaped guards program → IsSettled guards program sectors table → rule_with guards program table slot ≡ Some c → HasNoGood guards program sectors
broken_has_no_good guards program sectors table c slot few p h s breaks = λ g good.
    let round = settled_round guards program sectors table few p h s in
    let none : rule_with guards program table slot ≡ None = keeps_below guards program sectors table g slot p round.states good (settled_below guards program sectors table g few p h s good) in
    let bad : None ≡ Some c = sym none ∙ breaks in
    cc

-- the first broken rule of a settled table is its first breach
pub rule_is_breach : (guards : Bool) (program : List (Option Instr)) (sectors : ℕ) (table : List (Option Abstract)) (c : VerifierCause) (slot : ℕ) → sectors < 2 ^ 64 → IsProgram program
    → IsShaped guards program → IsSettled guards program sectors table → FirstRule guards program table c slot → FirstBreach guards program sectors table c slot
rule_is_breach guards program sectors table c slot few p h s first =
    let round : IsRound (length program) table = settled_round guards program sectors table few p h s in
    let covered : CoversAll table (passed_states guards program sectors table) = settled_covers guards program sectors table few p h round s.same in
    at_slot c slot round.long round.starts (record {
      breaks = inl first.breaks;
      lowest = λ t less.
          let kept : rule_with guards program table t ≡ None = first.lowest t less in
          let part : CoversAll table (passed_by guards program sectors table t) = slot_covers guards program sectors table table t covered in
          let edges : CoversAll table (sent_with guards program sectors table t) = rw kept at part in
          record { rules = kept; edges = edges };
    })
