-- Rounds in which only marked slots pass on what they know.
use Rattle.std.proofs.Common.{◌≡◌, ◌<◌, ◌^◌, ◌+◌, ℕ, zero, suc, Bool, true, false, if◌then◌else◌, List, [], ◌∷◌, length, replicate, get_or, flat_map, Option, Some, None, refl, sym, ◌∙◌, ap, subst, inl, inr, arith}
use Rattle.std.specs.Prelude.{set}
use Rattle.std.specs.List.{fold, range_with_len}
use Rattle.std.proofs.lemmas.Bool.{cases_lt, cases_eq, cases_Bool}
use Rattle.std.proofs.lemmas.List.{length-set, length-replicate, get_or-set_same, get_or-set_other}
use Rattle.std.proofs.lemmas.List.Concat.{flat_map-cons}
use Rattle.std.proofs.lemmas.List.Sums.{fold-append}
use Rattle.bpf_isa.specs.declared.instr.Instr.{Instr}
use Rattle.bpf_isa.specs.Program.{IsProgram}
use Rattle.bpf_shape.specs.Rules.{IsShaped}
use Rattle.ranges.specs.States.{Abstract, StateContains}
use Rattle.ranges.specs.Order.{IsState, Holds}
use Rattle.verifier.specs.Tables.{state_at, Covers, CoversAll, AreStates, rule_with, sent_with}
use Rattle.verifier.specs.Rounds.{receive, passed_by, passed_states, round_of}
use Rattle.verifier.specs.Visits.{Learns}
use Rattle.verifier.specs.Passing.{Arrive, Arrived, IsRound, IsMarked, MadeRound, Kept, passed_if, passed_again}
use Rattle.verifier.proofs.Arriving.{elsewhere, all_long, all_fit, all_keep, all_covered, covered_same, receive_covers, receive_keeps, receive_fits}
use Rattle.verifier.proofs.Chains.{contains_self}
use Rattle.ranges.proofs.Chains.{state_chain}
use Rattle.ranges.proofs.Covering.{state_same, state_under}
use Rattle.verifier.proofs.Settled.{each_in_range, slot_fits, passed_fits, passed_past, slot_covers, settled_covers}

-- what is contained where it arrives changes nothing
covered_all_same : (table : List (Option Abstract)) (ps : List (ℕ × Abstract)) → CoversAll table ps → fold receive table ps ≡ table
covered_all_same table [] h = refl
covered_all_same table (p ∷ ps) h = ap (λ t. fold receive t ps) (covered_same table p h.0) ∙ covered_all_same table ps h.1

-- and stays contained, whatever arrives
keep_covers : (table : List (Option Abstract)) (ps qs : List (ℕ × Abstract)) → AreStates table → Arrive (length table) ps → Arrive (length table) qs
    → CoversAll table qs → CoversAll (fold receive table ps) qs
keep_covers table ps [] h a b c = tt
keep_covers table ps (q ∷ qs) h a b c = (all_keep table ps q.0 q.1 h a b.0.1 c.0, keep_covers table ps qs h a b.1 c.1)

-- so it may be left out

left_out : (b : Bool) (table : List (Option Abstract)) (ps : List (ℕ × Abstract)) → (b ≡ false → CoversAll table ps)
    → fold receive table (if b then ps else []) ≡ fold receive table ps
left_out true table ps c = refl
left_out false table ps c = sym (covered_all_same table ps (c refl))

all_left_out : (marked : ℕ → Bool) (f : ℕ → List (ℕ × Abstract)) (a n : ℕ) (table : List (Option Abstract)) → AreStates table → ((k : ℕ) → Arrive (length table) (f k))
    → ((k : ℕ) → marked k ≡ false → CoversAll table (f k))
    → fold receive table (flat_map (λ k. if marked k then f k else []) (range_with_len a n)) ≡ fold receive table (flat_map f (range_with_len a n))
all_left_out marked f a zero table h r c = refl
all_left_out marked f a (suc n) table h r c =
    let next = all_left_out marked f (a + 1) n (fold receive table (f a)) (all_fit table (f a) h (r a)) (λ k. rw (all_long table (f a)) (r k))
    (λ k e. keep_covers table (f a) (f k) h (r a) (r k) (c k e)) in
    rw (
      flat_map-cons (λ k. if marked k then f k else []) a (range_with_len (a + 1) n),
      flat_map-cons f a (range_with_len (a + 1) n),
      fold-append receive table (if marked a then f a else []) (flat_map (λ k. if marked k then f k else []) (range_with_len (a + 1) n)),
      fold-append receive table (f a) (flat_map f (range_with_len (a + 1) n)),
      left_out (marked a) table (f a) (c a),
    ) next

-- a round in which only the marked slots pass on

pub again_fits : (guards : Bool) (program : List (Option Instr)) (sectors : ℕ) (table : List (Option Abstract)) (marks : List Bool) → sectors < 2 ^ 64 → IsProgram program → IsShaped guards program
    → AreStates table → Arrive (length program) (passed_again guards program sectors table marks)
unfolding passed_again
again_fits guards program sectors table marks few p h states =
    each_in_range (λ q. (q.0 < length program) × IsState q.1) (passed_if guards program sectors table marks) 0 (length program)
    (λ slot. pick (get_or marks slot false) (passed_by guards program sectors table slot) (slot_fits guards program sectors table slot few p h states))
  where
    pick : (b : Bool) (ps : List (ℕ × Abstract)) → Arrive (length program) ps → Arrive (length program) (if b then ps else [])
    pick true ps a = a
    pick false ps a = tt

again_covers : (guards : Bool) (program : List (Option Instr)) (sectors : ℕ) (table : List (Option Abstract)) (marks : List Bool) → CoversAll table (passed_states guards program sectors table)
    → CoversAll table (passed_again guards program sectors table marks)
unfolding passed_again
again_covers guards program sectors table marks h =
    each_in_range (λ q. Covers (state_at table q.0) q.1) (passed_if guards program sectors table marks) 0 (length program)
    (λ slot. pick (get_or marks slot false) (passed_by guards program sectors table slot) (slot_covers guards program sectors table table slot h))
  where
    pick : (b : Bool) (ps : List (ℕ × Abstract)) → CoversAll table ps → CoversAll table (if b then ps else [])
    pick true ps a = a
    pick false ps a = tt

again_round : (guards : Bool) (program : List (Option Instr)) (sectors : ℕ) (table : List (Option Abstract)) (marks : List Bool) → sectors < 2 ^ 64 → IsProgram program → IsShaped guards program
    → IsRound (length program) table → IsMarked guards program sectors table marks → fold receive table (passed_again guards program sectors table marks) ≡ round_of guards program sectors table
unfolding passed_again round_of passed_states
again_round guards program sectors table marks few p h r m =
    all_left_out (λ k. get_or marks k false) (passed_by guards program sectors table) 0 (length program) table r.states
    (λ k. rw r.long (slot_fits guards program sectors table k few p h r.states)) m.rest

-- the marks of the next round

same_passed : (guards : Bool) (program : List (Option Instr)) (sectors : ℕ) (old new : List (Option Abstract)) (slot : ℕ) → state_at new slot ≡ state_at old slot
    → passed_by guards program sectors new slot ≡ passed_by guards program sectors old slot
unfolding rule_with sent_with
same_passed guards program sectors old new slot e = rw e refl

round_covers : (guards : Bool) (program : List (Option Instr)) (sectors : ℕ) (table : List (Option Abstract)) → sectors < 2 ^ 64 → IsProgram program → IsShaped guards program → IsRound (length program) table
    → CoversAll (round_of guards program sectors table) (passed_states guards program sectors table)
unfolding round_of
round_covers guards program sectors table few p h r =
    all_covered table (passed_states guards program sectors table) r.states (rw r.long (passed_fits guards program sectors table few p h r.states))

-- a round by what arrived
pub made_round : (guards : Bool) (program : List (Option Instr)) (sectors : ℕ) (table new : List (Option Abstract)) (marks before after : List Bool) (arrivals : List (ℕ × Abstract)) (more : Bool)
    → sectors < 2 ^ 64 → IsProgram program → IsShaped guards program → IsRound (length program) table → IsMarked guards program sectors table marks
    → arrivals ≡ passed_again guards program sectors table marks → length before ≡ length program → ((slot : ℕ) → get_or before slot false ≡ false)
    → Arrived table arrivals new more → Kept table before new after
    → MadeRound guards program sectors table new after more
made_round guards program sectors table new marks before after arrivals more few p h r m e long cleared a k =
    let made : new ≡ round_of guards program sectors table = a.table ∙ ap (λ ps. fold receive table ps) e ∙ again_round guards program sectors table marks few p h r m in
    let covered : CoversAll new (passed_states guards program sectors table) = rw made (round_covers guards program sectors table few p h r) in
    record {
      table = made;
      marks = record {
        long = k.long ∙ long;
        rest = λ slot none.
            subst (λ ps. CoversAll new ps) (sym (same_passed guards program sectors table new slot (k.same slot none))) (slot_covers guards program sectors table new slot covered);
      };
      changes = λ t same. a.left_out t (rw e (again_covers guards program sectors table marks (settled_covers guards program sectors table few p h r same)));
      same = λ f. sym made ∙ a.same f;
      learned = record {
        marks = after;
        long = k.long ∙ long ∙ sym (ap (λ t. length t) a.table ∙ all_long table arrivals ∙ r.long);
        learned = λ slot set. elim (k.learned slot set) [
          | inl was ↦ absurd (let bad : true ≡ false = sym was ∙ cleared slot in cc)
          | inr new ↦ new
        ];
        others = k.same;
        count = refl;
      };
    }

pub no_marks : (n slot : ℕ) → get_or (replicate n false) slot false ≡ false
no_marks zero slot = refl
no_marks (suc n) zero = refl
no_marks (suc n) (suc slot) = no_marks n slot

-- in the first round all slots are marked

in_replicate : (n slot : ℕ) → slot < n → get_or (replicate n true) slot false ≡ true
in_replicate zero slot inside = absurd (omega (arith, inside))
in_replicate (suc n) zero inside = refl
in_replicate (suc n) (suc slot) inside = in_replicate n slot (omega (arith, inside))

pub first_marks : (guards : Bool) (program : List (Option Instr)) (sectors : ℕ) (table : List (Option Abstract)) (marks : List Bool) → marks ≡ replicate (length program) true
    → IsMarked guards program sectors table marks
first_marks guards program sectors table marks e = record {
  long = rw e (length-replicate {A = Bool} (length program) true);
  rest = λ slot none. elim (cases_lt slot (length program)) [
    | inl inside ↦
        let there : get_or (replicate (length program) true) slot false ≡ false = rw e at none in
        absurd (let bad : true ≡ false = sym (in_replicate (length program) slot inside) ∙ there in cc)
    | inr past ↦ rw (passed_past guards program sectors table slot past) tt
  ];
}

-- marks and states that arrive

pub kept_self : (table : List (Option Abstract)) (marks : List Bool) → AreStates table → Kept table marks table marks
kept_self table marks states = record {
  long = refl;
  unmarked = λ _ e. e;
  same = λ _ _. refl;
  learned = λ _ e. inl e;
  known = states;
  knows = states;
  grows = λ _ x is c. c;
}

-- what was learned once is still new when more is known
learns_still : (m n : Option Abstract) → ((x : Abstract) → IsState x → Covers m x → Covers n x) → Holds IsState m → Holds IsState n → (k : Option Abstract)
    → Holds IsState k → Learns k m → Learns k n
learns_still None n grows a b k c learns covered = learns tt
learns_still (Some s) None grows a b k c learns covered = absurd (grows s a (contains_self s a))
learns_still (Some s) (Some t) grows a b None c learns covered = covered
learns_still (Some s) (Some t) grows a b (Some u) c learns covered =
    let larger : StateContains t s = grows s a (contains_self s a) in
    learns (state_same u s c a (state_chain s t u (state_under t s b a larger) (state_under u t c b covered)))

pub kept_more : (s t u : List (Option Abstract)) (l m n : List Bool) → Kept s l t m → Kept t m u n → Kept s l u n
kept_more s t u l m n a b = record {
  long = b.long ∙ a.long;
  unmarked = λ slot e. a.unmarked slot (b.unmarked slot e);
  same = λ slot e. b.same slot e ∙ a.same slot (b.unmarked slot e);
  learned = λ slot e. elim (cases_Bool (get_or m slot false)) [
    | inl was ↦ elim (a.learned slot was) [
      | inl first ↦ inl first
      | inr learns ↦ inr (learns_still (state_at t slot) (state_at u slot) (b.grows slot) (a.knows slot) (b.knows slot) (state_at s slot) (a.known slot) learns)
    ]
    | inr was_not ↦ elim (b.learned slot e) [
      | inl was ↦ absurd (let bad : true ≡ false = sym was ∙ was_not in cc)
      | inr learns ↦ inr (subst (λ k. Learns k (state_at u slot)) (a.same slot was_not) learns)
    ]
  ];
  known = a.known;
  knows = b.knows;
  grows = λ slot k is c. b.grows slot k is (a.grows slot k is c);
}

pub kept_marked : (table : List (Option Abstract)) (marks : List Bool) (p : ℕ × Abstract) → p.0 < length marks → p.0 < length table → AreStates table → IsState p.1
    → (Covers (state_at table p.0) p.1 → ⊥) → Kept table marks (receive table p) (set marks p.0 true)
kept_marked table marks p inside there states is missing = record {
  long = length-set marks p.0 true;
  unmarked = λ slot e. sym (get_or-set_other marks p.0 slot true false (other slot e)) ∙ e;
  same = λ slot e. elsewhere table p slot (other slot e);
  learned = λ slot e. elim (cases_eq slot p.0) [
    | inl here ↦ inr (rw here (by_known (state_at table p.0) (states p.0) missing (receive_covers table p there states is)))
    | inr elsewhere ↦ inl (sym (get_or-set_other marks p.0 slot true false elsewhere) ∙ e)
  ];
  known = states;
  knows = receive_fits table p there states is;
  grows = λ slot x a c. receive_keeps table p slot x there states is a c;
}
  where
    other : (slot : ℕ) → get_or (set marks p.0 true) slot false ≡ false → slot ≡ p.0 → ⊥
    other slot e same =
        let there : get_or (set marks p.0 true) p.0 false ≡ false = rw same at e in
        let bad : true ≡ false = sym (get_or-set_same marks p.0 true false inside) ∙ there in
        cc

    known_new : (m n : Option Abstract) → Holds IsState m → Holds IsState n → (Covers m p.1 → ⊥) → Covers n p.1 → Learns m n
    known_new m None a b out c covered = c
    known_new None (Some t) a b out c covered = covered
    known_new (Some s) (Some t) a b out c covered =
        out (state_same s p.1 a is (state_chain p.1 t s (state_under t p.1 b is c) (state_under s t a b covered)))

    by_known : (m : Option Abstract) → Holds IsState m → (Covers m p.1 → ⊥) → Covers (state_at (receive table p) p.0) p.1 → Learns m (state_at (receive table p) p.0)
    by_known m a out c = known_new m (state_at (receive table p) p.0) a (receive_fits table p there states is p.0) out c
