-- What a known state learns from another, part by part.
use Rattle.std.proofs.Common.{◌≡◌, ◌<◌, ℕ, zero, suc, List, [], ◌∷◌, length, get_or, Option, Some, None, refl, sym, ◌∙◌, ap, arith, inl, inr}
use Rattle.std.specs.Prelude.{slice_set, slice_index_or, set}
use Rattle.std.specs.Option.{option_map}
use Rattle.std.proofs.lemmas.Bool.{cases_eq}
use Rattle.std.proofs.lemmas.List.{length-set, length-map, get_or-set_same, get_or-set_other}
use Rattle.ranges.specs.declared.state.State.{State}
use Rattle.ranges.specs.Kinds.{Kind, Unset, join}
use Rattle.ranges.specs.Groups.{GroupKind, Marked, zip_with, join_group}
use Rattle.ranges.specs.States.{Abstract, join_state}
use Rattle.ranges.specs.Order.{Under, GroupUnder, EachUnder, IsState, EdgeUnder, Holds}
use Rattle.ranges.specs.Reading.{value, with_value, with_groups}
use Rattle.ranges.specs.SeenStates.{state_of}
use Rattle.ranges.proofs.Arrays.{mapped_set}
use Rattle.ranges.proofs.Covering.{state_least}
use Rattle.verifier.specs.Tables.{state_at, AreStates}
use Rattle.verifier.specs.Seen.{table_of}
use Rattle.verifier.specs.Sought.{Below, TakesIn}
use Rattle.verifier.specs.Passing.{LearnsFrom, LearnsAt}
use Rattle.verifier.proofs.Tables.{all_states, known_at}

pub learns_self : (s t : Abstract) → LearnsFrom s t s
learns_self s t = record { under = λ g _ u _. u }

pub learns_more : (s t m n : Abstract) → LearnsFrom s t m → LearnsFrom m t n → LearnsFrom s t n
learns_more s t m n a b = record { under = λ g is u v. b.under g is (a.under g is u v) v }

-- one place of a list is joined

each_set : {X : Type 0} (R : X → X → Type 0) (f : X → X → X) (xs ys gs : List X) (n : ℕ) (v d : X) → n < length xs → v ≡ f (slice_index_or xs n d) (slice_index_or ys n d)
    → EachUnder R xs gs → EachUnder R (zip_with f xs ys) gs → EachUnder R (slice_set xs n v) gs
unfolding zip_with
each_set R f [] ys gs n v d inside e a b = absurd (omega (arith, inside))
each_set R f (x ∷ xs) ys [] n v d inside e a b = absurd a
each_set R f (x ∷ xs) [] (g ∷ gs) n v d inside e a b = absurd b
each_set R f (x ∷ xs) (y ∷ ys) (g ∷ gs) zero v d inside e a b = (rw e b.0, a.1)
each_set R f (x ∷ xs) (y ∷ ys) (g ∷ gs) (suc n) v d inside e a b = (a.0, each_set R f xs ys gs n v d (omega (arith, inside)) e a.1 b.1)

pub learned_value : (s t : Abstract) (n : ℕ) (k : Kind) → IsState s → IsState t → n < 11 → k ≡ join (value s n) (value t n) → LearnsFrom s t (with_value s n k)
unfolding join_state
learned_value s t n k a b inside e = record {
  under = λ g is u v.
      let both = state_least s t g a b is u v in
      record {
        values = each_set Under join s.values t.values g.values n k Unset (rw a.registers inside) e u.values both.values;
        groups = u.groups;
      };
}

pub learned_group : (s t : Abstract) (n : ℕ) (k : GroupKind) → IsState s → IsState t → n < 64
    → k ≡ join_group (slice_index_or s.groups n (Marked [])) (slice_index_or t.groups n (Marked []))
    → LearnsFrom s t (with_groups s (slice_set s.groups n k))
unfolding join_state
learned_group s t n k a b inside e = record {
  under = λ g is u v.
      let both = state_least s t g a b is u v in
      record {
        values = u.values;
        groups = each_set GroupUnder join_group s.groups t.groups g.groups n k (Marked []) (rw a.stack inside) e u.groups both.groups;
      };
}

-- what is known at a slot

pub learned_none : (t : Abstract) → LearnsAt None t (Some t)
learned_none t = record { under = λ m _ _ v. v }

pub learned_some : (s t n : Abstract) → LearnsFrom s t n → LearnsAt (Some s) t (Some n)
learned_some s t n h = record { under = λ m is u v. by_known m is u v }
  where
    by_known : (m : Option Abstract) → Holds IsState m → EdgeUnder (Some s) m → EdgeUnder (Some t) m → EdgeUnder (Some n) m
    by_known None is u v = absurd u
    by_known (Some g) is u v = h.under g is u v

-- a table that learns at one slot

learned_here : (m n : Option Abstract) (s : Abstract) (known : Option Abstract) → LearnsAt m s n → m ≡ known → (g : Option Abstract) → Holds IsState g → EdgeUnder known g
    → EdgeUnder (Some s) g → EdgeUnder n g
learned_here m n s known h e g is u v = h.under g is (rw e u) v

table_learns : (table : List (Option Abstract)) (slot : ℕ) (m n : Option Abstract) (s : Abstract) → slot < length table → m ≡ state_at table slot → LearnsAt m s n
    → (g : List (Option Abstract)) → AreStates g → Below table g → EdgeUnder (Some s) (state_at g slot) → Below (set table slot n) g
table_learns table slot m n s inside e h g is below arrives k =
    elim (cases_eq k slot) [
      | inl same ↦
          rw (same, get_or-set_same table slot n None inside) (learned_here m n s (state_at table slot) h e (state_at g slot) (is slot) (below slot) arrives)
      | inr other ↦ rw (get_or-set_other table slot k n None other) (below k)
    ]

pub takes_in : (states : List (Option State)) (table : List (Option Abstract)) (slot : ℕ) (old new d : Option State) (x : Abstract) → slot < length states
    → table_of states ≡ table → old ≡ get_or states slot d → LearnsAt (option_map state_of old) x (option_map state_of new)
    → TakesIn table ((slot, x) ∷ []) (table_of (set states slot new))
takes_in states table slot old new d x small e o h =
    let made : table_of (set states slot new) ≡ set table slot (option_map state_of new) =
    mapped_set (option_map state_of) states slot new ∙ ap (λ t. set t slot (option_map state_of new)) e in
    let known : option_map state_of old ≡ state_at table slot =
    ap (λ m. option_map state_of m) o ∙ known_at states slot d small ∙ ap (λ t. state_at t slot) e in
    let long : length table ≡ length states = sym (ap (λ t. length t) e) ∙ length-map states (option_map state_of) in
    record {
      long = ap (λ t. length t) made ∙ length-set table slot (option_map state_of new);
      states = λ _. all_states (set states slot new);
      below = λ g is below arrive. rw made
          (table_learns table slot (option_map state_of old) (option_map state_of new) x (omega (arith, small, long)) known h g is below arrive.0);
    }

pub takes_nothing : (table : List (Option Abstract)) → TakesIn table [] table
takes_nothing table = record { long = refl; states = λ is. is; below = λ g _ below _. below }
