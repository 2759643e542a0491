-- What little changes goes along an edge, part by part.
use Rattle.std.proofs.Common.{◌≡◌, ◌<◌, ◌^◌, ℕ, zero, suc, Bool, true, false, List, [], ◌∷◌, map, length, get_or, Option, None, Some, refl, sym, ◌∙◌, ap}
use Rattle.std.specs.Prelude.{set, slice_index_or, slice_set}
use Rattle.std.specs.Option.{option_map, option_to_list}
use Rattle.std.proofs.lemmas.List.{length-map, length-set, get_or-set_other}
use Rattle.ranges.specs.declared.state.State.{State}
use Rattle.ranges.specs.declared.change.Effect.{Effect}
use Rattle.ranges.specs.declared.change.Effect.TheVariants.{Changed, Nothing}
use Rattle.intervals.specs.Reducing.{Limits, limits_hull}
use Rattle.ranges.specs.Kinds.{Kind, Unset, Num, join, round}
use Rattle.ranges.specs.Groups.{GroupKind, Marked, Spilled, join_group, round_group}
use Rattle.ranges.specs.States.{Abstract, round_state}
use Rattle.ranges.specs.Order.{IsState}
use Rattle.ranges.specs.Reading.{value, with_value, with_groups}
use Rattle.ranges.specs.After.{group_after, is_touched}
use Rattle.ranges.specs.Changing.{group_beyond, groups_after, left_of}
use Rattle.ranges.specs.SeenStates.{state_of}
use Rattle.ranges.proofs.Arrays.{mapped_set}
use Rattle.ranges.proofs.Writing.{group_written}
use Rattle.verifier.specs.declared.way.Way.{Way}
use Rattle.bpf_isa.specs.declared.instr.Instr.{Instr}
use Rattle.bpf_isa.specs.Program.{IsProgram}
use Rattle.bpf_isa.specs.Slots.{at}
use Rattle.bpf_shape.specs.Again.{heads}
use Rattle.bpf_shape.specs.Rules.{IsShaped}
use Rattle.verifier.specs.Tables.{state_at, AreStates}
use Rattle.verifier.specs.Seen.{table_of}
use Rattle.verifier.specs.Sought.{TakesIn}
use Rattle.verifier.specs.declared.passing.Edge.{Edge}
use Rattle.verifier.specs.Passing.{Arrive, LearnsAt, StaysSought, along, end_of, state_along}
use Rattle.verifier.specs.Ways.{passed_along, Goes, IsWay, LearnsAlong, LeavesAt, TellsValue, TellsGroup, TellsValueAt, TellsGroupAt}
use Rattle.verifier.proofs.Stepping.{Passes, edge_fits, stays_edge}
use Rattle.verifier.proofs.Learned.{learns_self, learned_value, learned_group, learned_some, takes_in}

-- a state is rounded place by place

map_at : {X : Type 0} (f : X → X) (xs : List X) (n : ℕ) (d : X) → f d ≡ d → f (get_or xs n d) ≡ get_or (map f xs) n d
map_at f [] n d e = e
map_at f (x ∷ xs) zero d e = refl
map_at f (x ∷ xs) (suc n) d e = map_at f xs n d e

pub round_value : (s : Abstract) (n : ℕ) → round (value s n) ≡ value (round_state s) n
unfolding round_state round
round_value s n = map_at round s.values n Unset refl

pub round_group_at : (s : Abstract) (n : ℕ) → round_group (slice_index_or s.groups n (Marked [])) ≡ slice_index_or (round_state s).groups n (Marked [])
unfolding round_state round_group
round_group_at s n = map_at round_group s.groups n (Marked []) refl

-- a change leaves a group as it was

pub group_left : (s : Abstract) (m n : ℕ) (g : GroupKind) → (n ≡ m → ⊥)
    → slice_index_or s.groups n (Marked []) ≡ slice_index_or (with_groups s (slice_set s.groups m g)).groups n (Marked [])
group_left s m n g other = sym (get_or-set_other s.groups m n g (Marked []) other)

apart : (are_set : Bool) (at k n : ℕ) (g : GroupKind) → is_touched at k n ≡ false → g ≡ group_beyond are_set at k n g
unfolding group_after
apart true at k n g e = rw e refl
apart false at k n g e = rw e refl

pub bytes_left : (s : Abstract) (are_set : Bool) (at k n : ℕ) → is_touched at k n ≡ false → n < length s.groups
    → slice_index_or s.groups n (Marked []) ≡ slice_index_or (groups_after are_set at k s.groups) n (Marked [])
bytes_left s are_set at k n e inside = apart are_set at k n (slice_index_or s.groups n (Marked [])) e ∙ group_written are_set at k s.groups n inside

-- one part is told

pub tells_no_value : (s : Abstract) (n : ℕ) (k : Kind) → TellsValue s n k s
tells_no_value s n k = record { tells = λ x _ _. learns_self s x }

pub tells_value : (s : Abstract) (n : ℕ) (k l : Kind) → IsState s → n < 11 → l ≡ join (value s n) k → TellsValue s n k (with_value s n l)
tells_value s n k l a inside e = record { tells = λ x b is. learned_value s x n l a b inside (rw is at e) }

pub tells_no_group : (s : Abstract) (n : ℕ) (k : GroupKind) → TellsGroup s n k s
tells_no_group s n k = record { tells = λ x _ _. learns_self s x }

pub tells_group : (s : Abstract) (n : ℕ) (k l : GroupKind) → IsState s → n < 64 → l ≡ join_group (slice_index_or s.groups n (Marked [])) k
    → TellsGroup s n k (with_groups s (set s.groups n l))
tells_group s n k l a inside e = record { tells = λ x b is. learned_group s x n l a b inside (rw is at e) }

-- a number that is joined where it lies is the group of which a join tells
pub tells_number : (s : Abstract) (n : ℕ) (l : GroupKind) (x y z : Limits) → IsState s → n < 64 → slice_index_or s.groups n (Marked []) ≡ Spilled (Num x)
    → z ≡ limits_hull x y → l ≡ Spilled (Num z) → TellsGroup s n (Spilled (Num y)) (with_groups s (set s.groups n l))
unfolding join_group join
tells_number s n l x y z a inside known hull made = tells_group s n (Spilled (Num y)) l a inside (rw (known, made, hull) refl)

-- at a slot

pub tells_some_value : (s new : Abstract) (n : ℕ) (k : Kind) → TellsValue s n k new → TellsValueAt (Some s) n k (Some new)
tells_some_value s new n k h = record { tells = λ x a is. learned_some s x new (h.tells x a is) }

pub tells_none_value : (n : ℕ) (k : Kind) → TellsValueAt None n k None
tells_none_value n k = record { tells = λ x _ _. record { under = λ m _ u _. u } }

pub tells_some_group : (s new : Abstract) (n : ℕ) (k : GroupKind) → TellsGroup s n k new → TellsGroupAt (Some s) n k (Some new)
tells_some_group s new n k h = record { tells = λ x a is. learned_some s x new (h.tells x a is) }

pub tells_none_group : (n : ℕ) (k : GroupKind) → TellsGroupAt None n k None
tells_none_group n k = record { tells = λ x _ _. record { under = λ m _ u _. u } }

-- a table learns along a way

pub along_self : (way : Way) (t : List (Option Abstract)) → LearnsAlong way t t
along_self way t = record { long = refl; same = refl; takes = λ s _ _. record { long = refl; states = λ h. h; below = λ g _ below _. below } }

pub along_more : (way : Way) (t u v : List (Option Abstract)) → LearnsAlong way t u → LearnsAlong way u v → LearnsAlong way t v
along_more way t u v a b = record {
  long = b.long ∙ a.long;
  same = b.same ∙ a.same;
  takes = λ s known is.
      let first = a.takes s known is in
      let second = b.takes s (a.same ∙ known) is in
      record {
        long = second.long ∙ first.long;
        states = λ h. second.states (first.states h);
        below = λ g fits below arrive. second.below g fits (first.below g fits below arrive) arrive;
      };
}

-- a part that is told at the end of a way
pub goes_along : (way : Way) (states : List (Option State)) (table : List (Option Abstract)) (old new d : Option State)
    → Goes way (length table) → table_of states ≡ table → old ≡ get_or states way.to d
    → ((s : Abstract) → state_at table way.from ≡ Some s → IsState (passed_along way s) → LearnsAt (option_map state_of old) (passed_along way s) (option_map state_of new))
    → LearnsAlong way table (table_of (set states way.to new))
goes_along way states table old new d goes e o tells =
    let long : length table ≡ length states = sym (ap (λ t. length t) e) ∙ length-map states (option_map state_of) in
    let inside : way.to < length states = rw long at goes.inside in
    let made : table_of (set states way.to new) ≡ set table way.to (option_map state_of new) =
    mapped_set (option_map state_of) states way.to new ∙ ap (λ t. set t way.to (option_map state_of new)) e in
    record {
      long = length-map (set states way.to new) (option_map state_of) ∙ length-set states way.to new ∙ sym long;
      same = rw made (get_or-set_other table way.to way.from (option_map state_of new) None goes.apart);
      takes = λ s known is. takes_in states table way.to old new d (passed_along way s) inside e o (tells s known is);
    }

-- what was read of the state at the begin of a way is of each state that is known there

same_state : (m : Option Abstract) (s t : Abstract) → Some s ≡ m → m ≡ Some t → s ≡ t
same_state m s t a b = let both : Some s ≡ Some t = a ∙ b in cc

pub value_of_state : (way : Way) (s t : Abstract) (m : Option Abstract) (n : ℕ) (k : Kind) → Some s ≡ m → m ≡ Some t → k ≡ value (passed_along way s) n
    → k ≡ value (passed_along way t) n
value_of_state way s t m n k a b e = rw (same_state m s t a b) at e

pub group_of_state : (way : Way) (s t : Abstract) (m : Option Abstract) (n : ℕ) (k : GroupKind) → Some s ≡ m → m ≡ Some t
    → k ≡ slice_index_or (passed_along way s).groups n (Marked []) → k ≡ slice_index_or (passed_along way t).groups n (Marked [])
group_of_state way s t m n k a b e = rw (same_state m s t a b) at e

-- what goes along an edge by a way
by_way : (heads : List Bool) (way : Way) (from to n : ℕ) (effect : Effect) (s : Abstract) → IsWay from to (get_or heads to false) effect n way
    → option_to_list (along heads (Some to) (left_of s effect)) ≡ (way.to, passed_along way s) ∷ []
by_way heads way from to n effect s w = rw (w.changes, w.ends, w.rounds) refl

by_learning : (table new : List (Option Abstract)) (heads : List Bool) (way : Way) (slot to : ℕ) (effect : Effect) (s : Abstract)
    → IsWay slot to (get_or heads to false) effect (length table) way → state_at table slot ≡ Some s → LearnsAlong way table new
    → Arrive (length table) (option_to_list (along heads (Some to) (left_of s effect))) → TakesIn table (option_to_list (along heads (Some to) (left_of s effect))) new
by_learning table new heads way slot to effect s w known learns arrive =
    let e = by_way heads way slot to (length table) effect s w in
    let fits : Arrive (length table) ((way.to, passed_along way s) ∷ []) = rw e at arrive in
    rw e (learns.takes s (rw w.begins known) fits.0.1)

nothing_changes : (effect : Effect) (way : Way) → effect ≡ Nothing → effect ≡ Changed way.change → ⊥
nothing_changes effect way a b = let both : Nothing ≡ Changed way.change = sym a ∙ b in cc

-- what comes of a state that is known at a slot
left_here : (m : Option Abstract) (s : Abstract) (effect : Effect) (f : Abstract → Option Abstract) → LeavesAt m effect f → m ≡ Some s → left_of s effect ≡ f s
left_here m s effect f leaves e = rw e at leaves

-- what holds where a slot passes something on along an edge
pub record Sends (guards : Bool) (program : List (Option Instr)) (sectors : ℕ) (table : List (Option Abstract)) (slot : ℕ) (i : Instr) (marks : List Bool) : Type 0 where
  pub few : sectors < 2 ^ 64
  pub made : IsProgram program
  pub shape : IsShaped guards program
  pub states : AreStates table
  pub long : length table ≡ length program
  pub there : at program slot ≡ Some i
  pub rounds : marks ≡ heads program

passes_of : (guards : Bool) (program : List (Option Instr)) (sectors : ℕ) (table : List (Option Abstract)) (slot : ℕ) (i : Instr) (marks : List Bool) (s : Abstract)
    → Sends guards program sectors table slot i marks → state_at table slot ≡ Some s → Passes guards program sectors table slot s i
passes_of guards program sectors table slot i marks s h known = record {
  few = h.few;
  made = h.made;
  shape = h.shape;
  states = h.states;
  long = h.long;
  there = h.there;
  known = known;
}

pub fits_along : (e : Edge) (guards : Bool) (program : List (Option Instr)) (sectors : ℕ) (table : List (Option Abstract)) (slot to : ℕ) (i : Instr) (marks : List Bool) (effect : Effect) (s : Abstract)
    → Sends guards program sectors table slot i marks → end_of e slot i ≡ Some to → LeavesAt (state_at table slot) effect (λ s. state_along e guards sectors s i)
    → state_at table slot ≡ Some s → Arrive (length table) (option_to_list (along marks (Some to) (left_of s effect)))
fits_along e guards program sectors table slot to i marks effect s h ends leaves known =
    rw (left_here (state_at table slot) s effect (λ s. state_along e guards sectors s i) leaves known, h.rounds)
    (rw ends at (edge_fits e guards program sectors table slot s i (passes_of guards program sectors table slot i marks s h known)))

pub comes_along : (e : Edge) (guards : Bool) (program : List (Option Instr)) (sectors : ℕ) (table new : List (Option Abstract)) (slot to : ℕ) (i : Instr) (marks : List Bool) (effect : Effect) (s : Abstract)
    → Sends guards program sectors table slot i marks → end_of e slot i ≡ Some to → LeavesAt (state_at table slot) effect (λ s. state_along e guards sectors s i)
    → state_at table slot ≡ Some s → TakesIn table (option_to_list (along marks (Some to) (left_of s effect))) new → StaysSought guards program sectors table new
comes_along e guards program sectors table new slot to i marks effect s h ends leaves known taken =
    let left = left_here (state_at table slot) s effect (λ s. state_along e guards sectors s i) leaves known in
    stays_edge e guards program sectors table new slot s i (passes_of guards program sectors table slot i marks s h known) (rw ends (rw (left, h.rounds) at taken))

pub learns_along : (e : Edge) (guards : Bool) (program : List (Option Instr)) (sectors : ℕ) (table new : List (Option Abstract)) (slot to : ℕ) (i : Instr) (marks : List Bool) (effect : Effect) (way : Way)
    → Sends guards program sectors table slot i marks → end_of e slot i ≡ Some to → LeavesAt (state_at table slot) effect (λ s. state_along e guards sectors s i)
    → IsWay slot to (get_or marks to false) effect (length table) way → LearnsAlong way table new → StaysSought guards program sectors table new
learns_along e guards program sectors table new slot to i marks effect way h ends leaves w learns = by_known (state_at table slot) refl
  where
    by_known : (m : Option Abstract) → state_at table slot ≡ m → StaysSought guards program sectors table new
    by_known None known = absurd (nothing_changes effect way (rw known at leaves) w.changes)
    by_known (Some s) known =
        comes_along e guards program sectors table new slot to i marks effect s h ends leaves known
        (by_learning table new marks way slot to effect s w known learns (fits_along e guards program sectors table slot to i marks effect s h ends leaves known))
