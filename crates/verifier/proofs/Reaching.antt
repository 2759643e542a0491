-- What a slot passes on are states, at slots of the program.
use Rattle.std.proofs.Common.{◌≡◌, ◌<◌, ◌^◌, ◌≤◌, ℕ, zero, suc, Bool, true, false, if◌then◌else◌, List, [], ◌∷◌, ◌++◌, length, map, slice_get, get_or, Option, Some, None, refl, inl, inr, ◌∙◌}
use Rattle.std.specs.Option.{option_and_then, option_to_list}
use Rattle.bpf_isa.specs.declared.instr.Instr.{Instr}
use Rattle.bpf_isa.specs.declared.instr.Instr.TheVariants as instr
use Rattle.bpf_isa.specs.Spelling.{IsInRange, second_of}
use Rattle.bpf_isa.specs.Program.{halves, slots_of, AllInRange, IsProgram}
use Rattle.bpf_isa.specs.Slots.{at}
use Rattle.bpf_shape.specs.Edges.{edges_of, control}
use Rattle.bpf_shape.specs.Calls.{callee_of, callee}
use Rattle.bpf_shape.specs.Paths.{Leads}
use Rattle.bpf_shape.specs.Rules.{IsShaped}
use Rattle.bpf_shape.specs.Keeping.{KeepsAll}
use Rattle.bpf_shape.specs.Again.{heads}
use Rattle.bpf_shape.proofs.Kept.{control_fits, entries_fit, at_past}
use Rattle.ranges.specs.States.{Abstract, round_state}
use Rattle.ranges.specs.Order.{IsState, Each, Holds}
use Rattle.ranges.proofs.Fitting.{round_state_fits}
use Rattle.ranges.proofs.Keeping.{entry_fits}
use Rattle.ranges.proofs.GuardedPasses.{after_with_fits, edge_with_fits}
use Rattle.verifier.specs.Tables.{state_at, arrival, passes_with, passed_on_with, rule_with, sent_with, AreStates, is_loose}
use Rattle.verifier.specs.declared.passing.Edge.{Edge}
use Rattle.verifier.specs.declared.passing.Edge.TheVariants as edge
use Rattle.verifier.specs.Passing.{either, target_of, state_along, along, Arrive, along_with}
use Rattle.verifier.proofs.Edges.{by_edges}

pub each_append : {X : Type 0} (P : X → Type 0) (xs ys : List X) → Each P xs → Each P ys → Each P (xs ++ ys)
each_append P [] ys a b = b
each_append P (x ∷ xs) ys a b = (a.0, each_append P xs ys a.1 b)

pub each_left : {X : Type 0} (P : X → Type 0) (xs ys : List X) → Each P (xs ++ ys) → Each P xs
each_left P [] ys a = tt
each_left P (x ∷ xs) ys a = (a.0, each_left P xs ys a.1)

pub each_right : {X : Type 0} (P : X → Type 0) (xs ys : List X) → Each P (xs ++ ys) → Each P ys
each_right P [] ys a = a
each_right P (x ∷ xs) ys a = each_right P xs ys a.1

-- the instructions of a program are in range

each_mapped : {X : Type 0} (f : X → Option Instr) → ((x : X) → Holds IsInRange (f x)) → (xs : List X) → Each (Holds IsInRange) (map f xs)
each_mapped f h [] = tt
each_mapped f h (x ∷ xs) = (h x, each_mapped f h xs)

all_in_range : (instrs : List Instr) → AllInRange instrs → Each (Holds IsInRange) (slots_of instrs)
all_in_range [] a = tt
all_in_range (i ∷ rest) a = (a.0, each_append (Holds IsInRange) (halves i) (slots_of rest) (each_mapped (λ _. None) (λ _. tt) (second_of i)) (all_in_range rest a.1))

found : {X : Type 0} (P : X → Type 0) (xs : List (Option X)) (k : ℕ) (x : X) → Each (Holds P) xs → option_and_then (λ i. i) (slice_get xs k) ≡ Some x → P x
found P [] k x a e = absurd (let bad : None ≡ Some x = e in cc)
found P (None ∷ ys) zero x a e = absurd (let bad : None ≡ Some x = e in cc)
found P (Some y ∷ ys) zero x a e = let same : y ≡ x = (let f : Some y ≡ Some x = e in cc) in rw same at a.0
found P (y ∷ ys) (suc k) x a e = found P ys k x a.1 e

pub in_range : (program : List (Option Instr)) (slot : ℕ) (i : Instr) → IsProgram program → at program slot ≡ Some i → IsInRange i
in_range program slot i h e =
    let all : Each (Holds IsInRange) program = rw h.whole.listed (all_in_range h.whole.instrs h.whole.ranges) in
    found IsInRange program slot i all e

-- what arrives along an edge

arriving_fits : (b : Bool) (s : Abstract) → IsState s → IsState (if b then round_state s else s)
arriving_fits true s a = round_state_fits s a
arriving_fits false s a = a

along_fits : (n : ℕ) (marks : List Bool) (edge : Option ℕ) (m : Option Abstract) → ((t : ℕ) → edge ≡ Some t → t < n) → Holds IsState m
    → Arrive n (option_to_list (along marks edge m))
along_fits n marks None m inside h = tt
along_fits n marks (Some slot) None inside h = tt
along_fits n marks (Some slot) (Some s) inside h = ((inside slot refl, arriving_fits (get_or marks slot false) s h), tt)

state_fits : (e : Edge) (loose : Bool) (sectors : ℕ) (s : Abstract) (i : Instr) → sectors < 2 ^ 64 → IsInRange i → IsState s → Holds IsState (along_with e loose sectors s i)
unfolding along_with
state_fits edge.Next loose sectors s (instr.Branch w c dst from distance) few r a = edge_with_fits loose s (instr.Branch w c dst from distance) false r a
state_fits edge.Next loose sectors s i few r a = after_with_fits loose sectors s i few r a
state_fits edge.Target loose sectors s (instr.CallLocal distance) few r a = entry_fits s a
state_fits edge.Target loose sectors s i few r a = edge_with_fits loose s i true r a

keeps_all : (guards : Bool) (program : List (Option Instr)) → IsShaped guards program → KeepsAll guards program
keeps_all guards program h = record { targets = h.targets; ends = h.ends; frame_pointer = h.frame_pointer; helpers = h.helpers; again = h.again }

passed_fits : (guards : Bool) (n sectors slot : ℕ) (marks : List Bool) (s : Abstract) (i : Instr) → sectors < 2 ^ 64 → IsInRange i → IsState s
    → ((t : ℕ) → Leads (edges_of slot i) t → t < n) → ((t : ℕ) → callee_of slot i ≡ Some t → t < n) → Arrive n (map (arrival marks) (passes_with guards sectors s slot i))
unfolding target_of
passed_fits guards n sectors slot marks s i few r a inside called =
    rw (← by_edges guards marks sectors slot s i)
    (each_append (λ p. (p.0 < n) × IsState p.1) _ _
    (along_fits n marks (edges_of slot i).next (state_along edge.Next guards sectors s i) (λ t e. inside t (inl e)) (state_fits edge.Next (is_loose guards s i) sectors s i few r a))
    (along_fits n marks (target_of slot i) (state_along edge.Target guards sectors s i) (λ t e. by_callee t (callee_of slot i) refl e) (state_fits edge.Target (is_loose guards s i) sectors s i few r a)))
  where
    by_callee : (t : ℕ) (m : Option ℕ) → callee_of slot i ≡ m → either m (edges_of slot i).target ≡ Some t → t < n
    by_callee t None e f = inside t (inr f)
    by_callee t (Some x) e f = called t (e ∙ f)

pub sent_fits : (guards : Bool) (program : List (Option Instr)) (sectors : ℕ) (table : List (Option Abstract)) (slot : ℕ) → sectors < 2 ^ 64 → IsProgram program → IsShaped guards program → AreStates table
    → Arrive (length program) (sent_with guards program sectors table slot)
unfolding sent_with control callee
sent_fits guards program sectors table slot few p h states = cases (at program slot) (state_at table slot) refl (states slot)
  where
    cases : (i : Option Instr) (s : Option Abstract) → at program slot ≡ i → Holds IsState s → Arrive (length program) (passed_on_with guards (heads program) sectors slot i s)
    cases None s e a = tt
    cases (Some i) None e a = tt
    cases (Some i) (Some s) e a =
        passed_fits guards (length program) sectors slot (heads program) s i few (in_range program slot i p e) a
        (λ t leads. let there : Leads (control program slot) t = rw e leads in control_fits guards program (keeps_all guards program h) slot t there)
        (λ t calls. let there : callee program slot ≡ Some t = rw e calls in entries_fit guards program h.targets slot t there)

-- past the end there is nothing
pub nothing_past : (guards : Bool) (program : List (Option Instr)) (sectors : ℕ) (table : List (Option Abstract)) (slot : ℕ) → length program ≤ slot
    → (rule_with guards program table slot ≡ None) × (sent_with guards program sectors table slot ≡ [])
unfolding rule_with sent_with
nothing_past guards program sectors table slot past = (rw (at_past program slot past) refl, rw (at_past program slot past) refl)
