-- What a slot passes on arrives edge by edge, in part.
use Rattle.std.proofs.Common.{◌≡◌, ◌<◌, ◌^◌, ℕ, Bool, List, ◌++◌, length, Option, Some}
use Rattle.bpf_isa.specs.declared.instr.Instr.{Instr}
use Rattle.bpf_isa.specs.Program.{IsProgram}
use Rattle.bpf_isa.specs.Slots.{at}
use Rattle.bpf_shape.specs.Again.{heads}
use Rattle.bpf_shape.specs.Rules.{IsShaped}
use Rattle.ranges.specs.States.{Abstract}
use Rattle.ranges.specs.Order.{Each, EdgeUnder, IsState}
use Rattle.verifier.specs.Tables.{state_at, AreStates, sent_with}
use Rattle.verifier.specs.Sought.{AllBelow, TakesIn, one_more}
use Rattle.verifier.specs.declared.passing.Edge.{Edge}
use Rattle.verifier.specs.declared.passing.Edge.TheVariants as edge
use Rattle.verifier.specs.Passing.{Arrive, StaysSought}
use Rattle.verifier.proofs.Edges.{Along, by_edges}
use Rattle.verifier.proofs.Reaching.{each_left, each_right, sent_fits}

-- what a slot passes on, edge by edge
parts : (guards : Bool) (program : List (Option Instr)) (sectors : ℕ) (table : List (Option Abstract)) (slot : ℕ) (s : Abstract) (i : Instr)
    → at program slot ≡ Some i → state_at table slot ≡ Some s
    → Along edge.Next guards (heads program) sectors slot s i ++ Along edge.Target guards (heads program) sectors slot s i ≡ sent_with guards program sectors table slot
unfolding sent_with
parts guards program sectors table slot s i there known = rw (there, known) (by_edges guards (heads program) sectors slot s i)

-- what holds where a slot passes on a state
pub record Passes (guards : Bool) (program : List (Option Instr)) (sectors : ℕ) (table : List (Option Abstract)) (slot : ℕ) (s : Abstract) (i : Instr) : Type 0 where
  pub few : sectors < 2 ^ 64
  pub made : IsProgram program
  pub shape : IsShaped guards program
  pub states : AreStates table
  pub long : length table ≡ length program
  pub there : at program slot ≡ Some i
  pub known : state_at table slot ≡ Some s

-- what holds of all that is passed on holds of what goes along an edge
one_edge : (P : ℕ × Abstract → Type 0) (e : Edge) (guards : Bool) (program : List (Option Instr)) (sectors : ℕ) (table : List (Option Abstract)) (slot : ℕ) (s : Abstract) (i : Instr)
    → Passes guards program sectors table slot s i → Each P (sent_with guards program sectors table slot) → Each P (Along e guards (heads program) sectors slot s i)
one_edge P e guards program sectors table slot s i h all = by_edge e
  where
    both : Each P (Along edge.Next guards (heads program) sectors slot s i ++ Along edge.Target guards (heads program) sectors slot s i)
    both = rw (parts guards program sectors table slot s i h.there h.known) all

    by_edge : (e : Edge) → Each P (Along e guards (heads program) sectors slot s i)
    by_edge edge.Next = each_left P _ (Along edge.Target guards (heads program) sectors slot s i) both
    by_edge edge.Target = each_right P (Along edge.Next guards (heads program) sectors slot s i) _ both

pub edge_fits : (e : Edge) (guards : Bool) (program : List (Option Instr)) (sectors : ℕ) (table : List (Option Abstract)) (slot : ℕ) (s : Abstract) (i : Instr) → Passes guards program sectors table slot s i
    → Arrive (length table) (Along e guards (heads program) sectors slot s i)
edge_fits e guards program sectors table slot s i h =
    one_edge (λ p. (p.0 < length table) × IsState p.1) e guards program sectors table slot s i h
    (rw h.long (sent_fits guards program sectors table slot h.few h.made h.shape h.states))

-- some of it arrives
stays_part : (guards : Bool) (program : List (Option Instr)) (sectors : ℕ) (table new : List (Option Abstract)) (slot : ℕ) (ps : List (ℕ × Abstract)) → TakesIn table ps new
    → ((g : List (Option Abstract)) → AllBelow g (sent_with guards program sectors table slot) → AllBelow g ps) → StaysSought guards program sectors table new
stays_part guards program sectors table new slot ps taken some = record {
  long = taken.long;
  sought = λ h. one_more table new slot h (record {
    long = taken.long;
    states = taken.states;
    below = λ g states below arrive. taken.below g states below (some g arrive);
  });
}

pub stays_edge : (e : Edge) (guards : Bool) (program : List (Option Instr)) (sectors : ℕ) (table new : List (Option Abstract)) (slot : ℕ) (s : Abstract) (i : Instr) → Passes guards program sectors table slot s i
    → TakesIn table (Along e guards (heads program) sectors slot s i) new → StaysSought guards program sectors table new
stays_edge e guards program sectors table new slot s i h taken =
    stays_part guards program sectors table new slot (Along e guards (heads program) sectors slot s i) taken
    (λ g all. one_edge (λ p. EdgeUnder (Some p.1) (state_at g p.0)) e guards program sectors table slot s i h all)
