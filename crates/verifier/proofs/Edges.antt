-- What an instruction passes on, edge by edge.
use Rattle.std.proofs.Common.{◌≡◌, ℕ, ◌+◌, Bool, List, [], ◌∷◌, ◌++◌, map, Option, Some, None, refl, ap, ◌∙◌, append_assoc}
use Rattle.std.specs.Option.{option_to_list}
use Rattle.bpf_isa.specs.declared.instr.Instr.{Instr}
use Rattle.bpf_isa.specs.declared.instr.Instr.TheVariants as instr
use Rattle.bpf_shape.specs.Edges.{edges_of}
use Rattle.bpf_shape.specs.Calls.{callee_of}
use Rattle.ranges.specs.States.{Abstract}
use Rattle.ranges.specs.After.{after_with}
use Rattle.ranges.specs.Passing.{passed_state, edge_with, passed_with}
use Rattle.verifier.specs.Tables.{arrival, passes_with, is_loose}
use Rattle.verifier.specs.declared.passing.Edge.{Edge}
use Rattle.verifier.specs.declared.passing.Edge.TheVariants as edge
use Rattle.verifier.specs.Passing.{target_of, end_of, state_along, along, along_with}

two : (heads : List Bool) (a b : ℕ) (m n : Option Abstract) → option_to_list (along heads (Some a) m) ++ option_to_list (along heads (Some b) n) ≡ map (arrival heads) (passed_state a m ++ passed_state b n)
two heads a b None None = refl
two heads a b None (Some t) = refl
two heads a b (Some s) None = refl
two heads a b (Some s) (Some t) = refl

one : (heads : List Bool) (a : ℕ) (m : Option Abstract) → option_to_list (along heads (Some a) m) ++ [] ≡ map (arrival heads) (passed_state a m)
one heads a None = refl
one heads a (Some s) = refl

with_entry : (heads : List Bool) (a b : ℕ) (m : Option Abstract) (t : Abstract)
    → option_to_list (along heads (Some a) m) ++ option_to_list (along heads (Some b) (Some t)) ≡ map (arrival heads) (passed_state a m ++ (b, t) ∷ [])
with_entry heads a b None t = refl
with_entry heads a b (Some s) t = refl

-- what goes along an edge
abbrev pub Along : Edge → Bool → List Bool → ℕ → ℕ → Abstract → Instr → List (ℕ × Abstract)
Along e guards heads sectors slot s i = option_to_list (along heads (end_of e slot i) (state_along e guards sectors s i))

edges_with : (loose : Bool) (heads : List Bool) (sectors slot : ℕ) (s : Abstract) (i : Instr)
    → option_to_list (along heads (edges_of slot i).next (along_with edge.Next loose sectors s i)) ++ option_to_list (along heads (target_of slot i) (along_with edge.Target loose sectors s i))
    ≡ map (arrival heads) (passed_with loose sectors s slot i)
unfolding edges_of callee_of along_with target_of passed_with edge_with
edges_with loose heads sectors slot s instr.Exit = refl
edges_with loose heads sectors slot s (instr.Jump distance) = refl
edges_with loose heads sectors slot s (instr.LongJump distance) = refl
edges_with loose heads sectors slot s (instr.Branch w c dst from distance) = two heads _ _ _ _
edges_with loose heads sectors slot s (instr.CallLocal distance) = with_entry heads _ _ _ _
edges_with loose heads sectors slot s (instr.LoadImmediate dst x) = one heads (slot + 2) (after_with loose sectors s (instr.LoadImmediate dst x))
edges_with loose heads sectors slot s i = one heads (slot + 1) (after_with loose sectors s i)

pub by_edges : (guards : Bool) (heads : List Bool) (sectors slot : ℕ) (s : Abstract) (i : Instr)
    → Along edge.Next guards heads sectors slot s i ++ Along edge.Target guards heads sectors slot s i ≡ map (arrival heads) (passes_with guards sectors s slot i)
by_edges guards heads sectors slot s i = edges_with (is_loose guards s i) heads sectors slot s i

-- both edges, one after the other
pub by_both : (guards : Bool) (heads : List Bool) (sectors slot : ℕ) (s : Abstract) (i : Instr) (before : List (ℕ × Abstract))
    → before ++ Along edge.Next guards heads sectors slot s i ++ Along edge.Target guards heads sectors slot s i ≡ before ++ map (arrival heads) (passes_with guards sectors s slot i)
by_both guards heads sectors slot s i before =
    append_assoc before (Along edge.Next guards heads sectors slot s i) (Along edge.Target guards heads sectors slot s i) ∙ ap (λ t. before ++ t) (by_edges guards heads sectors slot s i)
