-- What a slot passes on is contained where it arrives, edge by edge.
use Rattle.std.proofs.Common.{◌≡◌, ◌↔◌, ℕ, Bool, true, false, IsTrue, List, map, Option, sym, ◌∙◌, subst}
use Rattle.bpf_isa.specs.declared.instr.Instr.{Instr}
use Rattle.ranges.specs.States.{Abstract}
use Rattle.verifier.specs.Tables.{CoversAll, arrival, passes_with}
use Rattle.verifier.specs.declared.passing.Edge.{Edge}
use Rattle.verifier.specs.declared.passing.Edge.TheVariants as edge
use Rattle.verifier.proofs.Arriving.{covers_init, covers_last, covers_both}
use Rattle.verifier.proofs.Edges.{Along, by_edges}

abbrev pub At : Edge → Bool → List (Option Abstract) → List Bool → ℕ → ℕ → Abstract → Instr → Type 0
At e guards table heads sectors slot s i = CoversAll table (Along e guards heads sectors slot s i)

abbrev pub AtBoth : Bool → List (Option Abstract) → List Bool → ℕ → ℕ → Abstract → Instr → Type 0
AtBoth guards table heads sectors slot s i = CoversAll table (map (arrival heads) (passes_with guards sectors s slot i))

-- where what goes to the next slot is contained, all is where what goes to the target is
pub covered_after : (guards : Bool) (table : List (Option Abstract)) (heads : List Bool) (sectors slot : ℕ) (s : Abstract) (i : Instr) {b : Bool}
    → At edge.Next guards table heads sectors slot s i → (IsTrue b ↔ At edge.Target guards table heads sectors slot s i) → (IsTrue b ↔ AtBoth guards table heads sectors slot s i)
covered_after guards table heads sectors slot s i next target = (
  λ h. subst (λ ps. CoversAll table ps) (by_edges guards heads sectors slot s i) (covers_both table _ _ next (target.0 h)),
  λ all. target.1 (covers_last table (Along edge.Next guards heads sectors slot s i) _ (subst (λ ps. CoversAll table ps) (sym (by_edges guards heads sectors slot s i)) all)),
)

-- where it isn't, not all is
pub left_out_first : (guards : Bool) (table : List (Option Abstract)) (heads : List Bool) (sectors slot : ℕ) (s : Abstract) (i : Instr) (b : Bool)
    → b ≡ false → (At edge.Next guards table heads sectors slot s i → IsTrue b) → (IsTrue b ↔ AtBoth guards table heads sectors slot s i)
left_out_first guards table heads sectors slot s i b none next = (
  λ h. absurd (let bad : false ≡ true = sym none ∙ h in cc),
  λ all. next (covers_init table _ (Along edge.Target guards heads sectors slot s i) (subst (λ ps. CoversAll table ps) (sym (by_edges guards heads sectors slot s i)) all)),
)
