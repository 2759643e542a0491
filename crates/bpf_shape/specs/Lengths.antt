-- The weights of the longest paths of slots, as far as they are known. Only this crate's own contracts
-- cite it.
use Rattle.std.specs.Prelude.{ℕ, zero, suc, ◌+◌, ◌*◌, ◌≡◌, ◌<◌, ◌≤◌, ◌⊎◌, max, if◌then◌else◌, Bool, false, List, [], ◌∷◌, length, get_or, Option, None, Some, is_some, option_map}
use Rattle.std.specs.Option.{option_and_then, option_map_or}
use Rattle.std.specs.List.{count_by}
use Rattle.bpf_isa.specs.declared.instr.Instr.{Instr}
use Rattle.bpf_shape.specs.declared.edges.Edges.{Edges}
use Rattle.bpf_shape.specs.Edges.{control}
use Rattle.bpf_shape.specs.Calls.{callee}
use Rattle.bpf_shape.specs.Again.{plain}
use Rattle.bpf_shape.specs.Weights.{AreWeights}
use Rattle.bpf_shape.specs.Budget.{IsBudget, most_steps}
use Rattle.bpf_shape.specs.Rules.{IsOver}
use Rattle.bpf_shape.specs.Search.{IsMarked, AreMarks}

-- what a slot weighs, by a list
abbrev pub weight_at : List ℕ → ℕ → ℕ
weight_at weights slot = get_or weights slot 1

-- the greatest weight
abbrev pub heaviest : List ℕ → ℕ
heaviest [] = 0
heaviest (w ∷ ws) = max w (heaviest ws)

-- the greatest weight that a slot of a program may have where calls are followed that many deep
abbrev pub most_weight : ℕ → ℕ
most_weight zero = 1
most_weight (suc depth) = 1 + 4096 * most_weight depth

-- the length that a slot has
abbrev pub length_of : List (Option ℕ) → ℕ → Option ℕ
length_of lengths slot = get_or lengths slot None

-- the length after an edge; 0 where there is no edge
abbrev pub after_edge : List (Option ℕ) → Option ℕ → Option ℕ
after_edge lengths None = Some 0
after_edge lengths (Some slot) = length_of lengths slot

-- a weight and the greater of the lengths after two edges, where both are known
unfoldable pub length_from : ℕ → List (Option ℕ) → Edges → Option ℕ
length_from weight lengths e =
    option_and_then (λ a. option_map (λ b. weight + max a b) (after_edge lengths e.target)) (after_edge lengths e.next)

-- how many slots have a length
abbrev pub known_count : List (Option ℕ) → ℕ
known_count lengths = count_by is_some lengths

-- each slot weighs something
pub record AreHeavy (n : ℕ) (weights : List ℕ) : Type 0 where
  pub long : length weights ≡ n
  pub least : (s : ℕ) → 1 ≤ weight_at weights s

-- each length is the weight of its slot and the greater of the lengths after its edges
pub record ArePartial (next : ℕ → Edges) (n : ℕ) (weights : List ℕ) (lengths : List (Option ℕ)) : Type 0 where
  pub heavy : AreHeavy n weights
  pub long : length lengths ≡ n
  pub right : (s k : ℕ) → length_of lengths s ≡ Some k → length_from (weight_at weights s) lengths (next s) ≡ Some k
  pub bound : (s k : ℕ) → length_of lengths s ≡ Some k → k ≤ known_count lengths * heaviest weights

-- a slot without a length has an edge to one without
abbrev pub IsStuck : (ℕ → Edges) → List ℕ → List (Option ℕ) → ℕ → Type 0
IsStuck next weights lengths s = length_of lengths s ≡ None → length_from (weight_at weights s) lengths (next s) ≡ None

pub record AreSettled (next : ℕ → Edges) (n : ℕ) (weights : List ℕ) (lengths : List (Option ℕ)) : Type 0 where
  pub partial : ArePartial next n weights lengths
  pub stuck : (s : ℕ) → s < n → IsStuck next weights lengths s

-- the length of a slot, if it is marked, else 0
abbrev pub marked_length : List (Option ℕ) → List Bool → ℕ → ℕ
marked_length lengths marks slot = if get_or marks slot false then option_map_or (λ k. k) (length_of lengths slot) 0 else 0

-- among the marked slots below n the greatest length is k; 0 where there is none
pub record IsGreatest (lengths : List (Option ℕ)) (marks : List Bool) (n k : ℕ) : Type 0 where
  pub most : (s j : ℕ) → s < n → IsMarked marks s → length_of lengths s ≡ Some j → j ≤ k
  pub some : (k ≡ 0) ⊎ ((s : ℕ) × (IsMarked marks s × (length_of lengths s ≡ Some k)))

-- the greatest length of the slots that are reached from an entry
pub record IsGreatestFrom (program : List (Option Instr)) (lengths : List (Option ℕ)) (entry k : ℕ) : Type 0 where
  pub marks : List Bool
  pub found : AreMarks (control program) (length program) (λ t. entry ≡ t) marks
  pub greatest : IsGreatest lengths marks (length program) k

-- what is known of the greatest lengths of entries
abbrev pub AreGreatest : List (Option Instr) → List (Option ℕ) → List (Option ℕ) → Type 0
AreGreatest program lengths longest = (entry k : ℕ) → length_of longest entry ≡ Some k → IsGreatestFrom program lengths entry k

-- what a slot weighs by these lengths
abbrev pub IsWeighed : List (Option Instr) → List (Option ℕ) → Option ℕ → ℕ → Type 0
IsWeighed program lengths None n = n ≡ 1
IsWeighed program lengths (Some entry) n = (k : ℕ) × (IsGreatestFrom program lengths entry k × (n ≡ 1 + k))

pub record AreWeighed (program : List (Option Instr)) (lengths : List (Option ℕ)) (n : ℕ) (weights : List ℕ) : Type 0 where
  pub long : length weights ≡ n
  pub each : (s : ℕ) → s < n → IsWeighed program lengths (callee program s) (weight_at weights s)

-- the lengths of paths where calls are followed that many deep
pub record AreLengths (program : List (Option Instr)) (depth : ℕ) (lengths : List (Option ℕ)) : Type 0 where
  pub weights : List ℕ
  pub are : AreWeights program depth (weight_at weights)
  pub settled : AreSettled (plain program) (length program) weights lengths
  pub few : heaviest weights ≤ most_weight depth

-- the product is the number of steps, or above what is accepted
abbrev pub IsProduct : ℕ → ℕ → Option ℕ → Type 0
IsProduct turns longest (Some n) = (n ≡ (1 + turns) * longest) × (n ≤ most_steps)
IsProduct turns longest None = most_steps < (1 + turns) * longest

-- the budget, or it is above what is accepted
abbrev pub HasBudget : List (Option Instr) → Option ℕ → Type 0
HasBudget program (Some n) = IsBudget program n × (n ≤ most_steps)
HasBudget program None = IsOver program
