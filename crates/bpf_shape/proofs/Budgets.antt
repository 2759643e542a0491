-- The budget, from the lengths of all slots.
use Rattle.std.proofs.Common.{ℕ, ◌≡◌, ◌+◌, ◌*◌, ◌<◌, ◌≤◌, ◌⊎◌, max, Bool, true, false, List, length, get_or, Option, Some, None, refl, sym, ◌∙◌, ap, inl, inr, arith}
use Rattle.std.proofs.Math.Nat.{mul-le-mul}
use Rattle.std.proofs.lemmas.Bool.{cases_lt}
use Rattle.bpf_isa.specs.declared.instr.Instr.{Instr}
use Rattle.base.specs.declared.causes.VerifierCause.TheVariants as cause
use Rattle.bpf_shape.specs.Edges.{control}
use Rattle.bpf_shape.specs.Again.{turns, heads}
use Rattle.bpf_shape.specs.Weights.{IsLongest}
use Rattle.bpf_shape.specs.Budget.{most_calls, IsBudget, most_steps}
use Rattle.bpf_shape.specs.Rules.{Breaks, Holds}
use Rattle.bpf_shape.specs.Keeping.{KeepsAll}
use Rattle.bpf_shape.specs.Shape.{IsShapeOf}
use Rattle.bpf_shape.specs.Search.{IsMarked, EdgesFit}
use Rattle.bpf_shape.specs.Lengths.{weight_at, length_of, marked_length, IsGreatest, IsGreatestFrom, AreLengths, IsProduct, HasBudget}
use Rattle.bpf_shape.proofs.Weighing.{is_longest, one_weight, same_longest}

-- one slot more may have a greater length
marked_by : (m : Bool) (x : Option ℕ) (v : List (Option ℕ)) (marks : List Bool) (n : ℕ) → get_or marks n false ≡ m → length_of v n ≡ x
    → (marked_length v marks n ≡ 0) ⊎ (IsMarked marks n × (length_of v n ≡ Some (marked_length v marks n)))
marked_by false x v marks n a b = inl (rw a refl)
marked_by true None v marks n a b = inl (rw (a, b) refl)
marked_by true (Some j) v marks n a b =
    let here : marked_length v marks n ≡ j = rw (a, b) refl in
    inr (a, b ∙ ap Some (sym here))

-- the greatest length of the marked slots below n, with slot n too
pub greater : (v : List (Option ℕ)) (marks : List Bool) (n k : ℕ) → IsGreatest v marks n k → IsGreatest v marks (n + 1) (max k (marked_length v marks n))
greater v marks n k g = record {
  most = λ s j inside is length_is. elim (cases_lt s n) [
    | inl less ↦ let old = g.most s j less is length_is in omega (arith, old)
    | inr not_less ↦
        let e : s ≡ n = omega (arith, inside, not_less) in
        let here : IsMarked marks n = rw e at is in
        let there : length_of v n ≡ Some j = rw e at length_is in
        let own : marked_length v marks n ≡ j = rw (here, there) refl in
        omega (arith, own)
  ];
  some = elim (cases_lt k (marked_length v marks n)) [
    | inl less ↦
        let e : max k (marked_length v marks n) ≡ marked_length v marks n = omega (arith, less) in
        elim (marked_by (get_or marks n false) (length_of v n) v marks n refl refl) [
          | inl none ↦ absurd (omega (arith, none, less))
          | inr own ↦ inr (n, (own.0, rw e own.1))
        ]
    | inr more ↦ let e : max k (marked_length v marks n) ≡ k = omega (arith, more) in rw e g.some
  ];
}

-- the product is small where the path is
pub product_fits : (a b : ℕ) → a ≤ 4294967296 → b ≤ most_steps → (1 + a) * b ≤ 4294967297 * 1000000000
product_fits a b x y = mul-le-mul (let first : 1 + a ≤ 4294967297 = omega (arith, x) in first) y

-- and no smaller than the path
pub product_over : (a b : ℕ) → most_steps < b → most_steps < (1 + a) * b
product_over a b over =
    let one : 1 * b ≤ (1 + a) * b = mul-le-mul (let least : 1 ≤ 1 + a = omega arith in least) (let same : b ≤ b = omega arith in same) in
    omega (arith, one, over)

-- the budget is the product of the turns and the longest path of slot 0
pub has_budget : (program : List (Option Instr)) (v : List (Option ℕ)) (k t : ℕ) (found : Option ℕ) → EdgesFit (control program) (length program)
    → Holds true program cause.Loop → 0 < length program → AreLengths program most_calls v → IsGreatestFrom program v 0 k → t ≡ turns program → IsProduct t k found
    → HasBudget program found
has_budget program v k t found fits loops inside l great is product =
    by_found found (rw is at product)
  where
    longest : IsLongest program (weight_at l.weights) 0 k
    longest = is_longest program l.weights v fits l.settled loops 0 k great inside

    by_found : (found : Option ℕ) → IsProduct (turns program) k found → HasBudget program found
    by_found (Some n) p = (record { weight = weight_at l.weights; weights = l.are; longest = k; path = longest; product = p.0 }, p.1)
    by_found None over = record { budget = (1 + turns program) * k; is = record { weight = weight_at l.weights; weights = l.are; longest = k; path = longest; product = refl }; over = over }

-- a program has one budget
pub one_budget : (program : List (Option Instr)) (a b : ℕ) → IsBudget program a → IsBudget program b → a ≡ b
one_budget program a b x y =
    let same : x.longest ≡ y.longest =
    same_longest program 0 x.weight y.weight (λ s reached. one_weight program most_calls x.weight y.weight x.weights y.weights s) x.longest y.longest x.path y.path in
    x.product ∙ rw same refl ∙ sym y.product

-- a program that keeps each rule has this shape
within_limit : (guards : Bool) (program : List (Option Instr)) (n : ℕ) → IsBudget program n → n ≤ most_steps → Holds guards program cause.Budget
unfolding Breaks
within_limit guards program n is few s (first, over) = let same = one_budget program n over.budget is over.is in omega (arith, same, few, over.over)

pub shaped : (guards : Bool) (program : List (Option Instr)) (n : ℕ) (hs : List Bool) → KeepsAll guards program → Holds true program cause.Loop → Holds true program cause.CallDepth
    → IsBudget program n × (n ≤ most_steps) → hs ≡ heads program → IsShapeOf guards program (record { budget = n; heads = hs })
unfolding Breaks
shaped guards program n hs kept loops calls is same = record {
  rules = record {
    targets = kept.targets;
    ends = kept.ends;
    frame_pointer = kept.frame_pointer;
    helpers = kept.helpers;
    again = kept.again;
    loops = λ s broken. loops s broken;
    calls = λ s broken. calls s broken;
    budget = within_limit guards program n is.0 is.1;
  };
  budget = is.0;
  limit = is.1;
  heads = same;
}
