-- The lengths of paths as they come to be known.
use Rattle.std.proofs.Common.{ℕ, zero, suc, ◌≡◌, ◌+◌, ◌*◌, ◌<◌, ◌≤◌, ◌-◌, max, Bool, true, false, IsTrue, IsFalse, List, [], ◌∷◌, length, get_or, set, replicate, Option, Some, None, is_some, if◌then◌else◌, refl, sym, ◌∙◌, ap, inl, inr, arith, suc-mul, mul-le-mul_right}
use Rattle.std.proofs.lemmas.Bool.{cases_lt, cases_eq}
use Rattle.std.proofs.lemmas.List.{get_or-set_same, get_or-set_other, length-set, get_or-replicate, length-replicate, get_or_past, get_or_default}
use Rattle.std.proofs.lemmas.List.Sums.{sum_by-set, count_by-le-length}
use Rattle.std.proofs.Math.Nat.{mul-le-mul}
use Rattle.bpf_shape.specs.declared.edges.Edges.{Edges}
use Rattle.bpf_shape.specs.Lengths.{weight_at, heaviest, length_of, after_edge, length_from, known_count, AreHeavy, ArePartial, IsStuck}

-- a slot weighs no more than the heaviest,
pub le_heaviest : (ws : List ℕ) (s : ℕ) → s < length ws → weight_at ws s ≤ heaviest ws
le_heaviest [] s inside = absurd (omega (arith, inside))
le_heaviest (w ∷ ws) zero inside = omega arith
le_heaviest (w ∷ ws) (suc s) inside =
    let rest : weight_at ws s ≤ heaviest ws = le_heaviest ws s (omega (arith, inside)) in
    omega (arith, rest)

-- which weighs no more than all do
pub heaviest_le : (ws : List ℕ) (h : ℕ) → ((s : ℕ) → s < length ws → weight_at ws s ≤ h) → heaviest ws ≤ h
heaviest_le [] h each = omega arith
heaviest_le (w ∷ ws) h each =
    let first : w ≤ h = each 0 (omega arith) in
    let rest : heaviest ws ≤ h = heaviest_le ws h (λ s inside. each (suc s) (omega (arith, inside))) in
    omega (arith, first, rest)

one_more_times : (a h : ℕ) → (a + 1) * h ≡ a * h + h
one_more_times a h =
    let whole : a + 1 ≡ suc a = omega arith in
    ap (λ (x : ℕ). x * h) whole ∙ suc-mul a h

-- a length comes of those after both edges
pub record Comes (weight : ℕ) (lengths : List (Option ℕ)) (e : Edges) (k : ℕ) : Type 0 where
  pub next : ℕ
  pub target : ℕ
  pub next_is : after_edge lengths e.next ≡ Some next
  pub target_is : after_edge lengths e.target ≡ Some target
  pub sum : k ≡ weight + max next target

comes_by : (a b : Option ℕ) (weight : ℕ) (lengths : List (Option ℕ)) (e : Edges) (k : ℕ) → after_edge lengths e.next ≡ a → after_edge lengths e.target ≡ b
    → length_from weight lengths e ≡ Some k → Comes weight lengths e k
unfolding length_from
comes_by None b weight lengths e k x y h = absurd (let bad : None ≡ Some k = rw x at h in cc)
comes_by (Some a) None weight lengths e k x y h = absurd (let bad : None ≡ Some k = rw (x, y) at h in cc)
comes_by (Some a) (Some b) weight lengths e k x y h =
    let is : Some (weight + max a b) ≡ Some k = rw (x, y) at h in
    record { next = a; target = b; next_is = x; target_is = y; sum = let back : weight + max a b ≡ k = cc in sym back }

-- a length is the weight and the greatest after the edges
pub comes : (weight : ℕ) (lengths : List (Option ℕ)) (e : Edges) (k : ℕ) → length_from weight lengths e ≡ Some k → Comes weight lengths e k
comes weight lengths e k h = comes_by (after_edge lengths e.next) (after_edge lengths e.target) weight lengths e k refl refl h

-- and such a length is computed
pub comes_back : (weight : ℕ) (lengths : List (Option ℕ)) (e : Edges) (k : ℕ) → Comes weight lengths e k → length_from weight lengths e ≡ Some k
unfolding length_from
comes_back weight lengths e k c = rw (c.next_is, c.target_is, c.sum) refl

-- where a slot without a length gets one, the others keep theirs
kept_length : (v : List (Option ℕ)) (s k t j : ℕ) → length_of v s ≡ None → length_of v t ≡ Some j → length_of (set v s (Some k)) t ≡ Some j
kept_length v s k t j none is =
    elim (cases_eq t s) [
      | inl e ↦ absurd (let bad : length_of v s ≡ Some j = rw e at is in let worse : None ≡ Some j = sym none ∙ bad in cc)
      | inr other ↦ get_or-set_other v s t (Some k) None other ∙ is
    ]

kept_edge : (v : List (Option ℕ)) (s k j : ℕ) (o : Option ℕ) → length_of v s ≡ None → after_edge v o ≡ Some j → after_edge (set v s (Some k)) o ≡ Some j
kept_edge v s k j None none is = is
kept_edge v s k j (Some t) none is = kept_length v s k t j none is

kept_from : (weight : ℕ) (v : List (Option ℕ)) (s k j : ℕ) (e : Edges) → length_of v s ≡ None → length_from weight v e ≡ Some j
    → length_from weight (set v s (Some k)) e ≡ Some j
kept_from weight v s k j e none is =
    let c = comes weight v e j is in
    comes_back weight (set v s (Some k)) e j (record {
      next = c.next;
      target = c.target;
      next_is = kept_edge v s k c.next e.next none c.next_is;
      target_is = kept_edge v s k c.target e.target none c.target_is;
      sum = c.sum;
    })

-- one slot more has a length
one_more : (v : List (Option ℕ)) (s k : ℕ) → s < length v → length_of v s ≡ None → known_count (set v s (Some k)) ≡ known_count v + 1
one_more v s k inside none =
    let change = sum_by-set (λ (x : Option ℕ). if is_some x then 1 else 0) v s (Some k) None inside in
    let nought : ℕ = 0 in
    let before : (if is_some (get_or v s None) then 1 else 0) ≡ nought = rw none refl in
    omega (arith, change, before)

edge_bound : (v : List (Option ℕ)) (o : Option ℕ) (j n : ℕ) → ((s k : ℕ) → length_of v s ≡ Some k → k ≤ n) → after_edge v o ≡ Some j → j ≤ n
edge_bound v None j n bound is = let e : 0 ≡ j = cc in omega (arith, e)
edge_bound v (Some t) j n bound is = bound t j is

-- a slot gets its length, and all lengths are still partial ones
pub grow : (next : ℕ → Edges) (n : ℕ) (ws : List ℕ) (v : List (Option ℕ)) (s k : ℕ) → s < n → ArePartial next n ws v → length_of v s ≡ None
    → length_from (weight_at ws s) v (next s) ≡ Some k → ArePartial next n ws (set v s (Some k))
grow next n ws v s k inside p none is =
    let within : s < length v = omega (arith, inside, p.long) in
    let more : known_count (set v s (Some k)) ≡ known_count v + 1 = one_more v s k within none in
    let room : known_count (set v s (Some k)) * heaviest ws ≡ known_count v * heaviest ws + heaviest ws =
    ap (λ (x : ℕ). x * heaviest ws) more ∙ one_more_times (known_count v) (heaviest ws) in
    let c = comes (weight_at ws s) v (next s) k is in
    let a = edge_bound v (next s).next c.next (known_count v * heaviest ws) p.bound c.next_is in
    let b = edge_bound v (next s).target c.target (known_count v * heaviest ws) p.bound c.target_is in
    let heavy : weight_at ws s ≤ heaviest ws = le_heaviest ws s (omega (arith, inside, p.heavy.long)) in
    let here : length_of (set v s (Some k)) s ≡ Some k = get_or-set_same v s (Some k) None within in
    record {
      heavy = p.heavy;
      long = length-set v s (Some k) ∙ p.long;
      right = λ t j h. elim (cases_eq t s) [
        | inl e ↦
            let it : length_of (set v s (Some k)) s ≡ Some j = rw e at h in
            let same : Some k ≡ Some j = sym here ∙ it in
            let same_too : k ≡ j = cc in
            rw (e, ← same_too) (kept_from (weight_at ws s) v s k k (next s) none is)
        | inr other ↦
            let old : length_of v t ≡ Some j = sym (get_or-set_other v s t (Some k) None other) ∙ h in
            kept_from (weight_at ws t) v s k j (next t) none (p.right t j old)
      ];
      bound = λ t j h. elim (cases_eq t s) [
        | inl e ↦
            let it : length_of (set v s (Some k)) s ≡ Some j = rw e at h in
            let same : Some k ≡ Some j = sym here ∙ it in
            let same_too : k ≡ j = cc in
            omega (arith, same_too, room, c.sum, a, b, heavy)
        | inr other ↦
            let old : length_of v t ≡ Some j = sym (get_or-set_other v s t (Some k) None other) ∙ h in
            omega (arith, room, p.bound t j old)
      ];
    }

-- and one slot more has a length
pub grows : (next : ℕ → Edges) (n : ℕ) (ws : List ℕ) (v : List (Option ℕ)) (s k : ℕ) → s < n → ArePartial next n ws v → length_of v s ≡ None
    → known_count v < known_count (set v s (Some k))
grows next n ws v s k inside p none =
    let within : s < length v = omega (arith, inside, p.long) in
    omega (arith, one_more v s k within none)

-- a length is at most the number of slots, times the greatest weight
pub at_most : (next : ℕ → Edges) (n : ℕ) (ws : List ℕ) (v : List (Option ℕ)) → ArePartial next n ws v → (s k : ℕ) → length_of v s ≡ Some k → k ≤ n * heaviest ws
at_most next n ws v p s k h =
    let all = count_by-le-length (λ (x : Option ℕ). is_some x) v in
    let few : known_count v ≤ n = omega (arith, all, p.long) in
    let times : known_count v * heaviest ws ≤ n * heaviest ws = mul-le-mul_right (heaviest ws) few in
    omega (arith, times, p.bound s k h)

-- a length is at most 4096 times the heaviest weight
pub few_enough : (next : ℕ → Edges) (n b : ℕ) (ws : List ℕ) (v : List (Option ℕ)) → ArePartial next n ws v → n ≤ 4096 → heaviest ws ≤ b
    → (s k : ℕ) → length_of v s ≡ Some k → k ≤ 4096 * b
few_enough next n b ws v p small light s k h =
    let all : k ≤ n * heaviest ws = at_most next n ws v p s k h in
    let times : n * heaviest ws ≤ 4096 * b = mul-le-mul small light in
    omega (arith, all, times)

-- at first no slot has a length
pub no_length : (n s : ℕ) → length_of (replicate n None) s ≡ None
no_length n s =
    elim (cases_lt s n) [
      | inl inside ↦ get_or-replicate {A = Option ℕ} n s None None inside
      | inr outside ↦ get_or_past (replicate {A = Option ℕ} n None) s None (rw (length-replicate {A = Option ℕ} n None) outside)
    ]

pub none_known : (next : ℕ → Edges) (n : ℕ) (ws : List ℕ) → AreHeavy n ws → ArePartial next n ws (replicate n None)
none_known next n ws heavy = record {
  heavy = heavy;
  long = length-replicate {A = Option ℕ} n None;
  right = λ s k h. absurd (let bad : None ≡ Some k = sym (no_length n s) ∙ h in cc);
  bound = λ s k h. absurd (let bad : None ≡ Some k = sym (no_length n s) ∙ h in cc);
}

-- A sweep from the highest slot down to this one.
pub record Swept (next : ℕ → Edges) (n : ℕ) (ws : List ℕ) (old new : List (Option ℕ)) (slot : ℕ) (found : Bool) : Type 0 where
  pub partial : ArePartial next n ws new
  pub least : known_count old ≤ known_count new
  pub more : IsTrue found → known_count old < known_count new
  pub stuck : IsFalse found → (s : ℕ) → slot ≤ s → s < n → IsStuck next ws new s
  pub inside : slot ≤ n

pub swept_none : (next : ℕ → Edges) (n : ℕ) (ws : List ℕ) (v : List (Option ℕ)) → ArePartial next n ws v → Swept next n ws v v n false
swept_none next n ws v p = record {
  partial = p;
  least = omega arith;
  more = λ bad. absurd (let worse : false ≡ true = bad in cc);
  stuck = λ _ s low high. absurd (omega (arith, low, high));
  inside = omega arith;
}

pub swept_found : (next : ℕ → Edges) (n : ℕ) (ws : List ℕ) (old v new : List (Option ℕ)) (slot : ℕ) (found : Bool) → Swept next n ws old v slot found
    → ArePartial next n ws new → known_count v < known_count new → Swept next n ws old new (slot - 1) true
swept_found next n ws old v new slot found s p more = record {
  partial = p;
  least = omega (arith, s.least, more);
  more = λ _. omega (arith, s.least, more);
  stuck = λ bad. absurd (let worse : true ≡ false = bad in cc);
  inside = omega (arith, s.inside);
}

pub swept_same : (next : ℕ → Edges) (n : ℕ) (ws : List ℕ) (old v new : List (Option ℕ)) (slot : ℕ) (found : Bool) → Swept next n ws old v slot found
    → new ≡ v → IsStuck next ws new (slot - 1) → Swept next n ws old new (slot - 1) found
swept_same next n ws old v new slot found s same stuck = record {
  partial = rw same s.partial;
  least = rw same s.least;
  more = λ h. rw same (s.more h);
  stuck = λ h t low high. elim (cases_lt t slot) [
    | inl below ↦ let e : t ≡ slot - 1 = omega (arith, low, below) in rw e stuck
    | inr above ↦ rw same (s.stuck h t above high)
  ];
  inside = omega (arith, s.inside);
}

none_of : (x : Option ℕ) → is_some x ≡ false → x ≡ None
none_of None h = refl
none_of (Some k) h = absurd (let bad : true ≡ false = h in cc)

-- what was read of a slot is no length
pub no_length_here : (v : List (Option ℕ)) (s : ℕ) (x : Option ℕ) → s < length v → x ≡ get_or v s x → is_some x ≡ false → length_of v s ≡ None
no_length_here v s x inside read h =
    let same : get_or v s None ≡ x = get_or_default v s None x inside ∙ sym read in
    same ∙ none_of x h

some_of : (x : Option ℕ) → is_some x ≡ true → (k : ℕ) × (x ≡ Some k)
some_of None h = absurd (let bad : false ≡ true = h in cc)
some_of (Some k) h = (k, refl)

-- what was read of a slot is its length
pub length_here : (v : List (Option ℕ)) (s : ℕ) (x : Option ℕ) → s < length v → x ≡ get_or v s x → is_some x ≡ true
    → (k : ℕ) × (length_of v s ≡ Some k)
length_here v s x inside read h =
    let same : get_or v s None ≡ x = get_or_default v s None x inside ∙ sym read in
    let found = some_of x h in
    (found.0, same ∙ found.1)
