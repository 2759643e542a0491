-- Lengths that come of those after are the longest paths, and a slot without one leads to a cycle.
use Rattle.std.proofs.Common.{ℕ, zero, suc, ◌≡◌, ◌+◌, ◌-◌, ◌<◌, ◌≤◌, ◌⊎◌, max, true, false, List, [], ◌∷◌, length, Option, Some, None, eqb, refl, sym, ◌∙◌, ap, inl, inr, arith}
use Rattle.std.specs.List.{list_any, IsDistinct, AllByRecursion}
use Rattle.std.proofs.lemmas.Map.Keys.{IsDistinct-cons}
use Rattle.std.proofs.lemmas.Bool.{cases_lt}
use Rattle.std.proofs.lemmas.Bool.Decides.{eqb_tells}
use Rattle.std.proofs.lemmas.Map.Steps.{length-le_from_distinct_below}
use Rattle.bpf_shape.specs.declared.edges.Edges.{Edges}
use Rattle.bpf_shape.specs.Paths.{Leads, IsWalk, end_of, LeadsTo, OnCycle}
use Rattle.bpf_shape.specs.Search.{EdgesFit, Has}
use Rattle.bpf_shape.specs.Weights.{path_weight}
use Rattle.bpf_shape.specs.Lengths.{weight_at, length_of, after_edge, length_from, ArePartial, AreSettled}
use Rattle.bpf_shape.proofs.Walks.{leads_first}
use Rattle.bpf_shape.proofs.Partial.{Comes, comes}

nothing : IsDistinct eqb []
unfolding IsDistinct
nothing = tt

-- After an edge stands a length that is smaller by the weight.
smaller : (w : ℕ) (v : List (Option ℕ)) (e : Edges) (k t : ℕ) → Comes w v e k → Leads e t → (j : ℕ) × ((length_of v t ≡ Some j) × (w + j ≤ k))
smaller w v e k t c (inl h) = (c.next, (let there : after_edge v (Some t) ≡ Some c.next = rw h at c.next_is in there, omega (arith, c.sum)))
smaller w v e k t c (inr h) = (c.target, (let there : after_edge v (Some t) ≡ Some c.target = rw h at c.target_is in there, omega (arith, c.sum)))

module _ (next : ℕ → Edges) (n : ℕ) (ws : List ℕ) (v : List (Option ℕ)) (part : ArePartial next n ws v) where
  come : (s k : ℕ) → length_of v s ≡ Some k → Comes (weight_at ws s) v (next s) k
  come s k is = comes (weight_at ws s) v (next s) k (part.right s k is)

  -- No path weighs more than the length of its slot.
  pub no_longer : (s k : ℕ) (p : List ℕ) → length_of v s ≡ Some k → IsWalk next s p → path_weight (weight_at ws) s p ≤ k
  no_longer s k [] is walk = let c = come s k is in omega (arith, c.sum)
  no_longer s k (t ∷ p) is walk =
      let one = smaller (weight_at ws s) v (next s) k t (come s k is) walk.0 in
      let rest = no_longer t one.0 p one.1.0 walk.1 in
      omega (arith, one.1.1, rest)

  -- Along a walk the lengths fall.
  down : (s k : ℕ) (p : List ℕ) → length_of v s ≡ Some k → IsWalk next s p → (j : ℕ) × ((length_of v (end_of s p) ≡ Some j) × (j + length p ≤ k))
  down s k [] is walk = (k, (is, omega arith))
  down s k (t ∷ p) is walk =
      let one = smaller (weight_at ws s) v (next s) k t (come s k is) walk.0 in
      let rest = down t one.0 p one.1.0 walk.1 in
      let heavy = part.heavy.least s in
      (rest.0, (rest.1.0, omega (arith, one.1.1, rest.1.1, heavy)))

  -- So the slot is on no cycle.
  pub no_cycle : (s k : ℕ) → length_of v s ≡ Some k → OnCycle next s → ⊥
  no_cycle s k is cycle =
      let last = down s k (cycle.first ∷ cycle.on.slots) is (cycle.leads, cycle.on.walk) in
      let back : length_of v s ≡ Some last.0 = sym (ap (length_of v) cycle.on.ends) ∙ last.1.0 in
      let same : Some k ≡ Some last.0 = sym is ∙ back in
      let same_too : k ≡ last.0 = cc in
      let long : length (cycle.first ∷ cycle.on.slots) ≡ suc (length cycle.on.slots) = refl in
      omega (arith, same_too, last.1.1, long)

-- An edge leads to a slot whose length is smaller by the weight, or there is none.
chosen_by : (w : ℕ) (v : List (Option ℕ)) (e : Edges) (k : ℕ) (next target : Option ℕ) → e.next ≡ next → e.target ≡ target → (c : Comes w v e k)
    → (k ≡ w) ⊎ ((t : ℕ) × (Leads e t × (length_of v t ≡ Some (k - w))))
chosen_by w v e k None None x y c =
    let a : Some 0 ≡ Some c.next = rw x at c.next_is in
    let b : Some 0 ≡ Some c.target = rw y at c.target_is in
    let a_is : 0 ≡ c.next = cc in
    let b_is : 0 ≡ c.target = cc in
    inl (omega (arith, a_is, b_is, c.sum))
chosen_by w v e k (Some t) None x y c =
    let b : Some 0 ≡ Some c.target = rw y at c.target_is in
    let b_is : 0 ≡ c.target = cc in
    let there : length_of v t ≡ Some c.next = rw x at c.next_is in
    let less : c.next ≡ k - w = omega (arith, b_is, c.sum) in
    inr (t, (inl x, rw (← less) there))
chosen_by w v e k None (Some u) x y c =
    let a : Some 0 ≡ Some c.next = rw x at c.next_is in
    let a_is : 0 ≡ c.next = cc in
    let there : length_of v u ≡ Some c.target = rw y at c.target_is in
    let less : c.target ≡ k - w = omega (arith, a_is, c.sum) in
    inr (u, (inr y, rw (← less) there))
chosen_by w v e k (Some t) (Some u) x y c =
    let there : length_of v t ≡ Some c.next = rw x at c.next_is in
    let over_there : length_of v u ≡ Some c.target = rw y at c.target_is in
    elim (cases_lt c.next c.target) [
      | inl less ↦ let e : c.target ≡ k - w = omega (arith, less, c.sum) in inr (u, (inr y, rw (← e) over_there))
      | inr more ↦ let e : c.next ≡ k - w = omega (arith, more, c.sum) in inr (t, (inl x, rw (← e) there))
    ]

-- A path of that weight.
pub record Attained (next : ℕ → Edges) (ws : List ℕ) (s k : ℕ) : Type 0 where
  pub rest : List ℕ
  pub walk : IsWalk next s rest
  pub heavy : path_weight (weight_at ws) s rest ≡ k

pub attained : (next : ℕ → Edges) (n : ℕ) (ws : List ℕ) (v : List (Option ℕ)) (fuel s k : ℕ) → k ≤ fuel → ArePartial next n ws v → length_of v s ≡ Some k
    → Attained next ws s k
attained next n ws v zero s k few part is =
    let c = comes (weight_at ws s) v (next s) k (part.right s k is) in
    let heavy = part.heavy.least s in
    absurd (omega (arith, few, c.sum, heavy))
attained next n ws v (suc fuel) s k few part is =
    let c = comes (weight_at ws s) v (next s) k (part.right s k is) in
    let heavy = part.heavy.least s in
    elim (chosen_by (weight_at ws s) v (next s) k (next s).next (next s).target refl refl c) [
      | inl one ↦ record { rest = []; walk = tt; heavy = sym one }
      | inr found ↦
          let rest = attained next n ws v fuel found.0 (k - weight_at ws s) (omega (arith, few, heavy)) part found.1.1 in
          record { rest = found.0 ∷ rest.rest; walk = (found.1.0, rest.walk); heavy = let l = rest.heavy in omega (arith, l, c.sum) }
    ]

-- A slot without a length has an edge to another.
not_known : (v : List (Option ℕ)) (o : Option ℕ) → after_edge v o ≡ None → (t : ℕ) × ((o ≡ Some t) × (length_of v t ≡ None))
not_known v None h = absurd (let bad : Some 0 ≡ None = h in cc)
not_known v (Some t) h = (t, (refl, h))

step_by : (w : ℕ) (v : List (Option ℕ)) (e : Edges) (a b : Option ℕ) → after_edge v e.next ≡ a → after_edge v e.target ≡ b → length_from w v e ≡ None
    → (t : ℕ) × (Leads e t × (length_of v t ≡ None))
unfolding length_from
step_by w v e None b x y h = let found = not_known v e.next x in (found.0, (inl found.1.0, found.1.1))
step_by w v e (Some a) None x y h = let found = not_known v e.target y in (found.0, (inr found.1.0, found.1.1))
step_by w v e (Some a) (Some b) x y h = absurd (let bad : Some (w + max a b) ≡ None = rw (x, y) at h in cc)

-- So from such a slot there are walks of any length.
pub record Wanders (next : ℕ → Edges) (n s k : ℕ) : Type 0 where
  pub slots : List ℕ
  pub walk : IsWalk next s slots
  pub long : length slots ≡ k
  pub fits : (q : ℕ) → Has (s ∷ slots) q → q < n

-- from a slot that got no length a walk can be of any number of edges
pub wander : (next : ℕ → Edges) (n : ℕ) (ws : List ℕ) (v : List (Option ℕ)) (k s : ℕ) → EdgesFit next n → AreSettled next n ws v → s < n → length_of v s ≡ None → Wanders next n s k
wander next n ws v zero s fit settled inside none =
    record { slots = []; walk = tt; long = refl; fits = λ q h. elim h [ inl e ↦ rw e inside | inr bad ↦ absurd bad ] }
wander next n ws v (suc k) s fit settled inside none =
    let found = step_by (weight_at ws s) v (next s) (after_edge v (next s).next) (after_edge v (next s).target) refl refl (settled.stuck s inside none) in
    let rest = wander next n ws v k found.0 fit settled (fit s found.0 found.1.0) found.1.1 in
    record {
      slots = found.0 ∷ rest.slots;
      walk = (found.1.0, rest.walk);
      long = ap suc rest.long;
      fits = λ q h. elim h [ inl e ↦ rw e inside | inr more ↦ rest.fits q more ];
    }

-- A walk to a slot that it has.
cut : (next : ℕ → Edges) (s x : ℕ) (p : List ℕ) → IsWalk next s p → Has p x → LeadsTo next (Leads (next s)) x
cut next s x [] walk h = absurd h
cut next s x (t ∷ p) walk (inl e) = leads_first next (Leads (next s)) x (rw e walk.0)
cut next s x (t ∷ p) walk (inr h) =
    let rest = cut next t x p walk.1 h in
    record {
      first = t;
      leads = walk.0;
      on = record { slots = rest.first ∷ rest.on.slots; walk = (rest.leads, rest.on.walk); ends = rest.on.ends };
    }

has_or_not : (x : ℕ) (xs : List ℕ) → Has xs x ⊎ AllByRecursion (λ y. eqb x y ≡ false) xs
has_or_not x [] = inr tt
has_or_not x (y ∷ ys) =
    elim (eqb_tells x y) [
      | inl same ↦ inl (inl same.1)
      | inr other ↦ elim (has_or_not x ys) [ inl h ↦ inl (inr h) | inr none ↦ inr (other.0, none) ]
    ]

has_of_any : (q : ℕ) (xs : List ℕ) → list_any (eqb q) xs ≡ true → Has xs q
has_of_any q [] h = absurd (let bad : false ≡ true = h in cc)
has_of_any q (x ∷ xs) h =
    elim (eqb_tells q x) [
      | inl same ↦ inl same.1
      | inr other ↦ inr (has_of_any q xs (let rest : list_any (eqb q) xs ≡ true = rw other.0 at h in rest))
    ]

-- A walk has no slot twice, or one of its slots is on a cycle.
repeats : (next : ℕ → Edges) (s : ℕ) (p : List ℕ) → IsWalk next s p → IsDistinct eqb (s ∷ p) ⊎ ((c : ℕ) × OnCycle next c)
repeats next s [] walk = inl (IsDistinct-cons eqb s [] tt nothing)
repeats next s (t ∷ p) walk =
    elim (repeats next t p walk.1) [
      | inl distinct ↦ elim (has_or_not s (t ∷ p)) [
        | inl h ↦ inr (s, cut next s s (t ∷ p) walk h)
        | inr none ↦ inl (IsDistinct-cons eqb s (t ∷ p) none distinct)
      ]
      | inr cycle ↦ inr cycle
    ]

-- So a slot without a length tells of a cycle.
pub stuck_cycle : (next : ℕ → Edges) (n : ℕ) (ws : List ℕ) (v : List (Option ℕ)) (s : ℕ) → EdgesFit next n → AreSettled next n ws v → s < n → length_of v s ≡ None
    → (c : ℕ) × OnCycle next c
stuck_cycle next n ws v s fit settled inside none =
    let way = wander next n ws v n s fit settled inside none in
    elim (repeats next s way.slots way.walk) [
      | inl distinct ↦
          let few = length-le_from_distinct_below (s ∷ way.slots) n distinct (λ q h. way.fits q (has_of_any q (s ∷ way.slots) h)) in
          let many : length (s ∷ way.slots) ≡ suc n = ap suc way.long in
          absurd (omega (arith, few, many))
      | inr cycle ↦ cycle
    ]

known_by : (next : ℕ → Edges) (n : ℕ) (ws : List ℕ) (v : List (Option ℕ)) (s : ℕ) (x : Option ℕ) → EdgesFit next n → AreSettled next n ws v → s < n
    → ((c : ℕ) → OnCycle next c → ⊥) → length_of v s ≡ x → (k : ℕ) × (length_of v s ≡ Some k)
known_by next n ws v s None fit settled inside straight is =
    let cycle = stuck_cycle next n ws v s fit settled inside is in
    absurd (straight cycle.0 cycle.1)
known_by next n ws v s (Some k) fit settled inside straight is = (k, is)

-- Without a cycle each slot has a length.
pub all_known : (next : ℕ → Edges) (n : ℕ) (ws : List ℕ) (v : List (Option ℕ)) (s : ℕ) → EdgesFit next n → AreSettled next n ws v → s < n
    → ((c : ℕ) → OnCycle next c → ⊥) → (k : ℕ) × (length_of v s ≡ Some k)
all_known next n ws v s fit settled inside straight = known_by next n ws v s (length_of v s) fit settled inside straight refl
