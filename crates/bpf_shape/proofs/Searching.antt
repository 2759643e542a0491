-- The search along edges: what holds while slots wait, and at its end.
use Rattle.std.proofs.Common.{ℕ, ◌≡◌, ◌+◌, ◌*◌, ◌<◌, ◌≤◌, ◌⊎◌, Bool, true, false, List, [], ◌∷◌, ◌++◌, length, get_or, replicate, Option, Some, None, refl, sym, ◌∙◌, ap, inl, inr, arith, length-append}
use Rattle.std.proofs.lemmas.Bool.{cases_lt}
use Rattle.std.proofs.lemmas.List.{get_or-replicate, length-replicate, get_or_past, get_or_default}
use Rattle.bpf_shape.specs.declared.edges.Edges.{Edges}
use Rattle.bpf_isa.specs.declared.instr.Instr.{Instr}
use Rattle.bpf_shape.specs.Edges.{edges}
use Rattle.bpf_shape.specs.Calls.{callee}
use Rattle.bpf_shape.specs.Paths.{Leads, IsWalk, end_of, LeadsTo}
use Rattle.bpf_shape.specs.Search.{IsMarked, Has, unmarked_count, Met, EdgesFit, EntriesFit, AllWait, Enters, AreMarks}
use Rattle.bpf_shape.proofs.Walks.{leads_more, leads_first}
use Rattle.bpf_shape.proofs.Meeting.{has_left, has_right, has_last, same, meet_both}

-- A walk from one of these slots leads to each marked slot, and where a marked slot doesn't wait, the slots after
-- it are marked.
pub record Searching (next : ℕ → Edges) (n : ℕ) (starts : ℕ → Type 0) (marks : List Bool) (waiting : List ℕ) : Type 0 where
  pub long : length marks ≡ n
  pub sound : (t : ℕ) → IsMarked marks t → LeadsTo next starts t
  pub begun : (t : ℕ) → starts t → IsMarked marks t
  pub closed : (s : ℕ) → IsMarked marks s → Has waiting s ⊎ ((t : ℕ) → Leads (next s) t → IsMarked marks t)
  pub waits : (t : ℕ) → Has waiting t → IsMarked marks t

unmarked_at : (n t : ℕ) → IsMarked (replicate n false) t → ⊥
unmarked_at n t h =
    elim (cases_lt t n) [
      | inl inside ↦ let bad : false ≡ true = sym (get_or-replicate n t false false inside) ∙ h in cc
      | inr outside ↦
          let past : length (replicate n false) ≤ t = rw (length-replicate {A = Bool} n false) outside in
          let bad : false ≡ true = sym (get_or_past (replicate n false) t false past) ∙ h in cc
    ]

-- at first all marked slots wait
pub begin : (next : ℕ → Edges) (n : ℕ) (marks : List Bool) (waiting : List ℕ) → AllWait n marks waiting → Searching next n (IsMarked marks) marks waiting
begin next n marks waiting all = record {
  long = all.long;
  sound = λ t h. leads_first next (IsMarked marks) t h;
  begun = λ t h. h;
  closed = λ s h. inl (all.wait s h);
  waits = all.marked;
}

-- slots that were met wait
pub met_wait : (P : ℕ → Type 0) (n : ℕ) (marks : List Bool) (waiting : List ℕ) → Met P (replicate n false) [] marks waiting → AllWait n marks waiting
met_wait P n marks waiting met = record {
  long = met.long ∙ length-replicate {A = Bool} n false;
  wait = λ t h. elim (met.wait t h) [ inl old ↦ absurd (unmarked_at n t old) | inr waits ↦ waits ];
  marked = λ t h. elim (met.come t h) [ inl none ↦ absurd none | inr is ↦ is ];
}

-- what is reached from slots that were met
pub marks_of : (P : ℕ → Type 0) (next : ℕ → Edges) (n : ℕ) (m marks : List Bool) (waiting : List ℕ) → ((t : ℕ) → P t → t < n)
    → Met P (replicate n false) [] m waiting → AreMarks next n (IsMarked m) marks → AreMarks next n P marks
marks_of P next n m marks waiting fits met found =
    let first = length-replicate {A = Bool} n false in
    record {
      long = found.long;
      sound = λ t h.
          let way = found.sound t h in
          let met_first : P way.first = elim (met.only way.first way.leads) [ inl old ↦ absurd (unmarked_at n way.first old) | inr p ↦ p ] in
          record { first = way.first; leads = met_first; on = way.on };
      complete = λ t way.
          let is : IsMarked m way.first = met.met way.first way.leads (omega (arith, first, fits way.first way.leads)) in
          found.complete t (record { first = way.first; leads = is; on = way.on });
    }

-- the same for other words for the slots from which it begins
pub other_starts : (P Q : ℕ → Type 0) (next : ℕ → Edges) (n : ℕ) (marks : List Bool) → ((t : ℕ) → P t → Q t) → ((t : ℕ) → Q t → P t)
    → AreMarks next n P marks → AreMarks next n Q marks
other_starts P Q next n marks there back found = record {
  long = found.long;
  sound = λ t h. let way = found.sound t h in record { first = way.first; leads = there way.first way.leads; on = way.on };
  complete = λ t way. found.complete t (record { first = way.first; leads = back way.first way.leads; on = way.on });
}

-- the last slot that waits goes, and the slots after it were met
pub go_on : (next : ℕ → Edges) (n : ℕ) (starts : ℕ → Type 0) (m marks : List Bool) (w waiting all : List ℕ) (s : ℕ) → EdgesFit next n
    → all ≡ w ++ s ∷ [] → Searching next n starts m all → Met (Leads (next s)) m w marks waiting → Searching next n starts marks waiting
go_on next n starts m marks w waiting all s fits is before met =
    let here : Has all s = rw is (has_right w (s ∷ []) s (inl refl)) in
    let was : IsMarked m s = before.waits s here in
    record {
      long = met.long ∙ before.long;
      sound = λ t h. elim (met.only t h) [
        | inl old ↦ before.sound t old
        | inr leads ↦ leads_more next starts s t (before.sound s was) leads
      ];
      begun = λ t h. met.kept t (before.begun t h);
      closed = λ u h. elim (met.wait u h) [
        | inl old ↦ elim (before.closed u old) [
          | inl waited ↦
              let split : Has (w ++ s ∷ []) u = rw is at waited in
              elim (has_last w u s split) [
                | inl still ↦ inl (met.stay u still)
                | inr e ↦ inr (λ t leads. let there : Leads (next s) t = rw e at leads in met.met t there (omega (arith, before.long, fits s t there)))
              ]
          | inr done ↦ inr (λ t leads. met.kept t (done t leads))
        ]
        | inr waits ↦ inl waits
      ];
      waits = λ t h. elim (met.come t h) [
        | inl old ↦ met.kept t (before.waits t (rw is (has_left w (s ∷ []) t old)))
        | inr is_marked ↦ is_marked
      ];
    }

-- it takes one that waits each time
pub fewer : (P : ℕ → Type 0) (m marks : List Bool) (w waiting all : List ℕ) (s : ℕ) → all ≡ w ++ s ∷ [] → Met P m w marks waiting
    → 2 * unmarked_count marks + length waiting < 2 * unmarked_count m + length all
fewer P m marks w waiting all s is met =
    let long = ap length is ∙ length-append w (s ∷ []) in
    omega (arith, long, met.size)

follow : (next : ℕ → Edges) (marks : List Bool) (s t : ℕ) (p : List ℕ) → ((u : ℕ) → IsMarked marks u → (v : ℕ) → Leads (next u) v → IsMarked marks v)
    → IsMarked marks s → IsWalk next s p → end_of s p ≡ t → IsMarked marks t
follow next marks s t [] closed is walk e = rw (← e) is
follow next marks s t (u ∷ p) closed is walk e = follow next marks u t p closed (closed s is u walk.0) walk.1 e

-- none waits any more
pub end : (next : ℕ → Edges) (n : ℕ) (starts : ℕ → Type 0) (marks : List Bool) (waiting : List ℕ) → waiting ≡ [] → Searching next n starts marks waiting
    → AreMarks next n starts marks
end next n starts marks waiting none found =
    let closed : (u : ℕ) → IsMarked marks u → (v : ℕ) → Leads (next u) v → IsMarked marks v =
    λ u is. elim (found.closed u is) [ inl waits ↦ absurd (let bad : Has [] u = rw none at waits in bad) | inr done ↦ done ] in
    record {
      long = found.long;
      sound = found.sound;
      complete = λ t way. follow next marks way.first t way.on.slots closed (found.begun way.first way.leads) way.on.walk way.on.ends;
    }

-- the search from one slot begins with an edge to it
pub one_start : (slot t : ℕ) → slot ≡ t → Leads (edges (Some slot) None) t
one_start slot t e = inl (ap Some e)

pub start_one : (slot t : ℕ) → Leads (edges (Some slot) None) t → slot ≡ t
start_one slot t (inl h) = let e : slot ≡ t = cc in e
start_one slot t (inr h) = absurd (let bad : None ≡ Some t = h in cc)

-- the entries of the marked calls so far
pub enters_more : (program : List (Option Instr)) (outer : List Bool) (k t : ℕ)
    → Enters program outer k t ⊎ (IsMarked outer k × (callee program k ≡ Some t)) → Enters program outer (k + 1) t
enters_more program outer k t (inl e) = record { call = e.call; below = (let b = e.below in omega (arith, b)); marked = e.marked; enters = e.enters }
enters_more program outer k t (inr h) = record { call = k; below = omega arith; marked = h.0; enters = h.1 }

pub enters_back : (program : List (Option Instr)) (outer : List Bool) (k t : ℕ) → Enters program outer (k + 1) t
    → Enters program outer k t ⊎ (IsMarked outer k × (callee program k ≡ Some t))
enters_back program outer k t e =
    elim (cases_lt e.call k) [
      | inl less ↦ inl (record { call = e.call; below = less; marked = e.marked; enters = e.enters })
      | inr not_less ↦
          let b = e.below in
          let last : e.call ≡ k = omega (arith, b, not_less) in
          let is : IsMarked outer k = rw last at e.marked in
          let here : callee program k ≡ Some t = rw last at e.enters in
          inr (is, here)
    ]

-- other words for the slots that were met
pub met_same : (P Q : ℕ → Type 0) (m : List Bool) (w : List ℕ) (marks : List Bool) (waiting : List ℕ) → ((t : ℕ) → P t → Q t) → ((t : ℕ) → Q t → P t)
    → Met P m w marks waiting → Met Q m w marks waiting
met_same P Q m w marks waiting there back met = record {
  kept = met.kept;
  only = λ t h. elim (met.only t h) [ inl old ↦ inl old | inr p ↦ inr (there t p) ];
  met = λ t q inside. met.met t (back t q) inside;
  stay = met.stay;
  wait = met.wait;
  come = met.come;
  long = met.long;
  size = met.size;
}

pub met_entry : (program : List (Option Instr)) (outer : List Bool) (k : ℕ) (m m1 m2 : List Bool) (w w1 w2 : List ℕ) → Met (Enters program outer k) m w m1 w1
    → Met (λ t. IsMarked outer k × (callee program k ≡ Some t)) m1 w1 m2 w2 → Met (Enters program outer (k + 1)) m w m2 w2
met_entry program outer k m m1 m2 w w1 w2 a b =
    met_same (λ t. Enters program outer k t ⊎ (IsMarked outer k × (callee program k ≡ Some t))) (Enters program outer (k + 1)) m w m2 w2
    (enters_more program outer k) (enters_back program outer k)
    (meet_both (Enters program outer k) (λ t. IsMarked outer k × (callee program k ≡ Some t)) m m1 m2 w w1 w2 a b)

pub none_entered : (program : List (Option Instr)) (outer m : List Bool) (w : List ℕ) → Met (Enters program outer 0) m w m w
none_entered program outer m w = same (Enters program outer 0) m w (λ t e _. absurd (let b = e.below in omega (arith, b)))

-- a call that is marked, or isn't
pub met_marked : (program : List (Option Instr)) (outer : List Bool) (k : ℕ) (m m1 : List Bool) (w w1 : List ℕ) → IsMarked outer k
    → Met (λ t. callee program k ≡ Some t) m w m1 w1 → Met (λ t. IsMarked outer k × (callee program k ≡ Some t)) m w m1 w1
met_marked program outer k m m1 w w1 is met =
    met_same (λ t. callee program k ≡ Some t) (λ t. IsMarked outer k × (callee program k ≡ Some t)) m w m1 w1 (λ t h. (is, h)) (λ t h. h.1) met

pub met_unmarked : (program : List (Option Instr)) (outer : List Bool) (k : ℕ) (m : List Bool) (w : List ℕ) → get_or outer k false ≡ false
    → Met (λ t. IsMarked outer k × (callee program k ≡ Some t)) m w m w
met_unmarked program outer k m w not_is =
    same (λ t. IsMarked outer k × (callee program k ≡ Some t)) m w (λ t h _. absurd (let bad : true ≡ false = sym h.0 ∙ not_is in cc))

pub entries_inside : (program : List (Option Instr)) (outer : List Bool) (n : ℕ) → EntriesFit program → (t : ℕ) → Enters program outer n t → t < length program
entries_inside program outer n fits t e = fits e.call t e.enters

-- what was read of a slot is its mark
pub read_mark : (marks : List Bool) (s : ℕ) (x : Bool) → s < length marks → x ≡ get_or marks s x → get_or marks s false ≡ x
read_mark marks s x inside read = get_or_default marks s false x inside ∙ sym read
