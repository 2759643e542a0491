-- Walks: longer by an edge, in parts, and what a walk with a slot twice gives.
use Rattle.std.proofs.Common.{ℕ, ◌≡◌, ◌<◌, List, [], ◌∷◌, ◌++◌, refl, ◌∙◌, ap}
use Rattle.bpf_shape.specs.declared.edges.Edges.{Edges}
use Rattle.bpf_shape.specs.Paths.{Leads, IsWalk, end_of, Reaches, LeadsTo}

pub walk_more : (next : ℕ → Edges) (s t : ℕ) (p : List ℕ) → IsWalk next s p → Leads (next (end_of s p)) t → IsWalk next s (p ++ t ∷ [])
walk_more next s t [] w l = (l, tt)
walk_more next s t (u ∷ p) w l = (w.0, walk_more next u t p w.1 l)

pub end_more : (s t : ℕ) (p : List ℕ) → end_of s (p ++ t ∷ []) ≡ t
end_more s t [] = refl
end_more s t (u ∷ p) = end_more u t p

-- what is reached, and one edge more
pub reaches_more : (next : ℕ → Edges) (s t u : ℕ) → Reaches next s t → Leads (next t) u → Reaches next s u
reaches_more next s t u r l =
    let there : Leads (next (end_of s r.slots)) u = rw r.ends l in
    record {
      slots = r.slots ++ u ∷ [];
      walk = walk_more next s u r.slots r.walk there;
      ends = end_more s u r.slots;
    }

-- a slot reaches itself
pub stays : (next : ℕ → Edges) (s : ℕ) → Reaches next s s
stays next s = record { slots = []; walk = tt; ends = refl }

pub leads_more : (next : ℕ → Edges) (starts : ℕ → Type 0) (t u : ℕ) → LeadsTo next starts t → Leads (next t) u → LeadsTo next starts u
leads_more next starts t u r l = record { first = r.first; leads = r.leads; on = reaches_more next r.first t u r.on l }

pub leads_first : (next : ℕ → Edges) (starts : ℕ → Type 0) (t : ℕ) → starts t → LeadsTo next starts t
leads_first next starts t l = record { first = t; leads = l; on = stays next t }

-- walks one after the other
pub walk_on : (next : ℕ → Edges) (s : ℕ) (p q : List ℕ) → IsWalk next s p → IsWalk next (end_of s p) q → IsWalk next s (p ++ q)
walk_on next s [] q w v = v
walk_on next s (u ∷ p) q w v = (w.0, walk_on next u p q w.1 v)

pub end_on : (s : ℕ) (p q : List ℕ) → end_of s (p ++ q) ≡ end_of (end_of s p) q
end_on s [] q = refl
end_on s (u ∷ p) q = end_on u p q

pub reaches_on : (next : ℕ → Edges) (s t u : ℕ) → Reaches next s t → Reaches next t u → Reaches next s u
reaches_on next s t u a b =
    let there : IsWalk next (end_of s a.slots) b.slots = rw a.ends b.walk in
    record {
      slots = a.slots ++ b.slots;
      walk = walk_on next s a.slots b.slots a.walk there;
      ends = end_on s a.slots b.slots ∙ ap (λ (x : ℕ). end_of x b.slots) a.ends ∙ b.ends;
    }

-- a walk along edges of which there are more
walk_wider : (next more : ℕ → Edges) (s : ℕ) (p : List ℕ) → ((u v : ℕ) → Leads (next u) v → Leads (more u) v) → IsWalk next s p → IsWalk more s p
walk_wider next more s [] wider w = tt
walk_wider next more s (u ∷ p) wider w = (wider s u w.0, walk_wider next more u p wider w.1)

pub reaches_wider : (next more : ℕ → Edges) (s t : ℕ) → ((u v : ℕ) → Leads (next u) v → Leads (more u) v) → Reaches next s t → Reaches more s t
reaches_wider next more s t wider r = record { slots = r.slots; walk = walk_wider next more s r.slots wider r.walk; ends = r.ends }

-- what is reached from slots is a slot
pub reaches_inside : (next : ℕ → Edges) (n s t : ℕ) → ((u v : ℕ) → Leads (next u) v → v < n) → s < n → Reaches next s t → t < n
reaches_inside next n s t fits inside r = rw (← r.ends) (walk_inside s r.slots inside r.walk)
  where
    walk_inside : (u : ℕ) (p : List ℕ) → u < n → IsWalk next u p → end_of u p < n
    walk_inside u [] h w = h
    walk_inside u (v ∷ p) h w = walk_inside v p (fits u v w.0) w.1
