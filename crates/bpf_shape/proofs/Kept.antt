-- What follows from the rules that look at one slot.
use Rattle.std.proofs.Common.{ℕ, ◌≡◌, ◌<◌, ◌≤◌, nat_le, Bool, true, false, ◌&&◌, List, length, slice_get, Option, Some, None, refl, sym, ◌∙◌, ap, inl, inr, arith}
use Rattle.std.specs.Option.{option_map_or, option_and_then}
use Rattle.std.proofs.lemmas.Bool.{cases_Bool, cases_lt, and_cases, and_left, and_right}
use Rattle.std.proofs.lemmas.Bool.Decides.{leb_tells}
use Rattle.std.proofs.lemmas.Option.{slice_get_past}
use Rattle.bpf_isa.specs.declared.instr.Instr.{Instr}
use Rattle.bpf_isa.specs.declared.instr.Condition.{Condition}
use Rattle.bpf_isa.specs.declared.instr.Condition.TheVariants as cond
use Rattle.bpf_shape.specs.declared.edges.Edges.{Edges}
use Rattle.base.specs.declared.causes.VerifierCause.{VerifierCause}
use Rattle.base.specs.declared.causes.VerifierCause.TheVariants as cause
use Rattle.bpf_shape.specs.declared.fault.Fault.{Fault}
use Rattle.bpf_isa.specs.Slots.{at}
use Rattle.bpf_shape.specs.Edges.{begins, edges_of, control, no_edges}
use Rattle.bpf_shape.specs.Calls.{callee_of, callee}
use Rattle.bpf_shape.specs.Again.{helper_number, calls_again, answer_test, others_of, plain}
use Rattle.bpf_shape.specs.Paths.{Leads, OnCycle}
use Rattle.bpf_shape.specs.Search.{EdgesFit, EntriesFit}
use Rattle.bpf_shape.specs.Rules.{last_helper, keeps, IsOver, Breaks, Holds, IsLowest, FirstBroken, IsShaped}
use Rattle.bpf_shape.specs.Keeping.{IsOfSlots, IsBrokenAt, KeepsAll}
use Rattle.bpf_shape.specs.Laws.{ShapedWithGuards}

-- no instruction begins past the end
pub at_past : (program : List (Option Instr)) (s : ℕ) → length program ≤ s → at program s ≡ None
at_past program s past =
    let none : slice_get program s ≡ None = slice_get_past program s past in
    ap (λ (x : Option (Option Instr)). option_and_then (λ i. i) x) none

pub control_past : (program : List (Option Instr)) (s : ℕ) → length program ≤ s → control program s ≡ no_edges
unfolding control
control_past program s past = ap (λ (x : Option Instr). option_map_or (edges_of s) x no_edges) (at_past program s past)

pub callee_past : (program : List (Option Instr)) (s : ℕ) → length program ≤ s → callee program s ≡ None
unfolding callee
callee_past program s past = ap (λ (x : Option Instr). option_and_then (callee_of s) x) (at_past program s past)

calls_past : (program : List (Option Instr)) (s : ℕ) → length program ≤ s → calls_again program s ≡ false
unfolding calls_again
calls_past program s past = rw (at_past program s past) refl

-- a rule of one slot holds there
keeps_past : (guards : Bool) (program : List (Option Instr)) (c : VerifierCause) (s : ℕ) → length program ≤ s → keeps guards program c s ≡ true
unfolding keeps
keeps_past guards program cause.Target s past = rw (control_past program s past, callee_past program s past) refl
keeps_past guards program cause.End s past = rw (control_past program s past) refl
keeps_past guards program cause.FramePointer s past = rw (at_past program s past) refl
keeps_past guards program cause.UnknownHelper s past = rw (at_past program s past) refl
keeps_past guards program cause.AgainForm s past = rw (calls_past program s past) refl
keeps_past guards program _ s past = refl

-- a rule that each slot keeps is broken nowhere
pub never : (guards : Bool) (program : List (Option Instr)) (c : VerifierCause) → ((s : ℕ) → s < length program → keeps guards program c s ≡ true)
    → (s : ℕ) → keeps guards program c s ≡ false → ⊥
never guards program c kept s broken =
    let holds : keeps guards program c s ≡ true = elim (cases_lt s (length program)) [ inl inside ↦ kept s inside | inr past ↦ keeps_past guards program c s past ] in
    let bad : true ≡ false = sym holds ∙ broken in
    cc

-- an instruction begins at a slot of the program
begins_inside : (program : List (Option Instr)) (t : ℕ) → begins program t ≡ true → t < length program
begins_inside program t h =
    elim (cases_lt t (length program)) [
      | inl inside ↦ inside
      | inr past ↦
          let none = at_past program t past in
          let bad : false ≡ true = rw none at h in
          absurd (cc)
    ]

leads_inside : (program : List (Option Instr)) (o : Option ℕ) (t : ℕ) → (option_map_or (begins program) o true ≡ false → ⊥) → o ≡ Some t → begins program t ≡ true
leads_inside program o t holds e =
    elim (cases_Bool (begins program t)) [
      | inl is ↦ is
      | inr not_is ↦ absurd (holds (rw (e, not_is) refl))
    ]

-- where one of two tests fails, both do
either : (a b : Bool) → ((a && b) ≡ false → ⊥) → (a ≡ false → ⊥) × (b ≡ false → ⊥)
either true b h = (λ bad. let worse : true ≡ false = bad in cc, h)
either false b h = absurd (h refl)

targets_begin : (guards : Bool) (program : List (Option Instr)) (s : ℕ) → Holds guards program cause.Target
    → (option_map_or (begins program) (control program s).target true ≡ false → ⊥) × (option_map_or (begins program) (callee program s) true ≡ false → ⊥)
unfolding Breaks keeps
targets_begin guards program s targets =
    either (option_map_or (begins program) (control program s).target true) (option_map_or (begins program) (callee program s) true) (targets s)

-- each control edge leads to a slot in which an instruction begins
pub edges_begin : (guards : Bool) (program : List (Option Instr)) → Holds guards program cause.Target → Holds guards program cause.End → (s t : ℕ) → Leads (control program s) t
    → begins program t ≡ true
unfolding Breaks keeps
edges_begin guards program targets ends s t (inl h) = leads_inside program (control program s).next t (ends s) h
edges_begin guards program targets ends s t (inr h) = leads_inside program (control program s).target t (targets_begin guards program s targets).0 h

-- and so does each local call
pub entries_begin : (guards : Bool) (program : List (Option Instr)) → Holds guards program cause.Target → (s t : ℕ) → callee program s ≡ Some t → begins program t ≡ true
entries_begin guards program targets s t h = leads_inside program (callee program s) t (targets_begin guards program s targets).1 h

pub entries_fit : (guards : Bool) (program : List (Option Instr)) → Holds guards program cause.Target → EntriesFit program
entries_fit guards program targets s t h = begins_inside program t (entries_begin guards program targets s t h)

pub control_fits : (guards : Bool) (program : List (Option Instr)) → KeepsAll guards program → EdgesFit (control program) (length program)
control_fits guards program kept s t h = begins_inside program t (edges_begin guards program kept.targets kept.ends s t h)

-- an edge that is no again edge is a control edge
pub others_are : (test : Option Condition) (e : Edges) (t : ℕ) → Leads (others_of test e) t → Leads e t
others_are None e t h = h
others_are (Some cond.Eq) e t (inl h) = absurd (let bad : None ≡ Some t = h in cc)
others_are (Some cond.Eq) e t (inr h) = inr h
others_are (Some cond.Ne) e t (inl h) = inl h
others_are (Some cond.Ne) e t (inr h) = absurd (let bad : None ≡ Some t = h in cc)
others_are (Some _) e t h = h

pub plain_is_control : (program : List (Option Instr)) (s t : ℕ) → Leads (plain program s) t → Leads (control program s) t
unfolding plain
plain_is_control program s t h = others_are (answer_test program s) (control program s) t h

pub plain_fits : (guards : Bool) (program : List (Option Instr)) → KeepsAll guards program → EdgesFit (plain program) (length program)
plain_fits guards program kept s t h = control_fits guards program kept s t (plain_is_control program s t h)

-- a slot that doesn't keep a rule of slots breaks it, and the other way round
breaks_of : (guards : Bool) (program : List (Option Instr)) (c : VerifierCause) (s : ℕ) → IsOfSlots c → keeps guards program c s ≡ false → Breaks guards program c s
unfolding Breaks
breaks_of guards program cause.Loop s of h = absurd of
breaks_of guards program cause.CallDepth s of h = absurd of
breaks_of guards program cause.Budget s of h = absurd of
breaks_of guards program _ s of h = h

of_breaks : (guards : Bool) (program : List (Option Instr)) (c : VerifierCause) (s : ℕ) → IsOfSlots c → Breaks guards program c s → keeps guards program c s ≡ false
unfolding Breaks
of_breaks guards program cause.Loop s of h = absurd of
of_breaks guards program cause.CallDepth s of h = absurd of
of_breaks guards program cause.Budget s of h = absurd of
of_breaks guards program _ s of h = h

pub holds_of : (guards : Bool) (program : List (Option Instr)) (c : VerifierCause) → IsOfSlots c → ((s : ℕ) → s < length program → keeps guards program c s ≡ true)
    → Holds guards program c
holds_of guards program c of kept s broken = never guards program c kept s (of_breaks guards program c s of broken)

pub lowest_of : (guards : Bool) (program : List (Option Instr)) (c : VerifierCause) (s : ℕ) → IsOfSlots c → keeps guards program c s ≡ false
    → ((t : ℕ) → t < s → keeps guards program c t ≡ true) → IsLowest guards program c s
lowest_of guards program c s of broken kept = record {
  breaks = breaks_of guards program c s of broken;
  lowest = λ t less breaks.
      let bad : true ≡ false = sym (kept t less) ∙ of_breaks guards program c t of breaks in
      cc;
}

-- the first broken rule, after those that hold
module _ (guards : Bool) (program : List (Option Instr)) (f : Fault) where
  pub first_target : IsBrokenAt guards program cause.Target f → FirstBroken guards program f.code f.slot
  unfolding FirstBroken
  first_target b = inl (b.code, b.lowest)

  pub first_end : Holds guards program cause.Target → IsBrokenAt guards program cause.End f → FirstBroken guards program f.code f.slot
  unfolding FirstBroken
  first_end h1 b = inr (h1, inl (b.code, b.lowest))

  pub first_frame_pointer : Holds guards program cause.Target → Holds guards program cause.End → IsBrokenAt guards program cause.FramePointer f → FirstBroken guards program f.code f.slot
  unfolding FirstBroken
  first_frame_pointer h1 h2 b = inr (h1, inr (h2, inl (b.code, b.lowest)))

  pub first_helper : Holds guards program cause.Target → Holds guards program cause.End → Holds guards program cause.FramePointer → IsBrokenAt guards program cause.UnknownHelper f
      → FirstBroken guards program f.code f.slot
  unfolding FirstBroken
  first_helper h1 h2 h3 b = inr (h1, inr (h2, inr (h3, inl (b.code, b.lowest))))

  pub first_again : Holds guards program cause.Target → Holds guards program cause.End → Holds guards program cause.FramePointer → Holds guards program cause.UnknownHelper
      → IsBrokenAt guards program cause.AgainForm f → FirstBroken guards program f.code f.slot
  unfolding FirstBroken
  first_again h1 h2 h3 h4 b = inr (h1, inr (h2, inr (h3, inr (h4, inl (b.code, b.lowest)))))

  pub first_loop : KeepsAll guards program → IsBrokenAt true program cause.Loop f → FirstBroken guards program f.code f.slot
  unfolding FirstBroken Breaks
  first_loop k b =
      let lowest : IsLowest guards program cause.Loop f.slot = record { breaks = b.lowest.breaks; lowest = b.lowest.lowest } in
      inr (k.targets, inr (k.ends, inr (k.frame_pointer, inr (k.helpers, inr (k.again, inl (b.code, lowest))))))

  pub first_calls : KeepsAll guards program → Holds true program cause.Loop → IsBrokenAt true program cause.CallDepth f → FirstBroken guards program f.code f.slot
  unfolding FirstBroken Breaks
  first_calls k loops b =
      let lowest : IsLowest guards program cause.CallDepth f.slot = record { breaks = b.lowest.breaks; lowest = b.lowest.lowest } in
      inr (k.targets, inr (k.ends, inr (k.frame_pointer, inr (k.helpers, inr (k.again, inr (loops, inl (b.code, lowest)))))))

pub first_budget : (guards : Bool) (program : List (Option Instr)) → KeepsAll guards program → Holds true program cause.Loop → Holds true program cause.CallDepth → IsOver program
    → FirstBroken guards program cause.Budget 0
unfolding FirstBroken Breaks
first_budget guards program k loops calls over =
    let lowest : IsLowest guards program cause.Budget 0 = record { breaks = (refl, over); lowest = λ t less _. absurd (omega (arith, less)) } in
    inr (k.targets, inr (k.ends, inr (k.frame_pointer, inr (k.helpers, inr (k.again, inr (loops, inr (calls, inl (refl, lowest))))))))

pub lowest_loop : (program : List (Option Instr)) (s : ℕ) → OnCycle (plain program) s → ((t : ℕ) → t < s → OnCycle (plain program) t → ⊥)
    → IsLowest true program cause.Loop s
unfolding Breaks
lowest_loop program s found none = record { breaks = found; lowest = none }

-- no edge leads from a slot past the end, so it is on no cycle
no_edge : (t : ℕ) → Leads no_edges t → ⊥
no_edge t (inl h) = let bad : None ≡ Some t = h in cc
no_edge t (inr h) = let bad : None ≡ Some t = h in cc

pub holds_loop : (program : List (Option Instr)) → ((s : ℕ) → s < length program → OnCycle (plain program) s → ⊥) → Holds true program cause.Loop
unfolding Breaks
holds_loop program none s cycle =
    elim (cases_lt s (length program)) [
      | inl inside ↦ none s inside cycle
      | inr past ↦
          let first : Leads (control program s) cycle.first = plain_is_control program s cycle.first cycle.leads in
          no_edge cycle.first (rw (control_past program s past) at first)
    ]

-- what is a helper without guards is one with guards
greater_too : (guards : Bool) (n : ℕ) → (nat_le 1 n && nat_le n 11) ≡ false → (nat_le 1 n && nat_le n (last_helper guards)) ≡ false
greater_too true n h = h
greater_too false n h =
    elim (leb_tells n 7) [
      | inl few ↦ elim (leb_tells n 11) [
        | inl some ↦ and_left (nat_le 1 n) (nat_le n 7) (elim (and_cases (nat_le 1 n) (nat_le n 11) h) [ inl none ↦ none | inr many ↦ absurd (let bad : true ≡ false = sym some.0 ∙ many in cc) ])
        | inr many ↦ absurd (omega (arith, few.1, many.1))
      ]
      | inr many ↦ and_right (nat_le 1 n) (nat_le n 7) many.0
    ]

pub shaped_with_guards : ShapedWithGuards
unfolding Breaks keeps
shaped_with_guards guards program h = record {
  targets = h.targets;
  ends = h.ends;
  frame_pointer = h.frame_pointer;
  helpers = λ s broken. h.helpers s (unknown_too (option_and_then helper_number (at program s)) broken);
  again = h.again;
  loops = h.loops;
  calls = h.calls;
  budget = h.budget;
}
  where
    unknown_too : (o : Option ℕ) → option_map_or (λ n. nat_le 1 n && nat_le n 11) o true ≡ false
        → option_map_or (λ n. nat_le 1 n && nat_le n (last_helper guards)) o true ≡ false
    unknown_too None broken = broken
    unknown_too (Some n) broken = greater_too guards n broken
