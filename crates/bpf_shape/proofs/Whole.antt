-- The laws of shapes.
use Rattle.std.proofs.Common.{ℕ, ◌≡◌, ◌+◌, ◌≤◌, ◌⊎◌, Bool, true, false, not, ◌&&◌, List, [], ◌∷◌, length, Option, Some, None, is_some, refl, sym, ◌∙◌, ap, inl, inr, arith}
use Rattle.std.proofs.lemmas.Bool.{cases_Bool, cases_lt}
use Rattle.std.proofs.lemmas.Bool.Decides.{eqb_tells}
use Rattle.std.proofs.lemmas.List.FromFn.{get_or-map-range_with_len}
use Rattle.bpf_isa.specs.declared.instr.Instr.{Instr}
use Rattle.bpf_isa.specs.declared.instr.Condition.{Condition}
use Rattle.bpf_isa.specs.declared.instr.Condition.TheVariants as cond
use Rattle.bpf_shape.specs.declared.edges.Edges.{Edges}
use Rattle.base.specs.declared.causes.VerifierCause.{VerifierCause}
use Rattle.base.specs.declared.causes.VerifierCause.TheVariants as cause
use Rattle.bpf_shape.specs.Edges.{control, no_edges}
use Rattle.bpf_shape.specs.Again.{calls_again, limit_before, answer_test, again_of, others_of, again_edge, plain, is_slot, is_target, is_head, heads}
use Rattle.bpf_shape.specs.Paths.{Leads}
use Rattle.bpf_shape.specs.Rules.{is_equality, has_form, keeps, Breaks, Holds, IsLowest, order, FirstOf, FirstBroken}
use Rattle.bpf_shape.specs.Laws.{OneShape, OneFault, NoFaultInShaped, EdgesAreSplit, HeadsAreTargets, HeadsBySlot, EdgesLeadToInstructions, EntriesAreInstructions, CallsAreNested, DeeperIsTheSame, IsAround, AgainHasForm}
use Rattle.bpf_shape.proofs.Ranges.{any_at, at_any}
use Rattle.bpf_shape.proofs.Kept.{control_past, edges_begin, entries_begin}
use Rattle.bpf_shape.proofs.Weighing.{deeper_same}
use Rattle.bpf_shape.proofs.Budgets.{one_budget}

pub one_shape : OneShape
one_shape guards program a b x y = (one_budget program a.budget b.budget x.budget y.budget, x.heads ∙ sym y.heads)

same_lowest : (guards : Bool) (program : List (Option Instr)) (c : VerifierCause) (s t : ℕ) → IsLowest guards program c s → IsLowest guards program c t → s ≡ t
same_lowest guards program c s t x y =
    elim (cases_lt s t) [
      | inl less ↦ absurd (y.lowest s less x.breaks)
      | inr not_less ↦ elim (cases_lt t s) [
        | inl more ↦ absurd (x.lowest t more y.breaks)
        | inr not_more ↦ omega (arith, not_less, not_more)
      ]
    ]

first_of_rules : (guards : Bool) (program : List (Option Instr)) (rules : List VerifierCause) (c d : VerifierCause) (s t : ℕ) → FirstOf guards program rules c s → FirstOf guards program rules d t
    → (c ≡ d) × (s ≡ t)
first_of_rules guards program [] c d s t x y = absurd x
first_of_rules guards program (r ∷ rest) c d s t (inl x) (inl y) = (x.0 ∙ sym y.0, same_lowest guards program r s t x.1 y.1)
first_of_rules guards program (r ∷ rest) c d s t (inl x) (inr y) = absurd (y.0 s x.1.breaks)
first_of_rules guards program (r ∷ rest) c d s t (inr x) (inl y) = absurd (x.0 t y.1.breaks)
first_of_rules guards program (r ∷ rest) c d s t (inr x) (inr y) = first_of_rules guards program rest c d s t x.1 y.1

pub one_fault : OneFault
unfolding FirstBroken
one_fault guards program c d s t x y = first_of_rules guards program order c d s t x y

pub no_fault_in_shaped : NoFaultInShaped
unfolding FirstBroken
no_fault_in_shaped guards program h c s (inl x) = h.targets s x.1.breaks
no_fault_in_shaped guards program h c s (inr (_, inl x)) = h.ends s x.1.breaks
no_fault_in_shaped guards program h c s (inr (_, inr (_, inl x))) = h.frame_pointer s x.1.breaks
no_fault_in_shaped guards program h c s (inr (_, inr (_, inr (_, inl x)))) = h.helpers s x.1.breaks
no_fault_in_shaped guards program h c s (inr (_, inr (_, inr (_, inr (_, inl x))))) = h.again s x.1.breaks
no_fault_in_shaped guards program h c s (inr (_, inr (_, inr (_, inr (_, inr (_, inl x)))))) = h.loops s x.1.breaks
no_fault_in_shaped guards program h c s (inr (_, inr (_, inr (_, inr (_, inr (_, inr (_, inl x))))))) = h.calls s x.1.breaks
no_fault_in_shaped guards program h c s (inr (_, inr (_, inr (_, inr (_, inr (_, inr (_, inr (_, inl x)))))))) = h.budget s x.1.breaks
no_fault_in_shaped guards program h c s (inr (_, inr (_, inr (_, inr (_, inr (_, inr (_, inr (_, inr x)))))))) = x.1

split : (test : Option Condition) (e : Edges) (t : ℕ) → Leads e t → (again_of test e ≡ Some t) ⊎ Leads (others_of test e) t
split None e t h = inr h
split (Some cond.Eq) e t (inl h) = inl h
split (Some cond.Eq) e t (inr h) = inr (inr h)
split (Some cond.Ne) e t (inl h) = inr (inl h)
split (Some cond.Ne) e t (inr h) = inl h
split (Some _) e t h = inr h

join : (test : Option Condition) (e : Edges) (t : ℕ) → (again_of test e ≡ Some t) ⊎ Leads (others_of test e) t → Leads e t
join None e t (inl h) = absurd (let bad : None ≡ Some t = h in cc)
join None e t (inr h) = h
join (Some cond.Eq) e t (inl h) = inl h
join (Some cond.Eq) e t (inr (inl h)) = absurd (let bad : None ≡ Some t = h in cc)
join (Some cond.Eq) e t (inr (inr h)) = inr h
join (Some cond.Ne) e t (inl h) = inr h
join (Some cond.Ne) e t (inr (inl h)) = inl h
join (Some cond.Ne) e t (inr (inr h)) = absurd (let bad : None ≡ Some t = h in cc)
join (Some _) e t (inl h) = absurd (let bad : None ≡ Some t = h in cc)
join (Some _) e t (inr h) = h

pub edges_are_split : EdgesAreSplit
unfolding again_edge plain
edges_are_split program s t = (split (answer_test program s) (control program s) t, join (answer_test program s) (control program s) t)

no_again : (test : Option Condition) → again_of test no_edges ≡ None
no_again None = refl
no_again (Some cond.Eq) = refl
no_again (Some cond.Ne) = refl
no_again (Some _) = refl

again_past : (program : List (Option Instr)) (s : ℕ) → length program ≤ s → again_edge program s ≡ None
unfolding again_edge
again_past program s past = ap (λ (e : Edges). again_of (answer_test program s) e) (control_past program s past) ∙ no_again (answer_test program s)

is_slot_of : (t : ℕ) (o : Option ℕ) → is_slot t o ≡ true → o ≡ Some t
is_slot_of t None h = absurd (let bad : false ≡ true = h in cc)
is_slot_of t (Some u) h =
    elim (eqb_tells u t) [
      | inl same ↦ ap Some same.1
      | inr other ↦ absurd (let bad : false ≡ true = sym other.0 ∙ h in cc)
    ]

of_slot : (t : ℕ) (o : Option ℕ) → o ≡ Some t → is_slot t o ≡ true
of_slot t o e =
    let here : is_slot t (Some t) ≡ true = elim (eqb_tells t t) [ inl same ↦ same.0 | inr other ↦ absurd (other.1 refl) ] in
    rw e here

pub heads_are_targets : HeadsAreTargets
unfolding is_head
heads_are_targets program t = (
  λ h.
      let found = at_any (λ s. is_slot t (again_edge program s)) (length program) h in
      (found.0, is_slot_of t (again_edge program found.0) found.1.1),
  λ found.
      elim (cases_lt found.0 (length program)) [
        | inl inside ↦ any_at (λ s. is_slot t (again_edge program s)) (length program) found.0 inside (of_slot t (again_edge program found.0) found.1)
        | inr past ↦ absurd (let bad : None ≡ Some t = sym (again_past program found.0 past) ∙ found.1 in cc)
      ],
)

pub heads_by_slot : HeadsBySlot
unfolding heads
heads_by_slot program t inside = get_or-map-range_with_len (is_head program) 0 (length program) t t false inside (omega arith)

pub edges_lead_to_instructions : EdgesLeadToInstructions
edges_lead_to_instructions guards program s t h leads = edges_begin guards program h.targets h.ends s t leads

pub entries_are_instructions : EntriesAreInstructions
entries_are_instructions guards program s t h enters = entries_begin guards program h.targets s t enters

pub calls_are_nested : CallsAreNested
unfolding Breaks
calls_are_nested = record { recursive = λ guards program s h x. h.calls s (inl x); fourth = λ guards program s h x. h.calls s (inr x) }

pub deeper_is_the_same : DeeperIsTheSame
unfolding Breaks
deeper_is_the_same guards program depth a b v w h enough three deep x y = deeper_same program depth a b v w h.calls enough three deep x y

both : (a b : Bool) → (a && b) ≡ true → (a ≡ true) × (b ≡ true)
both true b h = (refl, h)
both false b h = absurd (let bad : false ≡ true = h in cc)

not_true : (a : Bool) → not a ≡ true → a ≡ false
not_true true h = absurd (let bad : false ≡ true = h in cc)
not_true false h = refl

is_there : (o : Option ℕ) → is_some o ≡ true → (k : ℕ) × (o ≡ Some k)
is_there None h = absurd (let bad : false ≡ true = h in cc)
is_there (Some k) h = (k, refl)

is_one : (o : Option Condition) → is_equality o ≡ true → (o ≡ Some cond.Eq) ⊎ (o ≡ Some cond.Ne)
is_one None h = absurd (let bad : false ≡ true = h in cc)
is_one (Some cond.Eq) h = inl refl
is_one (Some cond.Ne) h = inr refl
is_one (Some _) h = absurd (let bad : false ≡ true = h in cc)

around : (program : List (Option Instr)) (s : ℕ) → has_form program s ≡ true → IsAround program s
unfolding has_form
around program s h =
    let a = both (is_some (limit_before program s)) _ h in
    let b = both (is_equality (answer_test program (s + 1))) _ a.1 in
    let c = both (not (is_target program s)) (not (is_target program (s + 1))) b.1 in
    let k = is_there (limit_before program s) a.0 in
    record {
      limit = k.0;
      limit_is = k.1;
      test = is_one (answer_test program (s + 1)) b.0;
      call_free = not_true (is_target program s) c.0;
      test_free = not_true (is_target program (s + 1)) c.1;
    }

kept_form : (guards : Bool) (program : List (Option Instr)) (s : ℕ) → Holds guards program cause.AgainForm → calls_again program s ≡ true → has_form program s ≡ true
unfolding Breaks keeps
kept_form guards program s holds calls =
    elim (cases_Bool (has_form program s)) [
      | inl is ↦ is
      | inr not_is ↦ absurd (holds s (rw calls not_is))
    ]

pub again_has_form : AgainHasForm
again_has_form guards program s h calls = around program s (kept_form guards program s h.again calls)
