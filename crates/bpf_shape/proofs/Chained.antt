-- Chains of local calls, as walks that enter local functions.
use Rattle.std.proofs.Common.{ℕ, ◌≡◌, ◌<◌, ◌⊎◌, Bool, true, false, List, [], ◌∷◌, length, Option, None, Some, is_some, refl, sym, ◌∙◌, inl, inr}
use Rattle.std.specs.Option.{option_map_or}
use Rattle.std.proofs.lemmas.Bool.{cases_lt}
use Rattle.bpf_isa.specs.declared.instr.Instr.{Instr}
use Rattle.bpf_isa.specs.declared.instr.Instr.TheVariants as instr
use Rattle.base.specs.declared.causes.VerifierCause.TheVariants as cause
use Rattle.bpf_isa.specs.Slots.{at}
use Rattle.bpf_shape.specs.Edges.{edges_of, control, no_edges}
use Rattle.bpf_shape.specs.Calls.{callee_of, callee}
use Rattle.bpf_shape.specs.Paths.{Leads, IsWalk, end_of, Reaches, LeadsTo}
use Rattle.bpf_shape.specs.Chains.{IsWithin, IsChain, IsRecursive, IsFourth}
use Rattle.bpf_shape.specs.Search.{with_entry, entering, IsMarked, EdgesFit, EntriesFit, AreMarks, Enters}
use Rattle.bpf_shape.specs.Rules.{Breaks, Holds, IsLowest}
use Rattle.bpf_shape.specs.Keeping.{AreDeep}
use Rattle.bpf_shape.proofs.Walks.{reaches_more, stays, reaches_on, reaches_wider, reaches_inside}
use Rattle.bpf_shape.proofs.Kept.{callee_past}

-- a local call has no target
of_instr : (s f : ℕ) (i : Instr) → callee_of s i ≡ Some f → (edges_of s i).target ≡ None
unfolding callee_of edges_of
of_instr s f (instr.CallLocal distance) h = refl
of_instr s f _ h = absurd (let bad : None ≡ Some f = h in cc)

call_target : (program : List (Option Instr)) (s f : ℕ) → callee program s ≡ Some f → (control program s).target ≡ None
unfolding callee control
call_target program s f h = by_at (at program s) refl
  where
    by_at : (o : Option Instr) → at program s ≡ o → (option_map_or (edges_of s) (at program s) no_edges).target ≡ None
    by_at None is = rw is refl
    by_at (Some i) is =
        let here : callee_of s i ≡ Some f = rw is at h in
        rw is (of_instr s f i here)

-- a control edge is one that enters no function
pub control_enters : (program : List (Option Instr)) (s t : ℕ) → Leads (control program s) t → Leads (entering program s) t
unfolding entering
control_enters program s t h = by_callee (callee program s) refl h
  where
    by_callee : (o : Option ℕ) → callee program s ≡ o → Leads (control program s) t → Leads (with_entry (callee program s) (control program s)) t
    by_callee None is leads = rw is leads
    by_callee (Some f) is (inl leads) = rw is (inl leads)
    by_callee (Some f) is (inr leads) = absurd (let bad : None ≡ Some t = sym (call_target program s f is) ∙ leads in cc)

entry_enters : (program : List (Option Instr)) (s t : ℕ) → callee program s ≡ Some t → Leads (entering program s) t
unfolding entering
entry_enters program s t h = rw h (inr refl)

-- such an edge is a control edge, or leads to the entry of a local call
entering_is : (program : List (Option Instr)) (s t : ℕ) → Leads (entering program s) t → Leads (control program s) t ⊎ (callee program s ≡ Some t)
unfolding entering
entering_is program s t h = by_callee (callee program s) refl h
  where
    by_callee : (o : Option ℕ) → callee program s ≡ o → Leads (with_entry (callee program s) (control program s)) t → Leads (control program s) t ⊎ (callee program s ≡ Some t)
    by_callee None is leads = let there : Leads (control program s) t = rw is at leads in inl there
    by_callee (Some f) is leads =
        let there : Leads (with_entry (Some f) (control program s)) t = rw is at leads in
        elim there [ inl next ↦ inl (inl next) | inr enters ↦ inr (is ∙ enters) ]

pub entering_fits : (program : List (Option Instr)) → EdgesFit (control program) (length program) → EntriesFit program → EdgesFit (entering program) (length program)
entering_fits program fits entries s t h =
    elim (entering_is program s t h) [ inl leads ↦ fits s t leads | inr enters ↦ entries s t enters ]

-- a call that is within another is reached from the entry of that
first_reaches : (program : List (Option Instr)) (c e d : ℕ) → callee program c ≡ Some e → IsWithin program c d → Reaches (entering program) e d
first_reaches program c e d enters within =
    let same : Some e ≡ Some within.entry = sym enters ∙ within.enters in
    let same_too : e ≡ within.entry = cc in
    rw same_too (reaches_wider (control program) (entering program) within.entry d (control_enters program) within.reached)

-- a chain is a walk from the entry of its first call to its last
pub chain_reaches : (program : List (Option Instr)) (c e d : ℕ) (rest : List ℕ) → callee program c ≡ Some e → IsChain program c (d ∷ rest)
    → Reaches (entering program) e (end_of d rest)
chain_reaches program c e d [] enters chain = first_reaches program c e d enters chain.0
chain_reaches program c e d (f ∷ rest) enters chain =
    let entry = chain.1.0.entry in
    let inner : Reaches (entering program) entry (end_of f rest) = chain_reaches program d entry f rest chain.1.0.enters chain.1 in
    reaches_on (entering program) e entry (end_of f rest)
    (reaches_more (entering program) e d entry (first_reaches program c e d enters chain.0) (entry_enters program d entry chain.1.0.enters)) inner

-- a call d is within call b through a chain
pub record Chained (program : List (Option Instr)) (b d : ℕ) : Type 0 where
  pub first : ℕ
  pub rest : List ℕ
  pub chain : IsChain program b (first ∷ rest)
  pub back : end_of first rest ≡ d

one_within : (program : List (Option Instr)) (b e s : ℕ) → callee program b ≡ Some e → Reaches (control program) e s → is_some (callee program s) ≡ true
    → IsWithin program b s
one_within program b e s enters reached calls = record { entry = e; enters = enters; reached = reached; calls = calls }

-- and a walk from the entry of b to d is a chain
chain_of : (program : List (Option Instr)) (b e s : ℕ) (p : List ℕ) → callee program b ≡ Some e → Reaches (control program) e s
    → IsWalk (entering program) s p → is_some (callee program (end_of s p)) ≡ true → Chained program b (end_of s p)
chain_of program b e s [] enters reached walk calls =
    record { first = s; rest = []; chain = (one_within program b e s enters reached calls, tt); back = refl }
chain_of program b e s (t ∷ p) enters reached walk calls =
    elim (entering_is program s t walk.0) [
      | inl leads ↦ chain_of program b e t p enters (reaches_more (control program) e s t reached leads) walk.1 calls
      | inr inner ↦
          let rest = chain_of program s t t p inner (stays (control program) t) walk.1 calls in
          let here : is_some (callee program s) ≡ true = rw inner refl in
          record { first = s; rest = rest.first ∷ rest.rest; chain = (one_within program b e s enters reached here, rest.chain); back = rest.back }
    ]

pub recursive_of : (program : List (Option Instr)) (c e : ℕ) → callee program c ≡ Some e → Reaches (entering program) e c → IsRecursive program c
recursive_of program c e enters way =
    let calls : is_some (callee program c) ≡ true = rw enters refl in
    let at_end : is_some (callee program (end_of e way.slots)) ≡ true = rw way.ends calls in
    let found = chain_of program c e e way.slots enters (stays (control program) e) way.walk at_end in
    record { first = found.first; rest = found.rest; chain = found.chain; back = found.back ∙ way.ends }

pub of_recursive : (program : List (Option Instr)) (c e : ℕ) → callee program c ≡ Some e → IsRecursive program c → Reaches (entering program) e c
of_recursive program c e enters r =
    let way : Reaches (entering program) e (end_of r.first r.rest) = chain_reaches program c e r.first r.rest enters r.chain in
    rw r.back at way

-- such calls are local calls
some_true : (o : Option ℕ) → o ≡ None → is_some o ≡ true → ⊥
some_true o e h = let bad : false ≡ true = rw e at h in cc

no_call : (program : List (Option Instr)) (c : ℕ) → callee program c ≡ None → IsRecursive program c ⊎ IsFourth program c → ⊥
no_call program c none (inl r) = let bad : None ≡ Some r.chain.0.entry = sym none ∙ r.chain.0.enters in cc
no_call program c none (inr f) = some_true (callee program c) none f.chain.1.1.0.calls

pub no_call_breaks : (program : List (Option Instr)) (c : ℕ) → callee program c ≡ None → Breaks true program cause.CallDepth c → ⊥
unfolding Breaks
no_call_breaks program c none b = no_call program c none b

-- whether a call breaks the rule
pub deep_breaks : (program : List (Option Instr)) (c : ℕ) → IsFourth program c → Breaks true program cause.CallDepth c
unfolding Breaks
deep_breaks program c f = inr f

pub recursion_breaks : (program : List (Option Instr)) (c e : ℕ) → callee program c ≡ Some e → LeadsTo (entering program) (λ t. e ≡ t) c → Breaks true program cause.CallDepth c
unfolding Breaks
recursion_breaks program c e enters way =
    let same : e ≡ way.first = way.leads in
    inl (recursive_of program c e enters (rw (← same) at way.on))

pub breaks_is : (program : List (Option Instr)) (c e : ℕ) → callee program c ≡ Some e → Breaks true program cause.CallDepth c
    → LeadsTo (entering program) (λ t. e ≡ t) c ⊎ IsFourth program c
unfolding Breaks
breaks_is program c e enters (inl r) = inl (record { first = e; leads = refl; on = of_recursive program c e enters r })
breaks_is program c e enters (inr f) = inr f

pub lowest_calls : (program : List (Option Instr)) (s : ℕ) → Breaks true program cause.CallDepth s → ((t : ℕ) → t < s → Breaks true program cause.CallDepth t → ⊥)
    → IsLowest true program cause.CallDepth s
lowest_calls program s found none = record { breaks = found; lowest = none }

pub holds_calls : (program : List (Option Instr)) → ((s : ℕ) → s < length program → Breaks true program cause.CallDepth s → ⊥) → Holds true program cause.CallDepth
holds_calls program none s broken =
    elim (cases_lt s (length program)) [
      | inl inside ↦ none s inside broken
      | inr past ↦ no_call_breaks program s (callee_past program s past) broken
    ]

-- a slot that is reached from the entry of a marked call
record Entered (program : List (Option Instr)) (outer : List Bool) (d : ℕ) : Type 0 where
  pub call : ℕ
  pub entry : ℕ
  pub marked : IsMarked outer call
  pub enters : callee program call ≡ Some entry
  pub reached : Reaches (control program) entry d

-- three times into the functions that are called
module _ (program : List (Option Instr)) (n : ℕ) (fits : EdgesFit (control program) n) where
  -- what is reached in a function that a marked call enters
  inner : (outer marks : List Bool) (d : ℕ) → AreMarks (control program) n (Enters program outer n) marks → IsMarked marks d
      → Entered program outer d
  inner outer marks d found is =
      let way = found.sound d is in
      record { call = way.leads.call; entry = way.first; marked = way.leads.marked; enters = way.leads.enters; reached = way.on }

  inward : (outer marks : List Bool) (c d : ℕ) → AreMarks (control program) n (Enters program outer n) marks → c < n → IsMarked outer c → IsWithin program c d
      → IsMarked marks d
  inward outer marks c d found inside is within =
      found.complete d (record { first = within.entry; leads = record { call = c; below = inside; marked = is; enters = within.enters }; on = within.reached })

  pub are_deep : (outer first second deep : List Bool) → n ≡ length program → 0 < n → EntriesFit program → AreMarks (control program) n (λ t. 0 ≡ t) outer
      → AreMarks (control program) n (Enters program outer n) first → AreMarks (control program) n (Enters program first n) second
      → AreMarks (control program) n (Enters program second n) deep → AreDeep program deep
  are_deep outer first second deep whole some entries a b c d = record {
    long = d.long ∙ whole;
    sound = λ s is calls.
        let third = inner second deep s d is in
        let two = inner first second third.call c third.marked in
        let one = inner outer first two.call b two.marked in
        let way = a.sound one.call one.marked in
        let from : 0 ≡ way.first = way.leads in
        let third_calls : is_some (callee program third.call) ≡ true = rw third.enters refl in
        let two_calls : is_some (callee program two.call) ≡ true = rw two.enters refl in
        record {
          first = one.call;
          second = two.call;
          third = third.call;
          reached = rw (← from) at way.on;
          chain = (
            one_within program one.call one.entry two.call one.enters one.reached two_calls,
            (
              one_within program two.call two.entry third.call two.enters two.reached third_calls,
              (one_within program third.call third.entry s third.enters third.reached calls, tt),
            ),
          );
        };
    complete = λ s f.
        let inside : (u v : ℕ) → u < n → Reaches (control program) u v → v < n = λ u v. reaches_inside (control program) n u v fits in
        let entry_inside : (u v : ℕ) → callee program u ≡ Some v → v < n = λ u v enters. rw whole (entries u v enters) in
        let w1 = f.chain.0 in
        let w2 = f.chain.1.0 in
        let w3 = f.chain.1.1.0 in
        let in1 = inside 0 f.first some f.reached in
        let in2 = inside w1.entry f.second (entry_inside f.first w1.entry w1.enters) w1.reached in
        let in3 = inside w2.entry f.third (entry_inside f.second w2.entry w2.enters) w2.reached in
        let m1 = a.complete f.first (record { first = 0; leads = refl; on = f.reached }) in
        let m2 = inward outer first f.first f.second b in1 m1 w1 in
        let m3 = inward first second f.second f.third c in2 m2 w2 in
        inward second deep f.third s d in3 m3 w3;
  }
