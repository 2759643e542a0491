-- Steps with guards over a good table, and the machines that are reached.
use Rattle.std.proofs.Common.{◌≡◌, ◌<◌, ℕ, zero, suc, ◌+◌, true, List, replicate, Option, None, Some, slice_get, sym, ap, ◌∙◌, inl, inr, subst, arith}
use Rattle.std.proofs.lemmas.List.{length-map}
use Rattle.bpf_isa.specs.declared.instr.Instr.{Instr}
use Rattle.helpers.specs.declared.device.Context.{Context}
use Rattle.machine.specs.State.{State, start}
use Rattle.machine.specs.Memory.{context_bytes}
use Rattle.machine.specs.Step.{Stepped, Next, Done, Fault}
use Rattle.std.proofs.lemmas.List.{length-replicate}
use Rattle.machine.specs.OwnMemory.{memory_size, zero_memory}
use Rattle.machine.specs.Guards.{filled_frame, filled, Made, guarded_step}
use Rattle.ranges.specs.States.{Abstract}
use Rattle.verifier.specs.Tables.{sent_with}
use Rattle.verifier.specs.Good.{IsGoodWith}
use Rattle.verifier.specs.Guards.{is_guarded_at}
use Rattle.soundness.specs.Machines.{IsSetting}
use Rattle.soundness.specs.Laws.{IsKnown, IsNoFault, Follows}
use Rattle.soundness.specs.Guards.{IsOwn, GuardedReached}
use Rattle.soundness.specs.GuardedTables.{IsCoveredStep, IsCoveredWithGuards, IsSafeWithGuards, GuardedTableCovers}
use Rattle.soundness.proofs.Tables.{sent_fit, way_safe, start_known}
use Rattle.soundness.proofs.Filling.{known_filled, filled_twice}
use Rattle.soundness.proofs.LooseSteps.{guarded_step_covered}

follows_filled : (program : List (Option Instr)) (s t : State) → Follows program s t → Follows program s (filled t)
unfolding filled
follows_filled program s t (inl h) = inl (length-map t.frames filled_frame ∙ h.0, h.1)
follows_filled program s t (inr (inl h)) = inr (inl (length-map t.frames filled_frame ∙ h.0, h.1))
follows_filled program s t (inr (inr h)) = inr (inr (h.0 ∙ ap (λ (n : ℕ). n + 1) (sym (length-map t.frames filled_frame)), h.1))

-- the machine that a step leads to
abbrev There : List (Option Instr) → ℕ → List (Option Abstract) → State → State → Type 0
There program sectors table s t = IsKnown program sectors table t × (filled t ≡ t) × Follows program s t

-- one step made
abbrev pub made_by : Stepped → List ℕ → Made
made_by x k = record { stepped = x; memory = k }

pub same_made : (x y : Made) → Some x ≡ Some y → x ≡ y
same_made x y e = cc

pub same_step : (x y : Stepped) (k n : List ℕ) → Some (made_by x k) ≡ Some (made_by y n) → x ≡ y
same_step x y k n e = ap (λ (m : Made). m.stepped) (same_made (made_by x k) (made_by y n) e)

same_next : (u t : State) (k n : List ℕ) → Some (made_by (Next u) k) ≡ Some (made_by (Next t) n) → (u ≡ t) × (k ≡ n)
same_next u t k n e =
    let step : Next u ≡ Next t = same_step (Next u) (Next t) k n e in
    let same : u ≡ t = cc in
    (same, ap (λ (m : Made). m.memory) (same_made (made_by (Next u) k) (made_by (Next t) n) e))

no_done : (u : State) (k n : List ℕ) (answer : ℕ) (codes : List ℕ) → Some (made_by (Next u) k) ≡ Some (made_by (Done answer codes) n) → ⊥
no_done u k n answer codes e = let bad : Next u ≡ Done answer codes = same_step (Next u) (Done answer codes) k n e in cc

pub guarded_step_safe : (program : List (Option Instr)) (sectors : ℕ) (device : List (List ℕ)) (context : Context) (table : List (Option Abstract)) (m : List ℕ) (s : State)
    → IsSetting program sectors device context → IsGoodWith true program sectors table → IsOwn m → IsKnown program sectors table s → filled s ≡ s
    → IsSafeWithGuards program sectors table s (guarded_step program (context_bytes context) device m s)
guarded_step_safe program sectors device context table m s set good own known full =
    by (guarded_step program (context_bytes context) device m s) (guarded_step_covered program sectors device context table m s set good.states own known full (good.slots s.slot).rules)
  where
    sent : List (ℕ × Abstract)
    sent = sent_with true program sectors table s.slot

    made : (x : Stepped) (k : List ℕ) → IsOwn k → IsCoveredStep program sectors table sent s x → IsSafeWithGuards program sectors table s (Some (record { stepped = x; memory = k }))
    made (Next u) k bytes c =
        let way = way_safe program sectors device context table s sent set good.states (sent_fit true program sectors table s.slot set.made set.few good.states) (good.slots s.slot).edges known c.0 c.2 in
        let there : There program sectors table s (filled c.0) = (known_filled program sectors table c.0 way.0, filled_twice c.0, follows_filled program s c.0 way.1) in
        let here : There program sectors table s u = subst (There program sectors table s) (sym c.1) there in
        record {
          strays = λ e. absurd (let bad : Some (record { stepped = Next u; memory = k }) ≡ None = e in cc);
          sound = λ x e. subst (λ (y : Made). IsNoFault y.stepped) (same_made (record { stepped = Next u; memory = k }) x e) tt;
          goes = λ t n e.
              let same = same_next u t k n e in
              let rest = subst (There program sectors table s) same.0 here in
              (subst IsOwn same.1 bytes, rest.0, rest.1, rest.2);
          ends = λ answer codes n e. absurd (no_done u k n answer codes e);
        }
    made (Done a c) k bytes h = record {
      strays = λ e. absurd (let bad : Some (record { stepped = Done a c; memory = k }) ≡ None = e in cc);
      sound = λ x e. subst (λ (y : Made). IsNoFault y.stepped) (same_made (record { stepped = Done a c; memory = k }) x e) tt;
      goes = λ t n e. absurd (no_done t n k a c (sym e));
      ends = λ answer codes n e. h;
    }
    made (Fault cause slot) k bytes h = absurd h

    by : (x : Option Made) → IsCoveredWithGuards program sectors table (is_guarded_at program table s.slot) sent s x → IsSafeWithGuards program sectors table s x
    by None c = record {
      strays = λ e. c;
      sound = λ x e. absurd (let bad : None ≡ Some x = e in cc);
      goes = λ t n e. absurd (let bad : None ≡ Some (record { stepped = Next t; memory = n }) = e in cc);
      ends = λ answer codes n e. absurd (let bad : None ≡ Some (record { stepped = Done answer codes; memory = n }) = e in cc);
    }
    by (Some x) c = made x.stepped x.memory c.0 c.1

zeros_small : (n i b : ℕ) → slice_get (replicate {A = ℕ} n 0) i ≡ Some b → b < 256
zeros_small zero i b e = absurd (let bad : None ≡ Some b = e in cc)
zeros_small (suc n) zero b e = let same : Some 0 ≡ Some b = e in let is : 0 ≡ b = cc in omega (arith, is)
zeros_small (suc n) (suc i) b e = zeros_small n i b e

pub zeros_own : IsOwn zero_memory
unfolding zero_memory
zeros_own = record { long = length-replicate {A = ℕ} memory_size 0; small = zeros_small memory_size }

reached : (program : List (Option Instr)) (sectors : ℕ) (device : List (List ℕ)) (context : Context) (table : List (Option Abstract)) (n : ℕ) (m : List ℕ) (s : State)
    → IsSetting program sectors device context → IsGoodWith true program sectors table → GuardedReached program (context_bytes context) device n m s
    → IsOwn m × IsKnown program sectors table s × (filled s ≡ s)
reached program sectors device context table zero m s set good h =
    let here : IsKnown program sectors table (filled start) × (filled (filled start) ≡ filled start) =
    (known_filled program sectors table start (start_known program sectors device context table set good.states good.start), filled_twice start) in
    let state = subst (λ (t : State). IsKnown program sectors table t × (filled t ≡ t)) (sym h.1) here in
    (subst IsOwn (sym h.0) zeros_own, state.0, state.1)
reached program sectors device context table (suc n) m s set good h =
    let before = reached program sectors device context table n h.0 h.1 set good h.2.0 in
    let there = (guarded_step_safe program sectors device context table h.0 h.1 set good before.0 before.1 before.2).goes s m h.2.1 in
    (there.0, there.1, there.2)

pub guarded_table_covers : GuardedTableCovers
guarded_table_covers = record {
  reached = reached;
  safe = λ program sectors device context table n m s set good h.
      let before = reached program sectors device context table n m s set good h in
      guarded_step_safe program sectors device context table m s set good before.0 before.1 before.2;
}
