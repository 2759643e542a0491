-- One verdict.
use Rattle.std.proofs.Common.{◌≡◌, ◌≤◌, ◌<◌, ◌+◌, ◌-◌, ◌^◌, ℕ, Bool, true, false, zero, suc, List, Option, refl, sym, ◌∙◌, ap, inl, inr, arith, subst}
use Rattle.std.proofs.lemmas.Bool.{cases_lt}
use Rattle.base.specs.declared.causes.VerifierCause.{VerifierCause}
use Rattle.bpf_isa.specs.declared.instr.Instr.{Instr}
use Rattle.bpf_isa.specs.Program.{IsProgram}
use Rattle.bpf_shape.specs.Rules.{IsShaped}
use Rattle.bpf_shape.specs.Laws.{OneFault, NoFaultInShaped}
use Rattle.bpf_shape.proofs.Budgets.{one_budget}
use Rattle.ranges.specs.States.{Abstract}
use Rattle.verifier.specs.Breaches.{FirstBreach}
use Rattle.verifier.specs.Least.{IsLeast}
use Rattle.verifier.specs.Rounds.{round_of, rounds, IsSame, IsSettled}
use Rattle.verifier.specs.Verdicts.{VerifiedValue, IsVerified, RefusedWith, shape, no_table, sought}
use Rattle.verifier.specs.Visits.{NeedMore, most_visits}
use Rattle.verifier.specs.Laws.{OneVerdict}
use Rattle.verifier.proofs.Breaches.{one_breach}
use Rattle.verifier.proofs.Exact.{one_least, least_with_guards}

-- after a round that changes nothing, none does
stays : (guards : Bool) (program : List (Option Instr)) (sectors n k : ℕ) → IsSame guards program sectors (rounds guards program sectors n) → rounds guards program sectors (n + k) ≡ rounds guards program sectors n
stays guards program sectors n zero same = let e : n + 0 ≡ n = omega arith in rw e refl
stays guards program sectors n (suc k) same =
    let e : n + suc k ≡ suc (n + k) = omega arith in
    rw e (ap (λ t. round_of guards program sectors t) (stays guards program sectors n k same) ∙ same)

later : (guards : Bool) (program : List (Option Instr)) (sectors m n : ℕ) → m ≤ n → IsSame guards program sectors (rounds guards program sectors m) → rounds guards program sectors n ≡ rounds guards program sectors m
later guards program sectors m n most same =
    let e : m + (n - m) ≡ n = omega (arith, most) in
    let s = stays guards program sectors m (n - m) same in
    rw e at s

same_at : (guards : Bool) (program : List (Option Instr)) (sectors : ℕ) (t : List (Option Abstract)) (h : IsSettled guards program sectors t) → IsSame guards program sectors (rounds guards program sectors h.turns)
same_at guards program sectors t h = subst (λ u. IsSame guards program sectors u) h.is h.same

one_settled : (guards : Bool) (program : List (Option Instr)) (sectors : ℕ) (t u : List (Option Abstract)) → IsSettled guards program sectors t → IsSettled guards program sectors u → t ≡ u
one_settled guards program sectors t u a b =
    elim (cases_lt a.turns b.turns) [
      | inl less ↦ a.is ∙ sym (later guards program sectors a.turns b.turns (omega (arith, less)) (same_at guards program sectors t a)) ∙ sym b.is
      | inr not_less ↦ a.is ∙ later guards program sectors b.turns a.turns (omega (arith, not_less)) (same_at guards program sectors u b) ∙ sym b.is
    ]

one_refusal : OneFault → NoFaultInShaped → (guards : Bool) (program : List (Option Instr)) (sectors : ℕ) (c d : VerifierCause) (s t : ℕ)
    → (NeedMore guards program sectors most_visits → ⊥) → RefusedWith guards program sectors c s → RefusedWith guards program sectors d t → (c ≡ d) × (s ≡ t)
one_refusal one none guards program sectors _ _ _ _ few (shape c s x) (shape d t y) = one guards program c d s t x y
one_refusal one none guards program sectors _ _ _ _ few (shape c s x) (no_table d t u h n k y) = absurd (none guards program h c s x)
one_refusal one none guards program sectors _ _ _ _ few (shape c s x) (sought d t u h n more k y) = absurd (few more)
one_refusal one none guards program sectors _ _ _ _ few (sought c s t h n more k x) y = absurd (few more)
one_refusal one none guards program sectors _ _ _ _ few (no_table c s t h n k x) (shape d u y) = absurd (none guards program h d u y)
one_refusal one none guards program sectors _ _ _ _ few (no_table c s t h n k x) (sought d u v l m more j y) = absurd (few more)
one_refusal one none guards program sectors _ _ _ _ few (no_table c s t h n k x) (no_table d u v l m j y) =
    let here : FirstBreach guards program sectors v c s = subst (λ z. FirstBreach guards program sectors z c s) (one_settled guards program sectors t v k j) x in
    one_breach guards program sectors v c d s u here y

-- the least table of either kind of acceptance is the least one with guards
as_with_guards : (guards : Bool) (program : List (Option Instr)) (sectors : ℕ) (t : List (Option Abstract)) → sectors < 2 ^ 64 → IsProgram program → IsShaped guards program
    → IsLeast guards program sectors t → IsLeast true program sectors t
as_with_guards true program sectors t few p h least = least
as_with_guards false program sectors t few p h least = least_with_guards program sectors t few p h least

pub verified_least : (v : VerifiedValue) → IsVerified v → IsLeast true v.program v.sectors v.table
verified_least v a =
    let device = a.device in
    let few : v.sectors < 2 ^ 64 = omega (arith, device) in
    as_with_guards v.guards v.program v.sectors v.table few a.program a.shape a.table

one_acceptance : (v w : VerifiedValue) → IsVerified v → IsVerified w → v.program ≡ w.program → v.sectors ≡ w.sectors → (v.budget ≡ w.budget) × (v.table ≡ w.table)
one_acceptance v w a b p s =
    let there : IsLeast true w.program w.sectors v.table = subst (λ x. IsLeast true x w.sectors v.table) p (subst (λ n. IsLeast true v.program n v.table) s (verified_least v a)) in
    (one_budget w.program v.budget w.budget (rw p at a.budget) b.budget, one_least true w.program w.sectors v.table w.table there (verified_least w b))

not_both : NoFaultInShaped → (v : VerifiedValue) (guards : Bool) (program : List (Option Instr)) (sectors : ℕ) (c : VerifierCause) (s : ℕ) → IsVerified v → guards ≡ v.guards
    → program ≡ v.program → sectors ≡ v.sectors → RefusedWith guards program sectors c s → ⊥
not_both none v guards program sectors _ _ a g p n (shape c s x) = none guards program (rw (g, p) a.shape) c s x
not_both none v guards program sectors _ _ a g p n (no_table c s t h no_good k x) = no_good v.table (rw (g, p, n) a.table.good)
not_both none v guards program sectors _ _ a g p n (sought c s t h no_good more k x) = no_good v.table (rw (g, p, n) a.table.good)

pub one_verdict : OneFault → NoFaultInShaped → OneVerdict
one_verdict one none = record {
  refusal = one_refusal one none;
  accepted = one_acceptance;
  not_both = λ v c s a r. not_both none v v.guards v.program v.sectors c s a refl refl refl r;
}
