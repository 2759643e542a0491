-- How a run comes to a call of `again` and to the test after it: from the slot before.
use Rattle.std.proofs.Common.{ℕ, suc, ◌≡◌, ◌≢◌, ◌+◌, ◌-◌, ◌<◌, ◌==◌, ◌||◌, ℤ, Bool, true, false, if◌then◌else◌, List, length, Option, Some, None, refl, sym, ◌∙◌, ap, inl, inr, arith}
use Rattle.std.specs.Option.{option_map_or, option_and_then}
use Rattle.std.proofs.lemmas.Bool.{cases_lt}
use Rattle.std.proofs.lemmas.Bool.Decides.{eqb_tells}
use Rattle.bpf_isa.specs.declared.instr.Instr.{Instr}
use Rattle.bpf_isa.specs.declared.instr.Instr.TheVariants as instr
use Rattle.bpf_isa.specs.declared.instr.Condition.{Condition}
use Rattle.bpf_isa.specs.Program.{IsProgram}
use Rattle.bpf_shape.specs.declared.edges.Edges.{Edges}
use Rattle.bpf_isa.specs.Slots.{at, target_slot}
use Rattle.bpf_shape.specs.Edges.{edges_of, control, no_edges}
use Rattle.bpf_shape.specs.Again.{helper_number, calls_again, limit_of, limit_before, zero_test, answer_test, is_slot, aims_at, is_target}
use Rattle.bpf_shape.specs.Calls.{callee_of, callee}
use Rattle.bpf_shape.specs.Paths.{Leads}
use Rattle.bpf_shape.specs.Rules.{IsShaped}
use Rattle.bpf_shape.specs.Laws.{AgainHasForm}
use Rattle.bpf_shape.proofs.Kept.{at_past}
use Rattle.bpf_shape.proofs.Ranges.{any_at}
use Rattle.soundness.proofs.Halves.{half_after}

pub inside : (program : List (Option Instr)) (s : ℕ) (i : Instr) → at program s ≡ Some i → s < length program
inside program s i there =
    elim (cases_lt s (length program)) [
      | inl less ↦ less
      | inr past ↦ absurd (let bad : None ≡ Some i = sym (at_past program s past) ∙ there in cc)
    ]

pub control_there : (program : List (Option Instr)) (s : ℕ) (i : Instr) → at program s ≡ Some i → control program s ≡ edges_of s i
unfolding control
control_there program s i there = ap (λ (o : Option Instr). option_map_or (edges_of s) o no_edges) there

pub callee_there : (program : List (Option Instr)) (s : ℕ) (distance : ℤ) → at program s ≡ Some (instr.CallLocal distance)
    → callee program s ≡ Some (target_slot s distance)
unfolding callee callee_of
callee_there program s distance there = ap (λ (o : Option Instr). option_and_then (callee_of s) o) there

-- a jump of the program leads to its target
target_is : (program : List (Option Instr)) (s t : ℕ) (i : Instr) → at program s ≡ Some i → (edges_of s i).target ≡ Some t → is_target program t ≡ true
unfolding is_target
target_is program s t i there e =
    let jumps : (control program s).target ≡ Some t = ap (λ (x : Edges). x.target) (control_there program s i there) ∙ e in
    let same : is_slot t (Some t) ≡ true = elim (eqb_tells t t) [ inl equal ↦ equal.0 | inr other ↦ absurd (other.1 refl) ] in
    any_at (aims_at program t) (length program) s (inside program s i there) (rw (jumps, same) refl)

or_true : (b : Bool) → (b || true) ≡ true
or_true true = refl
or_true false = refl

-- and so does a local call
pub entry_is : (program : List (Option Instr)) (s t : ℕ) (distance : ℤ) → at program s ≡ Some (instr.CallLocal distance) → target_slot s distance ≡ t
    → is_target program t ≡ true
unfolding is_target
entry_is program s t distance there e =
    let same : is_slot t (Some t) ≡ true = elim (eqb_tells t t) [ inl equal ↦ equal.0 | inr other ↦ absurd (other.1 refl) ] in
    let enters : callee program s ≡ Some t = callee_there program s distance there ∙ ap Some e in
    let aims : (is_slot t (control program s).target || is_slot t (callee program s)) ≡ true = rw (enters, same) (or_true (is_slot t (control program s).target)) in
    any_at (aims_at program t) (length program) s (inside program s (instr.CallLocal distance) there) aims

-- the next slot, where an instruction begins at the one before it
next_is : (program : List (Option Instr)) (s t : ℕ) (i j : Instr) → IsProgram program → at program s ≡ Some i → (edges_of s i).next ≡ Some t
    → at program (t - 1) ≡ Some j → t ≡ s + 1
unfolding edges_of
next_is program s t instr.Exit j p there e before = absurd (let bad : None ≡ Some t = e in cc)
next_is program s t (instr.Jump distance) j p there e before = absurd (let bad : None ≡ Some t = e in cc)
next_is program s t (instr.LongJump distance) j p there e before = absurd (let bad : None ≡ Some t = e in cc)
next_is program s t (instr.LoadImmediate dst x) j p there e before =
    let found : Some (s + 2) ≡ Some t = e in
    let same : s + 2 ≡ t = cc in
    let place : t - 1 ≡ suc s = omega (arith, same) in
    let none : at program (t - 1) ≡ None = rw place (half_after program s dst x p there) in
    let bad : None ≡ Some j = sym none ∙ before in
    absurd (cc)
next_is program s t i j p there e before =
    let found : Some (s + 1) ≡ Some t = e in
    let same : s + 1 ≡ t = cc in
    sym same

-- a slot to which no jump leads is reached from the one before it
from_before : (program : List (Option Instr)) (s t : ℕ) (i j : Instr) → IsProgram program → at program s ≡ Some i → Leads (edges_of s i) t
    → is_target program t ≡ false → at program (t - 1) ≡ Some j → t ≡ s + 1
from_before program s t i j p there (inl e) free before = next_is program s t i j p there e before
from_before program s t i j p there (inr e) free before = absurd (let bad : false ≡ true = sym free ∙ target_is program s t i there e in cc)

-- K stands before the call

pub record Before (program : List (Option Instr)) (t k : ℕ) : Type 0 where
  pub instr : Instr
  pub there : at program (t - 1) ≡ Some instr
  pub sets : limit_of instr ≡ Some k

pub stands_before : (program : List (Option Instr)) (t k : ℕ) → limit_before program t ≡ Some k → Before program t k
unfolding limit_before
stands_before program t k e = by_test (t == 0) (at program (t - 1)) refl e
  where
    by_test : (b : Bool) (o : Option Instr) → at program (t - 1) ≡ o → (if b then None else option_and_then limit_of o) ≡ Some k → Before program t k
    by_test true o is e = absurd (let bad : None ≡ Some k = e in cc)
    by_test false None is e = absurd (let bad : None ≡ Some k = e in cc)
    by_test false (Some i) is e = record { instr = i; there = is; sets = e }

-- what leads to a call has set K
pub call_comes : (program : List (Option Instr)) (s t : ℕ) (i : Instr) (k : ℕ) → IsProgram program → at program s ≡ Some i → Leads (edges_of s i) t
    → is_target program t ≡ false → limit_before program t ≡ Some k → limit_of i ≡ Some k
call_comes program s t i k p there leads free is =
    let before = stands_before program t k is in
    let next : t ≡ s + 1 = from_before program s t i before.instr p there leads free before.there in
    let place : t - 1 ≡ s = omega (arith, next) in
    let found : at program s ≡ Some before.instr = rw (← place) before.there in
    let equal : Some i ≡ Some before.instr = sym there ∙ found in
    let same : i ≡ before.instr = cc in
    ap limit_of same ∙ before.sets

-- the test after a call

pub record Test (program : List (Option Instr)) (t : ℕ) (c : Condition) : Type 0 where
  pub instr : Instr
  pub there : at program t ≡ Some instr
  pub tests : zero_test instr ≡ Some c
  pub positive : (t == 0) ≡ false
  pub calls : calls_again program (t - 1) ≡ true

pub test_there : (program : List (Option Instr)) (t : ℕ) (c : Condition) → answer_test program t ≡ Some c → Test program t c
unfolding answer_test
test_there program t c e = by_test (t == 0) (calls_again program (t - 1)) (at program t) refl refl refl e
  where
    by_test : (a b : Bool) (o : Option Instr) → (t == 0) ≡ a → calls_again program (t - 1) ≡ b → at program t ≡ o
        → (if a then None else if b then option_and_then zero_test o else None) ≡ Some c → Test program t c
    by_test true b o x y z e = absurd (let bad : None ≡ Some c = e in cc)
    by_test false false o x y z e = absurd (let bad : None ≡ Some c = e in cc)
    by_test false true None x y z e = absurd (let bad : None ≡ Some c = e in cc)
    by_test false true (Some i) x y z e = record { instr = i; there = z; tests = e; positive = x; calls = y }

pub record Calls (program : List (Option Instr)) (s : ℕ) : Type 0 where
  pub instr : Instr
  pub there : at program s ≡ Some instr
  pub number : ℕ
  pub helper : helper_number instr ≡ Some number
  pub is : (number == 3) ≡ true

-- the instruction that calls `again`
pub call_there : (program : List (Option Instr)) (s : ℕ) → calls_again program s ≡ true → Calls program s
unfolding calls_again
call_there program s e = by_slot (at program s) refl e
  where
    by_number : (i : Instr) (n : Option ℕ) → at program s ≡ Some i → helper_number i ≡ n → option_map_or (λ m. m == 3) n false ≡ true → Calls program s
    by_number i None is named e = absurd (let bad : false ≡ true = e in cc)
    by_number i (Some m) is named e = record { instr = i; there = is; number = m; helper = named; is = e }

    by_slot : (o : Option Instr) → at program s ≡ o → option_map_or (λ m. m == 3) (option_and_then helper_number o) false ≡ true → Calls program s
    by_slot None is e = absurd (let bad : false ≡ true = e in cc)
    by_slot (Some i) is e = by_number i (helper_number i) is refl e

-- what leads to a test is the call before it
pub test_comes : (program : List (Option Instr)) (s t : ℕ) (i : Instr) (c : Condition) → AgainHasForm → IsProgram program → IsShaped true program → at program s ≡ Some i
    → Leads (edges_of s i) t → answer_test program t ≡ Some c → calls_again program s ≡ true
test_comes program s t i c form p shaped there leads e =
    let test = test_there program t c e in
    let around = form true program (t - 1) shaped test.calls in
    let call = call_there program (t - 1) test.calls in
    let positive : t ≢ 0 = elim (eqb_tells t 0) [ inl zero_there ↦ absurd (let bad : false ≡ true = sym test.positive ∙ zero_there.0 in cc) | inr other ↦ other.1 ] in
    let place : t - 1 + 1 ≡ t = omega (arith, positive) in
    let free : is_target program t ≡ false = rw place at around.test_free in
    let next : t ≡ s + 1 = from_before program s t i call.instr p there leads free call.there in
    let back : t - 1 ≡ s = omega (arith, next) in
    rw back at test.calls
