-- What a program of right shape has at a slot.
use Rattle.std.proofs.Common.{◌≡◌, ◌<◌, ℕ, zero, suc, ◌+◌, ◌-◌, ◌==◌, ◌&&◌, ◌||◌, nat_le, not, Bool, true, false, if◌then◌else◌, ℤ, List, [], ◌∷◌, ◌++◌, length, map, is_some, slice_get, Option, None, Some, refl, sym, ap, ◌∙◌, inl, inr, subst, arith}
use Rattle.std.specs.Option.{option_map_or, option_and_then}
use Rattle.std.specs.Int.{cast_unsigned, w32, w64}
use Rattle.std.proofs.lemmas.Bool.{cases_lt}
use Rattle.std.proofs.lemmas.Bool.Decides.{nat_tests}
use Rattle.base.proofs.Lists.{slice_get_of_append, slice_get-append_right}
use Rattle.bpf_isa.specs.declared.instr.Instr.{Instr}
use Rattle.bpf_isa.specs.declared.instr.Instr.TheVariants as instr
use Rattle.bpf_isa.specs.declared.instr.Source.TheVariants as source
use Rattle.bpf_isa.specs.declared.instr.Width.TheVariants as width
use Rattle.bpf_isa.specs.declared.instr.Operator.TheVariants as op
use Rattle.bpf_isa.specs.Program.{halves, slots_of, AllInRange, IsProgram}
use Rattle.bpf_isa.specs.Spelling.{second_of, IsInRange}
use Rattle.helpers.specs.declared.helper.Helper.TheVariants as helper
use Rattle.helpers.specs.Helper.{helper_of}
use Rattle.bpf_isa.specs.Slots.{at, target_slot}
use Rattle.machine.specs.Step.{is_limit}
use Rattle.machine.proofs.HelperNumbers.{again_number}
use Rattle.bpf_shape.specs.declared.edges.Edges.{Edges}
use Rattle.bpf_shape.specs.Edges.{edges_of, begins, control}
use Rattle.bpf_shape.specs.Calls.{callee_of, callee}
use Rattle.bpf_shape.specs.Again.{helper_number, calls_again, limit_of, limit_before, answer_test, is_slot, aims_at, is_target}
use Rattle.bpf_shape.specs.Paths.{Leads}
use Rattle.bpf_shape.specs.Rules.{written_register, is_equality, has_form, keeps, Breaks, IsShaped}
use Rattle.soundness.proofs.Checks.{and_parts}
use Rattle.soundness.proofs.Standing.{not_unset}
use Rattle.bpf_shape.proofs.Ranges.{any_at}
use Rattle.bpf_shape.proofs.Kept.{at_past, edges_begin}

-- an instruction of a program is in range

no_half : {Y : Type 0} (f : Y → Option Instr) (ys : List Y) (s : ℕ) (i : Instr) → ((y : Y) → f y ≡ None) → slice_get (map f ys) s ≡ Some (Some i) → ⊥
no_half f [] s i none e = let bad : None ≡ Some (Some i) = e in cc
no_half f (y ∷ ys) zero i none e = let this : f y ≡ None = none y in let bad : Some (f y) ≡ Some (Some i) = e in cc
no_half f (y ∷ ys) (suc s) i none e = no_half f ys s i none e

range_in : (instrs : List Instr) (s : ℕ) (i : Instr) → AllInRange instrs → slice_get (slots_of instrs) s ≡ Some (Some i) → IsInRange i
range_in [] s i all e = absurd (let bad : None ≡ Some (Some i) = e in cc)
range_in (x ∷ rest) zero i all e = let same : Some (Some x) ≡ Some (Some i) = e in let is : x ≡ i = cc in subst IsInRange is all.0
range_in (x ∷ rest) (suc s) i all e =
    elim (slice_get_of_append (halves x) (slots_of rest) s (Some i) e) [
      | inl half ↦ absurd (no_half (λ _. None) (second_of x) s i (λ y. refl) half.1)
      | inr more ↦ range_in rest (s - length (halves x)) i all.1 more.1
    ]

-- after a 64-bit immediate its second half stands
half_in : (instrs : List Instr) (s dst v : ℕ) → slice_get (slots_of instrs) s ≡ Some (Some (instr.LoadImmediate dst v)) → slice_get (slots_of instrs) (suc s) ≡ Some None
half_in [] s dst v e = absurd (let bad : None ≡ Some (Some (instr.LoadImmediate dst v)) = e in cc)
half_in (x ∷ rest) zero dst v e =
    let same : Some (Some x) ≡ Some (Some (instr.LoadImmediate dst v)) = e in
    let is : x ≡ instr.LoadImmediate dst v = cc in
    subst (λ y. slice_get (halves y ++ slots_of rest) 0 ≡ Some None) (sym is) refl
half_in (x ∷ rest) (suc s) dst v e =
    elim (slice_get_of_append (halves x) (slots_of rest) s (Some (instr.LoadImmediate dst v)) e) [
      | inl half ↦ absurd (no_half (λ _. None) (second_of x) s (instr.LoadImmediate dst v) (λ y. refl) half.1)
      | inr more ↦
          let next = half_in rest (s - length (halves x)) dst v more.1 in
          let place : length (halves x) + suc (s - length (halves x)) ≡ suc s = omega (arith, more.0) in
          ap (slice_get (halves x ++ slots_of rest)) (sym place) ∙ slice_get-append_right (halves x) (slots_of rest) (suc (s - length (halves x))) ∙ next
    ]

listed : (program : List (Option Instr)) (s : ℕ) (i : Instr) → at program s ≡ Some i → slice_get program s ≡ Some (Some i)
listed program s i e = by (slice_get program s) e
  where
    by : (o : Option (Option Instr)) → option_and_then (λ j. j) o ≡ Some i → o ≡ Some (Some i)
    by None f = absurd (let bad : None ≡ Some i = f in cc)
    by (Some o) f = ap (λ (j : Option Instr). Some j) f

pub range_at : (program : List (Option Instr)) (s : ℕ) (i : Instr) → IsProgram program → at program s ≡ Some i → IsInRange i
range_at program s i is e = range_in is.whole.instrs s i is.whole.ranges (ap (λ (p : List (Option Instr)). slice_get p s) (sym is.whole.listed) ∙ listed program s i e)

half_at : (program : List (Option Instr)) (s dst v : ℕ) → IsProgram program → at program s ≡ Some (instr.LoadImmediate dst v) → at program (s + 1) ≡ None
half_at program s dst v is e =
    let one : s + 1 ≡ suc s = omega arith in
    let there = half_in is.whole.instrs s dst v (ap (λ (p : List (Option Instr)). slice_get p s) (sym is.whole.listed) ∙ listed program s (instr.LoadImmediate dst v) e) in
    let none : slice_get program (suc s) ≡ Some None = ap (λ (p : List (Option Instr)). slice_get p (suc s)) is.whole.listed ∙ there in
    rw one (ap (λ (o : Option (Option Instr)). option_and_then (λ (j : Option Instr). j) o) none)

-- rules of shape

holds_true : (b : Bool) → (b ≡ false → ⊥) → b ≡ true
holds_true true h = refl
holds_true false h = absurd (h refl)

pub free_at : (program : List (Option Instr)) (s : ℕ) (i : Instr) → IsShaped true program → at program s ≡ Some i → option_map_or (λ r. not (r == 10)) (written_register i) true ≡ true
unfolding Breaks keeps
free_at program s i shaped e =
    let kept = holds_true (option_map_or (λ r. not (r == 10)) (option_and_then written_register (at program s)) true) (shaped.frame_pointer s) in
    ap (λ (o : Option Instr). option_map_or (λ r. not (r == 10)) (option_and_then written_register o) true) (sym e) ∙ kept

-- control edges

control_is : (program : List (Option Instr)) (s : ℕ) (i : Instr) → at program s ≡ Some i → control program s ≡ edges_of s i
unfolding control
control_is program s i e = rw e refl

pub leads_at : (program : List (Option Instr)) (s t : ℕ) (i : Instr) → at program s ≡ Some i → Leads (edges_of s i) t → Leads (control program s) t
leads_at program s t i e h = subst (λ (x : Edges). Leads x t) (sym (control_is program s i e)) h

pub begins_at : (program : List (Option Instr)) (s t : ℕ) (i : Instr) → IsShaped true program → at program s ≡ Some i → Leads (edges_of s i) t → is_some (at program t) ≡ true
begins_at program s t i shaped e h = edges_begin true program shaped.targets shaped.ends s t (leads_at program s t i e h)

-- calls of `again`

pub calls_at : (program : List (Option Instr)) (s : ℕ) (number : ℤ) → at program s ≡ Some (instr.CallHelper number)
    → helper_of (cast_unsigned w32 number) ≡ Some helper.Again → calls_again program s ≡ true
unfolding calls_again
calls_at program s number e is =
    let n : ℕ = cast_unsigned w32 number in
    let three : (n == 3) ≡ true = again_number n is in
    rw e three

limit_small : (i : Instr) (k : ℕ) → limit_of i ≡ Some k → is_limit k ≡ true
unfolding limit_of
limit_small (instr.Arithmetic width.W64 op.Mov dst (source.Immediate n)) k e =
    by ((dst == 1) && (nat_le 1 (cast_unsigned w64 n) && nat_le (cast_unsigned w64 n) 1048576)) refl e
  where
    second : (a b : Bool) → (a && b) ≡ true → b ≡ true
    second true b f = f
    second false b f = absurd (let bad : false ≡ true = f in cc)

    by : (b : Bool) → ((dst == 1) && (nat_le 1 (cast_unsigned w64 n) && nat_le (cast_unsigned w64 n) 1048576)) ≡ b
        → (if b then Some (cast_unsigned w64 n) else None) ≡ Some k → is_limit k ≡ true
    by true f g =
        let same : cast_unsigned w64 n ≡ k = cc in
        rw (← same) (second (dst == 1) (nat_le 1 (cast_unsigned w64 n) && nat_le (cast_unsigned w64 n) 1048576) f)
    by false f g = absurd (let bad : None ≡ Some k = g in cc)
limit_small _ k e = absurd (let bad : None ≡ Some k = e in cc)

-- the limit of a call is one that the helper takes
pub limit_taken : (program : List (Option Instr)) (s k : ℕ) → limit_before program s ≡ Some k → is_limit k ≡ true
unfolding limit_before
limit_taken program s k e = by (s == 0) e
  where
    by_instr : (o : Option Instr) → option_and_then limit_of o ≡ Some k → is_limit k ≡ true
    by_instr None f = absurd (let bad : None ≡ Some k = f in cc)
    by_instr (Some i) f = limit_small i k f

    by : (b : Bool) → (if b then None else option_and_then limit_of (at program (s - 1))) ≡ Some k → is_limit k ≡ true
    by true f = absurd (let bad : None ≡ Some k = f in cc)
    by false f = by_instr (at program (s - 1)) f

-- the limit before a slot is that of the instruction in the slot before
pub limit_is : (program : List (Option Instr)) (s k : ℕ) (i : Instr) → at program s ≡ Some i → limit_before program (s + 1) ≡ Some k → limit_of i ≡ Some k
unfolding limit_before
limit_is program s k i e f =
    let some : (s + 1 == 0) ≡ false = grind (arith, nat_tests) in
    let back : s + 1 - 1 ≡ s = omega arith in
    let g : option_and_then limit_of (at program s) ≡ Some k = rw (some, back) at f in
    ap (λ (o : Option Instr). option_and_then limit_of o) (sym e) ∙ g

-- no limit is set in a second half
pub no_limit : (program : List (Option Instr)) (s k dst v : ℕ) → IsProgram program → at program s ≡ Some (instr.LoadImmediate dst v) → limit_before program (s + 2) ≡ Some k → ⊥
unfolding limit_before
no_limit program s k dst v is e f =
    let some : (s + 2 == 0) ≡ false = grind (arith, nat_tests) in
    let back : s + 2 - 1 ≡ s + 1 = omega arith in
    let g : option_and_then limit_of (at program (s + 1)) ≡ Some k = rw (some, back) at f in
    let none : at program (s + 1) ≡ None = half_at program s dst v is e in
    let bad : None ≡ Some k = ap (λ (o : Option Instr). option_and_then limit_of o) (sym none) ∙ g in
    cc

-- what stands before a call of `again`
pub record Before (program : List (Option Instr)) (s : ℕ) : Type 0 where
  pub number : ℕ
  pub is : limit_before program s ≡ Some number
  pub free : is_target program s ≡ false

some_number : (o : Option ℕ) → is_some o ≡ true → (k : ℕ) × (o ≡ Some k)
some_number None e = absurd (let bad : false ≡ true = e in cc)
some_number (Some k) e = (k, refl)

pub before_again : (program : List (Option Instr)) (s : ℕ) → IsShaped true program → calls_again program s ≡ true → Before program s
unfolding Breaks keeps has_form
before_again program s shaped calls =
    let kept = holds_true (if calls_again program s then has_form program s else true) (shaped.again s) in
    let form : has_form program s ≡ true = ap (λ (b : Bool). if b then has_form program s else true) (sym calls) ∙ kept in
    let one = and_parts (is_some (limit_before program s)) (is_equality (answer_test program (s + 1)) && (not (is_target program s) && not (is_target program (s + 1)))) form in
    let two = and_parts (is_equality (answer_test program (s + 1))) (not (is_target program s) && not (is_target program (s + 1))) one.1 in
    let three = and_parts (not (is_target program s)) (not (is_target program (s + 1))) two.1 in
    let limit = some_number (limit_before program s) one.0 in
    record { number = limit.0; is = limit.1; free = not_unset (is_target program s) three.0 }

or_left : (a b : Bool) → a ≡ true → (a || b) ≡ true
or_left a b e = rw e refl

or_right : (a b : Bool) → b ≡ true → (a || b) ≡ true
or_right true b e = refl
or_right false b e = e

itself : (t : ℕ) → (t == t) ≡ true
itself t = grind (arith, nat_tests)

inside : (program : List (Option Instr)) (s : ℕ) (i : Instr) → at program s ≡ Some i → s < length program
inside program s i e = elim (cases_lt s (length program)) [
  | inl less ↦ less
  | inr past ↦ absurd (let bad : None ≡ Some i = sym (at_past program s past) ∙ e in cc)
]

-- a jump leads to no call of `again`
pub target_marked : (program : List (Option Instr)) (s t : ℕ) (i : Instr) → at program s ≡ Some i → (edges_of s i).target ≡ Some t → is_target program t ≡ true
unfolding is_target
target_marked program s t i e h =
    any_at (aims_at program t) (length program) s (inside program s i e)
    (or_left (is_slot t (control program s).target) (is_slot t (callee program s))
    (ap (λ (x : Edges). is_slot t x.target) (control_is program s i e) ∙ ap (is_slot t) h ∙ itself t))

pub no_target : (program : List (Option Instr)) (s t : ℕ) (i : Instr) → IsShaped true program → at program s ≡ Some i → (edges_of s i).target ≡ Some t → calls_again program t ≡ true → ⊥
no_target program s t i shaped e h calls =
    let bad : true ≡ false = sym (target_marked program s t i e h) ∙ (before_again program t shaped calls).free in
    cc

-- local calls

-- the instruction of a local call
pub record CallsLocal (program : List (Option Instr)) (s t : ℕ) : Type 0 where
  pub distance : ℤ
  pub there : at program s ≡ Some (instr.CallLocal distance)
  pub leads : target_slot s distance ≡ t

pub callee_there : (program : List (Option Instr)) (s t : ℕ) → callee program s ≡ Some t → CallsLocal program s t
unfolding callee callee_of
callee_there program s t e = by_slot (at program s) refl e
  where
    by_instr : (i : Instr) → at program s ≡ Some i → callee_of s i ≡ Some t → CallsLocal program s t
    by_instr (instr.CallLocal distance) is f =
        let there : Some (target_slot s distance) ≡ Some t = f in
        let same : target_slot s distance ≡ t = cc in
        record { distance = distance; there = is; leads = same }
    by_instr _ is f = absurd (let bad : None ≡ Some t = f in cc)

    by_slot : (o : Option Instr) → at program s ≡ o → option_and_then (callee_of s) o ≡ Some t → CallsLocal program s t
    by_slot None is f = absurd (let bad : None ≡ Some t = f in cc)
    by_slot (Some i) is f = by_instr i is f

pub callee_is : (program : List (Option Instr)) (s : ℕ) (distance : ℤ) → at program s ≡ Some (instr.CallLocal distance) → callee program s ≡ Some (target_slot s distance)
unfolding callee callee_of
callee_is program s distance e = ap (λ (o : Option Instr). option_and_then (callee_of s) o) e

-- control goes on after it
pub after_call : (program : List (Option Instr)) (s t : ℕ) → callee program s ≡ Some t → Leads (control program s) (s + 1)
unfolding edges_of
after_call program s t e =
    let call = callee_there program s t e in
    leads_at program s (s + 1) (instr.CallLocal call.distance) call.there (inl refl)

-- its entry is an instruction, and no call of `again`
pub entry_begins : (program : List (Option Instr)) (s t : ℕ) → IsShaped true program → callee program s ≡ Some t → is_some (at program t) ≡ true
unfolding Breaks keeps
entry_begins program s t shaped e =
    let kept = holds_true (option_map_or (begins program) (control program s).target true && option_map_or (begins program) (callee program s) true) (shaped.targets s) in
    let parts = and_parts (option_map_or (begins program) (control program s).target true) (option_map_or (begins program) (callee program s) true) kept in
    ap (λ (o : Option ℕ). option_map_or (begins program) o true) (sym e) ∙ parts.1

callee_marked : (program : List (Option Instr)) (s t : ℕ) → callee program s ≡ Some t → is_target program t ≡ true
unfolding is_target
callee_marked program s t e =
    let call = callee_there program s t e in
    any_at (aims_at program t) (length program) s (inside program s (instr.CallLocal call.distance) call.there)
    (or_right (is_slot t (control program s).target) (is_slot t (callee program s)) (ap (is_slot t) e ∙ itself t))

pub no_entry : (program : List (Option Instr)) (s t : ℕ) → IsShaped true program → callee program s ≡ Some t → calls_again program t ≡ true → ⊥
no_entry program s t shaped e calls =
    let bad : true ≡ false = sym (callee_marked program s t e) ∙ (before_again program t shaped calls).free in
    cc

-- after it no limit is set
pub no_limit_after : (program : List (Option Instr)) (s t k : ℕ) → callee program s ≡ Some t → limit_before program (s + 1) ≡ Some k → ⊥
unfolding limit_of
no_limit_after program s t k e is =
    let call = callee_there program s t e in
    let bad : None ≡ Some k = limit_is program s k (instr.CallLocal call.distance) call.there is in
    cc
