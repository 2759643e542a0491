-- A step, by the form of its instruction.
use Rattle.std.proofs.Common.{◌≡◌, ℕ, ◌+◌, ◌==◌, ◌&&◌, nat_le, Bool, true, false, if◌then◌else◌, ℤ, List, [], ◌∷◌, ◌++◌, length, map, get_or, Option, None, Some, is_some, refl, sym, ap, ◌∙◌, inl, inr, ◌⊎◌, arith}
use Rattle.std.specs.Prelude.{set, unwrap_or}
use Rattle.std.specs.Option.{option_map_or, option_or}
use Rattle.std.specs.Int.{cast_unsigned, w32, w64}
use Rattle.std.proofs.lemmas.List.{get_or-set_same}
use Rattle.std.proofs.lemmas.Bool.Decides.{nat_tests}
use Rattle.base.specs.Check.{Check, check, first_failing}
use Rattle.base.specs.declared.causes.MachineFault.{MachineFault}
use Rattle.base.specs.declared.causes.VerifierCause.TheVariants as cause
use Rattle.base.specs.declared.causes.MachineFault.TheVariants as fault
use Rattle.bpf_isa.specs.declared.instr.Instr.{Instr}
use Rattle.bpf_isa.specs.declared.instr.Instr.TheVariants as instr
use Rattle.bpf_isa.specs.declared.instr.Source.TheVariants as source
use Rattle.bpf_isa.specs.declared.instr.Width.TheVariants as width
use Rattle.bpf_isa.specs.declared.instr.Operator.TheVariants as op
use Rattle.bpf_isa.specs.Spelling.{IsInRange}
use Rattle.helpers.specs.declared.device.Context.{Context}
use Rattle.helpers.specs.declared.helper.Helper.{Helper}
use Rattle.helpers.specs.declared.helper.Helper.TheVariants as helper
use Rattle.helpers.specs.Helper.{helper_of, summing_of}
use Rattle.machine.specs.Arithmetic.{arithmetic, operator_value}
use Rattle.machine.specs.State.{State, register, word}
use Rattle.machine.specs.Memory.{context_bytes, byte_at}
use Rattle.machine.specs.declared.ByteAt.{ByteAt}
use Rattle.machine.specs.Step as step
use Rattle.bpf_isa.specs.Slots.{at, target_slot}
use Rattle.machine.specs.Step.{checks, effect, step_of, after_checks, Next, Done, Fault, call_checks, call_effect, is_limit}
use Rattle.bpf_shape.specs.Edges.{edges_of}
use Rattle.bpf_shape.specs.Again.{limit_of}
use Rattle.bpf_shape.specs.Paths.{Leads}
use Rattle.bpf_shape.specs.Rules.{IsShaped}
use Rattle.ranges.specs.States.{Abstract, round_state}
use Rattle.ranges.specs.Order.{Each, IsState, StateUnder}
use Rattle.ranges.specs.Rules.{rules, call_rules, rules_with}
use Rattle.ranges.specs.After.{call_after, after_answer, after_with}
use Rattle.ranges.specs.Reading.{any_word}
use Rattle.ranges.specs.Kinds.{Num}
use Rattle.ranges.specs.Passing.{passes, passed_state, passed_with, edge_with}
use Rattle.ranges.proofs.Covering.{state_round}
use Rattle.verifier.specs.Tables.{arrival}
use Rattle.soundness.specs.Machines.{IsSetting, HasLimit}
use Rattle.soundness.specs.Laws.{IsSent, Arrives}
use Rattle.soundness.proofs.Standing.{Parts, machine, all_frames, Goes}
use Rattle.soundness.proofs.Computing.{Site, arithmetic_goes, negate_goes, extend_goes, order_goes, immediate_goes}
use Rattle.soundness.proofs.Loads.{load_goes, signed_load_goes}
use Rattle.soundness.proofs.Stores.{store_goes, store_immediate_goes}
use Rattle.soundness.proofs.Branches.{branch_goes, jump_goes}
use Rattle.soundness.proofs.Calls.{helper_goes}
use Rattle.soundness.proofs.Programs.{free_at, begins_at, calls_at, limit_taken, before_again}

-- the argument of `again`
pub limit_here : (program : List (Option Instr)) (m : Parts) (number : ℤ) → IsShaped true program → at program m.slot ≡ Some (instr.CallHelper number)
    → HasLimit program (machine m) → helper_of (cast_unsigned w32 number) ≡ Some helper.Again → is_limit (word (machine m) 1) ≡ true
limit_here program m number shaped e limit is =
    let calls = calls_at program m.slot number e is in
    let before = before_again program m.slot shaped calls in
    let has : get_or m.registers 1 None ≡ Some before.number = limit before.number calls before.is in
    ap (λ (c : Option ℕ). is_limit (unwrap_or c 0)) has ∙ limit_taken program m.slot before.number before.is

call_goes : (program : List (Option Instr)) (sectors : ℕ) (device : List (List ℕ)) (context : Context) (known : Abstract) (m : Parts) (number : ℤ)
    → IsSetting program sectors device context → Site sectors known m → at program m.slot ≡ Some (instr.CallHelper number) → HasLimit program (machine m)
    → first_failing (rules known (instr.CallHelper number)) ≡ None
    → Goes sectors m (passes sectors known m.slot (instr.CallHelper number)) (step_of program (context_bytes context) device (machine m) (instr.CallHelper number))
unfolding rules_with passed_with after_with step_of checks effect edges_of
call_goes program sectors device context known m number set site e limit keeps =
    by (helper_of (cast_unsigned w32 number)) (summing_of (cast_unsigned w32 number)) refl keeps
  where
    bytes : ℕ → ByteAt
    bytes = byte_at (context_bytes context) device (all_frames m)

    by : (h other : Option Helper) → helper_of (cast_unsigned w32 number) ≡ h → first_failing (option_map_or (call_rules false known) h (check cause.UnknownHelper false ∷ [])) ≡ None
        → Goes sectors m ((m.slot + 1, option_map_or (call_after known) (option_or h other) (after_answer known (Num any_word))) ∷ [])
        (after_checks (machine m) (option_map_or (call_checks program bytes (machine m)) h (check fault.UnknownHelper false ∷ []))
        (option_map_or (call_effect device (machine m)) h (Next (machine m))))
    by None other f k = absurd (let bad : Some cause.UnknownHelper ≡ None = k in cc)
    by (Some h) other f k =
        helper_goes program sectors device context known m h set site (begins_at program m.slot (m.slot + 1) (instr.CallHelper number) set.shaped e (inl refl))
        (λ again. limit_here program m number set.shaped e limit (f ∙ ap (λ x. Some x) again)) k

jump_step : (program : List (Option Instr)) (context : List ℕ) (device : List (List ℕ)) (sectors : ℕ) (known : Abstract) (m : Parts) (distance : ℤ) → Site sectors known m
    → is_some (at program (target_slot m.slot distance)) ≡ true
    → Goes sectors m (passes sectors known m.slot (instr.Jump distance)) (step_of program context device (machine m) (instr.Jump distance))
unfolding passed_with step_of checks effect
jump_step program context device sectors known m distance site begins = jump_goes program sectors known m (target_slot m.slot distance) site begins

long_jump_step : (program : List (Option Instr)) (context : List ℕ) (device : List (List ℕ)) (sectors : ℕ) (known : Abstract) (m : Parts) (distance : ℤ) → Site sectors known m
    → is_some (at program (target_slot m.slot distance)) ≡ true
    → Goes sectors m (passes sectors known m.slot (instr.LongJump distance)) (step_of program context device (machine m) (instr.LongJump distance))
unfolding passed_with step_of checks effect
long_jump_step program context device sectors known m distance site begins = jump_goes program sectors known m (target_slot m.slot distance) site begins

-- an instruction that stays in its frame
abbrev pub stays : Instr → Bool
stays (instr.CallLocal distance) = false
stays instr.Exit = false
stays _ = true

-- each form that does
pub instr_goes : (program : List (Option Instr)) (sectors : ℕ) (device : List (List ℕ)) (context : Context) (known : Abstract) (m : Parts) (i : Instr)
    → IsSetting program sectors device context → Site sectors known m → at program m.slot ≡ Some i → IsInRange i → HasLimit program (machine m)
    → first_failing (rules known i) ≡ None → stays i ≡ true
    → Goes sectors m (passes sectors known m.slot i) (step_of program (context_bytes context) device (machine m) i)
unfolding IsInRange edges_of
instr_goes program sectors device context known m (instr.Arithmetic w o dst from) set site e range limit keeps inside =
    arithmetic_goes program (context_bytes context) device sectors known m w o dst from site range.1 (free_at program m.slot (instr.Arithmetic w o dst from) set.shaped e)
    (begins_at program m.slot (m.slot + 1) (instr.Arithmetic w o dst from) set.shaped e (inl refl)) keeps
instr_goes program sectors device context known m (instr.Negate w dst) set site e range limit keeps inside =
    negate_goes program (context_bytes context) device sectors known m w dst site (free_at program m.slot (instr.Negate w dst) set.shaped e)
    (begins_at program m.slot (m.slot + 1) (instr.Negate w dst) set.shaped e (inl refl)) keeps
instr_goes program sectors device context known m (instr.SignExtend x dst src) set site e range limit keeps inside =
    extend_goes program (context_bytes context) device sectors known m x dst src site (free_at program m.slot (instr.SignExtend x dst src) set.shaped e)
    (begins_at program m.slot (m.slot + 1) (instr.SignExtend x dst src) set.shaped e (inl refl)) keeps
instr_goes program sectors device context known m (instr.ByteOrder o size dst) set site e range limit keeps inside =
    order_goes program (context_bytes context) device sectors known m o size dst site (free_at program m.slot (instr.ByteOrder o size dst) set.shaped e)
    (begins_at program m.slot (m.slot + 1) (instr.ByteOrder o size dst) set.shaped e (inl refl)) keeps
instr_goes program sectors device context known m (instr.Jump distance) set site e range limit keeps inside =
    jump_step program (context_bytes context) device sectors known m distance site (begins_at program m.slot (target_slot m.slot distance) (instr.Jump distance) set.shaped e (inr refl))
instr_goes program sectors device context known m (instr.LongJump distance) set site e range limit keeps inside =
    long_jump_step program (context_bytes context) device sectors known m distance site (begins_at program m.slot (target_slot m.slot distance) (instr.LongJump distance) set.shaped e (inr refl))
instr_goes program sectors device context known m (instr.Branch w c dst from distance) set site e range limit keeps inside =
    branch_goes program (context_bytes context) device sectors known m w c dst from distance site range.1
    (begins_at program m.slot (m.slot + 1) (instr.Branch w c dst from distance) set.shaped e (inl refl))
    (begins_at program m.slot (target_slot m.slot distance) (instr.Branch w c dst from distance) set.shaped e (inr refl)) keeps
instr_goes program sectors device context known m (instr.CallHelper number) set site e range limit keeps inside = call_goes program sectors device context known m number set site e limit keeps
instr_goes program sectors device context known m (instr.CallLocal distance) set site e range limit keeps inside = absurd (let bad : false ≡ true = inside in cc)
instr_goes program sectors device context known m instr.Exit set site e range limit keeps inside = absurd (let bad : false ≡ true = inside in cc)
instr_goes program sectors device context known m (instr.Load size dst base distance) set site e range limit keeps inside =
    load_goes program sectors device context known m size dst base distance set site range.2 (free_at program m.slot (instr.Load size dst base distance) set.shaped e)
    (begins_at program m.slot (m.slot + 1) (instr.Load size dst base distance) set.shaped e (inl refl)) keeps
instr_goes program sectors device context known m (instr.LoadSigned size dst base distance) set site e range limit keeps inside =
    signed_load_goes program sectors device context known m size dst base distance set site range.2 (free_at program m.slot (instr.LoadSigned size dst base distance) set.shaped e)
    (begins_at program m.slot (m.slot + 1) (instr.LoadSigned size dst base distance) set.shaped e (inl refl)) keeps
instr_goes program sectors device context known m (instr.StoreImmediate size base distance z) set site e range limit keeps inside =
    store_immediate_goes program (context_bytes context) device sectors known m size base distance z site range.1 range.2
    (begins_at program m.slot (m.slot + 1) (instr.StoreImmediate size base distance z) set.shaped e (inl refl)) keeps
instr_goes program sectors device context known m (instr.Store size base distance src) set site e range limit keeps inside =
    store_goes program (context_bytes context) device sectors known m size base distance src site range.1
    (begins_at program m.slot (m.slot + 1) (instr.Store size base distance src) set.shaped e (inl refl)) keeps
instr_goes program sectors device context known m (instr.LoadImmediate dst x) set site e range limit keeps inside =
    immediate_goes program (context_bytes context) device sectors known m dst x site range.1 (free_at program m.slot (instr.LoadImmediate dst x) set.shaped e)
    (begins_at program m.slot (m.slot + 2) (instr.LoadImmediate dst x) set.shaped e (inl refl))

-- what arrives does so along an edge

sent_slot : (sectors slot : ℕ) (passed : Option Abstract) (t : State) → Arrives sectors (passed_state slot passed) t → t.slot ≡ slot
sent_slot sectors slot None t a = absurd a
sent_slot sectors slot (Some s) t (inl h) = sym h.0
sent_slot sectors slot (Some s) t (inr h) = absurd h

arrives_of : (sectors : ℕ) (xs ys : List (ℕ × Abstract)) (t : State) → Arrives sectors (xs ++ ys) t → Arrives sectors xs t ⊎ Arrives sectors ys t
arrives_of sectors [] ys t a = inr a
arrives_of sectors (x ∷ xs) ys t (inl h) = inl (inl h)
arrives_of sectors (x ∷ xs) ys t (inr h) = elim (arrives_of sectors xs ys t h) [ inl a ↦ inl (inr a) | inr a ↦ inr a ]

pub one_slot : (sectors slot : ℕ) (s : Abstract) (t : State) → Arrives sectors ((slot, s) ∷ []) t → t.slot ≡ slot
one_slot sectors slot s t (inl h) = sym h.0
one_slot sectors slot s t (inr h) = absurd h

pub next_leads : (e : Option ℕ) (a b : ℕ) → b ≡ a → (Some a ≡ Some b) ⊎ (e ≡ Some b)
next_leads e a b h = inl (ap (λ (n : ℕ). Some n) (sym h))

pub target_leads : (e : Option ℕ) (a b : ℕ) → b ≡ a → (e ≡ Some b) ⊎ (Some a ≡ Some b)
target_leads e a b h = inr (ap (λ (n : ℕ). Some n) (sym h))

pub arrives_edge : (loose : Bool) (sectors : ℕ) (known : Abstract) (slot : ℕ) (i : Instr) (t : State) → stays i ≡ true → Arrives sectors (passed_with loose sectors known slot i) t → Leads (edges_of slot i) t.slot
unfolding passed_with edges_of
arrives_edge loose sectors known slot instr.Exit t inside a = absurd a
arrives_edge loose sectors known slot (instr.CallLocal distance) t inside a = absurd (let bad : false ≡ true = inside in cc)
arrives_edge loose sectors known slot (instr.Jump distance) t inside a = target_leads None (target_slot slot distance) t.slot (one_slot sectors (target_slot slot distance) known t a)
arrives_edge loose sectors known slot (instr.LongJump distance) t inside a = target_leads None (target_slot slot distance) t.slot (one_slot sectors (target_slot slot distance) known t a)
arrives_edge loose sectors known slot (instr.Branch w c dst from distance) t inside a =
    elim (arrives_of sectors (passed_state (slot + 1) (edge_with loose known (instr.Branch w c dst from distance) false)) (passed_state (target_slot slot distance) (edge_with loose known (instr.Branch w c dst from distance) true)) t a) [
      | inl left ↦ next_leads (Some (target_slot slot distance)) (slot + 1) t.slot (sent_slot sectors (slot + 1) (edge_with loose known (instr.Branch w c dst from distance) false) t left)
      | inr right ↦ target_leads (Some (slot + 1)) (target_slot slot distance) t.slot (sent_slot sectors (target_slot slot distance) (edge_with loose known (instr.Branch w c dst from distance) true) t right)
    ]
arrives_edge loose sectors known slot (instr.LoadImmediate dst x) t inside a =
    next_leads None (slot + 2) t.slot (sent_slot sectors (slot + 2) (after_with loose sectors known (instr.LoadImmediate dst x)) t a)
arrives_edge loose sectors known slot i t inside a = next_leads None (slot + 1) t.slot (sent_slot sectors (slot + 1) (after_with loose sectors known i) t a)

-- the limit of `again` is set before it

move_is : (a b : ℕ) → arithmetic width.W64 op.Mov a b ≡ b
unfolding arithmetic operator_value
move_is a b = refl

next_same : (s t : State) → Next s ≡ Next t → s ≡ t
next_same s t e = cc

pub limit_set : (program : List (Option Instr)) (context : List ℕ) (device : List (List ℕ)) (m : Parts) (i : Instr) (k : ℕ) (t : State) → length m.registers ≡ 11
    → limit_of i ≡ Some k → step_of program context device (machine m) i ≡ Next t → register t 1 ≡ Some k
unfolding limit_of step_of effect
limit_set program context device m (instr.Arithmetic width.W64 op.Mov dst (source.Immediate n)) k t long e stepped =
    by ((dst == 1) && (nat_le 1 (cast_unsigned w64 n) && nat_le (cast_unsigned w64 n) 1048576)) refl e
  where
    list : List (Check MachineFault)
    list = checks program (step.memory context device (machine m)) (machine m) (instr.Arithmetic width.W64 op.Mov dst (source.Immediate n))

    x : ℕ
    x = arithmetic width.W64 op.Mov (word (machine m) dst) (cast_unsigned w64 n)

    came : (f : Option MachineFault) → option_map_or (λ cause. Fault cause m.slot) f (step.set_and_go 1 (machine m) dst x) ≡ Next t → step.set_and_go 1 (machine m) dst x ≡ Next t
    came None h = h
    came (Some c) h = absurd (let bad : Fault c m.slot ≡ Next t = h in cc)

    first : (a b : Bool) → (a && b) ≡ true → a ≡ true
    first true b f = refl
    first false b f = absurd (let bad : false ≡ true = f in cc)

    by : (b : Bool) → ((dst == 1) && (nat_le 1 (cast_unsigned w64 n) && nat_le (cast_unsigned w64 n) 1048576)) ≡ b
        → (if b then Some (cast_unsigned w64 n) else None) ≡ Some k → register t 1 ≡ Some k
    by true f g =
        let one = first (dst == 1) (nat_le 1 (cast_unsigned w64 n) && nat_le (cast_unsigned w64 n) 1048576) f in
        let is : dst ≡ 1 = grind (arith, nat_tests) in
        let next : step.set_and_go 1 (machine m) dst x ≡ Next t = came (first_failing list) stepped in
        let to : State = record { slot = m.slot + 1; registers = set m.registers dst (Some x); frames = all_frames m; turns = m.turns; codes = m.codes } in
        let same : Next to ≡ Next t = next in
        let there : to ≡ t = next_same to t same in
        ap (λ (s : State). register s 1) (sym there) ∙ ap (λ (d : ℕ). get_or (set m.registers d (Some x)) 1 None) is
        ∙ get_or-set_same m.registers 1 (Some x) None (omega (arith, long)) ∙ ap (λ (v : ℕ). Some v) (move_is (word (machine m) dst) (cast_unsigned w64 n)) ∙ g
    by false f g = absurd (let bad : None ≡ Some k = g in cc)
limit_set program context device m i k t long e stepped = absurd (let bad : None ≡ Some k = e in cc)

-- states that arrive, rounded

pub sent_rounded : (holds : Abstract → Type 0) (heads : List Bool) (xs : List (ℕ × Abstract)) (slot : ℕ) → ((k l : Abstract) → StateUnder k l → holds k → holds l)
    → Each (λ (p : ℕ × Abstract). IsState p.1) xs → IsSent holds slot xs → IsSent holds slot (map (arrival heads) xs)
sent_rounded holds heads [] slot more fits a = absurd a
sent_rounded holds heads (p ∷ xs) slot more fits (inl h) = inl (h.0, by (get_or heads p.0 false))
  where
    by : (b : Bool) → holds (if b then round_state p.1 else p.1)
    by true = more p.1 (round_state p.1) (state_round p.1 fits.0) h.1
    by false = h.1
sent_rounded holds heads (p ∷ xs) slot more fits (inr h) = inr (sent_rounded holds heads xs slot more fits.1 h)
