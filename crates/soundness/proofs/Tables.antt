-- A step over a table, and the machines that are reached.
use Rattle.std.proofs.Common.{◌≡◌, ◌<◌, ◌≤◌, ℕ, zero, suc, ◌+◌, ◌^◌, Bool, true, false, if◌then◌else◌, ℤ, List, [], ◌∷◌, ◌++◌, length, map, get_or, Option, None, Some, is_some, refl, sym, ap, ◌∙◌, inl, inr, ◌⊎◌, subst, arith}
use Rattle.std.specs.Option.{option_map_or}
use Rattle.std.proofs.Math.ListN.{length-replicate}
use Rattle.base.specs.Sizes.{most_sectors}
use Rattle.base.specs.Check.{first_failing}
use Rattle.base.specs.declared.causes.MachineFault.TheVariants as fault
use Rattle.bpf_isa.specs.declared.instr.Instr.{Instr}
use Rattle.bpf_isa.specs.declared.instr.Instr.TheVariants as instr
use Rattle.bpf_isa.specs.Program.{slots_of, IsProgram}
use Rattle.helpers.specs.declared.device.Context.{Context}
use Rattle.machine.specs.State.{Frame, State, register, start, unset_stack, no_turns, context_start, frame_end}
use Rattle.machine.specs.Memory.{context_bytes}
use Rattle.bpf_isa.specs.Slots.{at}
use Rattle.machine.specs.Step.{step_of, step, Stepped, Next, Done, Fault}
use Rattle.bpf_shape.specs.Edges.{edges_of, control}
use Rattle.bpf_shape.specs.Again.{limit_of, limit_before, heads}
use Rattle.bpf_shape.specs.Paths.{Leads, Reaches}
use Rattle.bpf_shape.proofs.Kept.{edges_begin}
use Rattle.ranges.proofs.GuardedPasses.{passed_with_fits}
use Rattle.ranges.specs.States as states
use Rattle.ranges.specs.States.{Abstract, round_state}
use Rattle.ranges.specs.Order.{Each, Holds, IsState, StateUnder}
use Rattle.ranges.specs.Reading.{value}
use Rattle.ranges.specs.Rules.{rules}
use Rattle.ranges.specs.Passing.{passes, passed_with}
use Rattle.ranges.proofs.Covering.{state_under}
use Rattle.ranges.proofs.Fitting.{round_state_fits, start_fits}
use Rattle.verifier.specs.Tables as tables
use Rattle.verifier.specs.Tables.{state_at, CoversAll, AreStates, arrival, broken_with, passed_on_with, rule_with, sent_with, rule_at, sent_from, is_loose, passes_with}
use Rattle.verifier.specs.Good.{IsGood}
use Rattle.soundness.specs.Meaning.{Means, CoversFrame, Covers, frame_number, last_stack}
use Rattle.soundness.specs.Machines.{IsSetting, IsStack, IsMachine, HasLimit}
use Rattle.soundness.specs.Callers.{registers_after, CoversWaiting, Waits, AreWaiting}
use Rattle.soundness.specs.Reaching.{Reached}
use Rattle.soundness.specs.Laws.{IsSent, GoesOn, Enters, IsCovered, IsKnown, StepIsCovered, Follows, IsSafe, StepIsSafe, TableCovers}
use Rattle.soundness.proofs.Meanings.{frame_under, covers_under}
use Rattle.soundness.proofs.Standing.{Parts, machine, all_frames, number_is, last_is, Stays, Goes}
use Rattle.soundness.proofs.Computing.{Site}
use Rattle.soundness.proofs.Programs.{range_at, leads_at, limit_is, no_limit, no_target, entry_begins}
use Rattle.soundness.proofs.Frames.{split_last, length_of, each_last, whole_kept, waiting_kept, waiting_pushed}
use Rattle.soundness.proofs.Locals.{unset_is_stack, unset_means, local_call, exit_covered}
use Rattle.soundness.proofs.Steps.{stays, instr_goes, arrives_edge, limit_set, sent_rounded}

-- before a call of `again` its limit is set

next_slot : (slot t : ℕ) (i : Instr) → (edges_of slot i).next ≡ Some t → (t ≡ slot + 1) ⊎ ((dst : ℕ) × (v : ℕ) × (i ≡ instr.LoadImmediate dst v) × (t ≡ slot + 2))
unfolding edges_of
next_slot slot t (instr.LoadImmediate dst v) e = inr (dst, v, refl, (let there : Some (slot + 2) ≡ Some t = e in let same : slot + 2 ≡ t = cc in sym same))
next_slot slot t instr.Exit e = absurd (let bad : None ≡ Some t = e in cc)
next_slot slot t (instr.Jump distance) e = absurd (let bad : None ≡ Some t = e in cc)
next_slot slot t (instr.LongJump distance) e = absurd (let bad : None ≡ Some t = e in cc)
next_slot slot t _ e = inl (let there : Some (slot + 1) ≡ Some t = e in let same : slot + 1 ≡ t = cc in sym same)

-- what an instruction sets, the state after it has
abbrev pub Sets : Instr → State → Type 0
Sets i t = (k : ℕ) → limit_of i ≡ Some k → register t 1 ≡ Some k

limit_next : (program : List (Option Instr)) (sectors : ℕ) (device : List (List ℕ)) (context : Context) (m : Parts) (i : Instr) (t : State)
    → IsSetting program sectors device context → at program m.slot ≡ Some i → Leads (edges_of m.slot i) t.slot → Sets i t → HasLimit program t
limit_next program sectors device context m i t set e (inr target) sets = λ k calls is. absurd (no_target program m.slot t.slot i set.shaped e target calls)
limit_next program sectors device context m i t set e (inl next) sets = λ k calls is. elim (next_slot m.slot t.slot i next) [
  | inl one ↦
      let there : limit_before program (m.slot + 1) ≡ Some k = ap (λ (s : ℕ). limit_before program s) (sym one) ∙ is in
      sets k (limit_is program m.slot k i e there)
  | inr half ↦
      let there : limit_before program (m.slot + 2) ≡ Some k = ap (λ (s : ℕ). limit_before program s) (sym half.3) ∙ is in
      absurd (no_limit program m.slot k half.0 half.1 set.made (e ∙ ap (λ x. Some x) half.2) there)
]

-- a step at an instruction

-- within a frame
goes_on : (loose : Bool) (program : List (Option Instr)) (sectors : ℕ) (device : List (List ℕ)) (context : Context) (known : Abstract) (m : Parts) (i : Instr) (t : State)
    → IsSetting program sectors device context → Site sectors known m → IsMachine (machine m) → at program m.slot ≡ Some i → stays i ≡ true
    → Sets i t → Stays sectors m.below m.caller (passed_with loose sectors known m.slot i) t
    → GoesOn program sectors (map (arrival (heads program)) (passed_with loose sectors known m.slot i)) (machine m) t
goes_on loose program sectors device context known m i t set site whole e inside sets g =
    let leads = arrives_edge loose sectors known m.slot i t inside g.arrives in
    record {
      whole = whole_kept m t g.stack whole g.words g.frames g.cells g.turns;
      limit = limit_next program sectors device context m i t set e leads sets;
      edge = leads_at program m.slot t.slot i e leads;
      frames = record {
        below = m.below;
        old = record { stack = m.stack; caller = m.caller };
        new = record { stack = g.stack; caller = m.caller };
        had = refl;
        has = g.frames;
        caller = refl;
      };
      arrives = sent_rounded (λ k. Covers sectors k t) (heads program) (passed_with loose sectors known m.slot i) t.slot (λ k l under. covers_under sectors k l t under)
          (passed_with_fits loose sectors m.slot known i (let few = set.few in omega arith) (range_at program m.slot i set.made e) site.fits) g.arrives;
    }

-- any step that goes where the states are passed, and has what the instruction sets
pub made_covered : (loose : Bool) (program : List (Option Instr)) (sectors : ℕ) (device : List (List ℕ)) (context : Context) (table : List (Option Abstract)) (known : Abstract) (m : Parts) (i : Instr) (x : Stepped)
    → IsSetting program sectors device context → Site sectors known m → IsMachine (machine m) → at program m.slot ≡ Some i → stays i ≡ true
    → ((t : State) → x ≡ Next t → Sets i t) → Goes sectors m (passed_with loose sectors known m.slot i) x
    → IsCovered program sectors table (map (arrival (heads program)) (passed_with loose sectors known m.slot i)) (machine m) x
made_covered loose program sectors device context table known m i (Done answer codes) set site whole e inside sets g = absurd g
made_covered loose program sectors device context table known m i (Fault cause slot) set site whole e inside sets g = g
made_covered loose program sectors device context table known m i (Next t) set site whole e inside sets g =
    inl (goes_on loose program sectors device context known m i t set site whole e inside (sets t refl) g)

pub goes_covered : (loose : Bool) (program : List (Option Instr)) (sectors : ℕ) (device : List (List ℕ)) (context : Context) (table : List (Option Abstract)) (known : Abstract) (m : Parts) (i : Instr)
    → IsSetting program sectors device context → Site sectors known m → IsMachine (machine m) → at program m.slot ≡ Some i → stays i ≡ true
    → Goes sectors m (passed_with loose sectors known m.slot i) (step_of program (context_bytes context) device (machine m) i)
    → IsCovered program sectors table (map (arrival (heads program)) (passed_with loose sectors known m.slot i)) (machine m) (step_of program (context_bytes context) device (machine m) i)
goes_covered loose program sectors device context table known m i set site whole e inside goes =
    made_covered loose program sectors device context table known m i (step_of program (context_bytes context) device (machine m) i) set site whole e inside
    (λ t stepped k sets. limit_set program (context_bytes context) device m i k t site.stands.words.long sets stepped) goes

inside_covered : (program : List (Option Instr)) (sectors : ℕ) (device : List (List ℕ)) (context : Context) (table : List (Option Abstract)) (known : Abstract) (m : Parts) (i : Instr)
    → IsSetting program sectors device context → Site sectors known m → IsMachine (machine m) → at program m.slot ≡ Some i → HasLimit program (machine m) → first_failing (rules known i) ≡ None
    → stays i ≡ true
    → IsCovered program sectors table (map (arrival (heads program)) (passes sectors known m.slot i)) (machine m) (step_of program (context_bytes context) device (machine m) i)
inside_covered program sectors device context table known m i set site whole e limit keeps inside =
    goes_covered false program sectors device context table known m i set site whole e inside
    (instr_goes program sectors device context known m i set site e (range_at program m.slot i set.made e) limit keeps inside)

-- into a local function
call_covered : (program : List (Option Instr)) (sectors : ℕ) (device : List (List ℕ)) (context : Context) (table : List (Option Abstract)) (known : Abstract) (m : Parts) (distance : ℤ)
    → IsSetting program sectors device context → Site sectors known m → IsMachine (machine m) → AreWaiting program sectors table 0 0 (all_frames m) m.slot
    → at program m.slot ≡ Some (instr.CallLocal distance)
    → IsCovered program sectors table (map (arrival (heads program)) (passes sectors known m.slot (instr.CallLocal distance))) (machine m)
    (step_of program (context_bytes context) device (machine m) (instr.CallLocal distance))
call_covered program sectors device context table known m distance set site whole waiting e =
    let i : Instr = instr.CallLocal distance in
    let sent = passes sectors known m.slot i in
    let call = local_call program (context_bytes context) device sectors table known m distance set.shaped site e whole waiting in
    let h = call.enters in
    let fits = passed_with_fits false sectors m.slot known i (let few = set.few in omega arith) (range_at program m.slot i set.made e) site.fits in
    let frame : ℕ = frame_number (all_frames m) in
    let stack : List (Option ℕ) = last_stack (all_frames m) in
    let rounded : Enters program sectors (map (arrival (heads program)) sent) (machine m) call.to = record {
      whole = h.whole;
      limit = h.limit;
      calls = h.calls;
      caller = h.caller;
      back = h.back;
      frames = h.frames;
      registers = h.registers;
      arrives = sent_rounded (λ k. Covers sectors k call.to) (heads program) sent call.to.slot (λ k l under. covers_under sectors k l call.to under) fits h.arrives;
      waits = sent_rounded (λ k. CoversWaiting sectors frame k stack h.caller) (heads program) sent h.caller.slot
          (λ k l under c x lt. frame_under sectors frame k l (registers_after h.caller x) stack under (c x lt)) fits h.waits;
    } in
    subst (IsCovered program sectors table (map (arrival (heads program)) sent) (machine m)) (sym call.is) (inr (inl rounded))

-- an instruction stays in its frame, or it is a local call or the end of a function
kind_of : (i : Instr) → (stays i ≡ true) ⊎ (((distance : ℤ) × (i ≡ instr.CallLocal distance)) ⊎ (i ≡ instr.Exit))
kind_of (instr.CallLocal distance) = inr (inl (distance, refl))
kind_of instr.Exit = inr (inr refl)
kind_of _ = inl refl

pub at_instr : (program : List (Option Instr)) (sectors : ℕ) (device : List (List ℕ)) (context : Context) (table : List (Option Abstract)) (known : Abstract) (m : Parts) (i : Instr)
    → IsSetting program sectors device context → Site sectors known m → IsMachine (machine m) → AreWaiting program sectors table 0 0 (all_frames m) m.slot
    → at program m.slot ≡ Some i → HasLimit program (machine m) → first_failing (rules known i) ≡ None
    → IsCovered program sectors table (map (arrival (heads program)) (passes sectors known m.slot i)) (machine m) (step_of program (context_bytes context) device (machine m) i)
at_instr program sectors device context table known m i set site whole waiting e limit keeps = by i (kind_of i) e keeps
  where
    by : (j : Instr) → (stays j ≡ true) ⊎ (((distance : ℤ) × (j ≡ instr.CallLocal distance)) ⊎ (j ≡ instr.Exit)) → at program m.slot ≡ Some j → first_failing (rules known j) ≡ None
        → IsCovered program sectors table (map (arrival (heads program)) (passes sectors known m.slot j)) (machine m) (step_of program (context_bytes context) device (machine m) j)
    by j (inl inside) f k = inside_covered program sectors device context table known m j set site whole f limit k inside
    by j (inr (inl call)) f k =
        subst (λ (q : Instr). IsCovered program sectors table (map (arrival (heads program)) (passes sectors known m.slot q)) (machine m) (step_of program (context_bytes context) device (machine m) q))
        (sym call.1) (call_covered program sectors device context table known m call.0 set site whole waiting (f ∙ ap (λ (q : Instr). Some q) call.1))
    by j (inr (inr exit)) f k =
        let keeps_exit : first_failing (rules known instr.Exit) ≡ None = subst (λ (q : Instr). first_failing (rules known q) ≡ None) exit k in
        subst (λ (q : Instr). IsCovered program sectors table (map (arrival (heads program)) (passes sectors known m.slot q)) (machine m) (step_of program (context_bytes context) device (machine m) q))
        (sym exit)
        (exit_covered program (context_bytes context) device sectors table known m (map (arrival (heads program)) (passes sectors known m.slot instr.Exit)) set.shaped site whole waiting keeps_exit)

pub found_instr : (o : Option Instr) → is_some o ≡ true → (i : Instr) × (o ≡ Some i)
found_instr None e = absurd (let bad : false ≡ true = e in cc)
found_instr (Some i) e = (i, refl)

pub listed_fits : (o : Option Abstract) (known : Abstract) → Holds IsState o → o ≡ Some known → IsState known
listed_fits None known h e = absurd (let bad : None ≡ Some known = e in cc)
listed_fits (Some s) known h e = let same : s ≡ known = cc in subst IsState same h

rule_is : (program : List (Option Instr)) (table : List (Option Abstract)) (slot : ℕ) (i : Instr) (known : Abstract) → at program slot ≡ Some i → state_at table slot ≡ Some known
    → rule_at program table slot ≡ None → first_failing (rules known i) ≡ None
unfolding rule_with
rule_is program table slot i known e f keeps =
    ap (λ o. broken_with false o (Some known)) (sym e) ∙ ap (λ o. broken_with false (at program slot) o) (sym f) ∙ keeps

sent_is : (program : List (Option Instr)) (sectors : ℕ) (table : List (Option Abstract)) (slot : ℕ) (i : Instr) (known : Abstract) → at program slot ≡ Some i → state_at table slot ≡ Some known
    → sent_from program sectors table slot ≡ map (arrival (heads program)) (passes sectors known slot i)
unfolding sent_with
sent_is program sectors table slot i known e f =
    ap (λ o. passed_on_with false (heads program) sectors slot o (state_at table slot)) e ∙ ap (λ o. passed_on_with false (heads program) sectors slot (Some i) o) f

pub step_covered : StepIsCovered
step_covered program sectors device context table s set fit known keeps =
    let found = found_instr (at program s.slot) known.here in
    let i : Instr = found.0 in
    let split = split_last s.frames known.whole.some in
    let f : Frame = split.last in
    let m : Parts = record { slot = s.slot; registers = s.registers; below = split.below; caller = f.caller; stack = f.stack; turns = s.turns; codes = s.codes } in
    let same : s ≡ machine m = λ d. record { slot = s.slot; registers = s.registers; frames = split.is d; turns = s.turns; codes = s.codes } in
    let covers : CoversFrame sectors (frame_number (all_frames m)) known.known s.registers (last_stack (all_frames m)) = subst (λ (u : State). Covers sectors known.known u) same known.covers in
    let here : CoversFrame sectors (length split.below) known.known s.registers f.stack = rw (number_is split.below f, last_is split.below f) at covers in
    let whole : IsMachine (machine m) = subst IsMachine same known.whole in
    let waiting : AreWaiting program sectors table 0 0 (all_frames m) s.slot = subst (λ (fs : List Frame). AreWaiting program sectors table 0 0 fs s.slot) split.is known.waiting in
    let limit : HasLimit program (machine m) = known.limit in
    let long = length_of split.below f in
    let most = whole.most in
    let site : Site sectors known.known m = record {
      few = record { device = set.few; frames = omega (arith, long, most) };
      fits = listed_fits (state_at table s.slot) known.known (fit s.slot) known.listed;
      stands = record { words = whole.registers; cells = each_last (λ x. IsStack x.stack) split.below f whole.stacks; values = here.registers; groups = here.groups };
      turns = whole.turns;
    } in
    let there = at_instr program sectors device context table known.known m i set site whole waiting found.1 limit (rule_is program table s.slot i known.known found.1 known.listed keeps) in
    let listed : IsCovered program sectors table (sent_from program sectors table s.slot) (machine m) (step_of program (context_bytes context) device (machine m) i) =
    subst (λ (xs : List (ℕ × Abstract)). IsCovered program sectors table xs (machine m) (step_of program (context_bytes context) device (machine m) i))
    (sym (sent_is program sectors table s.slot i known.known found.1 known.listed)) there in
    let stepped : IsCovered program sectors table (sent_from program sectors table s.slot) (machine m) (step program (context_bytes context) device (machine m)) =
    subst (λ (o : Option Instr). IsCovered program sectors table (sent_from program sectors table s.slot) (machine m)
    (option_map_or (step_of program (context_bytes context) device (machine m)) o (Fault fault.NoInstruction s.slot))) (sym found.1) listed in
    subst (λ (u : State). IsCovered program sectors table (sent_from program sectors table s.slot) u (step program (context_bytes context) device u)) (sym same) stepped

-- where states arrive the table knows more

pub record Lookup (holds : Abstract → Type 0) (table : List (Option Abstract)) (slot : ℕ) : Type 0 where
  pub known : Abstract
  pub listed : state_at table slot ≡ Some known
  pub there : holds known

look_up : (holds : Abstract → Type 0) (table : List (Option Abstract)) (xs : List (ℕ × Abstract)) (slot : ℕ) → ((k l : Abstract) → StateUnder k l → holds k → holds l) → AreStates table
    → Each (λ (p : ℕ × Abstract). IsState p.1) xs → CoversAll table xs → IsSent holds slot xs → Lookup holds table slot
look_up holds table [] slot more states fits all a = absurd a
look_up holds table (p ∷ xs) slot more states fits all (inr rest) = look_up holds table xs slot more states fits.1 all.1 rest
look_up holds table (p ∷ xs) slot more states fits all (inl h) = by (state_at table slot) refl (states slot) (subst (λ (s : ℕ). tables.Covers (state_at table s) p.1) h.0 all.0)
  where
    by : (o : Option Abstract) → state_at table slot ≡ o → Holds IsState o → tables.Covers o p.1 → Lookup holds table slot
    by None e fit c = absurd c
    by (Some known) e fit c = record { known = known; listed = e; there = more p.1 known (state_under known p.1 fit fits.0 c) h.1 }

pub arrivals_fit : (hs : List Bool) (xs : List (ℕ × Abstract)) → Each (λ (p : ℕ × Abstract). IsState p.1) xs → Each (λ (p : ℕ × Abstract). IsState p.1) (map (arrival hs) xs)
arrivals_fit hs [] a = tt
arrivals_fit hs (p ∷ xs) a = (by (get_or hs p.0 false), arrivals_fit hs xs a.1)
  where
    by : (b : Bool) → IsState (if b then round_state p.1 else p.1)
    by true = round_state_fits p.1 a.0
    by false = a.0

pub sent_fit : (guards : Bool) (program : List (Option Instr)) (sectors : ℕ) (table : List (Option Abstract)) (slot : ℕ) → IsProgram program → sectors ≤ most_sectors → AreStates table
    → Each (λ (p : ℕ × Abstract). IsState p.1) (sent_with guards program sectors table slot)
unfolding sent_with
sent_fit guards program sectors table slot made few states = by (at program slot) (state_at table slot) refl (states slot)
  where
    by : (o : Option Instr) (q : Option Abstract) → at program slot ≡ o → Holds IsState q → Each (λ (p : ℕ × Abstract). IsState p.1) (passed_on_with guards (heads program) sectors slot o q)
    by None q e h = tt
    by (Some i) None e h = tt
    by (Some i) (Some s) e h =
        arrivals_fit (heads program) (passes_with guards sectors s slot i)
        (passed_with_fits (is_loose guards s i) sectors slot s i (omega (arith, few)) (range_at program slot i made e) h)

-- where the machine goes on, the table covers it, since what is sent is contained there
pub way_safe : (program : List (Option Instr)) (sectors : ℕ) (device : List (List ℕ)) (context : Context) (table : List (Option Abstract)) (s : State) (sent : List (ℕ × Abstract))
    → IsSetting program sectors device context → AreStates table → Each (λ (p : ℕ × Abstract). IsState p.1) sent → CoversAll table sent → IsKnown program sectors table s
    → (t : State) → IsCovered program sectors table sent s (Next t) → IsKnown program sectors table t × Follows program s t
way_safe program sectors device context table s sent set states fits edges known = each_way
  where
    inside : (t : State) → GoesOn program sectors sent s t → IsKnown program sectors table t × Follows program s t
    inside t g =
        let found = look_up (λ k. Covers sectors k t) table sent t.slot (λ k l under. covers_under sectors k l t under) states fits edges g.arrives in
        let q = g.frames in
        let had = ap (λ (fs : List Frame). length fs) q.had ∙ length_of q.below q.old in
        let has = ap (λ (fs : List Frame). length fs) q.has ∙ length_of q.below q.new in
        let waiting : AreWaiting program sectors table 0 0 (q.below ++ q.old ∷ []) s.slot = subst (λ (fs : List Frame). AreWaiting program sectors table 0 0 fs s.slot) q.had known.waiting in (
          record {
            known = found.known;
            listed = found.listed;
            covers = found.there;
            whole = g.whole;
            limit = g.limit;
            here = edges_begin true program set.shaped.targets set.shaped.ends s.slot t.slot g.edge;
            waiting = subst (λ (fs : List Frame). AreWaiting program sectors table 0 0 fs t.slot) (sym q.has)
                (waiting_kept program sectors table 0 0 q.below q.old q.new s.slot t.slot waiting g.edge q.caller);
          },
          inl (has ∙ sym had, g.edge),
        )

    into : (t : State) → Enters program sectors sent s t → IsKnown program sectors table t × Follows program s t
    into t g =
        let found = look_up (λ k. Covers sectors k t) table sent t.slot (λ k l under. covers_under sectors k l t under) states fits edges g.arrives in
        let frame : ℕ = frame_number s.frames in
        let stack : List (Option ℕ) = last_stack s.frames in
        let back = look_up (λ k. CoversWaiting sectors frame k stack g.caller) table sent g.caller.slot
        (λ k l under c x lt. frame_under sectors frame k l (registers_after g.caller x) stack under (c x lt)) states fits edges g.waits in
        let split = split_last s.frames known.whole.some in
        let new : Frame = record { stack = unset_stack; caller = Some g.caller } in
        let place : frame ≡ 0 + length split.below = ap frame_number split.is ∙ number_is split.below split.last ∙ omega arith in
        let same : stack ≡ split.last.stack = ap last_stack split.is ∙ last_is split.below split.last in
        let waiting : AreWaiting program sectors table 0 0 (split.below ++ split.last ∷ []) s.slot =
        subst (λ (fs : List Frame). AreWaiting program sectors table 0 0 fs s.slot) split.is known.waiting in
        let waits : (from : ℕ) → Reaches (control program) from s.slot → Waits program sectors table frame from t.slot split.last.stack g.caller =
        λ from reached. record {
          call = s.slot;
          reached = reached;
          calls = g.calls;
          back = g.back;
          registers = g.registers;
          known = back.known;
          listed = back.listed;
          covers = subst (λ (cells : List (Option ℕ)). CoversWaiting sectors frame back.known cells g.caller) same back.there;
        } in
        let pushed = waiting_pushed program sectors table 0 0 frame split.below split.last new g.caller s.slot t.slot place waiting waits refl in
        let frames : t.frames ≡ (split.below ++ split.last ∷ []) ++ new ∷ [] = g.frames ∙ ap (λ (fs : List Frame). fs ++ new ∷ []) split.is in
        let long = ap (λ (fs : List Frame). length fs) g.frames ∙ length_of s.frames new in (
          record {
            known = found.known;
            listed = found.listed;
            covers = found.there;
            whole = g.whole;
            limit = g.limit;
            here = entry_begins program s.slot t.slot set.shaped g.calls;
            waiting = subst (λ (fs : List Frame). AreWaiting program sectors table 0 0 fs t.slot) (sym frames) pushed;
          },
          inr (inl (long, g.calls)),
        )

    each_way : (t : State) → IsCovered program sectors table sent s (Next t) → IsKnown program sectors table t × Follows program s t
    each_way t (inl g) = inside t g
    each_way t (inr (inl g)) = into t g
    each_way t (inr (inr g)) = (g.known, inr (inr (g.frames, g.back)))

pub step_safe : StepIsSafe
step_safe program sectors device context table s set good known =
    by (step program (context_bytes context) device s) (step_covered program sectors device context table s set good.states known (good.slots s.slot).rules)
  where
    sent : List (ℕ × Abstract)
    sent = sent_from program sectors table s.slot

    each_way : (t : State) → IsCovered program sectors table sent s (Next t) → IsKnown program sectors table t × Follows program s t
    each_way =
        way_safe program sectors device context table s sent set good.states (sent_fit false program sectors table s.slot set.made set.few good.states) (good.slots s.slot).edges known

    by : (x : Stepped) → IsCovered program sectors table sent s x → IsSafe program sectors table s x
    by (Next u) g = record { sound = tt; goes = λ t e. let same : u ≡ t = cc in subst (λ (v : State). IsKnown program sectors table v × Follows program s v) same (each_way u g); ends = λ answer codes e. absurd (let bad : Next u ≡ Done answer codes = e in cc) }
    by (Done answer codes) g = record { sound = tt; goes = λ t e. absurd (let bad : Done answer codes ≡ Next t = e in cc); ends = λ a c e. g }
    by (Fault cause slot) g = absurd g

-- the start

first_in : (instrs : List Instr) → 0 < length (slots_of instrs) → is_some (at (slots_of instrs) 0) ≡ true
first_in [] lt = absurd (omega (arith, lt))
first_in (x ∷ rest) lt = refl

first_begins : (program : List (Option Instr)) → IsProgram program → is_some (at program 0) ≡ true
first_begins program is =
    let some : 0 < length (slots_of is.whole.instrs) = rw is.whole.listed at is.count.some in
    rw is.whole.listed (first_in is.whole.instrs some)

start_registers : (sectors r : ℕ) → Means sectors 0 (value states.start r) (register start r)
unfolding start states.start
start_registers sectors zero = tt
start_registers sectors (suc zero) = (context_start, refl, refl)
start_registers sectors (suc (suc zero)) = tt
start_registers sectors (suc (suc (suc zero))) = tt
start_registers sectors (suc (suc (suc (suc zero)))) = tt
start_registers sectors (suc (suc (suc (suc (suc zero))))) = tt
start_registers sectors (suc (suc (suc (suc (suc (suc zero)))))) = tt
start_registers sectors (suc (suc (suc (suc (suc (suc (suc zero))))))) = tt
start_registers sectors (suc (suc (suc (suc (suc (suc (suc (suc zero)))))))) = tt
start_registers sectors (suc (suc (suc (suc (suc (suc (suc (suc (suc zero))))))))) = tt
start_registers sectors (suc (suc (suc (suc (suc (suc (suc (suc (suc (suc zero)))))))))) = (frame_end, refl, refl)
start_registers sectors (suc (suc (suc (suc (suc (suc (suc (suc (suc (suc (suc r))))))))))) = tt

start_covers : (sectors : ℕ) → Covers sectors states.start start
unfolding start states.start
start_covers sectors = record {
  registers = start_registers sectors;
  groups = λ g. unset_means sectors 0 unset_stack g;
}

start_word : (c : Option ℕ) (v w : ℕ) → c ≡ Some v → v < 2 ^ 64 → c ≡ Some w → w < 2 ^ 64
start_word c v w e lt f = let both : Some v ≡ Some w = sym e ∙ f in let same : v ≡ w = cc in rw (← same) lt

start_words : (r w : ℕ) → register start r ≡ Some w → w < 2 ^ 64
unfolding start
start_words zero w e = absurd (let bad : None ≡ Some w = e in cc)
start_words (suc zero) w e = start_word (Some context_start) context_start w refl (omega arith) e
start_words (suc (suc zero)) w e = absurd (let bad : None ≡ Some w = e in cc)
start_words (suc (suc (suc zero))) w e = absurd (let bad : None ≡ Some w = e in cc)
start_words (suc (suc (suc (suc zero)))) w e = absurd (let bad : None ≡ Some w = e in cc)
start_words (suc (suc (suc (suc (suc zero))))) w e = absurd (let bad : None ≡ Some w = e in cc)
start_words (suc (suc (suc (suc (suc (suc zero)))))) w e = absurd (let bad : None ≡ Some w = e in cc)
start_words (suc (suc (suc (suc (suc (suc (suc zero))))))) w e = absurd (let bad : None ≡ Some w = e in cc)
start_words (suc (suc (suc (suc (suc (suc (suc (suc zero)))))))) w e = absurd (let bad : None ≡ Some w = e in cc)
start_words (suc (suc (suc (suc (suc (suc (suc (suc (suc zero))))))))) w e = absurd (let bad : None ≡ Some w = e in cc)
start_words (suc (suc (suc (suc (suc (suc (suc (suc (suc (suc zero)))))))))) w e = start_word (Some frame_end) frame_end w refl (omega arith) e
start_words (suc (suc (suc (suc (suc (suc (suc (suc (suc (suc (suc r))))))))))) w e = absurd (let bad : None ≡ Some w = e in cc)

start_machine : IsMachine start
unfolding start no_turns
start_machine = record {
  registers = record { long = refl; words = start_words };
  some = omega arith;
  most = omega arith;
  stacks = (unset_is_stack, tt);
  outermost = refl;
  turns = length-replicate {A = ℕ} 4096 0;
}

start_limit : (program : List (Option Instr)) → HasLimit program start
unfolding start limit_before
start_limit program = λ k calls e. absurd (let bad : None ≡ Some k = e in cc)

pub start_known : (program : List (Option Instr)) (sectors : ℕ) (device : List (List ℕ)) (context : Context) (table : List (Option Abstract)) → IsSetting program sectors device context
    → AreStates table → tables.Covers (state_at table 0) states.start → IsKnown program sectors table start
unfolding start
start_known program sectors device context table set fit begins = by (state_at table 0) refl (fit 0) begins
  where
    by : (o : Option Abstract) → state_at table 0 ≡ o → Holds IsState o → tables.Covers o states.start → IsKnown program sectors table start
    by None e h c = absurd c
    by (Some known) e h c = record {
      known = known;
      listed = e;
      covers = covers_under sectors states.start known start (state_under known states.start h start_fits c) (start_covers sectors);
      whole = start_machine;
      limit = start_limit program;
      here = first_begins program set.made;
      waiting = record { slots = []; walk = tt; ends = refl };
    }

reached : (program : List (Option Instr)) (sectors : ℕ) (device : List (List ℕ)) (context : Context) (table : List (Option Abstract)) (n : ℕ) (s : State)
    → IsSetting program sectors device context → IsGood program sectors table → Reached program (context_bytes context) device n s
    → IsKnown program sectors table s
reached program sectors device context table zero s set good e = subst (λ (t : State). IsKnown program sectors table t) (sym e) (start_known program sectors device context table set good.states good.start)
reached program sectors device context table (suc n) s set good h =
    let before = reached program sectors device context table n h.0 set good h.1.0 in
    ((step_safe program sectors device context table h.0 set good before).goes s h.1.1).0

pub table_covers : TableCovers
table_covers = record {
  reached = reached;
  sound = λ program sectors device context table n s set good h.
      (step_safe program sectors device context table s set good (reached program sectors device context table n s set good h)).sound;
}
