-- Each step takes one of the room on the path at hand, and each again edge a turn that a call has counted.
use Rattle.std.proofs.Common.{ℕ, zero, suc, ◌≡◌, ◌≢◌, ◌+◌, ◌-◌, ◌*◌, ◌<◌, ◌≤◌, ◌⊎◌, ◌==◌, ℤ, Bool, true, false, if◌then◌else◌, nat_lt, List, [], length, slice_index, slice_set, Option, Some, None, refl, sym, ◌∙◌, ap, inl, inr, arith, unwrap_or, suc-mul}
use Rattle.std.specs.Int.{cast_unsigned, w32}
use Rattle.std.specs.Option.{option_map_or, option_and_then}
use Rattle.std.proofs.lemmas.Bool.{cases_Bool, ltb-true}
use Rattle.std.proofs.lemmas.Bool.Decides.{eqb_tells}
use Rattle.std.proofs.lemmas.List.{length-set}
use Rattle.bpf_isa.specs.declared.instr.Instr.{Instr}
use Rattle.bpf_isa.specs.declared.instr.Instr.TheVariants as instr
use Rattle.bpf_isa.specs.declared.instr.Condition.{Condition}
use Rattle.bpf_isa.specs.Program.{IsProgram}
use Rattle.bpf_isa.specs.Slots.{at, target_slot}
use Rattle.bpf_shape.specs.Edges.{edges_of, control}
use Rattle.bpf_shape.specs.Again.{helper_number, calls_again, answer_test, others_of, plain, turns_at, is_target}
use Rattle.bpf_shape.specs.Paths.{Leads, Reaches}
use Rattle.bpf_shape.specs.Rules.{IsShaped}
use Rattle.bpf_shape.specs.Laws.{AgainHasForm}
use Rattle.bpf_shape.specs.Calls.{callee}
use Rattle.bpf_shape.specs.Weights.{Weighs, AreWeights}
use Rattle.bpf_shape.specs.Again.{limit_of, limit_before, zero_test}
use Rattle.bpf_shape.proofs.Walks.{reaches_more, stays}
use Rattle.helpers.specs.Answers.{again_answer, counts_after}
use Rattle.machine.specs.State.{Caller, State, register, word}
use Rattle.machine.specs.Step.{Next, caller_of, saved_caller, memory, turns_here, step_of, step}
use Rattle.soundness.proofs.Taken.{Moves, Asks, in_next, taken, effect_moves, answer_there, helper_called, again_asks, other_moves, Kind, Plain, Helps, Enters, Exits, kind_of, no_helper, Entered, local_entered, Exited, has_exited, HasLimit, Passes, Does, does}
use Rattle.soundness.proofs.Coming.{inside, control_there, callee_there, entry_is, call_comes, stands_before, test_there, test_comes}
use Rattle.soundness.proofs.Counts.{one_less}
use Rattle.soundness.proofs.Room.{bounded_next, slot_fits, from_entry, slot_weighs, Function, Stands, WaitsBelow, Waiting, callers, Arrived, left, same_total, Framed, Runs, Space, step_taken, path_taken, call_taken, return_taken}
use Rattle.soundness.proofs.Saved.{last_caller, taken_callers, number_fits}

module _ (program : List (Option Instr)) (context : List ℕ) (device : List (List ℕ)) (whole : ℕ)
    (p : IsProgram program) (shaped : IsShaped true program) (form : AgainHasForm) where
  -- the next state has arrived
  arrive : (s t : State) (i : Instr) → Arrived program s → at program s.slot ≡ Some i → Does s i t
      → Leads (edges_of s.slot i) t.slot → length t.registers ≡ length s.registers → length t.turns ≡ length s.turns → Arrived program t
  arrive s t i a there done leads width counts = record {
    registers = width ∙ a.registers;
    counts = counts ∙ a.counts;
    limit = λ k calls is.
        let around = form true program t.slot shaped calls in
        let sets = call_comes program s.slot t.slot i k p there leads around.call_free is in
        let wide : 1 < length s.registers = omega (arith, a.registers) in
        done.sets k sets wide;
  }

  -- the next slot is reached along an edge of paths, or a whole path is pending
  onward : (s t : State) (i : Instr) (pending : ℕ) → ((c : Condition) → answer_test program s.slot ≡ Some c → (word s 0 ≡ 0) ⊎ (whole ≤ pending))
      → at program s.slot ≡ Some i → Does s i t → Leads (edges_of s.slot i) t.slot
      → Leads (plain program s.slot) t.slot ⊎ (whole ≤ pending)
  unfolding plain
  onward s t i pending waits there done leads = by_test (answer_test program s.slot) refl
    where
      by_test : (o : Option Condition) → answer_test program s.slot ≡ o → Leads (others_of (answer_test program s.slot) (control program s.slot)) t.slot ⊎ (whole ≤ pending)
      by_test None is = inl (rw (is, control_there program s.slot i there) leads)
      by_test (Some c) is =
          elim (waits c is) [
            | inl none ↦
                let test = test_there program s.slot c is in
                let equal : Some i ≡ Some test.instr = sym there ∙ test.there in
                let same : test.instr ≡ i = cc in
                let tests = rw same at test.tests in
                let passes : Passes s i c t = done.passes c tests none in
                inl (rw (is, control_there program s.slot i there) passes)
            | inr enough ↦ inr enough
          ]

  -- the frame at hand at its next slot, with other room
  moved : (s t : State) (f : Framed program whole (callers s.frames) s.slot) (here : Stands program whole f.depth t.slot f.below) → callers t.frames ≡ callers s.frames
      → (steps : ℕ) → left program s.turns * whole + (here.room + f.below) ≤ steps → Space program s t whole steps
  moved s t f here same steps total = record {
    framed = record { number = f.number; depth = f.depth; deep = f.deep; below = f.below; waiting = rw same f.waiting; here = here };
    total = total;
  }

  space : (s t : State) (i : Instr) (steps : ℕ) → Runs program whole s (suc steps) → at program s.slot ≡ Some i
      → Does s i t → Leads (edges_of s.slot i) t.slot → callers t.frames ≡ callers s.frames → Space program s t whole steps
  space s t i steps r there done leads same =
      let f = r.framed in
      let h = f.here in
      let g = h.function in
      let some = slot_weighs program f.depth g.weight s.slot g.weights in
      let fits = slot_fits program g.weight s.slot h.room h.bounded in
      let l = left program s.turns * whole in
      let onto : Leads (control program s.slot) t.slot = rw (control_there program s.slot i there) leads in
      let reached = reaches_more (control program) g.entry s.slot t.slot h.reached onto in
      elim (onward s t i r.pending r.waits there done leads) [
        | inl along ↦
            moved s t f (record {
              function = g;
              reached = reached;
              room = h.room - g.weight s.slot;
              bounded = bounded_next program g.weight s.slot t.slot h.room h.bounded along;
              fits = (let all = h.fits in omega (arith, all));
              again = h.again;
            }) same steps (step_taken l r.pending h.room (g.weight s.slot) f.below steps r.total fits some)
        | inr enough ↦
            moved s t f (record {
              function = g;
              reached = reached;
              room = g.longest;
              bounded = from_entry program g.weight g.entry t.slot g.longest g.path reached;
              fits = h.again;
              again = h.again;
            }) same steps (path_taken l r.pending h.room f.below g.longest whole steps r.total (omega (arith, some, fits)) enough h.again)
      ]

  -- a step that counts nothing
  pub moves_on : (s t : State) (i : Instr) (steps : ℕ) → Runs program whole s (suc steps) → at program s.slot ≡ Some i → Does s i t
      → calls_again program s.slot ≡ false → Moves s i t → Runs program whole t steps
  moves_on s t i steps r there done other m =
      let arrived = arrive s t i r.arrived there done m.leads m.width (ap length m.counts) in
      let here = space s t i steps r there done m.leads m.frames in
      record {
        arrived = arrived;
        framed = here.framed;
        pending = 0;
        waits = λ c is. absurd (let bad : false ≡ true = sym other ∙ test_comes program s.slot t.slot i c form p shaped there m.leads is in cc);
        total = same_total program t.turns s.turns (here.framed.here.room + here.framed.below) whole steps m.counts here.total;
      }

  -- a call of `again` that answers 1
  one_more : (s t : State) (i : Instr) (steps k : ℕ) → Runs program whole s (suc steps) → Arrived program t → Space program s t whole steps
      → s.slot < length program → turns_at program s.slot ≡ k → turns_here s < k → t.turns ≡ slice_set s.turns s.slot (turns_here s + 1)
      → Runs program whole t steps
  one_more s t i steps k r arrived here within limit less counts =
      let fits : length program ≤ 4096 = p.count.limit in
      let counted_all : length s.turns ≡ 4096 = r.arrived.counts in
      let long : s.slot < length s.turns = omega (arith, counted_all, fits, within) in
      let below : slice_index s.turns s.slot < turns_at program s.slot = rw limit less in
      let fewer : left program s.turns ≡ suc (left program t.turns) = rw counts (one_less (turns_at program) s.turns s.slot (length program) within long below) in
      let product : left program s.turns * whole ≡ left program t.turns * whole + whole = ap (λ (n : ℕ). n * whole) fewer ∙ suc-mul (left program t.turns) whole in
      record {
        arrived = arrived;
        framed = here.framed;
        pending = whole;
        waits = λ c is. inr (omega arith);
        total = rw product at here.total;
      }

  -- one that answers 0
  no_more : (s t : State) (i : Instr) (steps : ℕ) → Runs program whole s (suc steps) → Arrived program t → Space program s t whole steps
      → t.turns ≡ s.turns → word t 0 ≡ 0 → Runs program whole t steps
  no_more s t i steps r arrived here counts answer = record {
    arrived = arrived;
    framed = here.framed;
    pending = 0;
    waits = λ c is. inl answer;
    total = same_total program t.turns s.turns (here.framed.here.room + here.framed.below) whole steps counts here.total;
  }

  length_counted : (s : State) (n : ℕ) (b : Bool) → length (if b then slice_set s.turns s.slot (turns_here s + 1) else s.turns) ≡ length s.turns
  length_counted s n true = length-set s.turns s.slot (turns_here s + 1)
  length_counted s n false = refl

  -- K stands in register 1
  limit_here : (s : State) → Arrived program s → calls_again program s.slot ≡ true → turns_at program s.slot ≡ word s 1
  unfolding turns_at
  limit_here s a calls =
      let around = form true program s.slot shaped calls in
      let there : register s 1 ≡ Some around.limit = a.limit around.limit calls around.limit_is in
      rw (calls, around.limit_is, there) refl

  asks_on : (s t : State) (i : Instr) (steps : ℕ) → Runs program whole s (suc steps) → at program s.slot ≡ Some i → Does s i t
      → calls_again program s.slot ≡ true → Asks s i t → Runs program whole t steps
  unfolding again_answer
  asks_on s t i steps r there done calls m = by_test (nat_lt (turns_here s) (word s 1)) refl
    where
      arrived : Arrived program t
      arrived = arrive s t i r.arrived there done m.leads m.width (ap length m.counts ∙ length_counted s (word s 1) (nat_lt (turns_here s) (word s 1)))

      here : Space program s t whole steps
      here = space s t i steps r there done m.leads m.frames

      by_test : (b : Bool) → nat_lt (turns_here s) (word s 1) ≡ b → Runs program whole t steps
      by_test true is =
          let more : counts_after s.turns s.slot (word s 1) ≡ slice_set s.turns s.slot (turns_here s + 1) = rw is refl in
          one_more s t i steps (word s 1) r arrived here (inside program s.slot i there) (limit_here s r.arrived calls) (ltb-true (turns_here s) (word s 1) is)
          (m.counts ∙ more)
      by_test false is =
          let same : counts_after s.turns s.slot (word s 1) ≡ s.turns = rw is refl in
          let none : again_answer (turns_here s) (word s 1) ≡ 0 = rw is refl in
          let long = r.arrived.registers in
          let wide : 0 < length s.registers = omega (arith, long) in
          let first : register t 0 ≡ Some (again_answer (turns_here s) (word s 1)) = rw m.answer (answer_there s.registers (again_answer (turns_here s) (word s 1)) wide) in
          no_more s t i steps r arrived here (m.counts ∙ same) (ap (λ (o : Option ℕ). unwrap_or o 0) (first ∙ ap Some none))

  pub calls_of : (s : State) (i : Instr) → at program s.slot ≡ Some i → calls_again program s.slot ≡ option_map_or (λ n. n == 3) (helper_number i) false
  unfolding calls_again
  calls_of s i there = ap (λ (o : Option Instr). option_map_or (λ n. n == 3) (option_and_then helper_number o) false) there

  call_on : (s t : State) (number : ℤ) (steps : ℕ) → Runs program whole s (suc steps) → at program s.slot ≡ Some (instr.CallHelper number)
      → step_of program context device s (instr.CallHelper number) ≡ Next t → Runs program whole t steps
  call_on s t number steps r there came =
      let i = instr.CallHelper number in
      let c = helper_called program context device s t number came in
      let done = does program context device s t i came in
      let calls : calls_again program s.slot ≡ (cast_unsigned w32 number == 3) = calls_of s i there in
      elim (cases_Bool (cast_unsigned w32 number == 3)) [
        | inl is ↦ asks_on s t i steps r there done (calls ∙ is) (again_asks s number t c is)
        | inr not_is ↦ moves_on s t i steps r there done (calls ∙ not_is) (other_moves s number t c not_is)
      ]

  -- local calls

  -- a local call is no call of `again`, and sets no limit
  no_again : (s : ℕ) (distance : ℤ) → at program s ≡ Some (instr.CallLocal distance) → calls_again program s ≡ false
  unfolding calls_again
  no_again s distance there = ap (λ (o : Option Instr). option_map_or (λ n. n == 3) (option_and_then helper_number o) false) there

  no_constant : (k : ℕ) (distance : ℤ) → limit_of (instr.CallLocal distance) ≡ Some k → ⊥
  unfolding limit_of
  no_constant k distance h = let bad : None ≡ Some k = h in cc

  no_limit : (s k : ℕ) (distance : ℤ) → at program s ≡ Some (instr.CallLocal distance) → limit_before program (s + 1) ≡ Some k → ⊥
  no_limit s k distance there is =
      let before = stands_before program (s + 1) k is in
      let place : s + 1 - 1 ≡ s = omega arith in
      let found : at program s ≡ Some before.instr = rw place at before.there in
      let equal : Some (instr.CallLocal distance) ≡ Some before.instr = sym there ∙ found in
      let same : before.instr ≡ instr.CallLocal distance = cc in
      no_constant k distance (rw same at before.sets)

  -- after it stands no test
  no_test : (s : ℕ) (c : Condition) (distance : ℤ) → at program s ≡ Some (instr.CallLocal distance) → answer_test program (s + 1) ≡ Some c → ⊥
  no_test s c distance there is =
      let test = test_there program (s + 1) c is in
      let place : s + 1 - 1 ≡ s = omega arith in
      let calls : calls_again program s ≡ true = rw place at test.calls in
      let bad : false ≡ true = sym (no_again s distance there) ∙ calls in
      cc

  -- nor is it one: its edge is one of paths
  no_zero_test : (distance : ℤ) → zero_test (instr.CallLocal distance) ≡ None
  unfolding zero_test
  no_zero_test distance = refl

  call_plain : (s : ℕ) (distance : ℤ) → at program s ≡ Some (instr.CallLocal distance) → Leads (plain program s) (s + 1)
  unfolding plain edges_of
  call_plain s distance there = by_test (answer_test program s) refl
    where
      by_test : (o : Option Condition) → answer_test program s ≡ o → Leads (others_of (answer_test program s) (control program s)) (s + 1)
      by_test None is = rw (is, control_there program s (instr.CallLocal distance) there) (inl refl)
      by_test (Some c) is =
          let test = test_there program s c is in
          let equal : Some (instr.CallLocal distance) ≡ Some test.instr = sym there ∙ test.there in
          let same : test.instr ≡ instr.CallLocal distance = cc in
          let tests : zero_test (instr.CallLocal distance) ≡ Some c = rw same at test.tests in
          absurd (let bad : None ≡ Some c = sym (no_zero_test distance) ∙ tests in cc)

  call_leads : (s : ℕ) (distance : ℤ) → at program s ≡ Some (instr.CallLocal distance) → Leads (control program s) (s + 1)
  unfolding edges_of
  call_leads s distance there = rw (control_there program s (instr.CallLocal distance) there) (inl refl)

  -- the function that is called, and what its call weighs
  record Called (depth entry weight : ℕ) : Type 0 where
    pub function : Function program depth
    pub enters : function.entry ≡ entry
    pub weighs : weight ≡ 1 + function.longest

  called : (depth s entry : ℕ) (weight : ℕ → ℕ) → AreWeights program (suc depth) weight → callee program s ≡ Some entry → Called depth entry (weight s)
  called depth s entry weight w enters =
      let here : Weighs program w.0 (Some entry) (weight s) = rw enters at (w.1.1 s) in
      record { function = record { entry = entry; weight = w.0; weights = w.1.0; longest = here.0; path = here.1.0 }; enters = refl; weighs = here.1.1 }

  -- no limit and no test stand at an entry
  arrive_entry : (s t : State) (distance : ℤ) → Arrived program s → at program s.slot ≡ Some (instr.CallLocal distance) → Entered s distance t → Arrived program t
  arrive_entry s t distance a there e = record {
    registers = e.width;
    counts = ap length e.counts ∙ a.counts;
    limit = λ k calls is.
        let around = form true program t.slot shaped calls in
        let aimed = entry_is program s.slot t.slot distance there (sym e.slot) in
        absurd (let bad : false ≡ true = sym around.call_free ∙ aimed in cc);
  }

  no_test_at_entry : (s t : State) (c : Condition) (distance : ℤ) → at program s.slot ≡ Some (instr.CallLocal distance) → Entered s distance t
      → answer_test program t.slot ≡ Some c → ⊥
  no_test_at_entry s t c distance there e is =
      let test = test_there program t.slot c is in
      let around = form true program (t.slot - 1) shaped test.calls in
      let positive : t.slot ≢ 0 = elim (eqb_tells t.slot 0) [ inl zero_there ↦ absurd (let bad : false ≡ true = sym test.positive ∙ zero_there.0 in cc) | inr other ↦ other.1 ] in
      let place : t.slot - 1 + 1 ≡ t.slot = omega (arith, positive) in
      let free : is_target program t.slot ≡ false = rw place at around.test_free in
      let bad : false ≡ true = sym free ∙ entry_is program s.slot t.slot distance there (sym e.slot) in
      cc

  -- a frame more
  enter_parts : (s t : State) (distance : ℤ) (steps number depth below pending : ℕ) → Arrived program s → at program s.slot ≡ Some (instr.CallLocal distance)
      → Entered s distance t → number + depth ≡ 3 → (h : Stands program whole depth s.slot below) → Waiting program whole number depth (callers s.frames) below
      → left program s.turns * whole + pending + (h.room + below) ≤ suc steps → Runs program whole t steps
  enter_parts s t distance steps number zero below pending arrived there e deep h waiting total =
      let few = number_fits program whole number 0 s.frames below waiting e.few in
      absurd (omega (arith, deep, few))
  enter_parts s t distance steps number (suc d) below pending arrived there e deep h waiting total =
      let g = h.function in
      let x = called d s.slot (target_slot s.slot distance) g.weight g.weights (callee_there program s.slot distance there) in
      let fits = slot_fits program g.weight s.slot h.room h.bounded in
      let all = h.fits in
      let weighs = x.weighs in
      let start : Reaches (control program) x.function.entry t.slot = rw (e.slot, x.enters) (stays (control program) (target_slot s.slot distance)) in
      let within : x.function.longest + (h.room - g.weight s.slot + below) ≤ whole = omega (arith, all, fits, weighs) in
      record {
        arrived = arrive_entry s t distance arrived there e;
        framed = record {
          number = suc number;
          depth = d;
          deep = omega (arith, deep);
          below = h.room - g.weight s.slot + below;
          waiting = record {
            front = callers s.frames;
            caller = saved_caller s;
            are = e.frames;
            width = refl;
            call = s.slot;
            distance = distance;
            there = there;
            back = refl;
            under = below;
            here = record {
              function = g;
              reached = reaches_more (control program) g.entry s.slot (s.slot + 1) h.reached (call_leads s.slot distance there);
              room = h.room - g.weight s.slot;
              bounded = bounded_next program g.weight s.slot (s.slot + 1) h.room h.bounded (call_plain s.slot distance there);
              fits = omega (arith, all);
              again = h.again;
            };
            sum = refl;
            rest = waiting;
          };
          here = record {
            function = x.function;
            reached = start;
            room = x.function.longest;
            bounded = from_entry program x.function.weight x.function.entry t.slot x.function.longest x.function.path start;
            fits = within;
            again = within;
          };
        };
        pending = 0;
        waits = λ c test. absurd (no_test_at_entry s t c distance there e test);
        total = rw e.counts (call_taken (left program s.turns * whole) pending h.room (g.weight s.slot) x.function.longest below steps total fits weighs);
      }

  enter_on : (s t : State) (distance : ℤ) (steps : ℕ) → Runs program whole s (suc steps) → at program s.slot ≡ Some (instr.CallLocal distance)
      → Entered s distance t → Runs program whole t steps
  enter_on s t distance steps r there e =
      let f = r.framed in
      enter_parts s t distance steps f.number f.depth f.below r.pending r.arrived there e f.deep f.here f.waiting r.total

  -- a frame less
  exit_on : (s t : State) (c : Caller) (steps : ℕ) → Runs program whole s (suc steps) → Exited s c t → Runs program whole t steps
  exit_on s t c steps r e = by_number r.framed.number refl r.framed.waiting
    where
      f : Framed program whole (callers s.frames) s.slot
      f = r.framed

      some : 1 ≤ f.here.room
      some =
          let h = f.here in
          let one = slot_weighs program f.depth h.function.weight s.slot h.function.weights in
          let fits = slot_fits program h.function.weight s.slot h.room h.bounded in
          omega (arith, one, fits)

      back_to : (n : ℕ) → f.number ≡ suc n → WaitsBelow program whole (suc f.depth) (Waiting program whole n (suc f.depth)) (callers s.frames) f.below → Runs program whole t steps
      back_to n is w =
          let last : caller_of s.frames ≡ Some w.caller = last_caller s.frames w.front (Some w.caller) w.are in
          let equal : Some c ≡ Some w.caller = sym e.caller ∙ last in
          let same : c ≡ w.caller = cc in
          let slot : t.slot ≡ w.caller.slot = e.slot ∙ ap (λ (x : Caller). x.slot) same in
          let beyond : t.slot ≡ w.call + 1 = slot ∙ w.back in
          let width : length t.registers ≡ 6 + length w.caller.registers = e.width ∙ ap (λ (x : Caller). 6 + length x.registers) same in
          let front : callers t.frames ≡ w.front = ap callers e.frames ∙ taken_callers s.frames w.front (Some w.caller) w.are in
          record {
            arrived = record {
              registers = (let five = w.width in omega (arith, width, five));
              counts = ap length e.counts ∙ r.arrived.counts;
              limit = λ k calls limit. absurd (no_limit w.call k w.distance w.there (rw beyond at limit));
            };
            framed = record {
              number = n;
              depth = suc f.depth;
              deep = (let deep = f.deep in omega (arith, is, deep));
              below = w.under;
              waiting = rw front w.rest;
              here = rw slot w.here;
            };
            pending = 0;
            waits = λ x test. absurd (no_test w.call x w.distance w.there (rw beyond at test));
            total = total_of w.here.room w.under w.sum;
          }
        where
          total_of : (room under : ℕ) → f.below ≡ room + under → left program t.turns * whole + 0 + (room + under) ≤ steps
          total_of room under sum = rw e.counts (return_taken (left program s.turns * whole) r.pending f.here.room f.below (room + under) steps r.total some sum)

      by_number : (n : ℕ) → f.number ≡ n → Waiting program whole n f.depth (callers s.frames) f.below → Runs program whole t steps
      by_number zero is w =
          let last : caller_of s.frames ≡ None = last_caller s.frames [] None w.0 in
          absurd (let bad : None ≡ Some c = sym last ∙ e.caller in cc)
      by_number (suc n) is w = back_to n is w

  -- each step that leads on
  pub progress : (s t : State) (steps : ℕ) → Runs program whole s (suc steps) → step program context device s ≡ Next t → Runs program whole t steps
  progress s t steps r e =
      let at_hand = taken program context device s t e in
      by_kind at_hand.instr (kind_of at_hand.instr) at_hand.there at_hand.came
    where
      by_kind : (i : Instr) → Kind i → at program s.slot ≡ Some i → step_of program context device s i ≡ Next t → Runs program whole t steps
      by_kind i (Plain plain) there came =
          let calls : calls_again program s.slot ≡ false = calls_of s i there ∙ ap (λ (o : Option ℕ). option_map_or (λ n. n == 3) o false) (no_helper i plain) in
          moves_on s t i steps r there (does program context device s t i came) calls (in_next (Moves s i) program context device s t i (effect_moves (memory context device s) device s i plain) came)
      by_kind i (Helps number is) there came = call_on s t number steps r (rw is at there) (rw is at came)
      by_kind i (Enters distance is) there came =
          enter_on s t distance steps r (rw is at there) (local_entered program context device s t distance (rw is at came))
      by_kind i (Exits is) there came =
          let back = has_exited program context device s t (rw is at came) in
          exit_on s t back.0 steps r back.1
