-- Local calls: the step that enters a function, and the step that returns from it.
use Rattle.std.proofs.Common.{◌≡◌, ◌<◌, ◌≤◌, ℕ, zero, suc, ◌+◌, ◌-◌, ◌^◌, ◌&&◌, nat_lt, true, false, ℤ, List, [], ◌∷◌, ◌++◌, length, map, get_or, replicate, take, Option, None, Some, is_some, refl, sym, ap, ◌∙◌, inl, inr, subst, arith}
use Rattle.std.specs.Prelude.{unwrap_or}
use Rattle.std.specs.Option.{option_map}
use Rattle.std.specs.List.{list_all}
use Rattle.std.proofs.Math.ListN.{length-replicate}
use Rattle.std.proofs.lemmas.Bool.Decides.{nat_tests}
use Rattle.base.specs.Check.{check, first_failing}
use Rattle.base.specs.declared.causes.MachineFault.TheVariants as fault
use Rattle.base.specs.declared.causes.VerifierCause.TheVariants as cause
use Rattle.bpf_isa.specs.declared.instr.Instr.{Instr}
use Rattle.bpf_isa.specs.declared.instr.Instr.TheVariants as instr
use Rattle.bpf_isa.specs.Slots.{at, target_slot}
use Rattle.bpf_shape.specs.Again.{limit_before}
use Rattle.bpf_shape.specs.Calls.{callee}
use Rattle.bpf_shape.specs.Edges.{control}
use Rattle.bpf_shape.specs.Paths.{Leads}
use Rattle.bpf_shape.specs.Rules.{IsShaped}
use Rattle.bpf_shape.proofs.Kept.{edges_begin}
use Rattle.machine.specs.State.{Caller, Frame, State, register, word, stack_end, unset_stack}
use Rattle.machine.specs.Step as step
use Rattle.machine.specs.Step.{checks, effect, step_of, after_checks, saved_caller, enter_function, exit_frame, returns_to, with_answer, Next, Done}
use Rattle.ranges.specs.Kinds.{Kind, Unset, Word, Num, Ctx, Stack, Sector, SectorOrNull, is_number}
use Rattle.ranges.specs.Groups.{Marked, unset_marks}
use Rattle.ranges.specs.States.{Abstract, unset_groups}
use Rattle.ranges.specs.Order.{Each}
use Rattle.ranges.specs.Reading.{value, are_set, any_word}
use Rattle.ranges.specs.Rules.{rules, rules_with}
use Rattle.ranges.specs.After.{after_answer, after_with}
use Rattle.ranges.specs.Passing.{passes, argument_kind, entry_state, passed_with}
use Rattle.soundness.specs.Meaning.{Means, GroupMeans, CoversFrame}
use Rattle.soundness.specs.Machines.{AreRegisters, IsStack, first_caller, IsMachine}
use Rattle.soundness.specs.Callers.{registers_after, AreWaiting}
use Rattle.soundness.specs.Laws.{IsKnown, Enters, Returns, IsCovered}
use Rattle.soundness.proofs.Checks.{pass_one, pass_two, two_tell, tested_passes}
use Rattle.soundness.proofs.Meanings.{word_in}
use Rattle.soundness.proofs.Standing.{Parts, machine, number, frames_of, all_frames, number_is, last_is, Stands, covers_machine, answered_stands, reads_set}
use Rattle.soundness.proofs.Computing.{Site}
use Rattle.soundness.proofs.Programs.{callee_is, after_call, entry_begins, no_entry, no_limit_after}
use Rattle.soundness.proofs.Frames.{split_last, caller_is, without_last, length_of, each_below, each_pushed, first_pushed, waiting_popped, alone, not_deeper}

-- the stack of a new frame

no_byte : (n p b : ℕ) → get_or (replicate {A = Option ℕ} n None) p None ≡ Some b → ⊥
no_byte zero p b e = let bad : None ≡ Some b = e in cc
no_byte (suc n) zero b e = let bad : None ≡ Some b = e in cc
no_byte (suc n) (suc p) b e = no_byte n p b e

pub unset_is_stack : IsStack unset_stack
unfolding unset_stack
unset_is_stack = record { long = length-replicate {A = Option ℕ} 512 None; bytes = λ p b e. absurd (no_byte 512 p b e) }

pub no_mark : (n k : ℕ) → get_or (replicate n false) k false ≡ true → ⊥
no_mark zero k e = let bad : false ≡ true = e in cc
no_mark (suc n) zero e = let bad : false ≡ true = e in cc
no_mark (suc n) (suc k) e = no_mark n k e

nothing_known : (sectors frame n g h : ℕ) (stack : List (Option ℕ)) → GroupMeans sectors frame (get_or (replicate n (Marked unset_marks)) g (Marked [])) stack h
nothing_known sectors frame zero g h stack = λ k lt e. absurd (let bad : false ≡ true = e in cc)
nothing_known sectors frame (suc n) zero h stack = λ k lt e. absurd (no_mark 8 k e)
nothing_known sectors frame (suc n) (suc g) h stack = nothing_known sectors frame n g h stack

pub unset_means : (sectors frame : ℕ) (stack : List (Option ℕ)) (g : ℕ) → GroupMeans sectors frame (get_or unset_groups g (Marked [])) stack g
unfolding unset_groups
unset_means sectors frame stack g = nothing_known sectors frame 64 g g stack

-- what a function is given

given_means : (sectors frame other : ℕ) (k : Kind) (c : Option ℕ) → Means sectors frame k c → Means sectors other (argument_kind k) c
given_means sectors frame other (Num x) c h = h
given_means sectors frame other Unset c h = tt
given_means sectors frame other Word c h = h
given_means sectors frame other (Ctx o) c h = (h.0, h.1, tt)
given_means sectors frame other (Stack o) c h = (h.0, h.1, tt)
given_means sectors frame other (Sector x) c h = (h.0, h.1, tt)
given_means sectors frame other SectorOrNull c h = (h.0, h.1, tt)

abbrev given_registers : Parts → List (Option ℕ)
given_registers m =
    None ∷ register (machine m) 1 ∷ register (machine m) 2 ∷ register (machine m) 3 ∷ register (machine m) 4 ∷ register (machine m) 5
    ∷ None ∷ None ∷ None ∷ None ∷ Some (stack_end (length (all_frames m))) ∷ []

entry_values : (sectors : ℕ) (known : Abstract) (m : Parts) → Site sectors known m
    → (r : ℕ) → Means sectors (length (all_frames m)) (value (entry_state known) r) (get_or (given_registers m) r None)
unfolding entry_state
entry_values sectors known m site zero = tt
entry_values sectors known m site (suc zero) = given_means sectors (number m) (length (all_frames m)) (value known 1) (get_or m.registers 1 None) (site.stands.values 1)
entry_values sectors known m site (suc (suc zero)) = given_means sectors (number m) (length (all_frames m)) (value known 2) (get_or m.registers 2 None) (site.stands.values 2)
entry_values sectors known m site (suc (suc (suc zero))) = given_means sectors (number m) (length (all_frames m)) (value known 3) (get_or m.registers 3 None) (site.stands.values 3)
entry_values sectors known m site (suc (suc (suc (suc zero)))) = given_means sectors (number m) (length (all_frames m)) (value known 4) (get_or m.registers 4 None) (site.stands.values 4)
entry_values sectors known m site (suc (suc (suc (suc (suc zero))))) = given_means sectors (number m) (length (all_frames m)) (value known 5) (get_or m.registers 5 None) (site.stands.values 5)
entry_values sectors known m site (suc (suc (suc (suc (suc (suc zero)))))) = tt
entry_values sectors known m site (suc (suc (suc (suc (suc (suc (suc zero))))))) = tt
entry_values sectors known m site (suc (suc (suc (suc (suc (suc (suc (suc zero)))))))) = tt
entry_values sectors known m site (suc (suc (suc (suc (suc (suc (suc (suc (suc zero))))))))) = tt
entry_values sectors known m site (suc (suc (suc (suc (suc (suc (suc (suc (suc (suc zero)))))))))) = (stack_end (length (all_frames m)), refl, omega arith)
entry_values sectors known m site (suc (suc (suc (suc (suc (suc (suc (suc (suc (suc (suc r))))))))))) = tt

end_word : (n w : ℕ) → n ≤ 4 → Some (stack_end n) ≡ Some w → w < 2 ^ 64
end_word n w few e = let same : stack_end n ≡ w = cc in omega (arith, same, few)

given_words : (m : Parts) → AreRegisters m.registers → length (all_frames m) ≤ 4 → (r w : ℕ) → get_or (given_registers m) r None ≡ Some w → w < 2 ^ 64
given_words m h few zero w e = absurd (let bad : None ≡ Some w = e in cc)
given_words m h few (suc zero) w e = h.words 1 w e
given_words m h few (suc (suc zero)) w e = h.words 2 w e
given_words m h few (suc (suc (suc zero))) w e = h.words 3 w e
given_words m h few (suc (suc (suc (suc zero)))) w e = h.words 4 w e
given_words m h few (suc (suc (suc (suc (suc zero))))) w e = h.words 5 w e
given_words m h few (suc (suc (suc (suc (suc (suc zero)))))) w e = absurd (let bad : None ≡ Some w = e in cc)
given_words m h few (suc (suc (suc (suc (suc (suc (suc zero))))))) w e = absurd (let bad : None ≡ Some w = e in cc)
given_words m h few (suc (suc (suc (suc (suc (suc (suc (suc zero)))))))) w e = absurd (let bad : None ≡ Some w = e in cc)
given_words m h few (suc (suc (suc (suc (suc (suc (suc (suc (suc zero))))))))) w e = absurd (let bad : None ≡ Some w = e in cc)
given_words m h few (suc (suc (suc (suc (suc (suc (suc (suc (suc (suc zero)))))))))) w e = end_word (length (all_frames m)) w few e
given_words m h few (suc (suc (suc (suc (suc (suc (suc (suc (suc (suc (suc r))))))))))) w e = absurd (let bad : None ≡ Some w = e in cc)

-- what is restored: registers 6 to 10 as they were, and after the call the state after an answer

eleven : (rs : List (Option ℕ)) (x : ℕ) → length rs ≡ 11
    → with_answer rs x ≡ Some x ∷ None ∷ None ∷ None ∷ None ∷ None ∷ map (λ r. get_or rs r None) (6 ∷ 7 ∷ 8 ∷ 9 ∷ 10 ∷ [])
eleven [] x e = absurd (omega (arith, e))
eleven (a ∷ []) x e = absurd (omega (arith, e))
eleven (a ∷ b ∷ []) x e = absurd (omega (arith, e))
eleven (a ∷ b ∷ c ∷ []) x e = absurd (omega (arith, e))
eleven (a ∷ b ∷ c ∷ d ∷ []) x e = absurd (omega (arith, e))
eleven (a ∷ b ∷ c ∷ d ∷ f ∷ []) x e = absurd (omega (arith, e))
eleven (a ∷ b ∷ c ∷ d ∷ f ∷ g ∷ []) x e = absurd (omega (arith, e))
eleven (a ∷ b ∷ c ∷ d ∷ f ∷ g ∷ h ∷ []) x e = absurd (omega (arith, e))
eleven (a ∷ b ∷ c ∷ d ∷ f ∷ g ∷ h ∷ i ∷ []) x e = absurd (omega (arith, e))
eleven (a ∷ b ∷ c ∷ d ∷ f ∷ g ∷ h ∷ i ∷ j ∷ []) x e = absurd (omega (arith, e))
eleven (a ∷ b ∷ c ∷ d ∷ f ∷ g ∷ h ∷ i ∷ j ∷ k ∷ []) x e = absurd (omega (arith, e))
eleven (a ∷ b ∷ c ∷ d ∷ f ∷ g ∷ h ∷ i ∷ j ∷ k ∷ l ∷ []) x e = refl
eleven (a ∷ b ∷ c ∷ d ∷ f ∷ g ∷ h ∷ i ∷ j ∷ k ∷ l ∷ q ∷ rest) x e = absurd (omega (arith, e))

-- the frame that waits, after its call
restored_stands : (sectors : ℕ) (known : Abstract) (m : Parts) (x : ℕ) → Site sectors known m → x < 2 ^ 64
    → Stands sectors (number m) (after_answer known (Num any_word)) (registers_after (saved_caller (machine m)) x) m.stack
restored_stands sectors known m x site lt =
    let word : Means sectors (number m) (Num any_word) (Some x) = (x, refl, word_in 0 (2 ^ 64 - 1) x (omega arith) (omega arith) (omega (arith, lt))) in
    subst (λ (rs : List (Option ℕ)). Stands sectors (number m) (after_answer known (Num any_word)) rs m.stack) (eleven m.registers x site.stands.words.long)
    (answered_stands sectors (number m) known m.registers m.stack (Num any_word) x site.fits.registers lt word site.stands)

-- a local call

-- where it leads, as it is sent
pub record Entered (program : List (Option Instr)) (context : List ℕ) (device : List (List ℕ)) (sectors : ℕ) (known : Abstract) (m : Parts) (distance : ℤ) : Type 0 where
  pub to : State
  pub is : step_of program context device (machine m) (instr.CallLocal distance) ≡ Next to
  pub enters : Enters program sectors (passes sectors known m.slot (instr.CallLocal distance)) (machine m) to

pub local_call : (program : List (Option Instr)) (context : List ℕ) (device : List (List ℕ)) (sectors : ℕ) (table : List (Option Abstract)) (known : Abstract) (m : Parts) (distance : ℤ)
    → IsShaped true program → Site sectors known m → at program m.slot ≡ Some (instr.CallLocal distance) → IsMachine (machine m)
    → AreWaiting program sectors table 0 0 (all_frames m) m.slot → Entered program context device sectors known m distance
unfolding passed_with after_with entry_state step_of checks effect
local_call program context device sectors table known m distance shaped site e whole waiting =
    let target : ℕ = target_slot m.slot distance in
    let calls : callee program m.slot ≡ Some target = callee_is program m.slot distance e in
    let less : length (all_frames m) < 4 = not_deeper program sectors table (all_frames m) m.slot target shaped whole.most waiting calls in
    let few : nat_lt (length (all_frames m)) 4 ≡ true = grind (arith, nat_tests) in
    let list_passes = pass_two fault.FrameLimit fault.NoInstruction (nat_lt (length (all_frames m)) 4) (is_some (at program target)) few (entry_begins program m.slot target shaped calls) in
    let caller : Caller = saved_caller (machine m) in
    let to : Parts = record { slot = target; registers = given_registers m; below = all_frames m; caller = Some caller; stack = unset_stack; turns = m.turns; codes = m.codes } in
    let old : Frame = record { stack = m.stack; caller = m.caller } in
    let new : Frame = record { stack = unset_stack; caller = Some caller } in
    let long = length_of (all_frames m) new in
    let words : AreRegisters (given_registers m) = record { long = refl; words = given_words m site.stands.words whole.most } in
    let stands : Stands sectors (length (all_frames m)) (entry_state known) (given_registers m) unset_stack = record {
      words = words;
      cells = unset_is_stack;
      values = entry_values sectors known m site;
      groups = λ g. unset_means sectors (length (all_frames m)) unset_stack g;
    } in
    record {
      to = machine to;
      is = tested_passes (machine m) (check fault.FrameLimit (nat_lt (length (all_frames m)) 4) ∷ step.goes_on program target ∷ []) (enter_function (machine m) target) list_passes;
      enters = record {
        whole = record {
          registers = words;
          some = omega (arith, long);
          most = omega (arith, long, less);
          stacks = each_pushed (λ x. IsStack x.stack) (all_frames m) new whole.stacks unset_is_stack;
          outermost = first_pushed m.below old new ∙ whole.outermost;
          turns = whole.turns;
        };
        limit = λ k again is. absurd (no_entry program m.slot target shaped calls again);
        calls = calls;
        caller = caller;
        back = refl;
        frames = refl;
        registers = λ x lt. (restored_stands sectors known m x site lt).words;
        arrives = inr (inl (refl, covers_machine sectors (entry_state known) to stands));
        waits = inl (
          refl,
          λ x lt.
              let h = restored_stands sectors known m x site lt in
              rw (number_is m.below old, last_is m.below old) (record { registers = h.values; groups = h.groups }),
        );
      };
    }

-- the end of a function

has_below : (below : List Frame) (caller : Option Caller) (stack : List (Option ℕ)) (c : Caller) → first_caller (frames_of below caller stack) ≡ None → caller ≡ Some c → 1 ≤ length below
has_below [] caller stack c none e = absurd (let bad : None ≡ Some c = sym none ∙ e in cc)
has_below (f ∷ rest) caller stack c none e = omega arith

-- the machine after the call, where the frames below the one that ends are these
returned : (program : List (Option Instr)) (sectors : ℕ) (table : List (Option Abstract)) (m : Parts) (below : List Frame) (f : Frame) (c : Caller) (x : ℕ)
    → IsShaped true program → IsMachine (machine m) → AreWaiting program sectors table 0 0 (all_frames m) m.slot → m.below ≡ below ++ f ∷ [] → m.caller ≡ Some c → x < 2 ^ 64
    → IsKnown program sectors table (record { slot = c.slot; registers = registers_after c x; frames = below ++ f ∷ []; turns = m.turns; codes = m.codes })
returned program sectors table m below f c x shaped whole waiting is called lt =
    let g : Frame = record { stack = m.stack; caller = m.caller } in
    let there : AreWaiting program sectors table 0 0 ((below ++ f ∷ []) ++ g ∷ []) m.slot =
    subst (λ (fs : List Frame). AreWaiting program sectors table 0 0 (fs ++ g ∷ []) m.slot) is waiting in
    let p = waiting_popped program sectors table 0 0 (length below) below f g c m.slot (omega arith) there called in
    let w = p.waits in
    let leads : Leads (control program w.call) c.slot = subst (λ (s : ℕ). Leads (control program w.call) s) (sym w.back) (after_call program w.call p.enters w.calls) in
    let known : Abstract = w.known in
    let covers : CoversFrame sectors (length below) known (registers_after c x) f.stack = w.covers x lt in
    let had = length_of m.below g in
    let same : length m.below ≡ length (below ++ f ∷ []) = ap (λ (fs : List Frame). length fs) is in
    let has = length_of below f in
    let most = whole.most in
    let first : first_caller ((below ++ f ∷ []) ++ g ∷ []) ≡ None = subst (λ (fs : List Frame). first_caller (fs ++ g ∷ []) ≡ None) is whole.outermost in
    record {
      known = known;
      listed = w.listed;
      covers = rw (number_is below f, last_is below f) covers;
      whole = record {
        registers = w.registers x lt;
        some = omega (arith, has);
        most = omega (arith, had, same, most);
        stacks = subst (λ (fs : List Frame). Each (λ y. IsStack y.stack) fs) is (each_below (λ y. IsStack y.stack) m.below g whole.stacks);
        outermost = sym (first_pushed below f g) ∙ first;
        turns = whole.turns;
      };
      limit = λ k again set.
          let before : limit_before program (w.call + 1) ≡ Some k = ap (λ (s : ℕ). limit_before program s) (sym w.back) ∙ set in
          absurd (no_limit_after program w.call p.enters k w.calls before);
      here = edges_begin true program shaped.targets shaped.ends w.call c.slot leads;
      waiting = p.waiting;
    }

pub exit_set : (program : List (Option Instr)) (context : List ℕ) (device : List (List ℕ)) (sectors : ℕ) (table : List (Option Abstract)) (m : Parts) (arrivals : List (ℕ × Abstract))
    → IsShaped true program → AreRegisters m.registers → IsMachine (machine m) → AreWaiting program sectors table 0 0 (all_frames m) m.slot
    → list_all (λ r. is_some (get_or m.registers r None)) (0 ∷ []) ≡ true → IsCovered program sectors table arrivals (machine m) (step_of program context device (machine m) instr.Exit)
unfolding step_of checks effect
exit_set program context device sectors table m arrivals shaped words whole waiting reads =
    subst (λ (o : Option Caller). IsCovered program sectors table arrivals (machine m) (after_checks (machine m) (step.reads (machine m) (0 ∷ []) ∷ returns_to program o) (exit_frame (machine m) o)))
    (sym (caller_is m)) (by m.caller refl)
  where
    x : ℕ
    x = word (machine m) 0

    there : register (machine m) 0 ≡ Some x
    there = held (get_or m.registers 0 None) reads
      where
        held : (c : Option ℕ) → (is_some c && true) ≡ true → c ≡ Some (unwrap_or c 0)
        held None e = absurd (let bad : false ≡ true = e in cc)
        held (Some w) e = refl

    small : x < 2 ^ 64
    small = words.words 0 x there

    by : (o : Option Caller) → m.caller ≡ o → IsCovered program sectors table arrivals (machine m) (after_checks (machine m) (step.reads (machine m) (0 ∷ []) ∷ returns_to program o) (exit_frame (machine m) o))
    by None e =
        let g : Frame = record { stack = m.stack; caller = m.caller } in
        let none = alone program sectors table 0 0 m.below g m.slot waiting e in
        let long = length_of m.below g in
        let last : length (all_frames m) ≡ 1 = omega (arith, none, long) in
        subst (IsCovered program sectors table arrivals (machine m))
        (sym (tested_passes (machine m) (step.reads (machine m) (0 ∷ []) ∷ []) (Done x m.codes) (pass_one fault.UnsetRegister (list_all (λ r. is_some (get_or m.registers r None)) (0 ∷ [])) reads))) last
    by (Some c) e =
        let split = split_last m.below (has_below m.below m.caller m.stack c whole.outermost e) in
        let g : Frame = record { stack = m.stack; caller = m.caller } in
        let to : State = record { slot = c.slot; registers = registers_after c x; frames = split.below ++ split.last ∷ []; turns = m.turns; codes = m.codes } in
        let known_there = returned program sectors table m split.below split.last c x shaped whole waiting split.is e small in
        let frames : take (length (all_frames m) - 1) (all_frames m) ≡ split.below ++ split.last ∷ [] = without_last m.below g ∙ split.is in
        let list_passes = pass_two fault.UnsetRegister fault.NoInstruction (list_all (λ r. is_some (get_or m.registers r None)) (0 ∷ [])) (is_some (at program c.slot)) reads known_there.here in
        let same : exit_frame (machine m) (Some c) ≡ Next to =
        ap (λ (r : Option ℕ). Next (record { slot = c.slot; registers = r ∷ None ∷ None ∷ None ∷ None ∷ None ∷ c.registers; frames = take (length (all_frames m) - 1) (all_frames m); turns = m.turns; codes = m.codes })) there
        ∙ ap (λ (fs : List Frame). Next (record { slot = c.slot; registers = registers_after c x; frames = fs; turns = m.turns; codes = m.codes })) frames in
        let had = length_of m.below g in
        let shorter : length m.below ≡ length (split.below ++ split.last ∷ []) = ap (λ (fs : List Frame). length fs) split.is in
        let returns : Returns program sectors table (machine m) to = record {
          back = ap (λ (o : Option Caller). option_map (λ d. d.slot) o) (caller_is m ∙ e);
          frames = omega (arith, had, shorter);
          known = known_there;
        } in
        subst (IsCovered program sectors table arrivals (machine m))
        (sym (tested_passes (machine m) (step.reads (machine m) (0 ∷ []) ∷ step.goes_on program c.slot ∷ []) (exit_frame (machine m) (Some c)) list_passes ∙ same)) (inr (inr returns))

pub exit_covered : (program : List (Option Instr)) (context : List ℕ) (device : List (List ℕ)) (sectors : ℕ) (table : List (Option Abstract)) (known : Abstract) (m : Parts) (arrivals : List (ℕ × Abstract))
    → IsShaped true program → Site sectors known m → IsMachine (machine m) → AreWaiting program sectors table 0 0 (all_frames m) m.slot
    → first_failing (rules known instr.Exit) ≡ None → IsCovered program sectors table arrivals (machine m) (step_of program context device (machine m) instr.Exit)
unfolding rules_with
exit_covered program context device sectors table known m arrivals shaped site whole waiting keeps =
    let are = (two_tell cause.UnsetRegister cause.PointerAsNumber (are_set known (0 ∷ [])) (is_number (value known 0)) keeps).0 in
    exit_set program context device sectors table m arrivals shaped site.stands.words whole waiting (reads_set sectors (number m) known m.registers (0 ∷ []) site.stands.values are)
