-- Jumps: what is known where they lead.
use Rattle.std.proofs.Common.{◌≡◌, ℕ, ◌+◌, ◌*◌, ◌==◌, ◌&&◌, not, Bool, true, false, if◌then◌else◌, ℤ, pos, negsuc, List, [], ◌∷◌, ◌++◌, length, get_or, Option, None, Some, is_some, refl, sym, ap, ◌∙◌, inl, inr, ◌⊎◌, subst, arith}
use Rattle.std.specs.Prelude.{set, unwrap_or}
use Rattle.std.specs.Option.{option_map, IsSomeAnd}
use Rattle.std.specs.Ordering.{int_eq}
use Rattle.std.specs.Int.{cast_unsigned, w64}
use Rattle.std.specs.List.{list_all}
use Rattle.std.proofs.lemmas.List.{set-get_or, length-set}
use Rattle.std.proofs.lemmas.Int.{ints}
use Rattle.std.proofs.lemmas.Bool.Decides.{nat_tests}
use Rattle.base.specs.Check.{first_failing}
use Rattle.base.specs.declared.causes.MachineFault.TheVariants as fault
use Rattle.base.specs.declared.causes.VerifierCause.TheVariants as cause
use Rattle.bpf_isa.specs.declared.instr.Instr.{Instr}
use Rattle.bpf_isa.specs.declared.instr.Instr.TheVariants as instr
use Rattle.bpf_isa.specs.declared.instr.Source.{Source}
use Rattle.bpf_isa.specs.declared.instr.Source.TheVariants as source
use Rattle.bpf_isa.specs.Spelling.{IsSourceInRange}
use Rattle.bpf_isa.specs.declared.instr.Width.{Width}
use Rattle.bpf_isa.specs.declared.instr.Width.TheVariants as width
use Rattle.bpf_isa.specs.declared.instr.Condition.{Condition}
use Rattle.bpf_isa.specs.declared.instr.Condition.TheVariants as cond
use Rattle.helpers.specs.Answers.{sector_start}
use Rattle.machine.specs.Arithmetic.{holds, condition_holds}
use Rattle.machine.specs.State.{State, word}
use Rattle.machine.specs.Step as step
use Rattle.bpf_isa.specs.Slots.{at, target_slot}
use Rattle.machine.specs.Step.{source_registers, branch_slot, checks, effect, step_of, after_checks, go_to, Next}
use Rattle.intervals.specs.Reducing.{Limits, HasWord}
use Rattle.intervals.specs.SignedEdges.{limits_refined}
use Rattle.intervals.proofs.Outcomes.{refined_has}
use Rattle.intervals.proofs.CallerLemmas.{words_are_limits}
use Rattle.ranges.specs.Kinds.{Kind, Unset, Num, SectorOrNull, is_unknown}
use Rattle.ranges.specs.States.{Abstract}
use Rattle.ranges.specs.Reading.{value, second, are_set, with_value, words}
use Rattle.ranges.specs.Rules.{rules, compares, is_null_test, is_wide, is_equality, is_zero, may_be_null, rules_with}
use Rattle.ranges.specs.Passing.{passes, edge_of, with_both, with_second, tested_kind, is_equal_edge, passed_state, edge_with, passed_with}
use Rattle.soundness.specs.Meaning.{Describes, Means}
use Rattle.soundness.specs.Laws.{Arrives}
use Rattle.soundness.proofs.Checks.{pass_one, pass_two, two_tell, tested_passes, and_parts}
use Rattle.soundness.proofs.Meanings.{means_word, word_in}
use Rattle.ranges.proofs.Keeping.{words_fit, value_fits, second_fits}
use Rattle.soundness.proofs.Standing.{Parts, machine, number, Stands, Goes, goes_first, goes_to, covers_machine, set_means, not_unset, reads_set}
use Rattle.soundness.proofs.Computing.{Site, read_has, second_has, rest_set, first_describes}

-- a register that is set
pub register_is : (sectors : ℕ) (known : Abstract) (m : Parts) (r : ℕ) (rest : List ℕ) → Site sectors known m → are_set known (r ∷ rest) ≡ true
    → get_or m.registers r None ≡ Some (word (machine m) r)
register_is sectors known m r rest site e =
    let set = and_parts (not (is_unknown (value known r))) (are_set known rest) e in
    let h = means_word sectors (number m) (value known r) (get_or m.registers r None) (not_unset (is_unknown (value known r)) set.0) (site.stands.values r) in
    by (get_or m.registers r None) h.0 h.1
  where
    by : (c : Option ℕ) (w : ℕ) → c ≡ Some w → c ≡ Some (unwrap_or c 0)
    by None w f = absurd (let bad : None ≡ Some w = f in cc)
    by (Some x) w f = refl

-- another value of a register that stays as it is
pub known_stands : (sectors frame : ℕ) (known : Abstract) (registers stack : List (Option ℕ)) (r : ℕ) (k : Kind) → length known.values ≡ 11
    → Means sectors frame k (get_or registers r None) → Stands sectors frame known registers stack → Stands sectors frame (with_value known r k) registers stack
known_stands sectors frame known registers stack r k long means h = record {
  words = h.words;
  cells = h.cells;
  values = λ q. subst (λ (xs : List (Option ℕ)). Means sectors frame (get_or (set known.values r k) q Unset) (get_or xs q None)) (set-get_or registers r None)
      (set_means sectors frame known.values registers r k (get_or registers r None) (long ∙ sym h.words.long) h.values means q);
  groups = h.groups;
}

-- what an edge passes, and that it covers
pub record Edge (sectors : ℕ) (m : Parts) (passed : Option Abstract) : Type 0 where
  pub state : Abstract
  pub is : passed ≡ Some state
  pub stands : Stands sectors (number m) state m.registers m.stack

-- the null test

null_parts : (w : Width) (c : Condition) (from : Source) (k : Kind) → is_null_test w c from k ≡ true
    → (w ≡ width.W64) × ((c ≡ cond.Eq) ⊎ (c ≡ cond.Ne)) × (is_zero from ≡ true) × (k ≡ SectorOrNull)
unfolding is_null_test
null_parts w c from k e =
    let one = and_parts (is_wide w) (is_equality c && (is_zero from && may_be_null k)) e in
    let two = and_parts (is_equality c) (is_zero from && may_be_null k) one.1 in
    let three = and_parts (is_zero from) (may_be_null k) two.1 in
    (wide w one.0, equal c two.0, three.0, null k three.1)
  where
    wide : (w : Width) → is_wide w ≡ true → w ≡ width.W64
    wide width.W64 f = refl
    wide width.W32 f = absurd (let bad : false ≡ true = f in cc)

    equal : (c : Condition) → is_equality c ≡ true → (c ≡ cond.Eq) ⊎ (c ≡ cond.Ne)
    equal cond.Eq f = inl refl
    equal cond.Ne f = inr refl
    equal _ f = absurd (let bad : false ≡ true = f in cc)

    null : (k : Kind) → may_be_null k ≡ true → k ≡ SectorOrNull
    null SectorOrNull f = refl
    null _ f = absurd (let bad : false ≡ true = f in cc)

zero_second : (m : Parts) (from : Source) → is_zero from ≡ true → step.second (machine m) from ≡ 0
zero_second m (source.Register r) e = absurd (let bad : false ≡ true = e in cc)
zero_second m (source.Immediate (pos n)) e = by_number n e
  where
    by_number : (n : ℕ) → int_eq (pos n) (pos 0) ≡ true → cast_unsigned w64 (pos n) ≡ 0
    by_number n f = grind (arith, ints, nat_tests)
zero_second m (source.Immediate (negsuc n)) e = absurd (let bad : false ≡ true = e in cc)

-- which edge a null test takes
equal_holds : (c : Condition) (a b : ℕ) (taken : Bool) → (c ≡ cond.Eq) ⊎ (c ≡ cond.Ne) → holds width.W64 c a b ≡ taken → (a == b) ≡ is_equal_edge c taken
unfolding holds condition_holds
equal_holds cond.Eq a b taken e h = h
equal_holds cond.Ne a b taken e h = by (a == b) h
  where
    by : (t : Bool) → not t ≡ taken → t ≡ not taken
    by true f = rw (← f) refl
    by false f = rw (← f) refl
equal_holds cond.Gt a b taken e h = absurd (elim e [ inl f ↦ (let bad : cond.Gt ≡ cond.Eq = f in cc) | inr f ↦ (let bad : cond.Gt ≡ cond.Ne = f in cc) ])
equal_holds cond.Ge a b taken e h = absurd (elim e [ inl f ↦ (let bad : cond.Ge ≡ cond.Eq = f in cc) | inr f ↦ (let bad : cond.Ge ≡ cond.Ne = f in cc) ])
equal_holds cond.Set a b taken e h = absurd (elim e [ inl f ↦ (let bad : cond.Set ≡ cond.Eq = f in cc) | inr f ↦ (let bad : cond.Set ≡ cond.Ne = f in cc) ])
equal_holds cond.SignedGt a b taken e h = absurd (elim e [ inl f ↦ (let bad : cond.SignedGt ≡ cond.Eq = f in cc) | inr f ↦ (let bad : cond.SignedGt ≡ cond.Ne = f in cc) ])
equal_holds cond.SignedGe a b taken e h = absurd (elim e [ inl f ↦ (let bad : cond.SignedGe ≡ cond.Eq = f in cc) | inr f ↦ (let bad : cond.SignedGe ≡ cond.Ne = f in cc) ])
equal_holds cond.Lt a b taken e h = absurd (elim e [ inl f ↦ (let bad : cond.Lt ≡ cond.Eq = f in cc) | inr f ↦ (let bad : cond.Lt ≡ cond.Ne = f in cc) ])
equal_holds cond.Le a b taken e h = absurd (elim e [ inl f ↦ (let bad : cond.Le ≡ cond.Eq = f in cc) | inr f ↦ (let bad : cond.Le ≡ cond.Ne = f in cc) ])
equal_holds cond.SignedLt a b taken e h = absurd (elim e [ inl f ↦ (let bad : cond.SignedLt ≡ cond.Eq = f in cc) | inr f ↦ (let bad : cond.SignedLt ≡ cond.Ne = f in cc) ])
equal_holds cond.SignedLe a b taken e h = absurd (elim e [ inl f ↦ (let bad : cond.SignedLe ≡ cond.Eq = f in cc) | inr f ↦ (let bad : cond.SignedLe ≡ cond.Ne = f in cc) ])

tested_means : (sectors frame : ℕ) (w : ℕ) (zero : Bool) → Describes sectors frame SectorOrNull w → (w == 0) ≡ zero → Means sectors frame (tested_kind zero) (Some w)
tested_means sectors frame w true (inl z) e = (w, refl, rw z (word_in 0 0 0 (omega arith) (omega arith) (omega arith)))
tested_means sectors frame w false (inl z) e = absurd (let bad : (0 == 0) ≡ false = rw z at e in let worse : true ≡ false = bad in cc)
tested_means sectors frame w true (inr d) e = absurd (let at : w ≡ 0 = grind (arith, nat_tests) in omega (arith, d.2, at))
tested_means sectors frame w false (inr d) e =
    (w, refl, (d.0, 0, d.1, record { from = omega arith; upto = omega arith }, (let plain : sector_start + 1024 * d.0 ≡ sector_start + 1024 * d.0 + 0 = omega arith in d.2 ∙ plain)))

-- numbers

second_stands : (sectors : ℕ) (known : Abstract) (m : Parts) (from : Source) (y : Limits) → length known.values ≡ 11
    → ((r : ℕ) → from ≡ source.Register r → Means sectors (number m) (Num y) (get_or m.registers r None))
    → Stands sectors (number m) known m.registers m.stack → Stands sectors (number m) (with_second known from y) m.registers m.stack
second_stands sectors known m (source.Immediate n) y long means h = h
second_stands sectors known m (source.Register r) y long means h = known_stands sectors (number m) known m.registers m.stack r (Num y) long (means r refl) h

number_means : (sectors frame : ℕ) (c : Option ℕ) (w : ℕ) (y : Limits) → c ≡ Some w → HasWord y w → Means sectors frame (Num y) c
number_means sectors frame c w y e h = (w, e, h)

both_stand : (sectors : ℕ) (known : Abstract) (m : Parts) (dst : ℕ) (from : Source) (q : Option (Limits × Limits)) → Site sectors known m
    → are_set known (dst ∷ source_registers from) ≡ true → IsSomeAnd q (λ p. HasWord p.0 (word (machine m) dst) × HasWord p.1 (step.second (machine m) from)) → Edge sectors m (option_map (with_both known dst from) q)
both_stand sectors known m dst from None site is leaves = absurd leaves
both_stand sectors known m dst from (Some p) site is leaves = record {
  state = with_both known dst from p;
  is = refl;
  stands = second_stands sectors (with_value known dst (Num p.0)) m from p.1 (length-set known.values dst (Num p.0) ∙ site.fits.registers) (other from is leaves.1)
      (known_stands sectors (number m) known m.registers m.stack dst (Num p.0) site.fits.registers
      (number_means sectors (number m) (get_or m.registers dst None) (word (machine m) dst) p.0 (register_is sectors known m dst (source_registers from) site is) leaves.0) site.stands);
}
  where
    other : (from : Source) → are_set known (dst ∷ source_registers from) ≡ true → HasWord p.1 (step.second (machine m) from)
        → (r : ℕ) → from ≡ source.Register r → Means sectors (number m) (Num p.1) (get_or m.registers r None)
    other (source.Immediate n) set has r e = absurd (let bad : source.Immediate n ≡ source.Register r = e in cc)
    other (source.Register q) set has r e =
        let same : q ≡ r = cc in
        subst (λ (v : ℕ). Means sectors (number m) (Num p.1) (get_or m.registers v None)) same
        (number_means sectors (number m) (get_or m.registers q None) (word (machine m) q) p.1 (register_is sectors known m q [] site (rest_set known dst (q ∷ []) set)) has)

-- the edge that the machine takes
edge_stands : (sectors : ℕ) (known : Abstract) (m : Parts) (w : Width) (c : Condition) (dst : ℕ) (from : Source) (distance : ℤ) (taken : Bool) → Site sectors known m → IsSourceInRange from
    → are_set known (dst ∷ source_registers from) ≡ true → holds w c (word (machine m) dst) (step.second (machine m) from) ≡ taken
    → Edge sectors m (edge_of known (instr.Branch w c dst from distance) taken)
unfolding edge_with
edge_stands sectors known m w c dst from distance taken site range is h = by (is_null_test w c from (value known dst)) refl
  where
    null : (w ≡ width.W64) × ((c ≡ cond.Eq) ⊎ (c ≡ cond.Ne)) × (is_zero from ≡ true) × (value known dst ≡ SectorOrNull)
        → Means sectors (number m) (tested_kind (is_equal_edge c taken)) (get_or m.registers dst None)
    null p =
        let zero : step.second (machine m) from ≡ 0 = zero_second m from p.2 in
        let wide : holds width.W64 c (word (machine m) dst) 0 ≡ taken =
        ap (λ (v : Width). holds v c (word (machine m) dst) 0) (sym p.0) ∙ ap (λ (v : ℕ). holds w c (word (machine m) dst) v) (sym zero) ∙ h in
        let describes : Describes sectors (number m) SectorOrNull (word (machine m) dst) =
        subst (λ k. Describes sectors (number m) k (word (machine m) dst)) p.3 (first_describes sectors known m dst (source_registers from) site is) in
        subst (Means sectors (number m) (tested_kind (is_equal_edge c taken))) (sym (register_is sectors known m dst (source_registers from) site is))
        (tested_means sectors (number m) (word (machine m) dst) (is_equal_edge c taken) describes (equal_holds c (word (machine m) dst) 0 taken p.1 wide))

    by : (b : Bool) → is_null_test w c from (value known dst) ≡ b → Edge sectors m
        (if b then Some (with_value known dst (tested_kind (is_equal_edge c taken)))
        else option_map (with_both known dst from) (limits_refined (instr.Branch w c dst from distance) taken (words (value known dst)) (words (second known from))))
    by true t = record {
      state = with_value known dst (tested_kind (is_equal_edge c taken));
      is = refl;
      stands = known_stands sectors (number m) known m.registers m.stack dst (tested_kind (is_equal_edge c taken)) site.fits.registers (null (null_parts w c from (value known dst) t)) site.stands;
    }
    by false t = both_stand sectors known m dst from (limits_refined (instr.Branch w c dst from distance) taken (words (value known dst)) (words (second known from))) site is
        (refined_has w c dst from distance taken (words (value known dst)) (words (second known from)) (word (machine m) dst) (step.second (machine m) from)
        (words_are_limits (words (value known dst)) (words_fit (value known dst) (value_fits known dst site.fits)))
        (words_are_limits (words (second known from)) (words_fit (second known from) (second_fits known from range site.fits)))
        (read_has sectors known m dst site) (second_has sectors known m from site range) h)

-- states that are sent

arrives_left : (sectors : ℕ) (xs ys : List (ℕ × Abstract)) (t : State) → Arrives sectors xs t → Arrives sectors (xs ++ ys) t
arrives_left sectors [] ys t a = absurd a
arrives_left sectors (x ∷ xs) ys t (inl here) = inl here
arrives_left sectors (x ∷ xs) ys t (inr rest) = inr (arrives_left sectors xs ys t rest)

arrives_right : (sectors : ℕ) (xs ys : List (ℕ × Abstract)) (t : State) → Arrives sectors ys t → Arrives sectors (xs ++ ys) t
arrives_right sectors [] ys t a = a
arrives_right sectors (x ∷ xs) ys t a = inr (arrives_right sectors xs ys t a)

arrives_sent : (sectors : ℕ) (m : Parts) (slot : ℕ) (passed : Option Abstract) → Edge sectors m passed
    → Arrives sectors (passed_state slot passed) (machine (record { slot = slot; registers = m.registers; below = m.below; caller = m.caller; stack = m.stack; turns = m.turns; codes = m.codes }))
arrives_sent sectors m slot passed e =
    let to : Parts = record { slot = slot; registers = m.registers; below = m.below; caller = m.caller; stack = m.stack; turns = m.turns; codes = m.codes } in
    subst (λ o. Arrives sectors (passed_state slot o) (machine to)) (sym e.is) (inl (refl, covers_machine sectors e.state to e.stands))

pub branch_goes : (program : List (Option Instr)) (context : List ℕ) (device : List (List ℕ)) (sectors : ℕ) (known : Abstract) (m : Parts) (w : Width) (c : Condition) (dst : ℕ) (from : Source) (distance : ℤ)
    → Site sectors known m → IsSourceInRange from → is_some (at program (m.slot + 1)) ≡ true → is_some (at program (target_slot m.slot distance)) ≡ true
    → first_failing (rules known (instr.Branch w c dst from distance)) ≡ None
    → Goes sectors m (passes sectors known m.slot (instr.Branch w c dst from distance)) (step_of program context device (machine m) (instr.Branch w c dst from distance))
unfolding rules_with passed_with step_of checks effect
branch_goes program context device sectors known m w c dst from distance site range next there keeps =
    by (holds w c (word (machine m) dst) (step.second (machine m) from)) refl
  where
    is : are_set known (dst ∷ source_registers from) ≡ true
    is = (two_tell cause.UnsetRegister cause.PointerAsNumber (are_set known (dst ∷ source_registers from)) (compares known w c dst from) keeps).0

    left : List (ℕ × Abstract)
    left = passed_state (m.slot + 1) (edge_of known (instr.Branch w c dst from distance) false)

    right : List (ℕ × Abstract)
    right = passed_state (target_slot m.slot distance) (edge_of known (instr.Branch w c dst from distance) true)

    goes : (slot : ℕ) → is_some (at program slot) ≡ true
        → Arrives sectors (left ++ right) (machine (record { slot = slot; registers = m.registers; below = m.below; caller = m.caller; stack = m.stack; turns = m.turns; codes = m.codes }))
        → Goes sectors m (left ++ right) (after_checks (machine m) (step.reads (machine m) (dst ∷ source_registers from) ∷ step.goes_on program slot ∷ []) (go_to slot (machine m)))
    goes slot begins arrives =
        let to : Parts = record { slot = slot; registers = m.registers; below = m.below; caller = m.caller; stack = m.stack; turns = m.turns; codes = m.codes } in
        let list_passes = pass_two fault.UnsetRegister fault.NoInstruction (list_all (λ r. is_some (get_or m.registers r None)) (dst ∷ source_registers from)) (is_some (at program slot))
        (reads_set sectors (number m) known m.registers (dst ∷ source_registers from) site.stands.values is) begins in
        subst (Goes sectors m (left ++ right))
        (sym (tested_passes (machine m) (step.reads (machine m) (dst ∷ source_registers from) ∷ step.goes_on program slot ∷ []) (go_to slot (machine m)) list_passes))
        (goes_to sectors to (left ++ right) site.stands.words site.stands.cells site.turns arrives)

    by : (b : Bool) → holds w c (word (machine m) dst) (step.second (machine m) from) ≡ b
        → Goes sectors m (left ++ right) (after_checks (machine m) (step.reads (machine m) (dst ∷ source_registers from) ∷ step.goes_on program (if b then target_slot m.slot distance else m.slot + 1) ∷ [])
        (go_to (if b then target_slot m.slot distance else m.slot + 1) (machine m)))
    by true h = goes (target_slot m.slot distance) there
        (arrives_right sectors left right (machine (record { slot = target_slot m.slot distance; registers = m.registers; below = m.below; caller = m.caller; stack = m.stack; turns = m.turns; codes = m.codes }))
        (arrives_sent sectors m (target_slot m.slot distance) (edge_of known (instr.Branch w c dst from distance) true) (edge_stands sectors known m w c dst from distance true site range is h)))
    by false h = goes (m.slot + 1) next
        (arrives_left sectors left right (machine (record { slot = m.slot + 1; registers = m.registers; below = m.below; caller = m.caller; stack = m.stack; turns = m.turns; codes = m.codes }))
        (arrives_sent sectors m (m.slot + 1) (edge_of known (instr.Branch w c dst from distance) false) (edge_stands sectors known m w c dst from distance false site range is h)))

pub jump_goes : (program : List (Option Instr)) (sectors : ℕ) (known : Abstract) (m : Parts) (slot : ℕ) → Site sectors known m → is_some (at program slot) ≡ true
    → Goes sectors m ((slot, known) ∷ []) (after_checks (machine m) (step.goes_on program slot ∷ []) (go_to slot (machine m)))
jump_goes program sectors known m slot site begins =
    let to : Parts = record { slot = slot; registers = m.registers; below = m.below; caller = m.caller; stack = m.stack; turns = m.turns; codes = m.codes } in
    subst (Goes sectors m ((slot, known) ∷ [])) (sym (tested_passes (machine m) (step.goes_on program slot ∷ []) (go_to slot (machine m)) (pass_one fault.NoInstruction (is_some (at program slot)) begins)))
    (goes_first sectors known to [] site.stands site.turns)
