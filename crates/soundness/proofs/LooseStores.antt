-- Steps with guards where a rule without them is broken: stores and calls of helpers.
use Rattle.std.proofs.Common.{◌≡◌, ◌<◌, ◌≤◌, ℕ, ◌+◌, ◌-◌, ◌*◌, ◌%◌, ◌^◌, nat_le, not, ◌&&◌, Bool, true, false, if◌then◌else◌, ℤ, pos, List, [], ◌∷◌, length, get_or, Option, None, Some, unwrap_or, is_some, refl, sym, ap, ◌∙◌, inl, inr, subst, arith}
use Rattle.std.specs.Prelude.{FitsSigned}
use Rattle.std.specs.Int.{cast_unsigned, w16, w64}
use Rattle.std.specs.List.{list_all}
use Rattle.std.proofs.lemmas.Bool.{cases_lt}
use Rattle.std.proofs.lemmas.Bool.Decides.{nat_tests}
use Rattle.base.specs.Check.{Check, check, first_failing}
use Rattle.base.specs.Numbers.{number_bytes}
use Rattle.base.proofs.Lists.{length-number_bytes}
use Rattle.base.specs.declared.causes.MachineFault.{MachineFault}
use Rattle.base.specs.declared.causes.MachineFault.TheVariants as fault
use Rattle.base.specs.declared.causes.VerifierCause.TheVariants as cause
use Rattle.bpf_isa.specs.declared.instr.Instr.{Instr}
use Rattle.bpf_isa.specs.declared.instr.Instr.TheVariants as instr
use Rattle.bpf_isa.specs.declared.instr.Size.{Size}
use Rattle.bpf_isa.specs.Slots.{at}
use Rattle.helpers.specs.declared.device.Context.{Context}
use Rattle.helpers.specs.declared.helper.Helper.{Helper}
use Rattle.helpers.specs.declared.helper.Helper.TheVariants as helper
use Rattle.helpers.specs.Answers.{device_bytes, copy_answer}
use Rattle.machine.specs.State.{State, word, stack_start}
use Rattle.machine.specs.Memory.{context_bytes, byte_count, byte_at, all_mapped, all_in_stacks, frames_with}
use Rattle.machine.specs.declared.ByteAt.{ByteAt}
use Rattle.machine.specs.Step as step
use Rattle.machine.specs.Step.{Stepped, Next, Done, Fault, checks, effect, step_of, after_checks, call_checks, call_effect, is_length, is_limit, turns_here}
use Rattle.machine.specs.Guards.{own_start, is_own, call_writes_own, writes_own, guarded}
use Rattle.ranges.specs.Passing.{passed_with}
use Rattle.ranges.specs.declared.place.AccessPlace.{AccessPlace}
use Rattle.ranges.specs.declared.place.AccessPlace.TheVariants as place
use Rattle.ranges.specs.Kinds.{Kind, Unset, Word, Num, Ctx, Stack, Sector, SectorOrNull}
use Rattle.ranges.specs.Groups.{GroupKind, Marked, unset_marks, map_places}
use Rattle.ranges.specs.States.{Abstract}
use Rattle.ranges.specs.Order.{IsBounded}
use Rattle.ranges.specs.Reading.{value, is_stack, has_length, are_words}
use Rattle.ranges.specs.Places.{place_of, is_inside, is_own_memory}
use Rattle.ranges.specs.Rules.{length_of, call_rules, guarded_rules, rules_with, store_rules}
use Rattle.ranges.specs.After as after
use Rattle.ranges.specs.After.{is_touched, marks_after, group_after, answer_kind, after_with, call_with, group_forgotten, groups_forgotten, groups_left, loosely_stored}
use Rattle.ranges.proofs.Keeping.{value_fits}
use Rattle.soundness.specs.Meaning.{Describes, Means, GroupMeans}
use Rattle.soundness.specs.Machines.{IsSetting, AreRegisters}
use Rattle.soundness.proofs.Checks.{first_check, two_tell, pass_four, pass_five, tested_passes, and_parts}
use Rattle.soundness.proofs.Standing.{Parts, machine, number, AreFew, number_is, frames_of, all_frames, Stands, Goes, goes_first, answered_stands, described, described_word}
use Rattle.soundness.proofs.Places.{Lands, place_lands}
use Rattle.soundness.proofs.Loads.{AreSmall, small_number}
use Rattle.soundness.proofs.Stacks.{filled, stored_is, filled_is_stack, group_written, places_at, places_long, past_means}
use Rattle.soundness.proofs.Stores.{stack_mapped, stack_in_stacks, stack_place}
use Rattle.helpers.proofs.Queries.{copy_most}
use Rattle.soundness.proofs.Calls.{other_goes, number_means, long_copied, small_copied, length_known}
use Rattle.soundness.proofs.Locals.{no_mark, unset_means}
use Rattle.soundness.proofs.Computing.{Site}
use Rattle.soundness.proofs.OwnPlaces.{Lies, own_lands}
use Rattle.soundness.proofs.Loose.{LooselyGoes, words_set, first_word}

-- bytes of the frame at hand

own_place : (m : Parts) (a n : ℕ) → is_own (machine m) a n ≡ true → (p : ℕ) × (a ≡ stack_start + 1024 * number m + p) × (p + n ≤ 512)
own_place m a n e =
    let h = and_parts (nat_le (own_start (machine m)) a) (nat_le (a + n) (own_start (machine m) + 512)) e in
    let last = number_is m.below (record { stack = m.stack; caller = m.caller }) in
    let low = h.0 in let high = h.1 in
    let start : own_start (machine m) ≡ stack_start + 1024 * number m = omega (arith, last) in
    let from : own_start (machine m) ≤ a = grind (arith, nat_tests) in
    let upto : a + n ≤ own_start (machine m) + 512 = grind (arith, nat_tests) in
    (a - own_start (machine m), omega (arith, start, from), omega (arith, start, from, upto))

own_is : (m : Parts) (a p n : ℕ) → a ≡ stack_start + 1024 * number m + p → p + n ≤ 512 → is_own (machine m) a n ≡ true
own_is m a p n e fits =
    let last = number_is m.below (record { stack = m.stack; caller = m.caller }) in
    let start : own_start (machine m) ≡ stack_start + 1024 * number m = omega (arith, last) in
    let from : own_start (machine m) ≤ a = omega (arith, start, e) in
    let upto : a + n ≤ own_start (machine m) + 512 = omega (arith, start, e, fits) in
    let low : nat_le (own_start (machine m)) a ≡ true = grind (arith, nat_tests) in
    let high : nat_le (a + n) (own_start (machine m) + 512) ≡ true = grind (arith, nat_tests) in
    rw (low, high) refl

-- what the place of a pointer says of an address

abbrev pub Falls : ℕ → Parts → Kind → ℤ → ℕ → ℕ → Type 0
Falls sectors m k distance n a = is_inside (place_of k distance n) ≡ true → Lands sectors (number m) (place_of k distance n) n a

-- n bytes at a distance from a value lie in the frame at hand
abbrev pub in_frame : Kind → ℤ → ℕ → Bool
in_frame k distance n = is_stack k && is_inside (place_of k distance n)

own_of : (sectors : ℕ) (m : Parts) (k : Kind) (distance : ℤ) (n a : ℕ) → Falls sectors m k distance n a → in_frame k distance n ≡ true → is_own (machine m) a n ≡ true
own_of sectors m k distance n a falls e =
    let h = and_parts (is_stack k) (is_inside (place_of k distance n)) e in
    let found = stack_place k distance n h.0 h.1 in
    let lands : Lands sectors (number m) (place.Stack found.0) n a = subst (λ p. Lands sectors (number m) p n a) found.1 (falls h.1) in
    own_is m a found.0 n lands.0 lands.1

-- groups of which nothing is known

one_forgotten : (sectors frame at n g : ℕ) (gk : GroupKind) (stack : List (Option ℕ)) → GroupMeans sectors frame (group_after at n g gk) stack g → GroupMeans sectors frame (group_forgotten at n g gk) stack g
unfolding group_after
one_forgotten sectors frame at n g gk stack m = by (is_touched at n g) m
  where
    by : (b : Bool) → GroupMeans sectors frame (if b then Marked (marks_after at n g gk) else gk) stack g → GroupMeans sectors frame (if b then Marked unset_marks else gk) stack g
    by true m = λ k lt e. absurd (no_mark 8 k e)
    by false m = m

forgotten_means : (sectors frame : ℕ) (groups : List GroupKind) (bytes : List ℕ) (stack : List (Option ℕ)) (at n : ℕ) → length groups ≡ 64 → length bytes ≡ n → at + n ≤ 512 → length stack ≡ 512
    → ((g : ℕ) → GroupMeans sectors frame (get_or groups g (Marked [])) stack g)
    → (g : ℕ) → GroupMeans sectors frame (get_or (map_places (group_forgotten at n) 0 groups) g (Marked [])) (filled stack at bytes) g
forgotten_means sectors frame groups bytes stack at n count some fits long h g =
    elim (cases_lt g 64) [
      | inl lt ↦
          let there : get_or (map_places (group_forgotten at n) 0 groups) g (Marked []) ≡ group_forgotten at n (0 + g) (get_or groups g (Marked [])) =
          places_at (group_forgotten at n) 0 groups g (Marked []) (Marked []) (omega (arith, lt, count)) in
          let z : 0 + g ≡ g = omega arith in
          rw (there, z) (one_forgotten sectors frame at n g (get_or groups g (Marked [])) (filled stack at bytes)
          (group_written sectors frame (get_or groups g (Marked [])) bytes stack at n g some fits long lt (h g)))
      | inr le ↦ past_means sectors frame (map_places (group_forgotten at n) 0 groups) (filled stack at bytes) g (places_long (group_forgotten at n) 0 groups ∙ count) le
    ]

groups_mean : (sectors : ℕ) (known : Abstract) (m : Parts) (k : Kind) (distance : ℤ) (n a p : ℕ) (bytes : List ℕ) → Site sectors known m → Falls sectors m k distance n a → length bytes ≡ n
    → a ≡ stack_start + 1024 * number m + p → p + n ≤ 512
    → (g : ℕ) → GroupMeans sectors (number m) (get_or (groups_forgotten known.groups (place_of k distance n) n) g (Marked [])) (filled m.stack p bytes) g
unfolding groups_forgotten
groups_mean sectors known m k distance n a p bytes site falls some e fits = by (place_of k distance n) falls
  where
    by : (q : AccessPlace) → (is_inside q ≡ true → Lands sectors (number m) q n a)
        → (g : ℕ) → GroupMeans sectors (number m) (get_or (groups_forgotten known.groups q n) g (Marked [])) (filled m.stack p bytes) g
    by (place.Stack r) lands =
        let there = lands refl in
        let same : r ≡ p = omega (arith, there.0, e) in
        rw same (forgotten_means sectors (number m) known.groups bytes m.stack p n site.fits.stack some fits site.stands.cells.long site.stands.groups)
    by place.Outside lands = λ g. unset_means sectors (number m) (filled m.stack p bytes) g
    by place.Sector lands = λ g. unset_means sectors (number m) (filled m.stack p bytes) g
    by (place.Context r) lands = λ g. unset_means sectors (number m) (filled m.stack p bytes) g

-- what is known of a frame that isn't written

kept_means : (sectors frame : ℕ) (groups : List GroupKind) (stack : List (Option ℕ)) (at n : ℕ) → length groups ≡ 64 → ((g : ℕ) → GroupMeans sectors frame (get_or groups g (Marked [])) stack g)
    → (g : ℕ) → GroupMeans sectors frame (get_or (map_places (group_forgotten at n) 0 groups) g (Marked [])) stack g
kept_means sectors frame groups stack at n count h g =
    elim (cases_lt g 64) [
      | inl lt ↦
          let there : get_or (map_places (group_forgotten at n) 0 groups) g (Marked []) ≡ group_forgotten at n (0 + g) (get_or groups g (Marked [])) =
          places_at (group_forgotten at n) 0 groups g (Marked []) (Marked []) (omega (arith, lt, count)) in
          let z : 0 + g ≡ g = omega arith in
          rw (there, z) (one (get_or groups g (Marked [])) (is_touched at n g) (h g))
      | inr le ↦ past_means sectors frame (map_places (group_forgotten at n) 0 groups) stack g (places_long (group_forgotten at n) 0 groups ∙ count) le
    ]
  where
    one : (gk : GroupKind) (b : Bool) → GroupMeans sectors frame gk stack g → GroupMeans sectors frame (if b then Marked unset_marks else gk) stack g
    one gk true m = λ k lt e. absurd (no_mark 8 k e)
    one gk false m = m

pub left_kept : (sectors : ℕ) (known : Abstract) (m : Parts) (k : Kind) (distance : ℤ) (n : ℕ) → Site sectors known m
    → (g : ℕ) → GroupMeans sectors (number m) (get_or (groups_left known.groups k distance n) g (Marked [])) m.stack g
unfolding groups_forgotten
left_kept sectors known m k distance n site = by (is_own_memory k distance n)
  where
    forgotten : (q : AccessPlace) → (g : ℕ) → GroupMeans sectors (number m) (get_or (groups_forgotten known.groups q n) g (Marked [])) m.stack g
    forgotten (place.Stack r) = kept_means sectors (number m) known.groups m.stack r n site.fits.stack site.stands.groups
    forgotten place.Outside = λ g. unset_means sectors (number m) m.stack g
    forgotten place.Sector = λ g. unset_means sectors (number m) m.stack g
    forgotten (place.Context r) = λ g. unset_means sectors (number m) m.stack g

    by : (own : Bool) → (g : ℕ) → GroupMeans sectors (number m) (get_or (if own then known.groups else groups_forgotten known.groups (place_of k distance n) n) g (Marked [])) m.stack g
    by true = site.stands.groups
    by false = forgotten (place_of k distance n)

-- and of one that is: it isn't of the memory of its own
left_mean : (sectors : ℕ) (known : Abstract) (m : Parts) (k : Kind) (distance : ℤ) (n a p : ℕ) (bytes : List ℕ) → Site sectors known m → Falls sectors m k distance n a
    → (is_own_memory k distance n ≡ true → Lies a n) → length bytes ≡ n → a ≡ stack_start + 1024 * number m + p → p + n ≤ 512
    → (g : ℕ) → GroupMeans sectors (number m) (get_or (groups_left known.groups k distance n) g (Marked [])) (filled m.stack p bytes) g
left_mean sectors known m k distance n a p bytes site falls lies some e fits = by (is_own_memory k distance n) refl
  where
    by : (own : Bool) → is_own_memory k distance n ≡ own
        → (g : ℕ) → GroupMeans sectors (number m) (get_or (if own then known.groups else groups_forgotten known.groups (place_of k distance n) n) g (Marked [])) (filled m.stack p bytes) g
    by true is = absurd (let from = (lies is).from in omega (arith, from, e, fits, site.few.frames))
    by false is = groups_mean sectors known m k distance n a p bytes site falls some e fits

-- a step that writes elsewhere, or tries to, strays

store_strays : (s t : State) (x y : Bool)
    → guarded false (after_checks s (check fault.UnsetRegister true ∷ check fault.Unmapped x ∷ check fault.ReadOnly y ∷ check fault.NoInstruction true ∷ []) (Next t)) ≡ None
store_strays s t false y = refl
store_strays s t true false = refl
store_strays s t true true = refl

copy_strays : (s t : State) (x y : Bool)
    → guarded false (after_checks s (check fault.UnsetRegister true ∷ check fault.HelperArgument true ∷ check fault.Unmapped x ∷ check fault.ReadOnly y ∷ check fault.NoInstruction true ∷ []) (Next t)) ≡ None
copy_strays s t false y = refl
copy_strays s t true false = refl
copy_strays s t true true = refl

outside : (b own : Bool) → (b ≡ true → own ≡ true) → own ≡ false → not b ≡ true
outside false own h e = refl
outside true own h e = absurd (let bad : true ≡ false = sym (h refl) ∙ e in cc)

-- stores

stores : (program : List (Option Instr)) (context : List ℕ) (device : List (List ℕ)) (sectors : ℕ) (known : Abstract) (m : Parts) (base : ℕ) (rest : List ℕ) (n x : ℕ) (distance : ℤ)
    → Site sectors known m → FitsSigned w16 distance → is_some (at program (m.slot + 1)) ≡ true → are_words known (base ∷ rest) ≡ true
    → LooselyGoes sectors m (not (in_frame (value known base) distance n)) ((m.slot + 1, loosely_stored known base distance n) ∷ []) (is_own (machine m) (step.address (machine m) base distance) n)
    (after_checks (machine m) (step.reads (machine m) (base ∷ rest) ∷ step.store_tests program (byte_at context device (all_frames m)) (machine m) (step.address (machine m) base distance) n)
    (step.store (machine m) (step.address (machine m) base distance) (number_bytes n x)))
stores program context device sectors known m base rest n x distance site fits next are = by (is_own (machine m) a n) refl
  where
    a : ℕ
    a = step.address (machine m) base distance

    bytes : List ℕ
    bytes = number_bytes n x

    falls : Falls sectors m (value known base) distance n a
    falls inside = place_lands sectors (number m) (value known base) distance n (word (machine m) base) site.few fits (value_fits known base site.fits) (first_word sectors known m base rest site are) inside

    lies : is_own_memory (value known base) distance n ≡ true → Lies a n
    lies own = own_lands sectors (number m) (value known base) distance n (word (machine m) base) fits (first_word sectors known m base rest site are) own

    ready : list_all (λ r. is_some (get_or m.registers r None)) (base ∷ rest) ≡ true
    ready = words_set sectors (number m) known m.registers (base ∷ rest) site.stands.values are

    tests : List (Check MachineFault)
    tests = step.reads (machine m) (base ∷ rest) ∷ step.store_tests program (byte_at context device (all_frames m)) (machine m) a n

    arrivals : List (ℕ × Abstract)
    arrivals = (m.slot + 1, loosely_stored known base distance n) ∷ []

    goes : (p : ℕ) → a ≡ stack_start + 1024 * number m + p → p + n ≤ 512 → Goes sectors m arrivals (after_checks (machine m) tests (step.store (machine m) a bytes))
    goes p e fit =
        let long : length bytes ≡ n = length-number_bytes n x in
        let to : Parts = record { slot = m.slot + 1; registers = m.registers; below = m.below; caller = m.caller; stack = filled m.stack p bytes; turns = m.turns; codes = m.codes } in
        let stands : Stands sectors (number m) (loosely_stored known base distance n) m.registers (filled m.stack p bytes) = record {
          words = site.stands.words;
          cells = filled_is_stack bytes m.stack p (small_number n x) site.stands.cells;
          values = site.stands.values;
          groups = left_mean sectors known m (value known base) distance n a p bytes site falls lies long e fit;
        } in
        let list_passes = pass_four fault.UnsetRegister fault.Unmapped fault.ReadOnly fault.NoInstruction (list_all (λ r. is_some (get_or m.registers r None)) (base ∷ rest))
        (all_mapped (byte_at context device (all_frames m)) a n) (all_in_stacks a n) (is_some (at program (m.slot + 1)))
        ready (stack_mapped context device m.below m.caller m.stack a p n site.few.frames site.stands.cells.long e fit)
        (stack_in_stacks (number m) a p n site.few.frames e fit) next in
        let frames : frames_with (all_frames m) a bytes ≡ frames_of m.below m.caller (filled m.stack p bytes) = stored_is bytes m.below m.caller m.stack a p site.few.frames e (omega (arith, long, fit)) in
        subst (Goes sectors m arrivals)
        (sym (tested_passes (machine m) tests (step.store (machine m) a bytes) list_passes
        ∙ ap (λ f. Next (record { slot = m.slot + 1; registers = m.registers; frames = f; turns = m.turns; codes = m.codes })) frames))
        (goes_first sectors (loosely_stored known base distance n) to [] stands site.turns)

    by : (own : Bool) → is_own (machine m) a n ≡ own → LooselyGoes sectors m (not (in_frame (value known base) distance n)) arrivals own (after_checks (machine m) tests (step.store (machine m) a bytes))
    by true e = let h = own_place m a n e in inl (refl, goes h.0 h.1 h.2)
    by false e = inr (
      rw (ready, next) (store_strays (machine m) _ (all_mapped (byte_at context device (all_frames m)) a n) (all_in_stacks a n)),
      outside (in_frame (value known base) distance n) (is_own (machine m) a n) (own_of sectors m (value known base) distance n a falls) e,
    )

pub store_immediate_loose : (program : List (Option Instr)) (context : List ℕ) (device : List (List ℕ)) (sectors : ℕ) (known : Abstract) (m : Parts) (s : Size) (base : ℕ) (distance : ℤ) (z : ℤ)
    → Site sectors known m → FitsSigned w16 distance → is_some (at program (m.slot + 1)) ≡ true → first_failing (guarded_rules known (instr.StoreImmediate s base distance z)) ≡ None
    → LooselyGoes sectors m (not (in_frame (value known base) distance (byte_count s))) (passed_with true sectors known m.slot (instr.StoreImmediate s base distance z))
    (writes_own (machine m) (instr.StoreImmediate s base distance z)) (step_of program context device (machine m) (instr.StoreImmediate s base distance z))
unfolding rules_with store_rules passed_with after_with step_of checks effect
store_immediate_loose program context device sectors known m s base distance z site fits next keeps =
    stores program context device sectors known m base [] (byte_count s) (cast_unsigned w64 z) distance site fits next (first_check cause.UnsetRegister (are_words known (base ∷ [])) [] keeps).0

pub store_loose : (program : List (Option Instr)) (context : List ℕ) (device : List (List ℕ)) (sectors : ℕ) (known : Abstract) (m : Parts) (s : Size) (base : ℕ) (distance : ℤ) (src : ℕ)
    → Site sectors known m → FitsSigned w16 distance → is_some (at program (m.slot + 1)) ≡ true → first_failing (guarded_rules known (instr.Store s base distance src)) ≡ None
    → LooselyGoes sectors m (not (in_frame (value known base) distance (byte_count s))) (passed_with true sectors known m.slot (instr.Store s base distance src))
    (writes_own (machine m) (instr.Store s base distance src)) (step_of program context device (machine m) (instr.Store s base distance src))
unfolding rules_with store_rules passed_with after_with step_of checks effect
store_loose program context device sectors known m s base distance src site fits next keeps =
    stores program context device sectors known m base (src ∷ []) (byte_count s) (word (machine m) src) distance site fits next (first_check cause.UnsetRegister (are_words known (base ∷ src ∷ [])) [] keeps).0

-- copy

word_small : (registers : List (Option ℕ)) (r : ℕ) → AreRegisters registers → unwrap_or (get_or registers r None) 0 < 2 ^ 64
word_small registers r are = by (get_or registers r None) refl
  where
    by : (c : Option ℕ) → get_or registers r None ≡ c → unwrap_or c 0 < 2 ^ 64
    by None e = omega arith
    by (Some w) e = are.words r w e

copy_words : (known : Abstract) → are_words known (1 ∷ 2 ∷ 3 ∷ []) ≡ true → (are_words known (2 ∷ 3 ∷ []) ≡ true) × (are_words known (3 ∷ []) ≡ true)
copy_words known e =
    let one = and_parts _ _ e in
    let two = and_parts _ _ one.1 in
    (one.1, two.1)

base_word : (sectors frame : ℕ) (k : Kind) (n w : ℕ) → AreFew sectors frame → is_inside (place_of k (pos 0) n) ≡ true → IsBounded k → Describes sectors frame k w → w < 2 ^ 64
unfolding place_of
base_word sectors frame Unset n w few e b d = absurd (let bad : false ≡ true = e in cc)
base_word sectors frame Word n w few e b d = absurd (let bad : false ≡ true = e in cc)
base_word sectors frame (Num x) n w few e b d = absurd (let bad : false ≡ true = e in cc)
base_word sectors frame SectorOrNull n w few e b d = absurd (let bad : false ≡ true = e in cc)
base_word sectors frame (Ctx o) n w few e b d = described_word sectors frame (Ctx o) w few refl b d
base_word sectors frame (Stack o) n w few e b d = described_word sectors frame (Stack o) w few refl b d
base_word sectors frame (Sector x) n w few e b d = described_word sectors frame (Sector x) w few refl b d

-- what is known of its arguments
pub record CopyArguments (sectors : ℕ) (known : Abstract) (m : Parts) : Type 0 where
  pub count : word (machine m) 3 ≡ length_of (value known 3)
  pub length : is_length (length_of (value known 3)) ≡ true
  pub falls : Falls sectors m (value known 2) (pos 0) (length_of (value known 3)) (word (machine m) 2)
  pub lies : is_own_memory (value known 2) (pos 0) (length_of (value known 3)) ≡ true → Lies (word (machine m) 2) (length_of (value known 3))

pub copy_arguments : (sectors : ℕ) (known : Abstract) (m : Parts) → Site sectors known m → first_failing (call_rules true known helper.Copy) ≡ None → CopyArguments sectors known m
unfolding call_rules
copy_arguments sectors known m site keeps =
    let tell = two_tell cause.UnsetRegister cause.HelperArgument (are_words known (1 ∷ 2 ∷ 3 ∷ [])) (has_length (value known 3)) keeps in
    let parts = copy_words known tell.0 in
    let third = first_word sectors known m 3 [] site parts.1 in
    let second = first_word sectors known m 2 (3 ∷ []) site parts.0 in
    let length_is = length_known sectors (number m) (value known 3) (word (machine m) 3) tell.1 third in
    record { count = length_is.0; length = length_is.1; falls = falls second; lies = lies second }
  where
    lies : Describes sectors (number m) (value known 2) (word (machine m) 2) → is_own_memory (value known 2) (pos 0) (length_of (value known 3)) ≡ true
        → Lies (word (machine m) 2) (length_of (value known 3))
    lies second own =
        let n : ℕ = length_of (value known 3) in
        let there = own_lands sectors (number m) (value known 2) (pos 0) n (word (machine m) 2) (omega arith) second own in
        let small : word (machine m) 2 < 2 ^ 64 = word_small m.registers 2 site.stands.words in
        let same : (word (machine m) 2 + cast_unsigned w64 (pos 0)) % 2 ^ 64 ≡ word (machine m) 2 = omega (arith, small) in
        subst (λ (x : ℕ). Lies x n) same there

    falls : Describes sectors (number m) (value known 2) (word (machine m) 2) → Falls sectors m (value known 2) (pos 0) (length_of (value known 3)) (word (machine m) 2)
    falls second inside =
        let n : ℕ = length_of (value known 3) in
        let lands = place_lands sectors (number m) (value known 2) (pos 0) n (word (machine m) 2) site.few (omega arith) (value_fits known 2 site.fits) second inside in
        let small : word (machine m) 2 < 2 ^ 64 = base_word sectors (number m) (value known 2) n (word (machine m) 2) site.few inside (value_fits known 2 site.fits) second in
        let same : (word (machine m) 2 + cast_unsigned w64 (pos 0)) % 2 ^ 64 ≡ word (machine m) 2 = omega (arith, small) in
        subst (Lands sectors (number m) (place_of (value known 2) (pos 0) n) n) same lands

copy_loose : (program : List (Option Instr)) (sectors : ℕ) (device : List (List ℕ)) (context : Context) (known : Abstract) (m : Parts)
    → IsSetting program sectors device context → Site sectors known m → is_some (at program (m.slot + 1)) ≡ true → first_failing (call_rules true known helper.Copy) ≡ None
    → LooselyGoes sectors m (not (in_frame (value known 2) (pos 0) (length_of (value known 3)))) ((m.slot + 1, call_with true known helper.Copy) ∷ []) (call_writes_own (machine m) helper.Copy)
    (after_checks (machine m) (call_checks program (byte_at (context_bytes context) device (all_frames m)) (machine m) helper.Copy) (call_effect device (machine m) helper.Copy))
unfolding call_rules call_with call_checks call_effect
copy_loose program sectors device context known m set site next keeps = by (is_own (machine m) a w) refl
  where
    w : ℕ
    w = word (machine m) 3

    a : ℕ
    a = word (machine m) 2

    n : ℕ
    n = length_of (value known 3)

    told : CopyArguments sectors known m
    told = copy_arguments sectors known m site keeps

    are : are_words known (1 ∷ 2 ∷ 3 ∷ []) ≡ true
    are = (two_tell cause.UnsetRegister cause.HelperArgument (are_words known (1 ∷ 2 ∷ 3 ∷ [])) (has_length (value known 3)) keeps).0

    ready : list_all (λ r. is_some (get_or m.registers r None)) (1 ∷ 2 ∷ 3 ∷ []) ≡ true
    ready = words_set sectors (number m) known m.registers (1 ∷ 2 ∷ 3 ∷ []) site.stands.values are

    measured : is_length w ≡ true
    measured = ap is_length told.count ∙ told.length

    bytes : List ℕ
    bytes = device_bytes device (word (machine m) 1) w

    x : ℕ
    x = copy_answer device (word (machine m) 1) w

    less : Abstract
    less = loosely_stored known 2 (pos 0) n

    arrivals : List (ℕ × Abstract)
    arrivals = (m.slot + 1, after.after_answer less (answer_kind helper.Copy)) ∷ []

    mem : ℕ → ByteAt
    mem = byte_at (context_bytes context) device (all_frames m)

    tests : List (Check MachineFault)
    tests = step.reads (machine m) (1 ∷ 2 ∷ 3 ∷ []) ∷ check fault.HelperArgument (is_length w) ∷ step.store_tests program mem (machine m) a w

    done : Stepped
    done = step.answer_step (record { slot = m.slot; registers = m.registers; frames = frames_with (all_frames m) a bytes; turns = m.turns; codes = m.codes }) x

    goes : (p : ℕ) → a ≡ stack_start + 1024 * number m + p → p + w ≤ 512 → Goes sectors m arrivals (after_checks (machine m) tests done)
    goes p e fit =
        let count = told.count in
        let long : length bytes ≡ n = long_copied device (word (machine m) 1) w ∙ told.count in
        let small : AreSmall bytes = small_copied device (word (machine m) 1) w (λ k sector e. (set.whole k sector e).bytes) in
        let fit_n : p + n ≤ 512 = omega (arith, count, fit) in
        let stack : List (Option ℕ) = filled m.stack p bytes in
        let frames : frames_with (all_frames m) a bytes ≡ frames_of m.below m.caller stack = stored_is bytes m.below m.caller m.stack a p site.few.frames e (omega (arith, long, fit_n)) in
        let stands : Stands sectors (number m) less m.registers stack = record {
          words = site.stands.words;
          cells = filled_is_stack bytes m.stack p small site.stands.cells;
          values = site.stands.values;
          groups = left_mean sectors known m (value known 2) (pos 0) n a p bytes site told.falls told.lies long e fit_n;
        } in
        let most = copy_most device (word (machine m) 1) w in
        let to : Parts = record { slot = m.slot + 1; registers = step.with_answer m.registers x; below = m.below; caller = m.caller; stack = stack; turns = m.turns; codes = m.codes } in
        let last = answered_stands sectors (number m) less m.registers stack (answer_kind helper.Copy) x site.fits.registers (omega (arith, most)) (number_means sectors (number m) 1 x (omega arith) most) stands in
        let list_passes = pass_five fault.UnsetRegister fault.HelperArgument fault.Unmapped fault.ReadOnly fault.NoInstruction
        (list_all (λ r. is_some (get_or m.registers r None)) (1 ∷ 2 ∷ 3 ∷ [])) (is_length w) (all_mapped mem a w) (all_in_stacks a w) (is_some (at program (m.slot + 1)))
        ready measured (stack_mapped (context_bytes context) device m.below m.caller m.stack a p w site.few.frames site.stands.cells.long e fit)
        (stack_in_stacks (number m) a p w site.few.frames e fit) next in
        subst (Goes sectors m arrivals)
        (sym (tested_passes (machine m) tests done list_passes
        ∙ ap (λ f. Next (record { slot = m.slot + 1; registers = step.with_answer m.registers x; frames = f; turns = m.turns; codes = m.codes })) frames))
        (goes_first sectors (after.after_answer less (answer_kind helper.Copy)) to [] last site.turns)

    own_when : in_frame (value known 2) (pos 0) n ≡ true → is_own (machine m) a w ≡ true
    own_when e = ap (is_own (machine m) a) told.count ∙ own_of sectors m (value known 2) (pos 0) n a told.falls e

    by : (own : Bool) → is_own (machine m) a w ≡ own → LooselyGoes sectors m (not (in_frame (value known 2) (pos 0) n)) arrivals own (after_checks (machine m) tests done)
    by true e = let h = own_place m a w e in inl (refl, goes h.0 h.1 h.2)
    by false e = inr (
      rw (ready, measured, next) (copy_strays (machine m) _ (all_mapped mem a w) (all_in_stacks a w)),
      outside (in_frame (value known 2) (pos 0) n) (is_own (machine m) a w) own_when e,
    )

-- whether a call of a helper may write elsewhere than in the frame at hand
abbrev pub outside_frame : Abstract → Helper → Bool
outside_frame known helper.Copy = not (in_frame (value known 2) (pos 0) (length_of (value known 3)))
outside_frame known h = false

pub helper_loose : (program : List (Option Instr)) (sectors : ℕ) (device : List (List ℕ)) (context : Context) (known : Abstract) (m : Parts) (h : Helper)
    → IsSetting program sectors device context → Site sectors known m → is_some (at program (m.slot + 1)) ≡ true
    → (h ≡ helper.Again → is_limit (word (machine m) 1) ≡ true) → first_failing (call_rules true known h) ≡ None
    → LooselyGoes sectors m (outside_frame known h) ((m.slot + 1, call_with true known h) ∷ []) (call_writes_own (machine m) h)
    (after_checks (machine m) (call_checks program (byte_at (context_bytes context) device (all_frames m)) (machine m) h) (call_effect device (machine m) h))
unfolding call_with
helper_loose program sectors device context known m helper.Copy set site next limit keeps = copy_loose program sectors device context known m set site next keeps
helper_loose program sectors device context known m h set site next limit keeps =
    inl (refl, other_goes true program sectors device context known m h refl set site next limit keeps)

-- what isn't guarded writes nothing but the frame at hand

pub own_store : (sectors : ℕ) (known : Abstract) (m : Parts) (base n : ℕ) (distance : ℤ) → Site sectors known m → FitsSigned w16 distance → in_frame (value known base) distance n ≡ true
    → is_own (machine m) (step.address (machine m) base distance) n ≡ true
own_store sectors known m base n distance site fits e =
    let parts = and_parts (is_stack (value known base)) (is_inside (place_of (value known base) distance n)) e in
    own_of sectors m (value known base) distance n (step.address (machine m) base distance)
    (λ inside. place_lands sectors (number m) (value known base) distance n (word (machine m) base) site.few fits (value_fits known base site.fits)
    (pointer (value known base) parts.0 (site.stands.values base)) inside) e
  where
    pointer : (k : Kind) → is_stack k ≡ true → Means sectors (number m) k (get_or m.registers base None) → Describes sectors (number m) k (word (machine m) base)
    pointer (Stack o) f means = described sectors (number m) (Stack o) (get_or m.registers base None) refl means
    pointer _ f means = absurd (let bad : false ≡ true = f in cc)

pub own_copy : (sectors : ℕ) (known : Abstract) (m : Parts) → Site sectors known m → first_failing (call_rules true known helper.Copy) ≡ None
    → in_frame (value known 2) (pos 0) (length_of (value known 3)) ≡ true → is_own (machine m) (word (machine m) 2) (word (machine m) 3) ≡ true
own_copy sectors known m site keeps e =
    let told = copy_arguments sectors known m site keeps in
    ap (is_own (machine m) (word (machine m) 2)) told.count ∙ own_of sectors m (value known 2) (pos 0) (length_of (value known 3)) (word (machine m) 2) told.falls e
