-- Steps with guards where a rule without them is broken: arithmetic, jumps and loads.
use Rattle.std.proofs.Common.{◌≡◌, ◌<◌, ℕ, zero, suc, ◌+◌, ◌-◌, ◌/◌, ◌%◌, ◌^◌, ◌==◌, nat_lt, not, Bool, true, false, if◌then◌else◌, ℤ, List, [], ◌∷◌, map, get_or, slice_get, Option, None, Some, is_some, refl, sym, ap, ◌∙◌, inl, inr, ◌⊎◌, subst, arith}
use Rattle.std.specs.Prelude.{FitsSigned}
use Rattle.std.specs.Option.{option_and_then}
use Rattle.std.specs.Int.{w16}
use Rattle.std.specs.List.{list_all}
use Rattle.std.proofs.lemmas.Option.{slice_get-get_or}
use Rattle.base.specs.Check.{first_failing}
use Rattle.base.specs.declared.causes.MachineFault.TheVariants as fault
use Rattle.base.specs.declared.causes.VerifierCause.TheVariants as cause
use Rattle.bpf_isa.specs.declared.instr.Instr.{Instr}
use Rattle.bpf_isa.specs.declared.instr.Instr.TheVariants as instr
use Rattle.bpf_isa.specs.declared.instr.Source.{Source}
use Rattle.bpf_isa.specs.declared.instr.Width.{Width}
use Rattle.bpf_isa.specs.declared.instr.Condition.{Condition}
use Rattle.bpf_isa.specs.declared.instr.Operator.{Operator}
use Rattle.bpf_isa.specs.declared.instr.Operator.TheVariants as op
use Rattle.bpf_isa.specs.declared.instr.SignExtension.{SignExtension}
use Rattle.bpf_isa.specs.declared.instr.Order.{Order}
use Rattle.bpf_isa.specs.declared.instr.OrderSize.{OrderSize}
use Rattle.bpf_isa.specs.declared.instr.Size.{Size}
use Rattle.bpf_isa.specs.declared.instr.Size.TheVariants as size
use Rattle.bpf_isa.specs.declared.instr.SignedSize.{SignedSize}
use Rattle.bpf_isa.specs.Slots.{at, target_slot}
use Rattle.bpf_isa.specs.Spelling.{IsSourceInRange}
use Rattle.helpers.specs.declared.device.Context.{Context}
use Rattle.helpers.specs.Answers.{sector_start}
use Rattle.machine.specs.Arithmetic.{arithmetic, sign_extension, in_order, holds}
use Rattle.machine.specs.State.{Frame, word, context_start, stack_start}
use Rattle.machine.specs.Memory as memory
use Rattle.machine.specs.Memory.{context_bytes, byte_count, plain_size, extension_of, number_from, addresses, byte_at, byte_at_place, cell, in_blocks, stacks, is_mapped, all_mapped, all_set}
use Rattle.machine.specs.declared.ByteAt.{ByteAt}
use Rattle.machine.specs.Step as step
use Rattle.machine.specs.Step.{Stepped, Next, Done, Fault, checks, effect, step_of, after_checks, operands, source_registers, set_and_go, go_to}
use Rattle.machine.specs.Guards.{filled_frame, guarded}
use Rattle.machine.proofs.Filled.{filled_set}
use Rattle.intervals.proofs.CallerLemmas.{limits_cover, words_are_limits}
use Rattle.ranges.specs.Passing.{passed_with, edge_with}
use Rattle.ranges.specs.After.{after_with, any_of, loosely_loaded, loosely_loaded_at}
use Rattle.ranges.specs.Rules.{guarded_rules, rules_with, load_rules}
use Rattle.ranges.specs.declared.place.AccessPlace.{AccessPlace}
use Rattle.ranges.specs.declared.place.AccessPlace.TheVariants as place
use Rattle.ranges.specs.Kinds.{Kind, Unset, Word, Num, is_unset}
use Rattle.ranges.specs.States.{Abstract}
use Rattle.ranges.specs.Order.{Each}
use Rattle.ranges.specs.Reading.{value, second, with_value, words, any_word, are_words}
use Rattle.ranges.specs.Places.{place_of, is_inside, is_own_memory}
use Rattle.ranges.proofs.Keeping.{words_fit, value_fits, second_fits}
use Rattle.soundness.specs.Meaning.{Describes, Means}
use Rattle.soundness.specs.Machines.{IsSetting, IsStack}
use Rattle.soundness.proofs.Checks.{first_check, pass_two, pass_three, pass_five, tested_passes, and_parts}
use Rattle.soundness.proofs.Meanings.{means_set, word_in}
use Rattle.soundness.proofs.Standing.{Parts, machine, number, all_frames, Goes, goes_to, covers_machine, set_goes, not_unset}
use Rattle.soundness.proofs.Memory.{number_below, all_pass, in_context, in_sector}
use Rattle.soundness.proofs.Places.{Lands, place_lands}
use Rattle.soundness.proofs.Loads.{AreSmall, small_context, long_context, any_describes, any_word_below, extended_word}
use Rattle.soundness.proofs.Stores.{stack_mapped}
use Rattle.soundness.proofs.Computing.{Site, result_small, computed_has, read_has}

-- What a step comes to there: it writes nothing but the frame at hand and is covered by what is passed on, or it strays.
abbrev pub LooselyGoes : ℕ → Parts → Bool → List (ℕ × Abstract) → Bool → Stepped → Type 0
LooselyGoes sectors m strays arrivals own x = ((own ≡ true) × Goes sectors m arrivals x) ⊎ ((guarded own x ≡ None) × (strays ≡ true))

-- registers that are words

pub words_set : (sectors frame : ℕ) (known : Abstract) (registers : List (Option ℕ)) (list : List ℕ) → ((r : ℕ) → Means sectors frame (value known r) (get_or registers r None))
    → are_words known list ≡ true → list_all (λ r. is_some (get_or registers r None)) list ≡ true
words_set sectors frame known registers [] h e = refl
words_set sectors frame known registers (r ∷ rest) h e =
    let both = and_parts (not (is_unset (value known r))) (are_words known rest) e in
    let means = means_set sectors frame (value known r) (get_or registers r None) (not_unset (is_unset (value known r)) both.0) (h r) in
    rw means.1 (words_set sectors frame known registers rest h both.1)

pub first_word : (sectors : ℕ) (known : Abstract) (m : Parts) (r : ℕ) (rest : List ℕ) → Site sectors known m → are_words known (r ∷ rest) ≡ true
    → Describes sectors (number m) (value known r) (word (machine m) r)
first_word sectors known m r rest s e =
    let both = and_parts (not (is_unset (value known r))) (are_words known rest) e in
    let h = means_set sectors (number m) (value known r) (get_or m.registers r None) (not_unset (is_unset (value known r)) both.0) (s.stands.values r) in
    rw h.1 h.2

-- arithmetic

word_goes : (program : List (Option Instr)) (sectors : ℕ) (known : Abstract) (m : Parts) (dst x : ℕ) (list : List ℕ) → Site sectors known m
    → not (dst == 10) ≡ true → are_words known list ≡ true → is_some (at program (m.slot + 1)) ≡ true → x < 2 ^ 64
    → Goes sectors m ((m.slot + 1, with_value known dst Word) ∷ [])
    (after_checks (machine m) (step.may_write dst ∷ step.reads (machine m) list ∷ step.goes_on program (m.slot + 1) ∷ []) (set_and_go 1 (machine m) dst x))
word_goes program sectors known m dst x list s free are next small =
    set_goes sectors known m (step.may_write dst ∷ step.reads (machine m) list ∷ step.goes_on program (m.slot + 1) ∷ []) 1 dst x Word
    (pass_three fault.FramePointer fault.UnsetRegister fault.NoInstruction (not (dst == 10)) (list_all (λ r. is_some (get_or m.registers r None)) list)
    (is_some (at program (m.slot + 1))) free (words_set sectors (number m) known m.registers list s.stands.values are) next)
    s.fits s.stands s.turns small (x, refl, tt)

pub arithmetic_loose : (program : List (Option Instr)) (context : List ℕ) (device : List (List ℕ)) (sectors : ℕ) (known : Abstract) (m : Parts)
    (w : Width) (o : Operator) (dst : ℕ) (from : Source) → Site sectors known m → IsSourceInRange from → not (dst == 10) ≡ true → is_some (at program (m.slot + 1)) ≡ true
    → first_failing (guarded_rules known (instr.Arithmetic w o dst from)) ≡ None
    → Goes sectors m (passed_with true sectors known m.slot (instr.Arithmetic w o dst from)) (step_of program context device (machine m) (instr.Arithmetic w o dst from))
unfolding rules_with passed_with after_with step_of checks effect
arithmetic_loose program context device sectors known m w o dst from s range free next keeps =
    let are = (first_check cause.UnsetRegister (are_words known (operands o dst from)) [] keeps).0 in
    let x : ℕ = arithmetic w o (word (machine m) dst) (step.second (machine m) from) in
    let small : x < 2 ^ 64 = result_small (instr.Arithmetic w o dst from) (words (value known dst)) (words (second known from)) x
    (words_fit (value known dst) (value_fits known dst s.fits)) (words_fit (second known from) (second_fits known from range s.fits))
    (computed_has sectors known m w o dst from s range) in
    word_goes program sectors known m dst x (operands o dst from) s free are next small

pub negate_loose : (program : List (Option Instr)) (context : List ℕ) (device : List (List ℕ)) (sectors : ℕ) (known : Abstract) (m : Parts)
    (w : Width) (dst : ℕ) → Site sectors known m → not (dst == 10) ≡ true → is_some (at program (m.slot + 1)) ≡ true
    → first_failing (guarded_rules known (instr.Negate w dst)) ≡ None
    → Goes sectors m (passed_with true sectors known m.slot (instr.Negate w dst)) (step_of program context device (machine m) (instr.Negate w dst))
unfolding rules_with passed_with after_with step_of checks effect
negate_loose program context device sectors known m w dst s free next keeps =
    let are = (first_check cause.UnsetRegister (are_words known (dst ∷ [])) [] keeps).0 in
    let x : ℕ = arithmetic w op.Sub 0 (word (machine m) dst) in
    let fits = words_fit (value known dst) (value_fits known dst s.fits) in
    let small : x < 2 ^ 64 = result_small (instr.Negate w dst) (words (value known dst)) (words Unset) x fits (words_fit Unset tt)
    (limits_cover.opposites w dst (words (value known dst)) (words Unset) (word (machine m) dst) (words_are_limits (words (value known dst)) fits) (read_has sectors known m dst s)) in
    word_goes program sectors known m dst x (dst ∷ []) s free are next small

pub extend_loose : (program : List (Option Instr)) (context : List ℕ) (device : List (List ℕ)) (sectors : ℕ) (known : Abstract) (m : Parts)
    (e : SignExtension) (dst src : ℕ) → Site sectors known m → not (dst == 10) ≡ true → is_some (at program (m.slot + 1)) ≡ true
    → first_failing (guarded_rules known (instr.SignExtend e dst src)) ≡ None
    → Goes sectors m (passed_with true sectors known m.slot (instr.SignExtend e dst src)) (step_of program context device (machine m) (instr.SignExtend e dst src))
unfolding rules_with passed_with after_with step_of checks effect
extend_loose program context device sectors known m e dst src s free next keeps =
    let are = (first_check cause.UnsetRegister (are_words known (src ∷ [])) [] keeps).0 in
    let x : ℕ = sign_extension e (word (machine m) src) in
    let fits = words_fit (value known src) (value_fits known src s.fits) in
    let small : x < 2 ^ 64 = result_small (instr.SignExtend e dst src) (words Unset) (words (value known src)) x (words_fit Unset tt) fits
    (limits_cover.signs e dst src (words Unset) (words (value known src)) (word (machine m) src) (words_are_limits (words (value known src)) fits) (read_has sectors known m src s)) in
    word_goes program sectors known m dst x (src ∷ []) s free are next small

pub order_loose : (program : List (Option Instr)) (context : List ℕ) (device : List (List ℕ)) (sectors : ℕ) (known : Abstract) (m : Parts)
    (o : Order) (size : OrderSize) (dst : ℕ) → Site sectors known m → not (dst == 10) ≡ true → is_some (at program (m.slot + 1)) ≡ true
    → first_failing (guarded_rules known (instr.ByteOrder o size dst)) ≡ None
    → Goes sectors m (passed_with true sectors known m.slot (instr.ByteOrder o size dst)) (step_of program context device (machine m) (instr.ByteOrder o size dst))
unfolding rules_with passed_with after_with step_of checks effect
order_loose program context device sectors known m o size dst s free next keeps =
    let are = (first_check cause.UnsetRegister (are_words known (dst ∷ [])) [] keeps).0 in
    let x : ℕ = in_order o size (word (machine m) dst) in
    let fits = words_fit (value known dst) (value_fits known dst s.fits) in
    let small : x < 2 ^ 64 = result_small (instr.ByteOrder o size dst) (words (value known dst)) (words Unset) x fits (words_fit Unset tt)
    (limits_cover.orders o size dst (words (value known dst)) (words Unset) (word (machine m) dst) (words_are_limits (words (value known dst)) fits) (read_has sectors known m dst s)) in
    word_goes program sectors known m dst x (dst ∷ []) s free are next small

-- conditional jumps

pub branch_loose : (program : List (Option Instr)) (context : List ℕ) (device : List (List ℕ)) (sectors : ℕ) (known : Abstract) (m : Parts) (w : Width) (c : Condition) (dst : ℕ) (from : Source) (distance : ℤ)
    → Site sectors known m → is_some (at program (m.slot + 1)) ≡ true → is_some (at program (target_slot m.slot distance)) ≡ true
    → first_failing (guarded_rules known (instr.Branch w c dst from distance)) ≡ None
    → Goes sectors m (passed_with true sectors known m.slot (instr.Branch w c dst from distance)) (step_of program context device (machine m) (instr.Branch w c dst from distance))
unfolding rules_with passed_with edge_with step_of checks effect
branch_loose program context device sectors known m w c dst from distance site next there keeps =
    by (holds w c (word (machine m) dst) (step.second (machine m) from))
  where
    are : are_words known (dst ∷ source_registers from) ≡ true
    are = (first_check cause.UnsetRegister (are_words known (dst ∷ source_registers from)) [] keeps).0

    arrivals : List (ℕ × Abstract)
    arrivals = (m.slot + 1, known) ∷ (target_slot m.slot distance, known) ∷ []

    to : ℕ → Parts
    to slot = record { slot = slot; registers = m.registers; below = m.below; caller = m.caller; stack = m.stack; turns = m.turns; codes = m.codes }

    goes : (slot : ℕ) → is_some (at program slot) ≡ true → (m.slot + 1 ≡ slot) ⊎ (target_slot m.slot distance ≡ slot)
        → Goes sectors m arrivals (after_checks (machine m) (step.reads (machine m) (dst ∷ source_registers from) ∷ step.goes_on program slot ∷ []) (go_to slot (machine m)))
    goes slot begins which =
        let list_passes = pass_two fault.UnsetRegister fault.NoInstruction (list_all (λ r. is_some (get_or m.registers r None)) (dst ∷ source_registers from)) (is_some (at program slot))
        (words_set sectors (number m) known m.registers (dst ∷ source_registers from) site.stands.values are) begins in
        let covers = covers_machine sectors known (to slot) site.stands in
        subst (Goes sectors m arrivals)
        (sym (tested_passes (machine m) (step.reads (machine m) (dst ∷ source_registers from) ∷ step.goes_on program slot ∷ []) (go_to slot (machine m)) list_passes))
        (goes_to sectors (to slot) arrivals site.stands.words site.stands.cells site.turns
        (elim which [ inl e ↦ inl (e, covers) | inr e ↦ inr (inl (e, covers)) ]))

    by : (b : Bool)
        → Goes sectors m arrivals (after_checks (machine m) (step.reads (machine m) (dst ∷ source_registers from) ∷ step.goes_on program (if b then target_slot m.slot distance else m.slot + 1) ∷ [])
        (go_to (if b then target_slot m.slot distance else m.slot + 1) (machine m)))
    by true = goes (target_slot m.slot distance) there (inr refl)
    by false = goes (m.slot + 1) next (inl refl)

-- bytes of the memory are below 256

small_place : (xs : List ℕ) (i : ℕ) → AreSmall xs → memory.value (byte_at_place (slice_get xs i)) < 256
small_place [] i h = omega arith
small_place (x ∷ xs) zero h = h 0
small_place (x ∷ xs) (suc i) h = small_place xs i (λ j. h (suc j))

small_cell : (stack : List (Option ℕ)) (i : ℕ) → ((p b : ℕ) → get_or stack p None ≡ Some b → b < 256) → memory.value (cell (slice_get stack i)) < 256
small_cell [] i h = omega arith
small_cell (None ∷ stack) zero h = omega arith
small_cell (Some b ∷ stack) zero h = h 0 b refl
small_cell (c ∷ stack) (suc i) h = small_cell stack i (λ p b e. h (suc p) b e)

small_stacks : (frames : List Frame) (q i : ℕ) → Each (λ f. IsStack f.stack) frames
    → memory.value (cell (option_and_then (λ (block : List (Option ℕ)). slice_get block i) (slice_get (stacks frames) q))) < 256
small_stacks [] q i h = omega arith
small_stacks (f ∷ frames) zero i h = small_cell f.stack i h.0.bytes
small_stacks (f ∷ frames) (suc q) i h = small_stacks frames q i h.1

small_sectors : (device : List (List ℕ)) (q i : ℕ) → ((n : ℕ) (sector : List ℕ) → slice_get device n ≡ Some sector → AreSmall sector)
    → memory.value (byte_at_place (option_and_then (λ (block : List ℕ). slice_get block i) (slice_get device q))) < 256
small_sectors device q i h = by (slice_get device q) refl
  where
    by : (s : Option (List ℕ)) → slice_get device q ≡ s → memory.value (byte_at_place (option_and_then (λ (block : List ℕ). slice_get block i) s)) < 256
    by None e = omega arith
    by (Some sector) e = small_place sector i (h q sector e)

small_either : (none context stack sector : ByteAt) (low middle high : Bool) → memory.value none < 256 → memory.value context < 256 → memory.value stack < 256 → memory.value sector < 256
    → memory.value (if low then none else if middle then context else if high then stack else sector) < 256
small_either none context stack sector true middle high a b c d = a
small_either none context stack sector false true high a b c d = b
small_either none context stack sector false false true a b c d = c
small_either none context stack sector false false false a b c d = d

small_byte_at : (context : List ℕ) (device : List (List ℕ)) (frames : List Frame) (a : ℕ) → AreSmall context
    → ((n : ℕ) (sector : List ℕ) → slice_get device n ≡ Some sector → AreSmall sector) → Each (λ f. IsStack f.stack) frames → memory.value (byte_at context device frames a) < 256
unfolding byte_at
small_byte_at context device frames a small sectors whole =
    small_either _ _ _ _ (nat_lt a context_start) (nat_lt a stack_start) (nat_lt a sector_start) (omega arith) (small_place context (a - context_start) small)
    (small_stacks frames ((a - stack_start) / 1024) ((a - stack_start) % 1024) whole) (small_sectors device ((a - sector_start) / 1024) ((a - sector_start) % 1024) sectors)

small_list : (f : ℕ → ℕ) (xs : List ℕ) → ((x : ℕ) → f x < 256) → AreSmall (map f xs)
small_list f [] h i = omega arith
small_list f (x ∷ xs) h zero = h x
small_list f (x ∷ xs) h (suc i) = small_list f xs h i

number_small : (bytes : ℕ → ByteAt) (a n : ℕ) → ((q : ℕ) → memory.value (bytes q) < 256) → number_from bytes a n < 256 ^ n
unfolding number_from
number_small bytes a n h = number_below n 0 (map (λ at. memory.value (bytes at)) (addresses a n)) (small_list (λ at. memory.value (bytes at)) (addresses a n) h)

-- a place inside is mapped

place_mapped : (program : List (Option Instr)) (sectors : ℕ) (device : List (List ℕ)) (context : Context) (known : Abstract) (m : Parts) (p : AccessPlace) (n a : ℕ)
    → IsSetting program sectors device context → Site sectors known m → Lands sectors (number m) p n a → all_mapped (byte_at (context_bytes context) device (all_frames m)) a n ≡ true
place_mapped program sectors device context known m place.Outside n a set site lands = absurd lands
place_mapped program sectors device context known m (place.Context q) n a set site lands =
    let bytes : ℕ → ByteAt = byte_at (context_bytes context) device (all_frames m) in
    let long = long_context context in
    all_pass (λ at. is_mapped (bytes at)) n a (omega (arith, lands.0, lands.1))
    (λ i small. ap is_mapped (in_context (context_bytes context) device (all_frames m) (a + i) (q + i) (omega (arith, lands.0)) (omega (arith, long, lands.1, small)) (omega (arith, long))))
place_mapped program sectors device context known m (place.Stack q) n a set site lands =
    stack_mapped (context_bytes context) device m.below m.caller m.stack a q n site.few.frames site.stands.cells.long lands.0 lands.1
place_mapped program sectors device context known m place.Sector n a set site lands =
    let bytes : ℕ → ByteAt = byte_at (context_bytes context) device (all_frames m) in
    let q : ℕ = lands.0 in
    let sector : List ℕ = get_or device q [] in
    let inside = lands.2 in let count = set.count in let most = set.few in
    let there : slice_get device q ≡ Some sector = slice_get-get_or device q [] (omega (arith, inside, count)) in
    let whole = set.whole q sector there in
    all_pass (λ at. is_mapped (bytes at)) n a (omega (arith, lands.3, lands.4, inside, most))
    (λ i small. ap is_mapped (in_sector (context_bytes context) device (all_frames m) sector (a + i) q (lands.1 + i) (omega (arith, lands.4)) (omega (arith, lands.3, small)) there whole.long))

-- loads

-- what is asked of the machine: no byte of its stacks is unset
abbrev pub IsFull : Parts → Type 0
IsFull m = map filled_frame (all_frames m) ≡ all_frames m

-- a load of n bytes that gives x, which is k
loads : (program : List (Option Instr)) (sectors : ℕ) (device : List (List ℕ)) (context : Context) (known : Abstract) (m : Parts) (dst base n x : ℕ) (distance : ℤ) (k : Kind)
    → IsSetting program sectors device context → Site sectors known m → IsFull m → FitsSigned w16 distance → not (dst == 10) ≡ true → is_some (at program (m.slot + 1)) ≡ true
    → are_words known (base ∷ []) ≡ true → x < 2 ^ 64 → Means sectors (number m) k (Some x)
    → LooselyGoes sectors m (not (is_inside (place_of (value known base) distance n))) ((m.slot + 1, with_value known dst k) ∷ []) true
    (after_checks (machine m) (step.load_checks program (byte_at (context_bytes context) device (all_frames m)) (machine m) dst base distance n) (set_and_go 1 (machine m) dst x))
loads program sectors device context known m dst base n x distance k set site full fits free next are small means =
    by (all_mapped bytes a n) refl
  where
    bytes : ℕ → ByteAt
    bytes = byte_at (context_bytes context) device (all_frames m)

    a : ℕ
    a = step.address (machine m) base distance

    p : AccessPlace
    p = place_of (value known base) distance n

    ready : list_all (λ r. is_some (get_or m.registers r None)) (base ∷ []) ≡ true
    ready = words_set sectors (number m) known m.registers (base ∷ []) site.stands.values are

    whole : all_set bytes a n ≡ true
    whole = subst (λ (fs : List Frame). all_set (byte_at (context_bytes context) device fs) a n ≡ true) full (filled_set (context_bytes context) device (all_frames m) a n)

    mapped : is_inside p ≡ true → all_mapped bytes a n ≡ true
    mapped inside = place_mapped program sectors device context known m p n a set site
        (place_lands sectors (number m) (value known base) distance n (word (machine m) base) site.few fits (value_fits known base site.fits) (first_word sectors known m base [] site are) inside)

    outside : (b : Bool) → (b ≡ true → all_mapped bytes a n ≡ true) → all_mapped bytes a n ≡ false → not b ≡ true
    outside false h e = refl
    outside true h e = absurd (let bad : true ≡ false = sym (h refl) ∙ e in cc)

    by : (b : Bool) → all_mapped bytes a n ≡ b
        → LooselyGoes sectors m (not (is_inside p)) ((m.slot + 1, with_value known dst k) ∷ []) true
        (after_checks (machine m) (step.load_checks program bytes (machine m) dst base distance n) (set_and_go 1 (machine m) dst x))
    by true e = inl (
      refl,
      set_goes sectors known m (step.load_checks program bytes (machine m) dst base distance n) 1 dst x k
          (pass_five fault.FramePointer fault.UnsetRegister fault.Unmapped fault.UnsetByte fault.NoInstruction (not (dst == 10))
          (list_all (λ r. is_some (get_or m.registers r None)) (base ∷ [])) (all_mapped bytes a n) (all_set bytes a n) (is_some (at program (m.slot + 1)))
          free ready e whole next) site.fits site.stands site.turns small means,
    )
    by false e = inr (rw (free, ready, e) refl, outside (is_inside p) mapped e)

-- what a load gives that may be of the memory of its own
pub loaded_means : (sectors frame : ℕ) (known : Abstract) (s : Size) (base : ℕ) (distance : ℤ) (x : ℕ) → x < 256 ^ byte_count s → Means sectors frame (loosely_loaded_at known s base distance) (Some x)
loaded_means sectors frame known s base distance x lt = by (is_own_memory (value known base) distance (byte_count s))
  where
    loosely : (s : Size) → x < 256 ^ byte_count s → Means sectors frame (loosely_loaded s) (Some x)
    loosely size.Double lt = (x, refl, tt)
    loosely size.Byte lt = (x, refl, any_describes sectors frame size.Byte x lt)
    loosely size.Half lt = (x, refl, any_describes sectors frame size.Half x lt)
    loosely size.Word lt = (x, refl, any_describes sectors frame size.Word x lt)

    by : (own : Bool) → Means sectors frame (if own then any_of (byte_count s) else loosely_loaded s) (Some x)
    by true = (x, refl, any_describes sectors frame s x lt)
    by false = loosely s lt

pub load_loose : (program : List (Option Instr)) (sectors : ℕ) (device : List (List ℕ)) (context : Context) (known : Abstract) (m : Parts) (s : Size) (dst base : ℕ) (distance : ℤ)
    → IsSetting program sectors device context → Site sectors known m → IsFull m → Each (λ f. IsStack f.stack) (all_frames m) → FitsSigned w16 distance
    → not (dst == 10) ≡ true → is_some (at program (m.slot + 1)) ≡ true → first_failing (guarded_rules known (instr.Load s dst base distance)) ≡ None
    → LooselyGoes sectors m (not (is_inside (place_of (value known base) distance (byte_count s)))) (passed_with true sectors known m.slot (instr.Load s dst base distance)) true
    (step_of program (context_bytes context) device (machine m) (instr.Load s dst base distance))
unfolding rules_with load_rules passed_with after_with step_of checks effect
load_loose program sectors device context known m s dst base distance set site full cells fits free next keeps =
    let are = (first_check cause.UnsetRegister (are_words known (base ∷ [])) [] keeps).0 in
    let n : ℕ = byte_count s in
    let bytes : ℕ → ByteAt = byte_at (context_bytes context) device (all_frames m) in
    let x : ℕ = number_from bytes (step.address (machine m) base distance) n in
    let below : x < 256 ^ n = number_small bytes (step.address (machine m) base distance) n
    (λ q. small_byte_at (context_bytes context) device (all_frames m) q (small_context context) (λ k sector e. (set.whole k sector e).bytes) cells) in
    loads program sectors device context known m dst base n x distance (loosely_loaded_at known s base distance) set site full fits free next are (any_word_below s x below)
    (loaded_means sectors (number m) known s base distance x below)

pub signed_load_loose : (program : List (Option Instr)) (sectors : ℕ) (device : List (List ℕ)) (context : Context) (known : Abstract) (m : Parts) (s : SignedSize) (dst base : ℕ) (distance : ℤ)
    → IsSetting program sectors device context → Site sectors known m → IsFull m → Each (λ f. IsStack f.stack) (all_frames m) → FitsSigned w16 distance
    → not (dst == 10) ≡ true → is_some (at program (m.slot + 1)) ≡ true → first_failing (guarded_rules known (instr.LoadSigned s dst base distance)) ≡ None
    → LooselyGoes sectors m (not (is_inside (place_of (value known base) distance (byte_count (plain_size s))))) (passed_with true sectors known m.slot (instr.LoadSigned s dst base distance)) true
    (step_of program (context_bytes context) device (machine m) (instr.LoadSigned s dst base distance))
unfolding rules_with load_rules passed_with after_with step_of checks effect
signed_load_loose program sectors device context known m s dst base distance set site full cells fits free next keeps =
    let are = (first_check cause.UnsetRegister (are_words known (base ∷ [])) [] keeps).0 in
    let n : ℕ = byte_count (plain_size s) in
    let bytes : ℕ → ByteAt = byte_at (context_bytes context) device (all_frames m) in
    let v : ℕ = number_from bytes (step.address (machine m) base distance) n in
    let below : v < 256 ^ n = number_small bytes (step.address (machine m) base distance) n
    (λ q. small_byte_at (context_bytes context) device (all_frames m) q (small_context context) (λ k sector e. (set.whole k sector e).bytes) cells) in
    let x : ℕ = sign_extension (extension_of s) v in
    let small : x < 2 ^ 64 = extended_word (extension_of s) v (any_word_below (plain_size s) v below) in
    loads program sectors device context known m dst base n x distance (Num any_word) set site full fits free next are small
    (x, refl, word_in 0 (2 ^ 64 - 1) x (omega arith) (omega arith) (omega (arith, small)))
