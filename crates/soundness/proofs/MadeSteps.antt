-- Steps in the memory that a program with guards has of its own, and calls of checksums.
use Rattle.std.proofs.Common.{◌≡◌, ◌<◌, ◌≤◌, ℕ, zero, suc, ◌+◌, ◌-◌, ◌%◌, ◌^◌, not, Bool, true, false, if◌then◌else◌, ℤ, pos, List, [], ◌∷◌, length, map, take, get_or, slice_set, Option, None, Some, is_some, refl, sym, ap, ◌∙◌, subst, arith}
use Rattle.std.specs.Prelude.{FitsSigned}
use Rattle.std.specs.Option.{option_map, option_map_or}
use Rattle.std.specs.Int.{cast_unsigned, w16, w64}
use Rattle.std.specs.List.{list_all}
use Rattle.std.proofs.Math.Nat.{mod-lt}
use Rattle.base.specs.Check.{Check, check, first_failing}
use Rattle.base.specs.Numbers.{number_at, number_bytes}
use Rattle.base.specs.Sizes.{most_sectors}
use Rattle.base.proofs.Lists.{length-number_bytes}
use Rattle.base.specs.declared.causes.MachineFault.{MachineFault}
use Rattle.base.specs.declared.causes.MachineFault.TheVariants as fault
use Rattle.base.specs.declared.causes.VerifierCause.TheVariants as cause
use Rattle.bpf_isa.specs.declared.instr.Instr.{Instr}
use Rattle.bpf_isa.specs.declared.instr.Instr.TheVariants as instr
use Rattle.bpf_isa.specs.declared.instr.Size.{Size}
use Rattle.bpf_isa.specs.declared.instr.SignedSize.{SignedSize}
use Rattle.bpf_isa.specs.Slots.{at}
use Rattle.checksums.specs.declared.polynomial.Polynomial.{Polynomial}
use Rattle.checksums.specs.declared.polynomial.Polynomial.TheVariants as polynomial
use Rattle.helpers.specs.declared.device.Context.{Context}
use Rattle.helpers.specs.declared.helper.Helper.{Helper}
use Rattle.helpers.specs.declared.helper.Helper.TheVariants as helper
use Rattle.helpers.specs.declared.sums.Checksum.{Checksum}
use Rattle.helpers.specs.declared.sums.Checksum.TheVariants as of
use Rattle.helpers.specs.Answers.{device_bytes, copy_answer}
use Rattle.helpers.specs.Sums.{polynomial_of, taken, sum_answer}
use Rattle.helpers.specs.Queries.{query_for, query_arguments, query_answer, query_kind}
use Rattle.helpers.proofs.Queries.{copy_most}
use Rattle.machine.specs.Arithmetic.{sign_extension}
use Rattle.machine.specs.State.{Frame, State, word}
use Rattle.machine.specs.Memory.{byte_count, plain_size, extension_of, byte_at, context_bytes}
use Rattle.machine.specs.OwnMemory.{memory_start, is_in_memory, overwritten}
use Rattle.machine.specs.Step as step
use Rattle.machine.specs.Step.{Stepped, Next, Done, Fault, after_checks, call_checks, call_effect, is_length, go_to, set_and_go, answer_step}
use Rattle.machine.specs.Guards.{filled_frame, filled, Made, goes_next, memory_load, memory_write, memory_call, memory_step, own_bytes, answers_step, sum_step, with_memory}
use Rattle.ranges.specs.Kinds.{Kind, Num}
use Rattle.ranges.specs.Groups.{GroupKind, Marked}
use Rattle.ranges.specs.States.{Abstract}
use Rattle.ranges.specs.Reading.{value, with_value, any_word, are_words, has_length}
use Rattle.ranges.specs.Places.{is_own_memory}
use Rattle.ranges.specs.Rules.{are_read, are_numbers, length_of, call_rules, guarded_rules, rules_with, store_rules, load_rules}
use Rattle.ranges.specs.After as after
use Rattle.ranges.specs.After.{answer_kind, kind_answered, after_with, call_with, loosely_loaded_at, loosely_stored}
use Rattle.ranges.specs.Guards.{is_guarded_sum}
use Rattle.ranges.specs.Passing.{passed_with}
use Rattle.soundness.specs.Meaning.{Means}
use Rattle.soundness.specs.Machines.{IsSetting}
use Rattle.soundness.specs.Guards.{IsOwn}
use Rattle.soundness.proofs.Checks.{first_check, pass_one, two_tell, tested_passes}
use Rattle.soundness.proofs.Meanings.{word_in}
use Rattle.soundness.proofs.Standing.{Parts, machine, number, all_frames, Stands, Goes, goes_first, answered_stands, set_goes}
use Rattle.soundness.proofs.Loads.{AreSmall, small_number, any_word_below, extended_word}
use Rattle.soundness.proofs.Calls.{answers, reads_pass, read_set, other_goes, number_means, long_copied, small_copied}
use Rattle.soundness.proofs.Computing.{Site}
use Rattle.soundness.proofs.OwnPlaces.{Lies, own_lands, in_memory, lies, held_below, written_own}
use Rattle.soundness.proofs.Loose.{IsFull, first_word, loaded_means}
use Rattle.soundness.proofs.LooseStores.{CopyArguments, copy_arguments, left_kept}

-- no byte of a stack is unset after it
abbrev pub IsFilledStep : Stepped → Type 0
IsFilledStep (Next t) = filled t ≡ t
IsFilledStep _ = Unit {0}

-- what such a step comes to: it goes where the states are passed, and the memory has bytes; or it strays
abbrev pub MadeGoes : ℕ → Parts → Bool → List (ℕ × Abstract) → Option Made → Type 0
MadeGoes sectors m strays arrivals None = strays ≡ true
MadeGoes sectors m strays arrivals (Some made) = IsOwn made.memory × (IsFilledStep made.stepped × Goes sectors m arrivals made.stepped)

full_state : (t : State) → map filled_frame t.frames ≡ t.frames → filled t ≡ t
unfolding filled
full_state t h = ap (λ (fs : List Frame). record t { frames = fs }) h

-- what isn't in the memory isn't proved to be
not_proved : (device : List (List ℕ)) (a n : ℕ) (own : Bool) → length device ≤ most_sectors → (own ≡ true → Lies a n) → is_in_memory device a n ≡ false → not own ≡ true
not_proved device a n true few h e = absurd (let bad : true ≡ false = sym (in_memory device a n few (h refl)) ∙ e in cc)
not_proved device a n false few h e = refl

few_sectors : (program : List (Option Instr)) (sectors : ℕ) (device : List (List ℕ)) (context : Context) → IsSetting program sectors device context → length device ≤ most_sectors
few_sectors program sectors device context set = let count = set.count in let few = set.few in omega (arith, count, few)

-- loads

-- a number that is read is a word, and means this
abbrev Reads : ℕ → Parts → Kind → (ℕ → ℕ) → ℕ → Type 0
Reads sectors m k read n = (v : ℕ) → v < 256 ^ n → (read v < 2 ^ 64) × Means sectors (number m) k (Some (read v))

load_made : (program : List (Option Instr)) (sectors : ℕ) (device : List (List ℕ)) (known : Abstract) (m : Parts) (own : List ℕ) (dst a n : ℕ) (read : ℕ → ℕ) (k : Kind) (strays : Bool)
    → Site sectors known m → IsFull m → IsOwn own → is_some (at program (m.slot + 1)) ≡ true → Reads sectors m k read n → (is_in_memory device a n ≡ false → strays ≡ true)
    → MadeGoes sectors m strays ((m.slot + 1, with_value known dst k) ∷ []) (memory_load program device own (machine m) dst read a n)
load_made program sectors device known m own dst a n read k strays site full bytes next reads beyond = by (is_in_memory device a n) refl
  where
    v : ℕ
    v = number_at n (a - memory_start) own

    list : List (Check MachineFault)
    list = step.goes_on program (m.slot + 1) ∷ []

    passes : first_failing list ≡ None
    passes = pass_one fault.NoInstruction (is_some (at program (m.slot + 1))) next

    whole : IsFilledStep (after_checks (machine m) list (set_and_go 1 (machine m) dst (read v)))
    whole = subst IsFilledStep (sym (tested_passes (machine m) list (set_and_go 1 (machine m) dst (read v)) passes))
        (full_state (record { slot = m.slot + 1; registers = slice_set m.registers dst (Some (read v)); frames = all_frames m; turns = m.turns; codes = m.codes }) full)

    by : (b : Bool) → is_in_memory device a n ≡ b
        → MadeGoes sectors m strays ((m.slot + 1, with_value known dst k) ∷ [])
        (if b then Some (record { stepped = after_checks (machine m) list (set_and_go 1 (machine m) dst (read v)); memory = own }) else None)
    by true e =
        let told = reads v (held_below n (a - memory_start) own bytes) in
        (bytes, (whole, set_goes sectors known m list 1 dst (read v) k passes site.fits site.stands site.turns told.0 told.1))
    by false e = beyond e

-- stores and copies

write_made : (program : List (Option Instr)) (sectors : ℕ) (device : List (List ℕ)) (m : Parts) (own : List ℕ) (t : State) (a : ℕ) (bytes : List ℕ) (n : ℕ) (strays : Bool) (arrivals : List (ℕ × Abstract))
    → IsOwn own → is_some (at program (m.slot + 1)) ≡ true → AreSmall bytes → length bytes ≡ n → filled t ≡ t → Goes sectors m arrivals (Next t)
    → (is_in_memory device a n ≡ false → strays ≡ true)
    → MadeGoes sectors m strays arrivals (memory_write program device own (machine m) (Next t) a bytes n)
write_made program sectors device m own t a bytes n strays arrivals are next small long full goes beyond = by (is_in_memory device a n) refl
  where
    list : List (Check MachineFault)
    list = step.goes_on program (m.slot + 1) ∷ []

    is : after_checks (machine m) list (Next t) ≡ Next t
    is = tested_passes (machine m) list (Next t) (pass_one fault.NoInstruction (is_some (at program (m.slot + 1))) next)

    by : (b : Bool) → is_in_memory device a n ≡ b
        → MadeGoes sectors m strays arrivals (if b then Some (record { stepped = after_checks (machine m) list (Next t); memory = overwritten (a - memory_start) bytes own }) else None)
    by true e =
        let there = lies device a n e in
        let from = there.from in let upto = there.upto in
        (written_own (a - memory_start) bytes own are small (omega (arith, from, upto, long)), (subst IsFilledStep (sym is) full, subst (Goes sectors m arrivals) (sym is) goes))
    by false e = beyond e

-- a frame that isn't written
left_stands : (sectors : ℕ) (known : Abstract) (m : Parts) (base : ℕ) (distance : ℤ) (n : ℕ) → Site sectors known m
    → Stands sectors (number m) (loosely_stored known base distance n) m.registers m.stack
left_stands sectors known m base distance n site =
    record { words = site.stands.words; cells = site.stands.cells; values = site.stands.values; groups = left_kept sectors known m (value known base) distance n site }

store_made : (program : List (Option Instr)) (sectors : ℕ) (device : List (List ℕ)) (context : Context) (known : Abstract) (m : Parts) (own : List ℕ) (base : ℕ) (rest : List ℕ) (n x : ℕ) (distance : ℤ)
    → IsSetting program sectors device context → Site sectors known m → IsFull m → IsOwn own → FitsSigned w16 distance → is_some (at program (m.slot + 1)) ≡ true → are_words known (base ∷ rest) ≡ true
    → MadeGoes sectors m (not (is_own_memory (value known base) distance n)) ((m.slot + 1, loosely_stored known base distance n) ∷ [])
    (memory_write program device own (machine m) (go_to (m.slot + 1) (machine m)) (step.address (machine m) base distance) (number_bytes n x) n)
store_made program sectors device context known m own base rest n x distance set site full bytes fits next are =
    let to : Parts = record { slot = m.slot + 1; registers = m.registers; below = m.below; caller = m.caller; stack = m.stack; turns = m.turns; codes = m.codes } in
    let a : ℕ = step.address (machine m) base distance in
    write_made program sectors device m own (machine to) a (number_bytes n x) n (not (is_own_memory (value known base) distance n))
    ((m.slot + 1, loosely_stored known base distance n) ∷ []) bytes next (small_number n x) (length-number_bytes n x) (full_state (machine to) full)
    (goes_first sectors (loosely_stored known base distance n) to [] (left_stands sectors known m base distance n site) site.turns)
    (not_proved device a n (is_own_memory (value known base) distance n) (few_sectors program sectors device context set)
    (own_lands sectors (number m) (value known base) distance n (word (machine m) base) fits (first_word sectors known m base rest site are)))

pub copy_made : (program : List (Option Instr)) (sectors : ℕ) (device : List (List ℕ)) (context : Context) (known : Abstract) (m : Parts) (own : List ℕ)
    → IsSetting program sectors device context → Site sectors known m → IsFull m → IsOwn own → is_some (at program (m.slot + 1)) ≡ true → first_failing (call_rules true known helper.Copy) ≡ None
    → MadeGoes sectors m (not (is_own_memory (value known 2) (pos 0) (length_of (value known 3)))) ((m.slot + 1, call_with true known helper.Copy) ∷ [])
    (memory_call program device own (machine m) helper.Copy)
unfolding call_with
copy_made program sectors device context known m own set site full are next keeps =
    subst (λ (b : Bool). MadeGoes sectors m strays arrivals (if b then memory_write program device own (machine m) (answer_step (machine m) x) a bytes w else None)) (sym measured) written
  where
    w : ℕ
    w = word (machine m) 3

    a : ℕ
    a = word (machine m) 2

    told : CopyArguments sectors known m
    told = copy_arguments sectors known m site keeps

    measured : is_length w ≡ true
    measured = ap is_length told.count ∙ told.length

    bytes : List ℕ
    bytes = device_bytes device (word (machine m) 1) w

    x : ℕ
    x = copy_answer device (word (machine m) 1) w

    less : Abstract
    less = loosely_stored known 2 (pos 0) (length_of (value known 3))

    arrivals : List (ℕ × Abstract)
    arrivals = (m.slot + 1, after.after_answer less (answer_kind helper.Copy)) ∷ []

    strays : Bool
    strays = not (is_own_memory (value known 2) (pos 0) (length_of (value known 3)))

    to : Parts
    to = record { slot = m.slot + 1; registers = step.with_answer m.registers x; below = m.below; caller = m.caller; stack = m.stack; turns = m.turns; codes = m.codes }

    written : MadeGoes sectors m strays arrivals (memory_write program device own (machine m) (answer_step (machine m) x) a bytes w)
    written =
        let most = copy_most device (word (machine m) 1) w in
        let last = answered_stands sectors (number m) less m.registers m.stack (answer_kind helper.Copy) x site.fits.registers (omega (arith, most)) (number_means sectors (number m) 1 x (omega arith) most)
        (left_stands sectors known m 2 (pos 0) (length_of (value known 3)) site) in
        write_made program sectors device m own (machine to) a bytes w strays arrivals are next (small_copied device (word (machine m) 1) w (λ k sector e. (set.whole k sector e).bytes))
        (long_copied device (word (machine m) 1) w) (full_state (machine to) full) (goes_first sectors (after.after_answer less (answer_kind helper.Copy)) to [] last site.turns)
        (λ e. not_proved device a (length_of (value known 3)) (is_own_memory (value known 2) (pos 0) (length_of (value known 3))) (few_sectors program sectors device context set) told.lies
        (ap (is_in_memory device a) (sym told.count) ∙ e))

-- checksums

sum_most : (p : Polynomial) (seed : ℕ) (bytes : List ℕ) → sum_answer p seed bytes ≤ 2 ^ 32 - 1
unfolding sum_answer
sum_most p seed bytes = let small : sum_answer p seed bytes < 2 ^ 32 = mod-lt _ (omega arith) in omega (arith, small)

-- what is known after one
abbrev pub summed : Abstract → Checksum → Abstract
summed known c = after.after_answer known (answer_kind (helper.Query (query_for (polynomial_of c))))

answer_made : (program : List (Option Instr)) (sectors : ℕ) (known : Abstract) (m : Parts) (own : List ℕ) (list : List ℕ) (x : ℕ) (strays : Bool) (arrivals : List (ℕ × Abstract))
    → Site sectors known m → IsFull m → IsOwn own → is_some (at program (m.slot + 1)) ≡ true → are_read true known list ≡ true
    → Goes sectors m arrivals (answers_step program (machine m) list x)
    → MadeGoes sectors m strays arrivals (Some (record { stepped = answers_step program (machine m) list x; memory = own }))
answer_made program sectors known m own list x strays arrivals site full bytes next is goes =
    let passes = reads_pass true program sectors known m list site is next in
    let t : State = record { slot = m.slot + 1; registers = step.with_answer m.registers x; frames = all_frames m; turns = m.turns; codes = m.codes } in
    (bytes, (subst IsFilledStep (sym (tested_passes (machine m) (step.reads (machine m) list ∷ step.goes_on program (m.slot + 1) ∷ []) (answer_step (machine m) x) passes)) (full_state t full), goes))

arguments_read : (known : Abstract) (list : List ℕ) → first_failing (check cause.UnsetRegister (are_read true known list) ∷ check cause.HelperArgument true ∷ []) ≡ None → are_read true known list ≡ true
arguments_read known list keeps = (first_check cause.UnsetRegister (are_read true known list) (check cause.HelperArgument true ∷ []) keeps).0

pub sum_made : (program : List (Option Instr)) (sectors : ℕ) (device : List (List ℕ)) (context : Context) (known : Abstract) (m : Parts) (own : List ℕ) (c : Checksum)
    → IsSetting program sectors device context → Site sectors known m → IsFull m → IsOwn own → is_some (at program (m.slot + 1)) ≡ true
    → first_failing (call_rules true known (helper.Query (query_for (polynomial_of c)))) ≡ None
    → MadeGoes sectors m (is_guarded_sum c) ((m.slot + 1, summed known c) ∷ []) (with_memory own (sum_step program device own (machine m) c))
unfolding sum_step call_rules call_checks call_effect
sum_made program sectors device context known m own (of.OfDevice p) set site full bytes next keeps =
    answer_made program sectors known m own (query_arguments (query_for p)) (query_answer device (query_for p) (word (machine m) 1) (word (machine m) 2) (word (machine m) 3)) false
    ((m.slot + 1, summed known (of.OfDevice p)) ∷ []) site full bytes next (arguments_read known (query_arguments (query_for p)) keeps)
    (other_goes true program sectors device context known m (helper.Query (query_for p)) refl set site next (λ e. absurd (let bad : helper.Query (query_for p) ≡ helper.Again = e in cc)) keeps)
sum_made program sectors device context known m own (of.OfMemory p) set site full bytes next keeps =
    by_checks (first_failing (step.reads (machine m) (1 ∷ 2 ∷ 3 ∷ []) ∷ [])) (pass_one fault.UnsetRegister (list_all (λ r. is_some (get_or m.registers r None)) (1 ∷ 2 ∷ 3 ∷ [])) (read_set true sectors known m (1 ∷ 2 ∷ 3 ∷ []) site (are p keeps)))
  where
    arrivals : List (ℕ × Abstract)
    arrivals = (m.slot + 1, summed known (of.OfMemory p)) ∷ []

    are : (p : Polynomial) → first_failing (check cause.UnsetRegister (are_read true known (query_arguments (query_for p))) ∷ check cause.HelperArgument true ∷ []) ≡ None
        → are_read true known (1 ∷ 2 ∷ 3 ∷ []) ≡ true
    are polynomial.Castagnoli k = arguments_read known (1 ∷ 2 ∷ 3 ∷ []) k
    are polynomial.Iso3309 k = arguments_read known (1 ∷ 2 ∷ 3 ∷ []) k

    means : (p : Polynomial) (x : ℕ) → x ≤ 2 ^ 32 - 1 → Means sectors (number m) (kind_answered (query_kind (query_for p))) (Some x)
    means polynomial.Castagnoli x le = number_means sectors (number m) (2 ^ 32 - 1) x (omega arith) le
    means polynomial.Iso3309 x le = number_means sectors (number m) (2 ^ 32 - 1) x (omega arith) le

    asked : Option (List ℕ)
    asked = own_bytes device own (machine m) (word (machine m) 2) (taken (word (machine m) 3))

    by_bytes : (found : Option (List ℕ))
        → MadeGoes sectors m true arrivals (with_memory own (option_map (λ (bs : List ℕ). answers_step program (machine m) (1 ∷ 2 ∷ 3 ∷ []) (sum_answer p (word (machine m) 1) bs)) found))
    by_bytes None = refl
    by_bytes (Some bs) =
        let x : ℕ = sum_answer p (word (machine m) 1) bs in
        let most = sum_most p (word (machine m) 1) bs in
        answer_made program sectors known m own (1 ∷ 2 ∷ 3 ∷ []) x true arrivals site full bytes next (are p keeps)
        (answers sectors known m (step.reads (machine m) (1 ∷ 2 ∷ 3 ∷ []) ∷ step.goes_on program (m.slot + 1) ∷ []) (kind_answered (query_kind (query_for p))) x m.turns m.codes site site.turns
        (reads_pass true program sectors known m (1 ∷ 2 ∷ 3 ∷ []) site (are p keeps) next) (omega (arith, most)) (means p x most))

    by_checks : (f : Option MachineFault) → f ≡ None
        → MadeGoes sectors m true arrivals (with_memory own (option_map_or (λ (c : MachineFault). Some (Fault c m.slot)) f
        (option_map (λ (bs : List ℕ). answers_step program (machine m) (1 ∷ 2 ∷ 3 ∷ []) (sum_answer p (word (machine m) 1) bs)) asked)))
    by_checks None e = by_bytes asked
    by_checks (Some c) e = absurd (let bad : Some c ≡ None = e in cc)

-- each instruction that may have its place in the memory

pub load_step : (program : List (Option Instr)) (sectors : ℕ) (device : List (List ℕ)) (context : Context) (known : Abstract) (m : Parts) (own : List ℕ) (s : Size) (dst base : ℕ) (distance : ℤ)
    → IsSetting program sectors device context → Site sectors known m → IsFull m → IsOwn own → FitsSigned w16 distance → is_some (at program (m.slot + 1)) ≡ true
    → first_failing (guarded_rules known (instr.Load s dst base distance)) ≡ None
    → MadeGoes sectors m (not (is_own_memory (value known base) distance (byte_count s))) (passed_with true sectors known m.slot (instr.Load s dst base distance))
    (memory_step program device own (machine m) (instr.Load s dst base distance))
unfolding rules_with load_rules passed_with after_with memory_step
load_step program sectors device context known m own s dst base distance set site full bytes fits next keeps =
    let are = (first_check cause.UnsetRegister (are_words known (base ∷ [])) [] keeps).0 in
    let a : ℕ = step.address (machine m) base distance in
    let n : ℕ = byte_count s in
    load_made program sectors device known m own dst a n (λ x. x) (loosely_loaded_at known s base distance) (not (is_own_memory (value known base) distance n)) site full bytes next
    (λ v lt. (any_word_below s v lt, loaded_means sectors (number m) known s base distance v lt))
    (not_proved device a n (is_own_memory (value known base) distance n) (few_sectors program sectors device context set)
    (own_lands sectors (number m) (value known base) distance n (word (machine m) base) fits (first_word sectors known m base [] site are)))

pub signed_load_step : (program : List (Option Instr)) (sectors : ℕ) (device : List (List ℕ)) (context : Context) (known : Abstract) (m : Parts) (own : List ℕ) (s : SignedSize) (dst base : ℕ) (distance : ℤ)
    → IsSetting program sectors device context → Site sectors known m → IsFull m → IsOwn own → FitsSigned w16 distance → is_some (at program (m.slot + 1)) ≡ true
    → first_failing (guarded_rules known (instr.LoadSigned s dst base distance)) ≡ None
    → MadeGoes sectors m (not (is_own_memory (value known base) distance (byte_count (plain_size s)))) (passed_with true sectors known m.slot (instr.LoadSigned s dst base distance))
    (memory_step program device own (machine m) (instr.LoadSigned s dst base distance))
unfolding rules_with load_rules passed_with after_with memory_step
signed_load_step program sectors device context known m own s dst base distance set site full bytes fits next keeps =
    let are = (first_check cause.UnsetRegister (are_words known (base ∷ [])) [] keeps).0 in
    let a : ℕ = step.address (machine m) base distance in
    let n : ℕ = byte_count (plain_size s) in
    load_made program sectors device known m own dst a n (sign_extension (extension_of s)) (Num any_word) (not (is_own_memory (value known base) distance n)) site full bytes next
    (λ v lt. let small : sign_extension (extension_of s) v < 2 ^ 64 = extended_word (extension_of s) v (any_word_below (plain_size s) v lt) in
    (small, (sign_extension (extension_of s) v, refl, word_in 0 (2 ^ 64 - 1) (sign_extension (extension_of s) v) (omega arith) (omega arith) (omega (arith, small)))))
    (not_proved device a n (is_own_memory (value known base) distance n) (few_sectors program sectors device context set)
    (own_lands sectors (number m) (value known base) distance n (word (machine m) base) fits (first_word sectors known m base [] site are)))

pub store_immediate_step : (program : List (Option Instr)) (sectors : ℕ) (device : List (List ℕ)) (context : Context) (known : Abstract) (m : Parts) (own : List ℕ) (s : Size) (base : ℕ) (distance z : ℤ)
    → IsSetting program sectors device context → Site sectors known m → IsFull m → IsOwn own → FitsSigned w16 distance → is_some (at program (m.slot + 1)) ≡ true
    → first_failing (guarded_rules known (instr.StoreImmediate s base distance z)) ≡ None
    → MadeGoes sectors m (not (is_own_memory (value known base) distance (byte_count s))) (passed_with true sectors known m.slot (instr.StoreImmediate s base distance z))
    (memory_step program device own (machine m) (instr.StoreImmediate s base distance z))
unfolding rules_with store_rules passed_with after_with memory_step
store_immediate_step program sectors device context known m own s base distance z set site full bytes fits next keeps =
    store_made program sectors device context known m own base [] (byte_count s) (cast_unsigned w64 z) distance set site full bytes fits next (first_check cause.UnsetRegister (are_words known (base ∷ [])) [] keeps).0

pub store_step : (program : List (Option Instr)) (sectors : ℕ) (device : List (List ℕ)) (context : Context) (known : Abstract) (m : Parts) (own : List ℕ) (s : Size) (base : ℕ) (distance : ℤ) (src : ℕ)
    → IsSetting program sectors device context → Site sectors known m → IsFull m → IsOwn own → FitsSigned w16 distance → is_some (at program (m.slot + 1)) ≡ true
    → first_failing (guarded_rules known (instr.Store s base distance src)) ≡ None
    → MadeGoes sectors m (not (is_own_memory (value known base) distance (byte_count s))) (passed_with true sectors known m.slot (instr.Store s base distance src))
    (memory_step program device own (machine m) (instr.Store s base distance src))
unfolding rules_with store_rules passed_with after_with memory_step
store_step program sectors device context known m own s base distance src set site full bytes fits next keeps =
    store_made program sectors device context known m own base (src ∷ []) (byte_count s) (word (machine m) src) distance set site full bytes fits next (first_check cause.UnsetRegister (are_words known (base ∷ src ∷ [])) [] keeps).0
