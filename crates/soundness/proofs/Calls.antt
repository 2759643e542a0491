-- Helper calls: what is known after them.
use Rattle.std.proofs.Common.{◌≡◌, ◌<◌, ◌≤◌, ℕ, zero, suc, ◌+◌, ◌*◌, ◌/◌, ◌%◌, ◌^◌, ◌&&◌, ◌||◌, nat_lt, Bool, true, false, if◌then◌else◌, pos, List, [], ◌∷◌, length, map, get_or, slice_get, slice_index, Option, None, Some, is_some, refl, sym, ap, ◌∙◌, subst, arith}
use Rattle.std.specs.Prelude.{set}
use Rattle.std.specs.Option.{option_map_or}
use Rattle.std.specs.Int.{cast_unsigned, w64}
use Rattle.std.specs.List.{list_all, range_with_len}
use Rattle.std.proofs.lemmas.List.{length-map, length-set}
use Rattle.std.proofs.lemmas.List.FromFn.{length-range_with_len}
use Rattle.std.proofs.lemmas.Bool.Decides.{nat_tests}
use Rattle.base.specs.Check.{Check, check, first_failing}
use Rattle.base.specs.declared.causes.MachineFault.{MachineFault}
use Rattle.base.specs.declared.causes.MachineFault.TheVariants as fault
use Rattle.base.specs.declared.causes.VerifierCause.TheVariants as cause
use Rattle.bpf_isa.specs.declared.instr.Instr.{Instr}
use Rattle.helpers.specs.declared.device.Context.{Context}
use Rattle.helpers.specs.declared.helper.Helper.{Helper}
use Rattle.helpers.specs.declared.helper.Helper.TheVariants as helper
use Rattle.helpers.specs.declared.helper.Answer.{Answer}
use Rattle.helpers.specs.declared.helper.Answer.TheVariants as answer
use Rattle.helpers.specs.Answers.{device_byte, device_bytes, copy_answer, again_answer, counts_after, report_answer, codes_after}
use Rattle.helpers.specs.Queries.{query_arguments, query_answer, query_kind, IsAnswer, IsKind}
use Rattle.helpers.proofs.Queries.{query_fits, kind_fits, answer_word, copy_most, report_most, again_most}
use Rattle.machine.specs.State.{State, word, stack_start}
use Rattle.machine.specs.Memory.{context_bytes, byte_at, all_mapped, all_in_stacks, frames_with}
use Rattle.machine.specs.Step as step
use Rattle.bpf_isa.specs.Slots.{at}
use Rattle.machine.specs.Step.{checks, effect, step_of, after_checks, Stepped, Next, call_checks, call_effect, is_length, is_limit, turns_here}
use Rattle.intervals.specs.Spans.{span, is_constant}
use Rattle.intervals.specs.Reducing.{any_sign}
use Rattle.ranges.specs.declared.place.AccessPlace.TheVariants as place
use Rattle.ranges.specs.Kinds.{Kind, Unset, Word, Num, Ctx, Stack, Sector, SectorOrNull, is_number}
use Rattle.ranges.specs.States.{Abstract}
use Rattle.ranges.specs.Order.{IsBounded}
use Rattle.ranges.specs.Reading.{value, are_set, with_groups, is_stack, has_length}
use Rattle.ranges.specs.Places.{place_of, is_inside}
use Rattle.ranges.specs.Rules.{are_read, are_numbers, call_rules, length_of}
use Rattle.ranges.specs.After as after
use Rattle.ranges.specs.After.{kind_answered, answer_kind, copied_state, call_after, after_of, written_at, call_with}
use Rattle.ranges.specs.Passing.{passes}
use Rattle.ranges.proofs.Keeping.{value_fits}
use Rattle.soundness.specs.Meaning.{Describes, Means}
use Rattle.soundness.specs.Machines.{IsSetting}
use Rattle.soundness.proofs.Checks.{first_check, pass_two, pass_three, pass_five, three_tell, tested_passes, and_parts}
use Rattle.soundness.proofs.Meanings.{word_in}
use Rattle.soundness.proofs.Standing.{Parts, machine, number, frames_of, all_frames, Stands, Goes, goes_first, answered_stands, reads_set}
use Rattle.soundness.proofs.Places.{Lands, place_lands}
use Rattle.soundness.proofs.Loads.{AreSmall}
use Rattle.soundness.proofs.Stacks.{filled, stored_is, filled_is_stack, written_means}
use Rattle.soundness.proofs.Stores.{stack_mapped, stack_in_stacks, stack_place}
use Rattle.soundness.proofs.Computing.{Site, first_describes, rest_set}
use Rattle.soundness.proofs.Loose.{words_set}

-- a machine whose counts or codes changed, after an answer
pub answers : (sectors : ℕ) (known : Abstract) (m : Parts) (list : List (Check MachineFault)) (k : Kind) (x : ℕ) (turns codes : List ℕ) → Site sectors known m
    → length turns ≡ 4096 → first_failing list ≡ None → x < 2 ^ 64 → Means sectors (number m) k (Some x)
    → Goes sectors m ((m.slot + 1, after.after_answer known k) ∷ [])
    (after_checks (machine m) list (step.answer_step (machine (record { slot = m.slot; registers = m.registers; below = m.below; caller = m.caller; stack = m.stack; turns = turns; codes = codes })) x))
answers sectors known m list k x turns codes site long passes small means =
    let to : Parts = record { slot = m.slot + 1; registers = step.with_answer m.registers x; below = m.below; caller = m.caller; stack = m.stack; turns = turns; codes = codes } in
    let stands = answered_stands sectors (number m) known m.registers m.stack k x site.fits.registers small means site.stands in
    let from : State = machine (record { slot = m.slot; registers = m.registers; below = m.below; caller = m.caller; stack = m.stack; turns = turns; codes = codes }) in
    subst (Goes sectors m ((m.slot + 1, after.after_answer known k) ∷ [])) (sym (tested_passes (machine m) list (step.answer_step from x) passes))
    (goes_first sectors (after.after_answer known k) to [] stands long)

-- registers that may be read are set, with guards and without
pub read_set : (guards : Bool) (sectors : ℕ) (known : Abstract) (m : Parts) (list : List ℕ) → Site sectors known m → are_read guards known list ≡ true
    → list_all (λ r. is_some (get_or m.registers r None)) list ≡ true
read_set true sectors known m list site e = words_set sectors (number m) known m.registers list site.stands.values e
read_set false sectors known m list site e = reads_set sectors (number m) known m.registers list site.stands.values e

-- the checks of a call that reads these registers
pub reads_pass : (guards : Bool) (program : List (Option Instr)) (sectors : ℕ) (known : Abstract) (m : Parts) (list : List ℕ) → Site sectors known m → are_read guards known list ≡ true
    → is_some (at program (m.slot + 1)) ≡ true → first_failing (step.reads (machine m) list ∷ step.goes_on program (m.slot + 1) ∷ []) ≡ None
reads_pass guards program sectors known m list site is next =
    pass_two fault.UnsetRegister fault.NoInstruction (list_all (λ r. is_some (get_or m.registers r None)) list) (is_some (at program (m.slot + 1))) (read_set guards sectors known m list site is) next

pub number_means : (sectors frame most x : ℕ) → most < 2 ^ 64 → x ≤ most → Means sectors frame (Num (any_sign (span 0 most))) (Some x)
number_means sectors frame most x few le = (x, refl, word_in 0 most x few (omega arith) le)

-- what the helpers answer

-- an answer of a kind is a word, and means it
answer_means : (sectors frame : ℕ) (a : Answer) (x : ℕ) → IsKind a → IsAnswer sectors a x → Means sectors frame (kind_answered a) (Some x)
answer_means sectors frame answer.Address x kind is = (x, refl, is)
answer_means sectors frame (answer.UpTo most) x kind is = number_means sectors frame most x kind is

-- the counts of `again`
pub counted_long : (m : Parts) (n : ℕ) → length m.turns ≡ 4096 → length (counts_after m.turns m.slot n) ≡ 4096
counted_long m n long = by (nat_lt (turns_here (machine m)) n)
  where
    by : (b : Bool) → length (if b then set m.turns m.slot (turns_here (machine m) + 1) else m.turns) ≡ 4096
    by true = length-set m.turns m.slot (turns_here (machine m) + 1) ∙ long
    by false = long

-- copied bytes

pub long_copied : (device : List (List ℕ)) (position n : ℕ) → length (device_bytes device position n) ≡ n
unfolding device_bytes
long_copied device position n = length-map (range_with_len position n) (device_byte device) ∙ length-range_with_len position n

small_device : (device : List (List ℕ)) (i : ℕ) → ((n : ℕ) (sector : List ℕ) → slice_get device n ≡ Some sector → AreSmall sector) → device_byte device i < 256
unfolding device_byte
small_device device i h = by (slice_get device (i / 512)) refl
  where
    by : (s : Option (List ℕ)) → slice_get device (i / 512) ≡ s → option_map_or (λ sector. slice_index sector (i % 512)) s 0 < 256
    by None e = omega arith
    by (Some sector) e = h (i / 512) sector e (i % 512)

small_mapped : (f : ℕ → ℕ) (xs : List ℕ) → ((x : ℕ) → f x < 256) → AreSmall (map f xs)
small_mapped f [] h i = omega arith
small_mapped f (x ∷ xs) h zero = h x
small_mapped f (x ∷ xs) h (suc i) = small_mapped f xs h i

pub small_copied : (device : List (List ℕ)) (position n : ℕ) → ((k : ℕ) (sector : List ℕ) → slice_get device k ≡ Some sector → AreSmall sector) → AreSmall (device_bytes device position n)
unfolding device_bytes
small_copied device position n h = small_mapped (device_byte device) (range_with_len position n) (λ x. small_device device x h)

-- copy to a place of the stack
copies : (program : List (Option Instr)) (sectors : ℕ) (device : List (List ℕ)) (context : Context) (known : Abstract) (m : Parts) (p n : ℕ)
    → IsSetting program sectors device context → Site sectors known m → are_set known (1 ∷ 2 ∷ 3 ∷ []) ≡ true → is_length n ≡ true → word (machine m) 3 ≡ n
    → is_some (at program (m.slot + 1)) ≡ true → (word (machine m) 2 ≡ stack_start + 1024 * number m + p) × (p + n ≤ 512)
    → Goes sectors m ((m.slot + 1, after.after_answer (with_groups known (written_at known.groups (place.Stack p) n)) (answer_kind helper.Copy)) ∷ [])
    (after_checks (machine m) (call_checks program (byte_at (context_bytes context) device (all_frames m)) (machine m) helper.Copy) (call_effect device (machine m) helper.Copy))
unfolding call_checks call_effect
copies program sectors device context known m p n set site is length_is count next lands =
    let w : ℕ = word (machine m) 3 in
    let a : ℕ = word (machine m) 2 in
    let position : ℕ = word (machine m) 1 in
    let bytes : List ℕ = device_bytes device position w in
    let long : length bytes ≡ n = long_copied device position w ∙ count in
    let small : AreSmall bytes = small_copied device position w (λ k sector e. (set.whole k sector e).bytes) in
    let fits : p + w ≤ 512 = omega (arith, count, lands.1) in
    let x : ℕ = copy_answer device position w in
    let groups = written_at known.groups (place.Stack p) n in
    let less : Abstract = with_groups known groups in
    let k : Kind = answer_kind helper.Copy in
    let stack : List (Option ℕ) = filled m.stack p bytes in
    let frames : frames_with (all_frames m) a bytes ≡ frames_of m.below m.caller stack = stored_is bytes m.below m.caller m.stack a p site.few.frames lands.0 (omega (arith, long, lands.1)) in
    let stands : Stands sectors (number m) less m.registers stack = record {
      words = site.stands.words;
      cells = filled_is_stack bytes m.stack p small site.stands.cells;
      values = site.stands.values;
      groups = written_means sectors (number m) known.groups bytes m.stack p n site.fits.stack long lands.1 site.stands.cells.long site.stands.groups;
    } in
    let most = copy_most device position w in
    let to : Parts = record { slot = m.slot + 1; registers = step.with_answer m.registers x; below = m.below; caller = m.caller; stack = stack; turns = m.turns; codes = m.codes } in
    let last = answered_stands sectors (number m) less m.registers stack k x site.fits.registers (omega (arith, most)) (number_means sectors (number m) 1 x (omega arith) most) stands in
    let mem = byte_at (context_bytes context) device (all_frames m) in
    let list_passes = pass_five fault.UnsetRegister fault.HelperArgument fault.Unmapped fault.ReadOnly fault.NoInstruction
    (list_all (λ r. is_some (get_or m.registers r None)) (1 ∷ 2 ∷ 3 ∷ [])) (is_length w) (all_mapped mem a w) (all_in_stacks a w) (is_some (at program (m.slot + 1)))
    (reads_set sectors (number m) known m.registers (1 ∷ 2 ∷ 3 ∷ []) site.stands.values is) (ap is_length count ∙ length_is)
    (stack_mapped (context_bytes context) device m.below m.caller m.stack a p w site.few.frames site.stands.cells.long lands.0 fits)
    (stack_in_stacks (number m) a p w site.few.frames lands.0 fits) next in
    subst (Goes sectors m ((m.slot + 1, after.after_answer less k) ∷ []))
    (sym (tested_passes (machine m) (step.reads (machine m) (1 ∷ 2 ∷ 3 ∷ []) ∷ check fault.HelperArgument (is_length w) ∷ step.store_tests program mem (machine m) a w)
    (step.answer_step (record { slot = m.slot; registers = m.registers; frames = frames_with (all_frames m) a bytes; turns = m.turns; codes = m.codes }) x) list_passes
    ∙ ap (λ f. Next (record { slot = m.slot + 1; registers = step.with_answer m.registers x; frames = f; turns = m.turns; codes = m.codes })) frames))
    (goes_first sectors (after.after_answer less k) to [] last site.turns)

-- the length of a copy
pub length_known : (sectors frame : ℕ) (k : Kind) (w : ℕ) → has_length k ≡ true → Describes sectors frame k w → (w ≡ length_of k) × (is_length (length_of k) ≡ true)
length_known sectors frame Unset w e d = absurd (let bad : false ≡ true = e in cc)
length_known sectors frame Word w e d = absurd (let bad : false ≡ true = e in cc)
length_known sectors frame (Ctx o) w e d = absurd (let bad : false ≡ true = e in cc)
length_known sectors frame (Stack o) w e d = absurd (let bad : false ≡ true = e in cc)
length_known sectors frame (Sector x) w e d = absurd (let bad : false ≡ true = e in cc)
length_known sectors frame SectorOrNull w e d = absurd (let bad : false ≡ true = e in cc)
length_known sectors frame (Num x) w e d =
    let h = and_parts (is_constant x.unsigned) (is_length x.unsigned.low) e in
    let one = h.0 in
    let same : x.unsigned.low ≡ x.unsigned.high = grind (arith, nat_tests) in
    (omega (arith, same, d.word.from, d.word.upto), h.1)

copy_goes : (program : List (Option Instr)) (sectors : ℕ) (device : List (List ℕ)) (context : Context) (known : Abstract) (m : Parts)
    → IsSetting program sectors device context → Site sectors known m → is_some (at program (m.slot + 1)) ≡ true → first_failing (call_rules false known helper.Copy) ≡ None
    → Goes sectors m ((m.slot + 1, call_after known helper.Copy) ∷ [])
    (after_checks (machine m) (call_checks program (byte_at (context_bytes context) device (all_frames m)) (machine m) helper.Copy) (call_effect device (machine m) helper.Copy))
unfolding call_rules call_with
copy_goes program sectors device context known m set site next keeps =
    let n : ℕ = length_of (value known 3) in
    let tell = three_tell cause.UnsetRegister cause.HelperArgument cause.OutsideRegion (are_set known (1 ∷ 2 ∷ 3 ∷ []))
    (is_number (value known 1) && (is_stack (value known 2) && has_length (value known 3))) (is_inside (place_of (value known 2) (pos 0) n)) keeps in
    let one = and_parts (is_number (value known 1)) (is_stack (value known 2) && has_length (value known 3)) tell.1 in
    let two = and_parts (is_stack (value known 2)) (has_length (value known 3)) one.1 in
    let rest = rest_set known 1 (2 ∷ 3 ∷ []) tell.0 in
    let third = first_describes sectors known m 3 [] site (rest_set known 2 (3 ∷ []) rest) in
    let second = first_describes sectors known m 2 (3 ∷ []) site rest in
    let length_is = length_known sectors (number m) (value known 3) (word (machine m) 3) two.1 third in
    let found = stack_place (value known 2) (pos 0) n two.0 tell.2 in
    let lands = place_lands sectors (number m) (value known 2) (pos 0) n (word (machine m) 2) site.few (omega arith) (value_fits known 2 site.fits) second tell.2 in
    let small : word (machine m) 2 < 2 ^ 64 = stack_word (value known 2) two.0 (value_fits known 2 site.fits) second in
    let same : (word (machine m) 2 + cast_unsigned w64 (pos 0)) % 2 ^ 64 ≡ word (machine m) 2 = omega (arith, small) in
    let lands_there : Lands sectors (number m) (place_of (value known 2) (pos 0) n) n (word (machine m) 2) = subst (Lands sectors (number m) (place_of (value known 2) (pos 0) n) n) same lands in
    subst (λ q. Lands sectors (number m) q n (word (machine m) 2) → Goes sectors m ((m.slot + 1, after.after_answer (with_groups known (written_at known.groups q n)) (answer_kind helper.Copy)) ∷ [])
    (after_checks (machine m) (call_checks program (byte_at (context_bytes context) device (all_frames m)) (machine m) helper.Copy) (call_effect device (machine m) helper.Copy)))
    (sym found.1) (copies program sectors device context known m found.0 n set site tell.0 length_is.1 length_is.0 next) lands_there
  where
    stack_word : (k : Kind) → is_stack k ≡ true → IsBounded k → Describes sectors (number m) k (word (machine m) 2) → word (machine m) 2 < 2 ^ 64
    stack_word (Stack o) e b d = omega (arith, b, d, site.few.frames)
    stack_word _ e b d = absurd (let bad : false ≡ true = e in cc)

-- whether a helper is another one than copy
abbrev pub is_other : Helper → Bool
is_other helper.Copy = false
is_other h = true

-- the other helpers one by one, with guards and without; `again` takes a limit
pub other_goes : (guards : Bool) (program : List (Option Instr)) (sectors : ℕ) (device : List (List ℕ)) (context : Context) (known : Abstract) (m : Parts) (h : Helper) → is_other h ≡ true
    → IsSetting program sectors device context → Site sectors known m → is_some (at program (m.slot + 1)) ≡ true
    → (h ≡ helper.Again → is_limit (word (machine m) 1) ≡ true) → first_failing (call_rules guards known h) ≡ None
    → Goes sectors m ((m.slot + 1, after.after_answer known (answer_kind h)) ∷ [])
    (after_checks (machine m) (call_checks program (byte_at (context_bytes context) device (all_frames m)) (machine m) h) (call_effect device (machine m) h))
unfolding call_rules call_checks call_effect
other_goes guards program sectors device context known m helper.Copy e set site next limit keeps = absurd (let bad : false ≡ true = e in cc)
other_goes guards program sectors device context known m helper.Again e set site next limit keeps =
    let is = (first_check cause.UnsetRegister (are_read guards known (1 ∷ [])) (check cause.HelperArgument (guards || are_numbers known (1 ∷ [])) ∷ []) keeps).0 in
    let n : ℕ = word (machine m) 1 in
    let x : ℕ = again_answer (turns_here (machine m)) n in
    let most = again_most (turns_here (machine m)) n in
    answers sectors known m (step.reads (machine m) (1 ∷ []) ∷ check fault.HelperArgument (is_limit n) ∷ step.goes_on program (m.slot + 1) ∷ []) (Num (any_sign (span 0 1))) x
    (counts_after m.turns m.slot n) m.codes site (counted_long m n site.turns)
    (pass_three fault.UnsetRegister fault.HelperArgument fault.NoInstruction (list_all (λ r. is_some (get_or m.registers r None)) (1 ∷ [])) (is_limit n) (is_some (at program (m.slot + 1)))
    (read_set guards sectors known m (1 ∷ []) site is) (limit refl) next)
    (omega (arith, most)) (number_means sectors (number m) 1 x (omega arith) most)
other_goes guards program sectors device context known m helper.Report e set site next limit keeps =
    let is = (first_check cause.UnsetRegister (are_read guards known (1 ∷ [])) (check cause.HelperArgument (guards || are_numbers known (1 ∷ [])) ∷ []) keeps).0 in
    let x : ℕ = report_answer m.codes in
    let most = report_most m.codes in
    answers sectors known m (step.reads (machine m) (1 ∷ []) ∷ step.goes_on program (m.slot + 1) ∷ []) (Num (any_sign (span 0 1))) x m.turns (codes_after m.codes (word (machine m) 1)) site site.turns
    (reads_pass guards program sectors known m (1 ∷ []) site is next) (omega (arith, most)) (number_means sectors (number m) 1 x (omega arith) most)
other_goes guards program sectors device context known m (helper.Query q) e set site next limit keeps =
    let list : List ℕ = query_arguments q in
    let is = (first_check cause.UnsetRegister (are_read guards known list) (check cause.HelperArgument (guards || are_numbers known list) ∷ []) keeps).0 in
    let x : ℕ = query_answer device q (word (machine m) 1) (word (machine m) 2) (word (machine m) 3) in
    let count = site.few.device in
    let fits : IsAnswer sectors (query_kind q) x = subst (λ (n : ℕ). IsAnswer n (query_kind q) x) set.count (query_fits device q (word (machine m) 1) (word (machine m) 2) (word (machine m) 3)) in
    answers sectors known m (step.reads (machine m) list ∷ step.goes_on program (m.slot + 1) ∷ []) (kind_answered (query_kind q)) x m.turns m.codes site site.turns
    (reads_pass guards program sectors known m list site is next) (answer_word sectors (query_kind q) x (omega (arith, count)) (kind_fits q) fits)
    (answer_means sectors (number m) (query_kind q) x (kind_fits q) fits)

pub helper_goes : (program : List (Option Instr)) (sectors : ℕ) (device : List (List ℕ)) (context : Context) (known : Abstract) (m : Parts) (h : Helper)
    → IsSetting program sectors device context → Site sectors known m → is_some (at program (m.slot + 1)) ≡ true
    → (h ≡ helper.Again → is_limit (word (machine m) 1) ≡ true) → first_failing (call_rules false known h) ≡ None
    → Goes sectors m ((m.slot + 1, call_after known h) ∷ [])
    (after_checks (machine m) (call_checks program (byte_at (context_bytes context) device (all_frames m)) (machine m) h) (call_effect device (machine m) h))
unfolding call_with
helper_goes program sectors device context known m helper.Copy set site next limit keeps = copy_goes program sectors device context known m set site next keeps
helper_goes program sectors device context known m h set site next limit keeps = other_goes false program sectors device context known m h refl set site next limit keeps
