-- Stores: what the stack means after them.
use Rattle.std.proofs.Common.{◌≡◌, ◌<◌, ◌≤◌, ℕ, ◌+◌, ◌*◌, ◌/◌, ◌%◌, ◌^◌, ◌&&◌, ◌||◌, not, Bool, true, false, if◌then◌else◌, ℤ, List, [], ◌∷◌, length, get_or, Option, None, Some, is_some, refl, sym, ap, ◌∙◌, subst, arith}
use Rattle.std.specs.Prelude.{FitsSigned, set}
use Rattle.std.specs.Option.{option_map_or}
use Rattle.std.specs.Int.{cast_unsigned, w16, w64}
use Rattle.std.specs.List.{list_all}
use Rattle.std.proofs.lemmas.Bool.Decides.{nat_tests}
use Rattle.base.specs.Check.{first_failing}
use Rattle.base.specs.Numbers.{number_bytes}
use Rattle.base.proofs.Lists.{length-number_bytes}
use Rattle.base.specs.declared.causes.MachineFault.TheVariants as fault
use Rattle.base.specs.declared.causes.VerifierCause.TheVariants as cause
use Rattle.bpf_isa.specs.declared.instr.Instr.{Instr}
use Rattle.bpf_isa.specs.declared.instr.Instr.TheVariants as instr
use Rattle.bpf_isa.specs.declared.instr.Source.TheVariants as source
use Rattle.bpf_isa.specs.declared.instr.Size.{Size}
use Rattle.bpf_isa.specs.Spelling.{IsSourceInRange}
use Rattle.helpers.specs.Answers.{sector_start}
use Rattle.machine.specs.State.{Caller, Frame, word, stack_start}
use Rattle.machine.specs.Memory.{byte_count, byte_at, all_mapped, all_in_stacks, is_in_stacks, is_mapped, cell, frames_with}
use Rattle.machine.specs.Step as step
use Rattle.bpf_isa.specs.Slots.{at}
use Rattle.machine.specs.Step.{checks, effect, step_of, after_checks, Next}
use Rattle.ranges.specs.declared.place.AccessPlace.TheVariants as place
use Rattle.ranges.specs.Kinds.{Kind, Unset, Word, Num, Ctx, Stack, Sector, SectorOrNull, is_unknown, is_number}
use Rattle.ranges.specs.Groups.{Marked, Spilled}
use Rattle.ranges.specs.States.{Abstract}
use Rattle.ranges.specs.Order.{IsBounded}
use Rattle.ranges.specs.Reading.{value, second, are_set, with_groups, is_stack, is_base}
use Rattle.ranges.specs.Places.{landing, place_of, is_inside, is_group}
use Rattle.ranges.specs.Rules.{rules, store_rules, is_whole, rules_with}
use Rattle.ranges.specs.After.{stored_groups, groups_after_write, after_with}
use Rattle.ranges.specs.Passing.{passes, passed_with}
use Rattle.ranges.proofs.Keeping.{value_fits, second_fits}
use Rattle.soundness.specs.Meaning.{Describes, GroupMeans}
use Rattle.soundness.proofs.Checks.{pass_four, five_tell, tested_passes}
use Rattle.soundness.proofs.Meanings.{word_means}
use Rattle.soundness.proofs.Standing.{Parts, machine, number, frames_of, all_frames, Stands, Goes, goes_first, reads_set, described_word, not_unset}
use Rattle.soundness.proofs.Memory.{all_pass, in_stack}
use Rattle.soundness.proofs.Places.{Lands, place_lands}
use Rattle.soundness.proofs.Loads.{small_number, group_parts}
use Rattle.soundness.proofs.Stacks.{filled, stored_is, filled_is_stack, written_means, spilled_means}
use Rattle.soundness.proofs.Computing.{Site, first_describes, second_describes, rest_set}

-- bytes of a stack are mapped, and lie in the stacks

any_cell_mapped : (c : Option ℕ) → is_mapped (cell (Some c)) ≡ true
any_cell_mapped None = refl
any_cell_mapped (Some b) = refl

pub stack_mapped : (context : List ℕ) (device : List (List ℕ)) (below : List Frame) (caller : Option Caller) (stack : List (Option ℕ)) (a p n : ℕ) → length below ≤ 3
    → length stack ≡ 512 → a ≡ stack_start + 1024 * length below + p → p + n ≤ 512
    → all_mapped (byte_at context device (frames_of below caller stack)) a n ≡ true
stack_mapped context device below caller stack a p n few long e fits =
    all_pass (λ q. is_mapped (byte_at context device (frames_of below caller stack) q)) n a (omega (arith, e, fits, few))
    (λ i small. ap is_mapped (in_stack context device below caller stack (a + i) (p + i) few (omega (arith, e)) (omega (arith, fits, small)) long) ∙ any_cell_mapped (get_or stack (p + i) None))

one_in_stacks : (a : ℕ) → stack_start ≤ a → a < sector_start → is_in_stacks a ≡ true
one_in_stacks a low high = grind (arith, nat_tests)

pub stack_in_stacks : (frame a p n : ℕ) → frame ≤ 3 → a ≡ stack_start + 1024 * frame + p → p + n ≤ 512 → all_in_stacks a n ≡ true
stack_in_stacks frame a p n few e fits =
    all_pass is_in_stacks n a (omega (arith, e, fits, few)) (λ i small. one_in_stacks (a + i) (omega (arith, e)) (omega (arith, e, fits, small, few)))

pub store_passes : (program : List (Option Instr)) (context : List ℕ) (device : List (List ℕ)) (sectors : ℕ) (known : Abstract) (m : Parts) (list : List ℕ) (a p n : ℕ) → Site sectors known m
    → a ≡ stack_start + 1024 * number m + p → p + n ≤ 512 → are_set known list ≡ true → is_some (at program (m.slot + 1)) ≡ true
    → first_failing (step.reads (machine m) list ∷ step.store_tests program (byte_at context device (all_frames m)) (machine m) a n) ≡ None
store_passes program context device sectors known m list a p n site e fits is next =
    pass_four fault.UnsetRegister fault.Unmapped fault.ReadOnly fault.NoInstruction (list_all (λ r. is_some (get_or m.registers r None)) list)
    (all_mapped (byte_at context device (all_frames m)) a n) (all_in_stacks a n) (is_some (at program (m.slot + 1)))
    (reads_set sectors (number m) known m.registers list site.stands.values is) (stack_mapped context device m.below m.caller m.stack a p n site.few.frames site.stands.cells.long e fits)
    (stack_in_stacks (number m) a p n site.few.frames e fits) next

-- the groups

stored_means : (sectors : ℕ) (known : Abstract) (m : Parts) (k : Kind) (p n x : ℕ) → Site sectors known m → p + n ≤ 512 → IsBounded k → Describes sectors (number m) k x
    → (g : ℕ) → GroupMeans sectors (number m) (get_or (stored_groups k known.groups (place.Stack p) n) g (Marked [])) (filled m.stack p (number_bytes n x)) g
unfolding stored_groups
stored_means sectors known m k p n x site fits bounded describes = by (not (is_unknown k)) (is_group p n) refl refl
  where
    plain : (g : ℕ) → GroupMeans sectors (number m) (get_or (groups_after_write p n known.groups) g (Marked [])) (filled m.stack p (number_bytes n x)) g
    plain = written_means sectors (number m) known.groups (number_bytes n x) m.stack p n site.fits.stack (length-number_bytes n x) fits site.stands.cells.long site.stands.groups

    spilled : (q : ℕ) → q ≡ 8 → p + q ≤ 512 → p % 8 ≡ 0 → x < 2 ^ 64
        → (g : ℕ) → GroupMeans sectors (number m) (get_or (set known.groups (p / 8) (Spilled k)) g (Marked [])) (filled m.stack p (number_bytes q x)) g
    spilled q e fit aligned small =
        let eight : p + 8 ≤ 512 = omega (arith, e, fit) in
        subst (λ (v : ℕ). (g : ℕ) → GroupMeans sectors (number m) (get_or (set known.groups (p / 8) (Spilled k)) g (Marked [])) (filled m.stack p (number_bytes v x)) g) (sym e)
        (spilled_means sectors (number m) known.groups m.stack k p x site.fits.stack eight aligned site.stands.cells.long small (word_means sectors (number m) k x describes) site.stands.groups)

    by : (b c : Bool) → not (is_unknown k) ≡ b → is_group p n ≡ c
        → (g : ℕ) → GroupMeans sectors (number m) (get_or (if b && c then set known.groups (p / 8) (Spilled k) else groups_after_write p n known.groups) g (Marked [])) (filled m.stack p (number_bytes n x)) g
    by true true e f = let h = group_parts p n f in spilled n h.0 fits h.1 (described_word sectors (number m) k x site.few (not_unset (is_unknown k) e) bounded describes)
    by true false e f = plain
    by false c e f = plain

stored_at : (program : List (Option Instr)) (context : List ℕ) (device : List (List ℕ)) (sectors : ℕ) (known : Abstract) (m : Parts) (k : Kind) (list : List ℕ) (p n x a : ℕ)
    → Site sectors known m → are_set known list ≡ true → is_some (at program (m.slot + 1)) ≡ true → IsBounded k → Describes sectors (number m) k x
    → (a ≡ stack_start + 1024 * number m + p) × (p + n ≤ 512)
    → Goes sectors m ((m.slot + 1, with_groups known (stored_groups k known.groups (place.Stack p) n)) ∷ [])
    (after_checks (machine m) (step.reads (machine m) list ∷ step.store_tests program (byte_at context device (all_frames m)) (machine m) a n) (step.store (machine m) a (number_bytes n x)))
stored_at program context device sectors known m k list p n x a site is next bounded describes lands =
    let bytes : List ℕ = number_bytes n x in
    let long : length bytes ≡ n = length-number_bytes n x in
    let arrivals : List (ℕ × Abstract) = (m.slot + 1, with_groups known (stored_groups k known.groups (place.Stack p) n)) ∷ [] in
    let to : Parts = record { slot = m.slot + 1; registers = m.registers; below = m.below; caller = m.caller; stack = filled m.stack p bytes; turns = m.turns; codes = m.codes } in
    let stands : Stands sectors (number m) (with_groups known (stored_groups k known.groups (place.Stack p) n)) m.registers (filled m.stack p bytes) = record {
      words = site.stands.words;
      cells = filled_is_stack bytes m.stack p (small_number n x) site.stands.cells;
      values = site.stands.values;
      groups = stored_means sectors known m k p n x site lands.1 bounded describes;
    } in
    let list_passes = store_passes program context device sectors known m list a p n site lands.0 lands.1 is next in
    let frames : frames_with (all_frames m) a bytes ≡ frames_of m.below m.caller (filled m.stack p bytes) = stored_is bytes m.below m.caller m.stack a p site.few.frames lands.0 (omega (arith, long, lands.1)) in
    subst (Goes sectors m arrivals)
    (sym (tested_passes (machine m) (step.reads (machine m) list ∷ step.store_tests program (byte_at context device (all_frames m)) (machine m) a n) (step.store (machine m) a bytes) list_passes
    ∙ ap (λ f. Next (record { slot = m.slot + 1; registers = m.registers; frames = f; turns = m.turns; codes = m.codes })) frames))
    (goes_first sectors (with_groups known (stored_groups k known.groups (place.Stack p) n)) to [] stands site.turns)

-- a place in the stack
pub stack_place : (k : Kind) (distance : ℤ) (n : ℕ) → is_stack k ≡ true → is_inside (place_of k distance n) ≡ true → (p : ℕ) × (place_of k distance n ≡ place.Stack p)
unfolding place_of
stack_place Unset distance n e inside = absurd (let bad : false ≡ true = e in cc)
stack_place Word distance n e inside = absurd (let bad : false ≡ true = e in cc)
stack_place (Num x) distance n e inside = absurd (let bad : false ≡ true = e in cc)
stack_place (Ctx o) distance n e inside = absurd (let bad : false ≡ true = e in cc)
stack_place (Sector x) distance n e inside = absurd (let bad : false ≡ true = e in cc)
stack_place SectorOrNull distance n e inside = absurd (let bad : false ≡ true = e in cc)
stack_place (Stack o) distance n e inside = by (landing 512 n o distance) inside
  where
    by : (m : Option ℕ) → is_inside (option_map_or (λ p. place.Stack p) m place.Outside) ≡ true → (p : ℕ) × (option_map_or (λ q. place.Stack q) m place.Outside ≡ place.Stack p)
    by None t = absurd (let bad : false ≡ true = t in cc)
    by (Some p) t = (p, refl)

-- a store to a base that keeps its rules
stores : (program : List (Option Instr)) (context : List ℕ) (device : List (List ℕ)) (sectors : ℕ) (known : Abstract) (m : Parts) (k : Kind) (list : List ℕ) (base n x : ℕ) (distance : ℤ)
    → Site sectors known m → FitsSigned w16 distance → are_set known list ≡ true → is_some (at program (m.slot + 1)) ≡ true → IsBounded k → Describes sectors (number m) k x
    → Describes sectors (number m) (value known base) (word (machine m) base) → is_stack (value known base) ≡ true → is_inside (place_of (value known base) distance n) ≡ true
    → Goes sectors m ((m.slot + 1, with_groups known (stored_groups k known.groups (place_of (value known base) distance n) n)) ∷ [])
    (after_checks (machine m) (step.reads (machine m) list ∷ step.store_tests program (byte_at context device (all_frames m)) (machine m) (step.address (machine m) base distance) n)
    (step.store (machine m) (step.address (machine m) base distance) (number_bytes n x)))
stores program context device sectors known m k list base n x distance site fits is next bounded describes based stack inside =
    let a : ℕ = step.address (machine m) base distance in
    let lands = place_lands sectors (number m) (value known base) distance n (word (machine m) base) site.few fits (value_fits known base site.fits) based inside in
    let found = stack_place (value known base) distance n stack inside in
    subst (λ q. Lands sectors (number m) q n a → Goes sectors m ((m.slot + 1, with_groups known (stored_groups k known.groups q n)) ∷ [])
    (after_checks (machine m) (step.reads (machine m) list ∷ step.store_tests program (byte_at context device (all_frames m)) (machine m) a n) (step.store (machine m) a (number_bytes n x))))
    (sym found.1) (stored_at program context device sectors known m k list found.0 n x a site is next bounded describes) lands

pub store_immediate_goes : (program : List (Option Instr)) (context : List ℕ) (device : List (List ℕ)) (sectors : ℕ) (known : Abstract) (m : Parts) (s : Size) (base : ℕ) (distance : ℤ) (z : ℤ)
    → Site sectors known m → FitsSigned w16 distance → IsSourceInRange (source.Immediate z) → is_some (at program (m.slot + 1)) ≡ true
    → first_failing (rules known (instr.StoreImmediate s base distance z)) ≡ None
    → Goes sectors m (passes sectors known m.slot (instr.StoreImmediate s base distance z)) (step_of program context device (machine m) (instr.StoreImmediate s base distance z))
unfolding rules_with store_rules passed_with after_with step_of checks effect
store_immediate_goes program context device sectors known m s base distance z site fits range next keeps =
    let n : ℕ = byte_count s in
    let k : Kind = second known (source.Immediate z) in
    let tell = five_tell cause.UnsetRegister cause.OutsideRegion cause.ReadOnly cause.OutsideRegion cause.PointerAsNumber (are_set known (base ∷ [])) (is_base (value known base))
    (is_stack (value known base)) (is_inside (place_of (value known base) distance n)) (is_number k || is_whole (place_of (value known base) distance n) n) keeps in
    stores program context device sectors known m k (base ∷ []) base n (cast_unsigned w64 z) distance site fits tell.0 next (second_fits known (source.Immediate z) range site.fits)
    (second_describes sectors known m (source.Immediate z) site range refl) (first_describes sectors known m base [] site tell.0) tell.2 tell.3

pub store_goes : (program : List (Option Instr)) (context : List ℕ) (device : List (List ℕ)) (sectors : ℕ) (known : Abstract) (m : Parts) (s : Size) (base : ℕ) (distance : ℤ) (src : ℕ)
    → Site sectors known m → FitsSigned w16 distance → is_some (at program (m.slot + 1)) ≡ true
    → first_failing (rules known (instr.Store s base distance src)) ≡ None
    → Goes sectors m (passes sectors known m.slot (instr.Store s base distance src)) (step_of program context device (machine m) (instr.Store s base distance src))
unfolding rules_with store_rules passed_with after_with step_of checks effect
store_goes program context device sectors known m s base distance src site fits next keeps =
    let n : ℕ = byte_count s in
    let k : Kind = value known src in
    let tell = five_tell cause.UnsetRegister cause.OutsideRegion cause.ReadOnly cause.OutsideRegion cause.PointerAsNumber (are_set known (base ∷ src ∷ [])) (is_base (value known base))
    (is_stack (value known base)) (is_inside (place_of (value known base) distance n)) (is_number k || is_whole (place_of (value known base) distance n) n) keeps in
    stores program context device sectors known m k (base ∷ src ∷ []) base n (word (machine m) src) distance site fits tell.0 next (value_fits known src site.fits)
    (first_describes sectors known m src [] site (rest_set known base (src ∷ []) tell.0)) (first_describes sectors known m base (src ∷ []) site tell.0) tell.2 tell.3
