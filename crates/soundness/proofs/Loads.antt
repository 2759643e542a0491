-- Loads: what a register means after them.
use Rattle.std.proofs.Common.{◌≡◌, ◌<◌, ◌≤◌, ℕ, zero, suc, ◌+◌, ◌-◌, ◌*◌, ◌/◌, ◌%◌, ◌^◌, ◌==◌, ◌||◌, Bool, true, false, not, if◌then◌else◌, ℤ, List, [], ◌∷◌, ◌++◌, length, map, get_or, slice_get, slice_index, Option, None, Some, is_some, refl, sym, ap, ◌∙◌, subst, arith, append_assoc, append-nil, length-append}
use Rattle.std.specs.Prelude.{FitsSigned}
use Rattle.std.specs.Int.{w16}
use Rattle.std.specs.Int.{bytes_low_first, byte_at as byte_of}
use Rattle.std.specs.List.{list_all}
use Rattle.std.proofs.Math.Nat.{mod-lt}
use Rattle.std.proofs.lemmas.Bool.Decides.{nat_tests}
use Rattle.std.proofs.lemmas.Option.{slice_get-get_or}
use Rattle.base.specs.Sizes.{most_sectors}
use Rattle.base.specs.Check.{first_failing}
use Rattle.base.specs.Numbers.{number_at, number_bytes}
use Rattle.base.proofs.Lists.{number_at-number_bytes, length-number_bytes}
use Rattle.base.specs.declared.causes.MachineFault.TheVariants as fault
use Rattle.base.specs.declared.causes.VerifierCause.TheVariants as cause
use Rattle.bpf_isa.specs.declared.instr.Instr.{Instr}
use Rattle.bpf_isa.specs.declared.instr.Instr.TheVariants as instr
use Rattle.bpf_isa.specs.declared.instr.Size.{Size}
use Rattle.bpf_isa.specs.declared.instr.Size.TheVariants as size
use Rattle.bpf_isa.specs.declared.instr.SignedSize.{SignedSize}
use Rattle.bpf_isa.specs.declared.instr.SignExtension.{SignExtension}
use Rattle.helpers.specs.declared.device.Context.{Context}
use Rattle.machine.specs.Arithmetic.{sign_extension}
use Rattle.machine.specs.State.{word}
use Rattle.machine.specs.Memory.{context_bytes, byte_count, plain_size, extension_of, number_from, byte_at, all_mapped, all_set}
use Rattle.machine.specs.declared.ByteAt.{ByteAt}
use Rattle.machine.specs.Step as step
use Rattle.bpf_isa.specs.Slots.{at}
use Rattle.machine.specs.Step.{checks, effect, step_of, set_and_go}
use Rattle.intervals.specs.Spans.{Span, only, IsSpan, Has}
use Rattle.intervals.specs.Results.{extended_result}
use Rattle.intervals.proofs.Extensions.{extended_has, extended_fits}
use Rattle.ranges.specs.declared.place.AccessPlace.{AccessPlace}
use Rattle.ranges.specs.declared.place.AccessPlace.TheVariants as place
use Rattle.ranges.specs.declared.place.ByteMark.TheVariants as mark
use Rattle.ranges.specs.Kinds.{Kind, Unset, Word, Num, Ctx, Stack, Sector, SectorOrNull}
use Rattle.ranges.specs.Groups.{GroupKind, Marked, Spilled}
use Rattle.ranges.specs.States.{Abstract}
use Rattle.ranges.specs.Reading.{value, are_set, any_word}
use Rattle.ranges.specs.Places.{place_of, is_inside, mark_in, mark_at, is_mark, none_is, is_group}
use Rattle.ranges.specs.Rules.{rules, load_rules, has_no, is_whole, rules_with}
use Rattle.ranges.specs.After.{context_word, any_of, group_value, loaded_kind, after_with}
use Rattle.ranges.specs.Passing.{passes, passed_with}
use Rattle.ranges.proofs.Keeping.{value_fits}
use Rattle.soundness.specs.Meaning.{Describes, Means, GroupMeans, IsSetAt, bare}
use Rattle.soundness.specs.Machines.{IsSetting, IsStack}
use Rattle.soundness.proofs.Checks.{pass_five, four_tell, and_parts}
use Rattle.soundness.proofs.Meanings.{word_means, word_in}
use Rattle.soundness.proofs.Standing.{Parts, machine, number, all_frames, Goes, set_goes, not_unset, reads_set}
use Rattle.soundness.proofs.Memory.{Reads, reads_bytes, number_below, in_context, in_sector, set_in_stack, bare_at, long_bare}
use Rattle.soundness.proofs.Places.{Lands, place_lands}
use Rattle.soundness.proofs.Computing.{Site, first_describes}

-- bytes below 256

abbrev pub AreSmall : List ℕ → Type 0
AreSmall xs = (i : ℕ) → slice_index xs i < 256

small_byte : (i x : ℕ) → byte_of i x < 256
small_byte zero x = mod-lt x (omega arith)
small_byte (suc i) x = mod-lt (x / 256 ^ suc i) (omega arith)

small_digits : (i n x : ℕ) → AreSmall (bytes_low_first i n x)
small_digits i zero x j = omega arith
small_digits i (suc n) x zero = small_byte i x
small_digits i (suc n) x (suc j) = small_digits (suc i) n x j

pub small_number : (n x : ℕ) → AreSmall (number_bytes n x)
unfolding number_bytes
small_number n x = small_digits 0 n x

small_append : (xs ys : List ℕ) → AreSmall xs → AreSmall ys → AreSmall (xs ++ ys)
small_append [] ys h k i = k i
small_append (x ∷ xs) ys h k zero = h 0
small_append (x ∷ xs) ys h k (suc i) = small_append xs ys (λ j. h (suc j)) k i

pub small_context : (c : Context) → AreSmall (context_bytes c)
unfolding context_bytes
small_context c =
    let a : List ℕ = number_bytes 8 c.sectors in let b : List ℕ = number_bytes 8 c.epoch in let d : List ℕ = number_bytes 8 c.marks in let e : List ℕ = number_bytes 8 0 in
    small_append ((a ++ b) ++ d) e (small_append (a ++ b) d (small_append a b (small_number 8 c.sectors) (small_number 8 c.epoch)) (small_number 8 c.marks)) (small_number 8 0)

small_stack : (stack : List (Option ℕ)) → IsStack stack → AreSmall (map bare stack)
small_stack stack h i = rw (bare_at stack i) (by (get_or stack i None) (h.bytes i))
  where
    by : (c : Option ℕ) → ((b : ℕ) → c ≡ Some b → b < 256) → bare c < 256
    by None f = omega arith
    by (Some b) f = f b refl

-- words of the context

two_words : (c : Context) → length (number_bytes 8 c.sectors ++ number_bytes 8 c.epoch) ≡ 16
two_words c =
    let a = length-number_bytes 8 c.sectors in let b = length-number_bytes 8 c.epoch in
    let one = length-append (number_bytes 8 c.sectors) (number_bytes 8 c.epoch) in
    omega (arith, a, b, one)

three_words : (c : Context) → length ((number_bytes 8 c.sectors ++ number_bytes 8 c.epoch) ++ number_bytes 8 c.marks) ≡ 24
three_words c =
    let a = two_words c in let b = length-number_bytes 8 c.marks in
    let one = length-append (number_bytes 8 c.sectors ++ number_bytes 8 c.epoch) (number_bytes 8 c.marks) in
    omega (arith, a, b, one)

pub long_context : (c : Context) → length (context_bytes c) ≡ 32
unfolding context_bytes
long_context c =
    let a = three_words c in let b = length-number_bytes 8 0 in
    let one = length-append ((number_bytes 8 c.sectors ++ number_bytes 8 c.epoch) ++ number_bytes 8 c.marks) (number_bytes 8 0) in
    one ∙ omega (arith, a, b)

word_zero : (c : Context) → c.sectors < 2 ^ 64 → number_at 8 0 (context_bytes c) ≡ c.sectors
unfolding context_bytes
word_zero c lt =
    let a : List ℕ = number_bytes 8 c.sectors in let b : List ℕ = number_bytes 8 c.epoch in let d : List ℕ = number_bytes 8 c.marks in let e : List ℕ = number_bytes 8 0 in
    ap (number_at 8 0) (append_assoc (a ++ b) d e ∙ append_assoc a b (d ++ e)) ∙ number_at-number_bytes 8 c.sectors 0 [] (b ++ (d ++ e)) lt refl

word_one : (c : Context) → c.epoch < 2 ^ 64 → number_at 8 8 (context_bytes c) ≡ c.epoch
unfolding context_bytes
word_one c lt =
    let a : List ℕ = number_bytes 8 c.sectors in let b : List ℕ = number_bytes 8 c.epoch in let d : List ℕ = number_bytes 8 c.marks in let e : List ℕ = number_bytes 8 0 in
    ap (number_at 8 8) (append_assoc (a ++ b) d e ∙ append_assoc a b (d ++ e)) ∙ number_at-number_bytes 8 c.epoch 8 a (d ++ e) lt (length-number_bytes 8 c.sectors)

word_two : (c : Context) → c.marks < 2 ^ 64 → number_at 8 16 (context_bytes c) ≡ c.marks
unfolding context_bytes
word_two c lt =
    let a : List ℕ = number_bytes 8 c.sectors in let b : List ℕ = number_bytes 8 c.epoch in let d : List ℕ = number_bytes 8 c.marks in let e : List ℕ = number_bytes 8 0 in
    ap (number_at 8 16) (append_assoc (a ++ b) d e) ∙ number_at-number_bytes 8 c.marks 16 (a ++ b) e lt (two_words c)

word_three : (c : Context) → number_at 8 24 (context_bytes c) ≡ 0
unfolding context_bytes
word_three c =
    let f : List ℕ = (number_bytes 8 c.sectors ++ number_bytes 8 c.epoch) ++ number_bytes 8 c.marks in let e : List ℕ = number_bytes 8 0 in
    ap (λ (xs : List ℕ). number_at 8 24 (f ++ xs)) (sym (append-nil e)) ∙ number_at-number_bytes 8 0 24 f [] (omega arith) (three_words c)

-- the four aligned words
context_word_means : (sectors frame : ℕ) (c : Context) (at : ℕ) → c.sectors ≡ sectors → sectors ≤ most_sectors → c.epoch ≤ 65536 → c.marks ≤ 65536
    → at + 8 ≤ 32 → at % 8 ≡ 0 → Describes sectors frame (context_word sectors at) (number_at 8 at (context_bytes c))
context_word_means sectors frame c at told few epoch marks fits aligned = by (at / 8) (omega (arith, aligned))
  where
    by : (q : ℕ) → at ≡ 8 * q → Describes sectors frame (context_word sectors at) (number_at 8 at (context_bytes c))
    by zero e0 = let e : at ≡ 0 = omega (arith, e0) in rw (e, word_zero c (omega (arith, told, few)), told) (word_in sectors sectors sectors (omega (arith, few)) (omega arith) (omega arith))
    by (suc zero) e0 = let e : at ≡ 8 = omega (arith, e0) in rw (e, word_one c (omega (arith, epoch))) (word_in 0 65536 c.epoch (omega arith) (omega arith) epoch)
    by (suc (suc zero)) e0 = let e : at ≡ 16 = omega (arith, e0) in rw (e, word_two c (omega (arith, marks))) (word_in 0 65536 c.marks (omega arith) (omega arith) marks)
    by (suc (suc (suc zero))) e0 = let e : at ≡ 24 = omega (arith, e0) in rw (e, word_three c) (word_in 0 0 0 (omega arith) (omega arith) (omega arith))
    by (suc (suc (suc (suc q)))) e = absurd (omega (arith, e, fits))

-- any number

pub any_describes : (sectors frame : ℕ) (s : Size) (x : ℕ) → x < 256 ^ byte_count s → Describes sectors frame (any_of (byte_count s)) x
any_describes sectors frame size.Byte x lt = word_in 0 (2 ^ 8 - 1) x (omega arith) (omega arith) (omega (arith, lt))
any_describes sectors frame size.Half x lt = word_in 0 (2 ^ 16 - 1) x (omega arith) (omega arith) (omega (arith, lt))
any_describes sectors frame size.Word x lt = word_in 0 (2 ^ 32 - 1) x (omega arith) (omega arith) (omega (arith, lt))
any_describes sectors frame size.Double x lt = word_in 0 (2 ^ 64 - 1) x (omega arith) (omega arith) (omega (arith, lt))

pub any_word_below : (s : Size) (x : ℕ) → x < 256 ^ byte_count s → x < 2 ^ 64
any_word_below size.Byte x lt = omega (arith, lt)
any_word_below size.Half x lt = omega (arith, lt)
any_word_below size.Word x lt = omega (arith, lt)
any_word_below size.Double x lt = omega (arith, lt)

pub few_bytes : (s : Size) → byte_count s ≤ 8
few_bytes size.Byte = omega arith
few_bytes size.Half = omega arith
few_bytes size.Word = omega arith
few_bytes size.Double = omega arith

pub group_parts : (at n : ℕ) → is_group at n ≡ true → (n ≡ 8) × (at % 8 ≡ 0)
group_parts at n e =
    let h = and_parts (n == 8) (at % 8 == 0) e in
    let one = h.0 in let two = h.1 in
    (grind (arith, nat_tests), grind (arith, nat_tests))

-- bytes of the stack

pub mark_set : (sectors frame : ℕ) (gk : GroupKind) (stack : List (Option ℕ)) (g k : ℕ) → GroupMeans sectors frame gk stack g → k < 8 → is_mark (mark_in gk k) mark.Unset ≡ false
    → IsSetAt stack g k
mark_set sectors frame (Spilled kind) stack g k m lt e = m.0 k lt
mark_set sectors frame (Marked marks) stack g k m lt e = by (get_or marks k false) refl e
  where
    by : (b : Bool) → get_or marks k false ≡ b → is_mark (if b then mark.Written else mark.Unset) mark.Unset ≡ false → IsSetAt stack g k
    by true t f = m k lt t
    by false t f = absurd (let bad : true ≡ false = f in cc)

none_at : (groups : List GroupKind) (at n i : ℕ) → none_is mark.Unset groups at n ≡ true → i < n → is_mark (mark_at groups (at + i)) mark.Unset ≡ false
unfolding none_is
none_at groups at zero i e lt = absurd (omega (arith, lt))
none_at groups at (suc n) zero e lt =
    let h = and_parts (not (is_mark (mark_at groups at) mark.Unset)) (none_is mark.Unset groups (at + 1) n) e in
    let a0 : at + 0 ≡ at = omega arith in
    rw a0 (not_unset (is_mark (mark_at groups at) mark.Unset) h.0)
none_at groups at (suc n) (suc i) e lt =
    let h = and_parts (not (is_mark (mark_at groups at) mark.Unset)) (none_is mark.Unset groups (at + 1) n) e in
    let next : at + 1 + i ≡ at + suc i = omega arith in
    ap (λ (q : ℕ). is_mark (mark_at groups q) mark.Unset) (sym next) ∙ none_at groups (at + 1) n i h.1 (omega (arith, lt))

pub set_at : (sectors frame : ℕ) (groups : List GroupKind) (stack : List (Option ℕ)) (q : ℕ) → ((g : ℕ) → GroupMeans sectors frame (get_or groups g (Marked [])) stack g)
    → is_mark (mark_at groups q) mark.Unset ≡ false → is_some (get_or stack q None) ≡ true
set_at sectors frame groups stack q h e =
    let there = mark_set sectors frame (get_or groups (q / 8) (Marked [])) stack (q / 8) (q % 8) (h (q / 8)) (mod-lt q (omega arith)) e in
    let same : 8 * (q / 8) + q % 8 ≡ q = omega arith in
    ap (λ (p : ℕ). is_some (get_or stack p None)) (sym same) ∙ there

means_describes : (sectors frame : ℕ) (k : Kind) (w : ℕ) → Means sectors frame k (Some w) → Describes sectors frame k w
means_describes sectors frame Unset w m = tt
means_describes sectors frame Word w m = tt
means_describes sectors frame (Num x) w m = let same : m.0 ≡ w = by m.0 m.1 in rw (← same) m.2
  where
    by : (v : ℕ) → Some w ≡ Some v → v ≡ w
    by v e = cc
means_describes sectors frame (Ctx o) w m = let same : m.0 ≡ w = by m.0 m.1 in rw (← same) m.2
  where
    by : (v : ℕ) → Some w ≡ Some v → v ≡ w
    by v e = cc
means_describes sectors frame (Stack o) w m = let same : m.0 ≡ w = by m.0 m.1 in rw (← same) m.2
  where
    by : (v : ℕ) → Some w ≡ Some v → v ≡ w
    by v e = cc
means_describes sectors frame (Sector x) w m = subst (Describes sectors frame (Sector x)) (by m.0 m.1) m.2
  where
    by : (v : ℕ) → Some w ≡ Some v → v ≡ w
    by v e = cc
means_describes sectors frame SectorOrNull w m = subst (Describes sectors frame SectorOrNull) (by m.0 m.1) m.2
  where
    by : (v : ℕ) → Some w ≡ Some v → v ≡ w
    by v e = cc

group_describes : (sectors frame : ℕ) (gk : GroupKind) (stack : List (Option ℕ)) (g x : ℕ) → GroupMeans sectors frame gk stack g → x ≡ number_at 8 (8 * g) (map bare stack) → x < 2 ^ 64
    → Describes sectors frame (group_value gk) x
group_describes sectors frame (Marked marks) stack g x m e lt = word_in 0 (2 ^ 64 - 1) x (omega arith) (omega arith) (omega (arith, lt))
group_describes sectors frame (Spilled k) stack g x m e lt = rw e (means_describes sectors frame k (number_at 8 (8 * g) (map bare stack)) m.1)

-- what a load finds
pub record Found (bytes : ℕ → ByteAt) (a : ℕ) (s : Size) (sectors frame : ℕ) (k : Kind) : Type 0 where
  pub number : ℕ
  pub reads : Reads bytes a (byte_count s) number
  pub describes : Describes sectors frame k number
  pub below : number < 256 ^ byte_count s

found : (program : List (Option Instr)) (sectors : ℕ) (device : List (List ℕ)) (context : Context) (known : Abstract) (m : Parts) (s : Size) (p : AccessPlace) (a : ℕ)
    → IsSetting program sectors device context → Site sectors known m → Lands sectors (number m) p (byte_count s) a → has_no mark.Unset known.groups p (byte_count s) ≡ true
    → Found (byte_at (context_bytes context) device (all_frames m)) a s sectors (number m) (loaded_kind sectors known.groups p (byte_count s))
unfolding loaded_kind
found program sectors device context known m s place.Outside a set site lands none = absurd lands
found program sectors device context known m s (place.Context at) a set site lands none =
    record {
      number = number_at (byte_count s) at (context_bytes context);
      reads = reads_bytes (byte_at (context_bytes context) device (all_frames m)) a (byte_count s) at (context_bytes context) (omega (arith, lands.0, lands.1))
          (omega (arith, long_context context, lands.1))
          (λ i small. in_context (context_bytes context) device (all_frames m) (a + i) (at + i) (omega (arith, lands.0)) (omega (arith, long_context context, lands.1, small))
          (omega (arith, long_context context)));
      describes = by (is_group at (byte_count s)) refl;
      below = number_below (byte_count s) at (context_bytes context) (small_context context);
    }
  where
    by : (b : Bool) → is_group at (byte_count s) ≡ b
        → Describes sectors (number m) (if b then context_word sectors at else any_of (byte_count s)) (number_at (byte_count s) at (context_bytes context))
    by true e =
        let h = group_parts at (byte_count s) e in
        let fits : at + 8 ≤ 32 = omega (arith, h.0, lands.1) in
        subst (λ (n : ℕ). Describes sectors (number m) (context_word sectors at) (number_at n at (context_bytes context))) (sym h.0)
        (context_word_means sectors (number m) context at set.told set.few set.epoch set.marks fits h.1)
    by false e = any_describes sectors (number m) s (number_at (byte_count s) at (context_bytes context)) (number_below (byte_count s) at (context_bytes context) (small_context context))
found program sectors device context known m s (place.Stack at) a set site lands none =
    record {
      number = number_at (byte_count s) at (map bare m.stack);
      reads = reads_bytes (byte_at (context_bytes context) device (all_frames m)) a (byte_count s) at (map bare m.stack) (omega (arith, lands.0, lands.1, site.few.frames))
          (omega (arith, long_bare m.stack site.stands.cells.long, lands.1))
          (λ i small. set_in_stack (context_bytes context) device m.below m.caller m.stack (a + i) (at + i) site.few.frames (omega (arith, lands.0)) (omega (arith, lands.1, small)) site.stands.cells.long
          (set_at sectors (number m) known.groups m.stack (at + i) site.stands.groups (none_at known.groups at (byte_count s) i none small)));
      describes = by (is_group at (byte_count s)) refl;
      below = number_below (byte_count s) at (map bare m.stack) (small_stack m.stack site.stands.cells);
    }
  where
    by : (b : Bool) → is_group at (byte_count s) ≡ b
        → Describes sectors (number m) (if b then group_value (get_or known.groups (at / 8) (Marked [])) else any_of (byte_count s)) (number_at (byte_count s) at (map bare m.stack))
    by true e =
        let h = group_parts at (byte_count s) e in
        let place : at ≡ 8 * (at / 8) = omega (arith, h.1) in
        let same : number_at (byte_count s) at (map bare m.stack) ≡ number_at 8 (8 * (at / 8)) (map bare m.stack) =
        ap (λ (n : ℕ). number_at n at (map bare m.stack)) h.0 ∙ ap (λ (q : ℕ). number_at 8 q (map bare m.stack)) place in
        group_describes sectors (number m) (get_or known.groups (at / 8) (Marked [])) m.stack (at / 8) (number_at (byte_count s) at (map bare m.stack)) (site.stands.groups (at / 8)) same
        (any_word_below s (number_at (byte_count s) at (map bare m.stack)) (number_below (byte_count s) at (map bare m.stack) (small_stack m.stack site.stands.cells)))
    by false e = any_describes sectors (number m) s (number_at (byte_count s) at (map bare m.stack)) (number_below (byte_count s) at (map bare m.stack) (small_stack m.stack site.stands.cells))
found program sectors device context known m s place.Sector a set site lands none =
    let q : ℕ = lands.0 in
    let sector : List ℕ = get_or device q [] in
    let inside = lands.2 in let count = set.count in
    let there : slice_get device q ≡ Some sector = slice_get-get_or device q [] (omega (arith, inside, count)) in
    let whole = set.whole q sector there in
    let most = set.few in
    record {
      number = number_at (byte_count s) lands.1 sector;
      reads = reads_bytes (byte_at (context_bytes context) device (all_frames m)) a (byte_count s) lands.1 sector (omega (arith, lands.3, lands.4, inside, most))
          (omega (arith, whole.long, lands.3))
          (λ i small. in_sector (context_bytes context) device (all_frames m) sector (a + i) q (lands.1 + i) (omega (arith, lands.4)) (omega (arith, lands.3, small)) there whole.long);
      describes = any_describes sectors (number m) s (number_at (byte_count s) lands.1 sector) (number_below (byte_count s) lands.1 sector whole.bytes);
      below = number_below (byte_count s) lands.1 sector whole.bytes;
    }

-- what a load of a base that keeps its rules finds
load_found : (program : List (Option Instr)) (sectors : ℕ) (device : List (List ℕ)) (context : Context) (known : Abstract) (m : Parts) (s : Size) (base : ℕ) (distance : ℤ)
    → IsSetting program sectors device context → Site sectors known m → FitsSigned w16 distance
    → are_set known (base ∷ []) ≡ true → is_inside (place_of (value known base) distance (byte_count s)) ≡ true
    → has_no mark.Unset known.groups (place_of (value known base) distance (byte_count s)) (byte_count s) ≡ true
    → Found (byte_at (context_bytes context) device (all_frames m)) (step.address (machine m) base distance) s sectors (number m)
    (loaded_kind sectors known.groups (place_of (value known base) distance (byte_count s)) (byte_count s))
load_found program sectors device context known m s base distance set site fits is inside none =
    found program sectors device context known m s (place_of (value known base) distance (byte_count s)) (step.address (machine m) base distance) set site
    (place_lands sectors (number m) (value known base) distance (byte_count s) (word (machine m) base) site.few fits (value_fits known base site.fits)
    (first_describes sectors known m base [] site is) inside) none

load_passes : (program : List (Option Instr)) (bytes : ℕ → ByteAt) (sectors : ℕ) (known : Abstract) (m : Parts) (dst base n x : ℕ) (distance : ℤ) → Site sectors known m
    → Reads bytes (step.address (machine m) base distance) n x → are_set known (base ∷ []) ≡ true → not (dst == 10) ≡ true → is_some (at program (m.slot + 1)) ≡ true
    → first_failing (step.load_checks program bytes (machine m) dst base distance n) ≡ None
load_passes program bytes sectors known m dst base n x distance site reads is free next =
    pass_five fault.FramePointer fault.UnsetRegister fault.Unmapped fault.UnsetByte fault.NoInstruction (not (dst == 10))
    (list_all (λ r. is_some (get_or m.registers r None)) (base ∷ [])) (all_mapped bytes (step.address (machine m) base distance) n)
    (all_set bytes (step.address (machine m) base distance) n) (is_some (at program (m.slot + 1)))
    free (reads_set sectors (number m) known m.registers (base ∷ []) site.stands.values is) reads.mapped reads.whole next

pub load_goes : (program : List (Option Instr)) (sectors : ℕ) (device : List (List ℕ)) (context : Context) (known : Abstract) (m : Parts) (s : Size) (dst base : ℕ) (distance : ℤ)
    → IsSetting program sectors device context → Site sectors known m → FitsSigned w16 distance → not (dst == 10) ≡ true → is_some (at program (m.slot + 1)) ≡ true
    → first_failing (rules known (instr.Load s dst base distance)) ≡ None
    → Goes sectors m (passes sectors known m.slot (instr.Load s dst base distance)) (step_of program (context_bytes context) device (machine m) (instr.Load s dst base distance))
unfolding rules_with load_rules passed_with after_with step_of checks effect
load_goes program sectors device context known m s dst base distance set site fits free next keeps =
    let n : ℕ = byte_count s in
    let p : AccessPlace = place_of (value known base) distance n in
    let tell = four_tell cause.UnsetRegister cause.OutsideRegion cause.UnsetByte cause.PointerAsNumber (are_set known (base ∷ [])) (is_inside p)
    (has_no mark.Unset known.groups p n) (is_whole p n || has_no mark.Pointer known.groups p n) keeps in
    let bytes : ℕ → ByteAt = byte_at (context_bytes context) device (all_frames m) in
    let a : ℕ = step.address (machine m) base distance in
    let f = load_found program sectors device context known m s base distance set site fits tell.0 tell.1 tell.2 in
    let k : Kind = loaded_kind sectors known.groups p n in
    let x : ℕ = number_from bytes a n in
    let small : x < 2 ^ 64 = rw f.reads.number (any_word_below s f.number f.below) in
    let describes : Describes sectors (number m) k x = subst (Describes sectors (number m) k) (sym f.reads.number) f.describes in
    set_goes sectors known m (step.load_checks program bytes (machine m) dst base distance n) 1 dst x k
    (load_passes program bytes sectors known m dst base n f.number distance site f.reads tell.0 free next) site.fits site.stands site.turns small (word_means sectors (number m) k x describes)

pub extended_word : (e : SignExtension) (x : ℕ) → x < 2 ^ 64 → sign_extension e x < 2 ^ 64
extended_word e x lt =
    let r : Span = extended_result e (only x) in
    let fit : IsSpan (2 ^ 64 - 1) (only x) = record { ordered = omega arith; most = omega arith } in
    let most = extended_fits e (only x) fit in
    let has : Has r (sign_extension e x) = extended_has e (only x) x fit (record { from = omega arith; upto = omega arith }) in
    omega (arith, most.most, has.upto)

pub signed_load_goes : (program : List (Option Instr)) (sectors : ℕ) (device : List (List ℕ)) (context : Context) (known : Abstract) (m : Parts) (s : SignedSize) (dst base : ℕ) (distance : ℤ)
    → IsSetting program sectors device context → Site sectors known m → FitsSigned w16 distance → not (dst == 10) ≡ true → is_some (at program (m.slot + 1)) ≡ true
    → first_failing (rules known (instr.LoadSigned s dst base distance)) ≡ None
    → Goes sectors m (passes sectors known m.slot (instr.LoadSigned s dst base distance)) (step_of program (context_bytes context) device (machine m) (instr.LoadSigned s dst base distance))
unfolding rules_with load_rules passed_with after_with step_of checks effect
signed_load_goes program sectors device context known m s dst base distance set site fits free next keeps =
    let n : ℕ = byte_count (plain_size s) in
    let p : AccessPlace = place_of (value known base) distance n in
    let tell = four_tell cause.UnsetRegister cause.OutsideRegion cause.UnsetByte cause.PointerAsNumber (are_set known (base ∷ [])) (is_inside p)
    (has_no mark.Unset known.groups p n) (is_whole p n || has_no mark.Pointer known.groups p n) keeps in
    let bytes : ℕ → ByteAt = byte_at (context_bytes context) device (all_frames m) in
    let a : ℕ = step.address (machine m) base distance in
    let f = load_found program sectors device context known m (plain_size s) base distance set site fits tell.0 tell.1 tell.2 in
    let v : ℕ = number_from bytes a n in
    let word : v < 2 ^ 64 = rw f.reads.number (any_word_below (plain_size s) f.number f.below) in
    let x : ℕ = sign_extension (extension_of s) v in
    let small : x < 2 ^ 64 = extended_word (extension_of s) v word in
    set_goes sectors known m (step.load_checks program bytes (machine m) dst base distance n) 1 dst x (Num any_word)
    (load_passes program bytes sectors known m dst base n f.number distance site f.reads tell.0 free next) site.fits site.stands site.turns small
    (x, refl, word_in 0 (2 ^ 64 - 1) x (omega arith) (omega arith) (omega (arith, small)))
