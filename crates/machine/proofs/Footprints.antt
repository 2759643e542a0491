-- What a run comes to hangs on no sector but those of its footprint.
use Rattle.std.proofs.Common.{ℕ, zero, suc, ◌≡◌, ◌+◌, ◌-◌, ◌*◌, ◌/◌, ◌%◌, ◌^◌, ◌<◌, ◌≤◌, ◌⊎◌, nat_lt, nat_le, Bool, true, false, if◌then◌else◌, List, [], ◌∷◌, ◌++◌, length, map, filter, Option, None, Some, slice_get, slice_index, refl, sym, ap, ◌∙◌, subst, inl, inr, arith}
use Rattle.std.specs.Option.{option_map_or, option_and_then}
use Rattle.std.specs.Int.{cast_unsigned, w32}
use Rattle.std.specs.List.{range_with_len}
use Rattle.std.proofs.Math.Path.{fun_ext}
use Rattle.std.proofs.lemmas.Bool.{cases_lt}
use Rattle.std.proofs.lemmas.Option.{slice_get_past}
use Rattle.base.specs.Check.{Check, check, first_failing}
use Rattle.base.specs.Numbers.{number_at}
use Rattle.base.specs.declared.causes.MachineFault.TheVariants as fault
use Rattle.std.proofs.lemmas.Bool.Decides.{nat_tests}
use Rattle.base.specs.declared.causes.MachineFault.{MachineFault}
use Rattle.bpf_isa.specs.declared.instr.Instr.{Instr}
use Rattle.bpf_isa.specs.declared.instr.Instr.TheVariants as instr
use Rattle.bpf_isa.specs.declared.instr.Size.{Size}
use Rattle.bpf_isa.specs.declared.instr.Size.TheVariants as size
use Rattle.bpf_isa.specs.Slots.{at}
use Rattle.helpers.specs.declared.helper.Helper.{Helper}
use Rattle.helpers.specs.declared.helper.Helper.TheVariants as helper
use Rattle.helpers.specs.Helper.{helper_of}
use Rattle.helpers.specs.Answers.{sector_start, device_byte, device_bytes, copy_answer}
use Rattle.helpers.specs.Queries.{query_sectors}
use Rattle.helpers.proofs.Queries.{query_same}
use Rattle.machine.specs.declared.ByteAt.{ByteAt}
use Rattle.machine.specs.declared.ByteAt.TheVariants.{Unmapped}
use Rattle.machine.specs.State.{State, Frame, context_start, stack_start, word, start}
use Rattle.machine.specs.Arithmetic.{sign_extension}
use Rattle.machine.specs.Memory.{addresses, all_at, all_mapped, all_set, is_mapped, is_set, value, number_from, byte_at_place, in_blocks, byte_at, byte_count, plain_size, extension_of, all_in_stacks, frames_with, context_bytes}
use Rattle.machine.specs.Step.{Stepped, Next, Done, Fault, address, memory, may_write, reads, goes_on, is_length, load_tests, store_tests, checks, call_checks, effect, call_effect, answer_step, set_and_go, after_checks, step, step_of}
use Rattle.machine.specs.Outcome.{after, steps_end, outcome}
use Rattle.helpers.specs.Footprint.{on_device, sectors_of, sector_at, sectors_at, helper_sectors}
use Rattle.machine.specs.Footprint.{call_reads, reads_of, read_here, read_after, read_from, footprint, HaveSame, AreAlike, FootprintTells}

-- a sector's bytes are mapped by its length alone

held_alike : (x y : List ℕ) (i : ℕ) → length x ≡ length y → is_mapped (byte_at_place (slice_get x i)) ≡ is_mapped (byte_at_place (slice_get y i))
held_alike [] [] i e = refl
held_alike [] (b ∷ y) i e = absurd (omega (arith, e))
held_alike (a ∷ x) [] i e = absurd (omega (arith, e))
held_alike (a ∷ x) (b ∷ y) zero e = refl
held_alike (a ∷ x) (b ∷ y) (suc i) e = held_alike x y i (omega (arith, e))

block_mapped : (x y : Option (List ℕ)) (i : ℕ) → ((s t : List ℕ) → x ≡ Some s → y ≡ Some t → length s ≡ length t) → (x ≡ None → y ≡ None) → (y ≡ None → x ≡ None)
    → is_mapped (byte_at_place (option_and_then (λ (block : List ℕ). slice_get block i) x)) ≡ is_mapped (byte_at_place (option_and_then (λ (block : List ℕ). slice_get block i) y))
block_mapped None None i long there back = refl
block_mapped None (Some t) i long there back = absurd (let bad : Some t ≡ None = there refl in cc)
block_mapped (Some s) None i long there back = absurd (let bad : Some s ≡ None = back refl in cc)
block_mapped (Some s) (Some t) i long there back = held_alike s t i (long s t refl refl)

none_alike : (a b : List (List ℕ)) (q : ℕ) → length a ≡ length b → slice_get a q ≡ None → slice_get b q ≡ None
none_alike [] [] q e none = refl
none_alike [] (y ∷ b) q e none = absurd (omega (arith, e))
none_alike (x ∷ a) [] q e none = refl
none_alike (x ∷ a) (y ∷ b) zero e none = absurd (let bad : Some x ≡ None = none in cc)
none_alike (x ∷ a) (y ∷ b) (suc q) e none = none_alike a b q (omega (arith, e)) none

sector_mapped : (a b : List (List ℕ)) (p : ℕ) → AreAlike a b → is_mapped (byte_at_place (in_blocks a p)) ≡ is_mapped (byte_at_place (in_blocks b p))
sector_mapped a b p alike =
    block_mapped (slice_get a (p / 1024)) (slice_get b (p / 1024)) (p % 1024)
    (λ s t x y. alike.sectors (p / 1024) s x ∙ sym (alike.others (p / 1024) t y))
    (none_alike a b (p / 1024) alike.count)
    (none_alike b a (p / 1024) (sym alike.count))

held_set : (x : Option ℕ) → is_set (byte_at_place x) ≡ true
held_set None = refl
held_set (Some n) = refl

-- an address is mapped, or unset, on both devices

abbrev byte_of : ByteAt → ByteAt → ByteAt → ByteAt → Bool → Bool → Bool → ByteAt
byte_of none context stack sector low middle high = if low then none else if middle then context else if high then stack else sector

either_way : (f : ByteAt → Bool) (none context stack sector other : ByteAt) (low middle high : Bool) → f sector ≡ f other
    → f (byte_of none context stack sector low middle high) ≡ f (byte_of none context stack other low middle high)
either_way f none context stack sector other true middle high e = refl
either_way f none context stack sector other false true high e = refl
either_way f none context stack sector other false false true e = refl
either_way f none context stack sector other false false false e = e

mapped_at : (context : List ℕ) (a b : List (List ℕ)) (frames : List Frame) (p : ℕ) → AreAlike a b
    → is_mapped (byte_at context a frames p) ≡ is_mapped (byte_at context b frames p)
unfolding byte_at
mapped_at context a b frames p alike =
    either_way is_mapped _ _ _ _ _ (nat_lt p context_start) (nat_lt p stack_start) (nat_lt p sector_start) (sector_mapped a b (p - sector_start) alike)

set_at : (context : List ℕ) (a b : List (List ℕ)) (frames : List Frame) (p : ℕ)
    → is_set (byte_at context a frames p) ≡ is_set (byte_at context b frames p)
unfolding byte_at
set_at context a b frames p =
    either_way is_set _ _ _ _ _ (nat_lt p context_start) (nat_lt p stack_start) (nat_lt p sector_start)
    (held_set (in_blocks a (p - sector_start)) ∙ sym (held_set (in_blocks b (p - sector_start))))

pub all_mapped_alike : (context : List ℕ) (a b : List (List ℕ)) (frames : List Frame) → AreAlike a b → (p n : ℕ)
    → all_mapped (byte_at context a frames) p n ≡ all_mapped (byte_at context b frames) p n
all_mapped_alike context a b frames alike p n = ap (λ (test : ℕ → Bool). all_at test p n) (fun_ext (λ at. mapped_at context a b frames at alike))

all_set_alike : (context : List ℕ) (a b : List (List ℕ)) (frames : List Frame) → (p n : ℕ)
    → all_set (byte_at context a frames) p n ≡ all_set (byte_at context b frames) p n
all_set_alike context a b frames p n = ap (λ (test : ℕ → Bool). all_at test p n) (fun_ext (λ at. set_at context a b frames at))

-- so all checks are the same

pub two : {X Y Z : Type 0} (f : X → Y → Z) {x u : X} {y v : Y} → x ≡ u → y ≡ v → f x y ≡ f u v
two f {x = x} {v = v} e h = ap (f x) h ∙ ap (λ z. f z v) e

load_tests_alike : (program : List (Option Instr)) (context : List ℕ) (a b : List (List ℕ)) (s : State) (p n : ℕ) → AreAlike a b
    → load_tests program (memory context a s) s p n ≡ load_tests program (memory context b s) s p n
load_tests_alike program context a b s p n alike =
    two (λ (mapped set : Bool). check fault.Unmapped mapped ∷ check fault.UnsetByte set ∷ goes_on program (s.slot + 1) ∷ [])
    (all_mapped_alike context a b s.frames alike p n) (all_set_alike context a b s.frames p n)

store_tests_alike : (program : List (Option Instr)) (context : List ℕ) (a b : List (List ℕ)) (s : State) (p n : ℕ) → AreAlike a b
    → store_tests program (memory context a s) s p n ≡ store_tests program (memory context b s) s p n
store_tests_alike program context a b s p n alike =
    ap (λ (mapped : Bool). check fault.Unmapped mapped ∷ check fault.ReadOnly (all_in_stacks p n) ∷ goes_on program (s.slot + 1) ∷ [])
    (all_mapped_alike context a b s.frames alike p n)

call_checks_alike : (program : List (Option Instr)) (context : List ℕ) (a b : List (List ℕ)) (s : State) → AreAlike a b → (h : Helper)
    → call_checks program (memory context a s) s h ≡ call_checks program (memory context b s) s h
unfolding call_checks
call_checks_alike program context a b s alike helper.Copy =
    ap (λ (rest : List (Check MachineFault)). reads s (1 ∷ 2 ∷ 3 ∷ []) ∷ check fault.HelperArgument (is_length (word s 3)) ∷ rest)
    (store_tests_alike program context a b s (word s 2) (word s 3) alike)
call_checks_alike program context a b s alike helper.Again = refl
call_checks_alike program context a b s alike helper.Report = refl
call_checks_alike program context a b s alike (helper.Query q) = refl

pub found_alike : {X Y : Type 0} (f g : X → Y) (d : Y) (found : Option X) → ((x : X) → f x ≡ g x) → option_map_or f found d ≡ option_map_or g found d
found_alike f g d None h = refl
found_alike f g d (Some x) h = h x

checks_alike : (program : List (Option Instr)) (context : List ℕ) (a b : List (List ℕ)) (s : State) → AreAlike a b → (i : Instr)
    → checks program (memory context a s) s i ≡ checks program (memory context b s) s i
unfolding checks
checks_alike program context a b s alike (instr.Arithmetic w o dst from) = refl
checks_alike program context a b s alike (instr.Negate w dst) = refl
checks_alike program context a b s alike (instr.SignExtend e dst src) = refl
checks_alike program context a b s alike (instr.ByteOrder o size dst) = refl
checks_alike program context a b s alike (instr.Jump distance) = refl
checks_alike program context a b s alike (instr.LongJump distance) = refl
checks_alike program context a b s alike (instr.Branch w c dst from distance) = refl
checks_alike program context a b s alike (instr.CallHelper number) =
    found_alike (call_checks program (memory context a s) s) (call_checks program (memory context b s) s) (check fault.UnknownHelper false ∷ [])
    (helper_of (cast_unsigned w32 number)) (call_checks_alike program context a b s alike)
checks_alike program context a b s alike (instr.CallLocal distance) = refl
checks_alike program context a b s alike instr.Exit = refl
checks_alike program context a b s alike (instr.Load size dst base distance) =
    ap (λ (rest : List (Check MachineFault)). may_write dst ∷ reads s (base ∷ []) ∷ rest)
    (load_tests_alike program context a b s (address s base distance) (byte_count size) alike)
checks_alike program context a b s alike (instr.LoadSigned size dst base distance) =
    ap (λ (rest : List (Check MachineFault)). may_write dst ∷ reads s (base ∷ []) ∷ rest)
    (load_tests_alike program context a b s (address s base distance) (byte_count (plain_size size)) alike)
checks_alike program context a b s alike (instr.StoreImmediate size base distance n) =
    ap (λ (rest : List (Check MachineFault)). reads s (base ∷ []) ∷ rest)
    (store_tests_alike program context a b s (address s base distance) (byte_count size) alike)
checks_alike program context a b s alike (instr.Store size base distance src) =
    ap (λ (rest : List (Check MachineFault)). reads s (base ∷ src ∷ []) ∷ rest)
    (store_tests_alike program context a b s (address s base distance) (byte_count size) alike)
checks_alike program context a b s alike (instr.LoadImmediate dst x) = refl

-- where the sectors that it reads are the same, so is the effect

pub same_split : (a b : List (List ℕ)) (xs ys : List ℕ) → HaveSame a b (xs ++ ys) → HaveSame a b xs × HaveSame a b ys
same_split a b [] ys same = (tt, same)
same_split a b (x ∷ xs) ys same =
    let rest = same_split a b xs ys same.1 in
    ((same.0, rest.0), rest.1)

one_same : (a b : List (List ℕ)) (test : Bool) (q : ℕ) → test ≡ false → HaveSame a b (if test then [] else q ∷ []) → slice_get a q ≡ slice_get b q
one_same a b true q e same = absurd (let bad : true ≡ false = e in cc)
one_same a b false q e same = same.0

byte_alike : (none context stack sector other : ByteAt) (low middle high : Bool) → (high ≡ false → sector ≡ other)
    → byte_of none context stack sector low middle high ≡ byte_of none context stack other low middle high
byte_alike none context stack sector other true middle high e = refl
byte_alike none context stack sector other false true high e = refl
byte_alike none context stack sector other false false true e = refl
byte_alike none context stack sector other false false false e = e refl

byte_same : (context : List ℕ) (a b : List (List ℕ)) (frames : List Frame) (p : ℕ) → HaveSame a b (sector_at p)
    → byte_at context a frames p ≡ byte_at context b frames p
unfolding byte_at
byte_same context a b frames p same =
    byte_alike _ _ _ _ _ (nat_lt p context_start) (nat_lt p stack_start) (nat_lt p sector_start)
    (λ high. ap (λ (x : Option (List ℕ)). byte_at_place (option_and_then (λ (block : List ℕ). slice_get block ((p - sector_start) % 1024)) x))
    (one_same a b (nat_lt p sector_start) ((p - sector_start) / 1024) high same))

abbrev SameAt : List (List ℕ) → List (List ℕ) → ℕ → Type 0
SameAt a b p = HaveSame a b (sector_at p)

values_same : (context : List ℕ) (a b : List (List ℕ)) (frames : List Frame) (n p : ℕ) → ((i : ℕ) → i < n → SameAt a b ((p + i) % 2 ^ 64)) → p < 2 ^ 64
    → map (λ at. value (byte_at context a frames at)) (addresses p n) ≡ map (λ at. value (byte_at context b frames at)) (addresses p n)
values_same context a b frames zero p same below = refl
values_same context a b frames (suc n) p same below =
    let here : (p + 0) % 2 ^ 64 ≡ p = omega (arith, below) in
    let onward : (i : ℕ) → i < n → SameAt a b (((p + 1) % 2 ^ 64 + i) % 2 ^ 64) =
    λ i lt. let e : (p + suc i) % 2 ^ 64 ≡ ((p + 1) % 2 ^ 64 + i) % 2 ^ 64 = omega arith in subst (SameAt a b) e (same (suc i) (omega (arith, lt))) in
    two (λ (x : ℕ) (xs : List ℕ). x ∷ xs)
    (ap value (byte_same context a b frames p (subst (SameAt a b) here (same 0 (omega arith)))))
    (values_same context a b frames n ((p + 1) % 2 ^ 64) onward (omega arith))

-- an address of an access of at most 512 bytes lies in the sector of the first one or of the last one

abbrev Block : ℕ → ℕ
Block p = (p - sector_start) / 1024

near : (p m i : ℕ) → p < 2 ^ 64 → i ≤ m → m < 512 → sector_start ≤ (p + i) % 2 ^ 64
    → ((sector_start ≤ p) × (Block ((p + i) % 2 ^ 64) ≡ Block p)) ⊎ ((sector_start ≤ (p + m) % 2 ^ 64) × (Block ((p + i) % 2 ^ 64) ≡ Block ((p + m) % 2 ^ 64)))
near p m i below le few from = elim (cases_lt p sector_start) [
  | inl less ↦ inr (omega (arith, below, le, few, from, less), omega (arith, below, le, few, from, less))
  | inr more ↦ by_block (cases_lt (Block p) (Block ((p + i) % 2 ^ 64))) more
]
  where
    by_block : ((Block p < Block ((p + i) % 2 ^ 64)) ⊎ (Block ((p + i) % 2 ^ 64) ≤ Block p)) → sector_start ≤ p
        → ((sector_start ≤ p) × (Block ((p + i) % 2 ^ 64) ≡ Block p)) ⊎ ((sector_start ≤ (p + m) % 2 ^ 64) × (Block ((p + i) % 2 ^ 64) ≡ Block ((p + m) % 2 ^ 64)))
    by_block (inl next) more = inr (omega (arith, below, le, few, from, more, next), omega (arith, below, le, few, from, more, next))
    by_block (inr same) more = inl (more, omega (arith, below, le, few, from, more, same))

at_block : (a b : List (List ℕ)) (p q : ℕ) → sector_start ≤ q → Block p ≡ Block q → SameAt a b q → (test : Bool) → HaveSame a b (if test then [] else Block p ∷ [])
at_block a b p q from e same true = tt
at_block a b p q from e same false =
    let high : nat_lt q sector_start ≡ false = grind (arith, nat_tests) in
    let there : slice_get a (Block q) ≡ slice_get b (Block q) = one_same a b (nat_lt q sector_start) (Block q) high same in
    (subst (λ (n : ℕ). slice_get a n ≡ slice_get b n) (sym e) there, tt)

below_none : (a b : List (List ℕ)) (p : ℕ) → nat_lt p sector_start ≡ true → SameAt a b p
below_none a b p e = rw e tt

each_same : (a b : List (List ℕ)) (p m : ℕ) → p < 2 ^ 64 → m < 512 → SameAt a b p → SameAt a b ((p + m) % 2 ^ 64) → (i : ℕ) → i ≤ m → SameAt a b ((p + i) % 2 ^ 64)
each_same a b p m below few first last i le = elim (cases_lt ((p + i) % 2 ^ 64) sector_start) [
  | inl less ↦ below_none a b ((p + i) % 2 ^ 64) (grind (arith, nat_tests))
  | inr from ↦ by_place (near p m i below le few from)
]
  where
    by_place : ((sector_start ≤ p) × (Block ((p + i) % 2 ^ 64) ≡ Block p)) ⊎ ((sector_start ≤ (p + m) % 2 ^ 64) × (Block ((p + i) % 2 ^ 64) ≡ Block ((p + m) % 2 ^ 64)))
        → SameAt a b ((p + i) % 2 ^ 64)
    by_place (inl at_first) = at_block a b ((p + i) % 2 ^ 64) p at_first.0 at_first.1 first (nat_lt ((p + i) % 2 ^ 64) sector_start)
    by_place (inr at_last) = at_block a b ((p + i) % 2 ^ 64) ((p + m) % 2 ^ 64) at_last.0 at_last.1 last (nat_lt ((p + i) % 2 ^ 64) sector_start)

loaded_same : (context : List ℕ) (a b : List (List ℕ)) (s : State) (n p : ℕ) → 0 < n → n ≤ 512 → p < 2 ^ 64 → HaveSame a b (sectors_at p n)
    → number_from (memory context a s) p n ≡ number_from (memory context b s) p n
unfolding number_from
loaded_same context a b s n p some few below same =
    let ends = same_split a b (sector_at p) (sector_at ((p + (n - 1)) % 2 ^ 64)) same in
    ap (λ (bytes : List ℕ). number_at n 0 bytes)
    (values_same context a b s.frames n p (λ i lt. each_same a b p (n - 1) below (omega (arith, some, few)) ends.0 ends.1 i (omega (arith, lt))) below)

small_size : (size : Size) → (0 < byte_count size) × (byte_count size ≤ 512)
small_size size.Byte = (omega arith, omega arith)
small_size size.Half = (omega arith, omega arith)
small_size size.Word = (omega arith, omega arith)
small_size size.Double = (omega arith, omega arith)

-- a number past both devices has no sector on either
on_both : (a b : List (List ℕ)) (x : ℕ) (rest : List ℕ) (test : Bool) → length a ≡ length b → nat_lt x (length a) ≡ test
    → HaveSame a b (if test then x ∷ rest else rest) → (slice_get a x ≡ slice_get b x) × HaveSame a b rest
on_both a b x rest true e is same = same
on_both a b x rest false e is same =
    let past : length a ≤ x = grind (arith, nat_tests) in
    (slice_get_past a x past ∙ sym (slice_get_past b x (omega (arith, past, e))), same)

pub all_same : (a b : List (List ℕ)) (xs : List ℕ) → length a ≡ length b → HaveSame a b (on_device a xs) → HaveSame a b xs
all_same a b [] e same = tt
all_same a b (x ∷ xs) e same =
    let parts = on_both a b x (on_device a xs) (nat_lt x (length a)) e refl same in
    (parts.0, all_same a b xs e parts.1)

-- a byte of a copy lies in the sector of the first one or of the last one

bytes_same : (a b : List (List ℕ)) (n p low high : ℕ) → slice_get a (low / 512) ≡ slice_get b (low / 512) → slice_get a (high / 512) ≡ slice_get b (high / 512)
    → high < low + 512 → low ≤ p → p + n ≤ high + 1 → map (device_byte a) (range_with_len p n) ≡ map (device_byte b) (range_with_len p n)
unfolding device_byte
bytes_same a b zero p low high first last few le within = refl
bytes_same a b (suc n) p low high first last few le within =
    two (λ (x : ℕ) (xs : List ℕ). x ∷ xs)
    (ap (λ (x : Option (List ℕ)). option_map_or (λ (sector : List ℕ). slice_index sector (p % 512)) x 0) (here (cases_lt (low / 512) (p / 512))))
    (bytes_same a b n (p + 1) low high first last few (omega (arith, le)) (omega (arith, within)))
  where
    here : ((low / 512 < p / 512) ⊎ (p / 512 ≤ low / 512)) → slice_get a (p / 512) ≡ slice_get b (p / 512)
    here (inl beyond) = let e : high / 512 ≡ p / 512 = omega (arith, beyond, few, le, within) in subst (λ (q : ℕ). slice_get a q ≡ slice_get b q) e last
    here (inr at) = let e : low / 512 ≡ p / 512 = omega (arith, at, le) in subst (λ (q : ℕ). slice_get a q ≡ slice_get b q) e first

length_parts : (n : ℕ) → is_length n ≡ true → (0 < n) × (n ≤ 512)
length_parts n e = (grind (arith, nat_tests), grind (arith, nat_tests))

pub copied_same : (a b : List (List ℕ)) (p n : ℕ) → is_length n ≡ true → HaveSame a b (sectors_of p n) → device_bytes a p n ≡ device_bytes b p n
unfolding device_bytes
copied_same a b p n fits same =
    let few = length_parts n fits in
    bytes_same a b n p p (p + n - 1) same.0 same.1.0 (omega (arith, few)) (omega arith) (omega (arith, few))

pub copy_answer_same : (a b : List (List ℕ)) (p n : ℕ) → length a ≡ length b → copy_answer a p n ≡ copy_answer b p n
unfolding copy_answer
copy_answer_same a b p n e = ap (λ (count : ℕ). if nat_le (p + n) (512 * count) then 0 else 1) e

-- whether a copy has a length that it may have; of other helpers nothing is asked
abbrev MayCopy : State → Helper → Type 0
MayCopy s helper.Copy = is_length (word s 3) ≡ true
MayCopy s _ = Unit {0}

call_effect_same : (a b : List (List ℕ)) (s : State) (h : Helper) → length a ≡ length b → MayCopy s h → HaveSame a b (call_reads a s h) → call_effect a s h ≡ call_effect b s h
unfolding call_effect helper_sectors
call_effect_same a b s helper.Copy e may same =
    two (λ (bytes : List ℕ) (answer : ℕ). answer_step (record s { frames = frames_with s.frames (word s 2) bytes }) answer)
    (copied_same a b (word s 1) (word s 3) may (all_same a b (sectors_of (word s 1) (word s 3)) e same))
    (copy_answer_same a b (word s 1) (word s 3) e)
call_effect_same a b s helper.Again e may same = refl
call_effect_same a b s helper.Report e may same = refl
call_effect_same a b s (helper.Query q) e may same =
    ap (answer_step s) (query_same a b q (word s 1) (word s 2) (word s 3) e (all_same a b (query_sectors q (word s 1) (word s 2) (word s 3)) e same))

abbrev AnyMayCopy : State → Option Helper → Type 0
AnyMayCopy s None = Unit {0}
AnyMayCopy s (Some h) = MayCopy s h

any_call_same : (a b : List (List ℕ)) (s : State) (found : Option Helper) → length a ≡ length b → AnyMayCopy s found → HaveSame a b (option_map_or (call_reads a s) found [])
    → option_map_or (call_effect a s) found (Next s) ≡ option_map_or (call_effect b s) found (Next s)
any_call_same a b s None e may same = refl
any_call_same a b s (Some h) e may same = call_effect_same a b s h e may same

abbrev InstrMayCopy : State → Instr → Type 0
InstrMayCopy s (instr.CallHelper number) = AnyMayCopy s (helper_of (cast_unsigned w32 number))
InstrMayCopy s _ = Unit {0}

effect_same : (context : List ℕ) (a b : List (List ℕ)) (s : State) (i : Instr) → length a ≡ length b → InstrMayCopy s i → HaveSame a b (reads_of a s i)
    → effect (memory context a s) a s i ≡ effect (memory context b s) b s i
unfolding effect reads_of
effect_same context a b s (instr.Arithmetic w o dst from) e may same = refl
effect_same context a b s (instr.Negate w dst) e may same = refl
effect_same context a b s (instr.SignExtend x dst src) e may same = refl
effect_same context a b s (instr.ByteOrder o size dst) e may same = refl
effect_same context a b s (instr.Jump distance) e may same = refl
effect_same context a b s (instr.LongJump distance) e may same = refl
effect_same context a b s (instr.Branch w c dst from distance) e may same = refl
effect_same context a b s (instr.CallHelper number) e may same = any_call_same a b s (helper_of (cast_unsigned w32 number)) e may same
effect_same context a b s (instr.CallLocal distance) e may same = refl
effect_same context a b s instr.Exit e may same = refl
effect_same context a b s (instr.Load size dst base distance) e may same =
    let n = small_size size in
    ap (set_and_go 1 s dst) (loaded_same context a b s (byte_count size) (address s base distance) n.0 n.1 (omega arith) (all_same a b (sectors_at (address s base distance) (byte_count size)) e same))
effect_same context a b s (instr.LoadSigned size dst base distance) e may same =
    let n = small_size (plain_size size) in
    ap (λ (x : ℕ). set_and_go 1 s dst (sign_extension (extension_of size) x)) (loaded_same context a b s (byte_count (plain_size size)) (address s base distance) n.0 n.1 (omega arith) (all_same a b (sectors_at (address s base distance) (byte_count (plain_size size))) e same))
effect_same context a b s (instr.StoreImmediate size base distance n) e may same = refl
effect_same context a b s (instr.Store size base distance src) e may same = refl
effect_same context a b s (instr.LoadImmediate dst x) e may same = refl

-- a copy whose checks pass has such a length

second_passes : (c d : Check MachineFault) (rest : List (Check MachineFault)) → first_failing (c ∷ d ∷ rest) ≡ None → d.passes ≡ true
second_passes c d rest e = by c.passes d.passes refl refl
  where
    by : (first second : Bool) → c.passes ≡ first → d.passes ≡ second → second ≡ true
    by first true e1 e2 = refl
    by true false e1 e2 = absurd (let bad : Some d.cause ≡ None = rw (e1, e2) at e in cc)
    by false false e1 e2 = absurd (let bad : Some c.cause ≡ None = rw e1 at e in cc)

call_may : (program : List (Option Instr)) (bytes : ℕ → ByteAt) (s : State) (h : Helper) → first_failing (call_checks program bytes s h) ≡ None → MayCopy s h
unfolding call_checks
call_may program bytes s helper.Copy e =
    second_passes (reads s (1 ∷ 2 ∷ 3 ∷ [])) (check fault.HelperArgument (is_length (word s 3))) (store_tests program bytes s (word s 2) (word s 3)) e
call_may program bytes s helper.Again e = tt
call_may program bytes s helper.Report e = tt
call_may program bytes s (helper.Query q) e = tt

any_may : (program : List (Option Instr)) (bytes : ℕ → ByteAt) (s : State) (found : Option Helper)
    → first_failing (option_map_or (call_checks program bytes s) found (check fault.UnknownHelper false ∷ [])) ≡ None → AnyMayCopy s found
any_may program bytes s None e = tt
any_may program bytes s (Some h) e = call_may program bytes s h e

instr_may : (program : List (Option Instr)) (bytes : ℕ → ByteAt) (s : State) (i : Instr) → first_failing (checks program bytes s i) ≡ None → InstrMayCopy s i
unfolding checks
instr_may program bytes s (instr.CallHelper number) e = any_may program bytes s (helper_of (cast_unsigned w32 number)) e
instr_may program bytes s (instr.Arithmetic w o dst from) e = tt
instr_may program bytes s (instr.Negate w dst) e = tt
instr_may program bytes s (instr.SignExtend x dst src) e = tt
instr_may program bytes s (instr.ByteOrder o size dst) e = tt
instr_may program bytes s (instr.Jump distance) e = tt
instr_may program bytes s (instr.LongJump distance) e = tt
instr_may program bytes s (instr.Branch w c dst from distance) e = tt
instr_may program bytes s (instr.CallLocal distance) e = tt
instr_may program bytes s instr.Exit e = tt
instr_may program bytes s (instr.Load size dst base distance) e = tt
instr_may program bytes s (instr.LoadSigned size dst base distance) e = tt
instr_may program bytes s (instr.StoreImmediate size base distance n) e = tt
instr_may program bytes s (instr.Store size base distance src) e = tt
instr_may program bytes s (instr.LoadImmediate dst x) e = tt

-- a step at which the sectors are the same is the same

tested_same : (s : State) (failing : Option MachineFault) (x y : Stepped) → (failing ≡ None → x ≡ y)
    → option_map_or (λ cause. Fault cause s.slot) failing y ≡ option_map_or (λ cause. Fault cause s.slot) failing x
tested_same s None x y alike = sym (alike refl)
tested_same s (Some cause) x y alike = refl

instr_same : (program : List (Option Instr)) (context : List ℕ) (a b : List (List ℕ)) (s : State) (i : Instr) → AreAlike a b
    → HaveSame a b (reads_of a s i) → step_of program context b s i ≡ step_of program context a s i
unfolding step_of
instr_same program context a b s i alike same =
    let own : List (Check MachineFault) = checks program (memory context a s) s i in
    ap (λ (list : List (Check MachineFault)). after_checks s list (effect (memory context b s) b s i)) (sym (checks_alike program context a b s alike i))
    ∙ tested_same s (first_failing own) (effect (memory context a s) a s i) (effect (memory context b s) b s i)
    (λ passes. effect_same context a b s i alike.count (instr_may program (memory context a s) s i passes) same)

pub found_same : (program : List (Option Instr)) (context : List ℕ) (a b : List (List ℕ)) (s : State) (found : Option Instr) → AreAlike a b
    → HaveSame a b (option_map_or (reads_of a s) found [])
    → option_map_or (step_of program context b s) found (Fault fault.NoInstruction s.slot) ≡ option_map_or (step_of program context a s) found (Fault fault.NoInstruction s.slot)
found_same program context a b s None alike same = refl
found_same program context a b s (Some i) alike same = instr_same program context a b s i alike same

-- what a step reads doesn't hang on the device but for its size

call_reads_alike : (a b : List (List ℕ)) (s : State) → length a ≡ length b → (h : Helper) → call_reads b s h ≡ call_reads a s h
call_reads_alike a b s e h = ap (λ (count : ℕ). filter (λ n. nat_lt n count) (helper_sectors h (word s 1) (word s 2) (word s 3))) (sym e)

pub reads_of_alike : (a b : List (List ℕ)) (s : State) → length a ≡ length b → (i : Instr) → reads_of b s i ≡ reads_of a s i
unfolding reads_of
reads_of_alike a b s e (instr.Arithmetic w o dst from) = refl
reads_of_alike a b s e (instr.Negate w dst) = refl
reads_of_alike a b s e (instr.SignExtend x dst src) = refl
reads_of_alike a b s e (instr.ByteOrder o size dst) = refl
reads_of_alike a b s e (instr.Jump distance) = refl
reads_of_alike a b s e (instr.LongJump distance) = refl
reads_of_alike a b s e (instr.Branch w c dst from distance) = refl
reads_of_alike a b s e (instr.CallHelper number) = found_alike (call_reads b s) (call_reads a s) [] (helper_of (cast_unsigned w32 number)) (call_reads_alike a b s e)
reads_of_alike a b s e (instr.CallLocal distance) = refl
reads_of_alike a b s e instr.Exit = refl
reads_of_alike a b s e (instr.Load size dst base distance) = ap (λ (count : ℕ). filter (λ n. nat_lt n count) (sectors_at (address s base distance) (byte_count size))) (sym e)
reads_of_alike a b s e (instr.LoadSigned size dst base distance) = ap (λ (count : ℕ). filter (λ n. nat_lt n count) (sectors_at (address s base distance) (byte_count (plain_size size)))) (sym e)
reads_of_alike a b s e (instr.StoreImmediate size base distance n) = refl
reads_of_alike a b s e (instr.Store size base distance src) = refl
reads_of_alike a b s e (instr.LoadImmediate dst x) = refl

pub read_here_alike : (program : List (Option Instr)) (a b : List (List ℕ)) (s : State) → length a ≡ length b → read_here program b s ≡ read_here program a s
read_here_alike program a b s e = found_alike (reads_of b s) (reads_of a s) [] (at program s.slot) (reads_of_alike a b s e)

-- so runs are the same, step by step

pub record RunsSame (program : List (Option Instr)) (context : List ℕ) (a b : List (List ℕ)) (n : ℕ) (s : State) : Type 0 where
  pub ends : steps_end program context b n s ≡ steps_end program context a n s
  pub reads : read_from program context b n s ≡ read_from program context a n s

abbrev RestSame : List (Option Instr) → List ℕ → List (List ℕ) → List (List ℕ) → ℕ → Type 0
RestSame program context a b n = (t : State) → HaveSame a b (read_from program context a n t) → RunsSame program context a b n t

goes_on_same : (program : List (Option Instr)) (context : List ℕ) (a b : List (List ℕ)) (n : ℕ) (x : Stepped) → RestSame program context a b n
    → HaveSame a b (read_after (read_from program context a n) x)
    → (after (steps_end program context b n) x ≡ after (steps_end program context a n) x)
    × (read_after (read_from program context b n) x ≡ read_after (read_from program context a n) x)
goes_on_same program context a b n (Next t) rest same =
    let r = rest t same in
    (r.ends, r.reads)
goes_on_same program context a b n (Done answer codes) rest same = (refl, refl)
goes_on_same program context a b n (Fault cause slot) rest same = (refl, refl)

run_same : (program : List (Option Instr)) (context : List ℕ) (a b : List (List ℕ)) → AreAlike a b → (n : ℕ) (s : State)
    → HaveSame a b (read_from program context a n s) → RunsSame program context a b n s
unfolding steps_end read_from
run_same program context a b alike zero s same = record { ends = refl; reads = refl }
run_same program context a b alike (suc n) s same =
    let x : Stepped = step program context a s in
    let own : List ℕ = read_here program a s in
    let parts = same_split a b own (read_after (read_from program context a n) x) same in
    let step_is : step program context b s ≡ x = found_same program context a b s (at program s.slot) alike parts.0 in
    let own_is : read_here program b s ≡ own = read_here_alike program a b s alike.count in
    let r = goes_on_same program context a b n x (run_same program context a b alike n) parts.1 in
    record {
      ends = ap (after (steps_end program context b n)) step_is ∙ r.0;
      reads = two (λ (names rest : List ℕ). names ++ rest) own_is (ap (read_after (read_from program context b n)) step_is ∙ r.1);
    }

pub footprint_tells : FootprintTells
unfolding outcome footprint
footprint_tells program device other context limit alike same =
    let r = run_same program (context_bytes context) device other alike limit start same in
    record { ends = r.ends; reads = r.reads }
