-- A machine holds words, and its step leaves words.
use Rattle.std.proofs.Common.{◌≡◌, ◌<◌, ◌≤◌, ℕ, zero, suc, ◌+◌, ◌-◌, ◌/◌, ◌%◌, ◌^◌, nat_lt, Bool, true, false, if◌then◌else◌, ℤ, pos, negsuc, List, [], ◌∷◌, ◌++◌, length, length-append, map, take, replicate, get_or, set, slice_get, slice_index, Option, None, Some, refl, subst, arith}
use Rattle.std.specs.Prelude.{FitsSigned, ◌+ℤ◌, ltb, cond}
use Rattle.std.specs.Option.{unwrap_or}
use Rattle.std.specs.Option.{option_map_or, option_and_then}
use Rattle.std.specs.Int.{cast_unsigned, w16, w32, w64}
use Rattle.std.specs.List.{AllByRecursion, range_with_len}
use Rattle.std.proofs.lemmas.Bool.Decides.{nat_tests}
use Rattle.bpf_isa.specs.declared.instr.Instr.{Instr}
use Rattle.bpf_isa.specs.declared.instr.Size.{Size}
use Rattle.bpf_isa.specs.declared.instr.Size.TheVariants as size
use Rattle.bpf_isa.specs.declared.instr.Source.{Source}
use Rattle.bpf_isa.specs.declared.instr.Source.TheVariants as source
use Rattle.bpf_isa.specs.Spelling.{IsSourceInRange}
use Rattle.bpf_isa.specs.Slots.{at, target_slot}
use Rattle.helpers.specs.Answers.{device_byte, device_bytes, codes_after}
use Rattle.machine.specs.declared.ByteAt.{ByteAt}
use Rattle.machine.specs.State.{State, Frame, Caller, register, word, unset_stack}
use Rattle.machine.specs.Memory.{byte_at, byte_at_place, cell, in_blocks, stacks, value, byte_count, number_from, change_at, with_byte, frames_with, addresses}
use Rattle.machine.specs.Step.{with_answer, caller_of, second}
use Rattle.soundness.proofs.Memory.{number_below}

-- a byte or a word that may be unset
abbrev pub IsBelow : ℕ → Option ℕ → Type 0
IsBelow m None = Unit {0}
IsBelow m (Some w) = w < m

abbrev pub AreBelow : ℕ → List (Option ℕ) → Type 0
AreBelow m cells = AllByRecursion (IsBelow m) cells

abbrev pub IsSaved : Option Caller → Type 0
IsSaved None = Unit {0}
IsSaved (Some c) = (c.slot < 2 ^ 64) × AreBelow (2 ^ 64) c.registers

pub record IsFrame (f : Frame) : Type 0 where
  pub stack : AreBelow 256 f.stack
  pub saved : IsSaved f.caller

pub record HoldsWords (s : State) : Type 0 where
  pub slot : s.slot < 2 ^ 64
  pub registers : AreBelow (2 ^ 64) s.registers
  pub frames : AllByRecursion IsFrame s.frames
  pub few : length s.codes ≤ 16
  pub codes : AllByRecursion (λ (n : ℕ). n < 2 ^ 64) s.codes

-- what holds of each element

pub each_set : {X : Type 0} (P : X → Type 0) (xs : List X) (i : ℕ) (x : X) → AllByRecursion P xs → P x → AllByRecursion P (set xs i x)
each_set P [] i x all p = tt
each_set P (y ∷ ys) zero x all p = (p, all.1)
each_set P (y ∷ ys) (suc i) x all p = (all.0, each_set P ys i x all.1 p)

pub each_both : {X : Type 0} (P : X → Type 0) (xs ys : List X) → AllByRecursion P xs → AllByRecursion P ys → AllByRecursion P (xs ++ ys)
each_both P [] ys left right = right
each_both P (x ∷ xs) ys left right = (left.0, each_both P xs ys left.1 right)

pub each_taken : {X : Type 0} (P : X → Type 0) (n : ℕ) (xs : List X) → AllByRecursion P xs → AllByRecursion P (take n xs)
each_taken P zero xs all = tt
each_taken P (suc n) [] all = tt
each_taken P (suc n) (x ∷ xs) all = (all.0, each_taken P n xs all.1)

pub each_there : {X : Type 0} (P : X → Type 0) (xs : List X) (i : ℕ) (x : X) → AllByRecursion P xs → slice_get xs i ≡ Some x → P x
each_there P [] i x all e = absurd (let bad : None ≡ Some x = e in cc)
each_there {X} P (y ∷ ys) zero x all e = let same : Some y ≡ Some x = e in let is : y ≡ x = cc in subst P is all.0
each_there P (y ∷ ys) (suc i) x all e = each_there P ys i x all.1 e

cell_there : (m : ℕ) (cells : List (Option ℕ)) (i : ℕ) → AreBelow m cells → IsBelow m (get_or cells i None)
cell_there m [] i all = tt
cell_there m (c ∷ cells) zero all = all.0
cell_there m (c ∷ cells) (suc i) all = cell_there m cells i all.1

pub register_below : (s : State) (r : ℕ) → HoldsWords s → IsBelow (2 ^ 64) (register s r)
register_below s r h = cell_there (2 ^ 64) s.registers r h.registers

pub word_below : (s : State) (r : ℕ) → HoldsWords s → word s r < 2 ^ 64
word_below s r h = by (register s r) (register_below s r h)
  where
    by : (o : Option ℕ) → IsBelow (2 ^ 64) o → unwrap_or o 0 < 2 ^ 64
    by None below = omega arith
    by (Some w) below = below

-- immediates, and the slots to which jumps lead

pub immediate_word : (n : ℤ) → FitsSigned w32 n → cast_unsigned w64 n < 2 ^ 64
immediate_word (pos n) fits = let small : n < 2 ^ 31 = fits.sfits in omega (arith, small)
immediate_word (negsuc n) fits = omega arith

pub second_word : (s : State) (from : Source) → HoldsWords s → IsSourceInRange from → second s from < 2 ^ 64
second_word s (source.Immediate n) h range = immediate_word n range
second_word s (source.Register r) h range = word_below s r h

pub far : (distance : ℤ) → FitsSigned w16 distance → FitsSigned w32 distance
far (pos n) fits = let small : n < 2 ^ 15 = fits.sfits in record { sfits = omega (arith, small) }
far (negsuc n) fits = let small : n < 2 ^ 15 = fits.sfits in record { sfits = omega (arith, small) }

cast_word : (z : ℤ) → FitsSigned w64 z → cast_unsigned w64 z < 2 ^ 64
cast_word (pos n) fits = let small : n < 2 ^ 63 = fits.sfits in omega (arith, small)
cast_word (negsuc n) fits = omega arith

target_fits : (slot : ℕ) (distance : ℤ) → slot < 2 ^ 32 → FitsSigned w32 distance → FitsSigned w64 (pos (slot + 1) +ℤ distance)
target_fits slot (pos n) near fits = let small : n < 2 ^ 31 = fits.sfits in record { sfits = omega (arith, near, small) }
target_fits slot (negsuc n) near fits =
    let small : n < 2 ^ 31 = fits.sfits in
    elim (ltb (slot + 1) (suc n)) as (λ t. FitsSigned w64 (cond t (negsuc (suc n - suc (slot + 1))) (pos (slot + 1 - suc n))))
    [ true ↦ record { sfits = omega (arith, near, small) } | false ↦ record { sfits = omega (arith, near, small) } ]

pub target_word : (slot : ℕ) (distance : ℤ) → slot < 2 ^ 32 → FitsSigned w32 distance → target_slot slot distance < 2 ^ 64
target_word slot distance near fits = cast_word (pos (slot + 1) +ℤ distance) (target_fits slot distance near fits)

-- an instruction's slot is one of the first
pub slot_within : (program : List (Option Instr)) (slot : ℕ) (i : Instr) → at program slot ≡ Some i → slot < length program
slot_within [] slot i there = absurd (let bad : None ≡ Some i = there in cc)
slot_within (o ∷ program) zero i there = omega arith
slot_within (o ∷ program) (suc slot) i there = let rest = slot_within program slot i there in omega (arith, rest)

-- bytes

abbrev pub AreBytes : List ℕ → Type 0
AreBytes xs = (i : ℕ) → slice_index xs i < 256

pub record HasBytes (context : List ℕ) (device : List (List ℕ)) : Type 0 where
  pub told : AreBytes context
  pub sectors : (n : ℕ) (sector : List ℕ) → slice_get device n ≡ Some sector → AreBytes sector

place_small : (xs : List ℕ) (i : ℕ) → AreBytes xs → IsBelow 256 (slice_get xs i)
place_small [] i small = tt
place_small (x ∷ xs) zero small = small 0
place_small (x ∷ xs) (suc i) small = place_small xs i (λ j. small (suc j))

block_small : (context : List ℕ) (device : List (List ℕ)) (place : ℕ) → HasBytes context device → IsBelow 256 (in_blocks device place)
block_small context device place bytes = by (slice_get device (place / 1024)) refl
  where
    by : (o : Option (List ℕ)) → slice_get device (place / 1024) ≡ o → IsBelow 256 (option_and_then (λ (block : List ℕ). slice_get block (place % 1024)) o)
    by None there = tt
    by (Some sector) there = place_small sector (place % 1024) (bytes.sectors (place / 1024) sector there)

abbrev IsCell : Option (Option ℕ) → Type 0
IsCell None = Unit {0}
IsCell (Some c) = IsBelow 256 c

cell_small : (cells : List (Option ℕ)) (i : ℕ) → AreBelow 256 cells → IsCell (slice_get cells i)
cell_small [] i all = tt
cell_small (c ∷ cells) zero all = all.0
cell_small (c ∷ cells) (suc i) all = cell_small cells i all.1

stack_small : (frames : List Frame) (n i : ℕ) → AllByRecursion IsFrame frames → IsCell (option_and_then (λ (block : List (Option ℕ)). slice_get block i) (slice_get (stacks frames) n))
stack_small [] n i all = tt
stack_small (f ∷ frames) zero i all = cell_small f.stack i all.0.stack
stack_small (f ∷ frames) (suc n) i all = stack_small frames n i all.1

value_of_place : (o : Option ℕ) → IsBelow 256 o → value (byte_at_place o) < 256
value_of_place None below = omega arith
value_of_place (Some n) below = below

value_of_cell : (o : Option (Option ℕ)) → IsCell o → value (cell o) < 256
value_of_cell None is = omega arith
value_of_cell (Some None) is = omega arith
value_of_cell (Some (Some n)) is = is

one_of : (b : Bool) (x y : ByteAt) → value x < 256 → value y < 256 → value (if b then x else y) < 256
one_of true x y left right = left
one_of false x y left right = right

pub byte_small : (context : List ℕ) (device : List (List ℕ)) (frames : List Frame) (a : ℕ) → HasBytes context device → AllByRecursion IsFrame frames
    → value (byte_at context device frames a) < 256
unfolding byte_at
byte_small context device frames a bytes all =
    one_of (nat_lt a 0x1_0000_0000) _ _ (omega arith)
    (one_of (nat_lt a 0x2_0000_0000) _ _ (value_of_place (slice_get context (a - 0x1_0000_0000)) (place_small context (a - 0x1_0000_0000) bytes.told))
    (one_of (nat_lt a 0x3_0000_0000) _ _ (value_of_cell (in_blocks (stacks frames) (a - 0x2_0000_0000)) (stack_small frames ((a - 0x2_0000_0000) / 1024) ((a - 0x2_0000_0000) % 1024) all))
    (value_of_place (in_blocks device (a - 0x3_0000_0000)) (block_small context device (a - 0x3_0000_0000) bytes))))

mapped_small : (f : ℕ → ℕ) (xs : List ℕ) → ((a : ℕ) → f a < 256) → AreBytes (map f xs)
mapped_small f [] small i = omega arith
mapped_small f (x ∷ xs) small zero = small x
mapped_small f (x ∷ xs) small (suc i) = mapped_small f xs small i

pub below_size : (s : Size) (x : ℕ) → x < 256 ^ byte_count s → x < 2 ^ 64
below_size size.Byte x lt = omega (arith, lt)
below_size size.Half x lt = omega (arith, lt)
below_size size.Word x lt = omega (arith, lt)
below_size size.Double x lt = omega (arith, lt)

pub number_word : (memory : ℕ → ByteAt) (a : ℕ) (s : Size) → ((at : ℕ) → value (memory at) < 256) → number_from memory a (byte_count s) < 2 ^ 64
unfolding number_from
number_word memory a s small =
    below_size s _ (number_below (byte_count s) 0 (map (λ at. value (memory at)) (addresses a (byte_count s))) (mapped_small (λ at. value (memory at)) (addresses a (byte_count s)) small))

device_small : (context : List ℕ) (device : List (List ℕ)) (i : ℕ) → HasBytes context device → device_byte device i < 256
unfolding device_byte
device_small context device i bytes = by (slice_get device (i / 512)) refl
  where
    by : (o : Option (List ℕ)) → slice_get device (i / 512) ≡ o → option_map_or (λ (sector : List ℕ). slice_index sector (i % 512)) o 0 < 256
    by None there = omega arith
    by (Some sector) there = bytes.sectors (i / 512) sector there (i % 512)

pub copied_small : (context : List ℕ) (device : List (List ℕ)) (position n : ℕ) → HasBytes context device → AreBytes (device_bytes device position n)
unfolding device_bytes
copied_small context device position n bytes = mapped_small (device_byte device) (range_with_len position n) (λ i. device_small context device i bytes)

-- frames in which bytes are stored

change_keeps : (h : Frame → Frame) (i : ℕ) (frames : List Frame) → ((f : Frame) → IsFrame f → IsFrame (h f)) → AllByRecursion IsFrame frames → AllByRecursion IsFrame (change_at i h frames)
change_keeps h i [] keeps all = tt
change_keeps h zero (f ∷ frames) keeps all = (keeps f all.0, all.1)
change_keeps h (suc i) (f ∷ frames) keeps all = (all.0, change_keeps h i frames keeps all.1)

either_frames : (b : Bool) (xs ys : List Frame) → AllByRecursion IsFrame xs → AllByRecursion IsFrame ys → AllByRecursion IsFrame (if b then xs else ys)
either_frames true xs ys left right = left
either_frames false xs ys left right = right

byte_kept : (frames : List Frame) (a b : ℕ) → b < 256 → AllByRecursion IsFrame frames → AllByRecursion IsFrame (with_byte frames a b)
unfolding with_byte
byte_kept frames a b small all =
    either_frames (nat_lt a 0x2_0000_0000) frames _ all
    (change_keeps (λ f. record f { stack = set f.stack ((a - 0x2_0000_0000) % 1024) (Some b) }) ((a - 0x2_0000_0000) / 1024) frames
    (λ f is. record { stack = each_set (IsBelow 256) f.stack ((a - 0x2_0000_0000) % 1024) (Some b) is.stack small; saved = is.saved }) all)

pub bytes_kept : (bytes : List ℕ) (frames : List Frame) (a : ℕ) → AreBytes bytes → AllByRecursion IsFrame frames → AllByRecursion IsFrame (frames_with frames a bytes)
unfolding frames_with
bytes_kept [] frames a small all = all
bytes_kept (b ∷ bytes) frames a small all = bytes_kept bytes (with_byte frames a b) ((a + 1) % 2 ^ 64) (λ i. small (suc i)) (byte_kept frames a b (small 0) all)

-- registers after an answer

pub answer_kept : (registers : List (Option ℕ)) (answer : ℕ) → AreBelow (2 ^ 64) registers → answer < 2 ^ 64 → AreBelow (2 ^ 64) (with_answer registers answer)
answer_kept registers answer all small =
    let zero_set = each_set (IsBelow (2 ^ 64)) registers 0 (Some answer) all small in
    let one = each_set (IsBelow (2 ^ 64)) (set registers 0 (Some answer)) 1 None zero_set tt in
    let two = each_set (IsBelow (2 ^ 64)) (set (set registers 0 (Some answer)) 1 None) 2 None one tt in
    let three = each_set (IsBelow (2 ^ 64)) (set (set (set registers 0 (Some answer)) 1 None) 2 None) 3 None two tt in
    let four = each_set (IsBelow (2 ^ 64)) (set (set (set (set registers 0 (Some answer)) 1 None) 2 None) 3 None) 4 None three tt in
    each_set (IsBelow (2 ^ 64)) (set (set (set (set (set registers 0 (Some answer)) 1 None) 2 None) 3 None) 4 None) 5 None four tt

-- codes

pub record AreFewCodes (codes : List ℕ) : Type 0 where
  pub few : length codes ≤ 16
  pub words : AllByRecursion (λ (n : ℕ). n < 2 ^ 64) codes

pub codes_kept : (codes : List ℕ) (code : ℕ) → AreFewCodes codes → code < 2 ^ 64 → AreFewCodes (codes_after codes code)
unfolding codes_after
codes_kept codes code are small = by (nat_lt (length codes) 16) refl
  where
    by : (b : Bool) → nat_lt (length codes) 16 ≡ b → AreFewCodes (if b then codes ++ code ∷ [] else codes)
    by false e = are
    by true e =
        let less : length codes < 16 = grind (arith, nat_tests, e) in
        let long = length-append codes (code ∷ []) in
        record { few = omega (arith, less, long); words = each_both (λ (n : ℕ). n < 2 ^ 64) codes (code ∷ []) are.words (small, tt) }

-- a stack of which no byte is set
unset_cells : (n : ℕ) → AreBelow 256 (replicate {A = Option ℕ} n None)
unset_cells zero = tt
unset_cells (suc n) = (tt, unset_cells n)

pub unset_below : AreBelow 256 unset_stack
unfolding unset_stack
unset_below = unset_cells 512

-- what the call of the running function saved
pub saved_there : (frames : List Frame) → AllByRecursion IsFrame frames → IsSaved (caller_of frames)
saved_there frames all = by (slice_get frames (length frames - 1)) refl
  where
    by : (o : Option Frame) → slice_get frames (length frames - 1) ≡ o → IsSaved (option_and_then (λ (f : Frame). f.caller) o)
    by None there = tt
    by (Some f) there = (each_there IsFrame frames (length frames - 1) f all there).saved
