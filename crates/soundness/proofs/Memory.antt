-- Bytes of the memory, and the numbers that they hold.
use Rattle.std.proofs.Common.{◌≡◌, ◌<◌, ◌≤◌, ℕ, zero, suc, ◌+◌, ◌-◌, ◌*◌, ◌/◌, ◌%◌, ◌^◌, nat_lt, Bool, true, false, List, [], ◌∷◌, ◌++◌, length, map, drop, get_or, slice_get, slice_index, Option, None, Some, is_some, refl, sym, ap, ◌∙◌, arith}
use Rattle.std.proofs.Math.Seq.{drop-cons}
use Rattle.std.proofs.Math.ListN.{get_or-map}
use Rattle.std.proofs.lemmas.List.{get_or-drop, length-map}
use Rattle.std.proofs.lemmas.Option.{slice_get-get_or}
use Rattle.std.proofs.lemmas.Bool.Decides.{nat_tests}
use Rattle.byteorder.specs.Endian.{little_from}
use Rattle.byteorder.specs.Numbers.{little_from-cons, little_from-lt}
use Rattle.base.specs.Numbers.{number_at}
use Rattle.helpers.specs.Answers.{sector_start}
use Rattle.machine.specs.declared.ByteAt.{ByteAt}
use Rattle.machine.specs.declared.ByteAt.TheVariants.{Holds}
use Rattle.machine.specs.State.{Caller, Frame, context_start, stack_start}
use Rattle.machine.specs.Memory as memory
use Rattle.machine.specs.Memory.{addresses, all_at, all_mapped, all_set, all_in_stacks, is_mapped, is_set, number_from, byte_at_place, cell, stacks, byte_at}
use Rattle.soundness.specs.Meaning.{bare}
use Rattle.soundness.proofs.Standing.{frames_of}

-- addresses one after the other
pub all_pass : (test : ℕ → Bool) (n a : ℕ) → a + n < 2 ^ 64 → ((i : ℕ) → i < n → test (a + i) ≡ true) → all_at test a n ≡ true
unfolding all_at
all_pass test zero a lt h = refl
all_pass test (suc n) a lt h =
    let e : (a + 1) % 2 ^ 64 ≡ a + 1 = omega (arith, lt) in
    let a0 : a + 0 ≡ a = omega arith in
    let first : test a ≡ true = rw a0 at (h 0 (omega arith)) in
    let rest : all_at test (a + 1) n ≡ true =
    all_pass test n (a + 1) (omega (arith, lt)) (λ i small. let f : a + 1 + i ≡ a + suc i = omega arith in ap test f ∙ h (suc i) (omega (arith, small))) in
    rw (first, e) rest

-- a number, one byte after the other
number_more : (n p : ℕ) (bytes : List ℕ) → p < length bytes → number_at (suc n) p bytes ≡ slice_index bytes p + 256 * number_at n (p + 1) bytes
unfolding number_at
number_more n p bytes lt =
    let e : suc p ≡ p + 1 = omega arith in
    let split : drop p bytes ≡ slice_index bytes p ∷ drop (suc p) bytes = drop-cons bytes p 0 lt in
    ap (λ (xs : List ℕ). little_from 0 (suc n) xs) split
    ∙ ap (λ (x : ℕ). slice_index bytes p + 256 * x) (little_from-cons 0 n (slice_index bytes p) (drop (suc p) bytes))
    ∙ ap (λ (q : ℕ). slice_index bytes p + 256 * little_from 0 n (drop q bytes)) e

no_number : (p q : ℕ) (xs ys : List ℕ) → number_at 0 p xs ≡ number_at 0 q ys
unfolding number_at
no_number p q xs ys = refl

loaded_more : (n : ℕ) (bytes : ℕ → ByteAt) (a : ℕ) → number_from bytes a (suc n) ≡ memory.value (bytes a) + 256 * number_from bytes ((a + 1) % 2 ^ 64) n
unfolding number_from number_at
loaded_more n bytes a =
    ap (λ (x : ℕ). memory.value (bytes a) + 256 * x) (little_from-cons 0 n (memory.value (bytes a)) (map (λ at. memory.value (bytes at)) (addresses ((a + 1) % 2 ^ 64) n)))

nothing_loaded : (bytes : ℕ → ByteAt) (a p : ℕ) (xs : List ℕ) → number_from bytes a 0 ≡ number_at 0 p xs
unfolding number_from number_at
nothing_loaded bytes a p xs = refl

loaded_is : (n : ℕ) (bytes : ℕ → ByteAt) (a p : ℕ) (xs : List ℕ) → a + n < 2 ^ 64 → p + n ≤ length xs
    → ((i : ℕ) → i < n → bytes (a + i) ≡ Holds (slice_index xs (p + i))) → number_from bytes a n ≡ number_at n p xs
loaded_is zero bytes a p xs lt fits h = nothing_loaded bytes a p xs
loaded_is (suc n) bytes a p xs lt fits h =
    let e : (a + 1) % 2 ^ 64 ≡ a + 1 = omega (arith, lt) in
    let a0 : a + 0 ≡ a = omega arith in
    let p0 : p + 0 ≡ p = omega arith in
    let first : bytes a ≡ Holds (slice_index xs p) = rw (a0, p0) at (h 0 (omega arith)) in
    let rest : number_from bytes (a + 1) n ≡ number_at n (p + 1) xs =
    loaded_is n bytes (a + 1) (p + 1) xs (omega (arith, lt)) (omega (arith, fits))
    (λ i small. let f : a + 1 + i ≡ a + suc i = omega arith in let g : p + 1 + i ≡ p + suc i = omega arith in
    ap bytes f ∙ h (suc i) (omega (arith, small)) ∙ ap (λ (q : ℕ). Holds (slice_index xs q)) (sym g)) in
    loaded_more n bytes a
    ∙ ap (λ (q : ℕ). memory.value (bytes a) + 256 * number_from bytes q n) e
    ∙ ap (λ (x : ByteAt). memory.value x + 256 * number_from bytes (a + 1) n) first
    ∙ ap (λ (x : ℕ). slice_index xs p + 256 * x) rest
    ∙ sym (number_more n p xs (omega (arith, fits)))

-- the same bytes make the same number
pub same_number : (n p q : ℕ) (xs ys : List ℕ) → p + n ≤ length xs → q + n ≤ length ys
    → ((i : ℕ) → i < n → slice_index xs (p + i) ≡ slice_index ys (q + i)) → number_at n p xs ≡ number_at n q ys
same_number zero p q xs ys fx fy h = no_number p q xs ys
same_number (suc n) p q xs ys fx fy h =
    let p0 : p + 0 ≡ p = omega arith in
    let q0 : q + 0 ≡ q = omega arith in
    let first : slice_index xs p ≡ slice_index ys q = rw (p0, q0) at (h 0 (omega arith)) in
    let rest : number_at n (p + 1) xs ≡ number_at n (q + 1) ys =
    same_number n (p + 1) (q + 1) xs ys (omega (arith, fx)) (omega (arith, fy))
    (λ i small. let f : p + 1 + i ≡ p + suc i = omega arith in let g : q + 1 + i ≡ q + suc i = omega arith in
    ap (slice_index xs) f ∙ h (suc i) (omega (arith, small)) ∙ ap (slice_index ys) (sym g)) in
    number_more n p xs (omega (arith, fx)) ∙ ap (λ (x : ℕ). x + 256 * number_at n (p + 1) xs) first ∙ ap (λ (x : ℕ). slice_index ys q + 256 * x) rest
    ∙ sym (number_more n q ys (omega (arith, fy)))

pub number_below : (n p : ℕ) (xs : List ℕ) → ((i : ℕ) → slice_index xs i < 256) → number_at n p xs < 256 ^ n
unfolding number_at
number_below n p xs h = little_from-lt 0 n (drop p xs) (λ k. let e : slice_index (drop p xs) k ≡ slice_index xs (p + k) = get_or-drop p xs k 0 in rw e (h (p + k)))

-- n bytes from a on are all set, and hold a number
pub record Reads (bytes : ℕ → ByteAt) (a n x : ℕ) : Type 0 where
  pub mapped : all_mapped bytes a n ≡ true
  pub whole : all_set bytes a n ≡ true
  pub number : number_from bytes a n ≡ x

pub reads_bytes : (bytes : ℕ → ByteAt) (a n p : ℕ) (xs : List ℕ) → a + n < 2 ^ 64 → p + n ≤ length xs
    → ((i : ℕ) → i < n → bytes (a + i) ≡ Holds (slice_index xs (p + i))) → Reads bytes a n (number_at n p xs)
reads_bytes bytes a n p xs lt fits h = record {
  mapped = all_pass (λ at. is_mapped (bytes at)) n a lt (λ i small. ap is_mapped (h i small));
  whole = all_pass (λ at. is_set (bytes at)) n a lt (λ i small. ap is_set (h i small));
  number = loaded_is n bytes a p xs lt fits h;
}

-- what stands at an address of the context, of the stack, of a sector

pub in_context : (context : List ℕ) (device : List (List ℕ)) (frames : List Frame) (a q : ℕ) → a ≡ context_start + q → q < length context → length context ≤ 1024
    → byte_at context device frames a ≡ Holds (slice_index context q)
unfolding byte_at
in_context context device frames a q e lt short =
    let one : nat_lt a context_start ≡ false = grind (arith, nat_tests) in
    let two : nat_lt a stack_start ≡ true = grind (arith, nat_tests) in
    let place : a - context_start ≡ q = omega (arith, e) in
    rw (one, two, place, slice_get-get_or context q 0 lt) refl

last_found : (below : List Frame) (f : Frame) → slice_get (stacks (below ++ f ∷ [])) (length below) ≡ Some f.stack
last_found [] f = refl
last_found (g ∷ rest) f = last_found rest f

pub in_stack : (context : List ℕ) (device : List (List ℕ)) (below : List Frame) (caller : Option Caller) (stack : List (Option ℕ)) (a q : ℕ)
    → length below ≤ 3 → a ≡ stack_start + 1024 * length below + q → q < 512 → length stack ≡ 512
    → byte_at context device (frames_of below caller stack) a ≡ cell (Some (get_or stack q None))
unfolding byte_at
in_stack context device below caller stack a q few e lt long =
    let one : nat_lt a context_start ≡ false = grind (arith, nat_tests) in
    let two : nat_lt a stack_start ≡ false = grind (arith, nat_tests) in
    let three : nat_lt a sector_start ≡ true = grind (arith, nat_tests) in
    let block : (a - stack_start) / 1024 ≡ length below = omega (arith, e, lt) in
    let rest : (a - stack_start) % 1024 ≡ q = omega (arith, e, lt) in
    let found = last_found below (record { stack = stack; caller = caller }) in
    rw (one, two, three, block, rest, found, slice_get-get_or stack q None (omega (arith, lt, long))) refl

pub in_sector : (context : List ℕ) (device : List (List ℕ)) (frames : List Frame) (sector : List ℕ) (a n q : ℕ) → a ≡ sector_start + 1024 * n + q → q < 512
    → slice_get device n ≡ Some sector → length sector ≡ 512 → byte_at context device frames a ≡ Holds (slice_index sector q)
unfolding byte_at
in_sector context device frames sector a n q e lt there long =
    let one : nat_lt a context_start ≡ false = grind (arith, nat_tests) in
    let two : nat_lt a stack_start ≡ false = grind (arith, nat_tests) in
    let three : nat_lt a sector_start ≡ false = grind (arith, nat_tests) in
    let block : (a - sector_start) / 1024 ≡ n = omega (arith, e, lt) in
    let rest : (a - sector_start) % 1024 ≡ q = omega (arith, e, lt) in
    rw (one, two, three, block, rest, there, slice_get-get_or sector q 0 (omega (arith, lt, long))) refl

pub some_is : (c : Option ℕ) → is_some c ≡ true → c ≡ Some (bare c)
some_is None e = absurd (let bad : false ≡ true = e in cc)
some_is (Some x) e = refl

pub bare_at : (stack : List (Option ℕ)) (q : ℕ) → slice_index (map bare stack) q ≡ bare (get_or stack q None)
bare_at stack q = get_or-map bare stack q None

-- a byte of the stack that is set
pub set_in_stack : (context : List ℕ) (device : List (List ℕ)) (below : List Frame) (caller : Option Caller) (stack : List (Option ℕ)) (a q : ℕ)
    → length below ≤ 3 → a ≡ stack_start + 1024 * length below + q → q < 512 → length stack ≡ 512
    → is_some (get_or stack q None) ≡ true → byte_at context device (frames_of below caller stack) a ≡ Holds (slice_index (map bare stack) q)
set_in_stack context device below caller stack a q few e lt long there =
    in_stack context device below caller stack a q few e lt long
    ∙ ap (λ (c : Option ℕ). cell (Some c)) (some_is (get_or stack q None) there)
    ∙ ap Holds (sym (bare_at stack q))

pub long_bare : (stack : List (Option ℕ)) → length stack ≡ 512 → length (map bare stack) ≡ 512
long_bare stack e = length-map stack bare ∙ e
