-- How many bytes of a file were passed over.
use Rattle.std.proofs.Common.{ℕ, Result, Ok, Err, IfOk, ◌≡◌, ◌==◌, ◌+◌, ◌%◌, ◌<◌, ◌≤◌, nat_le, if◌then◌else◌, Bool, true, false, List, [], ◌++◌, length, take, Option, Some, None, IfSome, refl, sym, ◌∙◌, ap, arith, append-nil, length-append}
use Rattle.std.proofs.lemmas.Bool.Decides.{nat_tests}
use Rattle.std.specs.Io.KnownBytes.{Consumes, IsAtEnd}
use Rattle.std.proofs.lemmas.List.{take-append-le}
use Rattle.input_files.specs.declared.kind.FileKind.TheVariants as kind
use Rattle.input_files.specs.Contents.{counted_length, long_length, told_length, Holds}
use Rattle.input_files.specs.Standing.{standing}
use Rattle.input_files.proofs.Contents.{few_told, many_told}

-- known bytes lost that many from their front
abbrev pub Passed : Option (List ℕ) → Option (List ℕ) → ℕ → Type 0
Passed None new n = Unit {0}
Passed (Some xs) None n = ⊥
Passed (Some xs) (Some ys) n = length xs ≡ n + length ys

pub none_passed : (old : Option (List ℕ)) → Passed old old 0
none_passed None = tt
none_passed (Some xs) = omega arith

-- those that are read next are passed too
pub more_passed : (old new newer : Option (List ℕ)) (first part : List ℕ) (n m : ℕ) → Passed old new n → first ≡ []
    → ((known : Option (List ℕ)) → Consumes known new first → Consumes known newer part) → m ≡ length part → Passed old newer (n + m)
more_passed None new newer first part n m before none more is = tt
more_passed (Some xs) None newer first part n m before none more is = absurd before
more_passed (Some xs) (Some ys) None first part n m before none more is = absurd (more (Some ys) (ap (λ (zs : List ℕ). zs ++ ys) (sym none)))
more_passed (Some xs) (Some ys) (Some zs) first part n m before none more is =
    let given : ys ≡ part ++ zs = more (Some ys) (ap (λ (zs : List ℕ). zs ++ ys) (sym none)) in
    let long = ap (λ (ws : List ℕ). length ws) given in
    let both = length-append part zs in
    omega (arith, before, long, both, is)

-- at the end all were passed
pub all_passed : (old new : Option (List ℕ)) (n : ℕ) → Passed old new n → IsAtEnd new → IfSome old (λ rest. n ≡ length rest)
all_passed None new n before end = tt
all_passed (Some xs) None n before end = absurd before
all_passed (Some xs) (Some ys) n before end = let none = ap (λ (zs : List ℕ). length zs) end in omega (arith, before, none)

-- no more were passed than there were
pub some_passed : (old new : Option (List ℕ)) (n : ℕ) → Passed old new n → IfSome old (λ rest. n ≤ length rest)
some_passed None new n before = tt
some_passed (Some xs) None n before = absurd before
some_passed (Some xs) (Some ys) n before = omega (arith, before)

-- the length that is told of a program of which some bytes were read and the rest was counted, up to `most` and some more
pub counted_rest : (old : Option (List ℕ)) (read rest most told : ℕ) → read + most ≡ 67108864 → (rest ≤ most → IfSome old (λ xs. rest ≡ length xs)) → IfSome old (λ xs. rest ≤ length xs)
    → told ≡ counted_length (read + rest) → IfSome old (λ xs. told ≡ counted_length (read + length xs))
counted_rest None read rest most told whole all some is = tt
counted_rest (Some xs) read rest most told whole all some is =
    let by_test : (b : Bool) → nat_le (read + rest) 67108864 ≡ b → told ≡ counted_length (read + length xs) =
    λ b. elim b as (λ v. nat_le (read + rest) 67108864 ≡ v → told ≡ counted_length (read + length xs)) [
      | true ↦ λ e. let few : read + rest ≤ 67108864 = grind (arith, nat_tests, e) in is ∙ ap (λ n. counted_length (read + n)) (all (omega (arith, few, whole)))
      | false ↦ λ e.
          let many : 67108864 < read + rest = grind (arith, nat_tests, e) in
          let more : nat_le (read + length xs) 67108864 ≡ false = grind (arith, nat_tests, many, some) in
          is ∙ rw e (rw more refl)
    ] in
    by_test (nat_le (read + rest) 67108864) refl

-- nothing of the bytes was read yet
pub all_given : (known : Option (List ℕ)) (first : List ℕ) → first ≡ [] → Consumes known known first
all_given None first none = tt
all_given (Some xs) first none = ap (λ (zs : List ℕ). zs ++ xs) (sym none)

-- no more bytes stand for a program than are read
standing_short : (n : ℕ) → standing n ≤ 32776
standing_short n =
    let by_length : (b : Bool) → nat_le n 32768 ≡ b → (if b then n else if n % 8 == 0 then 32776 else 32768 + n % 8) ≤ 32776 =
    λ b. elim b as (λ v. nat_le n 32768 ≡ v → (if v then n else if n % 8 == 0 then 32776 else 32768 + n % 8) ≤ 32776) [
      | true ↦ λ e. let few : n ≤ 32768 = grind (arith, nat_tests, e) in omega (arith, few)
      | false ↦ λ e. elim (n % 8 == 0) as (λ w. (if w then 32776 else 32768 + n % 8) ≤ 32776) [ true ↦ omega arith | false ↦ omega arith ]
    ] in
    by_length (nat_le n 32768) refl

-- what was read of a program: its first bytes, as many as may be or all
pub program_held : (old new : Option (List ℕ)) (bytes kept : List ℕ) (there : Bool) (said : Option ℕ) (told most count : ℕ) → most ≡ 32776 → count ≡ length bytes → Consumes old new bytes → length bytes ≤ most
    → (there ≡ true → length bytes ≡ most) → (there ≡ false → IsAtEnd new) → (count < 32776 → told ≡ count) → (32776 ≤ count → IfSome new (λ rest. told ≡ long_length said (count + length rest)))
    → kept ≡ take (standing told) bytes → IfSome old (λ xs. Holds kind.Program said xs (Some kept) told)
program_held None new bytes kept there said told most count is counted given room whole end few many cut = tt
program_held (Some xs) None bytes kept there said told most count is counted given room whole end few many cut = absurd given
program_held (Some xs) (Some ys) bytes kept there said told most count is counted given room whole end few many cut = by_length (nat_le 32776 (length bytes)) refl
  where
    long : length xs ≡ length bytes + length ys
    long = ap (λ (zs : List ℕ). length zs) given ∙ length-append bytes ys

    by_there : (b : Bool) → (b ≡ true → length bytes ≡ most) → (b ≡ false → IsAtEnd (Some ys)) → length bytes < 32776 → ys ≡ []
    by_there true full none less = absurd (let all = full refl in omega (arith, all, is, less))
    by_there false full none less = none refl

    by_length : (b : Bool) → nat_le 32776 (length bytes) ≡ b → Holds kind.Program said xs (Some kept) told
    by_length true e =
        let full : 32776 ≤ length bytes = grind (arith, nat_tests, e) in
        let read : nat_le 32776 (length xs) ≡ true = grind (arith, nat_tests, full, long) in
        let size : count + length ys ≡ length xs = omega (arith, counted, long) in
        let tells : told ≡ told_length kind.Program said xs = many (omega (arith, counted, full)) ∙ ap (λ (n : ℕ). long_length said n) size ∙ sym (many_told said xs read) in
        let short = standing_short told in
        let front : take (standing told) (bytes ++ ys) ≡ take (standing told) bytes = take-append-le (standing told) bytes ys (omega (arith, short, full)) in
        (tells, ap (λ (zs : List ℕ). Some zs) (cut ∙ sym front ∙ ap (λ (zs : List ℕ). take (standing told) zs) (sym given)))
    by_length false e =
        let less : length bytes < 32776 = grind (arith, nat_tests, e) in
        let none = by_there there whole end less in
        let all : xs ≡ bytes = given ∙ ap (λ (zs : List ℕ). bytes ++ zs) none ∙ append-nil bytes in
        let size : count ≡ length xs = counted ∙ ap (λ (zs : List ℕ). length zs) (sym all) in
        let tells : told ≡ told_length kind.Program said xs = few (omega (arith, counted, less)) ∙ size ∙ sym (few_told said xs (omega (arith, size, counted, less))) in
        (tells, ap (λ (zs : List ℕ). Some zs) (cut ∙ ap (λ (zs : List ℕ). take (standing told) zs) (sym all)))

-- what was read is kept, and its length is told
pub held_as : (f : List ℕ → List ℕ) (old : Option (List ℕ)) (bytes : List ℕ) (told : ℕ) → IfSome old (λ xs. bytes ≡ f xs) → told ≡ length bytes
    → IfSome old (λ xs. (told ≡ length (f xs)) × (Some bytes ≡ Some (f xs)))
held_as f None bytes told read is = tt
held_as f (Some xs) bytes told read is = (is ∙ ap (λ (zs : List ℕ). length zs) read, ap (λ (zs : List ℕ). Some zs) read)

-- what is held of a file of which that many bytes are read at most, and no other length matters
front_kept : (old : Option (List ℕ)) (held : Option (List ℕ)) (told most n : ℕ) → most ≡ n → IfSome old (λ xs. (told ≡ length (take most xs)) × (held ≡ Some (take most xs)))
    → IfSome old (λ xs. (told ≡ length (take n xs)) × (held ≡ Some (take n xs)))
front_kept None held told most n so read = tt
front_kept (Some xs) held told most n so read =
    (read.0 ∙ ap (λ (k : ℕ). length (take k xs)) so, read.1 ∙ ap (λ (k : ℕ). Some (take k xs)) so)

pub front_held : {V E : Type 0} (r : Result V E) (old : Option (List ℕ)) (held : V → Option (List ℕ)) (told : V → ℕ) (most n : ℕ) → most ≡ n
    → IfOk r (λ v. IfSome old (λ xs. (told v ≡ length (take most xs)) × (held v ≡ Some (take most xs)))) → IfOk r (λ v. IfSome old (λ xs. (told v ≡ length (take n xs)) × (held v ≡ Some (take n xs))))
front_held (Ok v) old held told most n so read = front_kept old (held v) (told v) most n so read
front_held (Err e) old held told most n so read = tt

pub text_held : (old : Option (List ℕ)) (bytes : List ℕ) (held : Option (List ℕ)) (told most : ℕ) → most ≡ 16777217 → IfSome old (λ xs. bytes ≡ take most xs) → told ≡ length bytes
    → held ≡ (if nat_le (length bytes) 16777216 then Some bytes else None) → IfSome old (λ xs. Holds kind.Text None xs held told)
text_held None bytes held told most so read is keeps = tt
text_held (Some xs) bytes held told most so read is keeps =
    let first : bytes ≡ take 16777217 xs = read ∙ ap (λ (n : ℕ). take n xs) so in (
      is ∙ ap (λ (zs : List ℕ). length zs) first,
      keeps ∙ ap (λ (n : ℕ). if nat_le n 16777216 then Some bytes else None) (sym is) ∙ ap (λ (zs : List ℕ). if nat_le told 16777216 then Some zs else None) first,
    )
