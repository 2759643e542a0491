-- A file that doesn't begin as the text of a part or of cases isn't one, and neither are its first bytes; and how far such a file is read.
use Rattle.std.proofs.Common.{ℕ, zero, suc, ◌≡◌, ◌↔◌, ◌-◌, ◌++◌, ◌⊎◌, ◌||◌, ◌<◌, ◌≤◌, Bool, true, false, min, inl, inr, List, [], ◌∷◌, Option, Some, None, IfSome, IsTrue, length, bytes_eq, take, append-nil, refl, sym, ◌∙◌, ap, subst, arith}
use Rattle.std.specs.Io.KnownBytes.{Consumes, IsAtEnd}
use Rattle.std.proofs.lemmas.Bool.{cases_lt}
use Rattle.std.proofs.lemmas.Slice.Eq.{bytes_eq-Decides}
use Rattle.std.proofs.lemmas.List.{take_all}
use Rattle.report.specs.Part.{span_text}
use Rattle.join.specs.Text.{PartValue, part_text}
use Rattle.join.specs.Reading.{NoPartText}
use Rattle.join.specs.CaseTexts.{CasesValue, told_text, NoCasesText}
use Rattle.input_files.specs.PartTexts.{part_line, cases_word, is_begun, beginning, part_read, NeitherText, PartIsReadAlike}

-- the text of a part begins with the line of parts
begins : (p : PartValue) → take 13 (part_text p) ≡ part_line
unfolding part_text span_text
begins p = refl

-- and that of cases as it begins
cases_begin : (c : CasesValue) → take 13 (told_text c) ≡ cases_word
unfolding told_text
cases_begin c = refl

-- the first bytes of the first bytes
take_again : (n : ℕ) (xs : List ℕ) → take n (take n xs) ≡ take n xs
take_again zero xs = refl
take_again (suc n) [] = refl
take_again (suc n) (x ∷ xs) = ap (λ (ys : List ℕ). x ∷ ys) (take_again n xs)

no_part : (bytes : List ℕ) → is_begun (take 13 bytes) ≡ false → NoPartText bytes
no_part bytes other = record {
  none = λ p is text. absurd (
      let own : take 13 bytes ≡ part_line = ap (λ (xs : List ℕ). take 13 xs) text ∙ begins p in
      let same : is_begun (take 13 bytes) ≡ true = ap is_begun own in
      let bad : true ≡ false = sym same ∙ other in cc);
}

no_cases : (bytes : List ℕ) → is_begun (take 13 bytes) ≡ false → NoCasesText bytes
no_cases bytes other = record {
  none = λ c h. absurd (
      let own : take 13 bytes ≡ cases_word = ap (λ (xs : List ℕ). take 13 xs) h.is ∙ cases_begin c in
      let same : is_begun (take 13 bytes) ≡ true = ap is_begun own in
      let bad : true ≡ false = sym same ∙ other in cc);
}

neither : (bytes : List ℕ) → is_begun (take 13 bytes) ≡ false → NeitherText bytes
neither bytes other = record { part = no_part bytes other; cases = no_cases bytes other }

-- what is begun so has 13 bytes
begun_long : (bytes : List ℕ) (a b : Bool) → bytes_eq bytes part_line ≡ a → bytes_eq bytes cases_word ≡ b → a || b ≡ true → length bytes ≡ 13
begun_long bytes true b part cases begun = ap (λ (zs : List ℕ). length zs) ((bytes_eq-Decides bytes part_line).0 part)
begun_long bytes false true part cases begun = ap (λ (zs : List ℕ). length zs) ((bytes_eq-Decides bytes cases_word).0 cases)
begun_long bytes false false part cases begun = absurd (let bad : false ≡ true = begun in cc)

-- what is read of a file, by how it begins
all_read : (most : ℕ) (bytes : List ℕ) → is_begun (beginning most bytes) ≡ true → part_read most bytes ≡ take most bytes
unfolding part_read
all_read most bytes begun = rw begun refl

some_read : (most : ℕ) (bytes : List ℕ) → is_begun (beginning most bytes) ≡ false → part_read most bytes ≡ beginning most bytes
unfolding part_read
some_read most bytes other = rw other refl

pub part_is_read_alike : PartIsReadAlike
part_is_read_alike bytes most = by_test (is_begun (beginning most bytes)) refl
  where
    by_length : is_begun (beginning most bytes) ≡ false → (most < 13) ⊎ (13 ≤ most) → (part_read most bytes ≡ take most bytes) ⊎ (NeitherText bytes × NeitherText (part_read most bytes))
    by_length other (inl few) = let least : min most 13 ≡ most = omega (arith, few) in inl (some_read most bytes other ∙ ap (λ (n : ℕ). take n bytes) least)
    by_length other (inr many) =
        let least : min most 13 ≡ 13 = omega (arith, many) in
        let first : beginning most bytes ≡ take 13 bytes = ap (λ (n : ℕ). take n bytes) least in
        let own : is_begun (take 13 bytes) ≡ false = ap is_begun (sym first) ∙ other in
        let again : is_begun (take 13 (take 13 bytes)) ≡ false = ap is_begun (take_again 13 bytes) ∙ own in
        inr (neither bytes own, subst NeitherText (sym (some_read most bytes other ∙ first)) (neither (take 13 bytes) again))

    by_test : (b : Bool) → is_begun (beginning most bytes) ≡ b → (part_read most bytes ≡ take most bytes) ⊎ (NeitherText bytes × NeitherText (part_read most bytes))
    by_test true begun = inl (all_read most bytes begun)
    by_test false other = by_length other (cases_lt most 13)

-- as many first bytes of a list in two
take_front : (n : ℕ) (xs ys : List ℕ) → length xs ≡ n → take n (xs ++ ys) ≡ xs
take_front zero [] ys long = refl
take_front zero (x ∷ xs) ys long = absurd (omega (arith, long))
take_front (suc n) [] ys long = absurd (omega (arith, long))
take_front (suc n) (x ∷ xs) ys long = ap (λ (zs : List ℕ). x ∷ zs) (take_front n xs ys (omega (arith, long)))

take_past : (n : ℕ) (xs ys : List ℕ) → length xs ≤ n → take n (xs ++ ys) ≡ xs ++ take (n - length xs) ys
take_past zero [] ys long = refl
take_past zero (x ∷ xs) ys long = absurd (omega (arith, long))
take_past (suc n) [] ys long = let all : suc n - 0 ≡ suc n = omega arith in rw all refl
take_past (suc n) (x ∷ xs) ys long =
    let left : suc n - suc (length xs) ≡ n - length xs = omega arith in
    rw left (ap (λ (zs : List ℕ). x ∷ zs) (take_past n xs ys (omega (arith, long))))

-- the first bytes were read, as many as tell whether it is such a text
pub first_read : (old new : Option (List ℕ)) (bytes : List ℕ) (most : ℕ) (there : Bool) → Consumes old new bytes → length bytes ≤ min most 13 → (there ≡ true → length bytes ≡ min most 13)
    → (there ≡ false → IsAtEnd new) → IfSome old (λ xs. bytes ≡ beginning most xs)
first_read None new bytes most there given room whole end = tt
first_read (Some xs) None bytes most there given room whole end = absurd given
first_read (Some xs) (Some ys) bytes most true given room whole end = sym (ap (λ (zs : List ℕ). take (min most 13) zs) given ∙ take_front (min most 13) bytes ys (whole refl))
first_read (Some xs) (Some ys) bytes most false given room whole end =
    let none : ys ≡ [] = end refl in
    let all : xs ≡ bytes = given ∙ ap (λ (zs : List ℕ). bytes ++ zs) none ∙ append-nil bytes in
    sym (ap (λ (zs : List ℕ). take (min most 13) zs) all ∙ take_all (min most 13) bytes room)

-- it is none
pub other_read : (old new : Option (List ℕ)) (bytes : List ℕ) (most : ℕ) (there : Bool) → Consumes old new bytes → length bytes ≤ min most 13 → (there ≡ true → length bytes ≡ min most 13)
    → (there ≡ false → IsAtEnd new) → is_begun bytes ≡ false → IfSome old (λ xs. bytes ≡ part_read most xs)
other_read old new bytes most there given room whole end other = by_old old (first_read old new bytes most there given room whole end)
  where
    by_old : (o : Option (List ℕ)) → IfSome o (λ xs. bytes ≡ beginning most xs) → IfSome o (λ xs. bytes ≡ part_read most xs)
    by_old None is = tt
    by_old (Some xs) is = let test : is_begun (beginning most xs) ≡ false = ap is_begun (sym is) ∙ other in is ∙ sym (some_read most xs test)

-- it may be one: all that may be read was read
pub rest_read : (old new : Option (List ℕ)) (bytes all : List ℕ) (most rest : ℕ) (there : Bool) → Consumes old new bytes → length bytes ≤ min most 13 → (there ≡ true → length bytes ≡ min most 13)
    → (there ≡ false → IsAtEnd new) → is_begun bytes ≡ true → rest ≡ most - 13 → IfSome new (λ ys. all ≡ bytes ++ take rest ys) → IfSome old (λ xs. all ≡ part_read most xs)
rest_read old new bytes all most rest there given room whole end is left more = by_old old new given (first_read old new bytes most there given room whole end) more
  where
    long : length bytes ≡ 13
    long = begun_long bytes (bytes_eq bytes part_line) (bytes_eq bytes cases_word) refl refl is

    by_old : (o n : Option (List ℕ)) → Consumes o n bytes → IfSome o (λ xs. bytes ≡ beginning most xs) → IfSome n (λ ys. all ≡ bytes ++ take rest ys) → IfSome o (λ xs. all ≡ part_read most xs)
    by_old None n eats first beyond = tt
    by_old (Some xs) None eats first beyond = absurd eats
    by_old (Some xs) (Some ys) eats first beyond =
        let test : is_begun (beginning most xs) ≡ true = ap is_begun (sym first) ∙ is in
        let within : length bytes ≤ most = omega (arith, room) in
        let parted = take_past most bytes ys within in
        let cut : take (most - length bytes) ys ≡ take rest ys = ap (λ (n : ℕ). take (most - n) ys) long ∙ ap (λ (n : ℕ). take n ys) (sym left) in
        beyond ∙ ap (λ (zs : List ℕ). bytes ++ zs) (sym cut) ∙ sym parted ∙ ap (λ (zs : List ℕ). take most zs) (sym eats) ∙ sym (all_read most xs test)

-- what a test of the first bytes tells
decided : (b : Bool) (xs ys : List ℕ) → IsTrue b ↔ (xs ≡ ys) → b ≡ bytes_eq xs ys
decided b xs ys test = by_test b (bytes_eq xs ys) test (bytes_eq-Decides xs ys)
  where
    by_test : (b c : Bool) → IsTrue b ↔ (xs ≡ ys) → IsTrue c ↔ (xs ≡ ys) → b ≡ c
    by_test true true one two = refl
    by_test false false one two = refl
    by_test true false one two = let bad : false ≡ true = two.1 (one.0 refl) in absurd cc
    by_test false true one two = let bad : false ≡ true = one.1 (two.0 refl) in absurd cc

pub is_either : (a b : Bool) (xs : List ℕ) → IsTrue a ↔ (xs ≡ part_line) → IsTrue b ↔ (xs ≡ cases_word) → a || b ≡ is_begun xs
is_either a b xs one two = rw (decided a xs part_line one, decided b xs cases_word two) refl
