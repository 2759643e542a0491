-- The number of the inputs, byte by byte and file by file.
use Rattle.std.proofs.Common.{ℕ, zero, suc, ◌≡◌, ◌+◌, ◌<◌, ◌≤◌, List, [], ◌∷◌, ◌++◌, length, map, take, get_or, append-nil, refl, sym, ◌∙◌, ap, arith}
use Rattle.std.specs.Int.{to_le_bytes, w64}
use Rattle.std.specs.List.{fold, flat_map}
use Rattle.std.proofs.lemmas.Grind.{flat_map-append}
use Rattle.std.proofs.lemmas.List.{take_all, length-map}
use Rattle.std.proofs.lemmas.List.Sums.{fold-append, fold_more}
use Rattle.request.specs.Inputs.{with_byte, file_bytes, inputs_number, report_number}

-- one more byte
pub byte_more : (number : ℕ) (bytes : List ℕ) (i joined now byte : ℕ) → joined ≡ fold with_byte number (take i bytes) → i < length bytes → byte ≡ get_or bytes i byte
    → now ≡ with_byte joined byte → now ≡ fold with_byte number (take (i + 1) bytes)
byte_more number bytes i joined now byte before within here is =
    is ∙ (λ j. with_byte (before j) (here j)) ∙ sym (fold_more with_byte number bytes i byte within)

-- a file and its length
pub file_told : (number : ℕ) (file long : List ℕ) (one two : ℕ) → one ≡ fold with_byte number file → long ≡ to_le_bytes w64 (length file) → two ≡ fold with_byte one long
    → two ≡ fold with_byte number (file_bytes file)
file_told number file long one two first bytes second =
    second ∙ (λ j. fold with_byte (first j) (bytes j)) ∙ sym (fold-append with_byte number file (to_le_bytes w64 (length file)))

take_one : {V : Type 0} (items : V → List ℕ) (xs : List V) (n : ℕ) (x : V) → n < length xs → x ≡ get_or xs n x → take (n + 1) (map items xs) ≡ take n (map items xs) ++ items x ∷ []
take_one items [] n x within here = absurd (omega (arith, within))
take_one items (y ∷ ys) zero x within here = ap (λ v. items v ∷ []) (sym here)
take_one items (y ∷ ys) (suc n) x within here =
    let e : suc n + 1 ≡ suc (n + 1) = omega arith in
    rw e (ap (λ (rest : List (List ℕ)). items y ∷ rest) (take_one items ys n x (omega (arith, within)) here))

-- the log alone
pub no_program : (log : List ℕ) (number : ℕ) → number ≡ fold with_byte 0 (file_bytes log) → number ≡ inputs_number log []
unfolding inputs_number
no_program log number is = is ∙ ap (fold with_byte 0) (sym (append-nil (file_bytes log)))

-- one more program
pub program_more : {V : Type 0} (items : V → List ℕ) (log : List ℕ) (programs : List V) (i : ℕ) (p : V) (number now : ℕ) (bytes : List ℕ)
    → number ≡ inputs_number log (take i (map items programs)) → i < length programs → p ≡ get_or programs i p → bytes ≡ items p → now ≡ fold with_byte number (file_bytes bytes)
    → now ≡ inputs_number log (take (i + 1) (map items programs))
unfolding inputs_number
program_more items log programs i p number now bytes before within here same is =
    let files : List (List ℕ) = log ∷ take i (map items programs) in
    let more = take_one items programs i p within here in
    is
    ∙ (λ j. fold with_byte (before j) (file_bytes (same j)))
    ∙ sym (fold-append with_byte 0 (flat_map file_bytes files) (file_bytes (items p)))
    ∙ ap (λ (bs : List ℕ). fold with_byte 0 (flat_map file_bytes files ++ bs)) (sym (append-nil (file_bytes (items p))))
    ∙ ap (fold with_byte 0) (sym (flat_map-append file_bytes files (items p ∷ [])))
    ∙ ap (λ (fs : List (List ℕ)). fold with_byte 0 (flat_map file_bytes (log ∷ fs))) (sym more)

-- all programs
pub all_programs : {V : Type 0} (items : V → List ℕ) (log : List ℕ) (programs : List V) (i number : ℕ) → number ≡ inputs_number log (take i (map items programs)) → length programs ≤ i
    → number ≡ inputs_number log (map items programs)
all_programs items log programs i number before all =
    before ∙ ap (inputs_number log) (take_all i (map items programs) (let long = length-map programs items in omega (arith, all, long)))

-- the log, and the line of a report's options
pub report_told : (log options : List ℕ) (one two : ℕ) → one ≡ fold with_byte 0 (file_bytes log) → two ≡ fold with_byte one (file_bytes options) → two ≡ report_number log options
unfolding inputs_number
report_told log options one two first second =
    second ∙ ap (λ (n : ℕ). fold with_byte n (file_bytes options)) first ∙ sym (fold-append with_byte 0 (file_bytes log) (file_bytes options))
    ∙ ap (λ (bs : List ℕ). fold with_byte 0 (file_bytes log ++ bs)) (sym (append-nil (file_bytes options)))
