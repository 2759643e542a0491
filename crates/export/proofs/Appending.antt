-- What a writer holds after two calls.
use Rattle.std.proofs.Common.{◌≡◌, ℕ, ◌+◌, ◌-◌, ◌≤◌, List, ◌++◌, length, take, drop, Option, None, Some, sym, ap, ◌∙◌, subst, append_assoc, arith}
use Rattle.std.proofs.lemmas.List.{take_rest, length-drop}
use Rattle.std.proofs.Math.Seq.{take-add}
use Rattle.std.specs.Io.KnownBytes.{Appends, Keeps}

-- some bytes, and then more
pub appended_twice : (a b c : Option (List ℕ)) (some more : List ℕ) → Appends a b some → Appends b c more → Appends a c (some ++ more)
appended_twice None b c some more p q = tt
appended_twice (Some x) None c some more p q = absurd p
appended_twice (Some x) (Some y) None some more p q = absurd q
appended_twice (Some x) (Some y) (Some z) some more p q = q ∙ ap (λ l. l ++ more) p ∙ append_assoc x some more

-- the first n bytes, and then m of the rest
pub appends_more : (bytes : List ℕ) (a b c : Option (List ℕ)) (n m : ℕ) → Appends a b (take n bytes)
    → Appends b c (take m (take (length bytes - n) (drop n bytes))) → Appends a c (take (n + m) bytes)
appends_more bytes a b c n m p q =
    subst (Appends a c) (sym (take-add n m bytes))
    (appended_twice a b c (take n bytes) (take m (drop n bytes)) p (subst (λ l. Appends b c (take m l)) (take_rest bytes n) q))

-- some bytes, and then nothing
pub keeps_appended : (a b c : Option (List ℕ)) (some : List ℕ) → Appends a b some → Keeps b c → Appends a c some
keeps_appended None b c some p q = tt
keeps_appended (Some x) None c some p q = absurd p
keeps_appended (Some x) (Some y) None some p q = absurd q
keeps_appended (Some x) (Some y) (Some z) some p q = q ∙ p

-- that many of the rest are within all
pub rest_is_within : (bytes : List ℕ) (n m : ℕ) → n ≤ length bytes → m ≤ length (take (length bytes - n) (drop n bytes)) → n + m ≤ length bytes
rest_is_within bytes n m p q =
    let few : m ≤ length (drop n bytes) = subst (λ l. m ≤ length l) (take_rest bytes n) q in
    let rest : length (drop n bytes) ≡ length bytes - n = length-drop n bytes in
    omega arith
