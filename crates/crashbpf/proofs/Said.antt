-- What standard error took.
use Rattle.std.proofs.Common.{ℕ, ◌≡◌, ◌<◌, ◌++◌, ◌∷◌, suc, length-append, Bool, true, false, List, [], length, take, Option, Some, None, inl, inr, ◌+◌, ◌⊎◌, Result, Ok, Err, OnOk, OnErr, IfErr, is_ok, refl, sym, ◌∙◌, ap, append_assoc, append-nil, subst, arith}
use Rattle.std.specs.Io.KnownBytes.{Appends, Keeps}
use Rattle.std.proofs.KnownBytes.{Appends-trans}
use Rattle.crashbpf.specs.Ending.{Takes, SaysFirst}

-- by what `emit` says of it
pub takes_text : {T : Type 0} → (r : Result T ℕ) (before after : Option (List ℕ)) (failed : Bool) (text bytes : List ℕ) → bytes ≡ text → OnOk r (Appends before after bytes)
    → IfErr r (λ n. (n < length bytes) × Appends before after (take n bytes)) → OnErr r (failed ≡ true) → Takes before after failed text
takes_text (Ok done) before after failed text bytes same all part failure = subst (Takes before after failed) same (inl all)
takes_text (Err n) before after failed text bytes same all part failure = subst (Takes before after failed) same (inr (failure, (n, part.0, part.1)))

-- a text that was taken whole, and then another
take_past : (first second : List ℕ) (n : ℕ) → take (length first + n) (first ++ second) ≡ first ++ take n second
take_past [] second n = let none : 0 + n ≡ n = omega arith in rw none refl
take_past (x ∷ xs) second n = let one : suc (length xs) + n ≡ suc (length xs + n) = omega arith in rw one (ap (λ l. x ∷ l) (take_past xs second n))

then_text : (before middle after : Option (List ℕ)) (failed : Bool) (first second : List ℕ) → Appends before middle first → Takes middle after failed second → Takes before after failed (first ++ second)
then_text before middle after failed first second all (inl more) = inl (Appends-trans before middle after first second all more)
then_text before middle after failed first second all (inr part) =
    let (n, below, took) = part.1 in
    let within : length first + n < length (first ++ second) = omega (arith, length-append first second) in
    inr (part.0, (length first + n, within, subst (Appends before after) (sym (take_past first second n)) (Appends-trans before middle after first (take n second) all took)))

pub after_text : (before middle after : Option (List ℕ)) (before_failed failed : Bool) (first second : List ℕ) → Takes before middle before_failed first → before_failed ≡ false → Takes middle after failed second
    → Takes before after failed (first ++ second)
after_text before middle after before_failed failed first second (inl all) going more = then_text before middle after failed first second all more
after_text before middle after before_failed failed first second (inr part) going more = absurd (let bad : true ≡ false = sym part.0 ∙ going in cc)

-- a line, and then notes
pub says_notes : (before middle after : Option (List ℕ)) (line_failed failed : Bool) (shown line : List ℕ) → shown ≡ line → Takes before middle line_failed shown → line_failed ≡ false
    → SaysFirst (Takes middle after failed) [] → SaysFirst (Takes before after failed) line
says_notes before middle after line_failed failed shown line same took going notes =
    (notes.0, after_text before middle after line_failed failed line notes.0 (subst (Takes before middle line_failed) same took) going notes.1)
