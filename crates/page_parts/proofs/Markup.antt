-- Text is no markup.
use Rattle.std.proofs.Common.{ℕ, zero, suc, ◌≡◌, ◌<◌, ◌≤◌, ◌==◌, Bool, length, get_or, chars, inl, inr, arith, true, false, List, [], ◌∷◌, ◌++◌, slice_get, Some, None, nat_lt, refl, sym, ◌∙◌, ap}
use Rattle.std.proofs.lemmas.Option.{same_Some}
use Rattle.std.proofs.lemmas.Bool.{cases_lt}
use Rattle.std.proofs.lemmas.Bool.Decides.{nat_tests}
use Rattle.std.proofs.lemmas.List.{append-nil}
use Rattle.std.proofs.lemmas.Str.{inside_one}
use Rattle.std.specs.Char.{encode_utf8}
use Rattle.std.specs.List.{flat_map}
use Rattle.std.specs.Str.{is_utf8}
use Rattle.crash_text.specs.Escaped.{escaped_text}
use Rattle.page_parts.specs.Html.{plain_byte, html_byte, html, is_odd, mark_char, mark_label}
use Rattle.page_parts.specs.Laws.{is_markup, TextIsNoMarkup}

-- no byte of some bytes is markup
Clean : List ℕ → Type 0
Clean [] = Unit {0}
Clean (b ∷ bs) = (is_markup b ≡ false) × Clean bs

both : (xs ys : List ℕ) → Clean xs → Clean ys → Clean (xs ++ ys)
unfolding Clean
both [] ys first second = second
both (x ∷ xs) ys first second = (first.0, both xs ys first.1 second)

at : (xs : List ℕ) (i b : ℕ) → Clean xs → slice_get xs i ≡ Some b → is_markup b ≡ false
unfolding Clean
at [] i b clean there = absurd (let bad : None ≡ Some b = there in cc)
at (x ∷ xs) zero b clean there = let same : x ≡ b = same_Some x b there in sym (ap is_markup same) ∙ clean.0
at (x ∷ xs) (suc i) b clean there = at xs i b clean.1 there

plain : (x : ℕ) (low : Bool) → nat_lt x 128 ≡ low → is_markup x ≡ false → Clean (plain_byte x)
unfolding Clean
plain x true e other = rw e (other, tt)
plain x false e other = rw e (refl, (refl, (refl, (refl, (refl, (refl, (refl, (refl, tt))))))))

one : (x : ℕ) (a b c d e : Bool) → (x == 38) ≡ a → (x == 60) ≡ b → (x == 62) ≡ c → (x == 34) ≡ d → (x == 39) ≡ e → Clean (html_byte x)
unfolding Clean
one x true b c d e is-38 is-60 is-62 is-34 is-39 = rw is-38 (refl, (refl, (refl, (refl, (refl, tt)))))
one x false true c d e is-38 is-60 is-62 is-34 is-39 = rw (is-38, is-60) (refl, (refl, (refl, (refl, tt))))
one x false false true d e is-38 is-60 is-62 is-34 is-39 = rw (is-38, is-60, is-62) (refl, (refl, (refl, (refl, tt))))
one x false false false true e is-38 is-60 is-62 is-34 is-39 = rw (is-38, is-60, is-62, is-34) (refl, (refl, (refl, (refl, (refl, (refl, tt))))))
one x false false false false true is-38 is-60 is-62 is-34 is-39 = rw (is-38, is-60, is-62, is-34, is-39) (refl, (refl, (refl, (refl, (refl, tt)))))
one x false false false false false is-38 is-60 is-62 is-34 is-39 = rw (is-38, is-60, is-62, is-34, is-39) (plain x (nat_lt x 128) refl (rw (is-60, is-62, is-34, is-39) refl))

all : (bytes : List ℕ) → Clean (html bytes)
unfolding Clean
all [] = tt
all (x ∷ bytes) = both (html_byte x) (html bytes) (one x (x == 38) (x == 60) (x == 62) (x == 34) (x == 39) refl refl refl refl refl) (all bytes)

-- a byte above those of ASCII is none
high : (x : ℕ) → 128 ≤ x → is_markup x ≡ false
high x is =
    let a : (x == 60) ≡ false = grind (arith, nat_tests) in
    let b : (x == 62) ≡ false = grind (arith, nat_tests) in
    let c : (x == 34) ≡ false = grind (arith, nat_tests) in
    let d : (x == 39) ≡ false = grind (arith, nat_tests) in
    rw (a, b, c, d) refl

highs : (xs : List ℕ) → ((k : ℕ) → k < length xs → 128 ≤ get_or xs k 0) → Clean xs
unfolding Clean
highs [] are = tt
highs (x ∷ xs) are =
    let first : 128 ≤ x = are 0 (omega arith) in
    (high x first, highs xs (λ k below. are (suc k) (omega (arith, below))))

-- the bytes of a character above those of ASCII
encoded : (c : ℕ) → 160 ≤ c → Clean (encode_utf8 c)
encoded c big = highs (encode_utf8 c) each
  where
    each : (k : ℕ) → k < length (encode_utf8 c) → 128 ≤ get_or (encode_utf8 c) k 0
    each k below = elim (cases_lt (get_or (encode_utf8 c) k 0) 128) [
      | inl low ↦ absurd (let one : c ≡ get_or (encode_utf8 c) k 0 = inside_one c [] (encode_utf8 c) k (sym (append-nil (encode_utf8 c))) below low in omega (arith, one, low, big))
      | inr h ↦ h
    ]

marked : (c : ℕ) (low odd : Bool) → nat_lt c 160 ≡ low → is_odd c ≡ odd → Clean (mark_char c)
marked c true true small is = rw (small, is) (all (escaped_text (c ∷ [])))
marked c true false small is = rw (small, is) (one c (c == 38) (c == 60) (c == 62) (c == 34) (c == 39) refl refl refl refl refl)
marked c false odd big is = let high : 160 ≤ c = grind (arith, nat_tests) in rw big (encoded c high)

all_marked : (cs : List ℕ) → Clean (flat_map mark_char cs)
unfolding Clean
all_marked [] = tt
all_marked (c ∷ cs) = both (mark_char c) (flat_map mark_char cs) (marked c (nat_lt c 160) (is_odd c) refl refl) (all_marked cs)

labelled : (text : List ℕ) (is : Bool) → is_utf8 text ≡ is → Clean (mark_label text)
labelled text true e = rw e (all_marked (chars text))
labelled text false e = rw e (all (escaped_text text))

pub text_is_no_markup : TextIsNoMarkup
text_is_no_markup = λ bytes i b. (at (html bytes) i b (all bytes), at (mark_label bytes) i b (labelled bytes (is_utf8 bytes) refl))
