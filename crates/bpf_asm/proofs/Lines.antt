-- The lines of a text, by its first newline.
use Rattle.std.proofs.Common.{◌≡◌, ℕ, ◌+◌, ◌<◌, ◌==◌, false, List, [], ◌∷◌, ◌++◌, length, get_or, take, drop, refl, sym, ap, ◌∙◌}
use Rattle.std.proofs.Math.Seq.{take-length}
use Rattle.std.proofs.lemmas.List.{take_more, take-append-drop}
use Rattle.bpf_asm.specs.Parts.{lines}
use Rattle.bpf_asm.proofs.Parts.{drop_there}

-- no newline
abbrev pub IsLine : List ℕ → Type 0
IsLine [] = Unit {0}
IsLine (c ∷ rest) = ((c == 10) ≡ false) × IsLine rest

pub is_line_append : (xs ys : List ℕ) → IsLine xs → IsLine ys → IsLine (xs ++ ys)
is_line_append [] ys a b = b
is_line_append (c ∷ xs) ys a b = (a.0, is_line_append xs ys a.1 b)

pub line_more : (text : List ℕ) (i : ℕ) → i < length text → (get_or text i 0 == 10) ≡ false → IsLine (take i text) → IsLine (take (i + 1) text)
line_more text i there e w = rw (take_more text i 0 there) (is_line_append (take i text) (get_or text i 0 ∷ []) w (e, tt))

-- a line and its newline in front
pub line_split : (xs ys : List ℕ) → IsLine xs → lines (xs ++ 10 ∷ ys) ≡ xs ∷ lines ys
line_split [] ys h = refl
line_split (c ∷ xs) ys h = rw (h.0, line_split xs ys h.1) refl

-- a text of one line
pub line_alone : (xs : List ℕ) → IsLine xs → lines xs ≡ xs ∷ []
line_alone [] h = refl
line_alone (c ∷ xs) h = rw (h.0, line_alone xs h.1) refl

-- the first newline ends the first line
pub split_there : (text : List ℕ) (i : ℕ) → i < length text → get_or text i 0 ≡ 10 → IsLine (take i text) → lines text ≡ take i text ∷ lines (drop (i + 1) text)
split_there text i there e h =
    ap lines (sym (take-append-drop i text) ∙ ap (λ (r : List ℕ). take i text ++ r) (drop_there text i there ∙ ap (λ (c : ℕ). c ∷ drop (i + 1) text) e))
    ∙ line_split (take i text) (drop (i + 1) text) h

pub whole_line : (text : List ℕ) → IsLine (take (length text) text) → lines text ≡ text ∷ []
whole_line text h = line_alone text (rw (take-length text) at h)
