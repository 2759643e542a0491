-- The table of starts, window by window.
use Rattle.std.proofs.Common.{ℕ, zero, suc, ◌≡◌, ◌≢◌, ◌+◌, ◌<◌, ◌≤◌, ◌⊎◌, List, [], ◌∷◌, ◌++◌, length, take, slice_get, slice_set, Some, None, refl, sym, ◌∙◌, ap, arith, add-one, inl, inr}
use Rattle.std.proofs.lemmas.Bool.Decides.{eqb_tells}
use Rattle.base.proofs.Lists.{slice_get_of_push, slice_get-push, take-suc_place}
use Rattle.losses.specs.declared.flushes.window.Window.{Window}
use Rattle.losses.specs.Places.{AreStarts}

-- a place of a list after an element was set
pub set_here : (xs : List ℕ) (i x y : ℕ) → slice_get xs i ≡ Some x → slice_get (slice_set xs i y) i ≡ Some y
set_here [] i x y h = absurd (let bad : None ≡ Some x = h in cc)
set_here (z ∷ xs) zero x y h = refl
set_here (z ∷ xs) (suc i) x y h = set_here xs i x y h

pub set_there : (xs : List ℕ) (i j y : ℕ) → i ≢ j → slice_get (slice_set xs i y) j ≡ slice_get xs j
set_there [] i j y h = refl
set_there (z ∷ xs) zero zero y h = absurd (h refl)
set_there (z ∷ xs) zero (suc j) y h = refl
set_there (z ∷ xs) (suc i) zero y h = refl
set_there (z ∷ xs) (suc i) (suc j) y h = set_there xs i j y (λ same. h (ap suc same))

set_length : (xs : List ℕ) (i y : ℕ) → length (slice_set xs i y) ≡ length xs
set_length [] i y = refl
set_length (z ∷ xs) zero y = refl
set_length (z ∷ xs) (suc i) y = ap suc (set_length xs i y)

-- an element stays where more stand after it
there_more : (xs : List Window) (y : Window) (i : ℕ) (x : Window) → slice_get xs i ≡ Some x → slice_get (xs ++ y ∷ []) i ≡ Some x
there_more [] y i x h = absurd (let bad : None ≡ Some x = h in cc)
there_more (z ∷ xs) y zero x h = h
there_more (z ∷ xs) y (suc i) x h = there_more xs y i x h

-- a window that begins no later than another one with its end
kept : (n : ℕ) (ws : List Window) (starts : List ℕ) (w : Window) (s : ℕ) → AreStarts n ws starts
    → slice_get starts w.end ≡ Some s → w.start ≤ s → AreStarts n (ws ++ w ∷ []) starts
kept n ws starts w s are here low = record {
  long = are.long;
  greatest = λ i x t there at. elim (slice_get_of_push ws w i x there) [
    | inl was ↦ are.greatest i x t was at
    | inr last ↦
        let same : slice_get starts x.end ≡ Some s = ap (λ (v : Window). slice_get starts v.end) last.1 ∙ here in
        let value : t ≡ s = cc in
        let start : x.start ≡ w.start = ap (λ (v : Window). v.start) last.1 in
        omega (arith, value, start, low)
  ];
  real = λ e t at some. let was = are.real e t at some in (was.0, was.1, there_more ws w was.0 was.1 was.2, was.3, was.4);
}

-- a window that begins later than all others with its end
set : (n : ℕ) (ws : List Window) (starts : List ℕ) (w : Window) (s : ℕ) → AreStarts n ws starts
    → slice_get starts w.end ≡ Some s → s < w.start → AreStarts n (ws ++ w ∷ []) (slice_set starts w.end w.start)
set n ws starts w s are here low = record {
  long = set_length starts w.end w.start ∙ are.long;
  greatest = λ i x t there at. elim (slice_get_of_push ws w i x there) [
    | inl was ↦ elim (eqb_tells w.end x.end) [
      | inl here_too ↦
          let now : slice_get (slice_set starts w.end w.start) x.end ≡ Some w.start = ap (slice_get (slice_set starts w.end w.start)) (sym here_too.1) ∙ set_here starts w.end s w.start here in
          let value : t ≡ w.start = cc in
          let then : slice_get starts x.end ≡ Some s = ap (slice_get starts) (sym here_too.1) ∙ here in
          let before = are.greatest i x s was then in
          omega (arith, value, low, before)
      | inr other ↦ are.greatest i x t was (sym (set_there starts w.end x.end w.start other.1) ∙ at)
    ]
    | inr last ↦
        let now : slice_get (slice_set starts w.end w.start) x.end ≡ Some w.start = ap (λ (v : Window). slice_get (slice_set starts w.end w.start) v.end) last.1 ∙ set_here starts w.end s w.start here in
        let value : t ≡ w.start = cc in
        let start : x.start ≡ w.start = ap (λ (v : Window). v.start) last.1 in
        omega (arith, value, start)
  ];
  real = λ e t at some. elim (eqb_tells w.end e) [
    | inl here_too ↦
        let now : slice_get (slice_set starts w.end w.start) e ≡ Some w.start = ap (slice_get (slice_set starts w.end w.start)) (sym here_too.1) ∙ set_here starts w.end s w.start here in
        let value : w.start ≡ t = cc in
        (length ws, w, slice_get-push ws w, here_too.1, value)
    | inr other ↦
        let was = are.real e t (sym (set_there starts w.end e w.start other.1) ∙ at) some in
        (was.0, was.1, there_more ws w was.0 was.1 was.2, was.3, was.4)
  ];
}

-- one window more, by whichever was greater
pub one_more : (n k s : ℕ) (ws : List Window) (starts after : List ℕ) (w : Window) → AreStarts n (take k ws) starts → slice_get ws k ≡ Some w
    → slice_get starts w.end ≡ Some s
    → ((s < w.start) × (after ≡ slice_set starts w.end w.start)) ⊎ ((w.start ≤ s) × (after ≡ starts))
    → AreStarts n (take (k + 1) ws) after
one_more n k s ws starts after w are there here by =
    let more : take (k + 1) ws ≡ take k ws ++ w ∷ [] = ap (λ m. take m ws) (add-one k) ∙ take-suc_place ws k w there in
    elim by [
      | inl later ↦ rw (more, later.1) (set n (take k ws) starts w s are here later.0)
      | inr same ↦ rw (more, same.1) (kept n (take k ws) starts w s are here same.0)
    ]
