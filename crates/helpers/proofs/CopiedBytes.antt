-- The bytes that `copy` gives, piece after piece.
use Rattle.std.proofs.Common.{ℕ, ◌≡◌, ◌+◌, ◌≤◌, List, [], ◌++◌, length, take, drop, refl, sym, ◌∙◌, ap, arith}
use Rattle.std.proofs.lemmas.List.{length-append, length-drop, length-take-le}
use Rattle.std.proofs.lemmas.Slice.{take-put_mid}
use borrow.Rule.Slice.PartMut.{put_mid}
use Rattle.helpers.specs.Answers.{device_bytes}
use Rattle.helpers.proofs.Summed.{bytes_append}

pub none_copied : (device : List (List ℕ)) (position : ℕ) → [] ≡ device_bytes device position 0
unfolding device_bytes
none_copied device position = refl

-- one piece more
pub more_copied : (device : List (List ℕ)) (position done k : ℕ) (window bytes piece : List ℕ) → done ≤ length window → piece ≡ bytes
    → take done window ≡ device_bytes device position done → bytes ≡ device_bytes device (position + done) (length bytes)
    → take (done + length bytes) (put_mid done k window piece) ≡ device_bytes device position (done + length bytes)
more_copied device position done k window bytes piece within same so_far is =
    let many : done + length bytes ≡ done + length piece = ap (λ (b : List ℕ). done + length b) (sym same) in
    take-put_mid done k window piece (done + length bytes) many within
    ∙ ap (λ (b : List ℕ). take done window ++ b) same ∙ ap (λ (b : List ℕ). b ++ bytes) so_far
    ∙ ap (λ (b : List ℕ). device_bytes device position done ++ b) is ∙ sym (bytes_append device position done (length bytes))

-- the window stays as long
pub as_long : (done k : ℕ) (window piece : List ℕ) → done + k ≤ length window → length piece ≡ k → length (put_mid done k window piece) ≡ length window
as_long done k window piece fits many =
    let left = length-take-le done window (omega (arith, fits)) in
    let rest = length-drop done window in
    let after = length-drop k (drop done window) in
    let first = length-append (take done window) (piece ++ drop k (drop done window)) in
    let second = length-append piece (drop k (drop done window)) in
    omega (arith, left, rest, after, first, second, many, fits)
