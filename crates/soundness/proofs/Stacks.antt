-- A stack in which bytes are stored.
use Rattle.std.proofs.Common.{◌≡◌, ◌≢◌, ◌<◌, ◌≤◌, ℕ, zero, suc, ◌+◌, ◌-◌, ◌*◌, ◌/◌, ◌%◌, ◌^◌, nat_lt, nat_le, ◌&&◌, ◌||◌, not, Bool, true, false, if◌then◌else◌, List, [], ◌∷◌, ◌++◌, length, map, get_or, slice_index, Option, None, Some, is_some, refl, sym, ap, ◌∙◌, inl, inr, ◌⊎◌, subst, arith, append-nil}
use Rattle.std.specs.Prelude.{set}
use Rattle.std.proofs.lemmas.Bool.{cases_lt}
use Rattle.std.proofs.lemmas.Bool.Decides.{nat_tests}
use Rattle.std.proofs.lemmas.List.{length-set, get_or-set_same, get_or-set_other, get_or_past}
use Rattle.base.specs.Numbers.{number_at, number_bytes}
use Rattle.base.proofs.Lists.{length-number_bytes, number_at-number_bytes}
use Rattle.machine.specs.State.{Caller, Frame, stack_start}
use Rattle.machine.specs.Memory.{change_at, with_byte, frames_with}
use Rattle.ranges.specs.declared.place.ByteMark.TheVariants as mark
use Rattle.ranges.specs.Kinds.{Kind}
use Rattle.ranges.specs.Groups.{GroupKind, Marked, Spilled, map_places}
use Rattle.ranges.specs.Places.{mark_in, is_mark}
use Rattle.ranges.specs.After.{is_among, mark_after, marks_after, is_touched, group_after, groups_after_write}
use Rattle.soundness.specs.Meaning.{Means, GroupMeans, IsSetAt, bare}
use Rattle.soundness.specs.Machines.{IsStack}
use Rattle.soundness.proofs.Checks.{and_parts}
use Rattle.soundness.proofs.Standing.{frames_of, each_set, not_unset}
use Rattle.soundness.proofs.Memory.{same_number, bare_at, long_bare}
use Rattle.soundness.proofs.Loads.{AreSmall, mark_set}

-- the stack in which these bytes stand from a place on
abbrev pub filled : List (Option ℕ) → ℕ → List ℕ → List (Option ℕ)
filled stack p [] = stack
filled stack p (b ∷ bytes) = filled (set stack p (Some b)) (p + 1) bytes

change_last : (h : Frame → Frame) (below : List Frame) (f : Frame) → change_at (length below) h (below ++ f ∷ []) ≡ below ++ h f ∷ []
change_last h [] f = refl
change_last h (g ∷ rest) f = ap (λ (fs : List Frame). g ∷ fs) (change_last h rest f)

with_byte_is : (below : List Frame) (caller : Option Caller) (stack : List (Option ℕ)) (a p b : ℕ) → a ≡ stack_start + 1024 * length below + p → p < 512
    → with_byte (frames_of below caller stack) a b ≡ frames_of below caller (set stack p (Some b))
unfolding with_byte
with_byte_is below caller stack a p b e lt =
    let one : nat_lt a stack_start ≡ false = grind (arith, nat_tests) in
    let block : (a - stack_start) / 1024 ≡ length below = omega (arith, e, lt) in
    let rest : (a - stack_start) % 1024 ≡ p = omega (arith, e, lt) in
    rw (one, block, rest) (change_last (λ f. record f { stack = set f.stack p (Some b) }) below (record { stack = stack; caller = caller }))

pub stored_is : (bytes : List ℕ) (below : List Frame) (caller : Option Caller) (stack : List (Option ℕ)) (a p : ℕ) → length below ≤ 3
    → a ≡ stack_start + 1024 * length below + p → p + length bytes ≤ 512
    → frames_with (frames_of below caller stack) a bytes ≡ frames_of below caller (filled stack p bytes)
unfolding frames_with
stored_is [] below caller stack a p few e fits = refl
stored_is (b ∷ bytes) below caller stack a p few e fits =
    let next : (a + 1) % 2 ^ 64 ≡ a + 1 = omega (arith, e, fits, few) in
    rw (with_byte_is below caller stack a p b e (omega (arith, fits)), next)
    (stored_is bytes below caller (set stack p (Some b)) (a + 1) (p + 1) few (omega (arith, e)) (omega (arith, fits)))

pub filled_long : (bytes : List ℕ) (stack : List (Option ℕ)) (p : ℕ) → length (filled stack p bytes) ≡ length stack
filled_long [] stack p = refl
filled_long (b ∷ bytes) stack p = filled_long bytes (set stack p (Some b)) (p + 1) ∙ length-set stack p (Some b)

filled_out : (bytes : List ℕ) (stack : List (Option ℕ)) (p q : ℕ) → (q < p) ⊎ (p + length bytes ≤ q) → get_or (filled stack p bytes) q None ≡ get_or stack q None
filled_out [] stack p q out = refl
filled_out (b ∷ bytes) stack p q (inl lt) =
    let other : q ≢ p = λ e. omega (arith, lt, e) in
    filled_out bytes (set stack p (Some b)) (p + 1) q (inl (omega (arith, lt))) ∙ get_or-set_other stack p q (Some b) None other
filled_out (b ∷ bytes) stack p q (inr le) =
    let other : q ≢ p = λ e. omega (arith, le, e) in
    filled_out bytes (set stack p (Some b)) (p + 1) q (inr (omega (arith, le))) ∙ get_or-set_other stack p q (Some b) None other

filled_in : (bytes : List ℕ) (stack : List (Option ℕ)) (p i : ℕ) → i < length bytes → p + length bytes ≤ length stack
    → get_or (filled stack p bytes) (p + i) None ≡ Some (slice_index bytes i)
filled_in [] stack p i lt fits = absurd (omega (arith, lt))
filled_in (b ∷ bytes) stack p zero lt fits =
    let p0 : p + 0 ≡ p = omega arith in
    rw p0 (filled_out bytes (set stack p (Some b)) (p + 1) p (inl (omega arith)) ∙ get_or-set_same stack p (Some b) None (omega (arith, fits)))
filled_in (b ∷ bytes) stack p (suc i) lt fits =
    let next : p + 1 + i ≡ p + suc i = omega arith in
    let long = length-set stack p (Some b) in
    ap (λ (q : ℕ). get_or (filled (set stack p (Some b)) (p + 1) bytes) q None) (sym next)
    ∙ filled_in bytes (set stack p (Some b)) (p + 1) i (omega (arith, lt)) (omega (arith, fits, long))

set_keeps : (stack : List (Option ℕ)) (p q b : ℕ) → is_some (get_or stack q None) ≡ true → is_some (get_or (set stack p (Some b)) q None) ≡ true
set_keeps [] p q b e = e
set_keeps (c ∷ stack) zero zero b e = refl
set_keeps (c ∷ stack) zero (suc q) b e = e
set_keeps (c ∷ stack) (suc p) zero b e = e
set_keeps (c ∷ stack) (suc p) (suc q) b e = set_keeps stack p q b e

filled_keeps : (bytes : List ℕ) (stack : List (Option ℕ)) (p q : ℕ) → is_some (get_or stack q None) ≡ true → is_some (get_or (filled stack p bytes) q None) ≡ true
filled_keeps [] stack p q e = e
filled_keeps (b ∷ bytes) stack p q e = filled_keeps bytes (set stack p (Some b)) (p + 1) q (set_keeps stack p q b e)

abbrev IsByte : Option ℕ → Type 0
IsByte c = (b : ℕ) → c ≡ Some b → b < 256

byte_is : (x : ℕ) → x < 256 → IsByte (Some x)
byte_is x lt b e = let same : x ≡ b = cc in rw (← same) lt

filled_small : (bytes : List ℕ) (stack : List (Option ℕ)) (p : ℕ) → AreSmall bytes → ((q : ℕ) → IsByte (get_or stack q None)) → (q : ℕ) → IsByte (get_or (filled stack p bytes) q None)
filled_small [] stack p small h = h
filled_small (b ∷ bytes) stack p small h =
    filled_small bytes (set stack p (Some b)) (p + 1) (λ i. small (suc i)) (each_set IsByte stack p (Some b) None h (byte_is b (small 0)))

pub filled_is_stack : (bytes : List ℕ) (stack : List (Option ℕ)) (p : ℕ) → AreSmall bytes → IsStack stack → IsStack (filled stack p bytes)
filled_is_stack bytes stack p small h = record { long = filled_long bytes stack p ∙ h.long; bytes = filled_small bytes stack p small h.bytes }

-- groups that are not touched, and groups of which bytes are written

untouched : (sectors frame : ℕ) (gk : GroupKind) (bytes : List ℕ) (stack : List (Option ℕ)) (p g : ℕ) → length stack ≡ 512 → g < 64 → GroupMeans sectors frame gk stack g
    → (8 * g + 8 ≤ p) ⊎ (p + length bytes ≤ 8 * g) → GroupMeans sectors frame gk (filled stack p bytes) g
untouched sectors frame (Marked marks) bytes stack p g long lt m out = λ k small e. filled_keeps bytes stack p (8 * g + k) (m k small e)
untouched sectors frame (Spilled k) bytes stack p g long lt m out = (
  (λ i small. filled_keeps bytes stack p (8 * g + i) (m.0 i small)),
  subst (λ (x : ℕ). Means sectors frame k (Some x)) (sym same) m.1,
)
  where
    apart : (i : ℕ) → i < 8 → (8 * g + 8 ≤ p) ⊎ (p + length bytes ≤ 8 * g) → (8 * g + i < p) ⊎ (p + length bytes ≤ 8 * g + i)
    apart i small (inl before) = inl (omega (arith, small, before))
    apart i small (inr beyond) = inr (omega (arith, beyond))

    same : number_at 8 (8 * g) (map bare (filled stack p bytes)) ≡ number_at 8 (8 * g) (map bare stack)
    same =
        let a = long_bare (filled stack p bytes) (filled_long bytes stack p ∙ long) in
        let b = long_bare stack long in
        same_number 8 (8 * g) (8 * g) (map bare (filled stack p bytes)) (map bare stack) (omega (arith, a, lt)) (omega (arith, b, lt))
        (λ i small. bare_at (filled stack p bytes) (8 * g + i) ∙ ap bare (filled_out bytes stack p (8 * g + i) (apart i small out)) ∙ sym (bare_at stack (8 * g + i)))

mark_get : (at n g k : ℕ) (gk : GroupKind) → k < 8 → get_or (marks_after at n g gk) k false ≡ mark_after at n g gk k
mark_get at n g zero gk lt = refl
mark_get at n g (suc zero) gk lt = refl
mark_get at n g (suc (suc zero)) gk lt = refl
mark_get at n g (suc (suc (suc zero))) gk lt = refl
mark_get at n g (suc (suc (suc (suc zero)))) gk lt = refl
mark_get at n g (suc (suc (suc (suc (suc zero))))) gk lt = refl
mark_get at n g (suc (suc (suc (suc (suc (suc zero)))))) gk lt = refl
mark_get at n g (suc (suc (suc (suc (suc (suc (suc zero))))))) gk lt = refl
mark_get at n g (suc (suc (suc (suc (suc (suc (suc (suc k)))))))) gk lt = absurd (omega (arith, lt))

among_parts : (at n g k : ℕ) → is_among at n g k ≡ true → (at ≤ 8 * g + k) × (8 * g + k < at + n)
among_parts at n g k e =
    let h = and_parts (nat_le at (8 * g + k)) (nat_lt (8 * g + k) (at + n)) e in
    let one = h.0 in let two = h.1 in (grind (arith, nat_tests), grind (arith, nat_tests))

written_mark : (sectors frame : ℕ) (gk : GroupKind) (bytes : List ℕ) (stack : List (Option ℕ)) (at n g k : ℕ) → length bytes ≡ n → at + n ≤ length stack → k < 8
    → GroupMeans sectors frame gk stack g → mark_after at n g gk k ≡ true → IsSetAt (filled stack at bytes) g k
written_mark sectors frame gk bytes stack at n g k count fits lt m e = by (is_among at n g k) refl e
  where
    by : (b : Bool) → is_among at n g k ≡ b → (b || not (is_mark (mark_in gk k) mark.Unset)) ≡ true → IsSetAt (filled stack at bytes) g k
    by true t f =
        let h = among_parts at n g k t in
        let place : at + (8 * g + k - at) ≡ 8 * g + k = omega (arith, h.0) in
        let there : get_or (filled stack at bytes) (at + (8 * g + k - at)) None ≡ Some (slice_index bytes (8 * g + k - at)) =
        filled_in bytes stack at (8 * g + k - at) (omega (arith, h.0, h.1, count)) (omega (arith, fits, count)) in
        ap (λ (q : ℕ). is_some (get_or (filled stack at bytes) q None)) (sym place) ∙ ap is_some there
    by false t f = filled_keeps bytes stack at (8 * g + k) (mark_set sectors frame gk stack g k m lt (not_unset (is_mark (mark_in gk k) mark.Unset) f))

pub group_written : (sectors frame : ℕ) (gk : GroupKind) (bytes : List ℕ) (stack : List (Option ℕ)) (at n g : ℕ) → length bytes ≡ n → at + n ≤ 512 → length stack ≡ 512 → g < 64
    → GroupMeans sectors frame gk stack g → GroupMeans sectors frame (group_after at n g gk) (filled stack at bytes) g
unfolding group_after
group_written sectors frame gk bytes stack at n g count fits long lt m = by (is_touched at n g) refl
  where
    by : (b : Bool) → is_touched at n g ≡ b → GroupMeans sectors frame (if b then Marked (marks_after at n g gk) else gk) (filled stack at bytes) g
    by true t = λ k small e. written_mark sectors frame gk bytes stack at n g k count (omega (arith, fits, long)) small m (sym (mark_get at n g k gk small) ∙ e)
    by false t = untouched sectors frame gk bytes stack at g long lt m (out (cases_lt at (8 * g + 8)) (cases_lt (8 * g) (at + n)))
      where
        out : (at < 8 * g + 8) ⊎ (8 * g + 8 ≤ at) → (8 * g < at + n) ⊎ (at + n ≤ 8 * g) → (8 * g + 8 ≤ at) ⊎ (at + length bytes ≤ 8 * g)
        out (inr before) other = inl before
        out (inl near) (inr beyond) = inr (omega (arith, beyond, count))
        out (inl near) (inl there) = absurd (let bad : (nat_lt at (8 * g + 8) && nat_lt (8 * g) (at + n)) ≡ false = t in grind (arith, nat_tests))

pub places_at : {A B : Type 0} (f : ℕ → A → B) (n : ℕ) (xs : List A) (i : ℕ) (d : A) (e : B) → i < length xs → get_or (map_places f n xs) i e ≡ f (n + i) (get_or xs i d)
unfolding map_places
places_at f n [] i d e lt = absurd (omega (arith, lt))
places_at f n (x ∷ xs) zero d e lt = let n0 : n + 0 ≡ n = omega arith in rw n0 refl
places_at f n (x ∷ xs) (suc i) d e lt =
    let next : n + 1 + i ≡ n + suc i = omega arith in
    places_at f (n + 1) xs i d e (omega (arith, lt)) ∙ ap (λ (q : ℕ). f q (get_or xs i d)) next

pub places_long : {A B : Type 0} (f : ℕ → A → B) (n : ℕ) (xs : List A) → length (map_places f n xs) ≡ length xs
unfolding map_places
places_long f n [] = refl
places_long f n (x ∷ xs) = ap suc (places_long f (n + 1) xs)

pub past_means : (sectors frame : ℕ) (groups : List GroupKind) (stack : List (Option ℕ)) (g : ℕ) → length groups ≡ 64 → 64 ≤ g → GroupMeans sectors frame (get_or groups g (Marked [])) stack g
past_means sectors frame groups stack g long le =
    let none : get_or groups g (Marked []) ≡ Marked [] = get_or_past groups g (Marked []) (omega (arith, long, le)) in
    rw none (λ k lt e. absurd (let bad : false ≡ true = e in cc))

-- bytes are written
pub written_means : (sectors frame : ℕ) (groups : List GroupKind) (bytes : List ℕ) (stack : List (Option ℕ)) (at n : ℕ) → length groups ≡ 64 → length bytes ≡ n → at + n ≤ 512 → length stack ≡ 512
    → ((g : ℕ) → GroupMeans sectors frame (get_or groups g (Marked [])) stack g)
    → (g : ℕ) → GroupMeans sectors frame (get_or (groups_after_write at n groups) g (Marked [])) (filled stack at bytes) g
unfolding groups_after_write
written_means sectors frame groups bytes stack at n count some fits long h g =
    elim (cases_lt g 64) [
      | inl lt ↦
          let there : get_or (map_places (group_after at n) 0 groups) g (Marked []) ≡ group_after at n (0 + g) (get_or groups g (Marked [])) =
          places_at (group_after at n) 0 groups g (Marked []) (Marked []) (omega (arith, lt, count)) in
          let z : 0 + g ≡ g = omega arith in
          rw (there, z) (group_written sectors frame (get_or groups g (Marked [])) bytes stack at n g some fits long lt (h g))
      | inr le ↦ past_means sectors frame (map_places (group_after at n) 0 groups) (filled stack at bytes) g (places_long (group_after at n) 0 groups ∙ count) le
    ]

-- a pointer is spilled to a group
pub spilled_means : (sectors frame : ℕ) (groups : List GroupKind) (stack : List (Option ℕ)) (k : Kind) (at x : ℕ) → length groups ≡ 64 → at + 8 ≤ 512 → at % 8 ≡ 0 → length stack ≡ 512
    → x < 2 ^ 64 → Means sectors frame k (Some x) → ((g : ℕ) → GroupMeans sectors frame (get_or groups g (Marked [])) stack g)
    → (g : ℕ) → GroupMeans sectors frame (get_or (set groups (at / 8) (Spilled k)) g (Marked [])) (filled stack at (number_bytes 8 x)) g
spilled_means sectors frame groups stack k at x count fits aligned long small m h g =
    elim (cases_lt g 64) [
      | inl lt ↦ within lt (cases_lt g (at / 8)) (cases_lt (at / 8) g)
      | inr le ↦ past_means sectors frame (set groups (at / 8) (Spilled k)) (filled stack at (number_bytes 8 x)) g (length-set groups (at / 8) (Spilled k) ∙ count) le
    ]
  where
    other : g < 64 → g ≢ at / 8 → (8 * g + 8 ≤ at) ⊎ (at + length (number_bytes 8 x) ≤ 8 * g)
        → GroupMeans sectors frame (get_or (set groups (at / 8) (Spilled k)) g (Marked [])) (filled stack at (number_bytes 8 x)) g
    other lt ne out = rw (get_or-set_other groups (at / 8) g (Spilled k) (Marked []) ne)
        (untouched sectors frame (get_or groups g (Marked [])) (number_bytes 8 x) stack at g long lt (h g) out)

    place : at ≡ 8 * (at / 8)
    place = omega (arith, aligned)

    each : (i : ℕ) → i < 8 → get_or (filled stack at (number_bytes 8 x)) (8 * (at / 8) + i) None ≡ Some (slice_index (number_bytes 8 x) i)
    each i lt =
        let eight = length-number_bytes 8 x in
        ap (λ (q : ℕ). get_or (filled stack at (number_bytes 8 x)) (q + i) None) (sym place)
        ∙ filled_in (number_bytes 8 x) stack at i (omega (arith, lt, eight)) (omega (arith, fits, long, eight))

    number : number_at 8 (8 * (at / 8)) (map bare (filled stack at (number_bytes 8 x))) ≡ x
    number =
        let a = long_bare (filled stack at (number_bytes 8 x)) (filled_long (number_bytes 8 x) stack at ∙ long) in
        let eight = length-number_bytes 8 x in
        same_number 8 (8 * (at / 8)) 0 (map bare (filled stack at (number_bytes 8 x))) (number_bytes 8 x) (omega (arith, a, fits, place)) (omega (arith, eight))
        (λ i lt. let z : 0 + i ≡ i = omega arith in bare_at (filled stack at (number_bytes 8 x)) (8 * (at / 8) + i) ∙ ap bare (each i lt) ∙ ap (slice_index (number_bytes 8 x)) (sym z))
        ∙ ap (number_at 8 0) (sym (append-nil (number_bytes 8 x))) ∙ number_at-number_bytes 8 x 0 [] [] small refl

    here : at / 8 < 64 → GroupMeans sectors frame (get_or (set groups (at / 8) (Spilled k)) (at / 8) (Marked [])) (filled stack at (number_bytes 8 x)) (at / 8)
    here lt = rw (get_or-set_same groups (at / 8) (Spilled k) (Marked []) (omega (arith, lt, count)))
        ((λ i small_i. ap is_some (each i small_i)), subst (λ (v : ℕ). Means sectors frame k (Some v)) (sym number) m)

    within : g < 64 → (g < at / 8) ⊎ (at / 8 ≤ g) → (at / 8 < g) ⊎ (g ≤ at / 8)
        → GroupMeans sectors frame (get_or (set groups (at / 8) (Spilled k)) g (Marked [])) (filled stack at (number_bytes 8 x)) g
    within lt (inl less) r = other lt (λ e. omega (arith, less, e)) (inl (omega (arith, less, place)))
    within lt (inr more) (inl greater) =
        let eight = length-number_bytes 8 x in
        other lt (λ e. omega (arith, greater, e)) (inr (omega (arith, greater, place, eight)))
    within lt (inr more) (inr less) =
        let same : at / 8 ≡ g = omega (arith, more, less) in
        subst (λ (v : ℕ). GroupMeans sectors frame (get_or (set groups (at / 8) (Spilled k)) v (Marked [])) (filled stack at (number_bytes 8 x)) v) same (here (omega (arith, lt, same)))
