-- What the calls of the frames saved: the last of them, and those of the frames below.
use Rattle.std.proofs.Common.{ℕ, zero, suc, ◌≡◌, ◌+◌, ◌-◌, ◌<◌, nat_lt, true, List, [], ◌∷◌, ◌++◌, length, length-append, take, Option, Some, refl, sym, ◌∙◌, ap, arith}
use Rattle.std.proofs.lemmas.Bool.{ltb-true}
use Rattle.std.proofs.lemmas.List.{map-append, length-map}
use Rattle.bpf_isa.specs.declared.instr.Instr.{Instr}
use Rattle.machine.specs.State.{Caller, Frame}
use Rattle.machine.specs.Step.{caller_of}
use Rattle.soundness.proofs.Frames.{split_last, last_got, without_last}
use Rattle.soundness.proofs.Room.{Waiting, callers}
use Rattle.std.specs.Option.{option_and_then}

same_end : {X : Type 0} (xs ys : List X) (x y : X) → xs ++ x ∷ [] ≡ ys ++ y ∷ [] → (xs ≡ ys) × (x ≡ y)
same_end [] [] x y e = (refl, (let same : x ∷ [] ≡ y ∷ [] = e in cc))
same_end [] (b ∷ ys) x y e =
    let long : length (x ∷ []) ≡ length (b ∷ (ys ++ y ∷ [])) = ap length e in
    let more = length-append ys (y ∷ []) in
    absurd (omega (arith, long, more))
same_end (a ∷ xs) [] x y e =
    let long : length (a ∷ (xs ++ x ∷ [])) ≡ length (y ∷ []) = ap length e in
    let more = length-append xs (x ∷ []) in
    absurd (omega (arith, long, more))
same_end (a ∷ xs) (b ∷ ys) x y e =
    let whole : a ∷ (xs ++ x ∷ []) ≡ b ∷ (ys ++ y ∷ []) = e in
    let first : a ≡ b = cc in
    let beyond : xs ++ x ∷ [] ≡ ys ++ y ∷ [] = cc in
    let rest = same_end xs ys x y beyond in
    (rw (first, rest.0) refl, rest.1)

-- the last frame, and what the others saved
record Ends (fs : List Frame) (front : List (Option Caller)) (o : Option Caller) : Type 0 where
  pub below : List Frame
  pub last : Frame
  pub is : fs ≡ below ++ last ∷ []
  pub saved : last.caller ≡ o
  pub others : callers below ≡ front

ends_with : (fs : List Frame) (front : List (Option Caller)) (o : Option Caller) → callers fs ≡ front ++ o ∷ [] → Ends fs front o
ends_with fs front o e =
    let long = ap length e in
    let mapped : length (callers fs) ≡ length fs = length-map fs (λ (f : Frame). f.caller) in
    let more = length-append front (o ∷ []) in
    let split = split_last fs (omega (arith, long, mapped, more)) in
    let parts : callers split.below ++ split.last.caller ∷ [] ≡ front ++ o ∷ [] =
    sym (map-append (λ (f : Frame). f.caller) split.below (split.last ∷ [])) ∙ sym (ap callers split.is) ∙ e in
    let same = same_end (callers split.below) front split.last.caller o parts in
    record { below = split.below; last = split.last; is = split.is; saved = same.1; others = same.0 }

pub last_caller : (fs : List Frame) (front : List (Option Caller)) (o : Option Caller) → callers fs ≡ front ++ o ∷ [] → caller_of fs ≡ o
last_caller fs front o e =
    let parts = ends_with fs front o e in
    ap caller_of parts.is ∙ ap (λ (x : Option Frame). option_and_then (λ (f : Frame). f.caller) x) (last_got parts.below parts.last) ∙ parts.saved

pub taken_callers : (fs : List Frame) (front : List (Option Caller)) (o : Option Caller) → callers fs ≡ front ++ o ∷ []
    → callers (take (length fs - 1) fs) ≡ front
taken_callers fs front o e =
    let parts = ends_with fs front o e in
    ap (λ (x : List Frame). callers (take (length x - 1) x)) parts.is ∙ ap callers (without_last parts.below parts.last) ∙ parts.others

-- as many frames as wait, and the one at hand
waiting_long : (program : List (Option Instr)) (whole n depth : ℕ) (cs : List (Option Caller)) (below : ℕ) → Waiting program whole n depth cs below → length cs ≡ n + 1
waiting_long program whole zero depth cs below w = ap length w.0
waiting_long program whole (suc n) depth cs below w =
    let rest = waiting_long program whole n (suc depth) w.front w.under w.rest in
    let long = ap length w.are in
    let more = length-append w.front (Some w.caller ∷ []) in
    omega (arith, rest, long, more)

pub number_fits : (program : List (Option Instr)) (whole n depth : ℕ) (fs : List Frame) (below : ℕ) → Waiting program whole n depth (callers fs) below
    → nat_lt (length fs) 4 ≡ true → n < 3
number_fits program whole n depth fs below w few =
    let long = waiting_long program whole n depth (callers fs) below w in
    let mapped : length (callers fs) ≡ length fs = length-map fs (λ (f : Frame). f.caller) in
    let less : length fs < 4 = ltb-true (length fs) 4 few in
    omega (arith, long, mapped, less)
