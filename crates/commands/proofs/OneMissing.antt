-- The flushes that are missing for failing lines are one list.
use Rattle.std.proofs.Common.{ℕ, suc, ◌≡◌, ◌+◌, ◌<◌, ◌≤◌, List, [], ◌∷◌, ◌++◌, length, take, append_assoc, Option, None, Some, slice_get, refl, sym, ◌∙◌, ap, subst, arith}
use Rattle.std.proofs.lemmas.Bool.{false≢true}
use Rattle.logfmt.specs.declared.entry.Entry.{Entry}
use Rattle.epochs.specs.declared.part.By.{By}
use Rattle.choices.specs.declared.choice.Departure.{Departure}
use Rattle.losses.specs.declared.flushes.window.Window.{Window}
use Rattle.losses.specs.declared.flushes.counted.MissingFlush.{MissingFlush}
use Rattle.losses.specs.Windows.{IsWindow, HasNoWindow}
use Rattle.losses.specs.Places.{Covers, IsNext, ArePlaces}
use Rattle.losses.specs.Counted.{missing, AreMissing}
use Rattle.report.specs.Line.{FailingLine}
use Rattle.losses.specs.declared.cure.failure.Failure.{Failure}
use Rattle.losses.specs.FailureWindows.{IsWindowIf, IsFailure, AreFailures}

-- a window ends at one entry
not_after : (way : By) (es : List Entry) (cut : ℕ) (ds : List Departure) (v w : Window) → IsWindow way es cut ds v → IsWindow way es cut ds w → v.end < w.end → ⊥
not_after way es cut ds v w a b less = false≢true (sym (a.last w.end less b.before) ∙ b.end)

pub one_end : (m n : ℕ) → (m < n → ⊥) → (n < m → ⊥) → m ≡ n
one_end m n below above = omega (arith, below, above)

same_window : (way : By) (es : List Entry) (cut : ℕ) (ds : List Departure) (v w : Window) → IsWindow way es cut ds v → IsWindow way es cut ds w → v ≡ w
same_window way es cut ds v w a b =
    let both : Some a.first ≡ Some b.first = sym a.departs ∙ b.departs in
    let first : a.first ≡ b.first = cc in
    let start : v.start ≡ w.start = a.start ∙ ap (λ (d : Departure). d.part.entry + 1) first ∙ sym b.start in
    let end : v.end ≡ w.end = one_end v.end w.end (not_after way es cut ds v w a b) (not_after way es cut ds w v b a) in
    λ i. record { start = start i; end = end i }

not_none : (way : By) (es : List Entry) (cut : ℕ) (ds : List Departure) (w : Window) → IsWindow way es cut ds w → HasNoWindow way es cut ds → ⊥
not_none way es cut ds w a none =
    let start = a.start in
    let order = a.order in
    let beyond : a.first.part.entry < w.end = omega (arith, start, order) in
    false≢true (sym (none a.first w.end a.departs beyond a.before) ∙ a.end)

pub same_if : (way : By) (es : List Entry) (cut : ℕ) (ds : List Departure) (v w : Option Window) → IsWindowIf way es cut ds v → IsWindowIf way es cut ds w → v ≡ w
same_if way es cut ds None None a b = refl
same_if way es cut ds None (Some w) a b = absurd (not_none way es cut ds w b a)
same_if way es cut ds (Some v) None a b = absurd (not_none way es cut ds v a b)
same_if way es cut ds (Some v) (Some w) a b = ap Some (same_window way es cut ds v w a b)

same_failure : (way : By) (es : List Entry) (l : FailingLine) (f g : Failure) → IsFailure way es l f → IsFailure way es l g → f ≡ g
same_failure way es l f g a b =
    let program : f.program ≡ g.program = a.program ∙ sym b.program in
    let window = same_if way es l.cut l.departures f.window g.window a.window b.window in
    λ i. record { program = program i; window = window i }

rest_of : (way : By) (es : List Entry) (l : FailingLine) (ls : List FailingLine) (f : Failure) (fs : List Failure) → AreFailures way es (l ∷ ls) (f ∷ fs) → AreFailures way es ls fs
rest_of way es l ls f fs a =
    let long : suc (length fs) ≡ suc (length ls) = a.all in
    record { all = omega (arith, long); each = λ i m g there at. a.each (suc i) m g there at }

-- the failures of failing lines are one list
pub same_failures : (way : By) (es : List Entry) (ls : List FailingLine) (fs gs : List Failure) → AreFailures way es ls fs → AreFailures way es ls gs → fs ≡ gs
same_failures way es [] [] [] a b = refl
same_failures way es [] (f ∷ fs) gs a b = absurd (let long : suc (length fs) ≡ 0 = a.all in omega (arith, long))
same_failures way es [] [] (g ∷ gs) a b = absurd (let long : suc (length gs) ≡ 0 = b.all in omega (arith, long))
same_failures way es (l ∷ ls) [] gs a b = absurd (let long : 0 ≡ suc (length ls) = a.all in omega (arith, long))
same_failures way es (l ∷ ls) (f ∷ fs) [] a b = absurd (let long : 0 ≡ suc (length ls) = b.all in omega (arith, long))
same_failures way es (l ∷ ls) (f ∷ fs) (g ∷ gs) a b =
    let one = same_failure way es l f g (a.each 0 l f refl refl) (b.each 0 l g refl refl) in
    let rest = same_failures way es ls fs gs (rest_of way es l ls f fs a) (rest_of way es l ls g gs b) in
    λ i. one i ∷ rest i

-- after some places one is the next
same_next : (ws : List Window) (ps : List ℕ) (p q : ℕ) → IsNext ws ps p → IsNext ws ps q → p ≡ q
same_next ws ps p q a b =
    let low : p ≤ b.window.end = a.first b.number b.window b.there b.none in
    let high : q ≤ a.window.end = b.first a.number a.window a.there a.none in
    let own = a.end in
    let other = b.end in
    omega (arith, low, high, own, other)

-- where each window holds a place, none is next
no_next : (ws : List Window) (ps : List ℕ) (p : ℕ) → Covers ws ps → IsNext ws ps p → ⊥
no_next ws ps p all next =
    let one = all next.number next.window next.there in
    next.none one.number one.place one.there one.holds

-- each of these places is next after some before and those before it
abbrev AreNext : List Window → List ℕ → List ℕ → Type 0
AreNext ws before ps = (i p : ℕ) → slice_get ps i ≡ Some p → IsNext ws (before ++ take i ps) p

next_of : (ws : List Window) (before : List ℕ) (p : ℕ) (ps : List ℕ) → AreNext ws before (p ∷ ps) → AreNext ws (before ++ p ∷ []) ps
next_of ws before p ps each i q there = subst (λ (xs : List ℕ). IsNext ws xs q) (sym (append_assoc before (p ∷ []) (take i ps))) (each (suc i) q there)

places_after : (ws : List Window) (before ps qs : List ℕ) → AreNext ws before ps → AreNext ws before qs → Covers ws (before ++ ps) → Covers ws (before ++ qs) → ps ≡ qs
places_after ws before [] [] a b all every = refl
places_after ws before [] (q ∷ qs) a b all every = absurd (no_next ws (before ++ []) q all (b 0 q refl))
places_after ws before (p ∷ ps) [] a b all every = absurd (no_next ws (before ++ []) p every (a 0 p refl))
places_after ws before (p ∷ ps) (q ∷ qs) a b all every =
    let one : p ≡ q = same_next ws (before ++ []) p q (a 0 p refl) (b 0 q refl) in
    let same : q ∷ qs ≡ p ∷ qs = λ i. sym one i ∷ qs in
    let other : AreNext ws before (p ∷ qs) = subst (λ (xs : List ℕ). AreNext ws before xs) same b in
    let covers : Covers ws (before ++ p ∷ qs) = subst (λ (xs : List ℕ). Covers ws (before ++ xs)) same every in
    let rest =
    places_after ws (before ++ p ∷ []) ps qs (next_of ws before p ps a) (next_of ws before p qs other)
    (subst (Covers ws) (sym (append_assoc before (p ∷ []) ps)) all) (subst (Covers ws) (sym (append_assoc before (p ∷ []) qs)) covers) in
    λ i. one i ∷ rest i

same_places : (ws : List Window) (ps qs : List ℕ) → ArePlaces ws ps → ArePlaces ws qs → ps ≡ qs
same_places ws ps qs a b = places_after ws [] ps qs a.each b.each a.all b.all

-- the flushes that are missing for windows are one list
pub same_missing : (ws : List Window) (ms ns : List MissingFlush) → AreMissing ws ms → AreMissing ws ns → ms ≡ ns
same_missing ws ms ns a b = a.listed ∙ ap (missing ws) (same_places ws a.places b.places a.picked b.picked) ∙ sym b.listed
