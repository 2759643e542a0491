-- A table of stamps, by which the sectors of an entry are told.
use Rattle.std.proofs.Common.{ℕ, ◌≡◌, ◌∙◌, ◌+◌, ◌<◌, ◌≤◌, ◌==◌, ◌≢◌, Bool, true, false, not, ◌||◌, IsTrue, IsFalse, if◌then◌else◌, List, length, slice_get, get_or, Some, refl, sym, ap, arith, take, drop, ◌-◌, ◌⊎◌, inl, inr}
use Rattle.std.specs.List.{range_with_len, slice_range, list_any}
use Rattle.std.proofs.lemmas.Bool.{cases_lt}
use Rattle.std.proofs.lemmas.Bool.Decides.{nat_tests}
use Rattle.std.proofs.lemmas.List.{get_or_past}
use Rattle.logfmt.specs.declared.entry.Entry.{Entry}
use Rattle.request.specs.Promises.{forces, is_forced_again, is_unforced}
use Rattle.request.specs.Search.{AllAre, OneIsNot, AreStamped, TellForced, NoneIsUnforced}
use Rattle.request.proofs.Between.{any_first, at_or_above, range_any, range_none}

pub one_is_not : (stamps : List ℕ) (stamp first count place : ℕ) → place < count → get_or stamps (first + place) 0 ≢ stamp → OneIsNot stamps stamp first count
one_is_not stamps stamp first count place lt other =
    let is : (get_or stamps (first + place) 0 == stamp) ≡ false = grind (arith, nat_tests, other) in
    record { sector = first + place; from = omega arith; before = omega (arith, lt); is = is }

pub unforced_by : (es : List Entry) (e m : ℕ) (x : Entry) (stamp : ℕ) (stamps : List ℕ) (b : Bool) → slice_get es e ≡ Some x → x.flags.fua ≡ false → x.flags.discard ≡ false
    → (0 < x.count → x.sector + x.count ≤ length stamps) → TellForced es (e + 1) m stamp stamps
    → (IsTrue b → AllAre stamps stamp x.sector x.count) → (IsFalse b → OneIsNot stamps stamp x.sector x.count) → not b ≡ is_unforced es m e
unforced_by es e m x stamp stamps b here fua discard within tell all not_all =
    let value : is_unforced es m e ≡ list_any (λ s. not (is_forced_again es e m s)) (range_with_len x.sector x.count) =
    rw (here, fua, discard) refl in
    by b refl ∙ sym value
  where
    open_any : Bool
    open_any = list_any (λ s. not (is_forced_again es e m s)) (range_with_len x.sector x.count)

    by : (a : Bool) → b ≡ a → not a ≡ open_any
    by true k = sym (range_none (λ s. not (is_forced_again es e m s)) x.sector x.count
        (λ s low high. ap not (sym (tell s (omega (arith, high, within (omega (arith, low, high))))) ∙ all (let t : IsTrue b = k in t) s low high)))
    by false k =
        let one = not_all (let t : IsFalse b = k in t) in
        let low = one.from in
        let high = one.before in
        sym (range_any (λ s. not (is_forced_again es e m s)) x.sector x.count one.sector one.from one.before
        (ap not (sym (tell one.sector (omega (arith, high, within (omega (arith, low, high))))) ∙ one.is)))

-- an entry with FUA adds its sectors
pub tell_more : (es : List Entry) (k m stamp : ℕ) (x : Entry) (old new : List ℕ) → slice_get es k ≡ Some x → k < m → AreStamped (λ s. forces s x) stamp old new
    → TellForced es (k + 1) m stamp old → TellForced es k m stamp new
tell_more es k m stamp x old new here lt stamped tell =
    λ s inside.
    let within : s < length old = omega (arith, inside, stamped.long) in
    let first = any_first (forces s) es k m x here lt in
    by s (forces s x) refl (tell s within) (stamped.at s within) ∙ sym first
  where
    rest : ℕ → Bool
    rest s = list_any (forces s) (slice_range es (k + 1) m)

    by : (s : ℕ) (b : Bool) → forces s x ≡ b → (get_or old s 0 == stamp) ≡ rest s → get_or new s 0 ≡ (if forces s x then stamp else get_or old s 0)
        → (get_or new s 0 == stamp) ≡ (forces s x || rest s)
    by s true e was is =
        let now : get_or new s 0 ≡ stamp = is ∙ ap (λ b. if b then stamp else get_or old s 0) e in
        let same : (get_or new s 0 == stamp) ≡ true = grind (arith, nat_tests, now) in
        same ∙ sym (ap (λ b. b || rest s) e)
    by s false e was is =
        let now : get_or new s 0 ≡ get_or old s 0 = is ∙ ap (λ b. if b then stamp else get_or old s 0) e in
        ap (λ n. n == stamp) now ∙ was ∙ sym (ap (λ b. b || rest s) e)

-- no number above the stamp
pub stamped_below : (test : ℕ → Bool) (stamp : ℕ) (old new : List ℕ) → AreStamped test stamp old new → ((n : ℕ) → get_or old n 0 ≤ stamp) → (n : ℕ) → get_or new n 0 ≤ stamp
stamped_below test stamp old new stamped low n = by (cases_lt n (length old))
  where
    inside : (b : Bool) → get_or new n 0 ≡ (if b then stamp else get_or old n 0) → get_or new n 0 ≤ stamp
    inside true e = omega (arith, e)
    inside false e = let was = low n in omega (arith, e, was)

    by : (n < length old) ⊎ (length old ≤ n) → get_or new n 0 ≤ stamp
    by (inl lt) = inside (test n) (stamped.at n lt)
    by (inr past) =
        let e : get_or new n 0 ≡ 0 = get_or_past new n 0 (omega (arith, past, stamped.long)) in
        omega (arith, e)

-- a table that is older than the mark
pub tell_none : (es : List Entry) (m : ℕ) (stamps : List ℕ) → ((n : ℕ) → get_or stamps n 0 ≤ m) → TellForced es m m (m + 1) stamps
tell_none es m stamps old = λ s inside.
    let low = old s in
    let is : (get_or stamps s 0 == m + 1) ≡ false = grind (arith, nat_tests, low) in
    let none : m - m ≡ 0 = omega arith in
    is ∙ sym (ap (λ n. list_any (forces s) (take n (drop m es))) none)

-- one entry more that isn't open
pub none_more : (es : List Entry) (k m : ℕ) → NoneIsUnforced es (k + 1) m → is_unforced es m k ≡ false → NoneIsUnforced es k m
none_more es k m none not_it = λ e low high. by e high (at_or_above k e low)
  where
    by : (e : ℕ) → e < m → (e ≡ k) ⊎ (k + 1 ≤ e) → is_unforced es m e ≡ false
    by e high (inl same) = ap (is_unforced es m) same ∙ not_it
    by e high (inr more) = none e more high
