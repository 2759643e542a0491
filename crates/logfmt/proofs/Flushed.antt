-- What stays of a log to which flushes are added, and what becomes of its entries.
use Rattle.std.proofs.Common.{ℕ, zero, suc, ◌≡◌, ◌==◌, ◌||◌, ◌+◌, Bool, true, false, if◌then◌else◌, List, [], ◌∷◌, ◌++◌, length, take, slice_get, slice_set, Some, None, refl, sym, ◌∙◌, ap, arith, add-one, inl, inr}
use Rattle.std.proofs.lemmas.Option.{slice_get_cases, slice_get_within}
use Rattle.std.proofs.lemmas.List.Sums.{sum_by-cons}
use Rattle.base.proofs.Lists.{take-suc_place}
use Rattle.std.proofs.lemmas.Bool.Decides.{nat_tests, eqb_tells}
use Rattle.logfmt.specs.declared.entry.Entry.{Entry}
use Rattle.logfmt.specs.Bounds.{LogValue, IsLog, IsEntry, units_of, data_of, data_at, place}
use Rattle.logfmt.specs.Flushed.{with_flush, flushed_at, is_place, with_flushes}

-- there are as many
pub length-flushed : (chosen : ℕ → Bool) (es : List Entry) → length (flushed_at chosen es) ≡ length es
length-flushed chosen [] = refl
length-flushed chosen (e ∷ es) = let rest = length-flushed (λ n. chosen (suc n)) es in omega (arith, rest)

-- an entry of them
pub entry-flushed : (chosen : ℕ → Bool) (es : List Entry) (i : ℕ) (e : Entry) → slice_get es i ≡ Some e
    → slice_get (flushed_at chosen es) i ≡ Some (if chosen i then with_flush e else e)
entry-flushed chosen [] i e here = absurd (let bad : None ≡ Some e = here in cc)
entry-flushed chosen (x ∷ es) zero e here = let same : x ≡ e = cc in rw same refl
entry-flushed chosen (x ∷ es) (suc i) e here = entry-flushed (λ n. chosen (suc n)) es i e here

-- numbers that are chosen alike
pub flushed-alike : (a b : ℕ → Bool) (es : List Entry) → ((n : ℕ) → a n ≡ b n) → flushed_at a es ≡ flushed_at b es
flushed-alike a b [] same = refl
flushed-alike a b (e ∷ es) same =
    rw (same 0, flushed-alike (λ n. a (suc n)) (λ n. b (suc n)) es (λ n. same (suc n))) refl

-- where none is chosen nothing changes
pub flushed-none : (es : List Entry) → flushed_at (λ n. false) es ≡ es
flushed-none [] = refl
flushed-none (e ∷ es) = ap (λ xs. e ∷ xs) (flushed-none es)

-- one after the other
pub flushed-twice : (a b : ℕ → Bool) (es : List Entry) → flushed_at b (flushed_at a es) ≡ flushed_at (λ n. a n || b n) es
flushed-twice a b [] = refl
flushed-twice a b (e ∷ es) =
    let rest = flushed-twice (λ n. a (suc n)) (λ n. b (suc n)) es in
    let here : (x y : Bool) → (if y then with_flush (if x then with_flush e else e) else (if x then with_flush e else e)) ≡ (if x || y then with_flush e else e) =
    λ x y. elim x as (λ v. (if y then with_flush (if v then with_flush e else e) else (if v then with_flush e else e)) ≡ (if v || y then with_flush e else e)) [
      | true ↦ elim y as (λ v. (if v then with_flush (with_flush e) else with_flush e) ≡ with_flush e) [ true ↦ refl | false ↦ refl ]
      | false ↦ refl
    ] in
    rw (rest, here (a 0) (b 0)) refl

-- a test of a number's successor
pub suc-is : (n p : ℕ) → (suc n == suc p) ≡ (n == p)
suc-is n p =
    elim (eqb_tells n p) [
      | inl same ↦ elim (eqb_tells (suc n) (suc p)) [
        | inl more ↦ more.0 ∙ sym same.0
        | inr more ↦ absurd (more.1 (ap (λ k. suc k) same.1))
      ]
      | inr other ↦ elim (eqb_tells (suc n) (suc p)) [
        | inl more ↦ let all = more.1 in absurd (other.1 (omega (arith, all)))
        | inr more ↦ more.0 ∙ sym other.0
      ]
    ]

-- one entry made a flush entry
pub set-flush : (es : List Entry) (p : ℕ) (e : Entry) → slice_get es p ≡ Some e
    → slice_set es p (with_flush e) ≡ flushed_at (λ n. p == n) es
set-flush [] p e here = absurd (let bad : None ≡ Some e = here in cc)
set-flush (x ∷ es) zero e here =
    let same : x ≡ e = cc in
    let beyond : (n : ℕ) → (0 == suc n) ≡ false = λ n. grind (arith, nat_tests) in
    let rest = flushed-alike (λ n. 0 == suc n) (λ n. false) es beyond ∙ flushed-none es in
    rw (same, rest) refl
set-flush (x ∷ es) (suc p) e here =
    let beyond : (n : ℕ) → (p == n) ≡ (suc p == suc n) = λ n. sym (suc-is p n) in
    let first : (suc p == 0) ≡ false = grind (arith, nat_tests) in
    rw first (ap (λ xs. x ∷ xs) (set-flush es p e here ∙ flushed-alike (λ n. p == n) (λ n. suc p == suc n) es beyond))

-- one place more
pub is_place-push : (places : List ℕ) (p n : ℕ) → is_place (places ++ p ∷ []) n ≡ (is_place places n || (p == n))
is_place-push [] p n = or-false (p == n)
  where
    or-false : (b : Bool) → (b || false) ≡ b
    or-false true = refl
    or-false false = refl
is_place-push (x ∷ places) p n =
    let rest = is_place-push places p n in
    let swap : (a b c : Bool) → (a || (b || c)) ≡ ((a || b) || c) =
    λ a b c. elim a as (λ v. (v || (b || c)) ≡ ((v || b) || c)) [ true ↦ refl | false ↦ refl ] in
    rw rest (swap (x == n) (is_place places n) (p == n))

pub one-more : (places : List ℕ) (k p : ℕ) (es : List Entry) → slice_get places k ≡ Some p
    → flushed_at (λ n. p == n) (flushed_at (is_place (take k places)) es) ≡ flushed_at (is_place (take (k + 1) places)) es
one-more places k p es here =
    let more : take (k + 1) places ≡ take k places ++ p ∷ [] = ap (λ n. take n places) (add-one k) ∙ take-suc_place places k p here in
    flushed-twice (is_place (take k places)) (λ n. p == n) es
    ∙ flushed-alike _ _ es (λ n. sym (ap (λ ps. is_place ps n) more ∙ is_place-push (take k places) p n))

-- what the limits speak of stays
pub own-count : (b : Bool) (e : Entry) → (if b then with_flush e else e).count ≡ e.count
own-count true e = refl
own-count false e = refl

own-data : (b : Bool) (e : Entry) → data_of (if b then with_flush e else e) ≡ data_of e
own-data true e = refl
own-data false e = refl

own-entry : (b : Bool) (sectors : ℕ) (e : Entry) → IsEntry sectors e → IsEntry sectors (if b then with_flush e else e)
own-entry true sectors e is = record {
  fits = is.fits;
  mark = λ m. let form = is.mark m in record { fua = form.fua; discard = form.discard; count = form.count; text = form.text };
  other = is.other;
  device = is.device;
  content = is.content;
  bytes = is.bytes;
}
own-entry false sectors e is = is

units-flushed : (chosen : ℕ → Bool) (es : List Entry) → units_of (flushed_at chosen es) ≡ units_of es
units-flushed chosen [] = refl
units-flushed chosen (e ∷ es) =
    let rest = units-flushed (λ n. chosen (suc n)) es in
    let own = own-count (chosen 0) e in
    let all = sum_by-cons (λ (x : Entry). x.count) (if chosen 0 then with_flush e else e) (flushed_at (λ n. chosen (suc n)) es) in
    let was = sum_by-cons (λ (x : Entry). x.count) e es in
    omega (arith, all, was, own, rest)

-- the entry at a place, before and after
pub entry-before : (chosen : ℕ → Bool) (es : List Entry) (i : ℕ) (x : Entry) → slice_get (flushed_at chosen es) i ≡ Some x
    → (e : Entry) × (slice_get es i ≡ Some e) × (x ≡ (if chosen i then with_flush e else e))
entry-before chosen es i x here =
    elim (slice_get_cases es i).1 [
      | inl a ↦ let both : Some x ≡ Some (if chosen i then with_flush a.0 else a.0) = sym here ∙ entry-flushed chosen es i a.0 a.2 in (a.0, a.2, cc)
      | inr past ↦
          let within = slice_get_within (flushed_at chosen es) i x here in
          let long = length-flushed chosen es in
          let beyond = past.0 in
          absurd (omega (arith, within, long, beyond))
    ]

data-flushed : (chosen : ℕ → Bool) (es : List Entry) (i : ℕ) → data_at (flushed_at chosen es) i ≡ data_at es i
data-flushed chosen [] i = refl
data-flushed chosen (e ∷ es) zero = own-data (chosen 0) e
data-flushed chosen (e ∷ es) (suc i) = data-flushed (λ n. chosen (suc n)) es i

place-flushed : (chosen : ℕ → Bool) (es : List Entry) (i : ℕ) → place (flushed_at chosen es) i ≡ place es i
place-flushed chosen es zero = refl
place-flushed chosen es (suc i) =
    let before = place-flushed chosen es i in
    let own = data-flushed chosen es i in
    omega (arith, before, own)

-- it is a log within the limits
pub log-flushed : (places : List ℕ) (log : LogValue) → IsLog log → IsLog (with_flushes places log)
log-flushed places log is =
    let es : List Entry = log.entries in
    let long = length-flushed (is_place places) es in
    let units = units-flushed (is_place places) es in
    let end : place (flushed_at (is_place places) es) (length (flushed_at (is_place places) es)) ≡ place es (length es) =
    ap (place (flushed_at (is_place places) es)) long ∙ place-flushed (is_place places) es (length es) in
    record {
      some = is.some;
      device = is.device;
      count = let few = is.count in omega (arith, long, few);
      units = let few = is.units in omega (arith, units, few);
      entries = λ i x here. let was = entry-before (is_place places) es i x here in rw was.2 (own-entry (is_place places i) log.sectors was.0 (is.entries i was.0 was.1));
      size = rw end is.size;
      held = is.held;
      initial = is.initial;
    }
