-- What a worker knows by footprints stays true of a run.
use Rattle.std.proofs.Common.{ℕ, zero, suc, ◌≡◌, ◌+◌, ◌<◌, ◌≤◌, ◌⊎◌, inl, inr, List, [], ◌∷◌, length, get_or, None, Some, slice_get, slice_set, refl, sym, ◌∙◌, ap, subst, length-set, arith}
use Rattle.std.specs.Prelude.{All, OnOk, is_ok, if◌then◌else◌, Result, Ok, Err}
use Rattle.std.specs.List.{slice_index_or}
use Rattle.std.proofs.lemmas.Bool.{cases_lt}
use Rattle.std.proofs.lemmas.Option.{same_Some, slice_get_within, slice_get_read, slice_get-get_or, get_or_from_slice_get}
use Rattle.choices.specs.Picked.{PickedValue, IsRanked}
use Rattle.checker.specs.Checker.{CheckerValue}
use Rattle.workers.specs.Failing.{Subject, image_count}
use Rattle.workers.specs.Reuse.{EntryValue, AreKnown}
use Rattle.workers.specs.Local.{ReuseValue, AreTrueAt, IsTrueOf}
use Rattle.workers.proofs.Telling.{none_known}

of_set : {X : Type 0} (xs : List X) (w : ℕ) (y : X) (i : ℕ) (x : X) → slice_get (slice_set xs w y) i ≡ Some x → (slice_get xs i ≡ Some x) ⊎ ((i ≡ w) × (x ≡ y))
of_set [] w y i x h = inl h
of_set (z ∷ zs) zero y zero x h = inr (refl, let back : Some y ≡ Some x = h in cc)
of_set (z ∷ zs) zero y (suc i) x h = inl h
of_set (z ∷ zs) (suc w) y zero x h = inl h
of_set (z ∷ zs) (suc w) y (suc i) x h = elim (of_set zs w y i x h) [
  | inl was ↦ inl was
  | inr it ↦ inr (ap suc it.0, it.1)
]

set_true : (s : Subject) (place number : ℕ) (checker : CheckerValue) (entries : List (List EntryValue)) (own : List EntryValue)
    → AreTrueAt s place entries → slice_get s.checkers number ≡ Some checker → AreKnown s place checker own → AreTrueAt s place (slice_set entries number own)
set_true s place number checker entries own at named known = record {
  enough = subst (λ n. length s.checkers ≤ n) (sym (length-set entries number own)) at.enough;
  known = λ i c es given there. elim (of_set entries number own i es there) [
    | inl was ↦ at.known i c es given was
    | inr it ↦
        let same : checker ≡ c = same_Some checker c (sym named ∙ ap (slice_get s.checkers) (sym it.0) ∙ given) in
        subst (λ (x : CheckerValue). AreKnown s place x es) same (subst (λ (x : List EntryValue). AreKnown s place checker x) (sym it.1) known)
  ];
}

-- where the entries of one checker change
pub found_true : (s : Subject) (r new : ReuseValue) (place number : ℕ) (checker : CheckerValue) (own : List EntryValue) → IsTrueOf s r → r.place ≡ Some place
    → new.place ≡ r.place → new.next ≡ r.next → new.entries ≡ slice_set r.entries number own → slice_get s.checkers number ≡ Some checker → AreKnown s place checker own
    → IsTrueOf s new
found_true s r new place number checker own is here same next set named known = record {
  entries = λ at e.
      let one : place ≡ at = same_Some place at (sym here ∙ sym same ∙ e) in
      subst (λ (es : List (List EntryValue)). AreTrueAt s at es) (sym set)
      (subst (λ n. AreTrueAt s n (slice_set r.entries number own)) one (set_true s place number checker r.entries own (is.entries place here) named known));
  next = λ image p e. is.next image p (sym next ∙ e);
}

-- where nothing is known of the cut at hand
pub off_true : (s : Subject) (r new : ReuseValue) → IsTrueOf s r → new.place ≡ None → new.next ≡ r.next → IsTrueOf s new
off_true s r new is none next = record {
  entries = λ at e. absurd (let bad : None ≡ Some at = sym none ∙ e in cc);
  next = λ image p e. is.next image p (sym next ∙ e);
}

empty_known : (s : Subject) (place : ℕ) (checker : CheckerValue) (entries : List (List EntryValue)) (i : ℕ) (own : List EntryValue)
    → All (λ (es : List EntryValue). es ≡ []) entries → slice_get entries i ≡ Some own → AreKnown s place checker own
empty_known s place checker entries i own all h =
    none_known s place checker own (sym (get_or_from_slice_get entries i own own h) ∙ all i own (slice_get_within entries i own h))

-- where all entries are empty
pub empty_true : (s : Subject) (r new : ReuseValue) → IsTrueOf s r → new.next ≡ r.next → All (λ (es : List EntryValue). es ≡ []) new.entries → length s.checkers ≤ length new.entries
    → IsTrueOf s new
empty_true s r new is next all enough = record {
  entries = λ at e. record { enough = enough; known = λ i c own named there. empty_known s at c new.entries i own all there };
  next = λ image p e. is.next image p (sym next ∙ e);
}

-- where the cut at hand is another one: there are entries for it, all empty, or none
pub begun_true : {X E : Type 0} (s : Subject) (r new : ReuseValue) (place : ℕ) (done : Result X E) → IsTrueOf s r → new.next ≡ r.next
    → new.place ≡ (if is_ok done then Some place else None) → OnOk done (All (λ (es : List EntryValue). es ≡ []) new.entries)
    → OnOk done (length s.checkers ≤ length new.entries) → IsTrueOf s new
begun_true s r new place (Ok x) is next at all enough = empty_true s r new is next all enough
begun_true s r new place (Err e) is next at all enough = off_true s r new is at next

-- where only the next image is another
pub next_true : (s : Subject) (r new : ReuseValue) → IsTrueOf s r → new.place ≡ r.place → new.entries ≡ r.entries
    → ((image : ℕ) (p : PickedValue) → new.next ≡ Some (image, p) → image < image_count s → IsRanked s.plan s.bound s.tears image p) → IsTrueOf s new
next_true s r new is place entries next = record {
  entries = λ at e. subst (λ (es : List (List EntryValue)). AreTrueAt s at es) (sym entries) (is.entries at (sym place ∙ e));
  next = next;
}

-- the entries of a checker of the run
pub known_here : (s : Subject) (r : ReuseValue) (place number : ℕ) (checker : CheckerValue) (items : List (List EntryValue)) (own : List EntryValue) → IsTrueOf s r
    → r.place ≡ Some place → items ≡ r.entries → slice_get s.checkers number ≡ Some checker → own ≡ slice_index_or items number own → AreKnown s place checker own
known_here s r place number checker items own is here same named read =
    let within : number < length s.checkers = slice_get_within s.checkers number checker named in
    let enough : length s.checkers ≤ length r.entries = (is.entries place here).enough in
    let long : length items ≡ length r.entries = ap length same in
    let there : slice_get items number ≡ Some own = slice_get_read items (length items) number own refl (omega (arith, within, enough, long)) read in
    (is.entries place here).known number checker own named (subst (λ (es : List (List EntryValue)). slice_get es number ≡ Some own) same there)

-- of some lists the first ones are empty
abbrev pub AreClear : List (List EntryValue) → ℕ → Type 0
AreClear es n = (k : ℕ) (own : List EntryValue) → k < n → slice_get es k ≡ Some own → own ≡ []

pub none_clear : (es : List (List EntryValue)) → AreClear es 0
none_clear es = λ k own lt there. absurd (omega (arith, lt))

pub one_clear : (es : List (List EntryValue)) (n : ℕ) (new : List EntryValue) → AreClear es n → new ≡ [] → AreClear (slice_set es n new) (n + 1)
one_clear es n new clear none = λ k own lt there. elim (of_set es n new k own there) [
  | inl was ↦ elim (cases_lt k n) [
    | inl less ↦ clear k own less was
    | inr more ↦
        let same : k ≡ n = omega (arith, lt, more) in
        let within : n < length es = subst (λ i. i < length es) same (slice_get_within es k own was) in
        let here : slice_get (slice_set es n new) k ≡ Some new = subst (λ i. slice_get (slice_set es n new) i ≡ Some new) (sym same) (set_there es n new within) in
        same_Some own new (sym there ∙ here) ∙ none
  ]
  | inr it ↦ it.1 ∙ none
]
  where
    set_there : {X : Type 0} (xs : List X) (i : ℕ) (y : X) → i < length xs → slice_get (slice_set xs i y) i ≡ Some y
    set_there [] i y lt = absurd (omega (arith, lt))
    set_there (x ∷ xs) zero y lt = refl
    set_there (x ∷ xs) (suc i) y lt = set_there xs i y (omega (arith, lt))

pub all_clear : (es : List (List EntryValue)) (n : ℕ) → length es ≤ n → AreClear es n → All (λ (own : List EntryValue). own ≡ []) es
all_clear es n long clear = λ k d lt. clear k (get_or es k d) (omega (arith, lt, long)) (slice_get-get_or es k d lt)
