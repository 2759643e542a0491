-- What the totals of a text of records say: of its status, and of its last word.
use Rattle.std.proofs.Common.{ℕ, zero, suc, ◌≡◌, ◌+◌, ◌<◌, ◌==◌, ◌%◌, ◌^◌, ◌&&◌, not, Bool, true, false, if◌then◌else◌, List, [], ◌∷◌, ◌++◌, length, sum_by, slice_get, Option, None, Some, codes, refl, sym, ◌∙◌, ap, subst, arith, append_assoc}
use Rattle.std.specs.Fmt.{decimal}
use Rattle.std.proofs.lemmas.Bool.{false≢true}
use Rattle.std.proofs.lemmas.Bool.Decides.{nat_tests}
use Rattle.std.proofs.lemmas.Fmt.{decimal_by_steps}
use Rattle.std.proofs.lemmas.Int.{clamps}
use Rattle.std.proofs.lemmas.List.{same_from_push}
use Rattle.std.proofs.lemmas.List.Sums.{sum_by-cons}
use Rattle.case_text.specs.Text.{in_word, counts_text, beyond_text, extent_words}
use Rattle.known.specs.declared.found.KnownAt.{KnownAt}
use Rattle.known.specs.Leaves.{is_complete}
use Rattle.known_runs.specs.Totals.{count_stopped, is_told, is_whole, status_of, totals_of, totals_text, untold_text, whole_word}
use Rattle.commands.specs.Records.{EndsIn}

pub both_true : (a b : Bool) → (a && b) ≡ true → (a ≡ true) × (b ≡ true)
both_true true b is = (refl, is)
both_true false b is = absurd (false≢true is)

zero_of : (n : ℕ) → (n == 0) ≡ true → n ≡ 0
zero_of n is = grind (arith, nat_tests, is)

-- WHERE NOTHING IS LEFT

-- each of what is counted is nothing where all of it is
none_of_sum : (count : KnownAt → ℕ) (fs : List KnownAt) (i : ℕ) (f : KnownAt) → sum_by count fs ≡ 0 → slice_get fs i ≡ Some f → count f ≡ 0
none_of_sum count [] i f none there = absurd (let bad : ◌≡◌ {A = Option KnownAt} None (Some f) = there in cc)
none_of_sum count (g ∷ fs) zero f none there =
    let both : Some g ≡ Some f = there in
    let same : g ≡ f = cc in
    let all = sum_by-cons count g fs in
    let own : count g ≡ 0 = omega (arith, none, all) in
    subst (λ (x : KnownAt). count x ≡ 0) same own
none_of_sum count (g ∷ fs) (suc i) f none there = let all = sum_by-cons count g fs in none_of_sum count fs i f (omega (arith, none, all)) there

-- and all of it is nothing where each is
sum_of_none : (count : KnownAt → ℕ) (fs : List KnownAt) → ((i : ℕ) (f : KnownAt) → slice_get fs i ≡ Some f → count f ≡ 0) → sum_by count fs ≡ 0
sum_of_none count [] none = refl
sum_of_none count (g ∷ fs) none =
    let all = sum_by-cons count g fs in
    let own : count g ≡ 0 = none 0 g refl in
    let rest : sum_by count fs ≡ 0 = sum_of_none count fs (λ i f there. none (suc i) f there) in
    omega (arith, all, own, rest)

none_in_word : (n : ℕ) → in_word n ≡ 0 → n ≡ 0
none_in_word n none = omega (arith, none)

nothing_in_word : (n : ℕ) → n ≡ 0 → in_word n ≡ 0
nothing_in_word n none = omega (arith, none)

-- nothing is open, left out or pending
record AreNone (fs : List KnownAt) : Type 0 where
  pub torn : (totals_of fs).torn ≡ 0
  pub lost : (totals_of fs).lost ≡ 0
  pub untold : (totals_of fs).untold ≡ 0
  pub stopped : (totals_of fs).stopped ≡ 0

abbrev are_within : List KnownAt → Bool
are_within fs = ((totals_of fs).torn == 0) && ((totals_of fs).lost == 0)

none_left : (fs : List KnownAt) → is_whole (totals_of fs) ≡ true → AreNone fs
none_left fs whole =
    let parts = both_true (is_told (totals_of fs)) (are_within fs) whole in
    let told = both_true ((totals_of fs).untold == 0) ((totals_of fs).stopped == 0) parts.0 in
    let left = both_true ((totals_of fs).torn == 0) ((totals_of fs).lost == 0) parts.1 in
    record { torn = zero_of (totals_of fs).torn left.0; lost = zero_of (totals_of fs).lost left.1; untold = zero_of (totals_of fs).untold told.0; stopped = zero_of (totals_of fs).stopped told.1 }

whole_by : (untold stopped torn lost : ℕ) → untold ≡ 0 → stopped ≡ 0 → torn ≡ 0 → lost ≡ 0 → (((untold == 0) && (stopped == 0)) && ((torn == 0) && (lost == 0))) ≡ true
whole_by untold stopped torn lost a b c d = λ i. ((a i == 0) && (b i == 0)) && ((c i == 0) && (d i == 0))

not_stopped : (b : Bool) → ◌≡◌ {A = ℕ} (if b then 1 else 0) 0 → b ≡ false
not_stopped true none = absurd (omega (arith, none))
not_stopped false none = refl

none_stopped : (b : Bool) → not b ≡ true → ◌≡◌ {A = ℕ} (if b then 1 else 0) 0
none_stopped true is = absurd (false≢true is)
none_stopped false is = refl

complete_by : (opened torn lost : ℕ) (stopped : Bool) → opened ≡ 0 → stopped ≡ false → torn ≡ 0 → lost ≡ 0 → ((opened == 0) && (not stopped && ((torn == 0) && (lost == 0)))) ≡ true
complete_by opened torn lost stopped a b c d = λ i. (a i == 0) && (not (b i) && ((c i == 0) && (d i == 0)))

-- where the totals are whole, each cut is complete
pub complete_at : (fs : List KnownAt) → is_whole (totals_of fs) ≡ true → (i : ℕ) (f : KnownAt) → slice_get fs i ≡ Some f → is_complete f ≡ true
unfolding totals_of
complete_at fs whole i f there =
    let none = none_left fs whole in
    complete_by (length f.open_cases.items) f.torn_beyond f.lost_beyond f.stopped
    (none_of_sum (λ (g : KnownAt). length g.open_cases.items) fs i f (none_in_word _ none.untold) there)
    (not_stopped f.stopped (none_of_sum count_stopped fs i f (none_in_word _ none.stopped) there))
    (none_of_sum (λ (g : KnownAt). g.torn_beyond) fs i f (none_in_word _ none.torn) there)
    (none_of_sum (λ (g : KnownAt). g.lost_beyond) fs i f (none_in_word _ none.lost) there)

-- what a complete cut has nothing of
record IsNone (f : KnownAt) : Type 0 where
  pub opened : length f.open_cases.items ≡ 0
  pub stopped : count_stopped f ≡ 0
  pub torn : f.torn_beyond ≡ 0
  pub lost : f.lost_beyond ≡ 0

none_at : (f : KnownAt) → is_complete f ≡ true → IsNone f
none_at f is =
    let parts = both_true (length f.open_cases.items == 0) (not f.stopped && ((f.torn_beyond == 0) && (f.lost_beyond == 0))) is in
    let rest = both_true (not f.stopped) ((f.torn_beyond == 0) && (f.lost_beyond == 0)) parts.1 in
    let left = both_true (f.torn_beyond == 0) (f.lost_beyond == 0) rest.1 in
    record { opened = zero_of (length f.open_cases.items) parts.0; stopped = none_stopped f.stopped rest.0; torn = zero_of f.torn_beyond left.0; lost = zero_of f.lost_beyond left.1 }

-- and where each is, they are whole
pub whole_of : (fs : List KnownAt) → ((i : ℕ) (f : KnownAt) → slice_get fs i ≡ Some f → is_complete f ≡ true) → is_whole (totals_of fs) ≡ true
unfolding totals_of
whole_of fs complete =
    whole_by (totals_of fs).untold (totals_of fs).stopped (totals_of fs).torn (totals_of fs).lost
    (nothing_in_word _ (sum_of_none (λ (f : KnownAt). length f.open_cases.items) fs (λ i f there. (none_at f (complete i f there)).opened)))
    (nothing_in_word _ (sum_of_none count_stopped fs (λ i f there. (none_at f (complete i f there)).stopped)))
    (nothing_in_word _ (sum_of_none (λ (f : KnownAt). f.torn_beyond) fs (λ i f there. (none_at f (complete i f there)).torn)))
    (nothing_in_word _ (sum_of_none (λ (f : KnownAt). f.lost_beyond) fs (λ i f there. (none_at f (complete i f there)).lost)))

-- THE STATUS

-- with status 0 nothing fails, and nothing is open, left out or pending
pub record AreClean (fs : List KnownAt) : Type 0 where
  pub failing : (totals_of fs).failing ≡ 0
  pub whole : is_whole (totals_of fs) ≡ true

pub zero_is_clean : (fs : List KnownAt) → 0 ≡ status_of (totals_of fs) → AreClean fs
zero_is_clean fs is = by ((totals_of fs).failing == 0) (is_whole (totals_of fs)) refl refl is
  where
    by : (a b : Bool) → ((totals_of fs).failing == 0) ≡ a → is_whole (totals_of fs) ≡ b → ◌≡◌ {A = ℕ} 0 (if not a then 1 else if b then 0 else 3) → AreClean fs
    by true true none whole status = record { failing = zero_of (totals_of fs).failing none; whole = whole }
    by true false none whole status = absurd (omega (arith, status))
    by false b none whole status = absurd (omega (arith, status))

-- so at each cut
pub none_failing : (fs : List KnownAt) → AreClean fs → (i : ℕ) (f : KnownAt) → slice_get fs i ≡ Some f → length f.failing.items ≡ 0
unfolding totals_of
none_failing fs clean i f there = none_of_sum (λ (g : KnownAt). length g.failing.items) fs i f (none_in_word _ clean.failing) there

-- at each of some cuts something was found
pub found_there : (cuts : List ℕ) (fs : List KnownAt) (i k : ℕ) → length fs ≡ length cuts → slice_get cuts i ≡ Some k → (f : KnownAt) × (slice_get fs i ≡ Some f)
found_there [] fs i k long own = absurd (let bad : ◌≡◌ {A = Option ℕ} None (Some k) = own in cc)
found_there (c ∷ cuts) [] i k long own = absurd (omega (arith, long))
found_there (c ∷ cuts) (f ∷ fs) zero k long own = (f, refl)
found_there (c ∷ cuts) (f ∷ fs) (suc i) k long own = found_there cuts fs i k (omega (arith, long)) own

-- THE LAST WORD

-- a number ends in a digit
record EndsInDigit (ds : List ℕ) : Type 0 where
  pub front : List ℕ
  pub digit : ℕ
  pub low : digit < 58
  pub is : ds ≡ front ++ digit ∷ []

ends_in_digit : (n : ℕ) → n < 2 ^ 64 → EndsInDigit (decimal n)
ends_in_digit =
    decimal_by_steps (λ m ds. EndsInDigit ds) (λ m low. record { front = []; digit = 48 + m; low = omega (arith, low); is = refl })
    (λ m ds low before. record { front = ds; digit = 48 + m % 10; low = omega arith; is = refl })

-- The last word of a text, by what decides it: nothing, or which cuts nothing is left of. A digit stands before it.
abbrev last_word : Bool → Bool → Bool → List ℕ
last_word told none all = if told then (if none then extent_words all else []) else []

record HasLast (bytes word : List ℕ) : Type 0 where
  pub front : List ℕ
  pub digit : ℕ
  pub low : digit < 58
  pub is : bytes ≡ (front ++ digit ∷ []) ++ (word ++ 10 ∷ [])

stopped_fits : (fs : List KnownAt) → (totals_of fs).stopped < 2 ^ 64
unfolding totals_of
stopped_fits fs = omega (arith, clamps)

regrouped : (a b c d e f g w n : List ℕ) → a ++ (b ++ c ++ (d ++ e ++ f ++ g) ++ w ++ n) ≡ a ++ (b ++ c ++ (d ++ e ++ f)) ++ g ++ (w ++ n)
regrouped a b c d e f g w n = simp append_assoc

has_last : (before bytes : List ℕ) (all : Bool) (cuts : ℕ) (fs : List KnownAt) → bytes ≡ before ++ totals_text all cuts (totals_of fs)
    → HasLast bytes (last_word (is_told (totals_of fs)) (are_within fs) all)
unfolding totals_text untold_text
has_last before bytes all cuts fs is = record { front = front ++ end.front; digit = end.digit; low = end.low; is = is ∙ grouped ∙ to_digit }
  where
    word : List ℕ
    word = whole_word all (totals_of fs)

    counts : List ℕ
    counts = counts_text cuts (totals_of fs).told (totals_of fs).failing

    beyond : List ℕ
    beyond = beyond_text (totals_of fs).torn (totals_of fs).lost

    front : List ℕ
    front = before ++ (counts ++ beyond ++ (codes " open " ++ decimal (totals_of fs).untold ++ codes " stopped "))

    end : EndsInDigit (decimal (totals_of fs).stopped)
    end = ends_in_digit (totals_of fs).stopped (stopped_fits fs)

    grouped : before ++ totals_text all cuts (totals_of fs) ≡ front ++ decimal (totals_of fs).stopped ++ (word ++ 10 ∷ [])
    grouped = regrouped before counts beyond (codes " open ") (decimal (totals_of fs).untold) (codes " stopped ") (decimal (totals_of fs).stopped) word (10 ∷ [])

    regroup : front ++ decimal (totals_of fs).stopped ≡ front ++ end.front ++ end.digit ∷ []
    regroup = ap (λ ds. front ++ ds) end.is ∙ sym (append_assoc front end.front (end.digit ∷ []))

    to_digit : front ++ decimal (totals_of fs).stopped ++ (word ++ 10 ∷ []) ≡ (front ++ end.front ++ end.digit ∷ []) ++ (word ++ 10 ∷ [])
    to_digit = ap (λ xs. xs ++ (word ++ 10 ∷ [])) regroup

-- two texts of the same bytes have the same byte before their last
same_before : (bytes f g : List ℕ) (x y : ℕ) → bytes ≡ (f ++ x ∷ []) ++ 10 ∷ [] → bytes ≡ (g ++ y ∷ []) ++ 10 ∷ [] → x ≡ y
same_before bytes f g x y one other = (same_from_push f g x y (same_from_push (f ++ x ∷ []) (g ++ y ∷ []) 10 10 (sym one ∙ other)).0).1

-- a text that ends in such a word has the last letter of the word there
ends_so : (bytes front pre : List ℕ) (x : ℕ) → bytes ≡ front ++ (pre ++ x ∷ 10 ∷ []) → bytes ≡ ((front ++ pre) ++ x ∷ []) ++ 10 ∷ []
ends_so bytes front pre x is = is ∙ sym (append_assoc (front ++ pre) (x ∷ []) (10 ∷ []) ∙ append_assoc front pre (x ∷ 10 ∷ []))

pub record SaysWord (bytes : List ℕ) (all : Bool) (fs : List KnownAt) : Type 0 where
  pub every : EndsIn bytes (codes " complete\n") → (is_whole (totals_of fs) ≡ true) × (all ≡ true)
  pub these : EndsIn bytes (codes " of these cuts\n") → is_whole (totals_of fs) ≡ true
  pub said : is_whole (totals_of fs) ≡ true → EndsIn bytes (extent_words all ++ codes "\n")

pub says_word : (before bytes : List ℕ) (all : Bool) (cuts : ℕ) (fs : List KnownAt) → bytes ≡ before ++ totals_text all cuts (totals_of fs) → SaysWord bytes all fs
says_word before bytes all cuts fs is = record {
  every = λ ends. every (is_told (totals_of fs)) (are_within fs) all refl refl refl last ends;
  these = λ ends. these (is_told (totals_of fs)) (are_within fs) all refl refl last ends;
  said = λ whole. (let parts = both_true (is_told (totals_of fs)) (are_within fs) whole in (last.front ++ last.digit ∷ [], last.is ∙ (λ i. (last.front ++ last.digit ∷ []) ++ (last_word (parts.0 i) (parts.1 i) all ++ 10 ∷ []))));
}
  where
    last : HasLast bytes (last_word (is_told (totals_of fs)) (are_within fs) all)
    last = has_last before bytes all cuts fs is

    -- a digit is no letter
    no_digit : HasLast bytes [] → (front pre : List ℕ) (x : ℕ) → 57 < x → bytes ≡ front ++ (pre ++ x ∷ 10 ∷ []) → ⊥
    no_digit it front pre x high ends =
        let same = same_before bytes it.front (front ++ pre) it.digit x it.is (ends_so bytes front pre x ends) in
        let low = it.low in
        omega (arith, same, low, high)

    whole : (told none : Bool) → is_told (totals_of fs) ≡ told → are_within fs ≡ none → told ≡ true → none ≡ true → is_whole (totals_of fs) ≡ true
    whole told none one other a b = λ i. (one ∙ a) i && (other ∙ b) i

    every : (told none each : Bool) → is_told (totals_of fs) ≡ told → are_within fs ≡ none → all ≡ each → HasLast bytes (last_word told none each) → EndsIn bytes (codes " complete\n")
        → (is_whole (totals_of fs) ≡ true) × (all ≡ true)
    every true true true one other is it ends = (whole true true one other refl refl, is)
    every true true false one other is it ends =
        absurd (let same = same_before bytes ((it.front ++ it.digit ∷ []) ++ codes " of these cut") (ends.0 ++ codes " complet") 115 101
        (ends_so bytes (it.front ++ it.digit ∷ []) (codes " of these cut") 115 it.is) (ends_so bytes ends.0 (codes " complet") 101 ends.1) in omega (arith, same))
    every true false each one other is it ends = absurd (no_digit it ends.0 (codes " complet") 101 (omega arith) ends.1)
    every false none each one other is it ends = absurd (no_digit it ends.0 (codes " complet") 101 (omega arith) ends.1)

    these : (told none each : Bool) → is_told (totals_of fs) ≡ told → are_within fs ≡ none → HasLast bytes (last_word told none each) → EndsIn bytes (codes " of these cuts\n") → is_whole (totals_of fs) ≡ true
    these true true each one other it ends = whole true true one other refl refl
    these true false each one other it ends = absurd (no_digit it ends.0 (codes " of these cut") 115 (omega arith) ends.1)
    these false none each one other it ends = absurd (no_digit it ends.0 (codes " of these cut") 115 (omega arith) ends.1)
