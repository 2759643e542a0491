-- Each failing image stands once.
use Rattle.std.proofs.Common.{ℕ, zero, suc, ◌≡◌, ◌+◌, ◌<◌, ◌≤◌, ◌==◌, Bool, true, false, not, nat_lt, cond, List, [], ◌∷◌, ◌++◌, length, map, filter, slice_get, None, Some, refl, sym, ◌∙◌, ap, subst, inl, inr, arith}
use Rattle.std.specs.List.{range_with_len, sum_by}
use Rattle.std.proofs.lemmas.Bool.{cases_lt}
use Rattle.std.proofs.lemmas.Bool.Decides.{nat_tests}
use Rattle.std.proofs.lemmas.List.{map-append}
use Rattle.std.proofs.lemmas.List.Sums.{sum_by-cons, sum_by-append}
use Rattle.std.proofs.lemmas.Option.{slice_get_within, slice_get-get_or}
use Rattle.base.proofs.Lists.{range_with_len-push}
use Rattle.epochs.specs.Cuts.{cuts_of}
use Rattle.choices.specs.Sums.{StartsValue}
use Rattle.choices.proofs.Plans.{before_none, before_more, before_all}
use Rattle.losses.specs.Folded.{StandsUnder}
use Rattle.losses.specs.declared.why.group.FailingGroup.{FailingGroup}
use Rattle.losses.specs.declared.why.cut.CutFailures.{CutFailures}
use Rattle.losses.specs.CountedGroups.{times, group_at, has_images, groups_of}
use Rattle.losses.specs.Failures.{is_between, first_at, IsCut}
use Rattle.losses.specs.GroupLaws.{IsGroupOf, HasGroup, HasExample, EachStandsOnce, AllStand}
use Rattle.losses.proofs.Sames.{same_tells}

-- how many numbers pass a test, with one more in front
count_cons : (p : ℕ → Bool) (x : ℕ) (xs : List ℕ) → length (filter p (x ∷ xs)) ≡ cond (p x) 1 0 + length (filter p xs)
count_cons p x xs = by_test (p x)
  where
    by_test : (b : Bool) → length (cond b (x ∷ filter p xs) (filter p xs)) ≡ cond b 1 0 + length (filter p xs)
    by_test true = omega arith
    by_test false = omega arith

one_if : (b : Bool) → b ≡ true → ◌≡◌ {A = ℕ} (cond b 1 0) 1
one_if b e = rw e refl

none_if : (b : Bool) → b ≡ false → ◌≡◌ {A = ℕ} (cond b 1 0) 0
none_if b e = rw e refl

-- how many are below a number, and below the next
below_more : (n : ℕ) (xs : List ℕ) → length (filter (λ x. nat_lt x (suc n)) xs) ≡ length (filter (λ x. nat_lt x n) xs) + times n xs
below_more n [] = refl
below_more n (x ∷ xs) =
    let a = count_cons (λ y. nat_lt y (suc n)) x xs in
    let b = count_cons (λ y. nat_lt y n) x xs in
    let c = count_cons (λ y. y == n) x xs in
    let rest = below_more n xs in
    elim (cases_lt x n) [
      | inl lt ↦
          let d = one_if (nat_lt x (suc n)) (grind (arith, nat_tests, lt)) in
          let e = one_if (nat_lt x n) (grind (arith, nat_tests, lt)) in
          let f = none_if (x == n) (grind (arith, nat_tests, lt)) in
          omega (arith, a, b, c, d, e, f, rest)
      | inr ge ↦ elim (cases_lt n x) [
        | inl gt ↦
            let d = none_if (nat_lt x (suc n)) (grind (arith, nat_tests, gt)) in
            let e = none_if (nat_lt x n) (grind (arith, nat_tests, gt)) in
            let f = none_if (x == n) (grind (arith, nat_tests, gt)) in
            omega (arith, a, b, c, d, e, f, rest)
        | inr le ↦
            let d = one_if (nat_lt x (suc n)) (grind (arith, nat_tests, le)) in
            let e = none_if (nat_lt x n) (grind (arith, nat_tests, ge)) in
            let f = one_if (x == n) (grind (arith, nat_tests, le, ge)) in
            omega (arith, a, b, c, d, e, f, rest)
      ]
    ]

below_none : (xs : List ℕ) → length (filter (λ x. nat_lt x 0) xs) ≡ 0
below_none [] = refl
below_none (x ∷ xs) =
    let a = count_cons (λ y. nat_lt y 0) x xs in
    let b = none_if (nat_lt x 0) (grind (arith, nat_tests)) in
    let rest = below_none xs in
    omega (arith, a, b, rest)

all_below : (n : ℕ) (xs : List ℕ) → ((i x : ℕ) → slice_get xs i ≡ Some x → x < n) → length (filter (λ x. nat_lt x n) xs) ≡ length xs
all_below n [] below = refl
all_below n (x ∷ xs) below =
    let a = count_cons (λ y. nat_lt y n) x xs in
    let lt = below 0 x refl in
    let b = one_if (nat_lt x n) (grind (arith, nat_tests, lt)) in
    let rest = all_below n xs (λ i y at. below (suc i) y at) in
    omega (arith, a, b, rest)

-- the numbers of groups without images make no difference
sum_of_those : (gs : List FailingGroup) → sum_by (λ (g : FailingGroup). g.failing) (filter has_images gs) ≡ sum_by (λ (g : FailingGroup). g.failing) gs
sum_of_those [] = refl
sum_of_those (g ∷ gs) = by_test (sum_of_those gs) (g.failing == 0) refl
  where
    by_test : sum_by (λ (h : FailingGroup). h.failing) (filter has_images gs) ≡ sum_by (λ (h : FailingGroup). h.failing) gs → (b : Bool) → (g.failing == 0) ≡ b
        → sum_by (λ (h : FailingGroup). h.failing) (cond (not b) (g ∷ filter has_images gs) (filter has_images gs)) ≡ sum_by (λ (h : FailingGroup). h.failing) (g ∷ gs)
    by_test rest true e =
        let none : g.failing ≡ 0 = grind (arith, nat_tests, e) in
        let all = sum_by-cons (λ (h : FailingGroup). h.failing) g gs in
        omega (arith, none, rest, all)
    by_test rest false e =
        let all = sum_by-cons (λ (h : FailingGroup). h.failing) g gs in
        let those = sum_by-cons (λ (h : FailingGroup). h.failing) g (filter has_images gs) in
        omega (arith, rest, all, those)

-- the groups of the first places
first_sum : (outcomes : List (List ℕ)) (begin : ℕ) (images places : List ℕ) (n : ℕ)
    → sum_by (λ (g : FailingGroup). g.failing) (map (group_at outcomes begin images places) (range_with_len 0 n)) ≡ length (filter (λ x. nat_lt x n) places)
first_sum outcomes begin images places zero = sym (below_none places)
first_sum outcomes begin images places (suc n) =
    let f : ℕ → FailingGroup = group_at outcomes begin images places in
    let rest = first_sum outcomes begin images places n in
    let more = below_more n places in
    let last : 0 + n ≡ n = omega arith in
    let ranges = range_with_len-push 0 n ∙ ap (λ k. range_with_len 0 n ++ k ∷ []) last in
    let parts = ap (λ ks. sum_by (λ (g : FailingGroup). g.failing) (map f ks)) ranges ∙ ap (λ gs. sum_by (λ (g : FailingGroup). g.failing) gs) (map-append f (range_with_len 0 n) (n ∷ [])) in
    let both = sum_by-append (λ (g : FailingGroup). g.failing) (map f (range_with_len 0 n)) (f n ∷ []) in
    let own = sum_by-cons (λ (g : FailingGroup). g.failing) (f n) [] in
    parts ∙ omega (arith, rest, more, both, own)

-- what is left of groups stands among them
pub left_of_groups : (gs : List FailingGroup) (i : ℕ) (g : FailingGroup) → slice_get (filter has_images gs) i ≡ Some g → (k : ℕ) × (slice_get gs k ≡ Some g) × (has_images g ≡ true)
left_of_groups [] i g at = absurd (let bad : None ≡ Some g = at in cc)
left_of_groups (h ∷ gs) i g at = by_test (λ j there. left_of_groups gs j g there) (has_images h) refl i at
  where
    by_test : ((j : ℕ) → slice_get (filter has_images gs) j ≡ Some g → (k : ℕ) × (slice_get gs k ≡ Some g) × (has_images g ≡ true)) → (b : Bool) → has_images h ≡ b
        → (i : ℕ) → slice_get (cond b (h ∷ filter has_images gs) (filter has_images gs)) i ≡ Some g → (k : ℕ) × (slice_get (h ∷ gs) k ≡ Some g) × (has_images g ≡ true)
    by_test inner true e zero at = let same : Some h ≡ Some g = at in let is : h ≡ g = cc in (0, same, ap has_images (sym is) ∙ e)
    by_test inner true e (suc i) at = let was = inner i at in (suc was.0, was.1, was.2)
    by_test inner false e i at = let was = inner i at in (suc was.0, was.1, was.2)

-- an element of what is made of a range
pub of_range : (f : ℕ → FailingGroup) (a n i : ℕ) (g : FailingGroup) → slice_get (map f (range_with_len a n)) i ≡ Some g → (k : ℕ) × (k < a + n) × (g ≡ f k)
of_range f a zero i g at = absurd (let bad : None ≡ Some g = at in cc)
of_range f a (suc n) zero g at = let same : Some (f a) ≡ Some g = at in (a, omega arith, cc)
of_range f a (suc n) (suc i) g at = let was = of_range f (a + 1) n i g at in let lt = was.1 in (was.0, omega (arith, lt), was.2)

-- a number that stands in a list has a place there
some_place : (k : ℕ) (xs : List ℕ) → 0 < times k xs → (i : ℕ) × (slice_get xs i ≡ Some k)
some_place k [] lt = absurd (omega (arith, lt))
some_place k (x ∷ xs) lt = by_test (λ less. some_place k xs less) (x == k) refl lt
  where
    by_test : (0 < times k xs → (i : ℕ) × (slice_get xs i ≡ Some k)) → (b : Bool) → (x == k) ≡ b
        → 0 < length (cond b (x ∷ filter (λ (n : ℕ). n == k) xs) (filter (λ (n : ℕ). n == k) xs)) → (i : ℕ) × (slice_get (x ∷ xs) i ≡ Some k)
    by_test inner true e lt = let same : x ≡ k = grind (arith, nat_tests, e) in (0, ap (λ n. Some n) same)
    by_test inner false e lt = let was = inner lt in (suc was.0, was.1)

positive : (n : ℕ) → not (n == 0) ≡ true → 0 < n
positive zero h = absurd (let bad : false ≡ true = h in cc)
positive (suc n) h = omega arith

-- a group with images stands among those that are left
stands_left : (gs : List FailingGroup) (k : ℕ) (g : FailingGroup) → slice_get gs k ≡ Some g → has_images g ≡ true → (number : ℕ) × (slice_get (filter has_images gs) number ≡ Some g)
stands_left [] k g at has = absurd (let bad : None ≡ Some g = at in cc)
stands_left (h ∷ gs) zero g at has =
    let same : Some h ≡ Some g = at in
    let is : h ≡ g = cc in
    let test : has_images h ≡ true = ap has_images is ∙ has in
    (0, ap (λ (b : Bool). slice_get (cond b (h ∷ filter has_images gs) (filter has_images gs)) 0) test ∙ same)
stands_left (h ∷ gs) (suc k) g at has = by_test (has_images h) (stands_left gs k g at has)
  where
    by_test : (b : Bool) → ((number : ℕ) × (slice_get (filter has_images gs) number ≡ Some g))
        → (number : ℕ) × (slice_get (cond b (h ∷ filter has_images gs) (filter has_images gs)) number ≡ Some g)
    by_test true was = (suc was.0, was.1)
    by_test false was = was

-- what is made of a range, at a place
made_at : (f : ℕ → FailingGroup) (a n k : ℕ) → k < n → slice_get (map f (range_with_len a n)) k ≡ Some (f (a + k))
made_at f a zero k lt = absurd (omega (arith, lt))
made_at f a (suc n) zero lt = let same : a ≡ a + 0 = omega arith in ap (λ (i : ℕ). Some (f i)) same
made_at f a (suc n) (suc k) lt =
    let same : a + 1 + k ≡ a + suc k = omega arith in
    made_at f (a + 1) n k (omega (arith, lt)) ∙ ap (λ (i : ℕ). Some (f i)) same

-- what stands in a list stands there at least once
stands_there : (k : ℕ) (xs : List ℕ) (i : ℕ) → slice_get xs i ≡ Some k → 0 < times k xs
stands_there k [] i at = absurd (let bad : None ≡ Some k = at in cc)
stands_there k (x ∷ xs) zero at =
    let same : Some x ≡ Some k = at in
    let is : x ≡ k = cc in
    let one = one_if (x == k) (grind (arith, nat_tests, is)) in
    let all = count_cons (λ (n : ℕ). n == k) x xs in
    omega (arith, one, all)
stands_there k (x ∷ xs) (suc i) at =
    let rest = stands_there k xs i at in
    let all = count_cons (λ (n : ℕ). n == k) x xs in
    omega (arith, rest, all)

not_none : (n : ℕ) → 0 < n → not (n == 0) ≡ true
not_none n lt = grind (arith, nat_tests, lt)

-- the group at a place is that of the example there
group_is : (outcomes : List (List ℕ)) (begin : ℕ) (images places : List ℕ) (k : ℕ) → k < length images
    → IsGroupOf outcomes begin images places k (group_at outcomes begin images places k)
group_is outcomes begin images places k lt =
    record {
      image = slice_get-get_or images k 0 lt;
      line = refl;
      failing = refl;
      same = same_tells outcomes begin places k;
    }

has_group : (outcomes : List (List ℕ)) (begin : ℕ) (images places : List ℕ) (groups : List FailingGroup) → groups ≡ groups_of outcomes begin images places
    → (i k : ℕ) → slice_get places i ≡ Some k → k < length images → HasGroup outcomes begin images places groups k
has_group outcomes begin images places groups listed i k at lt =
    let f : ℕ → FailingGroup = group_at outcomes begin images places in
    let zero_first : 0 + k ≡ k = omega arith in
    let made : slice_get (map f (range_with_len 0 (length images))) k ≡ Some (f k) = made_at f 0 (length images) k lt ∙ ap (λ (j : ℕ). Some (f j)) zero_first in
    let left = stands_left (map f (range_with_len 0 (length images))) k (f k) made (not_none (times k places) (stands_there k places i at)) in
    record {
      number = left.0;
      group = f k;
      there = ap (λ (gs : List FailingGroup). slice_get gs left.0) listed ∙ left.1;
      is_of = group_is outcomes begin images places k lt;
    }

has_example : (outcomes : List (List ℕ)) (begin : ℕ) (images : List ℕ) (cs : List (List ℕ)) (places : List ℕ) (groups : List FailingGroup)
    → groups ≡ groups_of outcomes begin images places → ((i k : ℕ) → slice_get places i ≡ Some k → StandsUnder cs i k)
    → (number : ℕ) (g : FailingGroup) → slice_get groups number ≡ Some g → HasExample outcomes begin images places cs g
has_example outcomes begin images cs places groups listed each number g at =
    let f : ℕ → FailingGroup = group_at outcomes begin images places in
    let left = left_of_groups (map f (range_with_len 0 (length images))) number g (ap (λ (gs : List FailingGroup). slice_get gs number) (sym listed) ∙ at) in
    let made = of_range f 0 (length images) left.0 g left.1 in
    let k : ℕ = made.0 in
    let within : k < length images = let lt = made.1 in omega (arith, lt) in
    let count : g.failing ≡ times k places = ap (λ (h : FailingGroup). h.failing) made.2 in
    let has = left.2 in
    let some : 0 < g.failing = positive g.failing has in
    let place = some_place k places (omega (arith, some, count)) in
    record {
      place = k;
      smallest = (each place.0 k place.1).example.smallest;
      is_of = subst (λ (h : FailingGroup). IsGroupOf outcomes begin images places k h) (sym made.2) (group_is outcomes begin images places k within);
    }

-- an example is one of the choices
example_within : (cs : List (List ℕ)) (i k : ℕ) → StandsUnder cs i k → k < length cs
example_within cs i k under = let alike = under.example.is_alike in slice_get_within cs k alike.example alike.example_there

pub each_stands_once : EachStandsOnce
each_stands_once outcomes begin images cs groups are long is =
    let few : (i x : ℕ) → slice_get is.places i ≡ Some x → x < length images = λ i x at.
    let within = example_within cs i x (is.folded.each i x at) in
    omega (arith, within, long) in
    let sums = ap (λ gs. sum_by (λ (g : FailingGroup). g.failing) gs) is.listed
    ∙ sum_of_those (map (group_at outcomes begin images is.places) (range_with_len 0 (length images)))
    ∙ first_sum outcomes begin images is.places (length images) ∙ all_below (length images) is.places few in
    let many = is.folded.each_once in
    record {
      places = is.places;
      each_once = omega (arith, many, long);
      stands = is.folded.each;
      has_group = λ i k at. has_group outcomes begin images is.places groups is.listed i k at (few i k at);
      has_example = has_example outcomes begin images cs is.places groups is.listed is.folded.each;
      adds_up = omega (arith, sums, many, long);
    }

-- numbers between two bounds, and after them
between_more : (a b c : ℕ) (xs : List ℕ) → a ≤ b → b ≤ c
    → length (filter (is_between a c) xs) ≡ length (filter (is_between a b) xs) + length (filter (is_between b c) xs)
between_more a b c [] low high = refl
between_more a b c (x ∷ xs) low high =
    let all = count_cons (is_between a c) x xs in
    let first = count_cons (is_between a b) x xs in
    let last = count_cons (is_between b c) x xs in
    let rest = between_more a b c xs low high in
    elim (cases_lt x b) [
      | inl lt ↦
          let same : is_between a c x ≡ is_between a b x = grind (arith, nat_tests, lt, high) in
          let none = none_if (is_between b c x) (grind (arith, nat_tests, lt)) in
          let e = ap {B = ℕ} (λ (t : Bool). cond t 1 0) same in
          omega (arith, all, first, last, rest, none, e)
      | inr ge ↦
          let same : is_between a c x ≡ is_between b c x = grind (arith, nat_tests, ge, low) in
          let none = none_if (is_between a b x) (grind (arith, nat_tests, ge)) in
          let e = ap {B = ℕ} (λ (t : Bool). cond t 1 0) same in
          omega (arith, all, first, last, rest, none, e)
    ]

between_none : (a : ℕ) (xs : List ℕ) → length (filter (is_between a a) xs) ≡ 0
between_none a [] = refl
between_none a (x ∷ xs) =
    let all = count_cons (is_between a a) x xs in
    let none = none_if (is_between a a x) (grind (arith, nat_tests)) in
    let rest = between_none a xs in
    omega (arith, all, none, rest)

all_between : (a b : ℕ) (xs : List ℕ) → a ≡ 0 → ((i x : ℕ) → slice_get xs i ≡ Some x → x < b) → length (filter (is_between a b) xs) ≡ length xs
all_between a b [] zero_first below = refl
all_between a b (x ∷ xs) zero_first below =
    let all = count_cons (is_between a b) x xs in
    let lt = below 0 x refl in
    let one = one_if (is_between a b x) (grind (arith, nat_tests, lt, zero_first)) in
    let rest = all_between a b xs zero_first (λ i y at. below (suc i) y at) in
    omega (arith, all, one, rest)

-- the cuts from one on
cuts_from : (s : StartsValue) (failing : List ℕ) (outcomes : List (List ℕ)) (cs : List CutFailures) (i : ℕ)
    → ((place : ℕ) (c : CutFailures) → slice_get cs place ≡ Some c → IsCut s failing outcomes (i + place) c)
    → (first_at s i ≤ first_at s (i + length cs))
    × (sum_by (λ (c : CutFailures). c.failing) cs ≡ length (filter (is_between (first_at s i) (first_at s (i + length cs))) failing))
cuts_from s failing outcomes [] i each =
    let here : i + 0 ≡ i = omega arith in
    let at = ap (first_at s) here in
    let none = ap (λ k. length (filter (is_between (first_at s i) k) failing)) at ∙ between_none (first_at s i) failing in
    (omega (arith, at), sym none)
cuts_from s failing outcomes (c ∷ cs) i each =
    let own : IsCut s failing outcomes i c = let here : i + 0 ≡ i = omega arith in subst (λ k. IsCut s failing outcomes k c) here (each 0 c refl) in
    let more = before_more s.plan s.bound s.tears i c.cut own.wanted in
    let step : first_at s i ≤ first_at s (i + 1) = omega (arith, more) in
    let rest = cuts_from s failing outcomes cs (i + 1) (λ place d at.
    let on : i + suc place ≡ i + 1 + place = omega arith in
    subst (λ k. IsCut s failing outcomes k d) on (each (suc place) d at)) in
    let end : i + 1 + length cs ≡ i + length (c ∷ cs) = omega arith in
    let ends = ap (first_at s) end in
    let reach = rest.0 in
    let tail = rest.1 ∙ ap (λ k. length (filter (is_between (first_at s (i + 1)) k) failing)) ends in
    let far : first_at s (i + 1) ≤ first_at s (i + length (c ∷ cs)) = omega (arith, reach, ends) in
    let sums = sum_by-cons (λ (d : CutFailures). d.failing) c cs in
    let both = between_more (first_at s i) (first_at s (i + 1)) (first_at s (i + length (c ∷ cs))) failing step far in
    let count = own.fails in
    (omega (arith, step, far), omega (arith, sums, tail, both, count))

pub all_stand : AllStand
all_stand s failing outcomes cs are of_cuts =
    let sums = cuts_from s failing outcomes cs 0 (λ place c at. let here : 0 + place ≡ place = omega arith in subst (λ k. IsCut s failing outcomes k c) (sym here) (of_cuts.each place c at)) in
    let none = before_none s.plan s.bound s.tears in
    let reach : length (cuts_of s.plan.kind s.plan.log.entries) ≤ 0 + length cs = let all = of_cuts.all in omega (arith, all) in
    let end = ap length (before_all s.plan s.bound s.tears (0 + length cs) reach) in
    sums.1 ∙ all_between (first_at s 0) (first_at s (0 + length cs)) failing none (λ i n at. let lt = are.within i n at in omega (arith, lt, end))
