-- The choice that follows another in the list.
use Rattle.std.proofs.Common.{ℕ, zero, suc, ◌≡◌, ◌+◌, ◌-◌, ◌*◌, ◌<◌, ◌≤◌, ◌⊎◌, List, [], ◌∷◌, ◌++◌, length, map, slice_get, Option, Some, None, refl, sym, ◌∙◌, ap, inl, inr, arith, nat_lt, true, false, subst}
use Rattle.std.specs.Option.{option_map}
use Rattle.std.specs.List.{All, slice_index_or}
use Rattle.std.proofs.lemmas.Bool.{cases_lt, lt-ltb, le-ltb}
use Rattle.std.proofs.lemmas.List.{length-map}
use Rattle.std.proofs.lemmas.Option.{slice_get-map, slice_get_within, slice_get_cases, same_Some}
use Rattle.base.proofs.Lists.{slice_get-append_left, slice_get-append_right, slice_get_of_append}
use Rattle.choices.specs.declared.pick.Pick.{Pick}
use Rattle.choices.specs.Picks.{beginning, ranked_picks, fewer, ArePicks}
use Rattle.choices.specs.Steps.{first_picks, next_picks, after_rest, following, or_else, one_more, following_below}
use Rattle.choices.proofs.Rows.{below_more}
use Rattle.choices.proofs.Ranks.{beyond, length-beginning, at_beginning}

-- an element of the rows: its fate, its place in the row, and the rest after its first departure
pub record OfRow (a t j : ℕ) (rests : List (List Pick)) (n : ℕ) (ds : List Pick) : Type 0 where
  pub x : ℕ
  pub y : ℕ
  pub rest : List Pick
  pub fate : x < j
  pub place : n ≡ x * length rests + y
  pub there : slice_get rests y ≡ Some rest
  pub is : ds ≡ beyond a (t + x) rest

first_row : (a t j : ℕ) (rests : List (List Pick)) (n : ℕ) (ds : List Pick) → slice_get (map (beyond a t) rests) n ≡ Some ds → OfRow a t (suc j) rests n ds
first_row a t j rests n ds h = elim (slice_get_cases rests n).1 [
  | inl it ↦
      let same : t ≡ t + 0 = omega arith in
      let one : Some (beyond a t it.0) ≡ Some ds = ap (option_map (beyond a t)) (sym it.2) ∙ sym (slice_get-map (beyond a t) rests n) ∙ h in
      record {
        x = 0;
        y = n;
        rest = it.0;
        fate = omega arith;
        place = omega arith;
        there = it.2;
        is = same_Some ds (beyond a t it.0) (sym one) ∙ ap (λ s. beyond a s it.0) same;
      }
  | inr past ↦
      let none : None ≡ Some ds = ap (option_map (beyond a t)) (sym past.1) ∙ sym (slice_get-map (beyond a t) rests n) ∙ h in
      absurd (let bad : None ≡ Some ds = none in cc)
]

-- each element of the rows comes from one of them
pub of_beginning : (a t j : ℕ) (rests : List (List Pick)) (n : ℕ) (ds : List Pick) → slice_get (beginning a t j rests) n ≡ Some ds → OfRow a t j rests n ds
of_beginning a t zero rests n ds h = absurd (let bad : None ≡ Some ds = h in cc)
of_beginning a t (suc j) rests n ds h = elim (slice_get_of_append (map (beyond a t) rests) (beginning a (t + 1) j rests) n ds h) [
  | inl first ↦ first_row a t j rests n ds first.1
  | inr more ↦
      let long : length (map (beyond a t) rests) ≡ length rests = length-map rests (beyond a t) in
      let it = of_beginning a (t + 1) j rests (n - length (map (beyond a t) rests)) ds more.1 in
      let place : n - length (map (beyond a t) rests) ≡ it.x * length rests + it.y = it.place in
      let low : length (map (beyond a t) rests) ≤ n = more.0 in
      let fate : it.x < j = it.fate in
      let same : t + 1 + it.x ≡ t + suc it.x = omega arith in
      record {
        x = suc it.x;
        y = it.y;
        rest = it.rest;
        fate = omega (arith, fate);
        place = omega (arith, place, low, long);
        there = it.there;
        is = it.is ∙ ap (λ s. beyond a s it.rest) same;
      }
]

-- the first choice
no_rows : (a t j : ℕ) → beginning a t j [] ≡ []
no_rows a t zero = refl
no_rows a t (suc j) = no_rows a (t + 1) j

-- the first of the choices of i departures among k parts: none, or the first i parts dropped
pub head_none : (m i a k : ℕ) → k < i → ranked_picks m i a k ≡ []
unfolding ranked_picks
head_none m zero a k h = absurd (omega (arith, h))
head_none m (suc i) a zero h = refl
head_none m (suc i) a (suc k) h =
    let rests : ranked_picks m i (a + 1) k ≡ [] = head_none m i (a + 1) k (omega (arith, h)) in
    let more : ranked_picks m (suc i) (a + 1) k ≡ [] = head_none m (suc i) (a + 1) k (omega (arith, h)) in
    rw (rests, more, no_rows a 0 m) refl

pub head_some : (m i a k : ℕ) → 1 ≤ m → i ≤ k → slice_get (ranked_picks m i a k) 0 ≡ Some (first_picks i a)
unfolding ranked_picks first_picks
head_some m zero a k some h = refl
head_some m (suc i) a zero some h = absurd (omega (arith, h))
head_some m (suc i) a (suc k) some h =
    let rests : List (List Pick) = ranked_picks m i (a + 1) k in
    let inner : slice_get rests 0 ≡ Some (first_picks i (a + 1)) = head_some m i (a + 1) k some (omega (arith, h)) in
    let lt : 0 < length rests = slice_get_within rests 0 (first_picks i (a + 1)) inner in
    let here : 0 ≡ 0 * length rests + 0 = omega arith in
    let at = at_beginning a 0 m rests 0 0 (omega (arith, some)) lt in
    let first : slice_get (beginning a 0 m rests) 0 ≡ Some (first_picks (suc i) a) =
    ap (slice_get (beginning a 0 m rests)) here ∙ at ∙ ap (option_map (beyond a 0)) inner in
    slice_get-append_left (beginning a 0 m rests) (ranked_picks m (suc i) (a + 1) k) 0 (slice_get_within (beginning a 0 m rests) 0 (first_picks (suc i) a) first) ∙ first

-- the step of a first departure
lt_true : (a b : ℕ) → a < b → nat_lt a b ≡ true
lt_true a b h = lt-ltb a b h

lt_false : (a b : ℕ) → b ≤ a → nat_lt a b ≡ false
lt_false a b h = le-ltb a b h

pub stepped_fate : (m e : ℕ) (d : Pick) (b : ℕ) → d.fate + 1 < m
    → next_picks m e d b ≡ Some (record { part = d.part; fate = d.fate + 1 } ∷ first_picks b (d.part + 1))
unfolding next_picks
stepped_fate m e d b h = rw (lt_true (d.fate + 1) m h) refl

pub stepped_part : (m e : ℕ) (d : Pick) (b : ℕ) → m ≤ d.fate + 1 → d.part + 1 + b < e
    → next_picks m e d b ≡ Some (record { part = d.part + 1; fate = 0 } ∷ first_picks b (d.part + 1 + 1))
unfolding next_picks
stepped_part m e d b h k = rw (lt_false (d.fate + 1) m h, lt_true (d.part + 1 + b) e k) refl

stepped_none : (m e : ℕ) (d : Pick) (b : ℕ) → m ≤ d.fate + 1 → e ≤ d.part + 1 + b → next_picks m e d b ≡ None
unfolding next_picks
stepped_none m e d b h k = rw (lt_false (d.fate + 1) m h, lt_false (d.part + 1 + b) e k) refl

-- at the end of a list
pub at_end : {X : Type 0} (xs : List X) (n : ℕ) → n < length xs → slice_get xs (suc n) ≡ None → length xs ≡ suc n
at_end xs n lt h = elim (slice_get_cases xs (suc n)).1 [
  | inl it ↦ absurd (let bad : None ≡ Some it.0 = sym h ∙ it.2 in cc)
  | inr past ↦ omega (arith, past.0, lt)
]

-- at the end of the first list stands the first of the second, and what is in front keeps its place
pub after_end : {X : Type 0} (xs ys : List X) (n : ℕ) → length xs ≡ n → slice_get (xs ++ ys) n ≡ slice_get ys 0
after_end xs ys n h =
    let at : n ≡ length xs + 0 = omega (arith, h) in
    ap (slice_get (xs ++ ys)) at ∙ slice_get-append_right xs ys 0

-- an element keeps its place before what is appended
pub in_front : {X : Type 0} (xs ys : List X) (n : ℕ) (x : X) → slice_get xs n ≡ Some x → slice_get (xs ++ ys) n ≡ Some x
in_front xs ys n x h = slice_get-append_left xs ys n (slice_get_within xs n x h) ∙ h

-- a choice of departures among no fewer parts than departures
room : (m i a k n : ℕ) (ds : List Pick) → slice_get (ranked_picks m i a k) n ≡ Some ds → i ≤ k
room m i a k n ds h = elim (cases_lt k i) [
  | inl few ↦ absurd (let bad : None ≡ Some ds = sym (ap (λ xs. slice_get xs n) (head_none m i a k few)) ∙ h in cc)
  | inr some ↦ some
]

-- a choice of i departures has i departures
pub member_length : (m i a k n : ℕ) (ds : List Pick) → slice_get (ranked_picks m i a k) n ≡ Some ds → length ds ≡ i
unfolding ranked_picks
member_length m zero a k zero ds h = ap length (same_Some ds [] (sym h))
member_length m zero a k (suc n) ds h = absurd (let bad : None ≡ Some ds = h in cc)
member_length m (suc i) a zero n ds h = absurd (let bad : None ≡ Some ds = h in cc)
member_length m (suc i) a (suc k) n ds h = elim (slice_get_of_append (beginning a 0 m (ranked_picks m i (a + 1) k)) (ranked_picks m (suc i) (a + 1) k) n ds h) [
  | inl first ↦
      let it = of_beginning a 0 m (ranked_picks m i (a + 1) k) n ds first.1 in
      let rest = member_length m i (a + 1) k it.y it.rest it.there in
      ap length it.is ∙ ap suc rest
  | inr more ↦ member_length m (suc i) (a + 1) k (n - length (beginning a 0 m (ranked_picks m i (a + 1) k))) ds more.1
]

-- after the last choice that begins with a part: the first of those that begin after it
next_part : (m i a k x : ℕ) → 1 ≤ m → i ≤ k → m ≤ x + 1 → slice_get (ranked_picks m (suc i) (a + 1) k) 0 ≡ next_picks m (a + suc k) (record { part = a; fate = x }) i
unfolding first_picks
next_part m i a k x some le last = elim (cases_lt i k) [
  | inl less ↦ head_some m (suc i) (a + 1) k some (omega (arith, less)) ∙ sym (stepped_part m (a + suc k) (record { part = a; fate = x }) i last (omega (arith, less)))
  | inr more ↦
      ap (λ xs. slice_get xs 0) (head_none m (suc i) (a + 1) k (omega (arith, more)))
      ∙ sym (stepped_none m (a + suc k) (record { part = a; fate = x }) i last (omega (arith, more)))
]

-- after a choice that begins with part a and fate x
after_row : (m i a k x y n : ℕ) → 1 ≤ m → x < m → n ≡ x * length (ranked_picks m i (a + 1) k) + y → y < length (ranked_picks m i (a + 1) k) → i ≤ k
    → (o : Option (List Pick)) → slice_get (ranked_picks m i (a + 1) k) (suc y) ≡ o
    → slice_get (beginning a 0 m (ranked_picks m i (a + 1) k) ++ ranked_picks m (suc i) (a + 1) k) (suc n)
    ≡ after_rest (record { part = a; fate = x }) o (next_picks m (a + suc k) (record { part = a; fate = x }) i)
after_row m i a k x y n some fate at lt le (Some r) h =
    let rests : List (List Pick) = ranked_picks m i (a + 1) k in
    let here : suc n ≡ x * length rests + suc y = omega (arith, at) in
    let within : suc y < length rests = slice_get_within rests (suc y) r h in
    let zero_x : 0 + x ≡ x = omega arith in
    let found : slice_get (beginning a 0 m rests) (suc n) ≡ Some (beyond a x r) =
    ap (slice_get (beginning a 0 m rests)) here ∙ at_beginning a 0 m rests x (suc y) fate within ∙ ap (option_map (beyond a (0 + x))) h
    ∙ ap (λ s. Some (beyond a s r)) zero_x in
    in_front (beginning a 0 m rests) (ranked_picks m (suc i) (a + 1) k) (suc n) (beyond a x r) found
after_row m i a k x y n some fate at lt le None h =
    let rests : List (List Pick) = ranked_picks m i (a + 1) k in
    let width : length rests ≡ suc y = at_end rests y lt h in
    elim (cases_lt (x + 1) m) [
      | inl less ↦
          let here : suc n ≡ suc x * length rests + 0 = omega (arith, at, width) in
          let zero_x : 0 + suc x ≡ x + 1 = omega arith in
          let found : slice_get (beginning a 0 m rests) (suc n) ≡ Some (beyond a (x + 1) (first_picks i (a + 1))) =
          ap (slice_get (beginning a 0 m rests)) here ∙ at_beginning a 0 m rests (suc x) 0 (omega (arith, less)) (omega (arith, lt))
          ∙ ap (option_map (beyond a (0 + suc x))) (head_some m i (a + 1) k some le) ∙ ap (λ s. Some (beyond a s (first_picks i (a + 1)))) zero_x in
          in_front (beginning a 0 m rests) (ranked_picks m (suc i) (a + 1) k) (suc n) (beyond a (x + 1) (first_picks i (a + 1))) found
          ∙ sym (stepped_fate m (a + suc k) (record { part = a; fate = x }) i less)
      | inr more ↦
          let whole : x + 1 ≡ m = omega (arith, more, fate) in
          let long : length (beginning a 0 m rests) ≡ suc n = length-beginning a 0 m rests ∙ ap (λ j. j * length rests) (sym whole) ∙ omega (arith, at, width) in
          after_end (beginning a 0 m rests) (ranked_picks m (suc i) (a + 1) k) (suc n) long ∙ next_part m i a k x some le more
    ]

-- the choice after another, among those of one number of departures
pub follows : (m i a k : ℕ) → 1 ≤ m → (n : ℕ) (ds : List Pick) → slice_get (ranked_picks m i a k) n ≡ Some ds
    → slice_get (ranked_picks m i a k) (suc n) ≡ following m (a + k) ds
unfolding ranked_picks following
follows m zero a k some zero ds h = let same : ds ≡ [] = same_Some ds [] (sym h) in rw same refl
follows m zero a k some (suc n) ds h = absurd (let bad : None ≡ Some ds = h in cc)
follows m (suc i) a zero some n ds h = absurd (let bad : None ≡ Some ds = h in cc)
follows m (suc i) a (suc k) some n ds h =
    let rests : List (List Pick) = ranked_picks m i (a + 1) k in
    let first : List (List Pick) = beginning a 0 m rests in
    let end : a + 1 + k ≡ a + suc k = omega arith in
    elim (slice_get_of_append first (ranked_picks m (suc i) (a + 1) k) n ds h) [
      | inl it ↦
          let in_row = of_beginning a 0 m rests n ds it.1 in
          let o : Option (List Pick) = following m (a + suc k) in_row.rest in
          let inner : slice_get rests (suc in_row.y) ≡ o =
          follows m i (a + 1) k some in_row.y in_row.rest in_row.there ∙ ap (λ e. following m e in_row.rest) end in
          let zero_x : 0 + in_row.x ≡ in_row.x = omega arith in
          let is : ds ≡ beyond a in_row.x in_row.rest = in_row.is ∙ ap (λ s. beyond a s in_row.rest) zero_x in
          let size : length in_row.rest ≡ i = member_length m i (a + 1) k in_row.y in_row.rest in_row.there in
          after_row m i a k in_row.x in_row.y n some in_row.fate in_row.place
          (slice_get_within rests in_row.y in_row.rest in_row.there) (room m i (a + 1) k in_row.y in_row.rest in_row.there) o inner
          ∙ ap (λ s. after_rest (record { part = a; fate = in_row.x }) o (next_picks m (a + suc k) (record { part = a; fate = in_row.x }) s)) (sym size)
          ∙ ap (following m (a + suc k)) (sym is)
      | inr it ↦
          let at : suc n ≡ length first + suc (n - length first) = omega (arith, it.0) in
          ap (slice_get (first ++ ranked_picks m (suc i) (a + 1) k)) at
          ∙ slice_get-append_right first (ranked_picks m (suc i) (a + 1) k) (suc (n - length first))
          ∙ follows m (suc i) (a + 1) k some (n - length first) ds it.1
          ∙ ap (λ e. following m e ds) end
    ]

-- one departure more
more_yes : (s e size : ℕ) → size + 1 < s → size < e → one_more s e size ≡ Some (first_picks (size + 1) 0)
unfolding one_more
more_yes s e size h k = rw (lt_true (size + 1) s h, lt_true size e k) refl

more_short : (s e size : ℕ) → s ≤ size + 1 → one_more s e size ≡ None
unfolding one_more
more_short s e size h = rw (lt_false (size + 1) s h) refl

more_few : (s e size : ℕ) → e ≤ size → one_more s e size ≡ None
unfolding one_more
more_few s e size h = elim (cases_lt (size + 1) s) [
  | inl less ↦ rw (lt_true (size + 1) s less, lt_false size e h) refl
  | inr short ↦ rw (lt_false (size + 1) s short) refl
]

or_none : (o : Option (List Pick)) → or_else o None ≡ o
or_none None = refl
or_none (Some ds) = refl

-- a choice of fewer than s departures has fewer
pub fewer_length : (m s v n : ℕ) (ds : List Pick) → slice_get (fewer m s v) n ≡ Some ds → length ds < s
unfolding fewer
fewer_length m zero v n ds h = absurd (let bad : None ≡ Some ds = h in cc)
fewer_length m (suc s) v n ds h = elim (slice_get_of_append (fewer m s v) (ranked_picks m s 0 v) n ds h) [
  | inl first ↦ let less = fewer_length m s v n ds first.1 in omega (arith, less)
  | inr more ↦ let same = member_length m s 0 v (n - length (fewer m s v)) ds more.1 in omega (arith, same)
]

-- after the last choice of fewer than s departures comes the first of s
next_size : (m s v n : ℕ) (ds : List Pick) → 1 ≤ m → n < length (fewer m s v) → length ds < s
    → slice_get (fewer m s v) (suc n) ≡ one_more s v (length ds)
    → slice_get (fewer m s v ++ ranked_picks m s 0 v) (suc n) ≡ one_more (suc s) v (length ds)
next_size m s v n ds some lt short h = elim (cases_lt (length ds) v) [
  | inr few ↦
      let last : length (fewer m s v) ≡ suc n = at_end (fewer m s v) n lt (h ∙ more_few s v (length ds) few) in
      after_end (fewer m s v) (ranked_picks m s 0 v) (suc n) last
      ∙ ap (λ xs. slice_get xs 0) (head_none m s 0 v (omega (arith, few, short)))
      ∙ sym (more_few (suc s) v (length ds) few)
  | inl room ↦ elim (cases_lt (length ds + 1) s) [
    | inl less ↦
        in_front (fewer m s v) (ranked_picks m s 0 v) (suc n) (first_picks (length ds + 1) 0) (h ∙ more_yes s v (length ds) less room)
        ∙ sym (more_yes (suc s) v (length ds) (omega (arith, less)) room)
    | inr top ↦
        let same : s ≡ length ds + 1 = omega (arith, top, short) in
        let last : length (fewer m s v) ≡ suc n = at_end (fewer m s v) n lt (h ∙ more_short s v (length ds) top) in
        after_end (fewer m s v) (ranked_picks m s 0 v) (suc n) last
        ∙ head_some m s 0 v some (omega (arith, same, room))
        ∙ ap (λ i. Some (first_picks i 0)) same
        ∙ sym (more_yes (suc s) v (length ds) (omega (arith, same)) room)
  ]
]

after_fewer : (m s v n : ℕ) (ds : List Pick) → 1 ≤ m → n < length (fewer m s v) → length ds < s
    → (o : Option (List Pick)) → slice_get (fewer m s v) (suc n) ≡ or_else o (one_more s v (length ds))
    → slice_get (fewer m s v ++ ranked_picks m s 0 v) (suc n) ≡ or_else o (one_more (suc s) v (length ds))
after_fewer m s v n ds some lt short (Some r) h = in_front (fewer m s v) (ranked_picks m s 0 v) (suc n) r h
after_fewer m s v n ds some lt short None h = next_size m s v n ds some lt short h

-- the steps of the code
pub goes_up : (m bound e size : ℕ) (old now cleared put : List Pick) → following m e old ≡ None → now ≡ old → size ≡ length now
    → size < bound → size < e → cleared ≡ [] → put ≡ cleared ++ first_picks (size + 1) 0 → following_below m (bound + 1) e old ≡ Some put
goes_up m bound e size old now cleared put none same long less room empty is =
    let here : length old ≡ size = ap length (sym same) ∙ sym long in
    below_more m (bound + 1) e old none ∙ ap (one_more (bound + 1) e) here ∙ more_yes (bound + 1) e size (omega (arith, less)) room
    ∙ sym (ap (λ xs. Some xs) (is ∙ ap (λ xs. xs ++ first_picks (size + 1) 0) empty))

-- no choice follows: there is no room for one departure more
pub ends_here : (m bound e size : ℕ) (old now : List Pick) → following m e old ≡ None → now ≡ old → size ≡ length now
    → (bound ≤ size) ⊎ (e ≤ size) → following_below m (bound + 1) e old ≡ None
ends_here m bound e size old now none same long (inl top) =
    let here : length old ≡ size = ap length (sym same) ∙ sym long in
    below_more m (bound + 1) e old none ∙ ap (one_more (bound + 1) e) here ∙ more_short (bound + 1) e size (omega (arith, top))
ends_here m bound e size old now none same long (inr few) =
    let here : length old ≡ size = ap length (sym same) ∙ sym long in
    below_more m (bound + 1) e old none ∙ ap (one_more (bound + 1) e) here ∙ more_few (bound + 1) e size few

-- the choice after another, among those of fewer than s departures
pub follows_below : (m s v : ℕ) → 1 ≤ m → (n : ℕ) (ds : List Pick) → slice_get (fewer m s v) n ≡ Some ds
    → slice_get (fewer m s v) (suc n) ≡ following_below m s v ds
unfolding fewer following_below
follows_below m zero v some n ds h = absurd (let bad : None ≡ Some ds = h in cc)
follows_below m (suc s) v some n ds h = elim (slice_get_of_append (fewer m s v) (ranked_picks m s 0 v) n ds h) [
  | inl it ↦
      after_fewer m s v n ds some it.0 (fewer_length m s v n ds it.1) (following m v ds) (follows_below m s v some n ds it.1)
  | inr it ↦
      let at : suc n ≡ length (fewer m s v) + suc (n - length (fewer m s v)) = omega (arith, it.0) in
      let end : 0 + v ≡ v = omega arith in
      let size : length ds ≡ s = member_length m s 0 v (n - length (fewer m s v)) ds it.1 in
      let top : one_more (suc s) v (length ds) ≡ None = more_short (suc s) v (length ds) (omega (arith, size)) in
      ap (slice_get (fewer m s v ++ ranked_picks m s 0 v)) at
      ∙ slice_get-append_right (fewer m s v) (ranked_picks m s 0 v) (suc (n - length (fewer m s v)))
      ∙ follows m s 0 v some (n - length (fewer m s v)) ds it.1
      ∙ ap (λ e. following m e ds) end
      ∙ sym (or_none (following m v ds))
      ∙ ap (or_else (following m v ds)) (sym top)
]

-- every departure is of one of the parts
All_cons : (P : Pick → Type 0) (x : Pick) (xs : List Pick) → P x → All P xs → All P (x ∷ xs)
All_cons P x xs p ps = λ k. elim k as (λ j. (d : Pick) → j < length (x ∷ xs) → P (slice_index_or (x ∷ xs) j d)) [
  | zero ↦ λ d lt. p
  | suc j ↦ λ d lt. ps j d (omega (arith, lt))
]

-- the parts and fates of a choice are among those that it is made of
pub are_picks : (m i a k n : ℕ) (ds : List Pick) → slice_get (ranked_picks m i a k) n ≡ Some ds → ArePicks m (a + k) ds
unfolding ranked_picks
are_picks m zero a k zero ds h =
    let P : List Pick → Type 0 = λ xs. ArePicks m (a + k) xs in
    subst P (same_Some [] ds h) (λ j d lt. absurd (omega (arith, lt)))
are_picks m zero a k (suc n) ds h = absurd (let bad : None ≡ Some ds = h in cc)
are_picks m (suc i) a zero n ds h = absurd (let bad : None ≡ Some ds = h in cc)
are_picks m (suc i) a (suc k) n ds h =
    let P : ℕ → List Pick → Type 0 = λ e xs. ArePicks m e xs in
    let end : a + 1 + k ≡ a + suc k = omega arith in
    elim (slice_get_of_append (beginning a 0 m (ranked_picks m i (a + 1) k)) (ranked_picks m (suc i) (a + 1) k) n ds h) [
      | inl first ↦
          let it = of_beginning a 0 m (ranked_picks m i (a + 1) k) n ds first.1 in
          let fate : it.x < m = it.fate in
          let rest : ArePicks m (a + suc k) it.rest = subst (λ e. P e it.rest) end (are_picks m i (a + 1) k it.y it.rest it.there) in
          let own : (a < a + suc k) × (0 + it.x < m) = (omega arith, omega (arith, fate)) in
          let whole = All_cons (λ (p : Pick). (p.part < a + suc k) × (p.fate < m)) (record { part = a; fate = 0 + it.x }) it.rest own rest in
          subst (P (a + suc k)) (sym it.is) whole
      | inr more ↦ subst (λ e. P e ds) end (are_picks m (suc i) (a + 1) k (n - length (beginning a 0 m (ranked_picks m i (a + 1) k))) ds more.1)
    ]

pub fewer_picks : (m s v n : ℕ) (ds : List Pick) → slice_get (fewer m s v) n ≡ Some ds → ArePicks m v ds
unfolding fewer
fewer_picks m zero v n ds h = absurd (let bad : None ≡ Some ds = h in cc)
fewer_picks m (suc s) v n ds h = elim (slice_get_of_append (fewer m s v) (ranked_picks m s 0 v) n ds h) [
  | inl first ↦ fewer_picks m s v n ds first.1
  | inr more ↦
      let end : 0 + v ≡ v = omega arith in
      let P : ℕ → Type 0 = λ e. ArePicks m e ds in
      subst P end (are_picks m s 0 v (n - length (fewer m s v)) ds more.1)
]
