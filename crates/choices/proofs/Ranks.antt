-- Choices by their numbers.
use Rattle.std.proofs.Common.{ℕ, zero, suc, ◌≡◌, ◌+◌, ◌-◌, ◌*◌, ◌/◌, ◌%◌, ◌<◌, ◌≤◌, List, ◌∷◌, ◌++◌, length, map, slice_get, Option, Some, refl, sym, ◌∙◌, ap, inl, inr, arith, length-append}
use Rattle.std.specs.Option.{option_map}
use Rattle.std.proofs.lemmas.Bool.{cases_lt}
use Rattle.std.proofs.lemmas.List.{length-map, append-nil}
use Rattle.std.proofs.lemmas.Option.{slice_get-map}
use Rattle.std.proofs.lemmas.Nat.{div-add-mod', div_below, mod_below}
use Rattle.base.proofs.Lists.{slice_get-append_left, slice_get-append_right}
use Rattle.choices.specs.declared.pick.Pick.{Pick}
use Rattle.choices.specs.Picks.{beginning, ranked_picks, fewer}
use Rattle.choices.specs.Ways.{ways, ways_below}
use Rattle.choices.specs.Seeks.{Begins, Reaches}

-- a rest after its first departure
abbrev pub beyond : ℕ → ℕ → List Pick → List Pick
beyond a t rest = record { part = a; fate = t } ∷ rest

-- how many elements the rows have
pub length-beginning : (a t j : ℕ) (rests : List (List Pick)) → length (beginning a t j rests) ≡ j * length rests
length-beginning a t zero rests = omega arith
length-beginning a t (suc j) rests =
    omega (arith, length-append (map (beyond a t) rests) (beginning a (t + 1) j rests), length-map rests (beyond a t), length-beginning a (t + 1) j rests)

-- element y of row x
pub at_beginning : (a t j : ℕ) (rests : List (List Pick)) (x y : ℕ) → x < j → y < length rests
    → slice_get (beginning a t j rests) (x * length rests + y) ≡ option_map (beyond a (t + x)) (slice_get rests y)
at_beginning a t zero rests x y lt h = absurd (omega (arith, lt))
at_beginning a t (suc j) rests zero y lt h =
    let here : zero * length rests + y ≡ y = omega arith in
    let same : t ≡ t + zero = omega arith in
    ap (slice_get (beginning a t (suc j) rests)) here
    ∙ slice_get-append_left (map (beyond a t) rests) (beginning a (t + 1) j rests) y (omega (arith, length-map rests (beyond a t), h))
    ∙ slice_get-map (beyond a t) rests y
    ∙ ap (λ s. option_map (beyond a s) (slice_get rests y)) same
at_beginning a t (suc j) rests (suc x) y lt h =
    let here : suc x * length rests + y ≡ length (map (beyond a t) rests) + (x * length rests + y) = omega (arith, length-map rests (beyond a t)) in
    let same : t + 1 + x ≡ t + suc x = omega arith in
    ap (slice_get (beginning a t (suc j) rests)) here
    ∙ slice_get-append_right (map (beyond a t) rests) (beginning a (t + 1) j rests) (x * length rests + y)
    ∙ at_beginning a (t + 1) j rests x y (omega (arith, lt)) h
    ∙ ap (λ s. option_map (beyond a s) (slice_get rests y)) same

-- how many choices of i departures there are
pub length-chosen : (m i a k : ℕ) → length (ranked_picks m i a k) ≡ ways m i k
unfolding ranked_picks ways
length-chosen m zero a k = refl
length-chosen m (suc i) a zero = refl
length-chosen m (suc i) a (suc k) =
    omega (
      arith,
      length-append (beginning a 0 m (ranked_picks m i (a + 1) k)) (ranked_picks m (suc i) (a + 1) k),
      length-beginning a 0 m (ranked_picks m i (a + 1) k),
      ap (λ x. m * x) (length-chosen m i (a + 1) k),
      length-chosen m (suc i) (a + 1) k,
    )

-- and of fewer than s
pub length-fewer : (m s v : ℕ) → length (fewer m s v) ≡ ways_below m s v
unfolding fewer ways_below
length-fewer m zero v = refl
length-fewer m (suc s) v = omega (arith, length-append (fewer m s v) (ranked_picks m s 0 v), length-fewer m s v, length-chosen m s 0 v)

-- more parts have no fewer choices
ways_rise : (m i r u : ℕ) → ways m (suc i) r ≤ ways m (suc i) (u + r)
unfolding ways
ways_rise m i r zero = let e : zero + r ≡ r = omega arith in rw e (omega arith)
ways_rise m i r (suc u) =
    let e : suc u + r ≡ suc (u + r) = omega arith in
    rw e (omega (arith, ways_rise m i r u))

-- the last choices begin after the first u parts
later : (m i a r u left : ℕ) → left ≤ ways m (suc i) r
    → slice_get (ranked_picks m (suc i) a (u + r)) (ways m (suc i) (u + r) - left) ≡ slice_get (ranked_picks m (suc i) (a + u) r) (ways m (suc i) r - left)
unfolding ranked_picks ways
later m i a r zero left h =
    let e : zero + r ≡ r = omega arith in
    let b : a + zero ≡ a = omega arith in
    rw (e, b) refl
later m i a r (suc u) left h =
    let e : suc u + r ≡ suc (u + r) = omega arith in
    let first : List (List Pick) = beginning a 0 m (ranked_picks m i (a + 1) (u + r)) in
    let long : length first ≡ m * ways m i (u + r) =
    length-beginning a 0 m (ranked_picks m i (a + 1) (u + r)) ∙ ap (λ x. m * x) (length-chosen m i (a + 1) (u + r)) in
    let here : ways m (suc i) (suc (u + r)) - left ≡ length first + (ways m (suc i) (u + r) - left) = omega (arith, long, ways_rise m i r u, h) in
    let b : a + 1 + u ≡ a + suc u = omega arith in
    ap (λ k. slice_get (ranked_picks m (suc i) a k) (ways m (suc i) k - left)) e
    ∙ ap (slice_get (ranked_picks m (suc i) a (suc (u + r)))) here
    ∙ slice_get-append_right first (ranked_picks m (suc i) (a + 1) (u + r)) (ways m (suc i) (u + r) - left)
    ∙ later m i (a + 1) r u left h
    ∙ ap (λ c. slice_get (ranked_picks m (suc i) c r) (ways m (suc i) r - left)) b

-- a choice among those that begin with the first part: a row for each fate
row : (m i a r q : ℕ) → q < m * ways m i r
    → (slice_get (ranked_picks m (suc i) a (suc r)) q ≡ option_map (beyond a (q / ways m i r)) (slice_get (ranked_picks m i (a + 1) r) (q % ways m i r)))
    × (q / ways m i r < m) × (q % ways m i r < ways m i r)
unfolding ranked_picks
row m i a r q lt =
    let rests : List (List Pick) = ranked_picks m i (a + 1) r in
    let width : length rests ≡ ways m i r = length-chosen m i (a + 1) r in
    let some : 0 < ways m i r = elim (cases_lt 0 (ways m i r)) [
      | inl more ↦ more
      | inr less ↦
          let none : ways m i r ≡ 0 = omega (arith, less) in
          let bad : q < m * 0 = rw (← none) lt in
          absurd (omega (arith, bad))
    ] in
    let x : ℕ = q / ways m i r in
    let y : ℕ = q % ways m i r in
    let in_rows : x < m = div_below q (ways m i r) m some lt in
    let in_row : y < ways m i r = mod_below q (ways m i r) some in
    let parts : x * ways m i r + y ≡ q = div-add-mod' q (ways m i r) in
    let at : q ≡ x * length rests + y = sym (ap (λ w. x * w + y) width ∙ parts) in
    let long : length (beginning a 0 m rests) ≡ m * ways m i r = length-beginning a 0 m rests ∙ ap (λ w. m * w) width in
    let fate : 0 + x ≡ x = omega arith in (
      slice_get-append_left (beginning a 0 m rests) (ranked_picks m (suc i) (a + 1) r) q (omega (arith, long, lt))
          ∙ ap (slice_get (beginning a 0 m rests)) at
          ∙ at_beginning a 0 m rests x y in_rows (omega (arith, width, in_row))
          ∙ ap (λ s. option_map (beyond a s) (slice_get rests y)) fate,
      in_rows,
      in_row,
    )

ways_more : (m i k : ℕ) → ways m (suc i) (suc k) ≡ m * ways m i k + ways m (suc i) k
unfolding ways
ways_more m i k = refl

ways_none : (m i : ℕ) → ways m (suc i) 0 ≡ 0
unfolding ways
ways_none m i = refl

-- where the search starts: among no parts there is nothing
pub reach_low : (m i left : ℕ) → 1 ≤ i → 1 ≤ left → ways m i 0 < left
reach_low m zero left h k = absurd (omega (arith, h))
reach_low m (suc i) left h k = omega (arith, ways_none m i, k)

-- the parts of the answer: what is inside the part's own choices, and how many rests they have
pub begins_inside : (m i r left : ℕ) → Reaches m (suc i) left (suc r) → ways m (suc i) (suc r) - left < m * ways m i r
begins_inside m i r left so =
    let before : suc r - 1 ≡ r = omega arith in
    let least : ways m (suc i) r < left = rw (← before) so.least in
    omega (arith, ways_more m i r, least, so.reach)

-- what the search finds
begins_at : (m i begin u r number : ℕ) → number < ways m (suc i) (u + suc r)
    → Reaches m (suc i) (ways m (suc i) (u + suc r) - number) (suc r) → (left : ℕ) → left ≡ ways m (suc i) (u + suc r) - number
    → (slice_get (ranked_picks m (suc i) begin (u + suc r)) number
    ≡ option_map (beyond (begin + u) ((ways m (suc i) (suc r) - left) / ways m i r)) (slice_get (ranked_picks m i (begin + u + 1) r) ((ways m (suc i) (suc r) - left) % ways m i r)))
    × ((ways m (suc i) (suc r) - left) / ways m i r < m)
    × ((ways m (suc i) (suc r) - left) % ways m i r < ways m i r)
begins_at m i begin u r number lt so left is =
    let reaches : Reaches m (suc i) left (suc r) = rw is so in
    let at : number ≡ ways m (suc i) (u + suc r) - left = omega (arith, lt, is) in
    let inside = begins_inside m i r left reaches in
    let here = row m i (begin + u) r (ways m (suc i) (suc r) - left) inside in (
      ap (slice_get (ranked_picks m (suc i) begin (u + suc r))) at ∙ later m i begin (suc r) u left reaches.reach ∙ here.0,
      here.1,
      here.2,
    )

-- the search's answer, in its own terms
pub found_pick : (m size begin end number reach : ℕ) → 1 ≤ size → begin ≤ end → number < ways m size (end - begin) → reach ≤ end - begin
    → Reaches m size (ways m size (end - begin) - number) reach
    → (left : ℕ) → left ≡ ways m size (end - begin) - number
    → (pick : Pick) → pick.part ≡ end - reach → pick.fate ≡ (ways m size reach - left) / ways m (size - 1) (reach - 1)
    → (rest : ℕ) → rest ≡ (ways m size reach - left) % ways m (size - 1) (reach - 1)
    → Begins m size begin end number pick rest
found_pick m zero begin end number reach some le lt within so left left_is pick part_is fate_is rest rest_is = absurd (omega (arith, some))
found_pick m (suc i) begin end number zero some le lt within so left left_is pick part_is fate_is rest rest_is = absurd (omega (arith, so.some))
found_pick m (suc i) begin end number (suc r) some le lt within so left left_is pick part_is fate_is rest rest_is =
    let u : ℕ = end - begin - suc r in
    let size : suc i - 1 ≡ i = omega arith in
    let fewer_parts : suc r - 1 ≡ r = omega arith in
    let parts : end - begin ≡ u + suc r = omega (arith, within) in
    let first : begin + u ≡ pick.part = omega (arith, part_is, within, le) in
    let rests : r ≡ end - (pick.part + 1) = omega (arith, part_is, within, le) in
    let lt_here : number < ways m (suc i) (u + suc r) = rw (← parts) lt in
    let so_here : Reaches m (suc i) (ways m (suc i) (u + suc r) - number) (suc r) = rw (← parts) so in
    let left_here : left ≡ ways m (suc i) (u + suc r) - number = rw (← parts) left_is in
    let here = begins_at m i begin u r number lt_here so_here left left_here in
    let fate_here : pick.fate ≡ (ways m (suc i) (suc r) - left) / ways m i r = fate_is ∙ (rw (size, fewer_parts) refl) in
    let rest_here : rest ≡ (ways m (suc i) (suc r) - left) % ways m i r = rest_is ∙ (rw (size, fewer_parts) refl) in
    record {
      low = omega (arith, first);
      high = omega (arith, part_is, within);
      fate = rw fate_here here.1;
      within = rw (size, ← rests, rest_here) here.2;
      value = rw (size, ← rests, parts, rest_here) (here.0 ∙ (rw (first, ← fate_here) refl));
    }

-- between the departures that are known and those to come
pub record Seeks (m left begin end number : ℕ) (front : List Pick) (target : Option (List Pick)) : Type 0 where
  pub low : begin ≤ end
  pub within : number < ways m left (end - begin)
  pub value : option_map (λ (ds : List Pick). front ++ ds) (slice_get (ranked_picks m left begin (end - begin)) number) ≡ target

-- nothing is to come
none_left : (m begin end number : ℕ) (front : List Pick) (target : Option (List Pick)) → Seeks m 0 begin end number front target
    → target ≡ Some front
unfolding ranked_picks ways
none_left m begin end zero front target so = sym so.value ∙ ap (λ xs. Some xs) (append-nil front)
none_left m begin end (suc n) front target so = let bad : suc n < 1 = so.within in absurd (omega (arith, bad))

-- all departures are found, so these are the choice
pub sought : (m left begin end number : ℕ) (front : List Pick) (target : Option (List Pick)) → left ≡ 0
    → Seeks m left begin end number front target → target ≡ Some front
sought m zero begin end number front target none so = none_left m begin end number front target so
sought m (suc left) begin end number front target none so = absurd (omega (arith, none))

ways_below_rise : (m size s v : ℕ) → size < s → ways_below m size v + ways m size v ≤ ways_below m s v
unfolding ways_below
ways_below_rise m size zero v h = absurd (omega (arith, h))
ways_below_rise m size (suc s) v h = elim (cases_lt size s) [
  | inl less ↦ omega (arith, ways_below_rise m size s v less)
  | inr more ↦
      let same : size ≡ s = omega (arith, h, more) in
      omega (arith, ap (λ n. ways_below m n v) same, ap (λ n. ways m n v) same)
]

-- the choices of one number of departures stand after those of fewer
pub at_fewer : (m s v size r : ℕ) → size < s → r < ways m size v → slice_get (fewer m s v) (ways_below m size v + r) ≡ slice_get (ranked_picks m size 0 v) r
unfolding fewer
at_fewer m zero v size r h lt = absurd (omega (arith, h))
at_fewer m (suc s) v size r h lt = elim (cases_lt size s) [
  | inl less ↦
      let rise : ways_below m size v + ways m size v ≤ ways_below m s v = ways_below_rise m size s v less in
      slice_get-append_left (fewer m s v) (ranked_picks m s 0 v) (ways_below m size v + r) (omega (arith, length-fewer m s v, rise, lt))
      ∙ at_fewer m s v size r less lt
  | inr more ↦
      let same : size ≡ s = omega (arith, h, more) in
      let here : ways_below m size v + r ≡ length (fewer m s v) + r = omega (arith, length-fewer m s v, ap (λ n. ways_below m n v) same) in
      ap (slice_get (fewer m s v ++ ranked_picks m s 0 v)) here ∙ slice_get-append_right (fewer m s v) (ranked_picks m s 0 v) r
      ∙ ap (λ n. slice_get (ranked_picks m n 0 v) r) (sym same)
]

-- what the computation of the first departure needs
pub record Inside (m size reach left : ℕ) : Type 0 where
  pub some : 0 < ways m (size - 1) (reach - 1)
  pub fate : (ways m size reach - left) / ways m (size - 1) (reach - 1) < m

-- where the search by halves ends, this holds
pub inside : (m size reach left : ℕ) → 1 ≤ size → Reaches m size left reach → Inside m size reach left
inside m zero reach left some so = absurd (omega (arith, some))
inside m (suc i) zero left some so = absurd (omega (arith, so.some))
inside m (suc i) (suc r) left some so =
    let size : suc i - 1 ≡ i = omega arith in
    let parts : suc r - 1 ≡ r = omega arith in
    let here = row m i 0 r (ways m (suc i) (suc r) - left) (begins_inside m i r left so) in
    record { some = rw (size, parts) (omega (arith, here.2)); fate = rw (size, parts) here.1 }

-- the search by halves begins between no part and all
pub search_begins : (m i parts left : ℕ) → 1 ≤ i → 1 ≤ left → left ≤ ways m i parts → (0 < parts) × (ways m i 0 < left)
search_begins m i zero left h some high = absurd (omega (arith, reach_low m i left h some, high))
search_begins m i (suc k) left h some high = (omega arith, reach_low m i left h some)
