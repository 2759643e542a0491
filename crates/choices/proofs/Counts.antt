-- Closed forms of the numbers of choices.
use Rattle.std.proofs.Common.{ℕ, zero, suc, ◌≡◌, ◌+◌, ◌-◌, ◌*◌, ◌/◌, ◌<◌, ◌≤◌, refl, ◌∙◌, ap, arith}
use Rattle.std.proofs.lemmas.Nat.{div-mul-add, mul-le}
use Rattle.base.specs.Sizes.{most_units}
use Rattle.choices.specs.Picks.{most_fates}
use Rattle.choices.specs.Ways.{ways, ways_below, pairs, triples}

-- how many choices of 0, 1, 2 and 3 departures there are
pub ways_zero : (m k : ℕ) → ways m 0 k ≡ 1
unfolding ways
ways_zero m k = refl

pub ways_one : (m k : ℕ) → ways m 1 k ≡ m * k
unfolding ways
ways_one m zero = omega arith
ways_one m (suc k) = omega (arith, ways_one m k)

pub ways_two : (m k : ℕ) → ways m 2 k ≡ m * m * pairs k
unfolding ways pairs
ways_two m zero = omega arith
ways_two m (suc k) = omega (arith, ways_two m k, ap (λ x. m * x) (ways_one m k))

pub ways_three : (m k : ℕ) → ways m 3 k ≡ m * m * m * triples k
unfolding ways triples
ways_three m zero = omega arith
ways_three m (suc k) = omega (arith, ways_three m k, ap (λ x. m * x) (ways_two m k))

twice_pairs : (k : ℕ) → pairs (suc k) * 2 ≡ suc k * k
unfolding pairs
twice_pairs zero = refl
twice_pairs (suc k) =
    let one : pairs (suc (suc k)) ≡ suc k + pairs (suc k) = refl in
    omega (arith, one, twice_pairs k)

six_triples : (k : ℕ) → triples (suc (suc k)) * 6 ≡ suc (suc k) * suc k * k
unfolding triples pairs
six_triples zero = refl
six_triples (suc k) =
    let one : triples (suc (suc (suc k))) ≡ pairs (suc (suc k)) + triples (suc (suc k)) = refl in
    omega (arith, one, twice_pairs (suc k), six_triples k)

-- pairs and triples as products
pub pairs_closed : (k : ℕ) → 0 < k → k * (k - 1) / 2 ≡ pairs k
pairs_closed zero h = absurd (omega (arith, h))
pairs_closed (suc k) h =
    let less : suc k - 1 ≡ k = omega arith in
    let twice : suc k * (suc k - 1) ≡ pairs (suc k) * 2 + 0 = rw less (omega (arith, twice_pairs k)) in
    ap (λ n. n / 2) twice ∙ div-mul-add (pairs (suc k)) 2 0 (omega arith)

-- the closed form of the number of triples
pub triples_closed : (k : ℕ) → 2 ≤ k → k * (k - 1) * (k - 2) / 6 ≡ triples k
triples_closed zero h = absurd (omega (arith, h))
triples_closed (suc zero) h = absurd (omega (arith, h))
triples_closed (suc (suc k)) h =
    let less : suc (suc k) - 1 ≡ suc k = omega arith in
    let lesser : suc (suc k) - 2 ≡ k = omega arith in
    let six : suc (suc k) * (suc (suc k) - 1) * (suc (suc k) - 2) ≡ triples (suc (suc k)) * 6 + 0 =
    rw (less, lesser) (omega (arith, six_triples k)) in
    ap (λ n. n / 6) six ∙ div-mul-add (triples (suc (suc k))) 6 0 (omega arith)

-- of too few parts there are none
pub pairs_none : (k : ℕ) → k ≡ 0 → 0 ≡ pairs k
unfolding pairs
pairs_none zero h = refl
pairs_none (suc k) h = absurd (omega (arith, h))

pub triples_none : (k : ℕ) → k < 2 → 0 ≡ triples k
unfolding triples pairs
triples_none zero h = refl
triples_none (suc zero) h = refl
triples_none (suc (suc k)) h = absurd (omega (arith, h))

-- the products that the code forms: the greatest is below 2^73, those of two factors less are below 2^49
pub line_le : (m k : ℕ) → m ≤ most_fates → k ≤ most_units → m * k ≤ 494779996569600
line_le m k h le = let line : m * k ≤ 31457280 = mul-le m k 15 2097152 h le in omega (arith, line)

pub square_le : (m t : ℕ) → m ≤ most_fates → t ≤ 2199022206976 → m * m * t ≤ 494779996569600
square_le m t h k =
    let square : m * m ≤ 225 = mul-le m m 15 15 h h in
    mul-le (m * m) t 225 2199022206976 square k

pub cube_le : (m t : ℕ) → m ≤ most_fates → t ≤ 1537226473786572800 → m * m * m * t ≤ 5188139349029683200000
cube_le m t h k =
    let square : m * m ≤ 225 = mul-le m m 15 15 h h in
    let cube : m * m * m ≤ 3375 = mul-le (m * m) m 225 15 square h in
    mul-le (m * m * m) t 3375 1537226473786572800 cube k

-- the sum over the numbers of departures: its start, and one more
pub ways_below_none : (m v : ℕ) → 0 ≡ ways_below m 0 v
unfolding ways_below
ways_below_none m v = refl

pub ways_below_more : (m s v : ℕ) → ways_below m (s + 1) v ≡ ways_below m s v + ways m s v
unfolding ways_below
ways_below_more m s v = let e : s + 1 ≡ suc s = omega arith in ap (λ n. ways_below m n v) e
