-- What a departure makes of a unit of its part.
use Rattle.std.proofs.Common.{ℕ, zero, suc, ◌≡◌, ◌+◌, ◌-◌, ◌*◌, ◌/◌, ◌<◌, ◌≤◌, ◌==◌, Bool, true, false, if◌then◌else◌, not, ◌&&◌, ◌||◌, nat_lt, nat_le, Option, Some, None, refl, sym, subst, ◌∙◌, ap, arith, inl, inr}
use Rattle.std.specs.Cmp.{first_so, second_so}
use Rattle.std.specs.Option.{option_map_or}
use Rattle.std.proofs.lemmas.Bool.{cases_lt, lt-ltb, le-ltb, lt-leb, le-leb, ne_eqb, eqb-true, leb-true, ltb-true}
use Rattle.std.proofs.lemmas.Option.{same_Some}
use Rattle.epochs.specs.declared.part.Part.{Part}
use Rattle.epochs.specs.declared.unit.Unit.{Unit as LogUnit}
use Rattle.choices.specs.declared.fate.Fate.{Fate}
use Rattle.choices.specs.declared.fate.Fate.TheVariants as fate
use Rattle.choices.specs.declared.choice.Departure.{Departure}
use Rattle.images.specs.Images.{is_in, keeps, byte_in}
use Rattle.images.specs.Table.{head_of, tail_of, share_of, share, leaves, tear_of}

-- whether a unit keeps a byte, by its own fate
abbrev pub kept_by : Option Fate → ℕ → Bool
kept_by o i = option_map_or (λ (f : Fate). keeps f 1 i) o true

-- a unit of a part lies in it
pub record LiesIn (p : Part) (u : LogUnit) : Type 0 where
  pub entry : p.entry ≡ u.entry
  pub low : p.place ≤ u.place
  pub high : u.place < p.place + p.count

pub lies_in : (p : Part) (u : LogUnit) → is_in p u ≡ true → LiesIn p u
lies_in p u own =
    let places = second_so (p.entry == u.entry) (nat_le p.place u.place && nat_lt u.place (p.place + p.count)) own in
    record {
      entry = eqb-true p.entry u.entry (first_so (p.entry == u.entry) (nat_le p.place u.place && nat_lt u.place (p.place + p.count)) own);
      low = leb-true p.place u.place (first_so (nat_le p.place u.place) (nat_lt u.place (p.place + p.count)) places);
      high = ltb-true u.place (p.place + p.count) (second_so (nat_le p.place u.place) (nat_lt u.place (p.place + p.count)) places);
    }

-- how many eighths of a unit are kept: none, some, or all
data Eighths (kept : ℕ) : Type 0 where
  none : kept ≡ 0 → Eighths kept
  some : 1 ≤ kept → kept < 8 → Eighths kept
  all : 8 ≤ kept → Eighths kept

eighths : (kept : ℕ) → Eighths kept
eighths zero = none refl
eighths (suc k) = elim (cases_lt (suc k) 8) [ inl lt ↦ some (omega arith) lt | inr le ↦ all le ]

head_none : (kept : ℕ) → kept ≡ 0 → head_of kept ≡ Some fate.Drop
head_none kept is = ap head_of is

head_some : (kept : ℕ) → 1 ≤ kept → kept < 8 → head_of kept ≡ Some (fate.Head kept)
head_some kept low lt =
    ap (λ b. if b then Some fate.Drop else if nat_lt kept 8 then Some (fate.Head kept) else None) (ne_eqb kept 0 (λ e. omega (arith, low, e)))
    ∙ ap (λ b. if b then Some (fate.Head kept) else None) (lt-ltb kept 8 lt)

head_all : (kept : ℕ) → 8 ≤ kept → head_of kept ≡ None
head_all kept le =
    ap (λ b. if b then Some fate.Drop else if nat_lt kept 8 then Some (fate.Head kept) else None) (ne_eqb kept 0 (λ e. omega (arith, le, e)))
    ∙ ap (λ b. if b then Some (fate.Head kept) else None) (le-ltb kept 8 le)

tail_none : (kept : ℕ) → kept ≡ 0 → tail_of kept ≡ Some fate.Drop
tail_none kept is = ap tail_of is

tail_some : (kept : ℕ) → 1 ≤ kept → kept < 8 → tail_of kept ≡ Some (fate.Tail kept)
tail_some kept low lt =
    ap (λ b. if b then Some fate.Drop else if nat_lt kept 8 then Some (fate.Tail kept) else None) (ne_eqb kept 0 (λ e. omega (arith, low, e)))
    ∙ ap (λ b. if b then Some (fate.Tail kept) else None) (lt-ltb kept 8 lt)

tail_all : (kept : ℕ) → 8 ≤ kept → tail_of kept ≡ None
tail_all kept le =
    ap (λ b. if b then Some fate.Drop else if nat_lt kept 8 then Some (fate.Tail kept) else None) (ne_eqb kept 0 (λ e. omega (arith, le, e)))
    ∙ ap (λ b. if b then Some (fate.Tail kept) else None) (le-ltb kept 8 le)

-- the same test of two pairs of numbers
pub lt_alike : (a b c d : ℕ) → (a < b → c < d) → (c < d → a < b) → nat_lt a b ≡ nat_lt c d
lt_alike a b c d to back = elim (cases_lt a b) [
  | inl lt ↦ lt-ltb a b lt ∙ sym (lt-ltb c d (to lt))
  | inr le ↦ elim (cases_lt c d) [
    | inl lt ↦ let bad = back lt in absurd (omega (arith, bad, le))
    | inr more ↦ le-ltb a b le ∙ sym (le-ltb c d more)
  ]
]

pub le_alike : (a b c d : ℕ) → (a ≤ b → c ≤ d) → (c ≤ d → a ≤ b) → nat_le a b ≡ nat_le c d
le_alike a b c d to back = elim (cases_lt b a) [
  | inr le ↦ le-leb a b le ∙ sym (le-leb c d (to le))
  | inl lt ↦ elim (cases_lt d c) [
    | inl less ↦ lt-leb a b lt ∙ sym (lt-leb c d less)
    | inr more ↦ let bad = back more in absurd (omega (arith, bad, lt))
  ]
]

-- a part of one sector is torn as it is
one_kept : (t n j : ℕ) → n ≡ 1 → j < n → t * n - 8 * j ≡ t
one_kept t n j one lt =
    let P : ℕ → Type 0 = λ m. t * m - 8 * j ≡ t in
    subst P (sym one) (omega (arith, lt, one))

pub one_head : (t n j : ℕ) → n ≡ 1 → j < n → 1 ≤ t → t < 8 → Some (fate.Head t) ≡ head_of (t * n - 8 * j)
one_head t n j one lt low high = sym (ap head_of (one_kept t n j one lt) ∙ head_some t low high)

pub one_tail : (t n j : ℕ) → n ≡ 1 → j < n → 1 ≤ t → t < 8 → Some (fate.Tail t) ≡ tail_of (t * n - 8 * (n - 1 - j))
one_tail t n j one lt low high = sym (ap tail_of (one_kept t n (n - 1 - j) one (omega (arith, lt, one))) ∙ tail_some t low high)

-- byte i of sector j of a part, of which the first m eighths of sectors are kept
head_share : (m j i : ℕ) → i < 512 → nat_lt (512 * j + i) (64 * m) ≡ kept_by (head_of (m - 8 * j)) i
head_share m j i lt = elim (eighths (m - 8 * j)) [
  | none is ↦ le-ltb (512 * j + i) (64 * m) (omega (arith, is)) ∙ sym (ap (λ o. kept_by o i) (head_none (m - 8 * j) is))
  | some low less ↦
      lt_alike (512 * j + i) (64 * m) i (64 * ((m - 8 * j) * 1)) (λ h. omega (arith, h, low)) (λ h. omega (arith, h, low))
      ∙ sym (ap (λ o. kept_by o i) (head_some (m - 8 * j) low less))
  | all le ↦ lt-ltb (512 * j + i) (64 * m) (omega (arith, le, lt)) ∙ sym (ap (λ o. kept_by o i) (head_all (m - 8 * j) le))
]

-- or the last m
tail_share : (n m j i : ℕ) → i < 512 → j < n → nat_le (512 * n - 64 * m) (512 * j + i) ≡ kept_by (tail_of (m - 8 * (n - 1 - j))) i
tail_share n m j i lt within = elim (eighths (m - 8 * (n - 1 - j))) [
  | none is ↦ lt-leb (512 * n - 64 * m) (512 * j + i) (omega (arith, is, lt, within)) ∙ sym (ap (λ o. kept_by o i) (tail_none (m - 8 * (n - 1 - j)) is))
  | some low less ↦
      le_alike (512 * n - 64 * m) (512 * j + i) (512 * 1 - 64 * ((m - 8 * (n - 1 - j)) * 1)) i
      (λ h. omega (arith, h, low, less, within)) (λ h. omega (arith, h, low, less, within))
      ∙ sym (ap (λ o. kept_by o i) (tail_some (m - 8 * (n - 1 - j)) low less))
  | all le ↦ le-leb (512 * n - 64 * m) (512 * j + i) (omega (arith, le, within)) ∙ sym (ap (λ o. kept_by o i) (tail_all (m - 8 * (n - 1 - j)) le))
]

keeps_share : (f : Fate) (n j i : ℕ) → i < 512 → j < n → keeps f n (512 * j + i) ≡ kept_by (share_of f n j) i
keeps_share fate.Drop n j i lt within = refl
keeps_share (fate.Head t) n j i lt within = head_share (t * n) j i lt
keeps_share (fate.Tail t) n j i lt within = tail_share n (t * n) j i lt within

-- what a departure keeps of a unit, whether the unit is in its part or not
pub keeps_by_share : (d : Departure) (u : LogUnit) (i : ℕ) → i < 512
    → (not (is_in d.part u) || keeps d.fate d.part.count (byte_in d.part u i)) ≡ kept_by (share d u) i
unfolding share
keeps_by_share d u i lt =
    let n : ℕ = d.part.count in
    let j : ℕ = u.place - d.part.place in
    let by : (b : Bool) → is_in d.part u ≡ b → (not b || keeps d.fate n (512 * j + i)) ≡ kept_by (if b then share_of d.fate n j else None) i =
    λ b. elim b as (λ c. is_in d.part u ≡ c → (not c || keeps d.fate n (512 * j + i)) ≡ kept_by (if c then share_of d.fate n j else None) i) [
      | true ↦ λ e.
          let at = lies_in d.part u e in
          let low = at.low in
          let high = at.high in
          keeps_share d.fate n j i lt (omega (arith, low, high))
      | false ↦ λ e. refl
    ] in
    by (is_in d.part u) refl

-- what is taken of a unit is taken by a departure of its part
pub taken : (d : Departure) (u : LogUnit) (f : Fate) → share d u ≡ Some f
    → (is_in d.part u ≡ true) × (share_of d.fate d.part.count (u.place - d.part.place) ≡ Some f)
unfolding share
taken d u f h =
    let n : ℕ = d.part.count in
    let j : ℕ = u.place - d.part.place in
    let by : (b : Bool) → is_in d.part u ≡ b → (if b then share_of d.fate n j else None) ≡ Some f → (is_in d.part u ≡ true) × (share_of d.fate n j ≡ Some f) =
    λ b. elim b as (λ c. is_in d.part u ≡ c → (if c then share_of d.fate n j else None) ≡ Some f → (is_in d.part u ≡ true) × (share_of d.fate n j ≡ Some f)) [
      | true ↦ λ e k. (e, k)
      | false ↦ λ e k. absurd (let bad : None ≡ Some f = k in cc)
    ] in
    by (is_in d.part u) refl h

-- a sector of which something is kept, and something is not, is that in which the part is torn
head_tear : (m j : ℕ) (g : Fate) → head_of (m - 8 * j) ≡ Some g → leaves (Some g) ≡ true → j ≡ m / 8
head_tear m j g h left = elim (eighths (m - 8 * j)) [
  | none is ↦
      let drop : g ≡ fate.Drop = same_Some g fate.Drop (sym h ∙ head_none (m - 8 * j) is) in
      let bad : true ≡ false = sym left ∙ ap (λ f. leaves (Some f)) drop in
      absurd (let b : true ≡ false = bad in cc)
  | some low less ↦ omega (arith, low, less)
  | all le ↦ absurd (let bad : None ≡ Some g = sym (head_all (m - 8 * j) le) ∙ h in cc)
]

tail_tear : (n m j : ℕ) (g : Fate) → j < n → tail_of (m - 8 * (n - 1 - j)) ≡ Some g → leaves (Some g) ≡ true → j ≡ (8 * n - m) / 8
tail_tear n m j g within h left = elim (eighths (m - 8 * (n - 1 - j))) [
  | none is ↦
      let drop : g ≡ fate.Drop = same_Some g fate.Drop (sym h ∙ tail_none (m - 8 * (n - 1 - j)) is) in
      let bad : true ≡ false = sym left ∙ ap (λ f. leaves (Some f)) drop in
      absurd (let b : true ≡ false = bad in cc)
  | some low less ↦ omega (arith, low, less, within)
  | all le ↦ absurd (let bad : None ≡ Some g = sym (tail_all (m - 8 * (n - 1 - j)) le) ∙ h in cc)
]

pub torn_there : (f : Fate) (n j : ℕ) (g : Fate) → j < n → share_of f n j ≡ Some g → leaves (Some g) ≡ true → j ≡ tear_of f n
torn_there fate.Drop n j g within h left =
    let drop : g ≡ fate.Drop = same_Some g fate.Drop (sym h) in
    absurd (let bad : true ≡ false = sym left ∙ ap (λ f. leaves (Some f)) drop in cc)
torn_there (fate.Head t) n j g within h left = head_tear (t * n) j g h left
torn_there (fate.Tail t) n j g within h left = tail_tear n (t * n) j g within h left

-- nor is the part dropped then
pub tears_by : (f : Fate) (n j : ℕ) (g : Fate) → share_of f n j ≡ Some g → leaves (Some g) ≡ true → leaves (Some f) ≡ true
tears_by fate.Drop n j g h left = ap (λ (k : Fate). leaves (Some k)) (same_Some fate.Drop g h) ∙ left
tears_by (fate.Head t) n j g h left = refl
tears_by (fate.Tail t) n j g h left = refl
