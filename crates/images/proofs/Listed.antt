-- The sectors in which an image differs from a base, listed: one sector anew, and images that agree.
use Rattle.std.proofs.Common.{ℕ, zero, suc, ◌≡◌, ◌≢◌, ◌+◌, ◌-◌, ◌<◌, ◌≤◌, ◌==◌, nat_eq, nat_le, nat_lt, ◌&&◌, Bool, true, false, not, cond, if◌then◌else◌, List, [], ◌∷◌, ◌++◌, length, map, filter, take, drop, slice_get, slice_set, slice_index_or, Option, Some, None, refl, sym, subst, ◌∙◌, ap, inl, inr, arith, append_assoc, add-one}
use Rattle.std.specs.List.{All, range_with_len}
use Rattle.std.specs.List.Sorted.{IsNonDecreasingBy}
use Rattle.std.specs.Option.{option_map_or, option_to_list}
use Rattle.std.specs.Cmp.Lexicographic.{pointwise, pointwise_decides}
use Rattle.std.proofs.Math.Seq.{take-append_seam, drop-append_seam}
use Rattle.std.proofs.lemmas.Bool.{cases_lt, lt-ltb, le-ltb, lt-leb, le-leb, eq-eqb, ne_eqb}
use Rattle.std.proofs.lemmas.Bool.Decides.{Decides-eqb, eqb_tells}
use Rattle.std.proofs.lemmas.List.{length-append, get_or_append_left, get_or-append_right}
use Rattle.images.specs.Keys.{ChangedValue, content_at, differs, with_content}
use Rattle.images.specs.Changes.{change_at, changes, with_sector, with_sectors}

nobody : ChangedValue
nobody = record { number = 0; content = [] }

-- an image that has the content of the base lists nothing
same_content : (base image : ℕ → List ℕ) (n : ℕ) → base n ≡ image n → change_at base image n ≡ None
unfolding change_at
same_content base image n is =
    ap (λ b. if b then None else Some (record { number = n; content = image n })) ((pointwise_decides Decides-eqb (base n) (image n)).1 is)

pub nothing_changes : (base image : ℕ → List ℕ) (a k : ℕ) → ((n : ℕ) → base n ≡ image n) → changes base image a k ≡ []
unfolding changes
nothing_changes base image a zero is = refl
nothing_changes base image a (suc k) is =
    ap (λ o. option_to_list o ++ changes base image (a + 1) k) (same_content base image a (is a)) ∙ nothing_changes base image (a + 1) k is

-- images that agree on some sectors list the same of them
pub change_alike : (base other one two : ℕ → List ℕ) (n : ℕ) → base n ≡ other n → one n ≡ two n → change_at base one n ≡ change_at other two n
unfolding change_at
change_alike base other one two n same is =
    ap (λ (c : List ℕ). if pointwise nat_eq c (one n) then None else Some (record { number = n; content = one n })) same
    ∙ ap (λ (c : List ℕ). if pointwise nat_eq (other n) c then None else Some (record { number = n; content = c })) is

pub changes_alike : (base other one two : ℕ → List ℕ) (a k : ℕ) → ((n : ℕ) → a ≤ n → n < a + k → base n ≡ other n) → ((n : ℕ) → a ≤ n → n < a + k → one n ≡ two n)
    → changes base one a k ≡ changes other two a k
unfolding changes
changes_alike base other one two a zero same is = refl
changes_alike base other one two a (suc k) same is =
    let rest = changes_alike base other one two (a + 1) k (λ n low high. same n (omega (arith, low)) (omega (arith, high))) (λ n low high. is n (omega (arith, low)) (omega (arith, high))) in
    ap (λ o. option_to_list o ++ changes base one (a + 1) k) (change_alike base other one two a (same a (omega arith) (omega arith)) (is a (omega arith) (omega arith)))
    ∙ ap (λ xs. option_to_list (change_at other two a) ++ xs) rest

-- the list of a key
listed_one : (base image : List (List ℕ)) (a : ℕ) (ns : List ℕ) (b : Bool)
    → option_to_list (if b then None else Some (record { number = a; content = content_at image a })) ++ map (with_content image) ns
    ≡ map (with_content image) (cond (not b) (a ∷ ns) ns)
listed_one base image a ns true = refl
listed_one base image a ns false = refl

pub changes_of_key : (base image : List (List ℕ)) (a k : ℕ)
    → changes (content_at base) (content_at image) a k ≡ map (with_content image) (filter (differs base image) (range_with_len a k))
unfolding changes change_at differs
changes_of_key base image a zero = refl
changes_of_key base image a (suc k) =
    ap (λ xs. option_to_list (change_at (content_at base) (content_at image) a) ++ xs) (changes_of_key base image (a + 1) k)
    ∙ listed_one base image a (filter (differs base image) (range_with_len (a + 1) k)) (pointwise nat_eq (content_at base a) (content_at image a))

-- what is listed before a sector, the sector, and what is listed after it
pub changes_split : (base image : ℕ → List ℕ) (a p q : ℕ)
    → changes base image a (p + suc q) ≡ changes base image a p ++ (option_to_list (change_at base image (a + p)) ++ changes base image (a + p + 1) q)
unfolding changes
changes_split base image a zero q =
    let none : 0 + suc q ≡ suc q = omega arith in
    let here : a ≡ a + 0 = omega arith in
    ap (changes base image a) none
    ∙ ap (λ n. option_to_list (change_at base image n) ++ changes base image (n + 1) q) here
changes_split base image a (suc p) q =
    let more : suc p + suc q ≡ suc (p + suc q) = omega arith in
    let there : a + 1 + p ≡ a + suc p = omega arith in
    ap (changes base image a) more
    ∙ ap (λ xs. option_to_list (change_at base image a) ++ xs)
    (changes_split base image (a + 1) p q
    ∙ ap (λ n. changes base image (a + 1) p ++ (option_to_list (change_at base image n) ++ changes base image (n + 1) q)) there)
    ∙ sym (append_assoc (option_to_list (change_at base image a)) (changes base image (a + 1) p)
    (option_to_list (change_at base image (a + suc p)) ++ changes base image (a + suc p + 1) q))

-- what holds of each element of two lists
both_all : (P : ChangedValue → Type 0) (xs ys : List ChangedValue) → All P xs → All P ys → All P (xs ++ ys)
both_all P xs ys first second = λ i d lt. elim (cases_lt i (length xs)) [
  | inl within ↦ subst P (sym (get_or_append_left xs ys d i within)) (first i d within)
  | inr past ↦
      let long = length-append xs ys in
      subst P (sym (get_or-append_right xs ys (length xs) i d refl past)) (second (i - length xs) d (omega (arith, lt, past, long)))
]

none_all : (P : ChangedValue → Type 0) → All P []
none_all P = λ i d lt. absurd (omega (arith, lt))

one_all : (P : ChangedValue → Type 0) (x : ChangedValue) → P x → All P (x ∷ [])
one_all P x h = λ i d lt.
    let first : 0 ≡ i = omega (arith, lt) in
    subst (λ j. P (slice_index_or (x ∷ []) j d)) first h

-- the number of a listed sector
own_number : (base image : ℕ → List ℕ) (n : ℕ) → All (λ (s : ChangedValue). s.number ≡ n) (option_to_list (change_at base image n))
unfolding change_at
own_number base image n =
    let P : ChangedValue → Type 0 = λ s. s.number ≡ n in
    let by : (b : Bool) → All P (option_to_list (if b then None else Some (record { number = n; content = image n }))) =
    λ b. elim b as (λ c. All P (option_to_list (if c then None else Some (record { number = n; content = image n })))) [
      | true ↦ none_all P
      | false ↦ one_all P (record { number = n; content = image n }) refl
    ] in
    by (pointwise nat_eq (base n) (image n))

pub numbers_within : (base image : ℕ → List ℕ) (a k : ℕ) → All (λ (s : ChangedValue). (a ≤ s.number) × (s.number < a + k)) (changes base image a k)
unfolding changes
numbers_within base image a zero = none_all (λ (s : ChangedValue). (a ≤ s.number) × (s.number < a + 0))
numbers_within base image a (suc k) =
    both_all (λ (s : ChangedValue). (a ≤ s.number) × (s.number < a + suc k)) (option_to_list (change_at base image a)) (changes base image (a + 1) k)
    (λ i d lt. let is = own_number base image a i d lt in (omega (arith, is), omega (arith, is)))
    (λ i d lt. let is = numbers_within base image (a + 1) k i d lt in let low = is.0 in let high = is.1 in (omega (arith, low), omega (arith, high)))

-- the list rises
rising : (xs ys : List ChangedValue) (m : ℕ) → IsNonDecreasingBy (λ (s : ChangedValue). s.number) xs → IsNonDecreasingBy (λ (s : ChangedValue). s.number) ys
    → All (λ (s : ChangedValue). s.number ≤ m) xs → All (λ (s : ChangedValue). m ≤ s.number) ys → IsNonDecreasingBy (λ (s : ChangedValue). s.number) (xs ++ ys)
rising xs ys m one two below above = λ i j d le lt.
    let long = length-append xs ys in
    let number : ChangedValue → ℕ = λ s. s.number in
    elim (cases_lt j (length xs)) [
      | inl inside ↦
          let first : i < length xs = omega (arith, le, inside) in
          let left = ap number (get_or_append_left xs ys d i first) in
          let right = ap number (get_or_append_left xs ys d j inside) in
          let order = one i j d le inside in
          omega (arith, left, right, order)
      | inr past ↦
          let right = ap number (get_or-append_right xs ys (length xs) j d refl past) in
          let last = above (j - length xs) d (omega (arith, lt, past, long)) in
          elim (cases_lt i (length xs)) [
            | inl inside ↦
                let left = ap number (get_or_append_left xs ys d i inside) in
                let low = below i d inside in
                omega (arith, left, right, low, last)
            | inr over ↦
                let left = ap number (get_or-append_right xs ys (length xs) i d refl over) in
                let order = two (i - length xs) (j - length xs) d (omega (arith, le)) (omega (arith, lt, past, long)) in
                omega (arith, left, right, order)
          ]
    ]

short_rises : (xs : List ChangedValue) (n : ℕ) → All (λ (s : ChangedValue). s.number ≡ n) xs → IsNonDecreasingBy (λ (s : ChangedValue). s.number) xs
short_rises xs n same = λ i j d le lt.
    let left = same i d (omega (arith, le, lt)) in
    let right = same j d lt in
    omega (arith, left, right)

pub changes_rise : (base image : ℕ → List ℕ) (a k : ℕ) → IsNonDecreasingBy (λ (s : ChangedValue). s.number) (changes base image a k)
unfolding changes
changes_rise base image a zero = λ i j d le lt. absurd (omega (arith, lt))
changes_rise base image a (suc k) =
    rising (option_to_list (change_at base image a)) (changes base image (a + 1) k) a
    (short_rises (option_to_list (change_at base image a)) a (own_number base image a))
    (changes_rise base image (a + 1) k)
    (λ i d lt. let is = own_number base image a i d lt in omega (arith, is))
    (λ i d lt. let is = numbers_within base image (a + 1) k i d lt in let low = is.0 in omega (arith, low))

-- the place of a sector in a list
place_is : (xs ys : List ChangedValue) (n place : ℕ) → All (λ (s : ChangedValue). s.number < n) xs → All (λ (s : ChangedValue). n ≤ s.number) ys → place ≤ length (xs ++ ys)
    → ((k : ℕ) (d : ChangedValue) → k < place → (slice_index_or (xs ++ ys) k d).number < n)
    → ((k : ℕ) (d : ChangedValue) → place ≤ k → k < length (xs ++ ys) → n ≤ (slice_index_or (xs ++ ys) k d).number)
    → place ≡ length xs
place_is xs ys n place below above bound before beyond =
    let d : ChangedValue = nobody in
    let number : ChangedValue → ℕ = λ s. s.number in
    let long = length-append xs ys in
    elim (cases_lt place (length xs)) [
      | inl less ↦
          let high = beyond place d (omega arith) (omega (arith, less, long)) in
          let low = below place d less in
          let same = ap number (get_or_append_left xs ys d place less) in
          absurd (omega (arith, high, low, same))
      | inr past ↦ elim (cases_lt (length xs) place) [
        | inl more ↦
            let low = before (length xs) d more in
            let high = above (length xs - length xs) d (omega (arith, more, bound, long)) in
            let reach : length xs ≤ length xs = omega arith in
            let same = ap number (get_or-append_right xs ys (length xs) (length xs) d refl reach) in
            absurd (omega (arith, high, low, same))
        | inr most ↦ omega (arith, past, most)
      ]
    ]

-- whether it is there
stands_at : (xs ys : List ChangedValue) (x : ChangedValue) (n : ℕ) → x.number ≡ n
    → option_map_or (λ (s : ChangedValue). s.number == n) (slice_get (xs ++ x ∷ ys) (length xs)) false ≡ true
stands_at [] ys x n is = eq-eqb x.number n is
stands_at (y ∷ xs) ys x n is = stands_at xs ys x n is

lacks_at : (xs ys : List ChangedValue) (n : ℕ) → All (λ (s : ChangedValue). n < s.number) ys
    → option_map_or (λ (s : ChangedValue). s.number == n) (slice_get (xs ++ ys) (length xs)) false ≡ false
lacks_at [] [] n above = refl
lacks_at [] (y ∷ ys) n above = let more = above 0 y (omega arith) in ne_eqb y.number n (λ e. absurd (omega (arith, more, e)))
lacks_at (x ∷ xs) ys n above = lacks_at xs ys n above

-- the list after a sector was listed anew
abbrev pub relisted : List ChangedValue → ℕ → Bool → Option ChangedValue → List ChangedValue
relisted xs place true (Some x) = slice_set xs place x
relisted xs place true None = take place xs ++ drop (suc place) xs
relisted xs place false (Some x) = take place xs ++ x ∷ drop place xs
relisted xs place false None = xs

set_seam : (xs ys : List ChangedValue) (x y : ChangedValue) → slice_set (xs ++ x ∷ ys) (length xs) y ≡ xs ++ y ∷ ys
set_seam [] ys x y = refl
set_seam (z ∷ xs) ys x y = ap (λ zs. z ∷ zs) (set_seam xs ys x y)

drop_seam : (xs ys : List ChangedValue) (x : ChangedValue) → drop (suc (length xs)) (xs ++ x ∷ ys) ≡ ys
drop_seam [] ys x = refl
drop_seam (z ∷ xs) ys x = drop_seam xs ys x

-- a list with a sector, and one without it, listed anew
relist_there : (xs ys : List ChangedValue) (x : ChangedValue) (change : Option ChangedValue)
    → relisted (xs ++ x ∷ ys) (length xs) true change ≡ xs ++ (option_to_list change ++ ys)
relist_there xs ys x (Some y) = set_seam xs ys x y
relist_there xs ys x None = ap (λ front. front ++ drop (suc (length xs)) (xs ++ x ∷ ys)) (take-append_seam xs (x ∷ ys)) ∙ ap (λ rest. xs ++ rest) (drop_seam xs ys x)

relist_new : (xs ys : List ChangedValue) (change : Option ChangedValue) → relisted (xs ++ ys) (length xs) false change ≡ xs ++ (option_to_list change ++ ys)
relist_new xs ys (Some y) = ap (λ front. front ++ y ∷ drop (length xs) (xs ++ ys)) (take-append_seam xs ys) ∙ ap (λ rest. xs ++ y ∷ rest) (drop-append_seam xs ys)
relist_new xs ys None = refl

relist : (xs ys : List ChangedValue) (was : Option ChangedValue) (n : ℕ) (there : Bool) (change : Option ChangedValue)
    → All (λ (s : ChangedValue). s.number ≡ n) (option_to_list was) → All (λ (s : ChangedValue). n < s.number) ys
    → there ≡ option_map_or (λ (s : ChangedValue). s.number == n) (slice_get (xs ++ (option_to_list was ++ ys)) (length xs)) false
    → relisted (xs ++ (option_to_list was ++ ys)) (length xs) there change ≡ xs ++ (option_to_list change ++ ys)
relist xs ys (Some x) n there change own above is =
    ap (λ b. relisted (xs ++ x ∷ ys) (length xs) b change) (is ∙ stands_at xs ys x n (own 0 x (omega arith))) ∙ relist_there xs ys x change
relist xs ys None n there change own above is =
    ap (λ b. relisted (xs ++ ys) (length xs) b change) (is ∙ lacks_at xs ys n above) ∙ relist_new xs ys change

-- another content of one sector
own_sector : (image : ℕ → List ℕ) (s n : ℕ) (content : List ℕ) → n ≢ s → image n ≡ with_sector image s content n
own_sector image s n content other = sym (ap (λ b. if b then content else image n) (ne_eqb n s other))

-- the list of an image with another content of sector n
pub relisted_is : (base image : ℕ → List ℕ) (count n place : ℕ) (there : Bool) (content : List ℕ) (xs : List ChangedValue) (change : Option ChangedValue)
    → n < count → xs ≡ changes base image 0 count → change ≡ change_at base (with_sector image n content) n → place ≤ length xs
    → ((k : ℕ) (d : ChangedValue) → k < place → (slice_index_or xs k d).number < n)
    → ((k : ℕ) (d : ChangedValue) → place ≤ k → k < length xs → n ≤ (slice_index_or xs k d).number)
    → there ≡ option_map_or (λ (s : ChangedValue). s.number == n) (slice_get xs place) false
    → relisted xs place there change ≡ changes base (with_sector image n content) 0 count
relisted_is base image count n place there content xs change lt is told bound before beyond test =
    let new : ℕ → List ℕ = with_sector image n content in
    let q : ℕ = count - (n + 1) in
    let size : count ≡ n + suc q = omega (arith, lt) in
    let zero_n : 0 + n ≡ n = omega arith in
    let front : List ChangedValue = changes base image 0 n in
    let back : List ChangedValue = changes base image (n + 1) q in
    let was : Option ChangedValue = change_at base image n in
    let parts : xs ≡ front ++ (option_to_list was ++ back) =
    is ∙ ap (changes base image 0) size ∙ changes_split base image 0 n q
    ∙ ap (λ m. front ++ (option_to_list (change_at base image m) ++ changes base image (m + 1) q)) zero_n in
    let after : changes base new 0 count ≡ front ++ (option_to_list (change_at base new n) ++ back) =
    ap (changes base new 0) size ∙ changes_split base new 0 n q
    ∙ ap (λ m. changes base new 0 n ++ (option_to_list (change_at base new m) ++ changes base new (m + 1) q)) zero_n
    ∙ ap (λ first. first ++ (option_to_list (change_at base new n) ++ changes base new (n + 1) q))
    (sym (changes_alike base base image new 0 n (λ m low high. refl) (λ m low high. own_sector image n m content (λ e. absurd (omega (arith, high, e))))))
    ∙ ap (λ last. front ++ (option_to_list (change_at base new n) ++ last))
    (sym (changes_alike base base image new (n + 1) q (λ m low high. refl) (λ m low high. own_sector image n m content (λ e. absurd (omega (arith, low, e)))))) in
    let below : All (λ (s : ChangedValue). s.number < n) front =
    λ i d inside. let at = numbers_within base image 0 n i d inside in let high = at.1 in omega (arith, high) in
    let above : All (λ (s : ChangedValue). n < s.number) back =
    λ i d inside. let at = numbers_within base image (n + 1) q i d inside in let low = at.0 in omega (arith, low) in
    let from : All (λ (s : ChangedValue). n ≤ s.number) (option_to_list was ++ back) =
    both_all (λ (s : ChangedValue). n ≤ s.number) (option_to_list was) back
    (λ i d inside. let own = own_number base image n i d inside in omega (arith, own))
    (λ i d inside. let more = above i d inside in omega (arith, more)) in
    let P : List ChangedValue → Type 0 = λ ys. place ≤ length ys in
    let Q : List ChangedValue → Type 0 = λ ys. (k : ℕ) (d : ChangedValue) → k < place → (slice_index_or ys k d).number < n in
    let R : List ChangedValue → Type 0 = λ ys. (k : ℕ) (d : ChangedValue) → place ≤ k → k < length ys → n ≤ (slice_index_or ys k d).number in
    let here : place ≡ length front = place_is front (option_to_list was ++ back) n place below from (subst P parts bound) (subst Q parts before) (subst R parts beyond) in
    ap (λ ys. relisted ys place there change) parts
    ∙ ap (λ p. relisted (front ++ (option_to_list was ++ back)) p there change) here
    ∙ relist front back was n there change (own_number base image n) above
    (test ∙ ap (λ ys. option_map_or (λ (s : ChangedValue). s.number == n) (slice_get ys place) false) parts
    ∙ ap (λ p. option_map_or (λ (s : ChangedValue). s.number == n) (slice_get (front ++ (option_to_list was ++ back)) p) false) here)
    ∙ ap (λ o. front ++ (option_to_list o ++ back)) told
    ∙ sym after

-- one sector is one listed sector at most
option_short : (o : Option ChangedValue) → length (option_to_list o) ≤ 1
option_short None = omega arith
option_short (Some x) = omega arith

pub one_sector_less : (base image : ℕ → List ℕ) (count n : ℕ) (content : List ℕ) → n < count
    → length (changes base image 0 count) ≤ length (changes base (with_sector image n content) 0 count) + 1
one_sector_less base image count n content lt =
    let new : ℕ → List ℕ = with_sector image n content in
    let q : ℕ = count - (n + 1) in
    let size : count ≡ n + suc q = omega (arith, lt) in
    let zero_n : 0 + n ≡ n = omega arith in
    let was : Option ChangedValue = change_at base image n in
    let is : Option ChangedValue = change_at base new n in
    let old_is = ap (changes base image 0) size ∙ changes_split base image 0 n q
    ∙ ap (λ m. changes base image 0 n ++ (option_to_list (change_at base image m) ++ changes base image (m + 1) q)) zero_n in
    let new_is = ap (changes base new 0) size ∙ changes_split base new 0 n q
    ∙ ap (λ m. changes base new 0 n ++ (option_to_list (change_at base new m) ++ changes base new (m + 1) q)) zero_n in
    let front = ap length (changes_alike base base image new 0 n (λ m low high. refl) (λ m low high. own_sector image n m content (λ e. absurd (omega (arith, high, e))))) in
    let back = ap length (changes_alike base base image new (n + 1) q (λ m low high. refl) (λ m low high. own_sector image n m content (λ e. absurd (omega (arith, low, e))))) in
    let one = ap length old_is ∙ length-append (changes base image 0 n) (option_to_list was ++ changes base image (n + 1) q) in
    let two = length-append (option_to_list was) (changes base image (n + 1) q) in
    let three = ap length new_is ∙ length-append (changes base new 0 n) (option_to_list is ++ changes base new (n + 1) q) in
    let four = length-append (option_to_list is) (changes base new (n + 1) q) in
    omega (arith, one, two, three, four, front, back, option_short was)

-- the sectors of another image from one on, and one more of them
pub others_there : (image other : ℕ → List ℕ) (a k n : ℕ) → a ≤ n → n < a + k → with_sectors image a k other n ≡ other n
others_there image other a k n low high =
    ap (λ b. if b && nat_lt n (a + k) then other n else image n) (le-leb a n low) ∙ ap (λ b. if b then other n else image n) (lt-ltb n (a + k) high)

pub others_before : (image other : ℕ → List ℕ) (a k n : ℕ) → n < a → with_sectors image a k other n ≡ image n
others_before image other a k n lt = ap (λ b. if b && nat_lt n (a + k) then other n else image n) (lt-leb a n lt)

pub others_after : (image other : ℕ → List ℕ) (a k n : ℕ) → a + k ≤ n → with_sectors image a k other n ≡ image n
others_after image other a k n le =
    ap (λ b. if nat_le a n && b then other n else image n) (le-ltb n (a + k) le)
    ∙ ap (λ b. if b && false then other n else image n) (le-leb a n (omega (arith, le)))

pub other_more : (image other : ℕ → List ℕ) (a k s n : ℕ) → s ≡ a + k
    → with_sector (with_sectors image a k other) s (other s) n ≡ with_sectors image a (k + 1) other n
other_more image other a k s n is = elim (eqb_tells n s) [
  | inl same ↦
      ap (λ b. if b then other s else with_sectors image a k other n) same.0 ∙ ap other (sym same.1)
      ∙ sym (let here = same.1 in others_there image other a (k + 1) n (omega (arith, is, here)) (omega (arith, is, here)))
  | inr differ ↦
      ap (λ b. if b then other s else with_sectors image a k other n) differ.0
      ∙ elim (cases_lt n a) [
        | inl before ↦ others_before image other a k n before ∙ sym (others_before image other a (k + 1) n before)
        | inr from ↦ elim (cases_lt n (a + k)) [
          | inl within ↦ others_there image other a k n from within ∙ sym (others_there image other a (k + 1) n from (omega (arith, within)))
          | inr past ↦ elim (cases_lt (a + k) n) [
            | inl beyond ↦ others_after image other a k n past ∙ sym (others_after image other a (k + 1) n (omega (arith, beyond)))
            | inr end ↦ absurd (differ.1 (let here : n ≡ s = omega (arith, past, end, is) in here))
          ]
        ]
      ]
]

-- each sector that is replaced takes away one listed sector at most
pub sectors_less : (base image other : ℕ → List ℕ) (count a k : ℕ) → a + k ≤ count
    → length (changes base image 0 count) ≤ length (changes base (with_sectors image a k other) 0 count) + k
sectors_less base image other count a zero le =
    let same = ap length (changes_alike base base image (with_sectors image a 0 other) 0 count (λ n low high. refl) (λ n low high. elim (cases_lt n a) [
      | inl before ↦ sym (others_before image other a 0 n before)
      | inr from ↦ sym (others_after image other a 0 n (omega (arith, from)))
    ])) in
    omega (arith, same)
sectors_less base image other count a (suc k) le =
    let s : ℕ = a + k in
    let was = sectors_less base image other count a k (omega (arith, le)) in
    let one = one_sector_less base (with_sectors image a k other) count s (other s) (omega (arith, le)) in
    let same = ap length (changes_alike base base (with_sector (with_sectors image a k other) s (other s)) (with_sectors image a (suc k) other) 0 count
    (λ n low high. refl) (λ n low high. other_more image other a k s n refl ∙ ap (λ m. with_sectors image a m other n) (add-one k))) in
    omega (arith, was, one, same)

-- a sector that is compared with that of the base
pub change_by_test : (base image : ℕ → List ℕ) (n : ℕ) (durable content : List ℕ) (same : Bool) → same ≡ pointwise nat_eq durable content → base n ≡ durable → image n ≡ content
    → (if same then None else Some (record { number = n; content = content })) ≡ change_at base image n
unfolding change_at
change_by_test base image n durable content same test here shown =
    ap (λ b. if b then None else Some (record { number = n; content = content })) test
    ∙ ap (λ x. if pointwise nat_eq x content then None else Some (record { number = n; content = content })) (sym here)
    ∙ ap (λ (x : List ℕ). if pointwise nat_eq (base n) x then None else Some (record { number = n; content = x })) (sym shown)
