-- The volatile parts that cover one of some sectors, entry after entry.
use Rattle.std.proofs.Common.{ℕ, zero, suc, ◌≡◌, ◌+◌, ◌-◌, ◌*◌, ◌^◌, ◌<◌, ◌≤◌, Bool, true, false, nat_le, nat_lt, ◌&&◌, ◌||◌, cond, if◌then◌else◌, List, [], ◌∷◌, ◌++◌, length, map, filter, drop, slice_get, get_or, Some, refl, sym, ◌∙◌, ap, inl, inr, arith, length-append, length-drop, add-one}
use Rattle.std.specs.List.{range_with_len, list_any}
use Rattle.std.specs.Option.{option_map_or}
use Rattle.std.proofs.lemmas.Bool.{cases_lt, le-leb}
use Rattle.std.proofs.lemmas.Bool.Decides.{nat_tests}
use Rattle.std.proofs.Math.ListN.{drop_of_length-le}
use Rattle.std.proofs.lemmas.List.{append-nil, drop-append-le, map-append}
use Rattle.std.proofs.lemmas.List.Elements.{filter-append}
use Rattle.std.proofs.lemmas.List.Folds.{list_any_at}
use Rattle.std.proofs.lemmas.List.FromFn.{length-map-range_with_len, get_or-map-range_with_len}
use Rattle.std.proofs.lemmas.Option.{slice_get_within, slice_get-get_or, get_or_from_slice_get}
use Rattle.base.proofs.Lists.{range_with_len-append, range_with_len-more, slice_get-append_left, slice_get-append_right}
use Rattle.logfmt.specs.declared.entry.Entry.{Entry}
use Rattle.logfmt.specs.Bounds.{LogValue, IsLog}
use Rattle.epochs.specs.declared.part.Part.{Part}
use Rattle.epochs.specs.declared.part.By.{By}
use Rattle.epochs.specs.declared.table.CutRow.{CutRow}
use Rattle.epochs.specs.Parts.{part_size, part_count, part_of, parts_of_entry, volatile_parts}
use Rattle.epochs.specs.Table.{unforced_parts, IsRow, Found}
use Rattle.epochs.specs.Laws.{last_flush}
use Rattle.epochs.specs.Touching.{covers, touches, places_where, touching, touching_parts, touching_before}
use Rattle.epochs.proofs.Parts.{part_inside}
use Rattle.epochs.proofs.Growth.{own_parts, unforced_parts-next}
use Rattle.epochs.proofs.Rows.{length-own_parts}
use Rattle.epochs.proofs.Runs.{volatile_is_run, last_flush_le}
use Rattle.epochs.proofs.Search.{unforced_parts-prefix, unforced_parts-rise, before_cut}
use Rattle.epochs.proofs.CutSets.{keeps_filter}

-- tests of the numbers of a range that tell alike
filter_range : (p q : ℕ → Bool) (a n : ℕ) → ((i : ℕ) → a ≤ i → i < a + n → p i ≡ q i) → filter p (range_with_len a n) ≡ filter q (range_with_len a n)
filter_range p q a zero same = refl
filter_range p q a (suc n) same =
    let here : p a ≡ q a = same a (omega arith) (omega arith) in
    let rest = filter_range p q (a + 1) n (λ i low high. same i (omega (arith, low)) (omega (arith, high))) in
    ap (λ b. cond b (a ∷ filter p (range_with_len (a + 1) n)) (filter p (range_with_len (a + 1) n))) here
    ∙ ap (λ xs. cond (q a) (a ∷ xs) xs) rest

map_cond : (f : ℕ → ℕ) (b : Bool) (x : ℕ) (xs : List ℕ) → cond b (f x ∷ map f xs) (map f xs) ≡ map f (cond b (x ∷ xs) xs)
map_cond f true x xs = refl
map_cond f false x xs = refl

-- a range that begins further on
filter_shift : (p : ℕ → Bool) (a b n : ℕ) → filter p (range_with_len (a + b) n) ≡ map (λ j. a + j) (filter (λ j. p (a + j)) (range_with_len b n))
filter_shift p a b zero = refl
filter_shift p a b (suc n) =
    let f : ℕ → ℕ = λ j. a + j in
    let e : a + b + 1 ≡ a + (b + 1) = omega arith in
    let rest : filter p (range_with_len (a + b + 1) n) ≡ map f (filter (λ j. p (a + j)) (range_with_len (b + 1) n)) =
    ap (λ c. filter p (range_with_len c n)) e ∙ filter_shift p a (b + 1) n in
    ap (λ xs. cond (p (a + b)) ((a + b) ∷ xs) xs) rest
    ∙ map_cond f (p (a + b)) b (filter (λ j. p (a + j)) (range_with_len (b + 1) n))

-- the places in a list that has another after it
pub places-append : {A : Type 0} (p : A → Bool) (xs ys : List A) → places_where p (xs ++ ys) ≡ places_where p xs ++ map (λ j. length xs + j) (places_where p ys)
places-append {A = A} p xs ys =
    let n : ℕ = length xs in
    let m : ℕ = length ys in
    let t : ℕ → Bool = λ i. option_map_or p (slice_get (xs ++ ys) i) false in
    let zero_n : n ≡ n + 0 = omega arith in
    let start : 0 + n ≡ n + 0 = omega arith in
    let first : filter t (range_with_len 0 n) ≡ places_where p xs =
    filter_range t (λ i. option_map_or p (slice_get xs i) false) 0 n
    (λ i low high. ap (λ o. option_map_or p o false) (slice_get-append_left xs ys i (omega (arith, high)))) in
    let second : filter t (range_with_len (0 + n) m) ≡ map (λ j. n + j) (places_where p ys) =
    ap (λ c. filter t (range_with_len c m)) start ∙ filter_shift t n 0 m
    ∙ ap (map (λ j. n + j)) (filter_range (λ j. t (n + j)) (λ j. option_map_or p (slice_get ys j) false) 0 m
    (λ j low high. ap (λ o. option_map_or p o false) (slice_get-append_right xs ys j))) in
    ap (λ k. filter t (range_with_len 0 k)) (length-append xs ys)
    ∙ ap (filter t) (range_with_len-append 0 n m)
    ∙ filter-append t (range_with_len 0 n) (range_with_len (0 + n) m)
    ∙ ap (λ zs. zs ++ filter t (range_with_len (0 + n) m)) first
    ∙ ap (λ zs. places_where p xs ++ zs) second

-- the places in a list of that many elements that are made of their places
places_made : {A : Type 0} (p : A → Bool) (f : ℕ → A) (n : ℕ) → places_where p (map f (range_with_len 0 n)) ≡ filter (λ j. p (f j)) (range_with_len 0 n)
places_made {A = A} p f n =
    let xs : List A = map f (range_with_len 0 n) in
    let long : length xs ≡ n = length-map-range_with_len f 0 n in
    let there : (i : ℕ) → i < n → slice_get xs i ≡ Some (f i) =
    λ i lt.
    let at : 0 + i ≡ i = omega arith in
    slice_get-get_or xs i (f i) (omega (arith, long, lt)) ∙ ap (λ (x : A). Some x) (get_or-map-range_with_len f 0 n i i (f i) lt at) in
    ap (λ k. filter (λ i. option_map_or p (slice_get xs i) false) (range_with_len 0 k)) long
    ∙ filter_range (λ i. option_map_or p (slice_get xs i) false) (λ j. p (f j)) 0 n
    (λ i low high. ap (λ o. option_map_or p o false) (there i (omega (arith, high))))

-- one part more of an entry
pub parts_begin : (way : By) (e : ℕ) (x : Entry) (sectors : List ℕ) (first : ℕ) → touching_parts way e x sectors first 0 ≡ []
unfolding touching_parts
parts_begin way e x sectors first = refl

parts_more : (way : By) (e : ℕ) (x : Entry) (sectors : List ℕ) (first n : ℕ)
    → touching_parts way e x sectors first (n + 1)
    ≡ touching_parts way e x sectors first n ++ map (λ j. first + j) (if touches sectors (part_of way e x n) then n ∷ [] else [])
unfolding touching_parts
parts_more way e x sectors first n =
    let t : ℕ → Bool = λ j. touches sectors (part_of way e x j) in
    let f : ℕ → ℕ = λ j. first + j in
    let at : 0 + n ≡ n = omega arith in
    ap (λ ns. map f (filter t ns)) (range_with_len-more 0 n)
    ∙ ap (map f) (filter-append t (range_with_len 0 n) ((0 + n) ∷ []))
    ∙ map-append f (filter t (range_with_len 0 n)) (filter t ((0 + n) ∷ []))
    ∙ ap (λ m. map f (filter t (range_with_len 0 n)) ++ map f (if t m then m ∷ [] else [])) at

-- a part as it is tested
pub part_tested : (way : By) (e : ℕ) (x : Entry) (sectors : List ℕ) (n place size : ℕ) (b t : Bool) → place ≡ n → size ≡ part_size way x
    → b ≡ list_any (λ m. nat_le (x.sector + place * size) m && nat_lt m (x.sector + place * size + size)) sectors → b ≡ t
    → touches sectors (part_of way e x n) ≡ t
part_tested way e x sectors n place size b t here sized tested is =
    sym (ap (λ j. touches sectors (part_of way e x j)) here)
    ∙ sym (ap (λ k. list_any (λ m. nat_le (x.sector + place * k) m && nat_lt m (x.sector + place * k + k)) sectors) sized)
    ∙ sym tested ∙ is

pub part_told : (way : By) (e : ℕ) (x : Entry) (sectors : List ℕ) (first n : ℕ) → touches sectors (part_of way e x n) ≡ true
    → touching_parts way e x sectors first (n + 1) ≡ touching_parts way e x sectors first n ++ (first + n) ∷ []
part_told way e x sectors first n h =
    parts_more way e x sectors first n ∙ ap (λ b. touching_parts way e x sectors first n ++ map (λ j. first + j) (if b then n ∷ [] else [])) h

pub part_left : (way : By) (e : ℕ) (x : Entry) (sectors : List ℕ) (first n : ℕ) → touches sectors (part_of way e x n) ≡ false
    → touching_parts way e x sectors first (n + 1) ≡ touching_parts way e x sectors first n
part_left way e x sectors first n h =
    parts_more way e x sectors first n ∙ ap (λ b. touching_parts way e x sectors first n ++ map (λ j. first + j) (if b then n ∷ [] else [])) h
    ∙ append-nil (touching_parts way e x sectors first n)

-- an entry that covers none of the sectors has no part that covers one
within_one : (a b c d : ℕ) (n : ℕ) → a ≤ c → d ≤ b → (nat_le a n && nat_lt n b) ≡ false → (nat_le c n && nat_lt n d) ≡ false
within_one a b c d n low high h = grind (arith, nat_tests, low, high, h)

none_within : (a b c d : ℕ) (ns : List ℕ) → a ≤ c → d ≤ b → list_any (λ n. nat_le a n && nat_lt n b) ns ≡ false
    → list_any (λ n. nat_le c n && nat_lt n d) ns ≡ false
none_within a b c d [] low high h = refl
none_within a b c d (n ∷ ns) low high h =
    let none : (v : Bool) → (nat_le a n && nat_lt n b) ≡ v → (v || list_any (λ m. nat_le a m && nat_lt m b) ns) ≡ false
    → ((nat_le c n && nat_lt n d) || list_any (λ m. nat_le c m && nat_lt m d) ns) ≡ false =
    λ v. elim v as (λ u. (nat_le a n && nat_lt n b) ≡ u → (u || list_any (λ m. nat_le a m && nat_lt m b) ns) ≡ false → ((nat_le c n && nat_lt n d) || list_any (λ m. nat_le c m && nat_lt m d) ns) ≡ false) [
      | true ↦ λ e one. absurd (let bad : true ≡ false = one in cc)
      | false ↦ λ e rest. ap (λ u. u || list_any (λ m. nat_le c m && nat_lt m d) ns) (within_one a b c d n low high e) ∙ none_within a b c d ns low high rest
    ] in
    none (nat_le a n && nat_lt n b) refl h

pub none_told : (way : By) (e : ℕ) (x : Entry) (sectors : List ℕ) (first n : ℕ) → n ≤ part_count way x
    → list_any (λ m. nat_le x.sector m && nat_lt m (x.sector + x.count)) sectors ≡ false → touching_parts way e x sectors first n ≡ []
none_told way e x sectors first zero le none = parts_begin way e x sectors first
none_told way e x sectors first (suc n) le none =
    let inside = part_inside way x n (omega (arith, le)) in
    let size : ℕ = part_size way x in
    ap (touching_parts way e x sectors first) (sym (add-one n))
    ∙ part_left way e x sectors first n
    (none_within x.sector (x.sector + x.count) (x.sector + n * size) (x.sector + n * size + size) sectors (omega arith) (omega (arith, inside)) none)
    ∙ none_told way e x sectors first n (omega (arith, le)) none

-- the numbers of the parts of an entry, after those before it
own_told : (way : By) (e : ℕ) (x : Entry) (sectors : List ℕ) (first : ℕ)
    → map (λ j. first + j) (places_where (touches sectors) (own_parts way e x)) ≡ touching_parts way e x sectors first (length (own_parts way e x))
unfolding touching_parts
own_told way e x sectors first = by x.flags.fua refl
  where
    by : (b : Bool) → x.flags.fua ≡ b
        → map (λ j. first + j) (places_where (touches sectors) (if b then [] else parts_of_entry way e x))
        ≡ map (λ j. first + j) (filter (λ j. touches sectors (part_of way e x j)) (range_with_len 0 (length (if b then [] else parts_of_entry way e x))))
    by true h = refl
    by false h =
        ap (map (λ j. first + j)) (places_made (touches sectors) (part_of way e x) (part_count way x))
        ∙ ap (λ n. map (λ j. first + j) (filter (λ j. touches sectors (part_of way e x j)) (range_with_len 0 n)))
        (sym (length-map-range_with_len (part_of way e x) 0 (part_count way x)))

-- one entry more
pub touching_next : (way : By) (es : List Entry) (sectors : List ℕ) (d e : ℕ) (x : Entry) (first count : ℕ) → slice_get es e ≡ Some x
    → d ≤ length (unforced_parts way es e) → first ≡ length (unforced_parts way es e) - d
    → count ≡ length (unforced_parts way es (e + 1)) - length (unforced_parts way es e)
    → touching_before way es sectors d (e + 1) ≡ touching_before way es sectors d e ++ touching_parts way e x sectors first count
unfolding touching_before
touching_next way es sectors d e x first count here le is many =
    let us : List Part = unforced_parts way es e in
    let own : List Part = own_parts way e x in
    let grown : unforced_parts way es (e + 1) ≡ us ++ own = ap (unforced_parts way es) (add-one e) ∙ unforced_parts-next way es e x here in
    let long = ap length grown ∙ length-append us own in
    let left : length (drop d us) ≡ first = omega (arith, length-drop d us, is) in
    let added : length own ≡ count = omega (arith, many, long) in
    ap (λ ps. places_where (touches sectors) (drop d ps)) grown
    ∙ ap (places_where (touches sectors)) (drop-append-le d us own le)
    ∙ places-append (touches sectors) (drop d us) own
    ∙ ap (λ n. places_where (touches sectors) (drop d us) ++ map (λ j. n + j) (places_where (touches sectors) own)) left
    ∙ ap (λ ns. places_where (touches sectors) (drop d us) ++ ns) (own_told way e x sectors first)
    ∙ ap (λ n. places_where (touches sectors) (drop d us) ++ touching_parts way e x sectors first n) added

-- no fewer before a later cut
pub touching_rise : (way : By) (es : List Entry) (sectors : List ℕ) (d e n : ℕ) → d ≤ length (unforced_parts way es e) → e ≤ n → n ≤ length es
    → length (touching_before way es sectors d e) ≤ length (touching_before way es sectors d n)
unfolding touching_before
touching_rise way es sectors d e n le low high =
    let us : List Part = unforced_parts way es e in
    let at : e + (n - e) ≡ n = omega (arith, low) in
    let more = unforced_parts-prefix way es e (n - e) (omega (arith, at, high)) in
    let all : touching_before way es sectors d n ≡ touching_before way es sectors d e ++ map (λ j. length (drop d us) + j) (places_where (touches sectors) more.0) =
    ap (λ m. touching_before way es sectors d m) (sym at)
    ∙ ap (λ ps. places_where (touches sectors) (drop d ps)) more.1
    ∙ ap (places_where (touches sectors)) (drop-append-le d us more.0 le)
    ∙ places-append (touches sectors) (drop d us) more.0 in
    let long = ap length all ∙ length-append (touching_before way es sectors d e) (map (λ j. length (drop d us) + j) (places_where (touches sectors) more.0)) in
    omega (arith, long)

-- where the run of a cut begins
durable_start : (way : By) (es : List Entry) (k : ℕ) (row : CutRow) → IsRow way es k row → k ≤ length es
    → row.durable ≡ length (unforced_parts way es (last_flush es k))
durable_start way es k row is le =
    let us : List Part = unforced_parts way es k in
    let s : ℕ = length (unforced_parts way es (last_flush es k)) in
    let rise = unforced_parts-rise way es (last_flush es k) k (last_flush_le es k) le in
    let own = length-drop row.durable us in
    let other = length-drop s us in
    let same : length (drop row.durable us) ≡ length (drop s us) = ap length (sym is.volatile ∙ volatile_is_run way es k le) in
    omega (arith, rise, own, other, same, is.durable, is.start)

-- the entry of the first volatile part: no part before it is volatile, and it lies before the cut
pub record Begins (way : By) (es : List Entry) (k e durable : ℕ) : Type 0 where
  pub start : length (unforced_parts way es e) ≡ durable
  pub before : e < k

pub begins : (way : By) (es : List Entry) (k e : ℕ) (row : CutRow) → IsRow way es k row → k ≤ length es → (row.start ≡ row.durable → ⊥) → Found way es row.durable e
    → Begins way es k e row.durable
begins way es k e row is le some at =
    let s = durable_start way es k row is le in
    let inside = slice_get_within es e at.entry at.there in
    let lt : row.durable < length (unforced_parts way es k) = elim (cases_lt row.durable row.start) [
      | inl less ↦ omega (arith, less, is.start)
      | inr more ↦ let same : row.start ≡ row.durable = omega (arith, more, is.durable) in absurd (some same)
    ] in
    let beyond : last_flush es k ≤ e = elim (cases_lt e (last_flush es k)) [
      | inl less ↦
          let flush = last_flush_le es k in
          let rise = unforced_parts-rise way es (suc e) (last_flush es k) (omega (arith, less)) (omega (arith, flush, le)) in
          absurd (omega (arith, rise, s, at.high))
      | inr more ↦ more
    ] in
    let rise = unforced_parts-rise way es (last_flush es k) e beyond (omega (arith, inside)) in
    record {
      start = omega (arith, rise, s, at.low);
      before = before_cut way es k e row.durable at.entry at.there at.low lt le;
    }

-- none before the first
pub touching_begins : (way : By) (es : List Entry) (sectors : List ℕ) (d e : ℕ) → length (unforced_parts way es e) ≡ d → touching_before way es sectors d e ≡ []
unfolding touching_before
touching_begins way es sectors d e is = ap (places_where (touches sectors)) (drop_of_length-le (unforced_parts way es e) (omega (arith, is)))

-- all before the cut
pub touching_ends : (way : By) (es : List Entry) (sectors : List ℕ) (k : ℕ) (row : CutRow) → IsRow way es k row
    → touching_before way es sectors row.durable k ≡ touching way es k sectors
unfolding touching_before touching
touching_ends way es sectors k row is = ap (places_where (touches sectors)) (sym is.volatile)

-- none where no part is volatile
pub touching_none : (way : By) (es : List Entry) (sectors : List ℕ) (k : ℕ) (row : CutRow) → IsRow way es k row → row.start ≡ row.durable
    → touching way es k sectors ≡ []
touching_none way es sectors k row is none =
    sym (touching_ends way es sectors k row is) ∙ touching_begins way es sectors row.durable k (omega (arith, is.start, none))

-- they are numbers of volatile parts, and rise
pub touching_below : (way : By) (es : List Entry) (k : ℕ) (sectors : List ℕ) (i n : ℕ) → slice_get (touching way es k sectors) i ≡ Some n
    → n < length (volatile_parts way es k)
unfolding touching
touching_below way es k sectors i n there =
    let ps : List Part = volatile_parts way es k in
    ((keeps_filter (λ j. option_map_or (touches sectors) (slice_get ps j) false) (length ps)).sound i n there).0

pub touching_rises : (way : By) (es : List Entry) (k : ℕ) (sectors : List ℕ) (i j a b : ℕ) → i < j → slice_get (touching way es k sectors) i ≡ Some a
    → slice_get (touching way es k sectors) j ≡ Some b → a < b
unfolding touching
touching_rises way es k sectors i j a b lt first second =
    let ps : List Part = volatile_parts way es k in
    (keeps_filter (λ n. option_map_or (touches sectors) (slice_get ps n) false) (length ps)).rising i j a b lt first second

-- the parts of an entry, as they are counted
no_more : (b : Bool) (n : ℕ) → (if b then 0 else n) ≤ n
no_more true n = omega arith
no_more false n = omega arith

pub count_fits : (way own : By) (es : List Entry) (e : ℕ) (x : Entry) (start next : ℕ) → own ≡ way → slice_get es e ≡ Some x
    → start ≡ length (unforced_parts way es e) → next ≡ length (unforced_parts way es (e + 1)) → next - start ≤ part_count own x
count_fits way own es e x start next same here is after =
    let grown = ap (λ n. length (unforced_parts way es n)) (add-one e) ∙ ap length (unforced_parts-next way es e x here)
    ∙ length-append (unforced_parts way es e) (own_parts way e x) in
    let added = length-own_parts way e x in
    let few = no_more x.flags.fua (part_count way x) in
    let ways = ap (λ w. part_count w x) same in
    omega (arith, is, after, grown, added, few, ways)

pub entry_fits : (log : LogValue) (e : ℕ) (x : Entry) → IsLog log → slice_get log.entries e ≡ Some x → x.sector + x.count < 2 ^ 64
entry_fits log e x bounds here =
    let is = bounds.entries e x here in
    elim (cases_lt 0 x.count) [
      | inl some ↦ let on = is.device some in omega (arith, on, bounds.device)
      | inr none ↦ let fits = is.fits in omega (arith, none, fits)
    ]

-- a cut has volatile parts
pub some_volatile : (way : By) (es : List Entry) (k : ℕ) (row : CutRow) → IsRow way es k row → k ≤ length es → (row.start ≡ row.durable → ⊥)
    → row.durable < length (unforced_parts way es (length es))
some_volatile way es k row is le some =
    let rise = unforced_parts-rise way es k (length es) le (omega arith) in
    elim (cases_lt row.durable row.start) [
      | inl less ↦ omega (arith, less, is.start, rise)
      | inr more ↦ let same : row.start ≡ row.durable = omega (arith, more, is.durable) in absurd (some same)
    ]

-- what the loop over the entries before cut k has appended, at entry e
pub record Puts (way : By) (es : List Entry) (sectors old now : List ℕ) (d e k most : ℕ) : Type 0 where
  pub so : now ≡ old ++ touching_before way es sectors d e
  pub low : d ≤ length (unforced_parts way es e)
  pub high : e ≤ k
  pub few : length (touching_before way es sectors d e) ≤ most

pub puts_begin : (way : By) (es : List Entry) (sectors old : List ℕ) (k e most : ℕ) (row : CutRow) → IsRow way es k row → k ≤ length es
    → (row.start ≡ row.durable → ⊥) → Found way es row.durable e → Puts way es sectors old old row.durable e k most
puts_begin way es sectors old k e most row is le some at =
    let first = begins way es k e row is le some at in
    let start = first.start in
    let before = first.before in
    let none = touching_begins way es sectors row.durable e start in
    let long = ap length none in
    record {
      so = sym (append-nil old) ∙ ap (λ ns. old ++ ns) (sym none);
      low = omega (arith, start);
      high = omega (arith, before);
      few = omega (arith, long);
    }

pub puts_on : (way : By) (es : List Entry) (sectors old now new : List ℕ) (d e k most before long : ℕ) → Puts way es sectors old now d e k most → e < k → k ≤ length es
    → new ≡ old ++ touching_before way es sectors d (e + 1) → before ≡ length old → long ≡ length new → long - before ≤ most
    → Puts way es sectors old new d (e + 1) k most
puts_on way es sectors old now new d e k most before long was lt le is had has few =
    let rise = unforced_parts-rise way es e (e + 1) (omega arith) (omega (arith, lt, le)) in
    let low = was.low in
    let all = ap length is ∙ length-append old (touching_before way es sectors d (e + 1)) in
    record { so = is; low = omega (arith, low, rise); high = omega (arith, lt); few = omega (arith, all, had, has, few) }

pub leb_few : (n m : ℕ) → n ≤ m → true ≡ nat_le n m
leb_few n m h = sym (le-leb n m h)

leb_many : (n m : ℕ) → m < n → false ≡ nat_le n m
leb_many n m h = grind (arith, nat_tests, h)

-- there are too many
pub puts_many : (way : By) (es : List Entry) (sectors old now new : List ℕ) (e k most before long : ℕ) (row : CutRow)
    → Puts way es sectors old now row.durable e k most → IsRow way es k row → e < k → k ≤ length es
    → new ≡ old ++ touching_before way es sectors row.durable (e + 1) → before ≡ length old → long ≡ length new → most < long - before
    → false ≡ nat_le (length (touching way es k sectors)) most
puts_many way es sectors old now new e k most before long row was is lt le so had has many =
    let rise = unforced_parts-rise way es e (e + 1) (omega arith) (omega (arith, lt, le)) in
    let low = was.low in
    let all = ap length so ∙ length-append old (touching_before way es sectors row.durable (e + 1)) in
    let more = touching_rise way es sectors row.durable (e + 1) k (omega (arith, low, rise)) (omega (arith, lt)) le in
    let same = ap length (touching_ends way es sectors k row is) in
    leb_many (length (touching way es k sectors)) most (omega (arith, all, had, has, many, more, same))

-- and all of them
pub puts_end : (way : By) (es : List Entry) (sectors old now : List ℕ) (e k most : ℕ) (row : CutRow)
    → Puts way es sectors old now row.durable e k most → IsRow way es k row → k ≤ e
    → (now ≡ old ++ touching way es k sectors) × (true ≡ nat_le (length (touching way es k sectors)) most)
puts_end way es sectors old now e k most row was is le =
    let high = was.high in
    let at : e ≡ k = omega (arith, high, le) in
    let all : touching_before way es sectors row.durable e ≡ touching way es k sectors =
    ap (touching_before way es sectors row.durable) at ∙ touching_ends way es sectors k row is in
    let few = was.few in
    let long = ap length all in
    (was.so ∙ ap (λ ns. old ++ ns) all, leb_few (length (touching way es k sectors)) most (omega (arith, few, long)))

-- the number of each volatile part that covers one of the sectors is there
pub touching_has : (way : By) (es : List Entry) (k : ℕ) (sectors : List ℕ) (number at n : ℕ) (p : Part) → slice_get (volatile_parts way es k) number ≡ Some p
    → slice_get sectors at ≡ Some n → covers p n ≡ true → (i : ℕ) × (slice_get (touching way es k sectors) i ≡ Some number)
unfolding touching
touching_has way es k sectors number at n p here there own =
    let ps : List Part = volatile_parts way es k in
    let one : covers p (get_or sectors at n) ≡ true = ap (covers p) (get_or_from_slice_get sectors at n n there) ∙ own in
    let told : touches sectors p ≡ true = list_any_at (covers p) sectors at n (slice_get_within sectors at n there) one in
    (keeps_filter (λ j. option_map_or (touches sectors) (slice_get ps j) false) (length ps)).complete number (slice_get_within ps number p here)
    (ap (λ o. option_map_or (touches sectors) o false) here ∙ told)
