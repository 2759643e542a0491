-- What is at risk at a cut, by the last flush entry before it, and the parts that are.
use Rattle.std.proofs.Common.{ℕ, zero, suc, ◌≡◌, ◌+◌, ◌-◌, ◌*◌, ◌<◌, ◌≤◌, ◌==◌, nat_le, Bool, true, false, not, ◌&&◌, ◌||◌, if◌then◌else◌, List, [], ◌∷◌, ◌++◌, length, map, filter, slice_get, Some, refl, sym, ◌∙◌, ap, arith, append_assoc, add-one, inl, inr}
use Rattle.std.specs.List.{range_with_len}
use Rattle.std.specs.Option.{option_map_or}
use Rattle.std.proofs.lemmas.Bool.Decides.{eqb_tells, nat_tests}
use Rattle.std.proofs.lemmas.List.{map-append}
use Rattle.std.proofs.lemmas.List.Elements.{filter-append}
use Rattle.std.proofs.lemmas.Option.{slice_get_cases, same_Some}
use Rattle.base.proofs.Lists.{range_with_len-more, filter-map_all, filter-map_none}
use Rattle.logfmt.specs.declared.entry.Entry.{Entry}
use Rattle.epochs.specs.declared.part.Part.{Part}
use Rattle.epochs.specs.declared.part.By.{By}
use Rattle.epochs.specs.Cuts.{is_flush_at}
use Rattle.epochs.specs.Laws.{last_flush}
use Rattle.epochs.specs.Units.{is_forced, is_flush_between}
use Rattle.epochs.specs.Parts.{part_size, part_count, part_of, parts_of_entry, parts_before}
use Rattle.epochs.proofs.Growth.{parts_before-next}
use Rattle.cases.specs.Risk.{is_at_risk, parts_at_risk}
use Rattle.cases.proofs.Cuts.{flush_between-next, no_flush_between}

-- the search for the last flush entry, down from a cut

flag_at : (es : List Entry) (k : ℕ) (x : Entry) → slice_get es k ≡ Some x → is_flush_at es k ≡ x.flags.flush
flag_at es k x there = ap (λ o. option_map_or (λ (entry : Entry). entry.flags.flush) o false) there

pub flush_found : (es : List Entry) (n m : ℕ) (x : Entry) → 0 < n → m ≡ n - 1 → slice_get es m ≡ Some x → x.flags.flush ≡ true → last_flush es n ≡ m
flush_found es zero m x some is there flush = absurd (omega (arith, some))
flush_found es (suc k) m x some is there flush =
    let same : m ≡ k = omega (arith, is) in
    ap (λ b. if b then k else last_flush es k) (ap (is_flush_at es) (sym same) ∙ flag_at es m x there ∙ flush) ∙ sym same

pub flush_passed : (es : List Entry) (n m : ℕ) (x : Entry) → 0 < n → m ≡ n - 1 → slice_get es m ≡ Some x → x.flags.flush ≡ false → last_flush es n ≡ last_flush es m
flush_passed es zero m x some is there flush = absurd (omega (arith, some))
flush_passed es (suc k) m x some is there flush =
    let same : m ≡ k = omega (arith, is) in
    ap (λ b. if b then k else last_flush es k) (ap (is_flush_at es) (sym same) ∙ flag_at es m x there ∙ flush) ∙ ap (last_flush es) (sym same)

-- no flush entry stands after an entry where the last one stands at it, or before
flush_told : (es : List Entry) (e k : ℕ) → k ≤ length es → e < k → not (is_flush_between es e k) ≡ nat_le (last_flush es k) e
flush_told es e zero le lt = absurd (omega (arith, lt))
flush_told es e (suc k) le lt = elim (slice_get_cases es k).1 [
  | inr past ↦ let end = past.0 in absurd (omega (arith, end, le))
  | inl a ↦ elim (eqb_tells e k) [
    | inl same ↦ ap (λ n. not (is_flush_between es n (suc k))) same.1 ∙ ap not (no_flush_between es k) ∙ sym (own same.1 (is_flush_at es k))
    | inr other ↦
        let apart = other.1 in
        let less : e < k = omega (arith, apart, lt) in
        ap not (flush_between-next es e k a.0 a.2 less) ∙ ap (λ b. not (is_flush_between es e k || b)) (sym (flag_at es k a.0 a.2))
        ∙ by_flag less (is_flush_at es k) (flush_told es e k (omega (arith, le)) less)
  ]
]
  where
    own : e ≡ k → (b : Bool) → nat_le (if b then k else last_flush es k) e ≡ true
    own same true = grind (arith, nat_tests, same)
    own same false = let low = Rattle.epochs.proofs.Runs.last_flush_le es k in grind (arith, nat_tests, same, low)

    by_flag : e < k → (b : Bool) → not (is_flush_between es e k) ≡ nat_le (last_flush es k) e
        → not (is_flush_between es e k || b) ≡ nat_le (if b then k else last_flush es k) e
    by_flag less true so = let late : nat_le k e ≡ false = grind (arith, nat_tests, less) in ap not (or_yes (is_flush_between es e k)) ∙ sym late
      where
        or_yes : (b : Bool) → (b || true) ≡ true
        or_yes true = refl
        or_yes false = refl
    by_flag less false so = ap not (or_no (is_flush_between es e k)) ∙ so
      where
        or_no : (b : Bool) → (b || false) ≡ b
        or_no true = refl
        or_no false = refl

pub risk_told : (es : List Entry) (k e flush : ℕ) (x : Entry) (ready : Bool) → k ≤ length es → e < k → flush ≡ last_flush es k → slice_get es e ≡ Some x
    → ready ≡ (not x.flags.fua || (e + 1 == k)) → (if ready then nat_le flush e else false) ≡ is_at_risk es k e
risk_told es k e flush x ready le lt flush_is there ready_is =
    let forced : x.flags.fua ≡ is_forced es e = sym (ap (λ o. option_map_or (λ (entry : Entry). entry.flags.fua) o false) there) in
    by_ready ready
    ∙ (λ i. ready_is i && nat_le (flush_is i) e)
    ∙ ap (λ b. (not x.flags.fua || (e + 1 == k)) && b) (sym (flush_told es e k le lt))
    ∙ ap (λ f. (not f || (e + 1 == k)) && not (is_flush_between es e k)) forced
  where
    by_ready : (b : Bool) → (if b then nat_le flush e else false) ≡ (b && nat_le flush e)
    by_ready true = refl
    by_ready false = refl

-- no entry before the last flush entry is at risk
pub flushed : (es : List Entry) (k e : ℕ) → k ≤ length es → e < last_flush es k → is_at_risk es k e ≡ false
flushed es k e le less =
    let low = Rattle.epochs.proofs.Runs.last_flush_le es k in
    let late : nat_le (last_flush es k) e ≡ false = grind (arith, nat_tests, less) in
    ap (λ b. (not (is_forced es e) || (e + 1 == k)) && b) (flush_told es e k le (omega (arith, low, less)) ∙ late) ∙ and_no (not (is_forced es e) || (e + 1 == k))
  where
    and_no : (b : Bool) → (b && false) ≡ false
    and_no true = refl
    and_no false = refl

-- the parts of an entry, one after the other

pub put_one : {A : Type 0} (f : ℕ → A) (front xs more : List A) (n : ℕ) (x : A) → xs ≡ front ++ map f (range_with_len 0 n) → more ≡ xs ++ x ∷ [] → x ≡ f n
    → more ≡ front ++ map f (range_with_len 0 (n + 1))
put_one f front xs more n x so pushed own =
    let here : 0 + n ≡ n = omega arith in
    pushed
    ∙ (λ i. so i ++ own i ∷ [])
    ∙ append_assoc front (map f (range_with_len 0 n)) (f n ∷ [])
    ∙ ap (λ ys. front ++ ys)
    (ap (λ m. map f (range_with_len 0 n) ++ f m ∷ []) (sym here)
    ∙ sym (map-append f (range_with_len 0 n) ((0 + n) ∷ []))
    ∙ ap (map f) (sym (range_with_len-more 0 n)))

-- the parts of an entry are at risk together
pub own_risky : (way : By) (es : List Entry) (k e : ℕ) (x : Entry) (b : Bool) → is_at_risk es k e ≡ b
    → filter (λ (p : Part). is_at_risk es k p.entry) (parts_of_entry way e x) ≡ (if b then parts_of_entry way e x else [])
own_risky way es k e x true is = filter-map_all (λ (p : Part). is_at_risk es k p.entry) (part_of way e x) (range_with_len 0 (part_count way x)) (λ j. is)
own_risky way es k e x false is = filter-map_none (λ (p : Part). is_at_risk es k p.entry) (part_of way e x) (range_with_len 0 (part_count way x)) (λ j. is)

-- the parts at risk of the entries so far, and of one entry more
pub risky_more : (way : By) (es : List Entry) (k n : ℕ) (xs more : List Part) → n < length es
    → xs ≡ filter (λ (p : Part). is_at_risk es k p.entry) (parts_before way es n)
    → ((x : Entry) → slice_get es n ≡ Some x → more ≡ xs ++ filter (λ (p : Part). is_at_risk es k p.entry) (parts_of_entry way n x))
    → more ≡ filter (λ (p : Part). is_at_risk es k p.entry) (parts_before way es (n + 1))
risky_more way es k n xs more lt so put = elim (slice_get_cases es n).1 [
  | inr past ↦ let end = past.0 in absurd (omega (arith, end, lt))
  | inl a ↦
      put a.0 a.2
      ∙ ap (λ ys. ys ++ filter (λ (p : Part). is_at_risk es k p.entry) (parts_of_entry way n a.0)) so
      ∙ sym (filter-append (λ (p : Part). is_at_risk es k p.entry) (parts_before way es n) (parts_of_entry way n a.0))
      ∙ ap (filter (λ (p : Part). is_at_risk es k p.entry)) (sym (parts_before-next way es n a.0 a.2))
      ∙ ap (λ m. filter (λ (p : Part). is_at_risk es k p.entry) (parts_before way es m)) (sym (add-one n))
]

-- no part of an entry before the last flush entry is at risk
pub none_risky : (way : By) (es : List Entry) (k n : ℕ) → k ≤ length es → n ≤ last_flush es k → [] ≡ filter (λ (p : Part). is_at_risk es k p.entry) (parts_before way es n)
none_risky way es k zero le low = refl
none_risky way es k (suc n) le low =
    let most = Rattle.epochs.proofs.Runs.last_flush_le es k in
    elim (slice_get_cases es n).1 [
      | inr past ↦ let end = past.0 in absurd (omega (arith, end, most, low, le))
      | inl a ↦
          sym (ap (filter (λ (p : Part). is_at_risk es k p.entry)) (parts_before-next way es n a.0 a.2)
          ∙ filter-append (λ (p : Part). is_at_risk es k p.entry) (parts_before way es n) (parts_of_entry way n a.0)
          ∙ ap (λ ps. ps ++ filter (λ (p : Part). is_at_risk es k p.entry) (parts_of_entry way n a.0)) (sym (none_risky way es k n le (omega (arith, low))))
          ∙ own_risky way es k n a.0 false (flushed es k n le (omega (arith, low))))
    ]

pub all_risky : (way : By) (es : List Entry) (k n : ℕ) (xs : List Part) → n ≡ k → xs ≡ filter (λ (p : Part). is_at_risk es k p.entry) (parts_before way es n)
    → xs ≡ parts_at_risk way es k
unfolding parts_at_risk
all_risky way es k n xs same is = is ∙ ap (λ m. filter (λ (p : Part). is_at_risk es k p.entry) (parts_before way es m)) same

-- the parts of an entry are put where it is at risk
pub put_where : (way : By) (es : List Entry) (k e : ℕ) (x y : Entry) (b : Bool) (xs more : List Part) → slice_get es e ≡ Some x → slice_get es e ≡ Some y → is_at_risk es k e ≡ b
    → more ≡ xs ++ (if b then parts_of_entry way e x else []) → more ≡ xs ++ filter (λ (p : Part). is_at_risk es k p.entry) (parts_of_entry way e y)
put_where way es k e x y b xs more here there is put =
    let same : x ≡ y = same_Some x y (sym here ∙ there) in
    put ∙ ap (λ ys. xs ++ ys) (sym (own_risky way es k e x b is)) ∙ ap (λ z. xs ++ filter (λ (p : Part). is_at_risk es k p.entry) (parts_of_entry way e z)) same

-- a part, as it is made
pub part_made : (way : By) (e : ℕ) (x : Entry) (j size : ℕ) → size ≡ part_size way x
    → ◌≡◌ {A = Part} (record { entry = e; place = j * size; count = size; sector = x.sector + j * size }) (part_of way e x j)
part_made way e x j size is = λ i. record { entry = e; place = j * is i; count = is i; sector = x.sector + j * is i }
