-- How many sectors of a record are on a device, by what is known of the record before it.
use Rattle.std.proofs.Common.{ℕ, zero, suc, ◌≡◌, ◌+◌, ◌<◌, ◌≤◌, ◌==◌, nat_eq, min, Bool, true, false, not, ◌&&◌, ◌||◌, if◌then◌else◌, List, [], ◌∷◌, ◌++◌, length, map, take, get_or, slice_get, Option, None, Some, refl, sym, subst, ◌∙◌, ap, arith, add-one, inl, inr}
use Rattle.std.specs.List.{list_all, list_any}
use Rattle.std.specs.Option.{option_map_or}
use Rattle.std.specs.Cmp.{first_so, second_so}
use Rattle.std.specs.Cmp.Lexicographic.{pointwise}
use Rattle.std.proofs.lemmas.Bool.{eqb-true}
use Rattle.std.proofs.lemmas.Bool.Decides.{Decides-eqb, nat_tests}
use Rattle.std.proofs.lemmas.Slice.Eq.{slice_eq-Decides}
use Rattle.std.proofs.lemmas.List.{map-append}
use Rattle.std.proofs.lemmas.Option.{same_Some, slice_get_within, slice_get-get_or}
use Rattle.base.proofs.Lists.{take-suc_place, slice_get_of_push, slice_get-append_left}
use Rattle.logfmt.specs.Bounds.{LogValue}
use Rattle.epochs.specs.declared.part.By.{By}
use Rattle.known.specs.declared.run.KnownRun.{KnownRun}
use Rattle.known.specs.declared.records.Looked.{Looked}
use Rattle.known.specs.declared.records.KeptRun.{KeptRun}
use Rattle.known.specs.Records.{RecordsValue, is_there, sectors_of_run, AreRecords, KeptValue, kept_value, kept_of_run, tells_at}
use Rattle.known.specs.Contradictions.{clashes}
use Rattle.known.specs.Linked.{same_looked, sectors_before, AreLinked, count_there, there_at, there_before}
use Rattle.known.proofs.Telling.{kept_one, kept_none, tells_by_kept}

-- sectors that are there, one after the other

pub there_more : (device : List (List ℕ)) (ks : List Looked) (n : ℕ) (k : Looked) → n ≤ count_there device ks → slice_get ks n ≡ Some k → is_there device k ≡ true → n + 1 ≤ count_there device ks
there_more device [] n k le there is = absurd (let bad : None ≡ Some k = there in cc)
there_more device (x ∷ ks) zero k le there is =
    let one : count_there device (x ∷ ks) ≡ suc (count_there device ks) = ap (λ b. if b then suc (count_there device ks) else 0) (ap (is_there device) (same_Some x k there) ∙ is) in
    omega (arith, one)
there_more device (x ∷ ks) (suc n) k le there is = by (λ few. there_more device ks n k few there is) (is_there device x) le
  where
    by : (n ≤ count_there device ks → n + 1 ≤ count_there device ks) → (b : Bool) → suc n ≤ (if b then suc (count_there device ks) else 0) → suc n + 1 ≤ (if b then suc (count_there device ks) else 0)
    by again true few = let more = again (omega (arith, few)) in omega (arith, more)
    by again false few = absurd (omega (arith, few))

pub there_stop : (device : List (List ℕ)) (ks : List Looked) (n : ℕ) (k : Looked) → n ≤ count_there device ks → slice_get ks n ≡ Some k → is_there device k ≡ false → n ≡ count_there device ks
there_stop device [] n k le there is = absurd (let bad : None ≡ Some k = there in cc)
there_stop device (x ∷ ks) zero k le there is = sym (ap (λ b. if b then suc (count_there device ks) else 0) (ap (is_there device) (same_Some x k there) ∙ is))
there_stop device (x ∷ ks) (suc n) k le there is = by (λ few. there_stop device ks n k few there is) (is_there device x) le
  where
    by : (n ≤ count_there device ks → n ≡ count_there device ks) → (b : Bool) → suc n ≤ (if b then suc (count_there device ks) else 0) → suc n ≡ (if b then suc (count_there device ks) else 0)
    by again true few = ap suc (again (omega (arith, few)))
    by again false few = absurd (omega (arith, few))

pub there_few : (device : List (List ℕ)) (ks : List Looked) → count_there device ks ≤ length ks
there_few device [] = omega arith
there_few device (k ∷ ks) = by (is_there device k) (there_few device ks)
  where
    by : (b : Bool) → count_there device ks ≤ length ks → (if b then suc (count_there device ks) else 0) ≤ suc (length ks)
    by true few = omega (arith, few)
    by false few = omega arith

pub there_all : (device : List (List ℕ)) (ks : List Looked) (n count : ℕ) → n ≤ count_there device ks → length ks ≤ n → count ≡ length ks → count ≡ count_there device ks
there_all device ks n count le all is = let few = there_few device ks in omega (arith, le, all, is, few)

-- the same of an element as it is read
pub read_more : (device : List (List ℕ)) (ks : List Looked) (n : ℕ) (d : Looked) → n ≤ count_there device ks → n < length ks → is_there device (get_or ks n d) ≡ true → n + 1 ≤ count_there device ks
read_more device ks n d le lt is = there_more device ks n (get_or ks n d) le (slice_get-get_or ks n d lt) is

pub read_stop : (device : List (List ℕ)) (ks : List Looked) (n : ℕ) (d : Looked) → n ≤ count_there device ks → n < length ks → is_there device (get_or ks n d) ≡ false → n ≡ count_there device ks
read_stop device ks n d le lt is = there_stop device ks n (get_or ks n d) le (slice_get-get_or ks n d lt) is

-- all are there where none isn't
pub all_or_some : (device : List (List ℕ)) (ks : List Looked) → list_all (is_there device) ks ≡ (count_there device ks == length ks)
all_or_some device [] = refl
all_or_some device (k ∷ ks) = by (is_there device k) (all_or_some device ks)
  where
    both : (a b : ℕ) → (a == b) ≡ (suc a == suc b)
    both a b = grind (arith, nat_tests)

    none : (n : ℕ) → false ≡ (0 == suc n)
    none n = grind (arith, nat_tests)

    by : (b : Bool) → list_all (is_there device) ks ≡ (count_there device ks == length ks) → (b && list_all (is_there device) ks) ≡ ((if b then suc (count_there device ks) else 0) == suc (length ks))
    by true rest = rest ∙ both (count_there device ks) (length ks)
    by false rest = none (length ks)

-- a list that begins as another

count_begins : (device : List (List ℕ)) (n : ℕ) (ks : List Looked) → count_there device (take n ks) ≡ min n (count_there device ks)
count_begins device zero ks = let none : 0 ≡ min 0 (count_there device ks) = omega arith in none
count_begins device (suc n) [] = let none : 0 ≡ min (suc n) 0 = omega arith in none
count_begins device (suc n) (k ∷ ks) = by (is_there device k) (count_begins device n ks)
  where
    by : (b : Bool) → count_there device (take n ks) ≡ min n (count_there device ks)
        → (if b then suc (count_there device (take n ks)) else 0) ≡ min (suc n) (if b then suc (count_there device ks) else 0)
    by true rest = omega (arith, rest)
    by false rest = omega arith

pub begins_less : (device : List (List ℕ)) (ks others : List Looked) (shared before : ℕ) → before ≡ count_there device others → take shared ks ≡ take shared others → before < shared → before ≡ count_there device ks
begins_less device ks others shared before is same less =
    let one = count_begins device shared ks in
    let two = count_begins device shared others in
    let both = ap (count_there device) same in
    omega (arith, one, two, both, is, less)

pub begins_more : (device : List (List ℕ)) (ks others : List Looked) (shared before : ℕ) → before ≡ count_there device others → take shared ks ≡ take shared others → shared ≤ before → shared ≤ count_there device ks
begins_more device ks others shared before is same more =
    let one = count_begins device shared ks in
    let two = count_begins device shared others in
    let both = ap (count_there device) same in
    omega (arith, one, two, both, is, more)

-- of records, by what is kept

own_sectors : (v : RecordsValue) (kept : List KeptRun) (place : ℕ) (k : KeptRun) (device : List (List ℕ)) → AreRecords v kept → slice_get kept place ≡ Some k
    → there_at v device place ≡ count_there device k.sectors.items
own_sectors v kept place k device so there =
    let one = kept_one v kept place k so there in
    ap (λ o. option_map_or (λ (r : KnownRun). count_there device (sectors_of_run v.log v.way r)) o 0) one.there ∙ ap (λ (x : KeptValue). count_there device x.sectors) (sym one.own)

no_sectors : (v : RecordsValue) (kept : List KeptRun) (place : ℕ) (device : List (List ℕ)) → AreRecords v kept → slice_get kept place ≡ None → there_at v device place ≡ 0
no_sectors v kept place device so none = ap (λ o. option_map_or (λ (r : KnownRun). count_there device (sectors_of_run v.log v.way r)) o 0) (kept_none v kept place so none)

before_so : (v : RecordsValue) (kept : List KeptRun) (place : ℕ) (device : List (List ℕ)) → AreRecords v kept → there_before v device place ≡ count_there device (sectors_before kept place)
before_so v kept zero device so = refl
before_so v kept (suc i) device so = by (slice_get kept i) refl
  where
    by : (o : Option KeptRun) → slice_get kept i ≡ o → there_at v device i ≡ count_there device (option_map_or (λ (k : KeptRun). k.sectors.items) (slice_get kept i) [])
    by None is = no_sectors v kept i device so is ∙ sym (ap (λ o. count_there device (option_map_or (λ (k : KeptRun). k.sectors.items) o [])) is)
    by (Some k) is = own_sectors v kept i k device so is ∙ sym (ap (λ o. count_there device (option_map_or (λ (x : KeptRun). x.sectors.items) o [])) is)

pub there_by : (v : RecordsValue) (kept : List KeptRun) (place : ℕ) (k : KeptRun) (device : List (List ℕ)) (before answer : ℕ) → AreRecords v kept → AreLinked kept → slice_get kept place ≡ Some k
    → before ≡ there_before v device place
    → ((others : List Looked) → before ≡ count_there device others → take k.shared k.sectors.items ≡ take k.shared others → answer ≡ count_there device k.sectors.items)
    → answer ≡ there_at v device place
there_by v kept place k device before answer so linked there was told =
    told (sectors_before kept place) (was ∙ before_so v kept place device so) (linked.each place k there) ∙ sym (own_sectors v kept place k device so there)

pub there_none : (v : RecordsValue) (kept : List KeptRun) (place : ℕ) (device : List (List ℕ)) → AreRecords v kept → slice_get kept place ≡ None → 0 ≡ there_at v device place
there_none v kept place device so none = sym (no_sectors v kept place device so none)

pub tells_so : (v : RecordsValue) (kept : List KeptRun) (place : ℕ) (k : KeptRun) (marks there : ℕ) (answer : Bool) → AreRecords v kept → slice_get kept place ≡ Some k
    → answer ≡ ((k.marks == marks) && (there == length k.sectors.items)) → (device : List (List ℕ)) → there ≡ there_at v device place → answer ≡ tells_at v marks device place
tells_so v kept place k marks there answer so own told device is =
    let count : there ≡ count_there device k.sectors.items = is ∙ own_sectors v kept place k device so own in
    tells_by_kept v kept place k marks device answer so own
    (told ∙ ap (λ n. (k.marks == marks) && (n == length k.sectors.items)) count ∙ ap (λ b. (k.marks == marks) && b) (sym (all_or_some device k.sectors.items)))

pub there_next : (v : RecordsValue) (device : List (List ℕ)) (place there : ℕ) → there ≡ there_at v device place → there ≡ there_before v device (place + 1)
there_next v device place there is = is ∙ ap (there_before v device) (sym (add-one place))

-- what two lists have in common

pub same_looked_is : (one other : Looked) → same_looked one other ≡ true → one ≡ other
same_looked_is one other is =
    let number = eqb-true one.number other.number (first_so (one.number == other.number) (pointwise nat_eq one.bytes other.bytes) is) in
    let bytes = (slice_eq-Decides Decides-eqb one.bytes other.bytes (pointwise nat_eq one.bytes other.bytes) refl).0 (second_so (one.number == other.number) (pointwise nat_eq one.bytes other.bytes) is) in
    λ i. record { number = number i; bytes = bytes i }

pub common_more : (ks others : List Looked) (n : ℕ) (one other : Looked) → take n ks ≡ take n others → slice_get ks n ≡ Some one → slice_get others n ≡ Some other → same_looked one other ≡ true
    → take (n + 1) ks ≡ take (n + 1) others
common_more ks others n one other so first second same =
    ap (λ m. take m ks) (add-one n) ∙ take-suc_place ks n one first ∙ (λ i. so i ++ same_looked_is one other same i ∷ []) ∙ sym (take-suc_place others n other second)
    ∙ sym (ap (λ m. take m others) (add-one n))

pub common_read : (ks others : List Looked) (n : ℕ) (d e : Looked) → take n ks ≡ take n others → n < length ks → n < length others → same_looked (get_or ks n d) (get_or others n e) ≡ true
    → take (n + 1) ks ≡ take (n + 1) others
common_read ks others n d e so lt below same = common_more ks others n (get_or ks n d) (get_or others n e) so (slice_get-get_or ks n d lt) (slice_get-get_or others n e below) same

pub last_before : (kept : List KeptRun) (count last : ℕ) (k : KeptRun) → count ≡ length kept → last + 1 ≡ count → slice_get kept last ≡ Some k → sectors_before kept (length kept) ≡ k.sectors.items
last_before kept count last k is after there =
    ap (sectors_before kept) (sym is ∙ sym after ∙ add-one last) ∙ ap (λ o. option_map_or (λ (x : KeptRun). x.sectors.items) o []) there

none_before : (kept : List KeptRun) (x : KeptRun) (n : ℕ) → n ≤ length kept → sectors_before (kept ++ x ∷ []) n ≡ sectors_before kept n
none_before kept x zero le = refl
none_before kept x (suc i) le = ap (λ o. option_map_or (λ (k : KeptRun). k.sectors.items) o []) (slice_get-append_left kept (x ∷ []) i (omega (arith, le)))

pub linked_more : (kept new : List KeptRun) (x : KeptRun) → AreLinked kept → take x.shared x.sectors.items ≡ take x.shared (sectors_before kept (length kept)) → new ≡ kept ++ x ∷ [] → AreLinked new
linked_more kept new x linked own put = subst AreLinked (sym put) (record {
  each = λ i k there. elim (slice_get_of_push kept x i k there) [
    | inl was ↦
        linked.each i k was ∙ ap (take k.shared) (sym (none_before kept x i (let lt = slice_get_within kept i k was in omega (arith, lt))))
    | inr last ↦
        subst (λ (y : KeptRun). take y.shared y.sectors.items ≡ take y.shared (sectors_before (kept ++ x ∷ []) i)) (sym last.1)
        (own ∙ ap (take x.shared) (ap (sectors_before kept) (sym last.0) ∙ sym (none_before kept x i (let at = last.0 in omega (arith, at)))))
  ];
})

pub linked_none : AreLinked []
linked_none = record { each = λ i k there. absurd (let bad : ◌≡◌ {A = Option KeptRun} None (Some k) = there in cc) }

-- one record more
pub kept_next : (log : LogValue) (way : By) (runs : List KnownRun) (n : ℕ) (r : KnownRun) (old new : List KeptRun) (k : KeptRun) → map kept_value old ≡ map (kept_of_run log way) (take n runs)
    → map kept_value new ≡ map kept_value old ++ kept_value k ∷ [] → kept_value k ≡ kept_of_run log way r → slice_get runs n ≡ Some r → map kept_value new ≡ map (kept_of_run log way) (take (n + 1) runs)
kept_next log way runs n r old new k so put is there =
    put ∙ (λ i. so i ++ is i ∷ []) ∙ sym (map-append (kept_of_run log way) (take n runs) (r ∷ [])) ∙ ap (map (kept_of_run log way)) (sym (take-suc_place runs n r there))
    ∙ ap (λ m. map (kept_of_run log way) (take m runs)) (sym (add-one n))

-- a sector that is another one of its number

any_at : (test : Looked → Bool) (ks : List Looked) (i : ℕ) (k : Looked) → slice_get ks i ≡ Some k → test k ≡ true → list_any test ks ≡ true
any_at test [] i k there is = absurd (let bad : None ≡ Some k = there in cc)
any_at test (x ∷ ks) zero k there is = ap (λ b. b || list_any test ks) (ap test (same_Some x k there) ∙ is)
any_at test (x ∷ ks) (suc i) k there is = by (test x) (any_at test ks i k there is)
  where
    by : (b : Bool) → list_any test ks ≡ true → (b || list_any test ks) ≡ true
    by true rest = refl
    by false rest = rest

not_all_at : (test : Looked → Bool) (ks : List Looked) (i : ℕ) (k : Looked) → slice_get ks i ≡ Some k → test k ≡ false → list_all test ks ≡ false
not_all_at test [] i k there is = absurd (let bad : None ≡ Some k = there in cc)
not_all_at test (x ∷ ks) zero k there is = ap (λ b. b && list_all test ks) (ap test (same_Some x k there) ∙ is)
not_all_at test (x ∷ ks) (suc i) k there is = by (test x) (not_all_at test ks i k there is)
  where
    by : (b : Bool) → list_all test ks ≡ false → (b && list_all test ks) ≡ false
    by true rest = rest
    by false rest = refl

pub clash_at : (ks others : List Looked) (i : ℕ) (one other : Looked) → slice_get ks i ≡ Some one → slice_get others i ≡ Some other → clashes one other ≡ true
    → list_all (λ k. not (list_any (clashes k) others)) ks ≡ false
clash_at ks others i one other first second is = not_all_at (λ k. not (list_any (clashes k) others)) ks i one first (ap not (any_at (clashes one) others i other second is))
