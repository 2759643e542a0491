-- Which records contradict each other, by the bytes that are kept of them.
use Rattle.std.proofs.Common.{ℕ, ◌≡◌, ◌+◌, ◌<◌, ◌≤◌, ◌==◌, nat_eq, Bool, true, false, not, ◌&&◌, ◌||◌, if◌then◌else◌, List, [], ◌∷◌, length, map, slice_get, slice_index_or, Option, None, Some, All, refl, sym, ◌∙◌, ap, arith, below_more, inl, inr}
use Rattle.std.specs.List.{list_all, list_any}
use Rattle.std.specs.Cmp.Lexicographic.{pointwise}
use Rattle.std.proofs.lemmas.Bool.{eqb-true, cases_lt}
use Rattle.std.proofs.lemmas.List.Elements.{All-head, All-tail}
use Rattle.std.proofs.lemmas.Option.{slice_get-get_or, slice_get_past}
use Rattle.logfmt.specs.Bounds.{LogValue}
use Rattle.epochs.specs.declared.part.By.{By}
use Rattle.known.specs.declared.run.KnownRun.{KnownRun}
use Rattle.known.specs.declared.records.KeptRun.{KeptRun}
use Rattle.known.specs.Ends.{same_end}
use Rattle.known.specs.Records.{RecordsValue, image_of_run, IsRun, same_sector, agree, in_both, contradict, looked_at, AreRecords, kept_value, kept_of_run}
use Rattle.known.specs.Contradictions.{clashes, kept_contradict, options_contradict, both_contradict, contradict_at, NoneAgainst, NoneBefore}
use Rattle.known.proofs.Telling.{long_image, kept_one, kept_none}

-- a sector of one image is another one of the same number among those of the other image
abbrev bytes_at : List (List ℕ) → ℕ → List ℕ
bytes_at image s = slice_index_or image s []

among : (one other : List (List ℕ)) (s : ℕ) (sectors : List ℕ)
    → list_any (clashes (looked_at one s)) (map (looked_at other) sectors) ≡ (list_any (λ o. s == o) sectors && not (pointwise nat_eq (bytes_at one s) (bytes_at other s)))
among one other s [] = refl
among one other s (o ∷ sectors) = by (s == o) refl (among one other s sectors)
  where
    same : Bool
    same = pointwise nat_eq (bytes_at one s) (bytes_at other s)

    joined : (a q : Bool) → (not q || (a && not q)) ≡ not q
    joined true true = refl
    joined true false = refl
    joined false true = refl
    joined false false = refl

    by : (b : Bool) → (s == o) ≡ b → list_any (clashes (looked_at one s)) (map (looked_at other) sectors) ≡ (list_any (λ t. s == t) sectors && not same)
        → ((b && not (pointwise nat_eq (bytes_at one s) (bytes_at other o))) || list_any (clashes (looked_at one s)) (map (looked_at other) sectors)) ≡ ((b || list_any (λ t. s == t) sectors) && not same)
    by true is rest =
        let own : s ≡ o = eqb-true s o is in
        (λ i. not (pointwise nat_eq (bytes_at one s) (bytes_at other (sym own i))) || rest i) ∙ joined (list_any (λ t. s == t) sectors) same
    by false is rest = rest

pub alike_in_both : (one other : List (List ℕ)) (n : ℕ) (sectors others : List ℕ) → length one ≡ n → length other ≡ n → All (λ s. s < n) sectors
    → list_all (λ k. not (list_any (clashes k) (map (looked_at other) others))) (map (looked_at one) sectors) ≡ agree one other (in_both sectors others)
alike_in_both one other n [] others long wide within = refl
alike_in_both one other n (s ∷ sectors) others long wide within =
    (λ i. not (among one other s others i) && alike_in_both one other n sectors others long wide (All-tail (λ t. t < n) s sectors within) i)
    ∙ by (list_any (λ o. s == o) others)
  where
    first : s < n
    first = All-head (λ t. t < n) s sectors within

    q : Bool
    q = pointwise nat_eq (bytes_at one s) (bytes_at other s)

    here : slice_get one s ≡ Some (bytes_at one s)
    here = slice_get-get_or one s [] (let lt = first in omega (arith, long, lt))

    there : slice_get other s ≡ Some (bytes_at other s)
    there = slice_get-get_or other s [] (let lt = first in omega (arith, wide, lt))

    double : (b : Bool) → not (not b) ≡ b
    double true = refl
    double false = refl

    by : (b : Bool) → (not (b && not q) && agree one other (in_both sectors others)) ≡ agree one other (if b then s ∷ in_both sectors others else in_both sectors others)
    by true = (λ i. double q i && agree one other (in_both sectors others)) ∙ (λ i. same_sector (sym here i) (sym there i) && agree one other (in_both sectors others))
    by false = refl

-- whether two records contradict each other
kept_contradict_so : (log : LogValue) (way : By) (r t : KnownRun) → IsRun log way r → kept_contradict (kept_of_run log way r) (kept_of_run log way t) ≡ contradict log way r t
unfolding contradict
kept_contradict_so log way r t is =
    ap (λ b. (r.marks == t.marks) && (not (same_end r.end t.end) && b))
    (alike_in_both (image_of_run log way r) (image_of_run log way t) log.sectors r.looked.items t.looked.items (long_image log way r) (long_image log way t) is.device)

pub contradict_by : (v : RecordsValue) (kept : List KeptRun) (i j : ℕ) (one other : KeptRun) (answer : Bool) → AreRecords v kept → slice_get kept i ≡ Some one → slice_get kept j ≡ Some other
    → answer ≡ kept_contradict (kept_value one) (kept_value other) → answer ≡ contradict_at v i j
contradict_by v kept i j one other answer so first second is =
    let r = kept_one v kept i one so first in
    let t = kept_one v kept j other so second in
    is ∙ (λ k. kept_contradict (r.own k) (t.own k)) ∙ kept_contradict_so v.log v.way r.run t.run r.is ∙ (λ k. both_contradict v.log v.way (sym r.there k) (sym t.there k))

none_with_none : (log : LogValue) (way : By) (one : Option KnownRun) → false ≡ both_contradict log way one None
none_with_none log way None = refl
none_with_none log way (Some r) = refl

pub contradict_first : (v : RecordsValue) (kept : List KeptRun) (i j : ℕ) → AreRecords v kept → slice_get kept i ≡ None → false ≡ contradict_at v i j
contradict_first v kept i j so none = ap (λ o. both_contradict v.log v.way o (slice_get v.runs j)) (sym (kept_none v kept i so none))

pub contradict_second : (v : RecordsValue) (kept : List KeptRun) (i j : ℕ) → AreRecords v kept → slice_get kept j ≡ None → false ≡ contradict_at v i j
contradict_second v kept i j so none = none_with_none v.log v.way (slice_get v.runs i) ∙ ap (both_contradict v.log v.way (slice_get v.runs i)) (sym (kept_none v kept j so none))

-- two places, by what is kept there
pub contradict_kept : (v : RecordsValue) (kept : List KeptRun) (i j : ℕ) (answer : Bool) → AreRecords v kept → answer ≡ options_contradict (slice_get kept i) (slice_get kept j) → answer ≡ contradict_at v i j
contradict_kept v kept i j answer so is = by (slice_get kept i) (slice_get kept j) refl refl is
  where
    by : (one other : Option KeptRun) → slice_get kept i ≡ one → slice_get kept j ≡ other → answer ≡ options_contradict one other → answer ≡ contradict_at v i j
    by None other first second own = own ∙ contradict_first v kept i j so first
    by (Some one) None first second own = own ∙ contradict_second v kept i j so second
    by (Some one) (Some other) first second own = contradict_by v kept i j one other answer so first second own

-- one more that doesn't
pub none_more : (v : RecordsValue) (n later : ℕ) → NoneAgainst v n later → false ≡ contradict_at v n later → NoneAgainst v (n + 1) later
none_more v n later before own = below_more (λ i. contradict_at v i later ≡ false) n before (sym own)

pub none_later : (v : RecordsValue) (n : ℕ) → NoneBefore v n → NoneAgainst v n n → NoneBefore v (n + 1)
none_later v n before own = below_more (λ later. NoneAgainst v later later) n before own

-- past the last record there is none
pub none_past : (v : RecordsValue) (n : ℕ) → NoneBefore v n → length v.runs ≤ n → (later : ℕ) → NoneAgainst v later later
none_past v n before all later = elim (cases_lt later n) [
  | inl lt ↦ before later lt
  | inr ge ↦ λ i lt. past (slice_get v.runs i) (slice_get v.runs later) (slice_get_past v.runs later (omega (arith, all, ge)))
]
  where
    past : (one other : Option KnownRun) → other ≡ None → both_contradict v.log v.way one other ≡ false
    past None other none = refl
    past (Some r) None none = refl
    past (Some r) (Some t) none = absurd (let bad : Some t ≡ None = none in cc)
