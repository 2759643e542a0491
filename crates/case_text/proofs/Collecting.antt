-- What is known of the parts at risk, part by part.
use Rattle.std.proofs.Common.{ℕ, zero, suc, ◌≡◌, ◌+◌, ◌<◌, Bool, true, false, if◌then◌else◌, List, [], ◌∷◌, ◌++◌, length, map, filter, find, reverse, take, get_or, slice_get, Option, None, Some, refl, sym, ◌∙◌, ap, arith, append_assoc}
use Rattle.std.specs.Option.{option_map, option_or, option_map_or}
use Rattle.std.proofs.lemmas.List.{map-append, reverse-append, take_more}
use Rattle.std.proofs.lemmas.List.Elements.{filter-append}
use Rattle.std.proofs.lemmas.List.Folds.{find-append}
use Rattle.std.proofs.lemmas.List.Sums.{sum_by_push}
use Rattle.std.proofs.lemmas.Option.{same_Some}
use Rattle.epochs.specs.declared.part.Part.{Part}
use Rattle.choices.specs.declared.choice.Departure.{Departure}
use Rattle.cases.specs.Choices.{Choice, all_fates, departs, departures}
use Rattle.cases.specs.Cases.{Case, representative, is_same}
use Rattle.cases.specs.Sets.{fates_in}
use Rattle.cases.specs.AtCut.{Apart, case_of}
use Rattle.cases.proofs.Cases.{own_part}
use Rattle.cases.proofs.Chosen.{there_among}
use Rattle.case_text.specs.Known.{KnownValue, with_fates, mixed_parts, first_lost, last_arrived, known_of, is_kept, is_free, is_mixed, is_never_whole, is_never_gone}
use Rattle.case_text.specs.Collected.{with_more}

-- the fates of a part in a case, by its place
pub case_at : (tears : Bool) (parts : List Part) (sets : List ℕ) (i : ℕ) (p : Part) → Apart parts → slice_get parts i ≡ Some p
    → case_of tears parts sets p ≡ option_map_or fates_in (slice_get sets i) (all_fates tears)
case_at tears [] sets i p apart there = absurd (let bad : None ≡ Some p = there in cc)
case_at tears (q ∷ parts) [] zero p apart there = refl
case_at tears (q ∷ parts) [] (suc i) p apart there = refl
case_at tears (q ∷ parts) (b ∷ sets) zero p apart there =
    let same : q ≡ p = same_Some q p there in
    let own : is_same q p ≡ true = sym (ap (is_same q) same) ∙ own_part q in
    ap (λ v. if v then fates_in b else case_of tears parts sets p) own
case_at tears (q ∷ parts) (b ∷ sets) (suc i) p apart there =
    ap (λ v. if v then fates_in b else case_of tears parts sets p) (apart.0 p (there_among parts i p there)) ∙ case_at tears parts sets i p apart.1 there

departures-push : (c : Choice) (ps : List Part) (p : Part) → departures c (ps ++ p ∷ []) ≡ departures c ps ++ departs p (c p)
departures-push c [] p = no_more (departs p (c p))
  where
    no_more : (ds : List Departure) → ds ++ [] ≡ ds
    no_more [] = refl
    no_more (d ∷ ds) = ap (λ xs. d ∷ xs) (no_more ds)
departures-push c (q ∷ ps) p = ap (λ ds. departs q (c q) ++ ds) (departures-push c ps p) ∙ sym (append_assoc (departs q (c q)) (departures c ps) (departs p (c p)))

mixed-push : (tears : Bool) (c : Case) (ps : List Part) (p : Part)
    → mixed_parts tears c (ps ++ p ∷ []) ≡ mixed_parts tears c ps ++ (if is_mixed tears (c p) then with_fates c p ∷ [] else [])
mixed-push tears c ps p =
    let test : Part → Bool = λ q. is_mixed tears (c q) in
    ap (map (with_fates c)) (filter-append test ps (p ∷ [])) ∙ map-append (with_fates c) (filter test ps) (filter test (p ∷ []))
    ∙ ap (λ xs. map (with_fates c) (filter test ps) ++ xs) (by_test (is_mixed tears (c p)))
  where
    by_test : (b : Bool) → map (with_fates c) (if b then p ∷ [] else []) ≡ (if b then with_fates c p ∷ [] else [])
    by_test true = refl
    by_test false = refl

map-or : {A B : Type 0} (f : A → B) (one other : Option A) → option_map f (option_or one other) ≡ option_or (option_map f one) (option_map f other)
map-or f None other = refl
map-or f (Some x) other = refl

first-push : (c : Case) (ps : List Part) (p : Part) → first_lost c (ps ++ p ∷ []) ≡ option_or (first_lost c ps) (if is_never_whole (c p) then Some p.entry else None)
first-push c ps p =
    let test : Part → Bool = λ q. is_never_whole (c q) in
    let entry : Part → ℕ = λ q. q.entry in
    ap (option_map entry) (find-append test ps (p ∷ [])) ∙ map-or entry (find test ps) (find test (p ∷ []))
    ∙ ap (option_or (first_lost c ps)) (by_test (is_never_whole (c p)))
  where
    by_test : (b : Bool) → option_map (λ (q : Part). q.entry) (if b then Some p else None) ≡ (if b then Some p.entry else None)
    by_test true = refl
    by_test false = refl

last-push : (c : Case) (ps : List Part) (p : Part) → last_arrived c (ps ++ p ∷ []) ≡ (if is_never_gone (c p) then Some p.entry else last_arrived c ps)
last-push c ps p =
    let test : Part → Bool = λ q. is_never_gone (c q) in
    let entry : Part → ℕ = λ q. q.entry in
    ap (λ qs. option_map entry (find test qs)) (reverse-append ps (p ∷ [])) ∙ by_test (is_never_gone (c p))
  where
    by_test : (b : Bool) → option_map (λ (q : Part). q.entry) (if b then Some p else find (λ q. is_never_gone (c q)) (reverse ps)) ≡ (if b then Some p.entry else last_arrived c ps)
    by_test true = refl
    by_test false = refl

pub known_push : (tears : Bool) (c : Case) (ps : List Part) (p : Part) → with_more tears (known_of tears c ps) p (c p) ≡ known_of tears c (ps ++ p ∷ [])
known_push tears c ps p =
    let lost = sym (departures-push (representative c) ps p) in
    let kept = sym (filter-append (λ (q : Part). is_kept (c q)) ps (p ∷ [])) in
    let mixed = sym (mixed-push tears c ps p) in
    let free = sym (sum_by_push (λ (q : Part). if is_free tears (c q) then 1 else 0) ps p) in
    let first = sym (first-push c ps p) in
    let last = sym (last-push c ps p) in
    λ i. record { lost = lost i; kept = kept i; mixed = mixed i; free = free i; first_lost = first i; last_arrived = last i }

there_or : {A : Type 0} (xs : List A) (i : ℕ) (d : A) → i < length xs → slice_get xs i ≡ Some (get_or xs i d)
there_or [] i d less = absurd (omega (arith, less))
there_or (x ∷ xs) zero d less = refl
there_or (x ∷ xs) (suc i) d less = there_or xs i d (omega (arith, less))

-- one more part of a list, with the set at its place
pub known_next : (tears : Bool) (parts : List Part) (sets : List ℕ) (n : ℕ) (d : Part) (bits : ℕ) (old new : KnownValue) → Apart parts → n < length parts
    → fates_in bits ≡ option_map_or fates_in (slice_get sets n) (all_fates tears)
    → old ≡ known_of tears (case_of tears parts sets) (take n parts) → new ≡ with_more tears old (get_or parts n d) (fates_in bits)
    → new ≡ known_of tears (case_of tears parts sets) (take (n + 1) parts)
known_next tears parts sets n d bits old new apart less set was is =
    let c : Case = case_of tears parts sets in
    let p : Part = get_or parts n d in
    let own : fates_in bits ≡ c p = set ∙ sym (case_at tears parts sets n p apart (there_or parts n d less)) in
    is ∙ ap (λ v. with_more tears v p (fates_in bits)) was
    ∙ ap (with_more tears (known_of tears c (take n parts)) p) own ∙ known_push tears c (take n parts) p ∙ ap (known_of tears c) (sym (take_more parts n d less))
