-- How the units and the parts before a cut, and its volatile parts, grow by one entry.
use Rattle.std.proofs.Common.{ℕ, suc, ◌≡◌, ◌+◌, ◌-◌, ◌<◌, ◌≤◌, Bool, true, false, not, ◌&&◌, ◌||◌, if◌then◌else◌, List, [], ◌∷◌, ◌++◌, length, filter, take, drop, get_or, slice_get, Some, refl, sym, ◌∙◌, ap, arith, append_assoc, length-drop}
use Rattle.std.specs.List.{range_with_len, list_any}
use Rattle.std.specs.Option.{option_map_or}
use Rattle.std.proofs.lemmas.List.{append-nil, length-take-le, get_or-drop}
use Rattle.std.proofs.lemmas.List.Elements.{filter-append}
use Rattle.std.proofs.lemmas.List.Folds.{list_any_more}
use Rattle.std.proofs.lemmas.Option.{slice_get_within, get_or_from_slice_get}
use Rattle.base.proofs.Lists.{take-suc_place, filter_alike, filter_none, filter-map_all, filter-map_none, filter-map_alike}
use Rattle.logfmt.specs.declared.entry.Entry.{Entry}
use Rattle.epochs.specs.declared.part.Part.{Part}
use Rattle.epochs.specs.declared.part.By.{By}
use Rattle.epochs.specs.Units.{units_of_entry, units_before, of_entries, is_forced, is_flush_between}
use Rattle.epochs.specs.Parts.{part_count, part_of, parts_of_entry, parts_before, is_volatile, volatile_parts}
use Rattle.epochs.specs.Table.{unforced_parts}

-- the parts that entry e adds to those that are not forced
abbrev pub own_parts : By → ℕ → Entry → List Part
own_parts way e x = if x.flags.fua then [] else parts_of_entry way e x

of_entries-push : {A : Type 0} (own : ℕ → Entry → List A) (e : ℕ) (xs : List Entry) (x : Entry)
    → of_entries own e (xs ++ x ∷ []) ≡ of_entries own e xs ++ own (e + length xs) x
of_entries-push own e [] x =
    let here : e ≡ e + 0 = omega arith in
    append-nil (own e x) ∙ ap (λ n. own n x) here
of_entries-push own e (y ∷ ys) x =
    let here : suc e + length ys ≡ e + suc (length ys) = omega arith in
    let rest = of_entries-push own (suc e) ys x in
    ap (λ us. own e y ++ us) rest
    ∙ sym (append_assoc (own e y) (of_entries own (suc e) ys) (own (suc e + length ys) x))
    ∙ ap (λ n. own e y ++ of_entries own (suc e) ys ++ own n x) here

of_entries-next : {A : Type 0} (own : ℕ → Entry → List A) (es : List Entry) (k : ℕ) (x : Entry) → slice_get es k ≡ Some x
    → of_entries own 0 (take (suc k) es) ≡ of_entries own 0 (take k es) ++ own k x
of_entries-next own es k x here =
    let within = slice_get_within es k x here in
    let long : 0 + length (take k es) ≡ k = omega (arith, length-take-le k es (omega (arith, within))) in
    ap (of_entries own 0) (take-suc_place es k x here) ∙ of_entries-push own 0 (take k es) x
    ∙ ap (λ n. of_entries own 0 (take k es) ++ own n x) long

-- an entry adds its units, and its parts, to those before the cut
pub units_before-next : (es : List Entry) (k : ℕ) (x : Entry) → slice_get es k ≡ Some x → units_before es (suc k) ≡ units_before es k ++ units_of_entry k x
units_before-next es k x here = of_entries-next units_of_entry es k x here

pub parts_before-next : (way : By) (es : List Entry) (k : ℕ) (x : Entry) → slice_get es k ≡ Some x
    → parts_before way es (suc k) ≡ parts_before way es k ++ parts_of_entry way k x
parts_before-next way es k x here = of_entries-next (parts_of_entry way) es k x here

-- the parts of an entry under a test that its flag decides
own_by_flag : (way : By) (p : Part → Bool) (flag : Bool) (e : ℕ) (x : Entry) → ((j : ℕ) → p (part_of way e x j) ≡ not flag)
    → filter p (parts_of_entry way e x) ≡ (if flag then [] else parts_of_entry way e x)
own_by_flag way p true e x h = filter-map_none p (part_of way e x) (range_with_len 0 (part_count way x)) h
own_by_flag way p false e x h = filter-map_all p (part_of way e x) (range_with_len 0 (part_count way x)) h

-- and to those that are not forced, unless it is forced itself
pub unforced_parts-next : (way : By) (es : List Entry) (k : ℕ) (x : Entry) → slice_get es k ≡ Some x
    → unforced_parts way es (suc k) ≡ unforced_parts way es k ++ own_parts way k x
unfolding unforced_parts
unforced_parts-next way es k x here =
    let p : Part → Bool = λ u. not (is_forced es u.entry) in
    let forced : is_forced es k ≡ x.flags.fua = ap (λ o. option_map_or (λ (entry : Entry). entry.flags.fua) o false) here in
    ap (filter p) (parts_before-next way es k x here)
    ∙ filter-append p (parts_before way es k) (parts_of_entry way k x)
    ∙ ap (λ us. filter p (parts_before way es k) ++ us) (own_by_flag way p x.flags.fua k x (λ j. ap not forced))

-- tests that tell alike of parts before entry n
filter_parts_alike : (way : By) (p q : Part → Bool) (n e : ℕ) (xs : List Entry) → ((i : ℕ) (x : Entry) (j : ℕ) → i < n → p (part_of way i x j) ≡ q (part_of way i x j))
    → e + length xs ≤ n → filter p (of_entries (parts_of_entry way) e xs) ≡ filter q (of_entries (parts_of_entry way) e xs)
filter_parts_alike way p q n e [] h room = refl
filter_parts_alike way p q n e (x ∷ xs) h room =
    let first : filter p (parts_of_entry way e x) ≡ filter q (parts_of_entry way e x) =
    filter-map_alike p q (part_of way e x) (range_with_len 0 (part_count way x)) (λ j. h e x j (omega (arith, room))) in
    let rest : filter p (of_entries (parts_of_entry way) (suc e) xs) ≡ filter q (of_entries (parts_of_entry way) (suc e) xs) = filter_parts_alike way p q n (suc e) xs h (omega (arith, room)) in
    let parts_p = filter-append p (parts_of_entry way e x) (of_entries (parts_of_entry way) (suc e) xs) in
    let parts_q = filter-append q (parts_of_entry way e x) (of_entries (parts_of_entry way) (suc e) xs) in
    parts_p ∙ rw (first, rest) (sym parts_q)

-- a flush entry after e and before the next cut
flush_between-next : (es : List Entry) (e k : ℕ) (x : Entry) → slice_get es k ≡ Some x → e < k
    → is_flush_between es e (suc k) ≡ (is_flush_between es e k || x.flags.flush)
flush_between-next es e k x here lt =
    let p : Entry → Bool = λ entry. entry.flags.flush in
    let rest : List Entry = drop (e + 1) es in
    let i : ℕ = k - (e + 1) in
    let within = slice_get_within es k x here in
    let next : suc k - (e + 1) ≡ i + 1 = omega (arith, lt) in
    let back : e + 1 + i ≡ k = omega (arith, lt) in
    let inside : i < length rest = omega (arith, length-drop (e + 1) es, within, lt) in
    let one : get_or rest i x ≡ x = get_or-drop (e + 1) es i x ∙ ap (λ n. get_or es n x) back ∙ get_or_from_slice_get es k x x here in
    ap (λ n. list_any p (take n rest)) next ∙ list_any_more p rest i x inside ∙ ap (λ entry. list_any p (take i rest) || p entry) one

-- no entry stands after entry k and before cut k + 1
no_flush_between : (es : List Entry) (k : ℕ) → is_flush_between es k (suc k) ≡ false
no_flush_between es k =
    let none : suc k - (k + 1) ≡ 0 = omega arith in
    ap (λ n. list_any (λ (entry : Entry). entry.flags.flush) (take n (drop (k + 1) es))) none

regroup : (a b c : Bool) → (not a && not (b || c)) ≡ ((not a && not b) && not c)
regroup true b c = refl
regroup false true c = refl
regroup false false c = refl

and_true : (b : Bool) → (not b && true) ≡ not b
and_true true = refl
and_true false = refl

-- what a flush leaves volatile
after_flush : (p : Part → Bool) (flush : Bool) (us : List Part) → filter (λ u. p u && not flush) us ≡ (if flush then [] else filter p us)
after_flush p true us = filter_none (λ u. p u && false) us (λ u. and_false (p u))
  where
    and_false : (b : Bool) → (b && false) ≡ false
    and_false true = refl
    and_false false = refl
after_flush p false us = filter_alike (λ u. p u && true) p us (λ u. and_yes (p u))
  where
    and_yes : (b : Bool) → (b && true) ≡ b
    and_yes true = refl
    and_yes false = refl

-- after a flush entry none is left that was volatile; then the entry adds its own
pub volatile_parts-next : (way : By) (es : List Entry) (k : ℕ) (x : Entry) → slice_get es k ≡ Some x
    → volatile_parts way es (suc k) ≡ (if x.flags.flush then [] else volatile_parts way es k) ++ own_parts way k x
unfolding volatile_parts
volatile_parts-next way es k x here =
    let p : Part → Bool = is_volatile es (suc k) in
    let q : Part → Bool = λ u. is_volatile es k u && not x.flags.flush in
    let within = slice_get_within es k x here in
    let forced : is_forced es k ≡ x.flags.fua = ap (λ o. option_map_or (λ (entry : Entry). entry.flags.fua) o false) here in
    let alike : (i : ℕ) (y : Entry) (j : ℕ) → i < k → p (part_of way i y j) ≡ q (part_of way i y j) =
    λ i y j lt. ap (λ b. not (is_forced es i) && not b) (flush_between-next es i k x here lt) ∙ regroup (is_forced es i) (is_flush_between es i k) x.flags.flush in
    let kept : filter p (parts_before way es k) ≡ (if x.flags.flush then [] else filter (is_volatile es k) (parts_before way es k)) =
    filter_parts_alike way p q k 0 (take k es) alike (omega (arith, length-take-le k es (omega (arith, within))))
    ∙ after_flush (is_volatile es k) x.flags.flush (parts_before way es k) in
    let own : filter p (parts_of_entry way k x) ≡ own_parts way k x =
    own_by_flag way p x.flags.fua k x
    (λ j. ap (λ b. not (is_forced es k) && not b) (no_flush_between es k) ∙ and_true (is_forced es k) ∙ ap not forced) in
    ap (filter p) (parts_before-next way es k x here)
    ∙ filter-append p (parts_before way es k) (parts_of_entry way k x)
    ∙ ap (λ us. us ++ filter p (parts_of_entry way k x)) kept
    ∙ ap (λ us. (if x.flags.flush then [] else filter (is_volatile es k) (parts_before way es k)) ++ us) own
