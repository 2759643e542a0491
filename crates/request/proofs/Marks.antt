-- The search for marks that promise too much, after one entry more.
use Rattle.std.proofs.Common.{ℕ, ◌≡◌, ◌∙◌, ◌+◌, ◌<◌, ◌≤◌, ◌⊎◌, inl, inr, Bool, true, false, not, nat_le, ◌&&◌, ◌||◌, if◌then◌else◌, List, [], ◌∷◌, ◌++◌, filter, slice_get, Some, refl, sym, ap, arith, subst, get_or}
use Rattle.std.specs.List.{range_with_len, slice_range, list_any}
use Rattle.std.specs.Option.{option_map_or}
use Rattle.std.proofs.lemmas.Bool.Decides.{nat_tests}
use Rattle.std.proofs.lemmas.List.{append-nil}
use Rattle.std.proofs.lemmas.List.FromFn.{length-range_with_len}
use Rattle.std.proofs.lemmas.List.Sums.{length-filter, count_by-le-length}
use Rattle.std.proofs.lemmas.List.Elements.{filter-append}
use Rattle.base.proofs.Lists.{range_with_len-more}
use Rattle.logfmt.specs.declared.entry.Entry.{Entry}
use Rattle.logfmt.specs.Bounds.{LogValue, IsLog}
use Rattle.request.specs.declared.facts.promises.Promises.{Promises}
use Rattle.request.specs.declared.facts.promises.PromiseSearch.{PromiseSearch}
use Rattle.request.specs.Promises.{is_unforced, is_since, is_mark, promises_too_much, too_much_before, AreFirst}
use Rattle.request.specs.Search.{AreWithin, is_last, IsUnforced, NoneIsUnforced, IsJudged, one_more, no_more, IsSearched}
use Rattle.request.proofs.Between.{any_next, none_next, at_or_above, range_any, range_none}

any_or : (p q : Entry → Bool) (xs : List Entry) → list_any (λ x. p x || q x) xs ≡ (list_any p xs || list_any q xs)
any_or p q [] = refl
any_or p q (x ∷ xs) = ap (λ b. (p x || q x) || b) (any_or p q xs) ∙ mixed (p x) (q x) (list_any p xs) (list_any q xs)
  where
    mixed : (a b c d : Bool) → ((a || b) || (c || d)) ≡ ((a || c) || (b || d))
    mixed true b c d = refl
    mixed false true true d = refl
    mixed false true false d = refl
    mixed false false c d = refl

-- where the search starts after a mark or a flush entry
abbrev pub start_by : Bool → ℕ → ℕ → ℕ
start_by here k start = if here then k else start

-- the entries since the last mark or flush
pub since_next : (es : List Entry) (k start : ℕ) (x : Entry) → slice_get es k ≡ Some x → start ≤ k → ((e : ℕ) → e < k → is_last es k e ≡ nat_le start e)
    → (e : ℕ) → e < k + 1 → is_last es (k + 1) e ≡ nat_le (start_by (x.flags.mark || x.flags.flush) k start) e
since_next es k start x here low since e lt = by (at_or_above e k (omega (arith, lt)))
  where
    last : Entry → Bool
    last y = y.flags.mark || y.flags.flush

    among : Bool → Bool → Bool
    among a b = not (a || b)

    later : (a b : Bool) → e < k → not a ≡ nat_le start e → not (a || b) ≡ nat_le (start_by b k start) e
    later a true before is =
        let past : nat_le k e ≡ false = grind (arith, nat_tests, before) in
        over a ∙ sym past
      where
        over : (a : Bool) → not (a || true) ≡ false
        over true = refl
        over false = refl
    later true false before is = is
    later false false before is = is

    own : (b : Bool) → true ≡ nat_le (start_by b k start) k
    own true = let it : nat_le k k ≡ true = grind (arith, nat_tests) in sym it
    own false = let it : nat_le start k ≡ true = grind (arith, nat_tests, low) in sym it

    by : (k ≡ e) ⊎ (e + 1 ≤ k) → is_last es (k + 1) e ≡ nat_le (start_by (last x) k start) e
    by (inl same) = subst (λ (n : ℕ). is_last es (k + 1) n ≡ nat_le (start_by (last x) k start) n) same (ap not (none_next last es k) ∙ own (last x))
    by (inr before) = ap not (any_next last es e k x here (omega (arith, before))) ∙ later (list_any last (slice_range es (e + 1) k)) (last x) (omega (arith, before)) (since e (omega (arith, before)))

-- the entries since the mark before, without those that a flush at the mark made durable
is_since_is : (es : List Entry) (k start : ℕ) (x : Entry) → slice_get es k ≡ Some x → ((e : ℕ) → e < k → is_last es k e ≡ nat_le start e)
    → (e : ℕ) → e < k → is_since es k e ≡ nat_le (start_by x.flags.flush k start) e
is_since_is es k start x here since e lt =
    let mark : Entry → Bool = λ y. y.flags.mark in
    let flush : Entry → Bool = λ y. y.flags.flush in
    let between : List Entry = slice_range es (e + 1) k in
    ap (λ b. not (list_any mark between) && not b) (any_next flush es e k x here lt)
    ∙ by (list_any mark between) (list_any flush between) x.flags.flush (sym (ap not (any_or mark flush between)) ∙ since e lt)
  where
    by : (a b c : Bool) → not (a || b) ≡ nat_le start e → (not a && not (b || c)) ≡ nat_le (start_by c k start) e
    by true b true is = let past : nat_le k e ≡ false = grind (arith, nat_tests, lt) in sym past
    by true b false is = is
    by false true true is = let past : nat_le k e ≡ false = grind (arith, nat_tests, lt) in sym past
    by false true false is = is
    by false false true is = let past : nat_le k e ≡ false = grind (arith, nat_tests, lt) in sym past
    by false false false is = is

mark_at : (es : List Entry) (k : ℕ) (x : Entry) → slice_get es k ≡ Some x → is_mark es k ≡ x.flags.mark
mark_at es k x here = ap (λ o. option_map_or (λ (y : Entry). y.flags.mark) o false) here

-- a mark promises too much where an entry from the start on is a write of which nothing made all durable
pub too_much : (es : List Entry) (k start : ℕ) (x : Entry) → slice_get es k ≡ Some x → x.flags.mark ≡ true → ((e : ℕ) → e < k → is_last es k e ≡ nat_le start e)
    → IsUnforced es (start_by x.flags.flush k start) k → promises_too_much es k ≡ true
unfolding promises_too_much
too_much es k start x here mark since u =
    let from = u.from in
    let same : is_since es k u.entry ≡ true =
    is_since_is es k start x here since u.entry u.before ∙ (let it : nat_le (start_by x.flags.flush k start) u.entry ≡ true = grind (arith, nat_tests, from) in it) in
    ap (λ b. b && list_any (λ e. is_since es k e && is_unforced es k e) (range_with_len 0 k)) (mark_at es k x here ∙ mark)
    ∙ range_any (λ e. is_since es k e && is_unforced es k e) 0 k u.entry (omega arith) (let before = u.before in omega (arith, before)) (ap (λ b. b && is_unforced es k u.entry) same ∙ u.is)

pub not_too_much : (es : List Entry) (k start : ℕ) (x : Entry) → slice_get es k ≡ Some x → ((e : ℕ) → e < k → is_last es k e ≡ nat_le start e)
    → NoneIsUnforced es (start_by x.flags.flush k start) k → promises_too_much es k ≡ false
unfolding promises_too_much
not_too_much es k start x here since none =
    ap (λ b. is_mark es k && b) (range_none (λ e. is_since es k e && is_unforced es k e) 0 k (λ e low high. at e (omega (arith, high)))) ∙ and_false (is_mark es k)
  where
    and_false : (b : Bool) → (b && false) ≡ false
    and_false true = refl
    and_false false = refl

    from : ℕ
    from = start_by x.flags.flush k start

    by : (e : ℕ) → e < k → (b : Bool) → nat_le from e ≡ b → (b && is_unforced es k e) ≡ false
    by e lt true is = none e (grind (arith, nat_tests, is)) lt
    by e lt false is = refl

    at : (e : ℕ) → e < k → (is_since es k e && is_unforced es k e) ≡ false
    at e lt = ap (λ b. b && is_unforced es k e) (is_since_is es k start x here since e lt) ∙ by e lt (nat_le from e) refl

unmarked : (es : List Entry) (k : ℕ) (x : Entry) → slice_get es k ≡ Some x → x.flags.mark ≡ false → promises_too_much es k ≡ false
unfolding promises_too_much
unmarked es k x here mark = ap (λ b. b && list_any (λ e. is_since es k e && is_unforced es k e) (range_with_len 0 k)) (mark_at es k x here ∙ mark)

-- the marks that were found, with one entry more
before_next : (es : List Entry) (k : ℕ) (b : Bool) → promises_too_much es k ≡ b → too_much_before es (k + 1) ≡ too_much_before es k ++ (if b then k ∷ [] else [])
before_next es k b is =
    let at : 0 + k ≡ k = omega arith in
    ap (filter (promises_too_much es)) (range_with_len-more 0 k)
    ∙ filter-append (promises_too_much es) (range_with_len 0 k) ((0 + k) ∷ [])
    ∙ ap (λ n. too_much_before es k ++ filter (promises_too_much es) (n ∷ [])) at
    ∙ ap (λ xs. too_much_before es k ++ xs) (one b is)
  where
    one : (b : Bool) → promises_too_much es k ≡ b → filter (promises_too_much es) (k ∷ []) ≡ (if b then k ∷ [] else [])
    one true e = rw e refl
    one false e = rw e refl

-- After one entry more.

later_old : (k : ℕ) (stamps : List ℕ) → ((n : ℕ) → get_or stamps n 0 ≤ k) → (n : ℕ) → get_or stamps n 0 ≤ k + 1
later_old k stamps old n = let was = old n in omega (arith, was)

start_low : (b : Bool) (k start : ℕ) → start ≤ k → start_by b k start ≤ k
start_low true k start low = omega arith
start_low false k start low = low

low_next : (b : Bool) (k start : ℕ) → start ≤ k → start_by b k start ≤ k + 1
low_next b k start low = let was = start_low b k start low in omega (arith, was)

-- an entry that is no mark
pub pass_other : (es : List Entry) (k : ℕ) (x : Entry) (old new : PromiseSearch) → slice_get es k ≡ Some x → x.flags.mark ≡ false → IsSearched es k old
    → new.stamps.items ≡ old.stamps.items → new.start ≡ start_by x.flags.flush k old.start → new.found ≡ old.found → IsSearched es (k + 1) new
pass_other es k x old new here mark was stamps start found = record {
  old = subst (λ (ss : List ℕ). (n : ℕ) → get_or ss n 0 ≤ k + 1) (sym stamps) (later_old k old.stamps.items was.old);
  low = subst (λ (n : ℕ). n ≤ k + 1) (sym start) (low_next x.flags.flush k old.start was.low);
  since = λ e lt. since_next es k old.start x here was.low was.since e lt ∙ ap (λ b. nat_le (start_by (b || x.flags.flush) k old.start) e) mark ∙ ap (λ n. nat_le n e) (sym start);
  found = subst (λ (f : Promises). AreFirst (too_much_before es (k + 1)) f) (sym found)
      (subst (λ (ms : List ℕ). AreFirst ms old.found) (sym (before_next es k false (unmarked es k x here mark) ∙ append-nil (too_much_before es k))) was.found);
}

-- a mark that was judged
pub pass_mark : (es : List Entry) (k : ℕ) (x : Entry) (old new : PromiseSearch) → slice_get es k ≡ Some x → x.flags.mark ≡ true → IsSearched es k old
    → ((n : ℕ) → get_or new.stamps.items n 0 ≤ k + 1) → new.start ≡ k → IsJudged es (start_by x.flags.flush k old.start) k (too_much_before es k) new.found
    → IsSearched es (k + 1) new
pass_mark es k x old new here mark was stamps start judged = record {
  old = stamps;
  low = omega (arith, start);
  since = λ e lt. since_next es k old.start x here was.low was.since e lt ∙ ap (λ b. nat_le (start_by (b || x.flags.flush) k old.start) e) mark ∙ ap (λ n. nat_le n e) (sym start);
  found = by judged;
}
  where
    by : IsJudged es (start_by x.flags.flush k old.start) k (too_much_before es k) new.found → AreFirst (too_much_before es (k + 1)) new.found
    by (one_more u found) = subst (λ (ms : List ℕ). AreFirst ms new.found) (sym (before_next es k true (too_much es k old.start x here mark was.since u))) found
    by (no_more none found) =
        subst (λ (ms : List ℕ). AreFirst ms new.found) (sym (before_next es k false (not_too_much es k old.start x here was.since none) ∙ append-nil (too_much_before es k))) found

-- no more marks than entries before it
pub few_found : (es : List Entry) (k : ℕ) (p : Promises) → AreFirst (too_much_before es k) p → p.count ≤ k
few_found es k p found =
    let count = found.count in
    let is = length-filter (promises_too_much es) (range_with_len 0 k) in
    let all = count_by-le-length (promises_too_much es) (range_with_len 0 k) in
    let many = length-range_with_len 0 k in
    omega (arith, count, is, all, many)

pub within_log : (log : LogValue) (es : List Entry) (sectors : ℕ) → IsLog log → es ≡ log.entries → sectors ≡ log.sectors → AreWithin sectors es
within_log log es sectors bounds entries of =
    λ i x here some.
    let fits = (bounds.entries i x (sym (ap (λ xs. slice_get xs i) entries) ∙ here)).device some in
    omega (arith, fits, of)

-- a mark is judged from the start that was worked out
pub judged_from : (es : List Entry) (m start from : ℕ) (marks : List ℕ) (found : Promises) → from ≡ start → IsJudged es from m marks found → IsJudged es start m marks found
judged_from es m start from marks found same judged = subst (λ (n : ℕ). IsJudged es n m marks found) same judged
