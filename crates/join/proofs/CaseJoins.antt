-- From the steps of a join of texts of cases to its contract.
use Rattle.std.proofs.Common.{ℕ, zero, suc, ◌≡◌, ◌↔◌, IsTrue, Bool, true, false, ◌+◌, ◌-◌, ◌≢◌, ◌<◌, ◌≤◌, ◌⊎◌, inl, inr, List, [], ◌∷◌, ◌++◌, length, map, take, get_or, slice_get, append_assoc, append-nil, All, Some, None, Result, Ok, Err, IfOk, IfErr, refl, sym, ◌∙◌, ap, subst, arith}
use Rattle.std.specs.List.{flat_map, sum_by}
use Rattle.std.specs.List.Sorted.{IsPermutation, IsNonDecreasingBy, IsStableByKey}
use Rattle.std.specs.Ordering.{nat_cmp}
use Rattle.std.proofs.lemmas.Int.{clamps}
use Rattle.std.proofs.lemmas.Grind.{flat_map-append}
use Rattle.std.proofs.lemmas.List.Sums.{sum_by-cons}
use Rattle.std.proofs.lemmas.List.Sorted.{All-permutation, length_permutation, sum_by-IsPermutation}
use Rattle.base.specs.declared.causes.JoinCause.TheVariants as cause
use Rattle.base.specs.declared.causes.JoinCause.{JoinCause}
use Rattle.join.specs.declared.fault.JoinFault.{JoinFault}
use Rattle.join.specs.declared.case_parts.fault.CasesFault.{CasesFault}
use Rattle.join.specs.declared.case_parts.fault.CasesFault.TheVariants as refused
use Rattle.join.specs.declared.case_parts.totals.CaseTotals.{CaseTotals}
use Rattle.join.specs.declared.joining.JoinedText.{JoinedText}
use Rattle.losses.specs.FoundCases.{most_cases}
use Rattle.case_text.specs.Text.{in_word, are_all_cuts, cases_head}
use Rattle.join.specs.CaseTexts.{NoCasesText, totals_line, first_of, last_of}
use Rattle.join.specs.CaseReading.{CasesRead, IsCasesPart}
use Rattle.join.specs.CaseJoining.{AreCasesParts, AreJoinedCases, HasFailing, IsFirstNone, IsFirstApart, IsFirstMany, AreByCuts, HaveAllCuts, LackCuts, IsOfCaseRun, IsTooLong, RefusesCases, no_part, of_other_run, with_gap, with_overlap, with_many, short_of_cuts, no_memory, all_cases, all_totals, both_totals, joined_head, told_number}
use Rattle.join.specs.CaseRows.{IsSmallPart, NoneIsForeign, IsForeignAt, NoneIsApart, IsApartAt, IsManyAt, RowHasAllCuts, RowLacksCuts, IsCasesRow, WhyNoCasesRow, for_break, for_many, for_ends, IsCasesWritten, IsCasesRowText, IsSortedCases, IsSortedFault, WhyNoCases, for_memory, for_run, for_cuts}
use Rattle.join.proofs.CaseWholes.{part_small, same_totals}
use Rattle.join.proofs.CaseRowed.{there, one_there, alike_of, alike_before, in_row, before_break, take_next, take_whole, sum_more}

-- texts of files, and one more
texts_push : (n : ℕ) (ts : List (List ℕ)) (rs : List CasesRead) (t : List ℕ) (r : CasesRead) → AreCasesParts n ts rs → IsCasesPart t r → r.file ≡ n + length ts → AreCasesParts n (ts ++ t ∷ []) (rs ++ r ∷ [])
texts_push n [] [] t r all own at = (own, let here : r.file ≡ n = omega (arith, at) in here, tt)
texts_push n [] (s ∷ rs) t r all own at = absurd all
texts_push n (u ∷ ts) [] t r all own at = absurd all
texts_push n (u ∷ ts) (s ∷ rs) t r all own at = (all.0, all.1, texts_push (n + 1) ts rs t r all.2 own (omega (arith, at)))

pub texts_long : (n : ℕ) (ts : List (List ℕ)) (rs : List CasesRead) → AreCasesParts n ts rs → length rs ≡ length ts
texts_long n [] [] all = refl
texts_long n [] (s ∷ rs) all = absurd all
texts_long n (u ∷ ts) [] all = absurd all
texts_long n (u ∷ ts) (s ∷ rs) all = ap suc (texts_long (n + 1) ts rs all.2)

take_map : {S : Type 0} (f : S → List ℕ) (xs : List S) (n : ℕ) (d : S) → n < length xs → take (n + 1) (map f xs) ≡ take n (map f xs) ++ f (get_or xs n d) ∷ []
take_map f [] n d small = absurd (omega (arith, small))
take_map f (x ∷ xs) zero d small = refl
take_map f (x ∷ xs) (suc n) d small = let e : suc n + 1 ≡ suc (n + 1) = omega arith in rw e (ap (λ (ts : List (List ℕ)). f x ∷ ts) (take_map f xs n d (omega (arith, small))))

get_map : {S : Type 0} (f : S → List ℕ) (xs : List S) (n : ℕ) (d : S) → n < length xs → slice_get (map f xs) n ≡ Some (f (get_or xs n d))
get_map f [] n d small = absurd (omega (arith, small))
get_map f (x ∷ xs) zero d small = refl
get_map f (x ∷ xs) (suc n) d small = get_map f xs n d (omega (arith, small))

take_long : {S : Type 0} (f : S → List ℕ) (xs : List S) (n : ℕ) → n ≤ length xs → length (take n (map f xs)) ≡ n
take_long f xs zero small = refl
take_long f [] (suc n) small = absurd (omega (arith, small))
take_long f (x ∷ xs) (suc n) small = ap suc (take_long f xs n (omega (arith, small)))

map_whole : {S : Type 0} (f : S → List ℕ) (xs : List S) (n : ℕ) → length xs ≤ n → take n (map f xs) ≡ map f xs
map_whole f [] zero past = refl
map_whole f [] (suc n) past = refl
map_whole f (x ∷ xs) zero past = absurd (omega (arith, past))
map_whole f (x ∷ xs) (suc n) past = ap (λ (ts : List (List ℕ)). f x ∷ ts) (map_whole f xs n (omega (arith, past)))

map_long : {S : Type 0} (f : S → List ℕ) (xs : List S) → length (map f xs) ≡ length xs
map_long f [] = refl
map_long f (x ∷ xs) = ap suc (map_long f xs)

pub reads_long : {S : Type 0} (f : S → List ℕ) (xs : List S) (rs : List CasesRead) → AreCasesParts 0 (map f xs) rs → length rs ≡ length xs
reads_long f xs rs all = texts_long 0 (map f xs) rs all ∙ map_long f xs

pub parts_next : {S : Type 0} (f : S → List ℕ) (xs : List S) (n : ℕ) (x : S) (bytes : List ℕ) (rs : List CasesRead) (r : CasesRead) → AreCasesParts 0 (take n (map f xs)) rs → n < length xs → x ≡ get_or xs n x
    → bytes ≡ f x → IsCasesPart bytes r → r.file ≡ n → AreCasesParts 0 (take (n + 1) (map f xs)) (rs ++ r ∷ [])
parts_next f xs n x bytes rs r all small is same own at =
    let long = take_long f xs n (omega (arith, small)) in
    rw (take_map f xs n x small)
    (texts_push 0 (take n (map f xs)) rs (f (get_or xs n x)) r all (subst (λ (bs : List ℕ). IsCasesPart bs r) (same ∙ ap f is) own) (omega (arith, at, long)))

pub parts_all : {S : Type 0} (f : S → List ℕ) (xs : List S) (n : ℕ) (rs : List CasesRead) → length xs ≤ n → AreCasesParts 0 (take n (map f xs)) rs → AreCasesParts 0 (map f xs) rs
parts_all f xs n rs past all = rw (map_whole f xs n past) at all

pub part_refused : {S : Type 0} (f : S → List ℕ) (xs : List S) (n : ℕ) (x : S) (bytes : List ℕ) (rs : List CasesRead) (fault : JoinFault) → AreCasesParts 0 (take n (map f xs)) rs → n < length xs → x ≡ get_or xs n x
    → bytes ≡ f x → (fault ≡ record { cause = cause.Memory; file = 0 }) ⊎ ((fault ≡ record { cause = cause.NotPart; file = n }) × NoCasesText bytes)
    → (fault ≡ record { cause = cause.Memory; file = 0 }) ⊎ ((fault.cause ≡ cause.NotPart) × IsFirstNone (map f xs) fault.file)
part_refused f xs n x bytes rs fault all small is same (inl memory) = inl memory
part_refused f xs n x bytes rs fault all small is same (inr (at, none)) =
    let other : IsFirstNone (map f xs) n = record { before = rs; parts = all; text = f (get_or xs n x); there = get_map f xs n x small; other = subst (λ (bs : List ℕ). NoCasesText bs) (same ∙ ap f is) none } in
    inr (ap (λ (g : JoinFault). g.cause) at, subst (λ (k : ℕ). IsFirstNone (map f xs) k) (sym (ap (λ (g : JoinFault). g.file) at)) other)

-- each text that was read is small
pub all_small : (n : ℕ) (ts : List (List ℕ)) (rs : List CasesRead) → AreCasesParts n ts rs → All IsSmallPart rs
all_small n [] [] all = λ k d small. absurd (omega (arith, small))
all_small n [] (s ∷ rs) all = absurd all
all_small n (u ∷ ts) [] all = absurd all
all_small n (u ∷ ts) (s ∷ rs) all = each (all_small (n + 1) ts rs all.2)
  where
    each : All IsSmallPart rs → (k : ℕ) (d : CasesRead) → k < length (s ∷ rs) → IsSmallPart (get_or (s ∷ rs) k d)
    each rest zero d small = part_small u s all.0
    each rest (suc k) d small = rest k d (omega (arith, small))

pub item_small : (rs : List CasesRead) (i : ℕ) (x : CasesRead) → All IsSmallPart rs → i < length rs → x ≡ get_or rs i x → IsSmallPart x
item_small rs i x all small is = subst (λ (r : CasesRead). IsSmallPart r) (sym is) (all i x small)

-- sums
pub totals_more : (rs : List CasesRead) (i : ℕ) (x : CasesRead) (t : CaseTotals) → t ≡ all_totals (take i rs) → i < length rs → x ≡ get_or rs i x → both_totals t x.totals ≡ all_totals (take (i + 1) rs)
totals_more rs i x t so small is =
    let e1 = sum_more (λ (r : CasesRead). r.totals.cuts) rs i x small is in
    let e2 = sum_more (λ (r : CasesRead). r.totals.cases) rs i x small is in
    let e3 = sum_more (λ (r : CasesRead). r.totals.failing) rs i x small is in
    let e4 = sum_more (λ (r : CasesRead). r.totals.torn) rs i x small is in
    let e5 = sum_more (λ (r : CasesRead). r.totals.lost) rs i x small is in
    let more = totals_are rs i x e1 e2 e3 e4 e5 in
    ap (λ (u : CaseTotals). both_totals u x.totals) so ∙ more
  where
    in_word_on : (a b c : ℕ) → c ≡ a + b → in_word (in_word a + b) ≡ in_word c
    in_word_on a b c e = omega (arith, clamps, e)

    totals_are : (rs : List CasesRead) (i : ℕ) (x : CasesRead) → sum_by (λ (r : CasesRead). r.totals.cuts) (take (i + 1) rs) ≡ sum_by (λ (r : CasesRead). r.totals.cuts) (take i rs) + x.totals.cuts
        → sum_by (λ (r : CasesRead). r.totals.cases) (take (i + 1) rs) ≡ sum_by (λ (r : CasesRead). r.totals.cases) (take i rs) + x.totals.cases
        → sum_by (λ (r : CasesRead). r.totals.failing) (take (i + 1) rs) ≡ sum_by (λ (r : CasesRead). r.totals.failing) (take i rs) + x.totals.failing
        → sum_by (λ (r : CasesRead). r.totals.torn) (take (i + 1) rs) ≡ sum_by (λ (r : CasesRead). r.totals.torn) (take i rs) + x.totals.torn
        → sum_by (λ (r : CasesRead). r.totals.lost) (take (i + 1) rs) ≡ sum_by (λ (r : CasesRead). r.totals.lost) (take i rs) + x.totals.lost
        → both_totals (all_totals (take i rs)) x.totals ≡ all_totals (take (i + 1) rs)
    totals_are rs i x e1 e2 e3 e4 e5 =
        let f4 = in_word_on (sum_by (λ (r : CasesRead). r.totals.torn) (take i rs)) x.totals.torn (sum_by (λ (r : CasesRead). r.totals.torn) (take (i + 1) rs)) e4 in
        let f5 = in_word_on (sum_by (λ (r : CasesRead). r.totals.lost) (take i rs)) x.totals.lost (sum_by (λ (r : CasesRead). r.totals.lost) (take (i + 1) rs)) e5 in
        rw (e1, e2, e3, f4, f5) refl

pub totals_whole : (rs : List CasesRead) (i : ℕ) (t : CaseTotals) → t ≡ all_totals (take i rs) → length rs ≤ i → t ≡ all_totals rs
totals_whole rs i t so past = so ∙ ap all_totals (take_whole rs i past)

pub lines_more : (rs : List CasesRead) (i : ℕ) (x : CasesRead) (before out : List ℕ) → out ≡ before ++ flat_map (λ (r : CasesRead). r.lines) (take i rs) → i < length rs → x ≡ get_or rs i x
    → out ++ x.lines ≡ before ++ flat_map (λ (r : CasesRead). r.lines) (take (i + 1) rs)
lines_more rs i x before out so small is =
    let list : take (i + 1) rs ≡ take i rs ++ x ∷ [] = take_next rs i x small ∙ ap (λ (y : CasesRead). take i rs ++ y ∷ []) (sym is) in
    let both : flat_map (λ (r : CasesRead). r.lines) (take i rs ++ x ∷ []) ≡ flat_map (λ (r : CasesRead). r.lines) (take i rs) ++ x.lines =
    flat_map-append (λ (r : CasesRead). r.lines) (take i rs) (x ∷ []) ∙ ap (λ (bs : List ℕ). flat_map (λ (r : CasesRead). r.lines) (take i rs) ++ bs) (append-nil x.lines) in
    rw (list, so, both) (append_assoc before (flat_map (λ (r : CasesRead). r.lines) (take i rs)) x.lines)

pub written_found : (rs : List CasesRead) (first last : CasesRead) (opening lines end out : List ℕ) → slice_get rs 0 ≡ Some first → slice_get rs (length rs - 1) ≡ Some last
    → opening ≡ cases_head (told_number first last) (joined_head first last) first.asked → lines ≡ flat_map (λ (r : CasesRead). r.lines) rs → end ≡ totals_line (are_all_cuts (joined_head first last).cuts) (all_totals rs)
    → out ≡ (opening ++ lines) ++ end → IsCasesWritten rs out
written_found rs first last opening lines end out at last_at a b c e = record {
  first = first;
  there = at;
  last = last;
  last_there = last_at;
  is =
      e ∙ ap (λ (bs : List ℕ). (bs ++ lines) ++ end) a
      ∙ ap (λ (bs : List ℕ). (cases_head (told_number first last) (joined_head first last) first.asked ++ bs) ++ end) b
      ∙ ap (λ (bs : List ℕ). (cases_head (told_number first last) (joined_head first last) first.asked ++ flat_map (λ (r : CasesRead). r.lines) rs) ++ bs) c
      ∙ append_assoc (cases_head (told_number first last) (joined_head first last) first.asked) (flat_map (λ (r : CasesRead). r.lines) rs) (totals_line (are_all_cuts (joined_head first last).cuts) (all_totals rs));
}

-- what a test of a row tells
pub row_joined : (part : Bool) (rs : List CasesRead) → NoneIsApart rs → all_cases rs ≤ most_cases → RowHasAllCuts rs → IsCasesRow part rs
row_joined part rs joined few whole = record { joined = joined; few = few; whole = λ asked. whole }

pub part_joined : (part : Bool) (rs : List CasesRead) → NoneIsApart rs → all_cases rs ≤ most_cases → part ≡ true → IsCasesRow part rs
part_joined part rs joined few is = record { joined = joined; few = few; whole = λ asked. absurd (let bad : true ≡ false = sym is ∙ asked in cc) }

pub row_breaks : (part : Bool) (rs : List CasesRead) (fault : JoinFault) → IsApartAt rs fault → WhyNoCasesRow part rs (refused.Part fault)
row_breaks part rs fault apart = for_break fault apart

pub row_many : (part : Bool) (rs : List CasesRead) (file : ℕ) → NoneIsApart rs → IsManyAt rs file → WhyNoCasesRow part rs (refused.TooMany file)
row_many part rs file joined many = for_many file joined many

pub row_lacks : (part : Bool) (rs : List CasesRead) (file : ℕ) → part ≡ false → NoneIsApart rs → all_cases rs ≤ most_cases → RowLacksCuts rs file → WhyNoCasesRow part rs (refused.Part (record { cause = cause.Gap; file = file }))
row_lacks part rs file asked joined few lacking = for_ends file asked joined few lacking

-- whether a row has all cuts of its log
pub first_lacks : (rs : List CasesRead) (first last : CasesRead) (from file : ℕ) → slice_get rs 0 ≡ Some first → slice_get rs (length rs - 1) ≡ Some last → from ≡ first_of first.head → 0 < from → file ≡ first.file
    → RowLacksCuts rs file
first_lacks rs first last from file at last_at is past named = record { first = first; last = last; ends = record { there = at; last_there = last_at }; lack = inl (subst (λ (n : ℕ). 0 < n) is past, named) }

pub last_lacks : (rs : List CasesRead) (first last : CasesRead) (from to file : ℕ) → slice_get rs 0 ≡ Some first → slice_get rs (length rs - 1) ≡ Some last → from ≡ first_of first.head → from ≡ 0 → to ≡ last_of last.head
    → to ≢ last.head.entries → file ≡ length rs → RowLacksCuts rs file
last_lacks rs first last from to file at last_at is none ends other named = record {
  first = first;
  last = last;
  ends = record { there = at; last_there = last_at };
  lack = inr (sym is ∙ none, λ e. other (ends ∙ e), named);
}

pub none_lacks : (rs : List CasesRead) (first last : CasesRead) (from to : ℕ) → slice_get rs 0 ≡ Some first → slice_get rs (length rs - 1) ≡ Some last → from ≡ first_of first.head → from ≡ 0 → to ≡ last_of last.head
    → to ≡ last.head.entries → RowHasAllCuts rs
none_lacks rs first last from to at last_at is none ends same = record {
  first = first;
  last = last;
  ends = record { there = at; last_there = last_at };
  have = record { begins = sym is ∙ none; ends = sym ends ∙ same };
}

pub memory_refused : (part : Bool) (reads : List CasesRead) (fault : CasesFault) → fault ≡ refused.Part (record { cause = cause.Memory; file = 0 }) → WhyNoCases part reads fault
memory_refused part reads fault is = subst (λ (f : CasesFault). WhyNoCases part reads f) (sym is) for_memory

-- texts in the order of their cuts
module _ (part : Bool) (reads row slice : List CasesRead) (order : IsPermutation reads row) (is : slice ≡ row) where
  pub slice_some : 0 < length reads → 0 < length slice
  slice_some some = let long = length_permutation reads row order in let same = ap (λ (rs : List CasesRead). length rs) is in omega (arith, some, long, same)

  pub slice_few : length reads ≤ 4096 → length slice ≤ 4096
  slice_few few = let long = length_permutation reads row order in let same = ap (λ (rs : List CasesRead). length rs) is in omega (arith, few, long, same)

  pub slice_small : All IsSmallPart reads → All IsSmallPart slice
  slice_small all = subst (λ (rs : List CasesRead). All IsSmallPart rs) (sym is) (All-permutation IsSmallPart reads row order all)

  pub sorted_text : (r : Result JoinedText CasesFault) → IfOk r (λ j. IsCasesRowText part slice j.bytes.items j.failing) → IfOk r (λ j. IsSortedCases part reads j.bytes.items j.failing)
  sorted_text (Ok j) text = record { row = row; order = order; text = subst (λ (rs : List CasesRead). IsCasesRowText part rs j.bytes.items j.failing) is text }
  sorted_text (Err fault) text = tt

  pub sorted_fault : (r : Result JoinedText CasesFault) → IsNonDecreasingBy (λ (x : CasesRead). first_of x.head) row → IsStableByKey (λ (x : CasesRead). first_of x.head) nat_cmp reads row
      → IfErr r (λ f. (f ≡ refused.Part (record { cause = cause.Memory; file = 0 })) ⊎ WhyNoCasesRow part slice f) → IfErr r (λ f. (f ≡ refused.Part (record { cause = cause.Memory; file = 0 })) ⊎ IsSortedFault part reads f)
  sorted_fault (Ok j) rising stable why = tt
  sorted_fault (Err fault) rising stable (inl memory) = inl memory
  sorted_fault (Err fault) rising stable (inr why) = inr (record { row = row; order = order; rising = rising; stable = stable; why = subst (λ (rs : List CasesRead). WhyNoCasesRow part rs fault) is why })

-- texts of one run
pub run_joined : (part : Bool) (reads slice : List CasesRead) → slice ≡ reads → NoneIsForeign slice → (r : Result JoinedText CasesFault) → IfOk r (λ j. IsSortedCases part reads j.bytes.items j.failing)
    → IfOk r (λ j. NoneIsForeign reads × IsSortedCases part reads j.bytes.items j.failing)
run_joined part reads slice is none (Ok j) text = (subst (λ (rs : List CasesRead). NoneIsForeign rs) is none, text)
run_joined part reads slice is none (Err fault) text = tt

pub run_refused : (part : Bool) (reads slice : List CasesRead) → slice ≡ reads → NoneIsForeign slice → (r : Result JoinedText CasesFault)
    → IfErr r (λ f. (f ≡ refused.Part (record { cause = cause.Memory; file = 0 })) ⊎ IsSortedFault part reads f) → IfErr r (WhyNoCases part reads)
run_refused part reads slice is none (Ok j) why = tt
run_refused part reads slice is none (Err fault) (inl memory) = subst (λ (f : CasesFault). WhyNoCases part reads f) (sym memory) for_memory
run_refused part reads slice is none (Err fault) (inr why) = for_cuts fault (subst (λ (rs : List CasesRead). NoneIsForeign rs) is none) why

pub other_refused : (part : Bool) (reads slice : List CasesRead) (place : ℕ) → slice ≡ reads → IsForeignAt slice place → WhyNoCases part reads (refused.Part (record { cause = cause.OtherRun; file = place }))
other_refused part reads slice place is at = for_run place (subst (λ (rs : List CasesRead). IsForeignAt rs place) is at)

-- WHAT THE TEXTS OF FILES COME TO

same_run : (run r x : CasesRead) → IsOfCaseRun run r → IsOfCaseRun run x → IsOfCaseRun r x
same_run run r x own also = also ∙ sym own

pub files_joined : (part : Bool) (texts : List (List ℕ)) (reads : List CasesRead) (bytes : List ℕ) (failing : Bool) → AreCasesParts 0 texts reads → 0 < length reads → NoneIsForeign reads → IsSortedCases part reads bytes failing
    → AreJoinedCases part texts bytes
files_joined part texts reads bytes failing each some alike sorted = by_reads reads each some alike sorted
  where
    by_reads : (rs : List CasesRead) → AreCasesParts 0 texts rs → 0 < length rs → NoneIsForeign rs → IsSortedCases part rs bytes failing → AreJoinedCases part texts bytes
    by_reads [] all more none s = absurd (omega (arith, more))
    by_reads (x ∷ xs) all more none s =
        let w = s.text.written in
        let of_x = All-permutation (IsOfCaseRun x) (x ∷ xs) s.row s.order (alike_of (x ∷ xs) x refl none) in
        let own = first_own s.row w.first w.there (IsOfCaseRun x) of_x in
        record {
          reads = x ∷ xs;
          each = all;
          row = s.row;
          order = s.order;
          first = w.first;
          last = w.last;
          begins = w.there;
          ends = w.last_there;
          one = λ k d small. same_run x w.first (get_or s.row k d) own (of_x k d small);
          follow = in_row s.row s.text.stands.joined.joined;
          few = s.text.stands.few;
          whole = λ asked. all_cuts s.row w.first w.last w.there w.last_there (s.text.stands.whole asked);
          is = w.is;
        }
      where
        all_cuts : (rs : List CasesRead) (first last : CasesRead) → slice_get rs 0 ≡ Some first → slice_get rs (length rs - 1) ≡ Some last → RowHasAllCuts rs → HaveAllCuts first last
        all_cuts rs first last at last_at own =
            let one = one_there rs 0 own.first first own.ends.there at in
            let two = one_there rs (length rs - 1) own.last last own.ends.last_there last_at in
            subst (λ (r : CasesRead). HaveAllCuts first r) two (subst (λ (r : CasesRead). HaveAllCuts r own.last) one own.have)

        first_own : (rs : List CasesRead) (first : CasesRead) → slice_get rs 0 ≡ Some first → (P : CasesRead → Type 0) → All P rs → P first
        first_own [] first at P all = absurd (let bad : None ≡ Some first = at in cc)
        first_own (r ∷ rs) first at P all = let same : r ≡ first = one_there (r ∷ rs) 0 r first refl at in subst P same (all 0 r (omega arith))

-- two readings of the texts have as many failing cases
same_failing : (n : ℕ) (ts : List (List ℕ)) (rs ss : List CasesRead) → AreCasesParts n ts rs → AreCasesParts n ts ss
    → sum_by (λ (r : CasesRead). r.totals.failing) rs ≡ sum_by (λ (r : CasesRead). r.totals.failing) ss
same_failing n [] [] [] one two = refl
same_failing n [] [] (s ∷ ss) one two = absurd two
same_failing n [] (r ∷ rs) ss one two = absurd one
same_failing n (t ∷ ts) [] ss one two = absurd one
same_failing n (t ∷ ts) (r ∷ rs) [] one two = absurd two
same_failing n (t ∷ ts) (r ∷ rs) (s ∷ ss) one two =
    let own = ap (λ (u : CaseTotals). u.failing) (same_totals t r s one.0 two.0) in
    let rest = same_failing (n + 1) ts rs ss one.2 two.2 in
    let a = sum_by-cons (λ (x : CasesRead). x.totals.failing) r rs in
    let b = sum_by-cons (λ (x : CasesRead). x.totals.failing) s ss in
    omega (arith, own, rest, a, b)

pub files_failing : (part : Bool) (texts : List (List ℕ)) (reads : List CasesRead) (bytes : List ℕ) (failing : Bool) → AreCasesParts 0 texts reads → IsSortedCases part reads bytes failing → IsTrue failing ↔ HasFailing texts
files_failing part texts reads bytes failing each sorted =
    let moved : sum_by (λ (r : CasesRead). r.totals.failing) sorted.row ≡ sum_by (λ (r : CasesRead). r.totals.failing) reads = sum_by-IsPermutation (λ (r : CasesRead). r.totals.failing) reads sorted.row sorted.order in (
      λ t. let some = sorted.text.fails.0 t in (reads, each, omega (arith, moved, some)),
      λ h.
          let (others, other_each, some) = h in
          let same = same_failing 0 texts reads others each other_each in
          sorted.text.fails.1 (omega (arith, same, some, moved)),
    )

-- why they are refused
same_fault : (fault : JoinFault) (kind : JoinCause) (file : ℕ) → fault.cause ≡ kind → fault.file ≡ file → record { cause = kind; file = file } ≡ fault
same_fault fault kind file one two = rw (← one, ← two) refl

pub parts_wanting : (part : Bool) (texts : List (List ℕ)) (fault : JoinFault) → (fault ≡ record { cause = cause.Memory; file = 0 }) ⊎ ((fault.cause ≡ cause.NotPart) × IsFirstNone texts fault.file) → RefusesCases part texts (refused.Part fault)
parts_wanting part texts fault (inl memory) = subst (λ (f : JoinFault). RefusesCases part texts (refused.Part f)) (sym memory) no_memory
parts_wanting part texts fault (inr (kind, other)) = subst (λ (f : JoinFault). RefusesCases part texts (refused.Part f)) (same_fault fault cause.NotPart fault.file kind refl) (no_part fault.file other)

foreign_refused : (part : Bool) (texts : List (List ℕ)) (reads : List CasesRead) (place : ℕ) → AreCasesParts 0 texts reads → IsForeignAt reads place → RefusesCases part texts (refused.Part (record { cause = cause.OtherRun; file = place }))
foreign_refused part texts reads place each at = of_other_run place (record {
  reads = reads;
  each = each;
  run = at.run;
  run_there = at.run_there;
  before = alike_before reads at.run place at.run_there at.alike;
  read = at.read;
  there = at.there;
  foreign = at.foreign;
})

by_cuts_of : (texts : List (List ℕ)) (reads row : List CasesRead) → AreCasesParts 0 texts reads → 0 < length reads → NoneIsForeign reads → IsPermutation reads row → IsNonDecreasingBy (λ (r : CasesRead). first_of r.head) row
    → IsStableByKey (λ (r : CasesRead). first_of r.head) nat_cmp reads row → AreByCuts texts reads row
by_cuts_of texts reads row each some alike order rising stable =
    let run = of_run reads some alike in
    record { each = each; run = run.0; one = run.1; order = order; rising = rising; stable = stable }
  where
    of_run : (rs : List CasesRead) → 0 < length rs → NoneIsForeign rs → (run : CasesRead) × All (IsOfCaseRun run) rs
    of_run [] more one = absurd (omega (arith, more))
    of_run (x ∷ xs) more one = (x, alike_of (x ∷ xs) x refl one)

apart_refused : (part : Bool) (texts : List (List ℕ)) (reads row : List CasesRead) (fault : JoinFault) → AreByCuts texts reads row → IsApartAt row fault → RefusesCases part texts (refused.Part fault)
apart_refused part texts reads row fault by_cuts apart = by_kind apart.kind
  where
    first : IsFirstApart texts apart.left apart.right
    first =
        let broken = before_break row apart.place apart.left apart.right apart.left_there apart.right_there apart.joined in
        record { reads = reads; row = row; by_cuts = by_cuts; front = broken.front; back = broken.back; parted = broken.parted; before = broken.follow }

    by_kind : ((fault.cause ≡ cause.Gap) × (last_of apart.left.head + 1 < first_of apart.right.head)) ⊎ ((fault.cause ≡ cause.Overlap) × (first_of apart.right.head < last_of apart.left.head + 1)) → RefusesCases part texts (refused.Part fault)
    by_kind (inl gap) = subst (λ (f : JoinFault). RefusesCases part texts (refused.Part f)) (same_fault fault cause.Gap apart.right.file gap.0 apart.file) (with_gap apart.left apart.right first gap.1)
    by_kind (inr over) = subst (λ (f : JoinFault). RefusesCases part texts (refused.Part f)) (same_fault fault cause.Overlap apart.right.file over.0 apart.file) (with_overlap apart.left apart.right first over.1)

-- a list parts at an element
parted_at : (rs : List CasesRead) (k : ℕ) (x : CasesRead) → slice_get rs k ≡ Some x → (back : List CasesRead) × (rs ≡ take k rs ++ x ∷ back) × (take (k + 1) rs ≡ take k rs ++ x ∷ [])
parted_at [] k x at = absurd (let bad : None ≡ Some x = at in cc)
parted_at (r ∷ rs) zero x at = let same : r ≡ x = one_there (r ∷ rs) 0 r x refl at in (rs, ap (λ (y : CasesRead). y ∷ rs) same, ap (λ (y : CasesRead). y ∷ []) same)
parted_at (r ∷ rs) (suc k) x at =
    let (back, one, two) = parted_at rs k x at in
    let e : suc k + 1 ≡ suc (k + 1) = omega arith in
    (back, ap (λ (ys : List CasesRead). r ∷ ys) one, rw e (ap (λ (ys : List CasesRead). r ∷ ys) two))

many_refused : (part : Bool) (texts : List (List ℕ)) (reads row : List CasesRead) (file : ℕ) → AreByCuts texts reads row → NoneIsApart row → IsManyAt row file → RefusesCases part texts (refused.TooMany file)
many_refused part texts reads row file by_cuts joined many =
    let (back, parted, more) = parted_at row many.place many.read many.there in
    let past = many.past in
    let first : IsFirstMany texts many.read = record {
      reads = reads;
      row = row;
      by_cuts = by_cuts;
      follow = in_row row joined.joined;
      front = take many.place row;
      back = back;
      parted = parted;
      before = many.before;
      past = subst (λ (rs : List CasesRead). most_cases < all_cases rs) more past;
    } in
    subst (λ (n : ℕ). RefusesCases part texts (refused.TooMany n)) (sym many.named) (with_many many.read first)

ends_refused : (part : Bool) (texts : List (List ℕ)) (reads row : List CasesRead) (file : ℕ) → part ≡ false → AreByCuts texts reads row → NoneIsApart row → all_cases row ≤ most_cases → RowLacksCuts row file
    → RefusesCases part texts (refused.Part (record { cause = cause.Gap; file = file }))
ends_refused part texts reads row file asked by_cuts joined few lacking =
    let long : length row ≡ length texts = length_permutation reads row by_cuts.order ∙ texts_long 0 texts reads by_cuts.each in
    short_of_cuts file asked (record {
      reads = reads;
      row = row;
      by_cuts = by_cuts;
      follow = in_row row joined.joined;
      few = few;
      first = lacking.first;
      last = lacking.last;
      begins = lacking.ends.there;
      ends = lacking.ends.last_there;
      lacking = subst (λ (n : ℕ). LackCuts lacking.first lacking.last n file) long lacking.lack;
    })

no_row_refused : (part : Bool) (texts : List (List ℕ)) (reads row : List CasesRead) (fault : CasesFault) → AreByCuts texts reads row → WhyNoCasesRow part row fault → RefusesCases part texts fault
no_row_refused part texts reads row _ by_cuts (for_break own apart) = apart_refused part texts reads row own by_cuts apart
no_row_refused part texts reads row _ by_cuts (for_many file joined many) = many_refused part texts reads row file by_cuts joined many
no_row_refused part texts reads row _ by_cuts (for_ends file asked joined few lacking) = ends_refused part texts reads row file asked by_cuts joined few lacking

pub not_joined : (part : Bool) (texts : List (List ℕ)) (reads : List CasesRead) (fault : CasesFault) → AreCasesParts 0 texts reads → 0 < length reads → WhyNoCases part reads fault → RefusesCases part texts fault
not_joined part texts reads _ each some for_memory = no_memory
not_joined part texts reads _ each some (for_run place at) = foreign_refused part texts reads place each at
not_joined part texts reads _ each some (for_cuts own alike sorted) =
    no_row_refused part texts reads sorted.row own (by_cuts_of texts reads sorted.row each some alike sorted.order sorted.rising sorted.stable) sorted.why

-- answers, as they are handed on
pub short_joined : (part : Bool) (texts : List (List ℕ)) (reads : List CasesRead) → AreCasesParts 0 texts reads → 0 < length reads → (r : Result JoinedText CasesFault)
    → IfOk r (λ j. NoneIsForeign reads × IsSortedCases part reads j.bytes.items j.failing) → IfOk r (λ j. AreJoinedCases part texts j.bytes.items)
short_joined part texts reads each some (Ok j) (alike, sorted) = files_joined part texts reads j.bytes.items j.failing each some alike sorted
short_joined part texts reads each some (Err fault) own = tt

pub short_failing : (part : Bool) (texts : List (List ℕ)) (reads : List CasesRead) → AreCasesParts 0 texts reads → (r : Result JoinedText CasesFault)
    → IfOk r (λ j. NoneIsForeign reads × IsSortedCases part reads j.bytes.items j.failing) → IfOk r (λ j. IsTrue j.failing ↔ HasFailing texts)
short_failing part texts reads each (Ok j) (alike, sorted) = files_failing part texts reads j.bytes.items j.failing each sorted
short_failing part texts reads each (Err fault) own = tt

pub short_refused : (part : Bool) (texts : List (List ℕ)) (reads : List CasesRead) → AreCasesParts 0 texts reads → 0 < length reads → (r : Result JoinedText CasesFault) → IfErr r (WhyNoCases part reads) → IfErr r (RefusesCases part texts)
short_refused part texts reads each some (Ok j) own = tt
short_refused part texts reads each some (Err fault) why = not_joined part texts reads fault each some why

pub known_err : {A : Type 0} (r : Result A CasesFault) (P : Type 0) → P → IfErr r (λ f. IsTooLong f ⊎ P)
known_err (Ok x) P p = tt
known_err (Err e) P p = inr p
