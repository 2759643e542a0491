-- Texts of consecutive ranges of cuts of one run are joined, unless they are too long, have too many cases, or there is no memory.
use Rattle.std.proofs.Common.{ℕ, zero, suc, ◌≡◌, ◌+◌, ◌-◌, ◌<◌, ◌≤◌, ◌⊎◌, ◌==◌, if◌then◌else◌, Bool, true, false, inl, inr, List, [], ◌∷◌, ◌++◌, length, map, slice_get, All, Option, Some, None, refl, sym, ◌∙◌, ap, subst, arith}
use Rattle.std.specs.List.{flat_map, sum_by}
use Rattle.std.specs.List.Sorted.{IsPermutation, IsNonDecreasingBy}
use Rattle.std.proofs.lemmas.Int.{clamps}
use Rattle.std.proofs.lemmas.Bool.{cases_lt}
use Rattle.std.proofs.lemmas.Bool.Decides.{nat_tests, eqb_tells}
use Rattle.std.proofs.lemmas.List.Sums.{sum_by-cons, sum_by-append}
use Rattle.std.proofs.lemmas.List.Sorted.{sum_by-IsPermutation}
use Rattle.base.specs.declared.causes.JoinCause.TheVariants as cause
use Rattle.losses.specs.declared.found.Losses.{Losses}
use Rattle.losses.specs.FoundCases.{most_cases}
use Rattle.case_text.specs.Text.{in_word, cases_head, opening_text, options_text}
use Rattle.join.specs.declared.case_parts.fault.CasesFault.{CasesFault}
use Rattle.join.specs.declared.case_parts.fault.CasesFault.TheVariants as refused
use Rattle.join.specs.CaseTexts.{IsCasesText, NoCasesText, first_of, last_of}
use Rattle.join.specs.CaseReading.{CasesRead, SaysCases}
use Rattle.join.specs.CaseJoining.{Adjoins, AreByCuts, AreShortOfCuts, FollowInRow, IsFirstApart, IsFirstForeign, IsFirstMany, IsTooLong, RefusesCases, all_cases, head_between, run_text, too_long, no_part, of_other_run, with_gap, with_overlap, with_many, short_of_cuts, no_memory}
use Rattle.join.specs.CaseLaws.{ArePartsOfCases, AskedRange, CaseRun, CasesAreJoined, HasTooMany, cases_between, cuts_of_range, has_all, start_of}
use Rattle.join.proofs.CaseLasts.{and_both}
use Rattle.join.proofs.CaseRowed.{one_there}
use Rattle.join.proofs.CaseLawful.{AreCounts, AreSaid, Rising, all_is, are_said, count_cases, entries_said, first_said, follow_said, head_is, in_order, key, last_to, one_number, printed_of, rises, rising_row}

-- BY THEIR FIRST CUTS THEY STAND IN THE ORDER OF THEIR RANGES

-- how many begin at a cut
abbrev begins_at : ℕ → CasesRead → ℕ
begins_at n r = if key r == n then 1 else 0

abbrev times : ℕ → List CasesRead → ℕ
times n rs = sum_by (begins_at n) rs

own_begin : (r : CasesRead) (n : ℕ) → key r ≡ n → begins_at n r ≡ 1
own_begin r n same = let e : (key r == n) ≡ true = grind (arith, nat_tests, same) in rw e refl

other_begin : (r : CasesRead) (n : ℕ) → n < key r → begins_at n r ≡ 0
other_begin r n less = let e : (key r == n) ≡ false = grind (arith, nat_tests, less) in rw e refl

none_before : (n from : ℕ) (rs : List CasesRead) → n < from → Rising from rs → times n rs ≡ 0
none_before n from [] less up = refl
none_before n from (r ∷ rs) less up =
    let low = up.0 in
    let own = other_begin r n (omega (arith, less, low)) in
    let rest = none_before n (key r + 1) rs (omega (arith, less, low)) up.1 in
    let sum = sum_by-cons (begins_at n) r rs in
    omega (arith, own, rest, sum)

once : (n from : ℕ) (rs : List CasesRead) → Rising from rs → times n rs ≤ 1
once n from [] up = omega arith
once n from (r ∷ rs) up =
    let sum = sum_by-cons (begins_at n) r rs in
    elim (eqb_tells (key r) n) [
      | inl same ↦ (
          let here : key r ≡ n = same.1 in
          let own = own_begin r n here in
          let rest = none_before n (key r + 1) rs (omega (arith, here)) up.1 in
          omega (arith, own, rest, sum))
      | inr other ↦ (
          let own : begins_at n r ≡ 0 = rw other.0 refl in
          let rest = once n (key r + 1) rs up.1 in
          omega (arith, own, rest, sum))
    ]

no_two : (r s : CasesRead) (rs : List CasesRead) → ((n : ℕ) → times n (r ∷ s ∷ rs) ≤ 1) → key r ≡ key s → ⊥
no_two r s rs few same =
    let one = own_begin r (key r) refl in
    let two = own_begin s (key r) (sym same) in
    let e1 = sum_by-cons (begins_at (key r)) r (s ∷ rs) in
    let e2 = sum_by-cons (begins_at (key r)) s rs in
    let all = few (key r) in
    omega (arith, one, two, e1, e2, all)

fewer : (r : CasesRead) (rs : List CasesRead) → ((n : ℕ) → times n (r ∷ rs) ≤ 1) → (n : ℕ) → times n rs ≤ 1
fewer r rs few n = let sum = sum_by-cons (begins_at n) r rs in let all = few n in omega (arith, sum, all)

sorted_from : (from : ℕ) (r : CasesRead) (rs : List CasesRead) → from ≤ key r → IsNonDecreasingBy key (r ∷ rs) → ((n : ℕ) → times n (r ∷ rs) ≤ 1) → Rising from (r ∷ rs)
sorted_from from r [] low up few = (low, tt)
sorted_from from r (s ∷ rs) low up few =
    let next : key r ≤ key s = up 0 1 r (omega arith) (omega arith) in
    let apart : key r + 1 ≤ key s =
    elim (cases_lt (key r) (key s)) [ inl less ↦ omega (arith, less) | inr past ↦ absurd (no_two r s rs few (omega (arith, next, past))) ] in
    (low, sorted_from (key r + 1) s rs apart (λ i j d le l. up (suc i) (suc j) d (omega (arith, le)) (omega (arith, l))) (fewer r (s ∷ rs) few))

sorted_rises : (rs : List CasesRead) → IsNonDecreasingBy key rs → ((n : ℕ) → times n rs ≤ 1) → Rising 0 rs
sorted_rises [] up few = tt
sorted_rises (r ∷ rs) up few = sorted_from 0 r rs (omega arith) up few

sorted_row : (rs ss : List CasesRead) → IsPermutation rs ss → Rising 0 rs → IsNonDecreasingBy key ss → rs ≡ ss
sorted_row rs ss moved own up =
    rising_row rs ss moved own (sorted_rises ss up (λ n. let same = sum_by-IsPermutation (begins_at n) rs ss moved in let some = once n 0 rs own in omega (arith, same, some)))

-- what is known of them there
record IsRowOf (r : CaseRun) (ranges : List AskedRange) (row : List CasesRead) : Type 0 where
  said : AreSaid r row ranges
  follow : FollowInRow row

row_of : (r : CaseRun) (ranges : List AskedRange) (whole : AskedRange) (reads row : List CasesRead) → ArePartsOfCases r ranges whole → AreByCuts (map (printed_of r) ranges) reads row → IsRowOf r ranges row
row_of r ranges whole reads row p c =
    let said = are_said r 0 reads ranges c.each p.printed in
    let follow = follow_said r (start_of whole) whole reads ranges said p.follow in
    let same : reads ≡ row = sorted_row reads row c.order (rises reads follow (in_order 0 (map (printed_of r) ranges) reads c.each)) c.rising in
    record { said = subst (λ (rs : List CasesRead). AreSaid r rs ranges) same said; follow = subst FollowInRow same follow }

-- NO REFUSAL OF A TEXT

is_told : (r : CaseRun) (xs : List AskedRange) (k : ℕ) (t : List ℕ) → All (λ (x : AskedRange). IsCasesText (printed_of r x) (cases_between r x)) xs → slice_get (map (printed_of r) xs) k ≡ Some t → NoCasesText t → ⊥
is_told r [] k t printed at none = let bad : None ≡ Some t = at in cc
is_told r (x ∷ xs) zero t printed at none =
    let text : List ℕ = printed_of r x in
    let both : Some text ≡ Some t = at in
    let same : t ≡ text = cc in
    (subst (λ (bs : List ℕ). NoCasesText bs) same none).none (cases_between r x) (printed 0 x (omega arith))
is_told r (x ∷ xs) (suc k) t printed at none = is_told r xs k t (λ j d small. printed (suc j) d (omega (arith, small))) at none

said_at : (r : CaseRun) (rs : List CasesRead) (xs : List AskedRange) (k : ℕ) (s : CasesRead) → AreSaid r rs xs → slice_get rs k ≡ Some s → (x : AskedRange) × SaysCases (cases_between r x) s
said_at r [] xs k s said at = absurd (let bad : None ≡ Some s = at in cc)
said_at r (t ∷ rs) [] k s said at = absurd said
said_at r (t ∷ rs) (x ∷ xs) zero s said at = (x, subst (λ (y : CasesRead). SaysCases (cases_between r x) y) (one_there (t ∷ rs) 0 t s refl at) said.0)
said_at r (t ∷ rs) (x ∷ xs) (suc k) s said at = said_at r rs xs k s said.1 at

-- all say the same of their run
run_said : (r : CaseRun) (s : CasesRead) (x : AskedRange) → SaysCases (cases_between r x) s → run_text s ≡ cases_head s.inputs (head_between r.head None None) r.asked
run_said r s x says =
    let asked : s.asked ≡ r.asked = says.asked in
    let same : options_text (head_between s.head None None) s.asked ≡ options_text (head_between r.head None None) r.asked =
    head_is s.head (head_between r.head x.from x.to) s.asked None None None None says.head refl refl ∙ ap (λ (w : Losses). options_text (head_between r.head None None) w) asked in
    ap (λ (bs : List ℕ). opening_text s.inputs ++ bs) same

not_foreign : (r : CaseRun) (ranges : List AskedRange) (whole : AskedRange) (file : ℕ) → ArePartsOfCases r ranges whole → IsFirstForeign (map (printed_of r) ranges) file → ⊥
not_foreign r ranges whole file p h =
    let said = are_said r 0 h.reads ranges h.each p.printed in
    let (x, own) = said_at r h.reads ranges 0 h.run said h.run_there in
    let (y, other) = said_at r h.reads ranges file h.read said h.there in
    let told = one_number r (start_of whole) whole h.reads ranges said p.follow p.printed in
    let same : h.read.inputs ≡ h.run.inputs = told.is file h.read h.there ∙ sym (told.is 0 h.run h.run_there) in
    h.foreign (run_said r h.read y other ∙ ap (λ (i : Option ℕ). cases_head i (head_between r.head None None) r.asked) same ∙ sym (run_said r h.run x own))

-- each begins right after the one before it ends
follow_rest : (r : CasesRead) (rs : List CasesRead) → FollowInRow (r ∷ rs) → FollowInRow rs
follow_rest r [] follow = tt
follow_rest r (s ∷ rs) follow = follow.1

beside : (front back : List CasesRead) (left right : CasesRead) → FollowInRow (front ++ left ∷ right ∷ back) → Adjoins left right
beside [] back left right follow = follow.0
beside (r ∷ front) back left right follow = beside front back left right (follow_rest r (front ++ left ∷ right ∷ back) follow)

not_apart : (r : CaseRun) (ranges : List AskedRange) (whole : AskedRange) (left right : CasesRead) → ArePartsOfCases r ranges whole → IsFirstApart (map (printed_of r) ranges) left right → Adjoins left right
not_apart r ranges whole left right p h =
    let row = row_of r ranges whole h.reads h.row p h.by_cuts in
    beside h.front h.back left right (subst FollowInRow h.parted row.follow)

-- they have no more cases than the run
within_word : (n : ℕ) → in_word n ≤ n
within_word n = omega (arith, clamps)

sum_within : (r : CaseRun) (f : CasesRead → ℕ) (g : ℕ → ℕ) (rs : List CasesRead) (xs : List AskedRange) → AreCounts r f g rs xs → sum_by f rs ≤ sum_by g (flat_map (cuts_of_range r) xs)
sum_within r f g [] [] are = omega arith
sum_within r f g [] (x ∷ xs) are = absurd are
sum_within r f g (s ∷ rs) [] are = absurd are
sum_within r f g (s ∷ rs) (x ∷ xs) are =
    let own = are.0 in
    let small = within_word (sum_by g (cuts_of_range r x)) in
    let rest = sum_within r f g rs xs are.1 in
    let e1 = sum_by-cons f s rs in
    let e2 = sum_by-append g (cuts_of_range r x) (flat_map (cuts_of_range r) xs) in
    omega (arith, own, small, rest, e1, e2)

cases_first : (front back : List CasesRead) (r : CasesRead) → all_cases (front ++ r ∷ []) ≤ all_cases (front ++ r ∷ back)
cases_first front back r =
    let f : CasesRead → ℕ = λ s. s.totals.cases in
    let e1 = sum_by-append f front (r ∷ []) in
    let e2 = sum_by-append f front (r ∷ back) in
    let e3 = sum_by-cons f r [] in
    let e4 = sum_by-cons f r back in
    omega (arith, e1, e2, e3, e4)

has_many : (r : CaseRun) (ranges : List AskedRange) (whole : AskedRange) (read : CasesRead) → ArePartsOfCases r ranges whole → IsFirstMany (map (printed_of r) ranges) read
    → most_cases < sum_by r.cases (cuts_of_range r whole)
has_many r ranges whole read p h =
    let row = row_of r ranges whole h.reads h.row p h.by_cuts in
    let within = sum_within r (λ (s : CasesRead). s.totals.cases) r.cases h.row ranges (count_cases r h.row ranges row.said) in
    let cuts : sum_by r.cases (flat_map (cuts_of_range r) ranges) ≡ sum_by r.cases (cuts_of_range r whole) = ap (λ (ks : List ℕ). sum_by r.cases ks) p.cuts in
    let parted : all_cases h.row ≡ all_cases (h.front ++ read ∷ h.back) = ap all_cases h.parted in
    let some = cases_first h.front h.back read in
    let past = h.past in
    omega (arith, within, cuts, parted, some, past)

-- all cuts are there
not_short : (r : CaseRun) (ranges : List AskedRange) (whole : AskedRange) (file : ℕ) → ArePartsOfCases r ranges whole → has_all r whole ≡ true → AreShortOfCuts (map (printed_of r) ranges) file → ⊥
not_short r ranges whole file p all h =
    let row = row_of r ranges whole h.reads h.row p h.by_cuts in
    let own = first_said r h.row h.first ranges p.first p.others row.said h.begins p.are in
    let from : h.first.head.cuts.from ≡ whole.from = (let e : h.first.head.cuts.from ≡ p.first.from = own.head.options.from in e) ∙ p.begins in
    let to : h.last.head.cuts.to ≡ whole.to = last_to r (start_of whole) whole h.row ranges h.last row.said p.follow h.ends in
    let entries = entries_said r h.row ranges (length h.row - 1) h.last row.said h.ends in
    let both = and_both (first_of h.first.head == 0) (last_of h.last.head == h.last.head.entries) (all_is r whole h.first h.last from to entries ∙ all) in
    let one = both.0 in
    let two = both.1 in
    let begins : first_of h.first.head ≡ 0 = grind (arith, nat_tests, one) in
    let ends : last_of h.last.head ≡ h.last.head.entries = grind (arith, nat_tests, two) in
    elim h.lacking [
      | inl (late, file_is) ↦ omega (arith, late, begins)
      | inr (none, early, file_is) ↦ early ends
    ]

of_refusal : (part : Bool) (r : CaseRun) (ranges : List AskedRange) (whole : AskedRange) (fault : CasesFault) → ArePartsOfCases r ranges whole → (part ≡ false → has_all r whole ≡ true)
    → RefusesCases part (map (printed_of r) ranges) fault → IsTooLong fault ⊎ (fault ≡ refused.Part (record { cause = cause.Memory; file = 0 })) ⊎ HasTooMany r whole fault
of_refusal part r ranges whole _ p all (too_long file long) = inl refl
of_refusal part r ranges whole _ p all (no_part file none) = absurd (is_told r ranges file none.text p.printed none.there none.other)
of_refusal part r ranges whole _ p all (of_other_run file foreign) = absurd (not_foreign r ranges whole file p foreign)
of_refusal part r ranges whole _ p all (with_gap left right apart gap) = absurd (let same = not_apart r ranges whole left right p apart in omega (arith, same, gap))
of_refusal part r ranges whole _ p all (with_overlap left right apart over) = absurd (let same = not_apart r ranges whole left right p apart in omega (arith, same, over))
of_refusal part r ranges whole _ p all (with_many read many) = inr (inr (has_many r ranges whole read p many))
of_refusal part r ranges whole _ p all (short_of_cuts file asked lacking) = absurd (not_short r ranges whole file p (all asked) lacking)
of_refusal part r ranges whole _ p all no_memory = inr (inl refl)

pub cases_are_joined : CasesAreJoined
cases_are_joined part r ranges whole fault p all refused = of_refusal part r ranges whole fault p all refused
