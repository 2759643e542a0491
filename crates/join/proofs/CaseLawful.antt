-- Texts of consecutive ranges of cuts of one run, joined, are the text of the run of the whole range.
use Rattle.std.proofs.Common.{ℕ, zero, suc, ◌≡◌, ◌+◌, ◌-◌, ◌<◌, ◌≤◌, ◌==◌, ◌&&◌, ◌||◌, if◌then◌else◌, Bool, true, false, List, [], ◌∷◌, ◌++◌, length, length-append, map, get_or, slice_get, codes, All, Option, Some, None, is_some, unwrap_or, refl, sym, ◌∙◌, ap, subst, arith}
use Rattle.std.specs.List.{flat_map, sum_by}
use Rattle.std.specs.List.Sorted.{IsPermutation}
use Rattle.std.proofs.lemmas.Int.{clamps}
use Rattle.std.proofs.lemmas.Bool.Decides.{nat_tests}
use Rattle.std.proofs.lemmas.Grind.{flat_map-append}
use Rattle.std.proofs.lemmas.List.Sums.{sum_by-cons, sum_by-append}
use Rattle.std.proofs.lemmas.List.Sorted.{All-permutation, IsPermutation-sym}
use Rattle.epochs.specs.Flushes.{places_of}
use Rattle.report.specs.Words.{cuts_words}
use Rattle.report.specs.Report.{HeadValue, device_text, given_text}
use Rattle.losses.specs.declared.found.Losses.{Losses}
use Rattle.case_text.specs.Text.{in_word, are_all_cuts, cases_head, opening_text, options_text}
use Rattle.join.specs.declared.case_parts.totals.CaseTotals.{CaseTotals}
use Rattle.join.specs.CaseTexts.{ToldCase, IsCasesText, first_of, last_of, told_line, told_text, totals_line}
use Rattle.join.specs.CaseReading.{AreAlike, CasesRead, SaysCases}
use Rattle.join.specs.CaseJoining.{AreCasesParts, FollowInRow, all_cases, all_totals, have_all_cuts, head_between, joined_cases, joined_head, told_from, told_number, told_to}
use Rattle.join.specs.CaseLaws.{ArePartsOfCases, CaseRun, AskedRange, FollowToEnd, JoinIsCases, as_told, cases_between, cuts_of_range, end_of, has_all, number_in, start_of}
use Rattle.join.proofs.CaseLasts.{and_both, within_log}
use Rattle.join.proofs.CaseWholes.{part_small}
use Rattle.join.proofs.CaseRowed.{one_there, there}

-- ROWS THAT RISE ARE THE SAME WHERE THEY HAVE THE SAME TEXTS

abbrev pub key : CasesRead → ℕ
key r = first_of r.head

abbrev Member : CasesRead → List CasesRead → Type 0
Member r rs = (i : ℕ) × (slice_get rs i ≡ Some r)

abbrev pub Rising : ℕ → List CasesRead → Type 0
Rising from [] = Unit {0}
Rising from (r ∷ rs) = (from ≤ key r) × Rising (key r + 1) rs

above : (from : ℕ) (rs : List CasesRead) (r : CasesRead) → Rising from rs → (i : ℕ) → slice_get rs i ≡ Some r → from ≤ key r
above from [] r up i at = absurd (let bad : None ≡ Some r = at in cc)
above from (x ∷ rs) r up zero at = let same : key x ≡ key r = ap key (one_there (x ∷ rs) 0 x r refl at) in let low = up.0 in omega (arith, low, same)
above from (x ∷ rs) r up (suc i) at = let low = up.0 in let rest = above (key x + 1) rs r up.1 i at in omega (arith, low, rest)

-- the first texts of two such rows
first_same : (from : ℕ) (r s : CasesRead) (rs ss : List CasesRead) → Rising from (r ∷ rs) → Rising from (s ∷ ss) → Member r (s ∷ ss) → Member s (r ∷ rs) → r ≡ s
first_same from r s rs ss up also (zero, at) there_it = sym (one_there (s ∷ ss) 0 s r refl at)
first_same from r s rs ss up also (suc i, at) (zero, back) = one_there (r ∷ rs) 0 r s refl back
first_same from r s rs ss up also (suc i, at) (suc j, back) =
    let one = above (key s + 1) ss r also.1 i at in
    let two = above (key r + 1) rs s up.1 j back in
    absurd (omega (arith, one, two))

later : (r : CasesRead) (rs ss : List CasesRead) → Rising (key r + 1) rs → (z : CasesRead) → Member z rs → Member z (r ∷ ss) → Member z ss
later r rs ss up z (i, at) (zero, here) =
    let same : key r ≡ key z = ap key (one_there (r ∷ ss) 0 r z refl here) in
    let high = above (key r + 1) rs z up i at in
    absurd (omega (arith, same, high))
later r rs ss up z (i, at) (suc j, here) = (j, here)

rows_same : (from : ℕ) (rs ss : List CasesRead) → Rising from rs → Rising from ss → ((z : CasesRead) → Member z rs → Member z ss) → ((z : CasesRead) → Member z ss → Member z rs) → rs ≡ ss
rows_same from [] [] up also into back = refl
rows_same from [] (s ∷ ss) up also into back = absurd (let m = back s (0, refl) in let bad : None ≡ Some s = m.1 in cc)
rows_same from (r ∷ rs) [] up also into back = absurd (let m = into r (0, refl) in let bad : None ≡ Some r = m.1 in cc)
rows_same from (r ∷ rs) (s ∷ ss) up also into back =
    let same : r ≡ s = first_same from r s rs ss up also (into r (0, refl)) (back s (0, refl)) in
    let tail : Rising (key r + 1) ss = subst (λ (x : CasesRead). Rising (key x + 1) ss) (sym same) also.1 in
    let rest : rs ≡ ss = rows_same (key r + 1) rs ss up.1 tail
    (λ z m. let (i, at) = m in later r rs ss up.1 z (i, at) (subst (λ (x : CasesRead). Member z (x ∷ ss)) (sym same) (into z (suc i, at))))
    (λ z m. let (i, at) = m in later r ss rs tail z (i, at) (back z (suc i, at))) in
    ap (λ (x : CasesRead). x ∷ rs) same ∙ ap (λ (xs : List CasesRead). s ∷ xs) rest

-- a row in which each follows the one before it rises
abbrev pub InOrder : CasesRead → Type 0
InOrder r = first_of r.head ≤ last_of r.head

head_all : (P : CasesRead → Type 0) (r : CasesRead) (rs : List CasesRead) → All P (r ∷ rs) → P r
head_all P r rs all = all 0 r (omega arith)

tail_all : (P : CasesRead → Type 0) (r : CasesRead) (rs : List CasesRead) → All P (r ∷ rs) → All P rs
tail_all P r rs all = λ k d small. all (suc k) d (omega (arith, small))

row_rises : (from : ℕ) (r : CasesRead) (rs : List CasesRead) → from ≤ key r → FollowInRow (r ∷ rs) → All InOrder (r ∷ rs) → Rising from (r ∷ rs)
row_rises from r [] low follow each = (low, tt)
row_rises from r (s ∷ rs) low follow each =
    let next = follow.0 in
    let own = head_all InOrder r (s ∷ rs) each in
    (low, row_rises (key r + 1) s rs (omega (arith, next, own)) follow.1 (tail_all InOrder r (s ∷ rs) each))

pub rises : (rs : List CasesRead) → FollowInRow rs → All InOrder rs → Rising 0 rs
rises [] follow each = tt
rises (r ∷ rs) follow each = row_rises 0 r rs (omega arith) follow each

members : (rs : List CasesRead) → All (λ z. Member z rs) rs
members rs = λ k d small. (k, there rs k d small)

member_of : (rs ss : List CasesRead) → All (λ z. Member z ss) rs → (z : CasesRead) → Member z rs → Member z ss
member_of rs ss all z (i, at) = by_place rs i at all
  where
    by_place : (xs : List CasesRead) (j : ℕ) → slice_get xs j ≡ Some z → All (λ y. Member y ss) xs → Member z ss
    by_place [] j e own = absurd (let bad : None ≡ Some z = e in cc)
    by_place (x ∷ xs) zero e own = subst (λ (y : CasesRead). Member y ss) (one_there (x ∷ xs) 0 x z refl e) (head_all (λ y. Member y ss) x xs own)
    by_place (x ∷ xs) (suc j) e own = by_place xs j e (tail_all (λ y. Member y ss) x xs own)

pub rising_row : (rs ss : List CasesRead) → IsPermutation rs ss → Rising 0 rs → Rising 0 ss → rs ≡ ss
rising_row rs ss moved one two =
    rows_same 0 rs ss one two (member_of rs ss (All-permutation (λ z. Member z ss) ss rs (IsPermutation-sym rs ss moved) (members ss)))
    (member_of ss rs (All-permutation (λ z. Member z rs) rs ss moved (members rs)))

one_row : (rs ss : List CasesRead) → IsPermutation rs ss → FollowInRow rs → FollowInRow ss → All InOrder rs → rs ≡ ss
one_row rs ss moved one two each = rising_row rs ss moved (rises rs one each) (rises ss two (All-permutation InOrder rs ss moved each))

-- WHAT IS READ OF THE TEXTS OF RANGES

-- each says what is found in its range
abbrev pub AreSaid : CaseRun → List CasesRead → List AskedRange → Type 0
AreSaid r [] [] = Unit {0}
AreSaid r [] (x ∷ xs) = ⊥
AreSaid r (s ∷ rs) [] = ⊥
AreSaid r (s ∷ rs) (x ∷ xs) = SaysCases (cases_between r x) s × AreSaid r rs xs

abbrev pub printed_of : CaseRun → AskedRange → List ℕ
printed_of r x = told_text (cases_between r x)

pub are_said : (r : CaseRun) (n : ℕ) (rs : List CasesRead) (xs : List AskedRange) → AreCasesParts n (map (printed_of r) xs) rs → All (λ (x : AskedRange). IsCasesText (printed_of r x) (cases_between r x)) xs → AreSaid r rs xs
are_said r n [] [] each printed = tt
are_said r n [] (x ∷ xs) each printed = absurd each
are_said r n (s ∷ rs) [] each printed = absurd each
are_said r n (s ∷ rs) (x ∷ xs) each printed =
    (each.0.only (cases_between r x) (printed 0 x (omega arith)), are_said r (n + 1) rs xs each.2 (λ k d small. printed (suc k) d (omega (arith, small))))

pub in_order : (n : ℕ) (ts : List (List ℕ)) (rs : List CasesRead) → AreCasesParts n ts rs → All InOrder rs
in_order n [] [] all = λ k d small. absurd (omega (arith, small))
in_order n [] (s ∷ rs) all = absurd all
in_order n (u ∷ ts) [] all = absurd all
in_order n (u ∷ ts) (s ∷ rs) all = each (in_order (n + 1) ts rs all.2)
  where
    own : InOrder s
    own = let p = all.0 in let w = within_log p.cases.head p.is.head in subst (λ (h : HeadValue). first_of h ≤ last_of h) (sym p.head) w.first

    each : All InOrder rs → (k : ℕ) (d : CasesRead) → k < length (s ∷ rs) → InOrder (get_or (s ∷ rs) k d)
    each rest zero d small = own
    each rest (suc k) d small = rest k d (omega (arith, small))

starts : (r : CaseRun) (s : CasesRead) (x : AskedRange) → SaysCases (cases_between r x) s → first_of s.head ≡ start_of x
starts r s x says = let e : s.head.cuts.from ≡ x.from = says.head.options.from in ap (λ (o : Option ℕ). unwrap_or o 0) e

ends : (r : CaseRun) (s : CasesRead) (x : AskedRange) → SaysCases (cases_between r x) s → last_of s.head ≡ end_of r x
ends r s x says =
    let e1 : s.head.cuts.to ≡ x.to = says.head.options.to in
    let e2 : s.head.entries ≡ r.head.entries = says.head.options.entries in
    rw (e1, e2) refl

pub follow_said : (r : CaseRun) (from : ℕ) (whole : AskedRange) (rs : List CasesRead) (xs : List AskedRange) → AreSaid r rs xs → FollowToEnd r from whole xs → FollowInRow rs
follow_said r from whole [] xs said follow = tt
follow_said r from whole (s ∷ rs) [] said follow = absurd said
follow_said r from whole (s ∷ []) (x ∷ xs) said follow = tt
follow_said r from whole (s ∷ t ∷ rs) (x ∷ []) said follow = absurd said.1
follow_said r from whole (s ∷ t ∷ rs) (x ∷ y ∷ xs) said follow =
    let one = ends r s x said.0 in
    let two = starts r t y said.1.0 in
    let next = begins_at (end_of r x + 1) y xs follow.1 in
    (omega (arith, one, two, next), follow_said r (end_of r x + 1) whole (t ∷ rs) (y ∷ xs) said.1 follow.1)
  where
    begins_at : (at : ℕ) (z : AskedRange) (zs : List AskedRange) → FollowToEnd r at whole (z ∷ zs) → start_of z ≡ at
    begins_at at z [] f = f.0
    begins_at at z (v ∷ zs) f = f.0

pub last_to : (r : CaseRun) (from : ℕ) (whole : AskedRange) (rs : List CasesRead) (xs : List AskedRange) (last : CasesRead) → AreSaid r rs xs → FollowToEnd r from whole xs → slice_get rs (length rs - 1) ≡ Some last
    → last.head.cuts.to ≡ whole.to
last_to r from whole [] xs last said follow at = absurd (let bad : None ≡ Some last = at in cc)
last_to r from whole (s ∷ rs) [] last said follow at = absurd said
last_to r from whole (s ∷ []) (x ∷ []) last said follow at =
    let same : s ≡ last = one_there (s ∷ []) 0 s last refl at in
    let e : s.head.cuts.to ≡ x.to = said.0.head.options.to in
    ap (λ (y : CasesRead). y.head.cuts.to) (sym same) ∙ e ∙ follow.1
last_to r from whole (s ∷ []) (x ∷ y ∷ xs) last said follow at = absurd said.1
last_to r from whole (s ∷ t ∷ rs) (x ∷ []) last said follow at = absurd said.1
last_to r from whole (s ∷ t ∷ rs) (x ∷ y ∷ xs) last said follow at =
    let e : length (s ∷ t ∷ rs) - 1 ≡ suc (length (t ∷ rs) - 1) = omega arith in
    let beyond : slice_get (t ∷ rs) (length (t ∷ rs) - 1) ≡ Some last = rw e at at in
    last_to r (end_of r x + 1) whole (t ∷ rs) (y ∷ xs) last said.1 follow.1 beyond

-- the lines
lines_are : (r : CaseRun) (rs : List CasesRead) (xs : List AskedRange) → AreSaid r rs xs
    → flat_map (λ (s : CasesRead). s.lines) rs ≡ flat_map (told_line r.head.by) (flat_map r.told (flat_map (cuts_of_range r) xs))
lines_are r [] [] said = refl
lines_are r [] (x ∷ xs) said = absurd said
lines_are r (s ∷ rs) [] said = absurd said
lines_are r (s ∷ rs) (x ∷ xs) said =
    let own : s.lines ≡ flat_map (told_line r.head.by) (flat_map r.told (cuts_of_range r x)) = said.0.lines in
    let rest = lines_are r rs xs said.1 in
    let e1 : flat_map r.told (cuts_of_range r x ++ flat_map (cuts_of_range r) xs) ≡ flat_map r.told (cuts_of_range r x) ++ flat_map r.told (flat_map (cuts_of_range r) xs) = flat_map-append r.told (cuts_of_range r x) (flat_map (cuts_of_range r) xs) in
    ap (λ (bs : List ℕ). bs ++ flat_map (λ (t : CasesRead). t.lines) rs) own
    ∙ ap (λ (bs : List ℕ). flat_map (told_line r.head.by) (flat_map r.told (cuts_of_range r x)) ++ bs) rest
    ∙ sym (flat_map-append (told_line r.head.by) (flat_map r.told (cuts_of_range r x)) (flat_map r.told (flat_map (cuts_of_range r) xs)))
    ∙ ap (λ (ts : List ToldCase). flat_map (told_line r.head.by) ts) (sym e1)

-- sums of what is counted at cuts, up to what a word holds
in_word_on : (a b : ℕ) → in_word (in_word a + b) ≡ in_word (a + b)
in_word_on a b = omega (arith, clamps)

-- such a count of each text
abbrev pub AreCounts : CaseRun → (CasesRead → ℕ) → (ℕ → ℕ) → List CasesRead → List AskedRange → Type 0
AreCounts r f g [] [] = Unit {0}
AreCounts r f g [] (x ∷ xs) = ⊥
AreCounts r f g (s ∷ rs) [] = ⊥
AreCounts r f g (s ∷ rs) (x ∷ xs) = (f s ≡ in_word (sum_by g (cuts_of_range r x))) × AreCounts r f g rs xs

sum_word : (r : CaseRun) (f : CasesRead → ℕ) (g : ℕ → ℕ) (rs : List CasesRead) (xs : List AskedRange) → AreCounts r f g rs xs
    → in_word (sum_by f rs) ≡ in_word (sum_by g (flat_map (cuts_of_range r) xs))
sum_word r f g [] [] are = refl
sum_word r f g [] (x ∷ xs) are = absurd are
sum_word r f g (s ∷ rs) [] are = absurd are
sum_word r f g (s ∷ rs) (x ∷ xs) are =
    let a : ℕ = sum_by g (cuts_of_range r x) in
    let b : ℕ = sum_by g (flat_map (cuts_of_range r) xs) in
    let n : ℕ = sum_by f rs in
    let own : f s ≡ in_word a = are.0 in
    let rest : in_word n ≡ in_word b = sum_word r f g rs xs are.1 in
    let e1 : sum_by f (s ∷ rs) ≡ f s + n = sum_by-cons f s rs in
    let e2 : sum_by g (cuts_of_range r x ++ flat_map (cuts_of_range r) xs) ≡ a + b = sum_by-append g (cuts_of_range r x) (flat_map (cuts_of_range r) xs) in
    let swap : in_word (n + in_word a) ≡ in_word (b + in_word a) = sym (in_word_on n (in_word a)) ∙ ap (λ (k : ℕ). in_word (k + in_word a)) rest ∙ in_word_on b (in_word a) in
    let c1 : f s + n ≡ n + in_word a = omega (arith, own) in
    let c2 : b + in_word a ≡ in_word a + b = omega arith in
    ap in_word (e1 ∙ c1) ∙ swap ∙ ap in_word c2 ∙ in_word_on a b ∙ ap in_word (sym e2)

count_cuts : (r : CaseRun) (rs : List CasesRead) (xs : List AskedRange) → AreSaid r rs xs → sum_by (λ (s : CasesRead). s.totals.cuts) rs ≡ length (flat_map (cuts_of_range r) xs)
count_cuts r [] [] said = refl
count_cuts r [] (x ∷ xs) said = absurd said
count_cuts r (s ∷ rs) [] said = absurd said
count_cuts r (s ∷ rs) (x ∷ xs) said =
    let own : s.totals.cuts ≡ length (cuts_of_range r x) = ap (λ (t : CaseTotals). t.cuts) said.0.totals in
    let rest = count_cuts r rs xs said.1 in
    let e1 = sum_by-cons (λ (t : CasesRead). t.totals.cuts) s rs in
    let e2 = length-append (cuts_of_range r x) (flat_map (cuts_of_range r) xs) in
    omega (arith, own, rest, e1, e2)

pub count_cases : (r : CaseRun) (rs : List CasesRead) (xs : List AskedRange) → AreSaid r rs xs → AreCounts r (λ (s : CasesRead). s.totals.cases) r.cases rs xs
count_cases r [] [] said = tt
count_cases r [] (x ∷ xs) said = absurd said
count_cases r (s ∷ rs) [] said = absurd said
count_cases r (s ∷ rs) (x ∷ xs) said = (ap (λ (t : CaseTotals). t.cases) said.0.totals, count_cases r rs xs said.1)

count_failing : (r : CaseRun) (rs : List CasesRead) (xs : List AskedRange) → AreSaid r rs xs → AreCounts r (λ (s : CasesRead). s.totals.failing) (λ (cut : ℕ). length (r.told cut)) rs xs
count_failing r [] [] said = tt
count_failing r [] (x ∷ xs) said = absurd said
count_failing r (s ∷ rs) [] said = absurd said
count_failing r (s ∷ rs) (x ∷ xs) said = (ap (λ (t : CaseTotals). t.failing) said.0.totals, count_failing r rs xs said.1)

count_torn : (r : CaseRun) (rs : List CasesRead) (xs : List AskedRange) → AreSaid r rs xs → AreCounts r (λ (s : CasesRead). s.totals.torn) r.torn rs xs
count_torn r [] [] said = tt
count_torn r [] (x ∷ xs) said = absurd said
count_torn r (s ∷ rs) [] said = absurd said
count_torn r (s ∷ rs) (x ∷ xs) said = (ap (λ (t : CaseTotals). t.torn) said.0.totals, count_torn r rs xs said.1)

count_lost : (r : CaseRun) (rs : List CasesRead) (xs : List AskedRange) → AreSaid r rs xs → AreCounts r (λ (s : CasesRead). s.totals.lost) r.lost rs xs
count_lost r [] [] said = tt
count_lost r [] (x ∷ xs) said = absurd said
count_lost r (s ∷ rs) [] said = absurd said
count_lost r (s ∷ rs) (x ∷ xs) said = (ap (λ (t : CaseTotals). t.lost) said.0.totals, count_lost r rs xs said.1)

-- no more fail than there are
fewer_fail : (n : ℕ) (ts : List (List ℕ)) (rs : List CasesRead) → AreCasesParts n ts rs → sum_by (λ (s : CasesRead). s.totals.failing) rs ≤ all_cases rs
fewer_fail n [] [] all = omega arith
fewer_fail n [] (s ∷ rs) all = absurd all
fewer_fail n (u ∷ ts) [] all = absurd all
fewer_fail n (u ∷ ts) (s ∷ rs) all =
    let own = (part_small u s all.0).failing in
    let rest = fewer_fail (n + 1) ts rs all.2 in
    let e1 = sum_by-cons (λ (t : CasesRead). t.totals.failing) s rs in
    let e2 = sum_by-cons (λ (t : CasesRead). t.totals.cases) s rs in
    omega (arith, own, rest, e1, e2)

word_small : (n : ℕ) → n ≤ 16777216 → n ≡ in_word n
word_small n few = omega (arith, clamps, few)

totals_are : (r : CaseRun) (whole : AskedRange) (xs : List AskedRange) (ts : List (List ℕ)) (rs : List CasesRead) → AreSaid r rs xs → AreCasesParts 0 ts rs → flat_map (cuts_of_range r) xs ≡ cuts_of_range r whole
    → all_cases rs ≤ 16777216 → all_totals rs ≡ (cases_between r whole).totals
totals_are r whole xs ts rs said each cuts few =
    let fails = fewer_fail 0 ts rs each in
    let e1 : sum_by (λ (s : CasesRead). s.totals.cuts) rs ≡ length (cuts_of_range r whole) = count_cuts r rs xs said ∙ ap length cuts in
    let e2 : all_cases rs ≡ in_word (sum_by r.cases (cuts_of_range r whole)) =
    word_small (all_cases rs) few ∙ sum_word r (λ (s : CasesRead). s.totals.cases) r.cases rs xs (count_cases r rs xs said) ∙ ap (λ (ks : List ℕ). in_word (sum_by r.cases ks)) cuts in
    let e3 : sum_by (λ (s : CasesRead). s.totals.failing) rs ≡ in_word (sum_by (λ (cut : ℕ). length (r.told cut)) (cuts_of_range r whole)) =
    word_small (sum_by (λ (s : CasesRead). s.totals.failing) rs) (omega (arith, fails, few))
    ∙ sum_word r (λ (s : CasesRead). s.totals.failing) (λ (cut : ℕ). length (r.told cut)) rs xs (count_failing r rs xs said) ∙ ap (λ (ks : List ℕ). in_word (sum_by (λ (cut : ℕ). length (r.told cut)) ks)) cuts in
    let e4 : in_word (sum_by (λ (s : CasesRead). s.totals.torn) rs) ≡ in_word (sum_by r.torn (cuts_of_range r whole)) =
    sum_word r (λ (s : CasesRead). s.totals.torn) r.torn rs xs (count_torn r rs xs said) ∙ ap (λ (ks : List ℕ). in_word (sum_by r.torn ks)) cuts in
    let e5 : in_word (sum_by (λ (s : CasesRead). s.totals.lost) rs) ≡ in_word (sum_by r.lost (cuts_of_range r whole)) =
    sum_word r (λ (s : CasesRead). s.totals.lost) r.lost rs xs (count_lost r rs xs said) ∙ ap (λ (ks : List ℕ). in_word (sum_by r.lost ks)) cuts in
    rw (e1, e2, e3, e4, e5) refl

-- heads that say the same over one range are printed alike
pub head_is : (h v : HeadValue) (w : Losses) (a b c d : Option ℕ) → AreAlike h v → a ≡ c → b ≡ d → options_text (head_between h a b) w ≡ options_text (head_between v c d) w
unfolding options_text device_text given_text cuts_words
head_is h v w a b c d alike from to =
    let s = alike.options in
    let e1 : h.sectors ≡ v.sectors = s.sectors in
    let e2 : h.entries ≡ v.entries = s.entries in
    let e3 : h.cuts.kind ≡ v.cuts.kind = s.kind in
    let e4 : places_of h.cuts.flushes ≡ places_of v.cuts.flushes = s.flushes in
    let e5 : h.by ≡ v.by = s.way in
    let e6 : h.base ≡ v.base = s.base in
    let e7 : h.programs ≡ v.programs = alike.programs in
    rw (e1, e2, e3, e4, e5, e6, e7, from, to) refl

-- whether a range has each cut of the log
abbrev told_all : CaseRun → AskedRange → Bool
told_all r whole = are_all_cuts (head_between r.head whole.from whole.to).cuts

text_is : (r : CaseRun) (whole : AskedRange) → told_text (cases_between r whole)
    ≡ cases_head (number_in r whole) (head_between r.head whole.from whole.to) r.asked ++ (flat_map (told_line r.head.by) (flat_map r.told (cuts_of_range r whole)) ++ totals_line (told_all r whole) (cases_between r whole).totals)
unfolding told_text
text_is r whole = refl

-- the first text of ranges
pub first_said : (r : CaseRun) (rs : List CasesRead) (first : CasesRead) (xs : List AskedRange) (x : AskedRange) (others : List AskedRange) → AreSaid r rs xs → slice_get rs 0 ≡ Some first → xs ≡ x ∷ others
    → SaysCases (cases_between r x) first
first_said r [] first xs x others said at are = absurd (let bad : None ≡ Some first = at in cc)
first_said r (s ∷ rs) first [] x others said at are = absurd said
first_said r (s ∷ rs) first (y ∷ ys) x others said at are =
    let one : s ≡ first = one_there (s ∷ rs) 0 s first refl at in
    let same : y ≡ x = cc in
    subst (λ (z : AskedRange). SaysCases (cases_between r z) first) same (subst (λ (t : CasesRead). SaysCases (cases_between r y) t) one said.0)

-- each is of the log of the run
pub entries_said : (r : CaseRun) (rs : List CasesRead) (xs : List AskedRange) (k : ℕ) (s : CasesRead) → AreSaid r rs xs → slice_get rs k ≡ Some s → s.head.entries ≡ r.head.entries
entries_said r [] xs k s said at = absurd (let bad : None ≡ Some s = at in cc)
entries_said r (t ∷ rs) [] k s said at = absurd said
entries_said r (t ∷ rs) (x ∷ xs) zero s said at =
    let one : t ≡ s = one_there (t ∷ rs) 0 t s refl at in
    let e : t.head.entries ≡ r.head.entries = said.0.head.options.entries in
    ap (λ (y : CasesRead). y.head.entries) (sym one) ∙ e
entries_said r (t ∷ rs) (x ∷ xs) (suc k) s said at = entries_said r rs xs k s said.1 at

-- THE NUMBER OF THE INPUTS

number_with : (r : CaseRun) (x : AskedRange) (from to : Option ℕ) → x.from ≡ from → x.to ≡ to → (is_some from || is_some to) ≡ true → number_in r x ≡ Some r.inputs
number_with r x None None a b some = absurd (let bad : false ≡ true = some in cc)
number_with r x None (Some to) a b some = rw (a, b) refl
number_with r x (Some from) to a b some = rw a refl

or_true : (a : Bool) → (a || true) ≡ true
or_true true = refl
or_true false = refl

-- a range that doesn't begin at cut 0 tells it
late_from : (from : Option ℕ) (n : ℕ) → unwrap_or from 0 ≡ n + 1 → is_some from ≡ true
late_from None n e = absurd (omega (arith, e))
late_from (Some k) n e = refl

late_number : (r : CaseRun) (x : AskedRange) (n : ℕ) → start_of x ≡ n + 1 → number_in r x ≡ Some r.inputs
late_number r x n e = number_with r x x.from x.to refl refl (ap (λ (b : Bool). b || is_some x.to) (late_from x.from n e))

-- and one that ends before the last cut
early_to : (to : Option ℕ) (n : ℕ) → unwrap_or to n + 1 ≤ n → is_some to ≡ true
early_to None n e = absurd (omega (arith, e))
early_to (Some k) n e = refl

early_number : (r : CaseRun) (x : AskedRange) → end_of r x + 1 ≤ r.head.entries → number_in r x ≡ Some r.inputs
early_number r x e = number_with r x x.from x.to refl refl (ap (λ (b : Bool). is_some x.from || b) (early_to x.to r.head.entries e) ∙ or_true (is_some x.from))

-- one that has not all cuts does either
part_number : (r : CaseRun) (x : AskedRange) → has_all r x ≡ false → number_in r x ≡ Some r.inputs
part_number r x lack = by_range x.from x.to refl refl
  where
    same : (n : ℕ) → (n == n) ≡ true
    same n = grind (arith, nat_tests)

    by_range : (from to : Option ℕ) → x.from ≡ from → x.to ≡ to → number_in r x ≡ Some r.inputs
    by_range None None a b =
        let all : has_all r x ≡ true =
        ap (λ (o : Option ℕ). (unwrap_or o 0 == 0) && (unwrap_or x.to r.head.entries == r.head.entries)) a
        ∙ ap (λ (o : Option ℕ). unwrap_or o r.head.entries == r.head.entries) b
        ∙ same r.head.entries in
        absurd (let bad : false ≡ true = sym lack ∙ all in cc)
    by_range None (Some to) a b = number_with r x None (Some to) a b refl
    by_range (Some from) to a b = number_with r x (Some from) to a b refl

-- a range that is printed begins within the log
begins_within : (r : CaseRun) (x : AskedRange) → IsCasesText (printed_of r x) (cases_between r x) → start_of x ≤ r.head.entries
begins_within r x is =
    let w = within_log (cases_between r x).head is.head in
    let a : start_of x ≤ end_of r x = w.first in
    let b : end_of r x ≤ r.head.entries = w.last in
    omega (arith, a, b)

-- where another one follows
followed_number : (r : CaseRun) (from : ℕ) (whole x y : AskedRange) (xs : List AskedRange) → FollowToEnd r from whole (x ∷ y ∷ xs) → IsCasesText (printed_of r y) (cases_between r y) → number_in r x ≡ Some r.inputs
followed_number r from whole x y xs follow printed =
    let next = begins_at (end_of r x + 1) y xs follow.1 in
    let within = begins_within r y printed in
    early_number r x (omega (arith, next, within))
  where
    begins_at : (at : ℕ) (z : AskedRange) (zs : List AskedRange) → FollowToEnd r at whole (z ∷ zs) → start_of z ≡ at
    begins_at at z [] f = f.0
    begins_at at z (v ∷ zs) f = f.0

-- all texts of ranges that follow one another tell the same one
late_numbers : (r : CaseRun) (n : ℕ) (whole : AskedRange) (rs : List CasesRead) (xs : List AskedRange) → AreSaid r rs xs → FollowToEnd r (n + 1) whole xs → (k : ℕ) (s : CasesRead) → slice_get rs k ≡ Some s
    → s.inputs ≡ Some r.inputs
late_numbers r n whole [] xs said follow k s at = absurd (let bad : None ≡ Some s = at in cc)
late_numbers r n whole (t ∷ rs) [] said follow k s at = absurd said
late_numbers r n whole (t ∷ rs) (x ∷ []) said follow zero s at =
    let own : t.inputs ≡ number_in r x = said.0.inputs in
    ap (λ (y : CasesRead). y.inputs) (sym (one_there (t ∷ rs) 0 t s refl at)) ∙ own ∙ late_number r x n follow.0
late_numbers r n whole (t ∷ []) (x ∷ []) said follow (suc k) s at = absurd (let bad : None ≡ Some s = at in cc)
late_numbers r n whole (t ∷ u ∷ rs) (x ∷ []) said follow (suc k) s at = absurd said.1
late_numbers r n whole (t ∷ rs) (x ∷ y ∷ xs) said follow zero s at =
    let own : t.inputs ≡ number_in r x = said.0.inputs in
    ap (λ (y : CasesRead). y.inputs) (sym (one_there (t ∷ rs) 0 t s refl at)) ∙ own ∙ late_number r x n follow.0
late_numbers r n whole (t ∷ rs) (x ∷ y ∷ xs) said follow (suc k) s at = late_numbers r (end_of r x) whole rs (y ∷ xs) said.1 follow.1 k s at

pub record TellNumber (rs : List CasesRead) : Type 0 where
  pub number : Option ℕ
  pub is : (k : ℕ) (s : CasesRead) → slice_get rs k ≡ Some s → s.inputs ≡ number

pub one_number : (r : CaseRun) (from : ℕ) (whole : AskedRange) (rs : List CasesRead) (xs : List AskedRange) → AreSaid r rs xs → FollowToEnd r from whole xs
    → All (λ (x : AskedRange). IsCasesText (printed_of r x) (cases_between r x)) xs → TellNumber rs
one_number r from whole [] xs said follow printed = record { number = None; is = λ k s at. absurd (let bad : None ≡ Some s = at in cc) }
one_number r from whole (t ∷ rs) [] said follow printed = absurd said
one_number r from whole (t ∷ u ∷ rs) (x ∷ []) said follow printed = absurd said.1
one_number r from whole (t ∷ []) (x ∷ []) said follow printed = record { number = t.inputs; is = own }
  where
    own : (k : ℕ) (s : CasesRead) → slice_get (t ∷ []) k ≡ Some s → s.inputs ≡ t.inputs
    own zero s at = ap (λ (y : CasesRead). y.inputs) (sym (one_there (t ∷ []) 0 t s refl at))
    own (suc k) s at = absurd (let bad : None ≡ Some s = at in cc)
one_number r from whole (t ∷ rs) (x ∷ y ∷ xs) said follow printed = record { number = Some r.inputs; is = own }
  where
    own : (k : ℕ) (s : CasesRead) → slice_get (t ∷ rs) k ≡ Some s → s.inputs ≡ Some r.inputs
    own zero s at =
        let first : t.inputs ≡ number_in r x = said.0.inputs in
        ap (λ (z : CasesRead). z.inputs) (sym (one_there (t ∷ rs) 0 t s refl at)) ∙ first ∙ followed_number r from whole x y xs follow (printed 1 y (omega arith))
    own (suc k) s at = late_numbers r (end_of r x) whole rs (y ∷ xs) said.1 follow.1 k s at

-- and that is the number of the whole range, where it is told
number_is : (r : CaseRun) (ranges : List AskedRange) (whole : AskedRange) (inputs : Option ℕ) → (p : ArePartsOfCases r ranges whole) → inputs ≡ number_in r p.first → has_all r whole ≡ false → inputs ≡ number_in r whole
number_is r ranges whole inputs p own part =
    by_others p.others (subst (λ (xs : List AskedRange). FollowToEnd r (start_of whole) whole xs) p.are p.follow)
    (subst (λ (xs : List AskedRange). All (λ (x : AskedRange). IsCasesText (printed_of r x) (cases_between r x)) xs) p.are p.printed)
  where
    same_range : (x y : AskedRange) → x.from ≡ y.from → x.to ≡ y.to → number_in r x ≡ number_in r y
    same_range x y from to = rw (from, to) refl

    by_others : (xs : List AskedRange) → FollowToEnd r (start_of whole) whole (p.first ∷ xs) → All (λ (x : AskedRange). IsCasesText (printed_of r x) (cases_between r x)) (p.first ∷ xs) → inputs ≡ number_in r whole
    by_others [] follow printed = own ∙ same_range p.first whole p.begins follow.1
    by_others (y ∷ xs) follow printed = own ∙ followed_number r (start_of whole) whole p.first y xs follow (printed 1 y (omega arith)) ∙ sym (part_number r whole part)

-- HOW THE RANGE IS TOLD

pub all_is : (r : CaseRun) (whole : AskedRange) (first last : CasesRead) → first.head.cuts.from ≡ whole.from → last.head.cuts.to ≡ whole.to → last.head.entries ≡ r.head.entries → have_all_cuts first last ≡ has_all r whole
all_is r whole first last from to entries =
    ap (λ (o : Option ℕ). (unwrap_or o 0 == 0) && (unwrap_or last.head.cuts.to last.head.entries == last.head.entries)) from
    ∙ ap (λ (o : Option ℕ). (unwrap_or whole.from 0 == 0) && (unwrap_or o last.head.entries == last.head.entries)) to
    ∙ ap (λ (n : ℕ). (unwrap_or whole.from 0 == 0) && (unwrap_or whole.to n == n)) entries

abbrev no_range : AskedRange
no_range = record { from = None; to = None }

-- all cuts are those of the run that was asked for no range
all_cuts : (r : CaseRun) (whole : AskedRange) → has_all r whole ≡ true → cuts_of_range r whole ≡ cuts_of_range r no_range
all_cuts r whole all =
    let both = and_both (start_of whole == 0) (end_of r whole == r.head.entries) all in
    let one = both.0 in
    let two = both.1 in
    let begins : start_of whole ≡ 0 = grind (arith, nat_tests, one) in
    let ends : end_of r whole ≡ r.head.entries = grind (arith, nat_tests, two) in
    ap (λ (n : ℕ). r.cuts n (end_of r whole)) begins ∙ ap (λ (n : ℕ). r.cuts 0 n) ends

record IsTold (r : CaseRun) (whole told : AskedRange) (inputs from to : Option ℕ) : Type 0 where
  number : inputs ≡ number_in r told
  from_is : from ≡ told.from
  to_is : to ≡ told.to
  cuts : cuts_of_range r whole ≡ cuts_of_range r told

told_range : (r : CaseRun) (whole : AskedRange) (first last : CasesRead) → have_all_cuts first last ≡ has_all r whole → first.head.cuts.from ≡ whole.from → last.head.cuts.to ≡ whole.to
    → (has_all r whole ≡ false → first.inputs ≡ number_in r whole) → IsTold r whole (as_told r whole) (told_number first last) (told_from first last) (told_to first last)
told_range r whole first last all from to number = by_test (have_all_cuts first last) (has_all r whole) all (all_cuts r whole) number
  where
    by_test : (a b : Bool) → a ≡ b → (b ≡ true → cuts_of_range r whole ≡ cuts_of_range r no_range) → (b ≡ false → first.inputs ≡ number_in r whole)
        → IsTold r whole (if b then no_range else whole) (if a then None else first.inputs) (if a then None else first.head.cuts.from) (if a then None else last.head.cuts.to)
    by_test true true e own number = record { number = refl; from_is = refl; to_is = refl; cuts = own refl }
    by_test true false e own number = absurd (let bad : true ≡ false = e in cc)
    by_test false true e own number = absurd (let bad : false ≡ true = e in cc)
    by_test false false e own number = record { number = number refl; from_is = from; to_is = to; cuts = refl }

-- and whether a row has
abbrev row_all : CasesRead → CasesRead → Bool
row_all first last = are_all_cuts (joined_head first last).cuts

range_all : (h v : HeadValue) (from to from' to' : Option ℕ) → AreAlike h v → from ≡ from' → to ≡ to' → are_all_cuts (head_between h from to).cuts ≡ are_all_cuts (head_between v from' to').cuts
range_all h v from to from' to' alike same same' =
    let e1 : h.cuts.kind ≡ v.cuts.kind = alike.options.kind in
    rw (e1, same, same') refl

-- the text of a row that tells a range
row_is : (r : CaseRun) (ranges : List AskedRange) (x told : AskedRange) (first last : CasesRead) (row : List CasesRead) (bytes : List ℕ) → SaysCases (cases_between r x) first → told_number first last ≡ number_in r told
    → told_from first last ≡ told.from
    → told_to first last ≡ told.to → flat_map (cuts_of_range r) ranges ≡ cuts_of_range r told → AreSaid r row ranges → AreCasesParts 0 (map (printed_of r) ranges) row → all_cases row ≤ 16777216
    → bytes ≡ joined_cases first last row → bytes ≡ told_text (cases_between r told)
row_is r ranges x told first last row bytes own number from to cuts said parts few is =
    let alike : AreAlike first.head (head_between r.head x.from x.to) = own.head in
    let asked : first.asked ≡ r.asked = own.asked in
    let e1 : options_text (joined_head first last) first.asked ≡ options_text (head_between r.head told.from told.to) r.asked =
    head_is first.head (head_between r.head x.from x.to) first.asked (told_from first last) (told_to first last) told.from told.to alike from to
    ∙ ap (λ (w : Losses). options_text (head_between r.head told.from told.to) w) asked in
    let e2 : flat_map (λ (t : CasesRead). t.lines) row ≡ flat_map (told_line r.head.by) (flat_map r.told (cuts_of_range r told)) =
    lines_are r row ranges said ∙ ap (λ (ks : List ℕ). flat_map (told_line r.head.by) (flat_map r.told ks)) cuts in
    let e0 : row_all first last ≡ told_all r told = range_all first.head (head_between r.head x.from x.to) (told_from first last) (told_to first last) told.from told.to alike from to in
    let e3 : all_totals row ≡ (cases_between r told).totals = totals_are r told ranges (map (printed_of r) ranges) row said parts cuts few in
    is ∙ ap (λ (i : Option ℕ). cases_head i (joined_head first last) first.asked ++ (flat_map (λ (t : CasesRead). t.lines) row ++ totals_line (row_all first last) (all_totals row))) number
    ∙ ap (λ (bs : List ℕ). (opening_text (number_in r told) ++ bs) ++ (flat_map (λ (t : CasesRead). t.lines) row ++ totals_line (row_all first last) (all_totals row))) e1
    ∙ ap (λ (bs : List ℕ). cases_head (number_in r told) (head_between r.head told.from told.to) r.asked ++ (bs ++ totals_line (row_all first last) (all_totals row))) e2
    ∙ (λ i. cases_head (number_in r told) (head_between r.head told.from told.to) r.asked ++ (flat_map (told_line r.head.by) (flat_map r.told (cuts_of_range r told)) ++ totals_line (e0 i) (e3 i)))
    ∙ sym (text_is r told)

pub law : JoinIsCases
law part r ranges whole bytes p j =
    let said = are_said r 0 j.reads ranges j.each p.printed in
    let follow = follow_said r (start_of whole) whole j.reads ranges said p.follow in
    let same : j.reads ≡ j.row = one_row j.reads j.row j.order follow j.follow (in_order 0 (map (printed_of r) ranges) j.reads j.each) in
    let row_said : AreSaid r j.row ranges = subst (λ (rs : List CasesRead). AreSaid r rs ranges) same said in
    let row_parts = subst (λ (rs : List CasesRead). AreCasesParts 0 (map (printed_of r) ranges) rs) same j.each in
    let own = first_said r j.row j.first ranges p.first p.others row_said j.begins p.are in
    let from : j.first.head.cuts.from ≡ whole.from = (let e : j.first.head.cuts.from ≡ p.first.from = own.head.options.from in e) ∙ p.begins in
    let to : j.last.head.cuts.to ≡ whole.to = last_to r (start_of whole) whole j.row ranges j.last row_said p.follow j.ends in
    let entries = entries_said r j.row ranges (length j.row - 1) j.last row_said j.ends in
    let told = told_range r whole j.first j.last (all_is r whole j.first j.last from to entries) from to (number_is r ranges whole j.first.inputs p own.inputs) in
    row_is r ranges p.first (as_told r whole) j.first j.last j.row bytes own told.number told.from_is told.to_is (p.cuts ∙ told.cuts) row_said row_parts j.few j.is
