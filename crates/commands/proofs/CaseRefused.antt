-- Texts of ranges of cuts of a run are refused for what they come to alone.
use Rattle.std.proofs.Common.{ℕ, zero, suc, ◌≡◌, ◌≢◌, ◌+◌, ◌-◌, ◌<◌, ◌≤◌, ◌⊎◌, Bool, false, inl, inr, List, [], ◌∷◌, ◌++◌, length, map, slice_get, get_or, All, Option, Some, None, unwrap_or, refl, sym, ◌∙◌, ap, subst, arith}
use Rattle.std.proofs.lemmas.List.Sorted.{IsPermutation-refl}
use Rattle.epochs.specs.Flushes.{places_of}
use Rattle.report.specs.Words.{cuts_words}
use Rattle.report.specs.Report.{HeadValue, device_text, given_text}
use Rattle.losses.specs.declared.found.Losses.{Losses}
use Rattle.case_text.specs.Text.{cases_head, opening_text, options_text}
use Rattle.join.specs.declared.case_parts.fault.CasesFault.{CasesFault}
use Rattle.join.specs.CaseTexts.{IsCasesText, NoCasesText, first_of, last_of}
use Rattle.join.specs.CaseReading.{AreAlike, CasesRead, Each, SaysCases}
use Rattle.join.specs.CaseJoining.{AreCasesParts, AreByCuts, AreShortOfCuts, FollowInRow, IsFirstApart, RefusesCases, head_between, run_text, too_long, no_part, of_other_run, with_gap, with_overlap, with_many, short_of_cuts, no_memory}
use Rattle.join.specs.CaseLaws.{CaseRun, AskedRange, FollowToEnd, cases_between, end_of, start_of}
use Rattle.join.proofs.CaseLasts.{within_log}
use Rattle.join.proofs.CaseLawful as lawful
use Rattle.commands.specs.CaseParts.{IsOfSize}
use Rattle.commands.proofs.CaseSegments.{text_of, ArePrintedRanges}
use Rattle.commands.proofs.OneRow.{AreNumbered, Past, IsRising, sorted_up, one_row}
use Rattle.commands.proofs.OneRow.{Each as EachOf}

-- WHAT IS READ OF THE TEXTS

abbrev AreSaid : CaseRun → List CasesRead → List AskedRange → Type 0
AreSaid r [] [] = Unit {0}
AreSaid r [] (x ∷ xs) = ⊥
AreSaid r (s ∷ rs) [] = ⊥
AreSaid r (s ∷ rs) (x ∷ xs) = SaysCases (cases_between r x) s × (first_of s.head ≤ last_of s.head) × AreSaid r rs xs

are_said : (r : CaseRun) (n : ℕ) (xs : List AskedRange) (rs : List CasesRead) → AreCasesParts n (map (text_of r) xs) rs → ArePrintedRanges r xs → AreSaid r rs xs
are_said r n [] [] each printed = tt
are_said r n [] (s ∷ rs) each printed = absurd each
are_said r n (x ∷ xs) [] each printed = absurd each
are_said r n (x ∷ xs) (s ∷ rs) each printed =
    let part = each.0 in
    let within = within_log part.cases.head part.is.head in
    (part.only (cases_between r x) printed.0, subst (λ (h : HeadValue). first_of h ≤ last_of h) (sym part.head) within.first, are_said r (n + 1) xs rs each.2 printed.1)

numbers_said : (n : ℕ) (ts : List (List ℕ)) (rs : List CasesRead) → AreCasesParts n ts rs → AreNumbered (λ (s : CasesRead). s.file) n rs
numbers_said n [] [] each = tt
numbers_said n [] (s ∷ rs) each = absurd each
numbers_said n (t ∷ ts) [] each = absurd each
numbers_said n (t ∷ ts) (s ∷ rs) each = (each.1, numbers_said (n + 1) ts rs each.2)

starts : (r : CaseRun) (s : CasesRead) (x : AskedRange) → SaysCases (cases_between r x) s → first_of s.head ≡ start_of x
starts r s x says = let e : s.head.cuts.from ≡ x.from = says.head.options.from in ap (λ (o : Option ℕ). unwrap_or o 0) e

ends : (r : CaseRun) (s : CasesRead) (x : AskedRange) → SaysCases (cases_between r x) s → last_of s.head ≡ end_of r x
ends r s x says =
    let e1 : s.head.cuts.to ≡ x.to = says.head.options.to in
    let e2 : s.head.entries ≡ r.head.entries = says.head.options.entries in
    rw (e1, e2) refl

begins_at : (r : CaseRun) (at : ℕ) (whole x : AskedRange) (xs : List AskedRange) → FollowToEnd r at whole (x ∷ xs) → start_of x ≡ at
begins_at r at whole x [] follow = follow.0
begins_at r at whole x (y ∷ xs) follow = follow.0

follow_said : (r : CaseRun) (from : ℕ) (whole : AskedRange) (rs : List CasesRead) (xs : List AskedRange) → AreSaid r rs xs → FollowToEnd r from whole xs → FollowInRow rs
follow_said r from whole [] xs said follow = tt
follow_said r from whole (s ∷ rs) [] said follow = absurd said
follow_said r from whole (s ∷ []) (x ∷ xs) said follow = tt
follow_said r from whole (s ∷ t ∷ rs) (x ∷ []) said follow = absurd said.2
follow_said r from whole (s ∷ t ∷ rs) (x ∷ y ∷ xs) said follow =
    let one = ends r s x said.0 in
    let two = starts r t y said.2.0 in
    let next = begins_at r (end_of r x + 1) whole y xs follow.1 in
    (omega (arith, one, two, next), follow_said r (end_of r x + 1) whole (t ∷ rs) (y ∷ xs) said.2 follow.1)

abbrev key : CasesRead → ℕ
key s = first_of s.head

reads_later : (n : ℕ) (r : CaseRun) (s : CasesRead) (rs : List CasesRead) (xs : List AskedRange) → n < key s → AreSaid r (s ∷ rs) xs → FollowInRow (s ∷ rs) → EachOf (Past key n) (s ∷ rs)
reads_later n r s rs [] less said row = absurd said
reads_later n r s [] (x ∷ xs) less said row = (less, tt)
reads_later n r s (t ∷ rs) (x ∷ xs) less said row =
    let own = said.1 in
    let next = row.0 in
    (less, reads_later n r t rs xs (omega (arith, less, own, next)) said.2 row.1)

reads_rising : (r : CaseRun) (rs : List CasesRead) (xs : List AskedRange) → AreSaid r rs xs → FollowInRow rs → IsRising key rs
reads_rising r [] xs said row = tt
reads_rising r (s ∷ rs) [] said row = absurd said
reads_rising r (s ∷ []) (x ∷ xs) said row = (tt, tt)
reads_rising r (s ∷ t ∷ rs) (x ∷ xs) said row =
    let own = said.1 in
    let next = row.0 in
    (reads_later (key s) r t rs xs (omega (arith, own, next)) said.2 row.1, reads_rising r (t ∷ rs) xs said.2 row.1)

-- by their cuts they stand as they were given
row_is : (r : CaseRun) (whole : AskedRange) (xs : List AskedRange) (reads row : List CasesRead) → ArePrintedRanges r xs → FollowToEnd r (start_of whole) whole xs → AreByCuts (map (text_of r) xs) reads row
    → reads ≡ row
row_is r whole xs reads row printed follow by_cuts =
    let said = are_said r 0 xs reads by_cuts.each printed in
    one_row key (λ (s : CasesRead). s.file) reads reads row (numbers_said 0 (map (text_of r) xs) reads by_cuts.each) (IsPermutation-refl reads) by_cuts.order
    (reads_rising r reads xs said (follow_said r (start_of whole) whole reads xs said follow)) (sorted_up key row by_cuts.rising)

-- NO OTHER CAUSE

none_other : (r : CaseRun) (xs : List AskedRange) (k : ℕ) (t : List ℕ) → ArePrintedRanges r xs → slice_get (map (text_of r) xs) k ≡ Some t → NoCasesText t → ⊥
none_other r [] k t printed at none = let bad : None ≡ Some t = at in cc
none_other r (x ∷ xs) zero t printed at none =
    let both : Some (text_of r x) ≡ Some t = at in
    let same : text_of r x ≡ t = cc in
    none.none (cases_between r x) (subst (λ (bs : List ℕ). IsCasesText bs (cases_between r x)) same printed.0)
none_other r (x ∷ xs) (suc k) t printed at none = none_other r xs k t printed.1 at none

run_is : (h v : HeadValue) (w u : Losses) → AreAlike h v → w ≡ u → options_text (head_between h None None) w ≡ options_text (head_between v None None) u
unfolding options_text device_text given_text cuts_words
run_is h v w u alike asked =
    let o = alike.options in
    let e1 : h.sectors ≡ v.sectors = o.sectors in
    let e2 : h.entries ≡ v.entries = o.entries in
    let e3 : h.cuts.kind ≡ v.cuts.kind = o.kind in
    let e4 : places_of h.cuts.flushes ≡ places_of v.cuts.flushes = o.flushes in
    let e5 : h.by ≡ v.by = o.way in
    let e6 : h.base ≡ v.base = o.base in
    let e7 : h.programs ≡ v.programs = alike.programs in
    rw (e1, e2, e3, e4, e5, e6, e7, asked) refl

run_said : (r : CaseRun) (rs : List CasesRead) (xs : List AskedRange) (k : ℕ) (s : CasesRead) → AreSaid r rs xs → slice_get rs k ≡ Some s → run_text s ≡ cases_head s.inputs (head_between r.head None None) r.asked
run_said r [] xs k s said at = absurd (let bad : None ≡ Some s = at in cc)
run_said r (t ∷ rs) [] k s said at = absurd said
run_said r (t ∷ rs) (x ∷ xs) zero s said at =
    let both : Some t ≡ Some s = at in
    let same : t ≡ s = cc in
    let own : run_text t ≡ cases_head t.inputs (head_between r.head None None) r.asked =
    ap (λ (bs : List ℕ). opening_text t.inputs ++ bs) (run_is t.head (head_between r.head x.from x.to) t.asked r.asked said.0.head said.0.asked) in
    subst (λ (y : CasesRead). run_text y ≡ cases_head y.inputs (head_between r.head None None) r.asked) same own
run_said r (t ∷ rs) (x ∷ xs) (suc k) s said at = run_said r rs xs k s said.2 at

follow_inside : (front back : List CasesRead) (left right : CasesRead) → FollowInRow (front ++ left ∷ right ∷ back) → last_of left.head + 1 ≡ first_of right.head
follow_inside [] back left right follow = follow.0
follow_inside (a ∷ []) back left right follow = follow_inside [] back left right follow.1
follow_inside (a ∷ b ∷ front) back left right follow = follow_inside (b ∷ front) back left right follow.1

adjoin : (r : CaseRun) (whole : AskedRange) (xs : List AskedRange) (left right : CasesRead) → ArePrintedRanges r xs → FollowToEnd r (start_of whole) whole xs → IsFirstApart (map (text_of r) xs) left right
    → last_of left.head + 1 ≡ first_of right.head
adjoin r whole xs left right printed follow apart =
    let same = row_is r whole xs apart.reads apart.row printed follow apart.by_cuts in
    let said = are_said r 0 xs apart.reads apart.by_cuts.each printed in
    let row : FollowInRow apart.reads = follow_said r (start_of whole) whole apart.reads xs said follow in
    follow_inside apart.front apart.back left right (subst (λ (rs : List CasesRead). FollowInRow rs) (same ∙ apart.parted) row)

first_said : (r : CaseRun) (whole : AskedRange) (xs : List AskedRange) (rs : List CasesRead) (s : CasesRead) → AreSaid r rs xs → FollowToEnd r (start_of whole) whole xs → slice_get rs 0 ≡ Some s
    → first_of s.head ≡ start_of whole
first_said r whole xs [] s said follow at = absurd (let bad : None ≡ Some s = at in cc)
first_said r whole [] (t ∷ rs) s said follow at = absurd said
first_said r whole (x ∷ xs) (t ∷ rs) s said follow at =
    let both : Some t ≡ Some s = at in
    let same : t ≡ s = cc in
    ap key (sym same) ∙ starts r t x said.0 ∙ begins_at r (start_of whole) whole x xs follow

last_said : (r : CaseRun) (from : ℕ) (whole : AskedRange) (xs : List AskedRange) (rs : List CasesRead) (s : CasesRead) → AreSaid r rs xs → FollowToEnd r from whole xs → slice_get rs (length rs - 1) ≡ Some s
    → (last_of s.head ≡ end_of r whole) × (s.head.entries ≡ r.head.entries)
last_said r from whole xs [] s said follow at = absurd (let bad : None ≡ Some s = at in cc)
last_said r from whole [] (t ∷ rs) s said follow at = absurd said
last_said r from whole (x ∷ []) (t ∷ []) s said follow at =
    let both : Some t ≡ Some s = at in
    let same : t ≡ s = cc in
    let entries : t.head.entries ≡ r.head.entries = said.0.head.options.entries in
    (ap (λ (y : CasesRead). last_of y.head) (sym same) ∙ ends r t x said.0 ∙ ap (λ (o : Option ℕ). unwrap_or o r.head.entries) follow.1, ap (λ (y : CasesRead). y.head.entries) (sym same) ∙ entries)
last_said r from whole (x ∷ y ∷ xs) (t ∷ []) s said follow at = absurd said.2
last_said r from whole (x ∷ []) (t ∷ u ∷ rs) s said follow at = absurd said.2
last_said r from whole (x ∷ y ∷ xs) (t ∷ u ∷ rs) s said follow at =
    let e : length (t ∷ u ∷ rs) - 1 ≡ suc (length (u ∷ rs) - 1) = omega arith in
    let beyond : slice_get (u ∷ rs) (length (u ∷ rs) - 1) ≡ Some s = rw e at at in
    last_said r (end_of r x + 1) whole (y ∷ xs) (u ∷ rs) s said.2 follow.1 beyond

not_short : (r : CaseRun) (whole : AskedRange) (xs : List AskedRange) (file : ℕ) → ArePrintedRanges r xs → FollowToEnd r (start_of whole) whole xs → (start_of whole ≡ 0) × (end_of r whole ≡ r.head.entries)
    → AreShortOfCuts (map (text_of r) xs) file → ⊥
not_short r whole xs file printed follow all short =
    let same = row_is r whole xs short.reads short.row printed follow short.by_cuts in
    let said = are_said r 0 xs short.reads short.by_cuts.each printed in
    let begins : slice_get short.reads 0 ≡ Some short.first = ap (λ (rs : List CasesRead). slice_get rs 0) same ∙ short.begins in
    let closes : slice_get short.reads (length short.reads - 1) ≡ Some short.last = ap (λ (rs : List CasesRead). slice_get rs (length rs - 1)) same ∙ short.ends in
    let first = first_said r whole xs short.reads short.first said follow begins in
    let last = last_said r (start_of whole) whole xs short.reads short.last said follow closes in
    by_lack short.lacking (first ∙ all.0) (last.0 ∙ all.1 ∙ sym last.1)
  where
    by_lack : ((0 < first_of short.first.head) × (file ≡ short.first.file)) ⊎ ((first_of short.first.head ≡ 0) × (last_of short.last.head ≢ short.last.head.entries) × (file ≡ length (map (text_of r) xs)))
        → first_of short.first.head ≡ 0 → last_of short.last.head ≡ short.last.head.entries → ⊥
    by_lack (inl lack) zero_first end = let some = lack.0 in absurd (omega (arith, some, zero_first))
    by_lack (inr lack) zero_first end = lack.1 end

pub all_by_place : {A : Type 0} (P : A → Type 0) (xs : List A) → Each P xs → All P xs
all_by_place P [] each = λ k d small. absurd (omega (arith, small))
all_by_place {A} P (x ∷ xs) each = at (all_by_place P xs each.1)
  where
    at : All P xs → (k : ℕ) (d : A) → k < length (x ∷ xs) → P (get_or (x ∷ xs) k d)
    at rest zero d small = each.0
    at rest (suc k) d small = rest k d (omega (arith, small))

pub refused_so : (part : Bool) (r : CaseRun) (whole : AskedRange) (xs : List AskedRange) (fault : CasesFault) → ArePrintedRanges r xs → FollowToEnd r (start_of whole) whole xs
    → (part ≡ false → (start_of whole ≡ 0) × (end_of r whole ≡ r.head.entries)) → RefusesCases part (map (text_of r) xs) fault → IsOfSize fault
refused_so part r whole xs _ printed follow all (too_long file long) = inl refl
refused_so part r whole xs _ printed follow all (no_part file other) = absurd (none_other r xs file other.text printed other.there other.other)
refused_so part r whole xs _ printed follow all (of_other_run file strange) =
    let said = are_said r 0 xs strange.reads strange.each printed in
    let texts = all_by_place (λ (x : AskedRange). IsCasesText (text_of r x) (cases_between r x)) xs printed in
    let told = lawful.one_number r (start_of whole) whole strange.reads xs (lawful.are_said r 0 strange.reads xs strange.each texts) follow texts in
    let same : strange.read.inputs ≡ strange.run.inputs = told.is file strange.read strange.there ∙ sym (told.is 0 strange.run strange.run_there) in
    absurd (strange.foreign (
    run_said r strange.reads xs file strange.read said strange.there ∙ ap (λ (i : Option ℕ). cases_head i (head_between r.head None None) r.asked) same
    ∙ sym (run_said r strange.reads xs 0 strange.run said strange.run_there)))
refused_so part r whole xs _ printed follow all (with_gap left right apart gap) = let next = adjoin r whole xs left right printed follow apart in absurd (omega (arith, next, gap))
refused_so part r whole xs _ printed follow all (with_overlap left right apart over) = let next = adjoin r whole xs left right printed follow apart in absurd (omega (arith, next, over))
refused_so part r whole xs _ printed follow all (with_many read many) = tt
refused_so part r whole xs _ printed follow all (short_of_cuts file some short) = absurd (not_short r whole xs file printed follow (all some) short)
refused_so part r whole xs _ printed follow all no_memory = inr refl
