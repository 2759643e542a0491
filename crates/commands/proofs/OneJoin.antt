-- Texts of parts come to one text, and beside that are refused for want of memory alone.
use Rattle.std.proofs.Common.{ℕ, zero, suc, ◌≡◌, ◌↔◌, IsTrue, ◌+◌, ◌-◌, ◌<◌, ◌≤◌, ◌^◌, Bool, true, false, inl, inr, List, [], ◌∷◌, ◌++◌, length, get_or, slice_get, All, Some, None, refl, sym, ◌∙◌, ap, subst, arith}
use Rattle.std.specs.List.Sorted.{IsPermutation}
use Rattle.std.proofs.lemmas.Bool.{cases_lt, false≢true}
use Rattle.std.proofs.lemmas.List.Sorted.{All-permutation, IsPermutation-sym, length_permutation}
use Rattle.base.specs.declared.causes.JoinCause.TheVariants as cause
use Rattle.report.specs.Line.{FailingLine}
use Rattle.report.specs.Marks.{mark_of, marks_of}
use Rattle.join.specs.declared.fault.JoinFault.{JoinFault}
use Rattle.join.specs.Order.{in_order}
use Rattle.join.specs.Text.{IsSpan}
use Rattle.join.specs.Reading.{PartRead, IsPartText, NoPartText, none_read, last_text}
use Rattle.join.specs.Joining.{ArePartTexts, IsOfRun, AreOfRun, AreInRow, IsJoined, joined_text, opening_text, span_between, size_of, IsFirstStrange, IsFirstApart, IsShortOfRun, IsJoin, RefusesJoin, too_long, no_part, of_other_run, with_gap, with_overlap, short_of_run, no_memory, totalled, shown_bytes}
use Rattle.join.proofs.Counts.{next_is}
use Rattle.join.proofs.Rows.{Any, all_told, AreRowLines, any_lines, row_lines, row_text}
use Rattle.join.proofs.Runs.{one_part}
use Rattle.commands.proofs.OneRow.{Each, each_of, each_beyond, AreNumbered, Past, IsRising, IsNotFalling, rising_up, sorted_up, one_row}
use Rattle.commands.proofs.OneSize.{not_long}

-- what is read of a text is one
one_read : (t : List ℕ) (r s : PartRead) → IsPartText t r → IsPartText t s → r.file ≡ s.file → r ≡ s
one_read t r s a b at =
    let told = one_part a.part b.part a.is b.is (sym a.text ∙ b.text) r a.told in
    let own = b.told in
    let span : r.span ≡ s.span = told.span ∙ sym own.span in
    let head : r.head ≡ s.head = told.head ∙ sym own.head in
    let first : r.first ≡ s.first = told.first ∙ sym own.first in
    let lines : r.lines ≡ s.lines = told.lines ∙ sym own.lines in
    let tally : r.tally ≡ s.tally = told.tally ∙ sym own.tally in
    λ i. record { span = span i; head = head i; first = first i; lines = lines i; tally = tally i; file = at i }

same_reads : (n : ℕ) (ts : List (List ℕ)) (rs ss : List PartRead) → ArePartTexts n ts rs → ArePartTexts n ts ss → rs ≡ ss
same_reads n [] [] [] a b = refl
same_reads n [] [] (s ∷ ss) a b = absurd b
same_reads n [] (r ∷ rs) ss a b = absurd a
same_reads n (t ∷ ts) [] ss a b = absurd a
same_reads n (t ∷ ts) (r ∷ rs) [] a b = absurd b
same_reads n (t ∷ ts) (r ∷ rs) (s ∷ ss) a b =
    let one = one_read t r s a.0 b.0 (a.1 ∙ sym b.1) in
    let rest = same_reads (n + 1) ts rs ss a.2 b.2 in
    λ i. one i ∷ rest i

-- each part has the number of its text
part_numbers : (n : ℕ) (ts : List (List ℕ)) (rs : List PartRead) → ArePartTexts n ts rs → AreNumbered (λ (r : PartRead). r.file) n rs
part_numbers n [] [] each = tt
part_numbers n [] (r ∷ rs) each = absurd each
part_numbers n (t ∷ ts) [] each = absurd each
part_numbers n (t ∷ ts) (r ∷ rs) each = (each.1, part_numbers (n + 1) ts rs each.2)

abbrev start_of : PartRead → ℕ
start_of r = r.span.from

-- parts in a row, each of some images
abbrev HasImages : PartRead → Type 0
HasImages r = r.span.from < r.span.to

row_later : (n from to : ℕ) (rs : List PartRead) → n < from → Each HasImages rs → AreInRow from rs to → Each (Past start_of n) rs
row_later n from to [] less some row = tt
row_later n from to (r ∷ rs) less some row =
    let begins = row.0 in
    let own = some.0 in
    (omega (arith, less, begins), row_later n r.span.to to rs (omega (arith, less, begins, own)) some.1 row.1)

row_rising : (from to : ℕ) (rs : List PartRead) → Each HasImages rs → AreInRow from rs to → IsRising start_of rs
row_rising from to [] some row = tt
row_rising from to (r ∷ rs) some row = (row_later r.span.from r.span.to to rs some.0 some.1 row.1, row_rising r.span.to to rs some.1 row.1)

-- a part of a run without images has none
abbrev HasNone : PartRead → Type 0
HasNone r = (r.span.from ≡ 0) × (r.span.to ≡ 0)

reads_spans : (ts : List (List ℕ)) (rs : List PartRead) → ArePartTexts 0 ts rs → All (λ (r : PartRead). IsSpan r.span) rs
reads_spans ts rs each = λ k d l. let one = all_told 0 ts rs each k d l in rw one.told.span one.is.span

have_images : (ts : List (List ℕ)) (rs : List PartRead) (run : PartRead) → ArePartTexts 0 ts rs → AreOfRun run rs → 0 < run.span.images → All HasImages rs
have_images ts rs run each of some = λ k d l.
    let span = reads_spans ts rs each k d l in
    let images = (of k d l).images in
    let up = span.rising in
    elim (cases_lt (get_or rs k d).span.from (get_or rs k d).span.to) [
      | inl less ↦ less
      | inr le ↦ absurd (let none = span.some (omega (arith, up, le)) in omega (arith, none, images, some))
    ]

have_none : (ts : List (List ℕ)) (rs : List PartRead) (run : PartRead) → ArePartTexts 0 ts rs → AreOfRun run rs → run.span.images ≤ 0 → All HasNone rs
have_none ts rs run each of none = λ k d l.
    let span = reads_spans ts rs each k d l in
    let images = (of k d l).images in
    let up = span.rising in
    let within = span.within in
    (omega (arith, images, up, within, none), omega (arith, images, up, within, none))

-- parts with images in a row are the same parts in their order
rows_alike : (texts : List (List ℕ)) (reads xs ys : List PartRead) (run : PartRead) (from to : ℕ) → ArePartTexts 0 texts reads → AreOfRun run reads → 0 < run.span.images
    → IsPermutation reads xs → IsPermutation reads ys → AreInRow from xs to → IsNotFalling start_of ys → xs ≡ ys
rows_alike texts reads xs ys run from to each of some one other row rise =
    let images = each_of HasImages xs (All-permutation HasImages reads xs one (have_images texts reads run each of some)) in
    one_row start_of (λ (r : PartRead). r.file) reads xs ys (part_numbers 0 texts reads each) one other (row_rising from to xs images row) rise

-- two runs that the same parts are of
runs_alike : (run other : PartRead) (rs : List PartRead) → 0 < length rs → AreOfRun run rs → AreOfRun other rs → IsOfRun run other
runs_alike run other [] some a b = absurd (omega (arith, some))
runs_alike run other (r ∷ rs) some a b =
    let own = a 0 r (omega arith) in
    let also = b 0 r (omega arith) in
    record { head = sym also.head ∙ own.head; first = sym also.first ∙ own.first; images = sym also.images ∙ own.images; inputs = sym also.inputs ∙ own.inputs }

runs_in : (run : PartRead) (reads row : List PartRead) → IsPermutation reads row → AreOfRun run row → AreOfRun run reads
runs_in run reads row order one = All-permutation (IsOfRun run) row reads (IsPermutation-sym reads row order) one

-- the text of a row
abbrev row_bytes : PartRead → ℕ → ℕ → List PartRead → List ℕ
row_bytes run from to rs = opening_text (span_between run from to) ++ (run.head ++ (shown_bytes run.first rs ++ last_text run.first (to - from) (totalled none_read rs)))

lines_in : {texts : List (List ℕ)} {bytes : List ℕ} {failing : Bool} (h : IsJoined texts bytes failing) → AreRowLines h.from h.to h.row h.lines
lines_in h = row_lines Any h.row h.lines h.from h.to (any_lines h.row h.lines h.of_parts) h.in_row

bytes_are : {texts : List (List ℕ)} {bytes : List ℕ} {failing : Bool} (h : IsJoined texts bytes failing) → bytes ≡ row_bytes h.run h.from h.to h.row
bytes_are h = h.is ∙ row_text h.run h.from h.to h.row h.lines (lines_in h) h.one

moved : (run other : PartRead) (from to start end : ℕ) (rs : List PartRead) → IsOfRun run other → from ≡ start → to ≡ end → row_bytes run from to rs ≡ row_bytes other start end rs
moved run other from to start end rs of begins ends =
    let head = of.head in
    let first = of.first in
    let images = of.images in
    let inputs = of.inputs in
    rw (head, first, images, inputs, begins, ends) refl

end_once : (from to end : ℕ) (rs : List PartRead) → AreInRow from rs to → AreInRow from rs end → to ≡ end
end_once from to end [] a b = sym a ∙ b
end_once from to end (r ∷ rs) a b = end_once r.span.to to end rs a.1 b.1

ends_once : (from to start end : ℕ) (rs : List PartRead) → 0 < length rs → AreInRow from rs to → AreInRow start rs end → (from ≡ start) × (to ≡ end)
ends_once from to start end [] some a b = absurd (omega (arith, some))
ends_once from to start end (r ∷ rs) some a b = (sym a.0 ∙ b.0, end_once r.span.to to end rs a.1 b.1)

same_fails : (a b : Bool) (m n : ℕ) → m ≡ n → IsTrue a ↔ (0 < m) → IsTrue b ↔ (0 < n) → a ≡ b
same_fails true true m n same h k = refl
same_fails false false m n same h k = refl
same_fails true false m n same h k = absurd (false≢true (k.1 (let some = h.0 refl in omega (arith, some, same))))
same_fails false true m n same h k = absurd (false≢true (h.1 (let some = k.0 refl in omega (arith, some, same))))

by_rows : {texts : List (List ℕ)} {bytes others : List ℕ} {failing fails : Bool} (h : IsJoined texts bytes failing) (k : IsJoined texts others fails) → h.row ≡ k.row → IsOfRun h.run k.run
    → (bytes ≡ others) × (failing ≡ fails)
by_rows {texts} {bytes} {others} {failing} {fails} h k rows of =
    let ends = ends_once h.from h.to k.from k.to h.row h.some h.in_row (subst (λ (rs : List PartRead). AreInRow k.from rs k.to) (sym rows) k.in_row) in
    let text = moved h.run k.run h.from h.to k.from k.to h.row of ends.0 ends.1 in
    let own = (lines_in h).lines none_read in
    let also = (lines_in k).lines none_read in
    let count = ap (λ (rs : List PartRead). (totalled none_read rs).lines) rows in (
      bytes_are h ∙ text ∙ ap (λ (rs : List PartRead). row_bytes k.run k.from k.to rs) rows ∙ sym (bytes_are k),
      same_fails failing fails (length h.lines) (length k.lines) (omega (arith, own, also, count)) h.fails k.fails,
    )

-- without images there are no lines
none_end : (from to : ℕ) (rs : List PartRead) → from ≡ 0 → Each HasNone rs → AreInRow from rs to → to ≡ 0
none_end from to [] start none row = sym row ∙ start
none_end from to (r ∷ rs) start none row = none_end r.span.to to rs none.0.1 none.1 row.1

none_ends : (from to : ℕ) (rs : List PartRead) → 0 < length rs → Each HasNone rs → AreInRow from rs to → (from ≡ 0) × (to ≡ 0)
none_ends from to [] some none row = absurd (omega (arith, some))
none_ends from to (r ∷ rs) some none row = (sym row.0 ∙ none.0.0, none_end r.span.to to rs none.0.1 none.1 row.1)

no_lines : (from to : ℕ) (ls : List FailingLine) → to ≡ 0 → in_order from to None (marks_of ls) ≡ true → ls ≡ []
no_lines from to [] end order = refl
no_lines from to (l ∷ ls) end order = absurd (let next = next_is from to None (mark_of l) (marks_of ls) order in let high = next.high in omega (arith, end, high))

joined_moved : (run other : PartRead) → IsOfRun run other → joined_text run 0 0 [] ≡ joined_text other 0 0 []
unfolding joined_text
joined_moved run other of =
    let head = of.head in
    let first = of.first in
    let images = of.images in
    let inputs = of.inputs in
    rw (head, first, images, inputs) refl

none_joined : {texts : List (List ℕ)} {bytes : List ℕ} {failing : Bool} (h : IsJoined texts bytes failing) → Each HasNone h.row → (bytes ≡ joined_text h.run 0 0 []) × (h.lines ≡ [])
none_joined h none =
    let ends = none_ends h.from h.to h.row h.some none h.in_row in
    let lines = no_lines h.from h.to h.lines ends.1 (lines_in h).order in
    let text : joined_text h.run h.from h.to h.lines ≡ joined_text h.run 0 0 [] = λ i. joined_text h.run (ends.0 i) (ends.1 i) (lines i) in
    (h.is ∙ text, lines)

by_none : {texts : List (List ℕ)} {bytes others : List ℕ} {failing fails : Bool} (h : IsJoined texts bytes failing) (k : IsJoined texts others fails) → Each HasNone h.row → Each HasNone k.row
    → IsOfRun h.run k.run → (bytes ≡ others) × (failing ≡ fails)
by_none {texts} {bytes} {others} {failing} {fails} h k none also of =
    let own = none_joined h none in
    let other = none_joined k also in
    (own.0 ∙ joined_moved h.run k.run of ∙ sym other.0, same_fails failing fails (length h.lines) (length k.lines) (ap length own.1 ∙ sym (ap length other.1)) h.fails k.fails)

some_reads : {texts : List (List ℕ)} {bytes : List ℕ} {failing : Bool} (h : IsJoined texts bytes failing) → 0 < length h.reads
some_reads h = let long = length_permutation h.reads h.row h.order in let some = h.some in omega (arith, long, some)

-- texts come to one text
pub one_join : (texts : List (List ℕ)) (bytes others : List ℕ) (failing fails : Bool) → IsJoined texts bytes failing → IsJoined texts others fails → (bytes ≡ others) × (failing ≡ fails)
one_join texts bytes others failing fails h k =
    let reads : k.reads ≡ h.reads = same_reads 0 texts k.reads h.reads k.each h.each in
    let order : IsPermutation h.reads k.row = subst (λ (rs : List PartRead). IsPermutation rs k.row) reads k.order in
    let own = runs_in h.run h.reads h.row h.order h.one in
    let of = runs_alike h.run k.run h.reads (some_reads h) own (runs_in k.run h.reads k.row order k.one) in
    elim (cases_lt 0 h.run.span.images) [
      | inl images ↦
          let some = each_of HasImages k.row (All-permutation HasImages h.reads k.row order (have_images texts h.reads h.run h.each own images)) in
          let rise = rising_up start_of k.row (row_rising k.from k.to k.row some k.in_row) in
          by_rows h k (rows_alike texts h.reads h.row k.row h.run h.from h.to h.each own images h.order order h.in_row rise) of
      | inr none ↦
          let all = have_none texts h.reads h.run h.each own none in
          by_none h k (each_of HasNone h.row (All-permutation HasNone h.reads h.row h.order all)) (each_of HasNone k.row (All-permutation HasNone h.reads k.row order all)) of
    ]

-- each text that is joined is of a part, and all parts are of one run
not_other : (n : ℕ) (ts : List (List ℕ)) (rs : List PartRead) (k : ℕ) (t : List ℕ) → ArePartTexts n ts rs → slice_get ts k ≡ Some t → NoPartText t → ⊥
not_other n [] rs k t each there none = let bad : None ≡ Some t = there in cc
not_other n (u ∷ ts) [] k t each there none = absurd each
not_other n (u ∷ ts) (r ∷ rs) zero t each there none =
    let both : Some u ≡ Some t = there in
    let same : u ≡ t = cc in
    none.none each.0.part each.0.is (sym same ∙ each.0.text)
not_other n (u ∷ ts) (r ∷ rs) (suc k) t each there none = not_other (n + 1) ts rs k t each.2 there none

run_at : (run : PartRead) (rs : List PartRead) (k : ℕ) (r : PartRead) → AreOfRun run rs → slice_get rs k ≡ Some r → IsOfRun run r
run_at run [] k r of there = absurd (let bad : None ≡ Some r = there in cc)
run_at run (x ∷ rs) zero r of there = let both : Some x ≡ Some r = there in let same : x ≡ r = cc in subst (IsOfRun run) same (of 0 x (omega arith))
run_at run (x ∷ rs) (suc k) r of there = run_at run rs k r (λ i d l. of (suc i) d (omega (arith, l))) there

not_strange : {texts : List (List ℕ)} {bytes : List ℕ} {failing : Bool} (file : ℕ) → IsJoined texts bytes failing → IsFirstStrange texts file → ⊥
not_strange {texts} file h s =
    let reads : h.reads ≡ s.reads = same_reads 0 texts h.reads s.reads h.each s.each in
    let of = subst (λ (rs : List PartRead). AreOfRun h.run rs) reads (runs_in h.run h.reads h.row h.order h.one) in
    let first = run_at h.run s.reads 0 s.run of s.run_there in
    let other = run_at h.run s.reads file s.read of s.there in
    s.strange (record {
      head = other.head ∙ sym first.head;
      first = other.first ∙ sym first.first;
      images = other.images ∙ sym first.images;
      inputs = other.inputs ∙ sym first.inputs;
    })

-- and of two parts side by side one begins where the other ends
beside : (front back : List PartRead) (left right : PartRead) (from to : ℕ) → AreInRow from (front ++ left ∷ right ∷ back) to → right.span.from ≡ left.span.to
beside [] back left right from to row = row.1.0
beside (r ∷ front) back left right from to row = beside front back left right r.span.to to row.1

not_apart : {texts : List (List ℕ)} {bytes : List ℕ} {failing : Bool} (left right : PartRead) → IsJoined texts bytes failing → IsFirstApart texts left right → right.span.from ≡ left.span.to
not_apart {texts} left right h a =
    let reads : a.reads ≡ h.reads = same_reads 0 texts a.reads h.reads a.each h.each in
    let order : IsPermutation h.reads a.row = subst (λ (rs : List PartRead). IsPermutation rs a.row) reads a.order in
    let own = runs_in h.run h.reads h.row h.order h.one in
    elim (cases_lt 0 h.run.span.images) [
      | inl images ↦
          let rows = rows_alike texts h.reads h.row a.row h.run h.from h.to h.each own images h.order order h.in_row (sorted_up start_of a.row a.by_images.rising) in
          beside a.front a.back left right h.from h.to (subst (λ (rs : List PartRead). AreInRow h.from rs h.to) (rows ∙ a.parted) h.in_row)
      | inr none ↦
          let all = each_of HasNone a.row (All-permutation HasNone h.reads a.row order (have_none texts h.reads h.run h.each own none)) in
          let both = each_beyond HasNone a.front (left ∷ right ∷ a.back) (subst (λ (rs : List PartRead). Each HasNone rs) a.parted all) in
          both.1.0.0 ∙ sym both.0.1
    ]

-- and all images of the run are in them
not_short : {texts : List (List ℕ)} {bytes : List ℕ} {failing : Bool} (file : ℕ) (h : IsJoined texts bytes failing) → h.from ≡ 0 → h.to ≡ h.run.span.images → IsShortOfRun texts file → ⊥
not_short {texts} file h start end s = elim (cases_lt 0 h.run.span.images) [
  | inl images ↦
      let some = each_of HasImages row (All-permutation HasImages h.reads row order (have_images texts h.reads h.run h.each own images)) in
      let rise = rising_up start_of row (row_rising s.first.span.from s.to row some s.in_row) in
      let rows = rows_alike texts h.reads h.row row h.run h.from h.to h.each own images h.order order h.in_row rise in
      let ends = ends_once h.from h.to s.first.span.from s.to h.row h.some h.in_row (subst (λ (rs : List PartRead). AreInRow s.first.span.from rs s.to) (sym rows) s.in_row) in
      lacks_none (sym ends.0 ∙ start) (sym ends.1 ∙ end)
  | inr none ↦
      let all = All-permutation HasNone h.reads row order (have_none texts h.reads h.run h.each own none) in
      let ends = none_ends s.first.span.from s.to row (omega arith) (each_of HasNone row all) s.in_row in
      let last = ends.1 in
      lacks_none ends.0 (omega (arith, last, none))
]
  where
    row : List PartRead
    row = s.first ∷ s.others

    reads : s.reads ≡ h.reads
    reads = same_reads 0 texts s.reads h.reads s.each h.each

    order : IsPermutation h.reads row
    order = subst (λ (rs : List PartRead). IsPermutation rs row) reads s.order

    own : AreOfRun h.run h.reads
    own = runs_in h.run h.reads h.row h.order h.one

    of : IsOfRun h.run s.first
    of = All-permutation (IsOfRun h.run) h.reads row order own 0 s.first (omega arith)

    lacks_none : s.first.span.from ≡ 0 → s.to ≡ h.run.span.images → ⊥
    lacks_none begins ends = elim s.lacking [
      | inl (late, file_is) ↦ omega (arith, late, begins)
      | inr (first, early, file_is) ↦ early (ends ∙ sym of.images)
    ]

pub joined_or_refused : (part : Bool) (texts : List (List ℕ)) (bytes : List ℕ) (failing : Bool) (fault : JoinFault) → size_of texts ≤ 2 ^ 30 → IsJoin part texts bytes failing → RefusesJoin part texts fault
    → fault.cause ≡ cause.Memory
joined_or_refused part texts bytes failing _ short h (too_long file long) = absurd (not_long texts file short long)
joined_or_refused part texts bytes failing _ short h (no_part file other) = absurd (not_other 0 texts h.joined.reads file other.text h.joined.each other.there other.other)
joined_or_refused part texts bytes failing _ short h (of_other_run file strange) = absurd (not_strange file h.joined strange)
joined_or_refused part texts bytes failing _ short h (with_gap left right apart gap) = absurd (let same = not_apart left right h.joined apart in omega (arith, same, gap))
joined_or_refused part texts bytes failing _ short h (with_overlap left right apart over) = absurd (let same = not_apart left right h.joined apart in omega (arith, same, over))
joined_or_refused part texts bytes failing _ short h (short_of_run file all lacking) = absurd (let ends = h.whole all in not_short file h.joined ends.0 ends.1 lacking)
joined_or_refused part texts bytes failing _ short h no_memory = refl
