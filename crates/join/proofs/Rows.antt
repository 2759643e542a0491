-- Parts in a row.
use Rattle.std.proofs.Common.{ℕ, zero, suc, ◌≡◌, ◌+◌, ◌-◌, ◌<◌, ◌≤◌, ◌==◌, Bool, true, false, if◌then◌else◌, List, [], ◌∷◌, ◌++◌, length, length-append, get_or, codes, Option, Some, None, All, refl, sym, ◌∙◌, ap, arith}
use Rattle.std.specs.Fmt.{decimal}
use Rattle.std.specs.List.{flat_map}
use Rattle.std.proofs.lemmas.Grind.{flat_map-append}
use Rattle.report.specs.Line.{FailingLine, first_lines}
use Rattle.report.specs.Marks.{marks_of}
use Rattle.report.specs.Images.{failing_images, first_image}
use Rattle.report.specs.LineText.{line_text}
use Rattle.join.specs.declared.tally.Tally.{Tally}
use Rattle.join.specs.Order.{in_order}
use Rattle.join.specs.Printable.{end_text}
use Rattle.join.specs.Text.{PartValue, IsPart}
use Rattle.join.specs.Reading.{PartRead, Tells, IsPartText, none_read, tallied, last_text}
use Rattle.join.specs.Joining.{ArePartTexts, AreOfRun, AreInRow, AreLinesOf, totalled, added, earlier, shown_bytes, first_some, joined_text, opening_text, span_between}
use Rattle.join.proofs.Counts.{counted_lines, counted_images, counted_first}
use Rattle.std.proofs.lemmas.Bool.Decides.{nat_tests}
use Rattle.report.proofs.Order.{first_of_first}
use Rattle.report.specs.Report.{findings_text}
use Rattle.join.proofs.LinesRead.{line_begins}
use Rattle.join.proofs.Findings.{totals_are, first_is}
use Rattle.join.proofs.Order.{in_order-append, failing-append, first-append}

-- texts of parts, and one more
pub texts_push : (n : ℕ) (ts : List (List ℕ)) (rs : List PartRead) (t : List ℕ) (r : PartRead) → ArePartTexts n ts rs → IsPartText t r → r.file ≡ n + length ts
    → ArePartTexts n (ts ++ t ∷ []) (rs ++ r ∷ [])
texts_push n [] [] t r all own at = (own, let here : r.file ≡ n = omega (arith, at) in here, tt)
texts_push n [] (s ∷ rs) t r all own at = absurd all
texts_push n (u ∷ ts) [] t r all own at = absurd all
texts_push n (u ∷ ts) (s ∷ rs) t r all own at = (all.0, all.1, texts_push (n + 1) ts rs t r all.2 own (omega (arith, at)))

pub texts_long : (n : ℕ) (ts : List (List ℕ)) (rs : List PartRead) → ArePartTexts n ts rs → length rs ≡ length ts
texts_long n [] [] all = refl
texts_long n [] (s ∷ rs) all = absurd all
texts_long n (u ∷ ts) [] all = absurd all
texts_long n (u ∷ ts) (s ∷ rs) all = ap suc (texts_long (n + 1) ts rs all.2)

-- what is read of a part's text, of which Q is so
pub record IsTold (Q : PartValue → PartRead → Type 0) (r : PartRead) : Type 0 where
  pub part : PartValue
  pub is : IsPart part
  pub told : Tells part r
  pub also : Q part r

-- any part
abbrev pub Any : PartValue → PartRead → Type 0
Any p r = Unit {0}

-- the lines of the parts, of each of which Q is so
abbrev pub AreLinesBy : (PartValue → PartRead → Type 0) → List PartRead → List FailingLine → Type 0
AreLinesBy Q [] ls = ls ≡ []
AreLinesBy Q (r ∷ rs) ls = (p : PartValue) × (more : List FailingLine) × IsPart p × Tells p r × Q p r × (ls ≡ p.lines ++ more) × AreLinesBy Q rs more

pub lines_of : (Q : PartValue → PartRead → Type 0) (rs : List PartRead) (ls : List FailingLine) → AreLinesBy Q rs ls → AreLinesOf rs ls
lines_of Q [] ls are = are
lines_of Q (r ∷ rs) ls (p, more, is, told, also, e, rest) = (p, more, is, told, e, lines_of Q rs more rest)

pub all_told : (n : ℕ) (ts : List (List ℕ)) (rs : List PartRead) → ArePartTexts n ts rs → All (IsTold Any) rs
all_told n [] [] all = λ k d small. absurd (omega (arith, small))
all_told n [] (s ∷ rs) all = absurd all
all_told n (u ∷ ts) [] all = absurd all
all_told n (u ∷ ts) (s ∷ rs) all = each (all_told (n + 1) ts rs all.2)
  where
    each : All (IsTold Any) rs → (k : ℕ) (d : PartRead) → k < length (s ∷ rs) → IsTold Any (get_or (s ∷ rs) k d)
    each rest zero d small = record { part = all.0.part; is = all.0.is; told = all.0.told; also = tt }
    each rest (suc k) d small = rest k d (omega (arith, small))

-- a part of the first failing image alone
abbrev pub IsFirstAlone : PartRead → Type 0
IsFirstAlone r = r.first ≡ true

-- the lines of parts in a row are in their order, and are what was counted and what is shown
pub record AreRowLines (from to : ℕ) (rs : List PartRead) (ls : List FailingLine) : Type 0 where
  pub up : from ≤ to
  pub order : in_order from to None (marks_of ls) ≡ true
  pub bytes : flat_map (λ (r : PartRead). r.lines) rs ≡ flat_map line_text ls
  pub lines : (t : Tally) → (totalled t rs).lines ≡ t.lines + length ls
  pub images : (t : Tally) → (totalled t rs).images ≡ t.images + failing_images ls
  pub first : (t : Tally) → (totalled t rs).first ≡ earlier t.first (first_image ls)
  pub shown : All IsFirstAlone rs → first_some rs ≡ flat_map line_text (first_lines ls)

earlier_assoc : (a b c : Option ℕ) → earlier (earlier a b) c ≡ earlier a (earlier b c)
earlier_assoc None b c = refl
earlier_assoc (Some image) b c = refl

first_image-append : (ls more : List FailingLine) → first_image (ls ++ more) ≡ earlier (first_image ls) (first_image more)
first_image-append [] more = refl
first_image-append (l ∷ ls) more = refl

head_of : (P : PartRead → Type 0) (r : PartRead) (rs : List PartRead) → All P (r ∷ rs) → P r
head_of P r rs all = all 0 r (omega arith)

tail_of : (P : PartRead → Type 0) (r : PartRead) (rs : List PartRead) → All P (r ∷ rs) → All P rs
tail_of P r rs all = λ k d small. all (suc k) d (omega (arith, small))

-- a line has a byte
some_bytes : (l : FailingLine) (more : List ℕ) → (length (line_text l ++ more) == 0) ≡ false
some_bytes l more =
    let is = ap length (line_begins l more) in
    let all = length-append (codes "image ") (decimal l.image ++ (codes " cut " ++ (decimal l.cut ++ (codes " program " ++ (decimal l.program ++ (codes " " ++ (end_text l.ending l.by l.departures ++ (10 ∷ more)))))))) in
    let six : length (codes "image ") ≡ 6 = refl in
    let some : 0 < length (line_text l ++ more) = omega (arith, is, all, six) in
    grind (arith, nat_tests, some)

-- the lines that are shown of a part and of those after it
shown_of : (from mid to : ℕ) (own : List FailingLine) (bytes rest_bytes : List ℕ) (more : List FailingLine) → in_order from mid None (marks_of own) ≡ true
    → in_order mid to None (marks_of more) ≡ true → failing_images own ≤ 1 → bytes ≡ flat_map line_text own → rest_bytes ≡ flat_map line_text (first_lines more)
    → (if length bytes == 0 then rest_bytes else bytes) ≡ flat_map line_text (first_lines (own ++ more))
shown_of from mid to [] bytes rest_bytes more e f one is rest = rw is rest
shown_of from mid to (l ∷ ls) bytes rest_bytes more e f one is rest =
    let shown = first-append from mid to l ls more e f one in
    let some = some_bytes l (flat_map line_text ls) in
    rw (is, some, shown) refl

-- the lines of parts of each of which Q is so
pub made_lines : (Q : PartValue → PartRead → Type 0) (rs : List PartRead) → All (IsTold Q) rs → (ls : List FailingLine) × AreLinesBy Q rs ls
made_lines Q [] told = ([], refl)
made_lines Q (r ∷ rs) told = with_rest (head_of (IsTold Q) r rs told) (made_lines Q rs (tail_of (IsTold Q) r rs told))
  where
    with_rest : IsTold Q r → (ls : List FailingLine) × AreLinesBy Q rs ls → (ls : List FailingLine) × AreLinesBy Q (r ∷ rs) ls
    with_rest own (more, rest) = (own.part.lines ++ more, (own.part, more, own.is, own.told, own.also, refl, rest))

pub any_lines : (rs : List PartRead) (ls : List FailingLine) → AreLinesOf rs ls → AreLinesBy Any rs ls
any_lines [] ls are = are
any_lines (r ∷ rs) ls (p, more, is, told, e, rest) = (p, more, is, told, tt, e, any_lines rs more rest)

no_row : (from to : ℕ) → from ≡ to → AreRowLines from to [] []
unfolding totalled
no_row from to row = record {
  up = omega (arith, row);
  order = refl;
  bytes = refl;
  lines = λ t. omega arith;
  images = λ t. omega arith;
  first = λ t. elim t.first as (λ v. v ≡ earlier v None) [ None ↦ refl | Some image ↦ refl ];
  shown = λ alone. refl;
}

one_row : (r : PartRead) (rs : List PartRead) (from to : ℕ) (p : PartValue) (more : List FailingLine) → IsPart p → Tells p r → r.span.from ≡ from → AreRowLines r.span.to to rs more
    → AreRowLines from to (r ∷ rs) (p.lines ++ more)
unfolding totalled
one_row r rs from to p more is told begins rest =
    let span : r.span ≡ p.span = told.span in
    let tally : r.tally ≡ tallied p.span none_read (marks_of p.lines) = told.tally in
    let order : in_order r.span.from r.span.to None (marks_of p.lines) ≡ true = rw span is.ordered in
    let rising : r.span.from ≤ r.span.to = rw span is.span.rising in
    let up = rest.up in
    let both = in_order-append r.span.from r.span.to to None p.lines more rising up tt order rest.order in
    let failing = failing-append r.span.from r.span.to to p.lines more rising up order rest.order in
    let own_lines = ap (λ (u : Tally). u.lines) tally ∙ counted_lines p.span p.lines in
    let own_images = ap (λ (u : Tally). u.images) tally ∙ counted_images p.span p.lines is.ordered in
    let own_first = ap (λ (u : Tally). u.first) tally ∙ counted_first p.span p.lines in
    let long = length-append p.lines more in
    let own_bytes = told.lines in
    record {
      up = omega (arith, begins, rising, up);
      order = rw begins at both;
      bytes = rw own_bytes (ap (λ (bs : List ℕ). flat_map line_text p.lines ++ bs) rest.bytes) ∙ sym (flat_map-append line_text p.lines more);
      lines = λ t. let all = rest.lines (added t r.tally) in omega (arith, all, own_lines, long);
      images = λ t. let all = rest.images (added t r.tally) in omega (arith, all, own_images, failing);
      first = λ t. rest.first (added t r.tally) ∙ ap (λ (x : Option ℕ). earlier (earlier t.first x) (first_image more)) own_first
          ∙ earlier_assoc t.first (first_image p.lines) (first_image more) ∙ ap (λ (x : Option ℕ). earlier t.first x) (sym (first_image-append p.lines more));
      shown = λ alone.
          shown_of r.span.from r.span.to to p.lines r.lines (first_some rs) more order rest.order
          (is.one (sym told.first ∙ head_of IsFirstAlone r rs alone)) told.lines (rest.shown (tail_of IsFirstAlone r rs alone));
    }

pub row_lines : (Q : PartValue → PartRead → Type 0) (rs : List PartRead) (ls : List FailingLine) (from to : ℕ) → AreLinesBy Q rs ls → AreInRow from rs to → AreRowLines from to rs ls
row_lines Q [] ls from to are row = rw are (no_row from to row)
row_lines Q (r ∷ rs) ls from to (p, more, is, told, also, e, rest) row =
    rw e (one_row r rs from to p more is told row.0 (row_lines Q rs more r.span.to to rest row.1))

-- the text of parts in a row by what was counted and what is shown
pub row_text : (run : PartRead) (from to : ℕ) (rs : List PartRead) (ls : List FailingLine) → AreRowLines from to rs ls → AreOfRun run rs
    → joined_text run from to ls ≡ opening_text (span_between run from to) ++ (run.head ++ (shown_bytes run.first rs ++ last_text run.first (to - from) (totalled none_read rs)))
unfolding joined_text
row_text run from to rs ls row one = ap (λ (bs : List ℕ). opening_text (span_between run from to) ++ (run.head ++ bs)) (by_first run.first refl)
  where
    by_first : (first : Bool) → run.first ≡ first → findings_text first (to - from) ls ≡ shown_bytes first rs ++ last_text first (to - from) (totalled none_read rs)
    by_first false is =
        let bytes = row.bytes in
        let failing = row.images none_read in
        let long = row.lines none_read in
        let images_are : (totalled none_read rs).images ≡ failing_images ls = omega (arith, failing) in
        let lines_are : (totalled none_read rs).lines ≡ length ls = omega (arith, long) in
        let last = totals_are (to - from) (totalled none_read rs) ls images_are lines_are in
        rw (bytes, last) refl
    by_first true is =
        let shown = row.shown (λ k d small. (one k d small).first ∙ is) in
        let last = first_is (to - from) (totalled none_read rs) (first_lines ls) (row.first none_read ∙ first_of_first ls) in
        rw (shown, last) refl
