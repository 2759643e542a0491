-- What a table of pieces says of their collection.
use Rattle.std.proofs.Common.{ℕ, suc, ◌≡◌, ◌+◌, ◌<◌, ◌≤◌, Bool, true, false, not, if◌then◌else◌, List, [], ◌∷◌, length, filter, Option, None, Some, slice_get, position, get_or, refl, sym, ◌∙◌, ap, subst, arith, append-nil}
use Rattle.std.specs.List.{flat_map, range_with_len, position_or_len}
use Rattle.std.specs.Option.{option_to_list}
use Rattle.std.proofs.lemmas.Option.{slice_get_within, get_or_from_slice_get, slice_get-get_or}
use Rattle.std.proofs.lemmas.List.Quantifiers.{position-Some}
use Rattle.std.proofs.lemmas.List.Sums.{fails_before_first}
use Rattle.std.proofs.lemmas.Grind.{common_steps}
use Rattle.report.specs.Line.{FailingLine}
use Rattle.workers.specs.Least.{least_image}
use Rattle.workers.specs.Pieces.{PieceValue, AreWhole, of_block, counted_at, lines_at, lines_of, full_lines, counts, lines_by_block, IsFirstTwice, IsFirstMissing}
use Rattle.workers.specs.Table.{AreRows, is_missing, row_lines}
use Rattle.workers.proofs.Least.{counts_by_least}

abbrev Row : Type 0
Row = Option PieceValue

-- the pieces of a block of which there is one at most

of_row : (xs : List PieceValue) (row : Row) → row ≡ slice_get xs 0 → length xs ≤ 1 → xs ≡ option_to_list row
of_row [] None e few = refl
of_row [] (Some p) e few = absurd (let bad : Some p ≡ None = e in cc)
of_row (x ∷ []) None e few = absurd (let bad : None ≡ Some x = e in cc)
of_row (x ∷ []) (Some p) e few = let s : Some p ≡ Some x = e in let same : x ≡ p = cc in rw same refl
of_row (x ∷ y ∷ ys) row e few = absurd (omega (arith, few))

counted_row : (from : ℕ) (lines : List FailingLine) (row : Row) (missing : Bool) → is_missing from (least_image lines) row ≡ missing
    → length (filter (λ (p : PieceValue). counts from lines p.block p.found) (option_to_list row)) ≡ (if missing then 0 else 1)
counted_row from lines None true e = refl
counted_row from lines None false e = absurd (let bad : true ≡ false = e in cc)
counted_row from lines (Some p) missing e =
    let same = counts_by_least from lines p.block p.found in
    step (counts from lines p.block p.found) missing (ap not (sym same) ∙ e)
  where
    step : (b m : Bool) → not b ≡ m → length (if b then p ∷ [] else []) ≡ (if m then 0 else 1)
    step true true h = absurd (let bad : false ≡ true = h in cc)
    step true false h = refl
    step false true h = refl
    step false false h = absurd (let bad : true ≡ false = h in cc)

lines_of_row : (row : Row) → full_lines (option_to_list row) ≡ row_lines row
lines_of_row None = refl
lines_of_row (Some p) = append-nil (lines_of p.found)

-- what the rows say where no block has two pieces

pieces_in : (ps : List PieceValue) (blocks b : ℕ) (rows : List Row) (least : Option ℕ) (row : Row) → AreRows ps blocks rows None least
    → slice_get rows b ≡ Some row → of_block ps b ≡ option_to_list row
pieces_in ps blocks b rows least row h there =
    let lt : b < blocks = rw (← h.count) (slice_get_within rows b row there) in
    of_row (of_block ps b) row (h.each b row there) (h.first b lt)

counted_in : (from : ℕ) (ps : List PieceValue) (blocks b : ℕ) (rows : List Row) (least : Option ℕ) (row : Row) (missing : Bool) → AreRows ps blocks rows None least
    → slice_get rows b ≡ Some row → is_missing from least row ≡ missing → counted_at from ps b ≡ (if missing then 0 else 1)
counted_in from ps blocks b rows least row missing h there e =
    ap (λ (qs : List PieceValue). length (filter (λ (p : PieceValue). counts from (full_lines ps) p.block p.found) qs)) (pieces_in ps blocks b rows least row h there)
    ∙ counted_row from (full_lines ps) row missing (ap (λ l. is_missing from l row) (sym h.lowest) ∙ e)

pub missing_there : (from : ℕ) (ps : List PieceValue) (blocks b : ℕ) (rows : List Row) (least : Option ℕ) → AreRows ps blocks rows None least
    → position (is_missing from least) rows ≡ Some b → IsFirstMissing from ps blocks b
missing_there from ps blocks b rows least h e =
    let at = position-Some (is_missing from least) rows b None e in
    let lt : b < blocks = rw (← h.count) at.0 in
    record {
      within = lt;
      once = h.first;
      missing = counted_in from ps blocks b rows least (get_or rows b None) true h (slice_get-get_or rows b None at.0) at.1;
      before = λ c less.
          let there : slice_get rows c ≡ Some (get_or rows c None) = slice_get-get_or rows c None (omega (arith, at.0, less)) in
          counted_in from ps blocks c rows least (get_or rows c None) false h there (at.2 c less);
    }

none_missing : (from : ℕ) (rows : List Row) (least : Option ℕ) → position (is_missing from least) rows ≡ None → (b : ℕ) (row : Row) → slice_get rows b ≡ Some row
    → is_missing from least row ≡ false
none_missing from rows least e b row there =
    let past : length rows ≤ position_or_len (is_missing from least) rows = grind (arith, common_steps) in
    let lt = slice_get_within rows b row there in
    subst (λ (r : Row). is_missing from least r ≡ false) (get_or_from_slice_get rows b row row there)
    (fails_before_first (is_missing from least) rows b row (omega (arith, lt, past)))

one_of_row : (from : ℕ) (least : Option ℕ) (row : Row) → is_missing from least row ≡ false → length (option_to_list row) ≡ 1
one_of_row from least None e = absurd (let bad : true ≡ false = e in cc)
one_of_row from least (Some p) e = refl

pub whole_rows : (from : ℕ) (ps : List PieceValue) (blocks : ℕ) (rows : List Row) (least : Option ℕ) → AreRows ps blocks rows None least
    → position (is_missing from least) rows ≡ None → AreWhole from ps blocks
whole_rows from ps blocks rows least h e = λ b lt.
    let row = get_or rows b None in
    let there : slice_get rows b ≡ Some row = slice_get-get_or rows b None (rw h.count lt) in
    let some : is_missing from least row ≡ false = none_missing from rows least e b row there in
    (ap length (pieces_in ps blocks b rows least row h there) ∙ one_of_row from least row some, counted_in from ps blocks b rows least row false h there some)

lines_by_row : (ps : List PieceValue) (a : ℕ) (rows : List Row) → ((b : ℕ) (row : Row) → slice_get rows b ≡ Some row → row_lines row ≡ lines_at ps (a + b))
    → flat_map row_lines rows ≡ flat_map (lines_at ps) (range_with_len a (length rows))
lines_by_row ps a [] h = refl
lines_by_row ps a (row ∷ rows) h =
    let z : a + 0 ≡ a = omega arith in
    let first : row_lines row ≡ lines_at ps a = h 0 row refl ∙ ap (lines_at ps) z in
    let rest = lines_by_row ps (a + 1) rows (λ b x there. (let e : a + suc b ≡ a + 1 + b = omega arith in h (suc b) x there ∙ ap (lines_at ps) e)) in
    rw (first, rest) refl

pub lines_of_rows : (ps : List PieceValue) (blocks : ℕ) (rows : List Row) (least : Option ℕ) → AreRows ps blocks rows None least
    → flat_map row_lines rows ≡ lines_by_block ps blocks
unfolding lines_by_block
lines_of_rows ps blocks rows least h =
    rw (← h.count)
    (lines_by_row ps 0 rows
    (λ b row there. (let z : 0 + b ≡ b = omega arith in
    rw z (sym (lines_of_row row) ∙ ap full_lines (sym (pieces_in ps blocks b rows least row h there))))))

-- what is answered from a table

pub twice_there : (ps : List PieceValue) (blocks block : ℕ) (rows : List Row) (twice least : Option ℕ) → AreRows ps blocks rows twice least → twice ≡ Some block
    → IsFirstTwice ps blocks block
twice_there ps blocks block rows None least h e = absurd (let bad : None ≡ Some block = e in cc)
twice_there ps blocks block rows (Some b) least h e = let same : b ≡ block = cc in subst (λ c. IsFirstTwice ps blocks c) same h.first

pub none_twice : (ps : List PieceValue) (blocks : ℕ) (rows : List Row) (twice least : Option ℕ) → AreRows ps blocks rows twice least → twice ≡ None
    → AreRows ps blocks rows None least
none_twice ps blocks rows twice least h e = subst (λ t. AreRows ps blocks rows t least) e h
