-- The texts of cases, element after element: what is written, before what is still to come.
use Rattle.std.proofs.Common.{ℕ, ◌≡◌, ◌+◌, ◌-◌, ◌<◌, ◌≤◌, Bool, All, List, [], ◌∷◌, ◌++◌, length, map, drop, get_or, slice_get, Option, Some, None, refl, sym, ap, subst, ◌∙◌, arith, take, append_assoc}
use Rattle.std.specs.List.{flat_map}
use Rattle.std.specs.Option.{option_map, option_map_or}
use Rattle.std.proofs.lemmas.Option.{same_Some, slice_get_read, slice_get-get_or, slice_get-map}
use Rattle.std.proofs.lemmas.List.{append-nil, length-map}
use Rattle.std.proofs.lemmas.List.Concat.{flat_map-append}
use Rattle.logfmt.specs.Bounds.{LogValue}
use Rattle.epochs.specs.declared.part.Part.{Part}
use Rattle.cases.specs.Choices.{all_fates}
use Rattle.cases.specs.Cases.{Case}
use Rattle.cases.specs.Sets.{fates_in}
use Rattle.cases.specs.AtCut.{CutValue, Apart, parts_of, case_of}
use Rattle.losses.specs.declared.found.FailingCase.{FailingCase}
use Rattle.losses.specs.FoundCases.{FailingValue, failing_value}
use Rattle.losses.specs.declared.found.CutFound.{CutFound}
use Rattle.case_text.specs.Window.{case_window}
use Rattle.case_text.proofs.Collecting.{case_at}
use Rattle.page_parts.specs.declared.counts.CutCount.{CutCount}
use Rattle.page_parts.specs.declared.cut.Showing.{Showing}
use Rattle.case_page.specs.declared.case_program.CaseProgram.{CaseProgram}
use Rattle.case_page.specs.declared.parts.Room.{Room}
use Rattle.case_page.specs.declared.parts.CaseRow.{CaseRow}
use Rattle.page_parts.specs.declared.pieces.PagePart.TheVariants as piece
use Rattle.page_parts.specs.Pieces.{piece_text}
use Rattle.case_page.specs.Counts.{failing_of, case_count}
use Rattle.page_parts.specs.Cuts.{shown_of, one_failing, showing}
use Rattle.case_page.specs.CaseRows.{state_of, full_room, less_room, room_left, part_shown, hidden_text, parts_from, all_parts, row_at, case_said, row_text, case_row}
use Rattle.case_page.specs.CasePage.{RunValue, case_rows, listed_text, cuts_text, program_text, programs_text}
use Rattle.page_parts.proofs.Rows.{drop_next, drop_all, next_piece}

pub cuts_more : (run : RunValue) (program most lines fewer left less n : ℕ) (cs : List CutFound) (c : CutFound) (how : Showing) (failing : ℕ) (start before now : List ℕ)
    → n < length cs → c ≡ get_or cs n c → failing ≡ length (failing_of program c) → how ≡ showing program lines left failing → less ≡ left - how.rows → fewer ≡ lines - one_failing failing
    → before ++ cuts_text run program lines left (drop n cs) ≡ start ++ cuts_text run program 1000 most cs → now ≡ before ++ listed_text run lines how c
    → now ++ cuts_text run program fewer less (drop (n + 1) cs) ≡ start ++ cuts_text run program 1000 most cs
cuts_more run program most lines fewer left less n cs c how failing start before now within is count told lower later so_far written =
    let split : drop n cs ≡ c ∷ drop (n + 1) cs = drop_next cs n c (slice_get_read cs (length cs) n c refl within is) in
    let f : ℕ = length (failing_of program c) in
    let own : how ≡ showing program lines left f = told ∙ ap (showing program lines left) count in
    let opened : before ++ (listed_text run lines (showing program lines left f) c ++ cuts_text run program (lines - one_failing f) (left - shown_of left f) (drop (n + 1) cs)) ≡ start ++ cuts_text run program 1000 most cs =
    ap (λ (rest : List CutFound). before ++ cuts_text run program lines left rest) (sym split) ∙ so_far in
    rw (lower ∙ ap (λ (h : Showing). left - h.rows) own, later ∙ ap (λ (m : ℕ). lines - one_failing m) count)
    (next_piece start before (listed_text run lines (showing program lines left f) c) now _ _ opened (written ∙ ap (λ (h : Showing). before ++ listed_text run lines h c) own))

pub cuts_end : (run : RunValue) (program most lines left n : ℕ) (cs : List CutFound) (start before : List ℕ) → length cs ≤ n
    → before ++ cuts_text run program lines left (drop n cs) ≡ start ++ cuts_text run program 1000 most cs → before ≡ start ++ cuts_text run program 1000 most cs
cuts_end run program most lines left n cs start before past so_far =
    sym (ap (λ (rest : List CutFound). before ++ cuts_text run program lines left rest) (drop_all cs n past) ∙ append-nil before) ∙ so_far

pub programs_more : (run : RunValue) (found : List CutFound) (n : ℕ) (ps : List CaseProgram) (p : CaseProgram) (start before now : List ℕ) → n < length ps → p ≡ get_or ps n p
    → before ++ programs_text run found n (drop n ps) ≡ start ++ programs_text run found 0 ps → now ≡ before ++ program_text run found n p
    → now ++ programs_text run found (n + 1) (drop (n + 1) ps) ≡ start ++ programs_text run found 0 ps
programs_more run found n ps p start before now within is so_far written =
    let split : drop n ps ≡ p ∷ drop (n + 1) ps = drop_next ps n p (slice_get_read ps (length ps) n p refl within is) in
    let opened : before ++ (program_text run found n p ++ programs_text run found (n + 1) (drop (n + 1) ps)) ≡ start ++ programs_text run found 0 ps =
    ap (λ (rest : List CaseProgram). before ++ programs_text run found n rest) (sym split) ∙ so_far in
    next_piece start before (program_text run found n p) now _ _ opened written

pub programs_end : (run : RunValue) (found : List CutFound) (n : ℕ) (ps : List CaseProgram) (start before : List ℕ) → length ps ≤ n
    → before ++ programs_text run found n (drop n ps) ≡ start ++ programs_text run found 0 ps → before ≡ start ++ programs_text run found 0 ps
programs_end run found n ps start before past so_far =
    sym (ap (λ (rest : List CaseProgram). before ++ programs_text run found n rest) (drop_all ps n past) ∙ append-nil before) ∙ so_far

-- the cuts of what was found are cuts of the log
pub counts_within : (l : LogValue) (program : ℕ) (cs : List CutFound) (counts : List CutCount) → All (λ (c : CutFound). c.cut ≤ length l.entries) cs → counts ≡ map (case_count program) cs
    → All (λ (c : CutCount). c.cut ≤ length l.entries) counts
counts_within l program cs counts are is = subst (λ xs. All (λ (c : CutCount). c.cut ≤ length l.entries) xs) (sym is) (λ k d lt. own k d lt (slice_get cs k) refl)
  where
    own : (k : ℕ) (d : CutCount) → k < length (map (case_count program) cs) → (o : Option CutFound) → slice_get cs k ≡ o → (get_or (map (case_count program) cs) k d).cut ≤ length l.entries
    own k d lt None at =
        let none : slice_get (map (case_count program) cs) k ≡ None = slice_get-map (case_count program) cs k ∙ ap (option_map (case_count program)) at in
        let there : slice_get (map (case_count program) cs) k ≡ Some (get_or (map (case_count program) cs) k d) = slice_get-get_or (map (case_count program) cs) k d lt in
        absurd (let bad : None ≡ Some (get_or (map (case_count program) cs) k d) = sym none ∙ there in cc)
    own k d lt (Some c) at =
        let some : slice_get (map (case_count program) cs) k ≡ Some (case_count program c) = slice_get-map (case_count program) cs k ∙ ap (option_map (case_count program)) at in
        let there : slice_get (map (case_count program) cs) k ≡ Some (get_or (map (case_count program) cs) k d) = slice_get-get_or (map (case_count program) cs) k d lt in
        let same_one : case_count program c ≡ get_or (map (case_count program) cs) k d = same_Some (case_count program c) (get_or (map (case_count program) cs) k d) (sym some ∙ there) in
        let inside : k < length cs = let long = length-map cs (case_count program) in omega (arith, lt, long) in
        let here : slice_get cs k ≡ Some (get_or cs k c) = slice_get-get_or cs k c inside in
        let same_cut : c ≡ get_or cs k c = same_Some c (get_or cs k c) (sym at ∙ here) in
        let cut : (get_or cs k c).cut ≤ length l.entries = are k c inside in
        let one : c.cut ≡ (get_or (map (case_count program) cs) k d).cut = ap (λ (x : CutCount). x.cut) same_one in
        let other : c.cut ≡ (get_or cs k c).cut = ap (λ (x : CutFound). x.cut) same_cut in
        omega (arith, cut, one, other)

-- the parts of a case, with the set at the place of one
pub parts_more : (row : CaseRow) (parts : List Part) (sets : List ℕ) (n bits : ℕ) (d : Part) (room next : Room) (start before now : List ℕ) → Apart parts → n < length parts
    → fates_in bits ≡ option_map_or fates_in (slice_get sets n) (all_fates row.tears)
    → before ++ parts_from row (case_of row.tears parts sets) (length parts) room (drop n parts) ≡ start ++ all_parts row (case_of row.tears parts sets) parts
    → now ≡ before ++ part_shown row room (get_or parts n d) (fates_in bits) → next ≡ less_room room (state_of row.tears (fates_in bits))
    → now ++ parts_from row (case_of row.tears parts sets) (length parts) next (drop (n + 1) parts) ≡ start ++ all_parts row (case_of row.tears parts sets) parts
parts_more row parts sets n bits d room next start before now apart within set so_far written taken =
    let c : Case = case_of row.tears parts sets in
    let p : Part = get_or parts n d in
    let there : slice_get parts n ≡ Some p = slice_get-get_or parts n d within in
    let own : fates_in bits ≡ c p = set ∙ sym (case_at row.tears parts sets n p apart there) in
    let split : drop n parts ≡ p ∷ drop (n + 1) parts = drop_next parts n p there in
    let opened : before ++ (part_shown row room p (c p) ++ parts_from row c (length parts) (less_room room (state_of row.tears (c p))) (drop (n + 1) parts)) ≡ start ++ all_parts row c parts =
    ap (λ (rest : List Part). before ++ parts_from row c (length parts) room rest) (sym split) ∙ so_far in
    rw (taken ∙ ap (λ fates. less_room room (state_of row.tears fates)) own)
    (next_piece start before (part_shown row room p (c p)) now _ _ opened (written ∙ ap (λ fates. before ++ part_shown row room p fates) own))

pub parts_end : (row : CaseRow) (parts : List Part) (sets : List ℕ) (n hidden : ℕ) (room : Room) (start before now : List ℕ) → length parts ≤ n
    → hidden ≡ length parts - (room_left full_room - room_left room)
    → before ++ parts_from row (case_of row.tears parts sets) (length parts) room (drop n parts) ≡ start ++ all_parts row (case_of row.tears parts sets) parts
    → now ≡ before ++ hidden_text hidden → now ≡ start ++ all_parts row (case_of row.tears parts sets) parts
parts_end row parts sets n hidden room start before now past count so_far written =
    let c : Case = case_of row.tears parts sets in
    written ∙ ap (λ (m : ℕ). before ++ hidden_text m) count
    ∙ ap (λ (rest : List Part). before ++ parts_from row c (length parts) room rest) (sym (drop_all parts n past)) ∙ so_far

-- a case, part by part
pub row_written : (row : CaseRow) (parts : List Part) (f : FailingValue) (sets : List ℕ) (old said opened told now : List ℕ) → sets ≡ f.sets → said ≡ old ++ case_said f row.window
    → opened ≡ said ++ piece_text piece.CaseParts → told ≡ opened ++ all_parts row (case_of row.tears parts sets) parts → now ≡ told ++ piece_text piece.CaseClose
    → now ≡ old ++ row_text row (case_of row.tears parts f.sets) parts f
unfolding row_text
row_written row parts f sets old said opened told now same first next then last =
    let said_text = case_said f row.window in
    let parts_text = all_parts row (case_of row.tears parts f.sets) parts in
    let shown : all_parts row (case_of row.tears parts sets) parts ≡ parts_text = ap (λ (xs : List ℕ). all_parts row (case_of row.tears parts xs) parts) same in
    let begun : opened ≡ old ++ (said_text ++ piece_text piece.CaseParts) = next ∙ ap (λ xs. xs ++ piece_text piece.CaseParts) first ∙ append_assoc old said_text (piece_text piece.CaseParts) in
    let all : told ≡ old ++ (said_text ++ piece_text piece.CaseParts ++ parts_text) =
    then ∙ (λ i. begun i ++ shown i) ∙ append_assoc old (said_text ++ piece_text piece.CaseParts) parts_text in
    last ∙ ap (λ xs. xs ++ piece_text piece.CaseClose) all ∙ append_assoc old (said_text ++ piece_text piece.CaseParts ++ parts_text) (piece_text piece.CaseClose)

-- the rows of cases, with one more
pub rows_next : (at : CutValue) (tears : Bool) (xs : List FailingCase) (n : ℕ) (x y : FailingCase) (first before after : List ℕ) → take (n + 1) xs ≡ take n xs ++ x ∷ [] → y ≡ x
    → before ≡ first ++ case_rows at tears (take n xs) → after ≡ before ++ case_row at tears (failing_value y) → after ≡ first ++ case_rows at tears (take (n + 1) xs)
rows_next at tears xs n x y first before after more same was is =
    let own : FailingCase → List ℕ = λ f. case_row at tears (failing_value f) in
    let item : own y ≡ own x = ap own same in
    let pushed : flat_map own (take (n + 1) xs) ≡ flat_map own (take n xs) ++ own x =
    ap (flat_map own) more ∙ flat_map-append own (take n xs) (x ∷ []) ∙ ap (λ t. flat_map own (take n xs) ++ t) (append-nil (own x)) in
    is ∙ (λ i. was i ++ item i) ∙ append_assoc first (flat_map own (take n xs)) (own x) ∙ ap (λ t. first ++ t) (sym pushed)

-- a case, by its window
pub case_told : (at : CutValue) (tears : Bool) (f : FailingValue) (row : CaseRow) (parts : List Part) (old now : List ℕ) → parts ≡ parts_of at → row.by ≡ at.way → row.tears ≡ tears
    → row.window ≡ case_window at (case_of tears (parts_of at) f.sets) → now ≡ old ++ row_text row (case_of row.tears parts f.sets) parts f → now ≡ old ++ case_row at tears f
case_told at tears f row parts old now parts_are by_is tears_is window_is written =
    let same : row ≡ row_at at tears (case_of tears (parts_of at) f.sets) = λ i. record { by = by_is i; tears = tears_is i; window = window_is i } in
    written ∙ (λ i. old ++ row_text (same i) (case_of (tears_is i) (parts_are i) f.sets) (parts_are i) f)
