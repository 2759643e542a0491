-- The page of the same cases is the same.
use Rattle.std.proofs.Common.{ℕ, zero, suc, ◌≡◌, ◌==◌, ◌&&◌, Bool, true, if◌then◌else◌, List, [], ◌∷◌, ◌++◌, ◌-◌, ◌+◌, length, filter, map, take, slice_get, Option, None, Some, refl, sym, ◌∙◌, ap, subst}
use Rattle.std.specs.Option.{option_map_or}
use Rattle.std.proofs.lemmas.Option.{same_Some}
use Rattle.logfmt.specs.Bounds.{LogValue}
use Rattle.report.specs.Report.{HeadValue}
use Rattle.report.specs.declared.head.ProgramHead.{ProgramHead}
use Rattle.losses.specs.declared.cure.failure.Failure.{Failure}
use Rattle.losses.specs.FailureWindows.{windows_in}
use Rattle.losses.specs.Counted.{AreMissing}
use Rattle.losses.specs.CureText.{is_uncured}
use Rattle.cases.specs.AtCut.{CutValue, parts_of}
use Rattle.losses.specs.declared.found.Losses.{Losses}
use Rattle.losses.specs.declared.found.CaseFindings.{CaseFindings}
use Rattle.losses.specs.declared.found.CutFound.{CutFound}
use Rattle.losses.specs.declared.found.FailingCase.{FailingCase}
use Rattle.losses.specs.FoundCases.{failing_value}
use Rattle.case_runs.specs.Found.{KnownCase, known_case, SameFound}
use Rattle.page_parts.specs.Counts.{count_fails}
use Rattle.case_page.specs.Counts.{failing_of, cases_of, case_count, has_all_at, has_all}
use Rattle.page_parts.specs.Blocks.{most_cells}
use Rattle.page_parts.specs.Cuts.{cut_begin, cut_body, shown_of, one_failing, unlisted_text}
use Rattle.page_parts.specs.Frame.{title_text, strip_text, most_of_program}
use Rattle.page_parts.specs.Lacking.{advice_text}
use Rattle.page_parts.specs.declared.judge.PageJudge.TheVariants as judging
use Rattle.case_page.specs.declared.case_program.CaseProgram.{CaseProgram}
use Rattle.case_page.specs.CaseRows.{row_at, case_said, row_text, case_row}
use Rattle.case_page.specs.CasePage.{RunValue, cut_at, case_rows, rest_text, case_head, cut_shown, listed_text, cuts_text, verdict_text, counts_of, said_text, summary_text, shown_cuts, program_text, programs_text, left_text, run_text, run_with, parts_text}
use Rattle.case_page.specs.CaseFlushes.{failures_at, failures_of, IsLacking, IsCasePage}
use Rattle.case_text.specs.Why.{ToldValue, program_failures, found_failures, failure_of}
use Rattle.case_text.specs.Text.{options_text}
use Rattle.commands.proofs.Alike.{AreAlike, alike}
use Rattle.commands.proofs.OneMissing.{same_missing}
use Rattle.commands.proofs.OnePage.{same_advice, same_row, join_three}
use Rattle.commands.proofs.OneCases.{EachSame, CutsSame, cut_value, torn_same, lost_same, told_same}

-- a row says what is known of its case
row_same : (at : CutValue) (tears : Bool) (f g : FailingCase) → known_case at tears f ≡ known_case at tears g → case_row at tears (failing_value f) ≡ case_row at tears (failing_value g)
unfolding row_text case_said
row_same at tears f g same = λ i. row_text (row_at at tears (same i).is) (same i).is (parts_of at) (record { number = (same i).number; ending = (same i).ending; sets = [] })

rows_same : (at : CutValue) (tears : Bool) (n : ℕ) (fs gs : List FailingCase) → map (known_case at tears) fs ≡ map (known_case at tears) gs
    → case_rows at tears (take n fs) ≡ case_rows at tears (take n gs)
rows_same at tears zero fs gs same = refl
rows_same at tears (suc n) [] [] same = refl
rows_same at tears (suc n) [] (g ∷ gs) same = absurd (let bad : [] ≡ known_case at tears g ∷ map (known_case at tears) gs = same in cc)
rows_same at tears (suc n) (f ∷ fs) [] same = absurd (let bad : known_case at tears f ∷ map (known_case at tears) fs ≡ [] = same in cc)
rows_same at tears (suc n) (f ∷ fs) (g ∷ gs) same =
    let both : known_case at tears f ∷ map (known_case at tears) fs ≡ known_case at tears g ∷ map (known_case at tears) gs = same in
    let one : known_case at tears f ≡ known_case at tears g = cc in
    let others : map (known_case at tears) fs ≡ map (known_case at tears) gs = cc in
    let row = row_same at tears f g one in
    let rest = rows_same at tears n fs gs others in
    λ i. row i ++ rest i

long_known : (at : CutValue) (tears : Bool) (items : List FailingCase) → length items ≡ length (map (known_case at tears) items)
long_known at tears [] = refl
long_known at tears (f ∷ items) = ap suc (long_known at tears items)

-- what was found of a program at a cut is the same
each_at : {A : Type 0} (own : CaseFindings → A) (none : A) (at : CutValue) (tears : Bool) → ((f g : CaseFindings) → SameFound at tears f g → own f ≡ own g) → (program : ℕ) (fs gs : List CaseFindings)
    → EachSame at tears fs gs → option_map_or own (slice_get fs program) none ≡ option_map_or own (slice_get gs program) none
each_at own none at tears tells program [] [] same = refl
each_at own none at tears tells program [] (g ∷ gs) same = absurd same
each_at own none at tears tells program (f ∷ fs) [] same = absurd same
each_at own none at tears tells zero (f ∷ fs) (g ∷ gs) same = tells f g same.0
each_at own none at tears tells (suc program) (f ∷ fs) (g ∷ gs) same = each_at own none at tears tells program fs gs same.1

-- what is known where nothing was found is nothing
of_none : (at : CutValue) (tears : Bool) (it : Option CaseFindings)
    → map (known_case at tears) (option_map_or (λ (f : CaseFindings). f.failing.items) it []) ≡ option_map_or (λ (f : CaseFindings). map (known_case at tears) f.failing.items) it []
of_none at tears None = refl
of_none at tears (Some f) = refl

known_same : (run : RunValue) (program : ℕ) (c d : CutFound) → EachSame (cut_value run.log run.way c.cut) run.tears c.programs.items d.programs.items
    → map (known_case (cut_at run c.cut) run.tears) (failing_of program c) ≡ map (known_case (cut_at run c.cut) run.tears) (failing_of program d)
known_same run program c d same =
    let at = cut_value run.log run.way c.cut in
    of_none at run.tears (slice_get c.programs.items program)
    ∙ each_at (λ (f : CaseFindings). map (known_case at run.tears) f.failing.items) [] at run.tears (λ f g own. own.failing) program c.programs.items d.programs.items same
    ∙ sym (of_none at run.tears (slice_get d.programs.items program))

cases_same : (run : RunValue) (program : ℕ) (c d : CutFound) → EachSame (cut_value run.log run.way c.cut) run.tears c.programs.items d.programs.items → cases_of program c ≡ cases_of program d
cases_same run program c d same =
    each_at (λ (f : CaseFindings). f.cases) 0 (cut_value run.log run.way c.cut) run.tears (λ f g own. own.cases) program c.programs.items d.programs.items same

many_same : (run : RunValue) (program : ℕ) (c d : CutFound) → EachSame (cut_value run.log run.way c.cut) run.tears c.programs.items d.programs.items
    → length (failing_of program c) ≡ length (failing_of program d)
many_same run program c d same =
    long_known (cut_at run c.cut) run.tears (failing_of program c) ∙ ap (λ (ks : List KnownCase). length ks) (known_same run program c d same)
    ∙ sym (long_known (cut_at run c.cut) run.tears (failing_of program d))

-- the line of a cut, and what it lists
head_same : (run : RunValue) (program : ℕ) (is_open : Bool) (rows : ℕ) (c d : CutFound) → c.cut ≡ d.cut → EachSame (cut_value run.log run.way c.cut) run.tears c.programs.items d.programs.items
    → case_head run (record { program = program; is_open = is_open; rows = rows }) c ≡ case_head run (record { program = program; is_open = is_open; rows = rows }) d
unfolding case_head
head_same run program is_open rows c d cut same =
    let cases = cases_same run program c d same in
    let many = many_same run program c d same in
    λ i. cut_begin run.log.entries is_open (record { cut = cut i; of = (case_count program c).of; all = cases i; failing = many i }) ++ cut_body program (cut i)

join_cut : (a b c d e f g : List ℕ) → a ≡ b → c ≡ d → e ≡ f → a ++ c ++ e ++ g ≡ b ++ d ++ f ++ g
join_cut a b c d e f g first second third = λ i. first i ++ second i ++ third i ++ g

shown_same : (run : RunValue) (program : ℕ) (is_open : Bool) (rows : ℕ) (c d : CutFound) → c.cut ≡ d.cut → EachSame (cut_value run.log run.way c.cut) run.tears c.programs.items d.programs.items
    → cut_shown run (record { program = program; is_open = is_open; rows = rows }) c ≡ cut_shown run (record { program = program; is_open = is_open; rows = rows }) d
unfolding cut_shown
shown_same run program is_open rows c d cut same =
    let many = many_same run program c d same in
    let listed =
    rows_same (cut_at run c.cut) run.tears rows (failing_of program c) (failing_of program d) (known_same run program c d same)
    ∙ ap (λ n. case_rows (cut_at run n) run.tears (take rows (failing_of program d))) cut in
    join_cut _ _ (case_rows (cut_at run c.cut) run.tears (take rows (failing_of program c))) (case_rows (cut_at run d.cut) run.tears (take rows (failing_of program d)))
    (rest_text (length (failing_of program c) - rows)) (rest_text (length (failing_of program d) - rows)) _ (head_same run program is_open rows c d cut same) listed
    (ap (λ n. rest_text (n - rows)) many)

listed_same : (run : RunValue) (lines program : ℕ) (is_open : Bool) (rows : ℕ) (c d : CutFound) → c.cut ≡ d.cut → EachSame (cut_value run.log run.way c.cut) run.tears c.programs.items d.programs.items
    → listed_text run lines (record { program = program; is_open = is_open; rows = rows }) c ≡ listed_text run lines (record { program = program; is_open = is_open; rows = rows }) d
listed_same run lines program is_open rows c d cut same =
    let many = many_same run program c d same in
    let shown = shown_same run program is_open rows c d cut same in
    λ i. if lines == 0 then [] else if many i == 0 then [] else shown i

texts_same : (run : RunValue) (program : ℕ) (ls ms : List CutFound) → CutsSame run.log run.way run.tears ls ms → (lines left : ℕ)
    → cuts_text run program lines left ls ≡ cuts_text run program lines left ms
texts_same run program [] [] same lines left = refl
texts_same run program [] (d ∷ ds) same lines left = absurd same
texts_same run program (c ∷ cs) [] same lines left = absurd same
texts_same run program (c ∷ cs) (d ∷ ds) same lines left =
    let many = many_same run program c d same.1 in
    let here =
    listed_same run lines program (lines == most_cells) (shown_of left (length (failing_of program c))) c d same.0 same.1
    ∙ ap (λ n. listed_text run lines (record { program = program; is_open = lines == most_cells; rows = shown_of left n }) d) many in
    let rest =
    texts_same run program cs ds same.2 (lines - one_failing (length (failing_of program c))) (left - shown_of left (length (failing_of program c)))
    ∙ ap (λ n. cuts_text run program (lines - one_failing n) (left - shown_of left n) ds) many in
    λ i. here i ++ rest i

counts_same : (run : RunValue) (program : ℕ) (ls ms : List CutFound) → CutsSame run.log run.way run.tears ls ms → counts_of program ls ≡ counts_of program ms
counts_same run program [] [] same = refl
counts_same run program [] (d ∷ ds) same = absurd same
counts_same run program (c ∷ cs) [] same = absurd same
counts_same run program (c ∷ cs) (d ∷ ds) same =
    let cut : c.cut ≡ d.cut = same.0 in
    let cases = cases_same run program c d same.1 in
    let many = many_same run program c d same.1 in
    let rest = counts_same run program cs ds same.2 in
    λ i. record { cut = cut i; of = (case_count program c).of; all = cases i; failing = many i } ∷ rest i

join_two : (a b c d : List ℕ) → a ≡ b → c ≡ d → a ++ c ≡ b ++ d
join_two a b c d first second = λ i. first i ++ second i

join_program : (a b c d e : List ℕ) → a ≡ b → c ≡ d → a ++ c ++ e ≡ b ++ d ++ e
join_program a b c d e first second = λ i. first i ++ second i ++ e

unlisted_same : {K : Type 0} (text : K → ℕ → ℕ → List ℕ) (of : K) (program m n : ℕ) → m ≡ n → text of program m ≡ text of program n
unlisted_same text of program m n same = ap (text of program) same

shown_cuts_same : (run : RunValue) (ls ms : List CutFound) → CutsSame run.log run.way run.tears ls ms → (program : ℕ) → shown_cuts run program ls ≡ shown_cuts run program ms
unfolding shown_cuts
shown_cuts_same run ls ms same program =
    join_two (cuts_text run program most_cells (most_of_program run.log.entries) ls) (cuts_text run program most_cells (most_of_program run.log.entries) ms) _ _
    (texts_same run program ls ms same most_cells (most_of_program run.log.entries))
    (unlisted_same unlisted_text _ program (count_fails (counts_of program ls) - most_cells) (count_fails (counts_of program ms) - most_cells)
    (λ i. count_fails (counts_same run program ls ms same i) - most_cells))

-- programs of which the report says the same, and for whose failing cases the same flushes are missing
record SameProgram (p q : CaseProgram) : Type 0 where
  pub head : p.head ≡ q.head
  pub missing : p.missing.items ≡ q.missing.items
  pub uncured : p.uncured ≡ q.uncured

-- as many cases were left out for a program
all_at_same : (run : RunValue) (program : ℕ) (c d : CutFound) → EachSame (cut_value run.log run.way c.cut) run.tears c.programs.items d.programs.items → has_all_at program c ≡ has_all_at program d
all_at_same run program c d same =
    each_at (λ (f : CaseFindings). (f.torn_beyond == 0) && (f.lost_beyond == 0)) true (cut_value run.log run.way c.cut) run.tears
    (λ f g own. λ i. (own.torn i == 0) && (own.lost i == 0)) program c.programs.items d.programs.items same

all_same : (run : RunValue) (program : ℕ) (ls ms : List CutFound) → CutsSame run.log run.way run.tears ls ms → has_all program ls ≡ has_all program ms
all_same run program [] [] same = refl
all_same run program [] (d ∷ ds) same = absurd same
all_same run program (c ∷ cs) [] same = absurd same
all_same run program (c ∷ cs) (d ∷ ds) same =
    let here = all_at_same run program c d same.1 in
    let rest = all_same run program cs ds same.2 in
    λ i. here i && rest i

said_same : (run : RunValue) (ls ms : List CutFound) → CutsSame run.log run.way run.tears ls ms → (program : ℕ) (p q : CaseProgram) → SameProgram p q
    → said_text (has_all program ls) program p (counts_of program ls) ≡ said_text (has_all program ms) program q (counts_of program ms)
unfolding said_text
said_same run ls ms same program p q own =
    join_three (title_text program (judging.Checker p.head)) (title_text program (judging.Checker q.head)) (verdict_text (has_all program ls) (counts_of program ls)) (verdict_text (has_all program ms) (counts_of program ms)) _ _
    (ap (λ (h : ProgramHead). title_text program (judging.Checker h)) own.head) (λ i. verdict_text (all_same run program ls ms same i) (counts_same run program ls ms same i))
    (same_advice advice_text _ program p.missing.items q.missing.items p.uncured q.uncured own.missing own.uncured)

join_summary : (a b c d e f : List ℕ) → a ≡ b → c ≡ d → a ++ c ++ e ++ f ≡ b ++ d ++ e ++ f
join_summary a b c d e f first second = λ i. first i ++ second i ++ e ++ f

summary_same : (run : RunValue) (ls ms : List CutFound) → CutsSame run.log run.way run.tears ls ms → (program : ℕ) (p q : CaseProgram) → SameProgram p q
    → summary_text run (has_all program ls) program p (counts_of program ls) ≡ summary_text run (has_all program ms) program q (counts_of program ms)
unfolding summary_text
summary_same run ls ms same program p q own =
    join_summary (said_text (has_all program ls) program p (counts_of program ls)) (said_text (has_all program ms) program q (counts_of program ms)) _ _ _ _ (said_same run ls ms same program p q own)
    (same_row strip_text _ run.log.entries program p.missing.items q.missing.items (counts_of program ls) (counts_of program ms) own.missing (counts_same run program ls ms same))

program_same : (run : RunValue) (ls ms : List CutFound) → CutsSame run.log run.way run.tears ls ms → (program : ℕ) (p q : CaseProgram) → SameProgram p q
    → program_text run ls program p ≡ program_text run ms program q
unfolding program_text
program_same run ls ms same program p q own =
    join_program (summary_text run (has_all program ls) program p (counts_of program ls)) (summary_text run (has_all program ms) program q (counts_of program ms)) (shown_cuts run program ls) (shown_cuts run program ms) _
    (summary_same run ls ms same program p q own) (shown_cuts_same run ls ms same program)

programs_same : (run : RunValue) (ls ms : List CutFound) → CutsSame run.log run.way run.tears ls ms → (program : ℕ) (ps qs : List CaseProgram) → AreAlike SameProgram ps qs
    → programs_text run ls program ps ≡ programs_text run ms program qs
programs_same run ls ms same program [] [] own = refl
programs_same run ls ms same program [] (q ∷ qs) own = absurd own
programs_same run ls ms same program (p ∷ ps) [] own = absurd own
programs_same run ls ms same program (p ∷ ps) (q ∷ qs) own =
    let first = program_same run ls ms same program p q own.0 in
    let rest = programs_same run ls ms same (program + 1) ps qs own.1 in
    λ i. first i ++ rest i

found_same : (run : RunValue) (about : List ℕ) (ps qs : List CaseProgram) (ls ms : List CutFound) → CutsSame run.log run.way run.tears ls ms → AreAlike SameProgram ps qs
    → parts_text run about ps ls ≡ parts_text run about qs ms
unfolding parts_text
found_same run about ps qs ls ms same own = let programs : programs_text run ls 0 ps ≡ programs_text run ms 0 qs = programs_same run ls ms same 0 ps qs own in rw programs refl

-- the failing cases of a program have the same windows
of_failures : (at : CutValue) (tears : Bool) (it : Option CaseFindings)
    → program_failures at tears 0 (option_map_or (λ (f : CaseFindings). f.failing.items) it []) ≡ option_map_or (found_failures at tears 0) it []
of_failures at tears None = refl
of_failures at tears (Some f) = refl

failed_same : (run : RunValue) (program : ℕ) (c d : CutFound) → EachSame (cut_value run.log run.way c.cut) run.tears c.programs.items d.programs.items
    → program_failures (cut_at run c.cut) run.tears 0 (failing_of program c) ≡ program_failures (cut_at run c.cut) run.tears 0 (failing_of program d)
failed_same run program c d same =
    let at = cut_value run.log run.way c.cut in
    of_failures at run.tears (slice_get c.programs.items program)
    ∙ each_at (found_failures at run.tears 0) [] at run.tears (λ f g own. ap (λ (ts : List ToldValue). map (failure_of 0) ts) (told_same at run.tears f g own)) program c.programs.items d.programs.items same
    ∙ sym (of_failures at run.tears (slice_get d.programs.items program))

failures_same : (run : RunValue) (program : ℕ) (ls ms : List CutFound) → CutsSame run.log run.way run.tears ls ms → failures_of run program ls ≡ failures_of run program ms
failures_same run program [] [] same = refl
failures_same run program [] (d ∷ ds) same = absurd same
failures_same run program (c ∷ cs) [] same = absurd same
failures_same run program (c ∷ cs) (d ∷ ds) same =
    let here : failures_at run program c ≡ failures_at run program d =
    failed_same run program c d same.1 ∙ ap (λ n. program_failures (cut_at run n) run.tears 0 (failing_of program d)) same.0 in
    let rest = failures_same run program cs ds same.2 in
    λ i. here i ++ rest i

lacking_same : (run : RunValue) (heads : List ProgramHead) (ls ms : List CutFound) → CutsSame run.log run.way run.tears ls ms → (program : ℕ) (p q : CaseProgram)
    → IsLacking run ls heads program p → IsLacking run ms heads program q → SameProgram p q
lacking_same run heads ls ms same program p q a b =
    let failures : failures_of run program ls ≡ failures_of run program ms = failures_same run program ls ms same in
    record {
      head = same_Some p.head q.head (sym a.head ∙ b.head);
      missing = same_missing (windows_in (failures_of run program ls)) p.missing.items q.missing.items a.missing
          (subst (λ (fs : List Failure). AreMissing (windows_in fs) q.missing.items) (sym failures) b.missing);
      uncured = a.uncured ∙ ap (λ (fs : List Failure). length (filter (is_uncured 0) fs)) failures ∙ sym b.uncured;
    }

pub page_same : (h : HeadValue) (asked : Losses) (log : LogValue) (ls ms : List CutFound) (bytes others : List ℕ) → CutsSame log h.by asked.tears ls ms → IsCasePage h asked log ls bytes
    → IsCasePage h asked log ms others → bytes ≡ others
page_same h asked log ls ms bytes others same a b =
    let torn = torn_same log h.by asked.tears ls ms same in
    let lost = lost_same log h.by asked.tears ls ms same in
    let run : RunValue = run_with h asked log in
    let own : AreAlike SameProgram a.programs b.programs =
    alike SameProgram a.programs b.programs (a.are.all ∙ sym b.are.all) (λ i p q x y. lacking_same run h.programs ls ms same i p q (a.are.each i p x) (b.are.each i q y)) in
    let of_run : parts_text run (run_text h asked ls) a.programs ls ≡ parts_text run (run_text h asked ls) b.programs ms = found_same run (run_text h asked ls) a.programs b.programs ls ms same own in
    a.page ∙ of_run
    ∙ (λ i. parts_text run (options_text h asked ++ left_text (torn i) (lost i)) b.programs ms)
    ∙ sym b.page
