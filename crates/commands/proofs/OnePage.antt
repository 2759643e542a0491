-- Failures that are alike have one page.
use Rattle.std.proofs.Common.{ℕ, ◌≡◌, ◌+◌, ◌-◌, ◌==◌, if◌then◌else◌, Bool, List, [], ◌∷◌, ◌++◌, length, map, take, Some, refl, sym, ◌∙◌, ap, subst}
use Rattle.logfmt.specs.declared.entry.Entry.{Entry}
use Rattle.choices.specs.Sums.{StartsValue}
use Rattle.losses.specs.declared.flushes.counted.MissingFlush.{MissingFlush}
use Rattle.losses.specs.declared.cure.failure.Failure.{Failure}
use Rattle.losses.specs.FailureWindows.{windows_in}
use Rattle.report.specs.Line.{FailingLine}
use Rattle.losses.specs.ProgramOutcomes.{outcomes_failing}
use Rattle.report.specs.declared.head.ProgramHead.{ProgramHead}
use Rattle.report.specs.Report.{HeadValue}
use Rattle.losses.specs.declared.why.cut.CutFailures.{CutFailures}
use Rattle.losses.specs.declared.why.group.FailingGroup.{FailingGroup}
use Rattle.crash_page.specs.declared.program.ProgramFailures.{ProgramFailures}
use Rattle.page_parts.specs.Lacking.{advice_text}
use Rattle.page_parts.specs.Blocks.{most_cells}
use Rattle.page_parts.specs.Counts.{count_fails}
use Rattle.crash_page.specs.Counts.{image_count}
use Rattle.page_parts.specs.Cuts.{cut_begin, cut_body, shown_of, one_failing, unlisted_text}
use Rattle.crash_page.specs.Groups.{groups_text, first_text, cut_head, rest_text, cut_shown, cut_text, listed_text, cuts_text}
use Rattle.page_parts.specs.Frame.{strip_text, name_text, title_text, most_of_program}
use Rattle.crash_page.specs.Page.{counts_of, verdict_text, summary_text, outcomes_of, shown_cuts, program_text, programs_text, page_text}
use Rattle.page_parts.specs.Judges.{judge_text, checker_text}
use Rattle.crash_page.specs.Failing.{own_failures, IsFailing, IsPage}
use Rattle.runs.specs.Paged.{IsSaid, about_run, IsPageOf}
use Rattle.commands.proofs.Alike.{AreAlike, alike}
use Rattle.commands.proofs.OneCause.{SameCut, same_cuts}
use Rattle.commands.proofs.OneMissing.{same_failures, same_missing}

-- what fails of cuts that are alike is the same
same_counts : (cs ds : List CutFailures) → AreAlike SameCut cs ds → map image_count cs ≡ map image_count ds
same_counts [] [] h = refl
same_counts [] (d ∷ ds) h = absurd h
same_counts (c ∷ cs) [] h = absurd h
same_counts (c ∷ cs) (d ∷ ds) h =
    let cut : c.cut ≡ d.cut = h.0.cut in
    let images : c.images ≡ d.images = h.0.images in
    let failing : c.failing ≡ d.failing = h.0.failing in
    let rest = same_counts cs ds h.1 in
    λ i. record { cut = cut i; of = (image_count c).of; all = images i; failing = failing i } ∷ rest i

-- texts of parts that are the same, between parts that stay
join_shown : (a b c d e f g : List ℕ) → a ≡ b → c ≡ d → e ≡ f → a ++ c ++ e ++ g ≡ b ++ d ++ f ++ g
join_shown a b c d e f g first second third = λ i. first i ++ second i ++ third i ++ g

join_program : (a b c d e f g h : List ℕ) → a ≡ b → c ≡ d → f ≡ g → a ++ c ++ e ++ f ++ h ≡ b ++ d ++ e ++ g ++ h
join_program a b c d e f g h first second third = λ i. first i ++ second i ++ e ++ third i ++ h

pub join_three : (a b c d e f : List ℕ) → a ≡ b → c ≡ d → e ≡ f → a ++ c ++ e ≡ b ++ d ++ f
join_three a b c d e f first second third = λ i. first i ++ second i ++ third i

-- the head of a cut, by its groups
same_head : (s : StartsValue) (program : ℕ) (is_open : Bool) (rows : ℕ) (c d : CutFailures) → SameCut c d
    → cut_head s (record { program = program; is_open = is_open; rows = rows }) c ≡ cut_head s (record { program = program; is_open = is_open; rows = rows }) d
unfolding cut_head
same_head s program is_open rows c d h =
    let cut : c.cut ≡ d.cut = h.cut in
    let images : c.images ≡ d.images = h.images in
    let failing : c.failing ≡ d.failing = h.failing in
    let groups : c.groups.items ≡ d.groups.items = h.groups in
    λ i. cut_begin s.plan.log.entries is_open (record { cut = cut i; of = (image_count c).of; all = images i; failing = failing i }) ++ first_text s (groups i) ++ cut_body program (cut i)

-- a cut with that many of its groups
same_shown : (s : StartsValue) (outcomes : List (List ℕ)) (program : ℕ) (is_open : Bool) (rows : ℕ) (c d : CutFailures) → SameCut c d
    → cut_shown s outcomes (record { program = program; is_open = is_open; rows = rows }) c ≡ cut_shown s outcomes (record { program = program; is_open = is_open; rows = rows }) d
unfolding cut_shown
same_shown s outcomes program is_open rows c d h =
    join_shown (cut_head s (record { program = program; is_open = is_open; rows = rows }) c) (cut_head s (record { program = program; is_open = is_open; rows = rows }) d)
    (groups_text s outcomes is_open (take rows c.groups.items)) (groups_text s outcomes is_open (take rows d.groups.items))
    (rest_text (length c.groups.items - rows)) (rest_text (length d.groups.items - rows)) _ (same_head s program is_open rows c d h)
    (ap (λ (gs : List FailingGroup). groups_text s outcomes is_open (take rows gs)) h.groups) (ap (λ (gs : List FailingGroup). rest_text (length gs - rows)) h.groups)

same_cut_text : (s : StartsValue) (outcomes : List (List ℕ)) (program : ℕ) (is_open : Bool) (rows : ℕ) (c d : CutFailures) → SameCut c d
    → cut_text s outcomes (record { program = program; is_open = is_open; rows = rows }) c ≡ cut_text s outcomes (record { program = program; is_open = is_open; rows = rows }) d
same_cut_text s outcomes program is_open rows c d h =
    let failing : c.failing ≡ d.failing = h.failing in
    let text = same_shown s outcomes program is_open rows c d h in
    λ i. if failing i == 0 then [] else text i

same_listed : (s : StartsValue) (outcomes : List (List ℕ)) (program lines : ℕ) (is_open : Bool) (rows : ℕ) (c d : CutFailures) → SameCut c d
    → listed_text s outcomes lines (record { program = program; is_open = is_open; rows = rows }) c ≡ listed_text s outcomes lines (record { program = program; is_open = is_open; rows = rows }) d
same_listed s outcomes program lines is_open rows c d h =
    let text = same_cut_text s outcomes program is_open rows c d h in
    λ i. if lines == 0 then [] else text i

same_cuts_text : (s : StartsValue) (outcomes : List (List ℕ)) (program lines left : ℕ) (cs ds : List CutFailures) → AreAlike SameCut cs ds
    → cuts_text s outcomes program lines left cs ≡ cuts_text s outcomes program lines left ds
same_cuts_text s outcomes program lines left [] [] h = refl
same_cuts_text s outcomes program lines left [] (d ∷ ds) h = absurd h
same_cuts_text s outcomes program lines left (c ∷ cs) [] h = absurd h
same_cuts_text s outcomes program lines left (c ∷ cs) (d ∷ ds) h =
    let groups : length c.groups.items ≡ length d.groups.items = ap (λ (gs : List FailingGroup). length gs) h.0.groups in
    let first =
    same_listed s outcomes program lines (lines == most_cells) (shown_of left (length c.groups.items)) c d h.0
    ∙ ap (λ n. listed_text s outcomes lines (record { program = program; is_open = lines == most_cells; rows = shown_of left n }) d) groups in
    let rest =
    same_cuts_text s outcomes program (lines - one_failing c.failing) (left - shown_of left (length c.groups.items)) cs ds h.1
    ∙ ap (λ n. cuts_text s outcomes program (lines - one_failing c.failing) (left - shown_of left n) ds) groups
    ∙ ap (λ k. cuts_text s outcomes program (lines - one_failing k) (left - shown_of left (length d.groups.items)) ds) h.0.failing in
    λ i. first i ++ rest i

-- programs of which the same is said, that fail on as many images, alike at each cut and with the same outcomes, and for which the same flushes are missing
pub record SameFailures (f g : ProgramFailures) : Type 0 where
  pub judge_is : judge_text f.judge ≡ judge_text g.judge
  pub failing : f.failing ≡ g.failing
  pub outcomes_are : outcomes_of f ≡ outcomes_of g
  pub cuts : AreAlike SameCut f.cuts.items g.cuts.items
  pub missing : f.missing.items ≡ g.missing.items
  pub uncured : f.uncured ≡ g.uncured

same_verdict : (f g : ProgramFailures) → SameFailures f g → verdict_text f.failing (counts_of f) ≡ verdict_text g.failing (counts_of g)
same_verdict f g h =
    let failing : f.failing ≡ g.failing = h.failing in
    let counts = same_counts f.cuts.items g.cuts.items h.cuts in
    λ i. verdict_text (failing i) (counts i)

same_title : (program : ℕ) (f g : ProgramFailures) → judge_text f.judge ≡ judge_text g.judge → title_text program f.judge ≡ title_text program g.judge
unfolding title_text name_text
same_title program f g same = rw same refl

-- what flushes would do, whatever is judged
pub same_advice : {K : Type 0} (text : K → ℕ → List MissingFlush → ℕ → List ℕ) (of : K) (program : ℕ) (ms ns : List MissingFlush) (m n : ℕ) → ms ≡ ns → m ≡ n → text of program ms m ≡ text of program ns n
same_advice text of program ms ns m n missing uncured = λ i. text of program (missing i) (uncured i)

same_summary : (program : ℕ) (f g : ProgramFailures) → SameFailures f g → summary_text program f ≡ summary_text program g
unfolding summary_text
same_summary program f g h =
    join_three (title_text program f.judge) (title_text program g.judge) (verdict_text f.failing (counts_of f)) (verdict_text g.failing (counts_of g)) _ _
    (same_title program f g h.judge_is) (same_verdict f g h) (same_advice advice_text _ program f.missing.items g.missing.items f.uncured g.uncured h.missing h.uncured)

-- the row of the log, whatever is judged there
pub same_row : {K C : Type 0} (text : K → List Entry → ℕ → List MissingFlush → List C → List ℕ) (of : K) (es : List Entry) (program : ℕ) (ms ns : List MissingFlush) (cs ds : List C) → ms ≡ ns → cs ≡ ds
    → text of es program ms cs ≡ text of es program ns ds
same_row text of es program ms ns cs ds missing counts = λ i. text of es program (missing i) (counts i)

-- and how many cuts aren't listed
same_unlisted : {K : Type 0} (text : K → ℕ → ℕ → List ℕ) (of : K) (program m n : ℕ) → m ≡ n → text of program m ≡ text of program n
same_unlisted text of program m n same = ap (text of program) same

join_two : (a b c d : List ℕ) → a ≡ b → c ≡ d → a ++ c ≡ b ++ d
join_two a b c d first second = λ i. first i ++ second i

same_shown_cuts : (s : StartsValue) (program : ℕ) (f g : ProgramFailures) → SameFailures f g → shown_cuts s program f ≡ shown_cuts s program g
unfolding shown_cuts
same_shown_cuts s program f g h =
    join_two (cuts_text s (outcomes_of f) program most_cells (most_of_program s.plan.log.entries) f.cuts.items) (cuts_text s (outcomes_of g) program most_cells (most_of_program s.plan.log.entries) g.cuts.items)
    _ _
    (same_cuts_text s (outcomes_of f) program most_cells (most_of_program s.plan.log.entries) f.cuts.items g.cuts.items h.cuts
    ∙ ap (λ (os : List (List ℕ)). cuts_text s os program most_cells (most_of_program s.plan.log.entries) g.cuts.items) h.outcomes_are)
    (same_unlisted unlisted_text _ program (count_fails (counts_of f) - most_cells) (count_fails (counts_of g) - most_cells)
    (λ i. count_fails (same_counts f.cuts.items g.cuts.items h.cuts i) - most_cells))

same_program : (s : StartsValue) (program : ℕ) (f g : ProgramFailures) → SameFailures f g → program_text s program f ≡ program_text s program g
unfolding program_text
same_program s program f g h =
    join_program (summary_text program f) (summary_text program g) _ _ _ (shown_cuts s program f) (shown_cuts s program g) _ (same_summary program f g h)
    (same_row strip_text _ s.plan.log.entries program f.missing.items g.missing.items (counts_of f) (counts_of g) h.missing (same_counts f.cuts.items g.cuts.items h.cuts)) (same_shown_cuts s program f g h)

same_programs : (s : StartsValue) (program : ℕ) (fs gs : List ProgramFailures) → AreAlike SameFailures fs gs → programs_text s program fs ≡ programs_text s program gs
same_programs s program [] [] h = refl
same_programs s program [] (g ∷ gs) h = absurd h
same_programs s program (f ∷ fs) [] h = absurd h
same_programs s program (f ∷ fs) (g ∷ gs) h =
    let first = same_program s program f g h.0 in
    let rest = same_programs s (program + 1) fs gs h.1 in
    λ i. first i ++ rest i

same_fails : (s : StartsValue) (images : List ℕ) (outcomes : List (List ℕ)) (program : ℕ) (fs : List Failure) (f g : ProgramFailures) → judge_text f.judge ≡ judge_text g.judge
    → IsFailing s images outcomes program fs f → IsFailing s images outcomes program fs g → SameFailures f g
same_fails s images outcomes program fs f g said a b =
    record {
      judge_is = said;
      failing = a.failing ∙ sym b.failing;
      outcomes_are = a.outcomes_are ∙ sym b.outcomes_are;
      cuts = same_cuts s images outcomes f.cuts.items g.cuts.items a.cuts b.cuts;
      missing = same_missing (windows_in (own_failures program fs)) f.missing.items g.missing.items a.missing b.missing;
      uncured = a.uncured ∙ sym b.uncured;
    }

same_page : (about : List ℕ) (s : StartsValue) (fs gs : List ProgramFailures) → programs_text s 0 fs ≡ programs_text s 0 gs → page_text about s fs ≡ page_text about s gs
unfolding page_text
same_page about s fs gs same = rw same refl

-- failures of which one thing is said have one page
pub one_page_of : (about : List ℕ) (s : StartsValue) (Said : ℕ → List ℕ → Type 0) (images : ℕ → List ℕ) (outcomes : ℕ → List (List ℕ)) (fs : List Failure) (count : ℕ) (bytes others : List ℕ)
    → ((program : ℕ) (x y : List ℕ) → Said program x → Said program y → x ≡ y) → IsPage about s Said images outcomes fs count bytes → IsPage about s Said images outcomes fs count others → bytes ≡ others
one_page_of about s Said images outcomes fs count bytes others said a b =
    let programs =
    alike SameFailures a.programs b.programs (a.are.all ∙ sym b.are.all)
    (λ i f g p q. same_fails s (images i) (outcomes i) i fs f g (said i (judge_text f.judge) (judge_text g.judge) (a.are.named i f p) (b.are.named i g q)) (a.are.each i f p) (b.are.each i g q)) in
    a.page ∙ same_page about s a.programs b.programs (same_programs s 0 a.programs b.programs programs) ∙ sym b.page

one_said : (heads : List ProgramHead) (program : ℕ) (x y : List ℕ) → IsSaid heads program x → IsSaid heads program y → x ≡ y
one_said heads program x y a b =
    let both : Some a.head ≡ Some b.head = sym a.there ∙ b.there in
    let head : a.head ≡ b.head = cc in
    a.is ∙ ap checker_text head ∙ sym b.is

pub one_page : (h : HeadValue) (s : StartsValue) (failing : ℕ → List ℕ) (ls : List FailingLine) (bytes others : List ℕ)
    → IsPageOf h s failing ls bytes → IsPageOf h s failing ls others → bytes ≡ others
one_page h s failing ls bytes others a b =
    let failures : a.failures ≡ b.failures = same_failures s.plan.by s.plan.log.entries ls a.failures b.failures a.are_failures b.are_failures in
    let page : IsPage (about_run h ls) s (IsSaid h.programs) failing (λ (program : ℕ). outcomes_failing program ls) a.failures (length h.programs) others =
    subst (λ (fs : List Failure). IsPage (about_run h ls) s (IsSaid h.programs) failing (λ (program : ℕ). outcomes_failing program ls) fs (length h.programs) others) (sym failures) b.page in
    one_page_of (about_run h ls) s (IsSaid h.programs) failing (λ (program : ℕ). outcomes_failing program ls) a.failures (length h.programs) bytes others (one_said h.programs) a.page page
