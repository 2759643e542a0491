-- The page of a run (docs/OUTPUT.md, The page of `page`).
use Rattle.std.specs.Prelude.{ℕ, ◌+◌, ◌-◌, ◌≤◌, ◌==◌, if◌then◌else◌, List, [], ◌∷◌, ◌++◌, All, length, map}
use Rattle.std.specs.Fmt.{decimal}
use Rattle.choices.specs.Sums.{StartsValue}
use Rattle.losses.specs.declared.why.cut.CutFailures.{CutFailures}
use Rattle.losses.specs.WhyText.{IsNumbered}
use Rattle.page_parts.specs.declared.counts.CutCount.{CutCount}
use Rattle.page_parts.specs.declared.counts.JudgedKind.TheVariants as kind
use Rattle.page_parts.specs.Counts.{count_fails}
use Rattle.crash_page.specs.Counts.{image_count}
use Rattle.page_parts.specs.declared.pieces.PagePart.TheVariants as piece
use Rattle.page_parts.specs.Pieces.{piece_text}
use Rattle.crash_page.specs.declared.program.ProgramFailures.{ProgramFailures}
use Rattle.page_parts.specs.Shares.{legend_text}
use Rattle.page_parts.specs.Lacking.{advice_text}
use Rattle.page_parts.specs.Blocks.{most_cells}
use Rattle.page_parts.specs.Cuts.{unlisted_text}
use Rattle.page_parts.specs.Frame.{title_text, strip_text, most_of_program, about_text, list_text, head_text}
use Rattle.crash_page.specs.Groups.{cuts_text}

-- what fails at each wanted cut
abbrev pub counts_of : ProgramFailures → List CutCount
counts_of f = map image_count f.cuts.items

-- on that many images a program fails, at how many of these cuts
unfoldable pub bad_text : ℕ → List CutCount → List ℕ
bad_text failing cs = piece_text piece.BadOpen ++ decimal failing ++ piece_text piece.BadCuts ++ decimal (count_fails cs) ++ piece_text piece.Of

unfoldable pub judged_text : ℕ → List CutCount → List ℕ
judged_text failing cs = (if failing == 0 then piece_text piece.GoodOpen else bad_text failing cs) ++ decimal (length cs) ++ piece_text piece.GoodClose

-- what a program comes to; without a wanted cut nothing was judged
abbrev pub verdict_text : ℕ → List CutCount → List ℕ
verdict_text failing cs = if length cs == 0 then piece_text piece.NoCuts else judged_text failing cs

-- what it comes to, and what flushes would do
unfoldable pub summary_text : ℕ → ProgramFailures → List ℕ
summary_text program f = title_text program f.judge ++ verdict_text f.failing (counts_of f) ++ advice_text kind.Images program f.missing.items f.uncured

-- what it ends in on each image on which it fails
abbrev pub outcomes_of : ProgramFailures → List (List ℕ)
outcomes_of f = map (λ o. o.now) f.outcomes.items

-- the first cuts at which it fails, and how many more there are
unfoldable pub shown_cuts : StartsValue → ℕ → ProgramFailures → List ℕ
shown_cuts s program f =
    cuts_text s (outcomes_of f) program most_cells (most_of_program s.plan.log.entries) f.cuts.items
    ++ unlisted_text kind.Images program (count_fails (counts_of f) - most_cells)

-- a program: what it comes to, the log with its cuts, and what is said of the cuts at which it fails
unfoldable pub program_text : StartsValue → ℕ → ProgramFailures → List ℕ
program_text s program f =
    summary_text program f ++ strip_text kind.Images s.plan.log.entries program f.missing.items (counts_of f) ++ legend_text kind.Images ++ shown_cuts s program f
    ++ piece_text piece.SectionClose

-- programs, of which the first has that number
abbrev pub programs_text : StartsValue → ℕ → List ProgramFailures → List ℕ
programs_text s program [] = []
programs_text s program (f ∷ fs) = program_text s program f ++ programs_text s (program + 1) fs

-- the page, with a text about the run at its head
unfoldable pub page_text : List ℕ → StartsValue → List ProgramFailures → List ℕ
page_text about s fs = head_text kind.Images s.plan.log ++ about_text about ++ programs_text s 0 fs ++ list_text s.plan.log.entries ++ piece_text piece.Closing

-- what fails at a cut is of the images of a run, of which that many fail
pub record IsOfRun (s : StartsValue) (lines : ℕ) (c : CutFailures) : Type 0 where
  pub cut : c.cut ≤ length s.plan.log.entries
  pub groups : All (IsNumbered s lines) c.groups.items

abbrev pub AreOfRun : StartsValue → ProgramFailures → Type 0
AreOfRun s f = All (IsOfRun s (length f.outcomes.items)) f.cuts.items
