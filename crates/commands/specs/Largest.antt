-- How large a report may get (docs/REFUSALS.md, Notes).
use Rattle.std.specs.Prelude.{ℕ, ◌*◌, ◌≤◌, Bool, List, length}
use Rattle.std.specs.List.{flat_map}
use Rattle.report.specs.LineText.{line_text}
use Rattle.workers.specs.Failing.{judged_count, failing_lines}
use Rattle.request.specs.declared.settings.Settings.{Settings}
use Rattle.request.specs.Source.{Recording}
use Rattle.runs.specs.Explore.{subject_of}
use Rattle.commands.specs.Parts.{IsAnswer}

-- the most bytes of a failing line
abbrev pub longest_line : ℕ
longest_line = 528

-- the most bytes of the failing lines of that many images, of that many programs
abbrev pub most_bytes : ℕ → ℕ → ℕ
most_bytes images programs = images * programs * longest_line

-- the failing lines of a report have no more, of the images that are judged and of its programs
abbrev pub ReportsAreBounded : Type 0
ReportsAreBounded = (text : Recording) (files : List (List ℕ)) (s : Settings) (bytes : List ℕ) (failing : Bool) (a : IsAnswer text files s bytes failing)
    → length (flat_map line_text (failing_lines (subject_of s a.report.value a.report.checkers)))
    ≤ most_bytes (judged_count (subject_of s a.report.value a.report.checkers)) (length files)
