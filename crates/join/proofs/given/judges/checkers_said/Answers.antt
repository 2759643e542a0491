use Rattle.std.proofs.Common.{ℕ, List, ◌++◌, ◌∙◌, ap}
use Rattle.report.specs.Report.{program_lines}
use Rattle.join.proofs.Endings.{holds}
use Rattle.join.proofs.JudgesRead.{checkers_found, no_printed, are_of_run}
use Rattle.join.proofs.given.judges.checkers_said.Goals as goal

pub returns-in_default-clause-judges : goal.returns-in_default-clause-judges
returns-in_default-clause-judges c =
    no_printed c.args.text.now c.as_str.result.now c.in_ok-programs.programs.items c.requires.other c.in_ok-programs.ensures.read
    (c.as_str.ensures.value ∙ c.in_ok-put_programs.ensures ∙ ap (λ (bs : List ℕ). bs ++ program_lines 0 c.as_slice-2.result.now) c.new-printed.ensures.bytes ∙ ap (program_lines 0) c.as_slice-2.ensures.value) c.in_default.ensures

pub returns-clause-judges : goal.returns-clause-judges
returns-clause-judges c =
    checkers_found c.args.text.now c.as_str.result.now c.in-Some.rest.now c.in_ok-programs.programs.items c.requires.other c.in_ok-programs.ensures.read c.in_ok-programs.ensures.small
    (are_of_run c.as_slice.result.now c.in_ok-programs.programs.items c.as_slice.ensures.value (holds c.if-not-are_checkers.ensures))
    (c.as_str.ensures.value ∙ c.in_ok-put_programs.ensures ∙ ap (λ (bs : List ℕ). bs ++ program_lines 0 c.as_slice-2.result.now) c.new-printed.ensures.bytes ∙ ap (program_lines 0) c.as_slice-2.ensures.value) c.in-Some.ensures
