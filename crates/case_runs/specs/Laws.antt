-- Checkers as programs of cases (docs/CRASH-MODEL.md, Any number of losses).
use Rattle.std.specs.Prelude.{ℕ, Option}
use Rattle.logfmt.specs.Bounds.{LogValue}
use Rattle.epochs.specs.declared.part.By.{By}
use Rattle.helpers.specs.declared.device.Context.{Context}
use Rattle.machine.specs.Outcome.{Ending}
use Rattle.images.specs.Views.{context_at}
use Rattle.checker.specs.Checker.{CheckerValue, judgement}
use Rattle.cases.specs.Choices.{Choice, image_at}
use Rattle.cases.specs.Trees.{Subject}
use Rattle.cases.specs.Laws.{FootprintTellsEnding}
use Rattle.case_runs.specs.Judges.{program_of}

-- the footprint of a checker tells what it ends in
abbrev pub CheckersTell : Type 0
CheckersTell = (checker : CheckerValue) (context : Context) → FootprintTellsEnding (program_of checker context)

-- a cut and a checker, with what is asked: how many parts may be torn, and, if that is bounded, how many not whole
abbrev pub subject_at : LogValue → By → ℕ → CheckerValue → ℕ → Option ℕ → Subject
subject_at log way cut checker torn lost = record { log = log; way = way; cut = cut; program = program_of checker (context_at log cut); torn = torn; lost = lost }

-- what a checker ends in on the image of a choice at a cut
abbrev pub judged_at : LogValue → By → ℕ → CheckerValue → Choice → Ending
judged_at log way cut checker choice = judgement checker (image_at log way cut choice) (context_at log cut)
