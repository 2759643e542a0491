-- What holds of reports and refusals as a whole.
use Rattle.std.specs.Prelude.{ℕ, ◌≡◌, Bool, true, List}
use Rattle.base.specs.declared.causes.LogCause.TheVariants as log
use Rattle.base.specs.declared.causes.CodeCause.TheVariants as code
use Rattle.base.specs.declared.causes.AsmCause.TheVariants as asm
use Rattle.base.specs.declared.causes.VerifierCause.TheVariants as verifier
use Rattle.base.specs.declared.causes.JoinCause.TheVariants as joining
use Rattle.base.specs.declared.causes.WorkCause.TheVariants as work
use Rattle.base.specs.declared.refusal.Cause.{Cause}
use Rattle.base.specs.declared.refusal.Cause.TheVariants.{Log, Request, Code, Asm, Verifier, Join, Work}
use Rattle.base.specs.declared.refusal.Refusal.{Refusal}
use Rattle.request.specs.declared.settings.Settings.{Settings}
use Rattle.request.specs.Source.{Recording}
use Rattle.request.specs.declared.settings.Telling.TheVariants as telling
use Rattle.runs.specs.declared.explore_command.WantedAnswer.TheVariants as wanted
use Rattle.runs.specs.Explore.{IsReportOfRun, RefusesWanted}
use Rattle.runs.specs.Judged.{takes}

-- for given bytes and options there is at most one report, and it tells whether an image fails
abbrev pub OneReport : Type 0
OneReport = (text : Recording) (files : List (List ℕ)) (s : Settings) (bytes others : List ℕ) (failing fails : Bool)
    → IsReportOfRun text files s bytes failing → IsReportOfRun text files s others fails → (bytes ≡ others) × (failing ≡ fails)

-- the cause says that memory was wanting
abbrev pub IsOfMemory : Cause → Type 0
IsOfMemory (Log cause) = cause ≡ log.Memory
IsOfMemory (Request cause) = ⊥
IsOfMemory (Code cause) = cause ≡ code.Memory
IsOfMemory (Asm cause) = cause ≡ asm.Memory
IsOfMemory (Verifier cause) = cause ≡ verifier.Memory
IsOfMemory (Join cause) = cause ≡ joining.Memory
IsOfMemory (Work cause) = cause ≡ work.Memory

-- where there is a report, a run that judges the images that are meant is refused for want of memory alone
abbrev pub ReportOrRefusal : Type 0
ReportOrRefusal = (text : Recording) (files : List (List ℕ)) (s : Settings) (bytes : List ℕ) (failing : Bool) (r : Refusal)
    → takes (wanted.Told telling.Report) s.extent ≡ true → IsReportOfRun text files s bytes failing → RefusesWanted (wanted.Told telling.Report) text files s r → IsOfMemory r.code
