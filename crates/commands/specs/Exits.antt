-- How the process ends (docs/COMMANDS.md, Exit status).
use Rattle.std.specs.Prelude.{ℕ, ◌≡◌, List, [], Option, None, Some}
use Rattle.std.specs.Io.KnownBytes.{Appends, Keeps}
use Rattle.base.specs.declared.refusal.Refusal.{Refusal}
use Rattle.request.specs.declared.command.Request.{Request}
use Rattle.request.specs.Found.{IsEmpty}
use Rattle.request.specs.declared.facts.of_run.RunFacts.{RunFacts}
use Rattle.export.specs.Streaming.{TakesPart}
use Rattle.inspect.specs.declared.looks.export_command.Stopped.{Stopped}
use Rattle.inspect.specs.declared.looks.export_command.Stopped.TheVariants as stopped
use Rattle.commands.specs.Acting.{Files, Answers, RefusesToAct}
use Rattle.commands.specs.Knowing.{Knows}

-- What goes to standard output, the refusal that goes to standard error, and the status: an answer of the command and its
-- status, with no refusal; or a refusal of the command and status 2, with nothing on standard output.
abbrev pub Exits : Request → Files → List ℕ → Option Refusal → ℕ → Type 0
Exits request files output None status = Answers request files output status
Exits request files output (Some refusal) status = RefusesToAct request files refusal × (output ≡ []) × (status ≡ 2)

-- what is known for the notes: of a command that is refused nothing
abbrev pub Informs : Request → Files → Option Refusal → ℕ → RunFacts → Type 0
Informs request files None status facts = Knows request files status facts
Informs request files (Some refusal) status facts = IsEmpty facts

-- Of a command whose answer is written as it is made, by what standard output has before and after, where that is known: all of its
-- answer is written, whose status is 0; or the first bytes of it, and not all; or none, and it is refused.
pub record IsWritten (request : Request) (files : Files) (before after : Option (List ℕ)) : Type 0 where
  pub answer : List ℕ
  pub answers : Answers request files answer 0
  pub all : Appends before after answer

pub record IsCutOff (request : Request) (files : Files) (before after : Option (List ℕ)) : Type 0 where
  pub answer : List ℕ
  pub answers : Answers request files answer 0
  pub part : TakesPart before after answer

abbrev pub IsStopped : Request → Files → Option (List ℕ) → Option (List ℕ) → Stopped → Type 0
IsStopped request files before after (stopped.Refused r) = RefusesToAct request files r × Keeps before after
IsStopped request files before after (stopped.Cut fault) = IsCutOff request files before after
