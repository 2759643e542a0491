-- What is known for the notes beside an answer (docs/REFUSALS.md, Notes): what no run reaches of each program, whether a program passes
-- without looking at what the log writes, and how many cases were left out.
use Rattle.std.specs.Prelude.{ℕ, ◌≡◌, Bool, true, false, List, [], ◌∷◌, map, Option, None, Some}
use Rattle.verifier.specs.declared.unreached.Unreached.{Unreached}
use Rattle.request.specs.declared.settings.Settings.{Settings}
use Rattle.request.specs.declared.settings.Telling.TheVariants as telling
use Rattle.request.specs.declared.any_losses.LossWords.{LossWords}
use Rattle.request.specs.AnyLosses.{losses_asked}
use Rattle.request.specs.declared.command.OptionWords.{OptionWords}
use Rattle.request.specs.declared.command.Request.{Request}
use Rattle.request.specs.declared.command.Request.TheVariants as request
use Rattle.request.specs.OptionWords.{AskFor}
use Rattle.request.specs.declared.trials.Trial.{Trial}
use Rattle.request.specs.declared.trials.TrialWords.{TrialWords}
use Rattle.request.specs.Trials.{AskForTrial}
use Rattle.request.specs.Source.{Recording}
use Rattle.request.specs.Found.{IsEmpty}
use Rattle.request.specs.declared.facts.of_run.RunFacts.{RunFacts}
use Rattle.runs.specs.declared.explore_command.WantedAnswer.{WantedAnswer}
use Rattle.runs.specs.declared.explore_command.WantedAnswer.TheVariants as wanted
use Rattle.runs.specs.Blind.{FindsBlind}
use Rattle.runs.specs.Cases.{FindsLeft}
use Rattle.runs.specs.Finds.{FindsUnreached}
use Rattle.inspect.specs.Verifying.{FindsUnreached as IsUnreachedOf}
use Rattle.inspect.specs.TrialText.{TellsUnreached}
use Rattle.commands.specs.Stored.{stored_log, stored_programs, stored_settings}
use Rattle.commands.specs.Acting.{Files, first_held, second_held, initial_of, recording, status_of, wanted_by}

-- of a run, with its status
pub record KnowsRun (t : WantedAnswer) (s : Settings) (log : Recording) (programs : List (List ℕ)) (status : ℕ) (facts : RunFacts) : Type 0 where
  pub failing : Bool
  pub ends : status ≡ status_of failing
  pub unreached : FindsUnreached programs s facts.unreached.items
  pub blind : FindsBlind t log programs s facts.blind.items
  pub left : FindsLeft t log programs s failing facts.left_out

-- the same of a run over the command's files, the log first
pub record KnowsFiles (t : WantedAnswer) (s : Settings) (files : Files) (status : ℕ) (facts : RunFacts) : Type 0 where
  pub log : List ℕ
  pub programs : List (List ℕ)
  pub initial : List ℕ
  pub read : files.named ≡ map Some (log ∷ programs)
  pub based : initial_of files.base ≡ Some initial
  pub knows : KnowsRun t s (recording log initial) programs status facts

-- the same of the settings that the words ask for
pub record KnowsExplored (t : WantedAnswer) (w : OptionWords) (files : Files) (status : ℕ) (facts : RunFacts) : Type 0 where
  pub settings : Settings
  pub asked : AskFor w settings
  pub knows : KnowsFiles t settings files status facts

-- the same of what the words ask of any number of losses
pub record KnowsCases (cured : Bool) (w : OptionWords) (l : LossWords) (files : Files) (status : ℕ) (facts : RunFacts) : Type 0 where
  pub settings : Settings
  pub asked : AskFor w settings
  pub knows : KnowsFiles (wanted_by cured (losses_asked l settings)) settings files status facts

-- of one program, what no run reaches of it and nothing else
pub record KnowsOne (Is : Option Unreached → Type 0) (facts : RunFacts) : Type 0 where
  pub found : Option Unreached
  pub is : Is found
  pub unreached : facts.unreached.items ≡ found ∷ []
  pub blind : facts.blind.items ≡ []
  pub left : facts.left_out ≡ None

-- of a program that the verifier accepts
pub record KnowsVerified (w : OptionWords) (files : Files) (facts : RunFacts) : Type 0 where
  pub settings : Settings
  pub asked : AskFor w settings
  pub program : List ℕ
  pub read : first_held files ≡ Some program
  pub knows : KnowsOne (IsUnreachedOf program settings.sectors) facts

-- of a program that is run on one image
pub record KnowsTried (w : TrialWords) (files : Files) (facts : RunFacts) : Type 0 where
  pub trial : Trial
  pub asked : AskForTrial w trial
  pub program : List ℕ
  pub image : List ℕ
  pub read : first_held files ≡ Some program
  pub shown : second_held files ≡ Some image
  pub knows : KnowsOne (TellsUnreached program image trial) facts

-- of what a command asks for, with its status: of a command that runs no program nothing
abbrev pub Knows : Request → Files → ℕ → RunFacts → Type 0
Knows request.StoredRun files status facts = KnowsRun (wanted.Told telling.Report) stored_settings (recording stored_log []) stored_programs status facts
Knows (request.Explore w) files status facts = KnowsExplored (wanted.Told telling.Report) w files status facts
Knows (request.Marked w) files status facts = KnowsExplored (wanted.Told telling.Report) w files status facts
Knows (request.Cases w l) files status facts = KnowsCases false w l files status facts
Knows (request.Why w) files status facts = KnowsExplored (wanted.Told telling.Causes) w files status facts
Knows (request.Cure w) files status facts = KnowsExplored wanted.Cured w files status facts
Knows (request.CureCases w l) files status facts = KnowsCases true w l files status facts
Knows (request.Page w) files status facts = KnowsExplored (wanted.Told telling.Page) w files status facts
Knows (request.Retold w t) files status facts = IsEmpty facts
Knows (request.Known w k) files status facts = facts.unreached.items ≡ []
Knows (request.Images w parts) files status facts = IsEmpty facts
Knows (request.Cuts w l parts) files status facts = IsEmpty facts
Knows (request.Export w) files status facts = IsEmpty facts
Knows (request.Log w) files status facts = IsEmpty facts
Knows (request.Image w which) files status facts = IsEmpty facts
Knows (request.Show w which) files status facts = IsEmpty facts
Knows (request.AnyImage w cut in_words) files status facts = IsEmpty facts
Knows (request.Verify w listed) files status facts = KnowsVerified w files facts
Knows (request.Import limits) files status facts = IsEmpty facts
Knows (request.Check w) files status facts = KnowsTried w files facts
Knows request.Asm files status facts = IsEmpty facts
Knows (request.List numbered) files status facts = IsEmpty facts
Knows (request.Join part) files status facts = IsEmpty facts
