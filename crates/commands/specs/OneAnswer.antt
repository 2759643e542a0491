-- Each command has one answer, whatever does the work.
use Rattle.std.specs.Prelude.{ℕ, ◌≡◌, List}
use Rattle.base.specs.declared.refusal.Refusal.{Refusal}
use Rattle.command_line.specs.Words.{WordsValue}
use Rattle.request.specs.declared.command.OptionWords.{OptionWords}
use Rattle.request.specs.declared.command.Request.{Request}
use Rattle.request.specs.declared.command.Request.TheVariants as request
use Rattle.commands.specs.Acting.{Files, Answers, RefusesToAct}
use Rattle.commands.specs.Laws.{IsOfMemory}

-- two answers to a request, on what its files hold, have the same bytes and the same status
abbrev pub OneAnswer : Type 0
OneAnswer = (r : Request) (files : Files) (bytes others : List ℕ) (status ended : ℕ)
    → Answers r files bytes status → Answers r files others ended → (bytes ≡ others) × (status ≡ ended)

-- where a request has an answer, it is refused for want of memory alone
abbrev pub AnswerOrRefusal : Type 0
AnswerOrRefusal = (r : Request) (files : Files) (bytes : List ℕ) (status : ℕ) (refusal : Refusal)
    → Answers r files bytes status → RefusesToAct r files refusal → IsOfMemory refusal.code

-- the same options for one worker without a cache
abbrev pub alone : OptionWords → OptionWords
alone w = record w { settings = record w.settings { workers = 1; cache = 0 } }

-- the same request for one worker without a cache; by records no worker is asked
abbrev pub asked_alone : Request → Request
asked_alone request.StoredRun = request.StoredRun
asked_alone (request.Explore w) = request.Explore (alone w)
asked_alone (request.Marked w) = request.Marked (alone w)
asked_alone (request.Cases w l) = request.Cases (alone w) l
asked_alone (request.Why w) = request.Why (alone w)
asked_alone (request.Cure w) = request.Cure (alone w)
asked_alone (request.CureCases w l) = request.CureCases (alone w) l
asked_alone (request.Page w) = request.Page (alone w)
asked_alone (request.Retold w t) = request.Retold (alone w) t
asked_alone (request.Known w k) = request.Known w k
asked_alone (request.Images w parts) = request.Images (alone w) parts
asked_alone (request.Cuts w l parts) = request.Cuts (alone w) l parts
asked_alone (request.Export w) = request.Export (alone w)
asked_alone (request.Log w) = request.Log (alone w)
asked_alone (request.Image w which) = request.Image (alone w) which
asked_alone (request.Show w which) = request.Show (alone w) which
asked_alone (request.AnyImage w cut in_words) = request.AnyImage (alone w) cut in_words
asked_alone (request.Verify w listed) = request.Verify (alone w) listed
asked_alone (request.Import limits) = request.Import limits
asked_alone (request.Check w) = request.Check w
asked_alone request.Asm = request.Asm
asked_alone (request.List numbered) = request.List numbered
asked_alone (request.Join part) = request.Join part

-- two command lines that ask for the same but for the number of workers, the size of the cache and the line of progress
-- have the same answer
abbrev pub WorkChangesNothing : Type 0
WorkChangesNothing = (v w : WordsValue) (files : Files) (bytes others : List ℕ) (status ended : ℕ) → asked_alone v.request ≡ asked_alone w.request
    → Answers v.request files bytes status → Answers w.request files others ended → (bytes ≡ others) × (status ≡ ended)
