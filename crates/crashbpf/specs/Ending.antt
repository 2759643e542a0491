-- How the process ends (docs/COMMANDS.md, Exit status).
use Rattle.std.specs.Prelude.{ℕ, ◌≡◌, ◌⊎◌, ◌<◌, ◌++◌, Bool, true, if◌then◌else◌, List, [], codes, length, take, Option}
use Rattle.std.specs.Io.KnownBytes.{Appends, Keeps}
use Rattle.base.specs.declared.refusal.Refusal.{Refusal}
use Rattle.base.specs.Refusals.{memory_refusal}
use Rattle.export.specs.declared.stream.StreamFault.{StreamFault}
use Rattle.export.specs.declared.stream.StreamFault.TheVariants as fault
use Rattle.export.specs.Streaming.{TakesPart}
use Rattle.request.specs.declared.command.Request.{Request}
use Rattle.request.specs.declared.command.Request.TheVariants as request
use Rattle.request.specs.FaultLine.{fault_text}
use Rattle.inspect.specs.declared.looks.export_command.Stopped.{Stopped}
use Rattle.inspect.specs.declared.looks.export_command.Stopped.TheVariants as stopped
use Rattle.commands.specs.Acting.{Files, Answers, RefusesToAct}
use Rattle.command_line.specs.Words.{WordsValue, sized_by}
use Rattle.input_files.specs.Reads.{InputsValue}
use Rattle.input_files.specs.Sized.{base_sectors}
use Rattle.input_files.specs.Standing.{refusal_of_files}

-- what the files of a command hold, as they were read, beside the text after --choice
abbrev pub held_in : InputsValue → List ℕ → Files
held_in inputs choice = record { named = inputs.files; base = inputs.base; choice = choice }

-- the name by which the files of a command are read: `report` where one, or records, stand in place of programs
abbrev pub files_name : Request → List ℕ → List ℕ
files_name (request.Retold w t) command = codes "report"
files_name (request.Known w k) command = codes "report"
files_name r command = command

-- what the words ask for beside what was read: with `--sectors base` a run on a device of as many sectors as the file after --base has
abbrev pub meant : WordsValue → InputsValue → WordsValue
meant words inputs = sized_by words (base_sectors inputs.base)

-- What a stream took of a text, by what it has before and after, where that is known, and whether a write to it failed: all of it; or,
-- where one failed, the first bytes alone.
abbrev pub Takes : Option (List ℕ) → Option (List ℕ) → Bool → List ℕ → Type 0
Takes before after failed text = Appends before after text ⊎ ((failed ≡ true) × TakesPart before after text)

-- standard error took a line, and then some notes; where it takes no more, the first bytes of both
abbrev pub SaysFirst : (List ℕ → Type 0) → List ℕ → Type 0
SaysFirst Took line = (notes : List ℕ) × Took (line ++ notes)

-- why standard output takes no more, by whether it is a pipe that nobody reads any more
abbrev pub fault_of : Bool → StreamFault
fault_of is_unread = if is_unread then fault.Unread else fault.Unwritten

-- the line of an answer that is cut off: that of the refusal for want of memory; that it can't be written; or none, where nobody reads it
abbrev pub cut_line : StreamFault → List ℕ
cut_line fault.Memory = fault_text memory_refusal
cut_line fault.Unwritten = codes "crashbpf: standard output can't be written\n"
cut_line fault.Unread = []

-- of an answer that isn't written, or not whole, on files of these lengths: the line of its refusal, first; or that of the cut
abbrev pub SaysStopped : List ℕ → (List ℕ → Type 0) → Stopped → Type 0
SaysStopped lengths Took (stopped.Refused r) = SaysFirst Took (fault_text (refusal_of_files lengths r))
SaysStopped lengths Took (stopped.Cut f) = Took (cut_line f)

-- By what is asked and what was read, what standard output has before and after, where that is known, what standard error took, and the
-- status: an answer that was written whole, with its status; an answer of which the first bytes alone were written, with the line that
-- says why; or a refusal with its line, of the place in the whole file, and nothing on standard output. Both have status 2.
pub data Ends (words : WordsValue) (inputs : InputsValue) (before after : Option (List ℕ)) (Took : List ℕ → Type 0) : ℕ → Type 0 where
  answered : (answer : List ℕ) (status : ℕ) → Answers words.request (held_in inputs words.choice) answer status → Appends before after answer
      → Ends words inputs before after Took status
  unwritten : (answer : List ℕ) (status n : ℕ) (why : StreamFault) → Answers words.request (held_in inputs words.choice) answer status → n < length answer
      → Appends before after (take n answer) → Took (cut_line why) → Ends words inputs before after Took 2
  refused : (refusal : Refusal) → RefusesToAct words.request (held_in inputs words.choice) refusal → Keeps before after
      → SaysFirst Took (fault_text (refusal_of_files inputs.lengths refusal)) → Ends words inputs before after Took 2

-- it ended so on what was read of the files; or reading them was refused, with the line of that, nothing on standard output and status 2
abbrev pub EndsOn : (InputsValue → Type 0) → WordsValue → Option (List ℕ) → Option (List ℕ) → (List ℕ → Type 0) → ℕ → Type 0
EndsOn AreRead words before after Took status =
    ((inputs : InputsValue) × AreRead inputs × Ends (meant words inputs) inputs before after Took status)
    ⊎ ((refusal : Refusal) × Keeps before after × SaysFirst Took (fault_text refusal) × (status ≡ 2))
