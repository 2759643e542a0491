-- What one run of a program on one image comes to (docs/OUTPUT.md, The text of `check`).
use Rattle.std.specs.Prelude.{ℕ, ◌≡◌, ◌-◌, Bool, true, false, if◌then◌else◌, List, [], length, ◌++◌, codes, Option, None, Some, MatchOption}
use Rattle.std.specs.Fmt.{decimal}
use Rattle.base.specs.declared.causes.CodeCause.{CodeCause}
use Rattle.base.specs.declared.causes.CodeCause.TheVariants as code
use Rattle.base.specs.declared.causes.VerifierCause.{VerifierCause}
use Rattle.base.specs.declared.causes.VerifierCause.TheVariants as verifier
use Rattle.base.specs.declared.refusal.Refusal.{Refusal}
use Rattle.base.specs.declared.refusal.Cause.TheVariants.{Verifier}
use Rattle.base.specs.Refusals.{memory_refusal}
use Rattle.bpf_isa.specs.declared.instr.Instr.{Instr}
use Rattle.bpf_isa.specs.Program.{IsSpelledBy, FirstFault}
use Rattle.helpers.specs.declared.device.Context.{Context}
use Rattle.machine.specs.Memory.{context_bytes}
use Rattle.machine.specs.Outcome.{Ending, Verdict, Stopped, OutOfSteps, Stray, fails}
use Rattle.notes.specs.SourceLines.{LineOfC, AreLines, NoLines, source_text}
use Rattle.interp.specs.Walks.{memory_as, outcome_as, start_as}
use Rattle.verifier.specs.declared.unreached.Unreached.{Unreached}
use Rattle.verifier.specs.Guards.{guarded_slots}
use Rattle.verifier.specs.Verdicts.{VerifiedValue, IsVerified, RefusedWith}
use Rattle.report.specs.LineText.{ending_text}
use Rattle.request.specs.declared.trials.Trial.{Trial}
use Rattle.request.specs.Found.{IsUnreached}
use Rattle.request.specs.Refusals.{bytes_refusal, file_refusal}
use Rattle.inspect.specs.TrialImage.{sectors_of, is_image, device_of}
use Rattle.inspect.specs.Trace.{steps_made, trace_text}

-- the device that the bytes of an image are
abbrev pub disk_of : List ℕ → List (List ℕ)
disk_of image = device_of image (sectors_of image)

-- what the program is told of the image
abbrev pub context_of : List ℕ → Trial → Context
context_of image t = record { sectors = sectors_of image; epoch = t.epoch; marks = t.marks }

-- the most steps of a run, and with guards how many slots are guarded
pub record Bound : Type 0 where
  pub limit : ℕ
  pub guarded : Option ℕ

abbrev pub bound_of : VerifiedValue → Bound
bound_of v = record { limit = v.budget; guarded = if v.guards then Some (length (guarded_slots v.program v.table)) else None }

-- the verifier accepts the program so, with guards or without
pub record IsBoundBy (with_guards : Bool) (slots : List (Option Instr)) (sector_count : ℕ) (b : Bound) : Type 0 where
  pub verified : VerifiedValue
  pub accepted : IsVerified verified
  pub guards : verified.guards ≡ with_guards
  pub program : verified.program ≡ slots
  pub sectors : verified.sectors ≡ sector_count
  pub is : b ≡ bound_of verified

-- the limit where one is given, else the budget with which the verifier accepts the program
abbrev pub Allows : List (Option Instr) → List ℕ → Trial → Bound → Type 0
Allows slots image t b = MatchOption t.checked (IsBoundBy t.guards slots (sectors_of image) b) (λ most. b ≡ record { limit = most; guarded = None })

-- where no limit is given, what no run reaches of the program; else nothing is said of that
abbrev pub LeavesUnreached : List (Option Instr) → List ℕ → Trial → Option Unreached → Type 0
LeavesUnreached slots image t found = MatchOption t.checked (IsUnreached slots (sectors_of image) found) (λ most. found ≡ None)

-- that is found of the program that the bytes spell
pub record TellsUnreached (program image : List ℕ) (t : Trial) (found : Option Unreached) : Type 0 where
  pub slots : List (Option Instr)
  pub spelled : IsSpelledBy program slots
  pub unreached : LeavesUnreached slots image t found

-- what the run comes to within that many steps, with guards or without, and how many it makes
abbrev pub ending_of_trial : List (Option Instr) → List ℕ → Trial → ℕ → Ending
ending_of_trial slots image t limit = outcome_as t.guards slots (disk_of image) (context_of image t) limit

abbrev pub steps_of_trial : List (Option Instr) → List ℕ → Trial → ℕ → ℕ
steps_of_trial slots image t limit = steps_made t.guards slots (context_bytes (context_of image t)) (disk_of image) limit (memory_as t.guards) (start_as t.guards)

-- the line of what the program is told
unfoldable pub context_text : Context → List ℕ
context_text c = codes "sectors " ++ decimal c.sectors ++ codes " epoch " ++ decimal c.epoch ++ codes " marks " ++ decimal c.marks ++ codes "\n"

-- the line of the program: its number of slots, and its limit, or else its budget
abbrev pub bound_text : Option ℕ → List ℕ
bound_text (Some limit) = codes " limit "
bound_text None = codes " budget "

-- with guards the number of guarded slots stands there too
abbrev pub guarded_count_text : Option ℕ → List ℕ
guarded_count_text None = []
guarded_count_text (Some count) = codes " guards " ++ decimal count

unfoldable pub program_text : Option ℕ → ℕ → Bound → List ℕ
program_text checked slots b = codes "program slots " ++ decimal slots ++ bound_text checked ++ decimal b.limit ++ guarded_count_text b.guarded ++ codes "\n"

-- the lines before the steps
unfoldable pub head_text : Context → Option ℕ → ℕ → Bound → List ℕ
head_text context checked slots b = codes "crash check 1\n" ++ context_text context ++ program_text checked slots b

-- the lines of the last steps of a run that makes that many
abbrev pub last_steps : List (Option Instr) → List ℕ → List LineOfC → Trial → ℕ → List ℕ
last_steps slots image table t steps = trace_text t.limits table t.guards slots (context_bytes (context_of image t)) (disk_of image) steps 1 (steps - t.trace) (memory_as t.guards) (start_as t.guards)

-- the place in C of the slot at which a program ended, where what it ended in names one
abbrev pub ending_source : List LineOfC → Ending → List ℕ
ending_source table (Verdict answer numbers) = []
ending_source table (Stopped cause slot) = source_text table slot
ending_source table OutOfSteps = []
ending_source table (Stray slot) = source_text table slot

-- the lines after them: how many steps were made, and what the program ended in
unfoldable pub end_text : List LineOfC → ℕ → Ending → List ℕ
end_text table steps ending = codes "steps " ++ decimal steps ++ codes "\n" ++ ending_text ending ++ ending_source table ending ++ codes "\n"

-- what is said of a run of this program on this image, so bounded, with the places in C of the slots that this table has
unfoldable pub trial_text : List (Option Instr) → List ℕ → List LineOfC → Trial → Bound → List ℕ
trial_text slots image table t b =
    head_text (context_of image t) t.checked (length slots) b
    ++ last_steps slots image table t (steps_of_trial slots image t b.limit)
    ++ end_text table (steps_of_trial slots image t b.limit) (ending_of_trial slots image t b.limit)

-- what the bytes of a program, of an image and of the lines of C come to: the text, and whether the program rejects the image. No bytes
-- have no lines
pub record IsTried (program image lines : List ℕ) (t : Trial) (text : List ℕ) (failing : Bool) : Type 0 where
  pub whole : is_image t.limits image ≡ true
  pub table : List LineOfC
  pub lined : AreLines lines table
  pub slots : List (Option Instr)
  pub spelled : IsSpelledBy program slots
  pub bound : Bound
  pub allowed : Allows slots image t bound
  pub says : text ≡ trial_text slots image table t bound
  pub ends : failing ≡ fails (ending_of_trial slots image t bound.limit)

-- no limit is given, and the verifier refuses the program, or memory was wanting for it
pub data RefusesLimit (slots : List (Option Instr)) (image : List ℕ) (t : Trial) : Refusal → Type 0 where
  with_verifier_fault : (cause : VerifierCause) (slot : ℕ) → t.checked ≡ None → RefusedWith t.guards slots (sectors_of image) cause slot
      → RefusesLimit slots image t (record { code = Verifier cause; at = slot; program = None })
  no_verifier_memory : t.checked ≡ None → RefusesLimit slots image t (record { code = Verifier verifier.Memory; at = 0; program = None })
  no_count_memory : RefusesLimit slots image t memory_refusal

-- refused for the size of the image, the second file; of one of a good size where the third has no lines of C; where it has for the first
-- fault of the program's bytes; of a program that they spell for what the verifier says of it; or for want of memory
pub data RefusesTrial (program image lines : List ℕ) (t : Trial) : Refusal → Type 0 where
  for_size : is_image t.limits image ≡ false → RefusesTrial program image lines t (file_refusal 1)
  for_lines : is_image t.limits image ≡ true → NoLines lines → RefusesTrial program image lines t (file_refusal 2)
  with_code_fault : (table : List LineOfC) (cause : CodeCause) (slot : ℕ) → is_image t.limits image ≡ true → AreLines lines table → FirstFault program cause slot
      → RefusesTrial program image lines t (bytes_refusal cause slot)
  no_code_memory : is_image t.limits image ≡ true → RefusesTrial program image lines t (bytes_refusal code.Memory 0)
  for_limit : (table : List LineOfC) (slots : List (Option Instr)) (r : Refusal) → is_image t.limits image ≡ true → AreLines lines table → IsSpelledBy program slots
      → RefusesLimit slots image t r → RefusesTrial program image lines t r
  no_memory : is_image t.limits image ≡ true → RefusesTrial program image lines t memory_refusal
