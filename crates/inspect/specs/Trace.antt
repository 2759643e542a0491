-- The steps of a run in words (docs/OUTPUT.md, The text of `check`).
use Rattle.std.specs.Prelude.{ℕ, zero, suc, ◌+◌, ◌-◌, ◌*◌, ◌/◌, ◌%◌, ◌==◌, nat_lt, Bool, true, false, if◌then◌else◌, ℤ, List, [], ◌++◌, map, codes, Option, None, Some, slice_index_or}
use Rattle.std.specs.List.{flat_map, range_with_len}
use Rattle.std.specs.Option.{option_map_or, option_and_then}
use Rattle.std.specs.Int.{cast_unsigned, w32}
use Rattle.std.specs.Fmt.{decimal}
use Rattle.base.specs.Sizes.{sector_limit}
use Rattle.base.specs.declared.limits.Limits.{Limits}
use Rattle.bpf_isa.specs.declared.instr.Instr.{Instr}
use Rattle.bpf_isa.specs.declared.instr.Instr.TheVariants as instr
use Rattle.bpf_isa.specs.Slots.{at}
use Rattle.bpf_asm.specs.Listing.{line_text}
use Rattle.helpers.specs.declared.helper.Helper.{Helper}
use Rattle.helpers.specs.declared.helper.Helper.TheVariants as helper
use Rattle.helpers.specs.declared.sums.Checksum.{Checksum}
use Rattle.helpers.specs.declared.sums.Checksum.TheVariants as of
use Rattle.helpers.specs.Helper.{helper_of}
use Rattle.helpers.specs.Sums.{checksum_of, taken}
use Rattle.helpers.specs.Answers.{sector_start}
use Rattle.machine.specs.State.{State, register, word, context_start, stack_start}
use Rattle.machine.specs.Memory.{byte_count, plain_size}
use Rattle.machine.specs.Step.{Stepped, Next, Done, Fault, address}
use Rattle.machine.specs.Guards.{Made}
use Rattle.machine.specs.Outcome.{Ending, Verdict, Stopped, Stray}
use Rattle.notes.specs.SourceLines.{LineOfC, source_text}
use Rattle.interp.specs.Walks.{step_as}
use Rattle.interp.specs.declared.walk.Halt.{Halt}
use Rattle.interp.specs.declared.walk.Halt.TheVariants as halt
use Rattle.inspect.specs.declared.trial.trace.Touch.{Touch}

-- what follows a step that led to a next state with a memory, or else this, as where it strayed
abbrev pub after_step : {X : Type 0} → X → (State → X) → Stepped → X
after_step end rest (Next s) = rest s
after_step end rest (Done _ _) = end
after_step end rest (Fault _ _) = end

abbrev pub beyond : {X : Type 0} → X → (List ℕ → State → X) → Option Made → X
beyond end rest None = end
beyond end rest (Some made) = after_step end (rest made.memory) made.stepped

-- what a run came to that a step ended so, where these codes were reported
abbrev pub ending_of_halt : List ℕ → Halt → Ending
ending_of_halt numbers (halt.Verdict answer) = Verdict answer numbers
ending_of_halt numbers (halt.Fault cause slot) = Stopped cause slot
ending_of_halt numbers (halt.Stray slot) = Stray slot

-- how many of at most n steps from a state on are made, with guards or without; one that ends the run is made too
unfoldable pub steps_made : Bool → List (Option Instr) → List ℕ → List (List ℕ) → ℕ → List ℕ → State → ℕ
steps_made guards program context device zero m s = 0
steps_made guards program context device (suc n) m s = beyond 0 (steps_made guards program context device n) (step_as guards program context device m s) + 1

-- memory stands in blocks that begin 1,024 addresses apart: the block of an address, and the place in it
abbrev pub place_text : ℕ → List ℕ
place_text distance = decimal (distance / 1024) ++ codes "+" ++ decimal (distance % 1024)

-- the end of the addresses of the sectors of a largest device within these limits
abbrev pub sector_end : Limits → ℕ
sector_end limits = sector_start + 1024 * sector_limit limits

-- a word: what lies in the addresses of the context, of the stacks or of the sectors of a largest device within these limits is
-- written so, and any other as a number
unfoldable pub word_text : Limits → ℕ → List ℕ
word_text limits n =
    if nat_lt n context_start then decimal n
    else if nat_lt n stack_start then codes "context+" ++ decimal (n - context_start)
    else if nat_lt n sector_start then codes "stack " ++ place_text (n - stack_start)
    else if nat_lt n (sector_end limits) then codes "sector " ++ place_text (n - sector_start)
    else decimal n

-- what a register holds
abbrev pub held_text : Limits → Option ℕ → List ℕ
held_text limits None = codes "unset"
held_text limits (Some n) = word_text limits n

abbrev pub is_same : Option ℕ → Option ℕ → Bool
is_same None None = true
is_same None (Some _) = false
is_same (Some _) None = false
is_same (Some m) (Some n) = m == n

-- a register that held one thing before a step and another after it
abbrev pub change_text : Limits → ℕ → Option ℕ → Option ℕ → List ℕ
change_text limits number before now = if is_same before now then [] else codes "; r" ++ decimal number ++ codes " " ++ held_text limits now

-- what the eleven registers hold
unfoldable pub registers_of : State → List (Option ℕ)
registers_of s = map (register s) (range_with_len 0 11)

-- the registers that a step changed, by what they all held before and after it
unfoldable pub changes_text : Limits → List (Option ℕ) → List (Option ℕ) → List ℕ
changes_text limits before now = flat_map (λ r. change_text limits r (slice_index_or before r None) (slice_index_or now r None)) (range_with_len 0 11)

-- the place that an instruction reads or writes, and by which register: that of a load, a store, a copy or a checksum of memory
abbrev pub touch_at : State → ℕ → ℤ → ℕ → Touch
touch_at s base distance count = record { register = base; address = address s base distance; count = count }

-- where the second argument of a call points
abbrev pub pointed_at : State → ℕ → Touch
pointed_at s count = record { register = 2; address = word s 2; count = count }

abbrev pub helper_touches : State → Helper → Option Touch
helper_touches s helper.Copy = Some (pointed_at s (word s 3))
helper_touches s _ = None

abbrev pub sum_touches : State → Checksum → Option Touch
sum_touches s (of.OfDevice p) = None
sum_touches s (of.OfMemory p) = Some (pointed_at s (taken (word s 3)))

abbrev pub call_touches : State → ℕ → Option Touch
call_touches s number = option_map_or (sum_touches s) (checksum_of number) (option_and_then (helper_touches s) (helper_of number))

abbrev pub touches : State → Instr → Option Touch
touches s (instr.Load size dst base distance) = Some (touch_at s base distance (byte_count size))
touches s (instr.LoadSigned size dst base distance) = Some (touch_at s base distance (byte_count (plain_size size)))
touches s (instr.StoreImmediate size base distance n) = Some (touch_at s base distance (byte_count size))
touches s (instr.Store size base distance src) = Some (touch_at s base distance (byte_count size))
touches s (instr.CallHelper number) = call_touches s (cast_unsigned w32 number)
touches s _ = None

unfoldable pub touch_here : List (Option Instr) → State → Option Touch
touch_here program s = option_and_then (touches s) (at program s.slot)

-- where a step strays: by which register, at which place, and how many bytes would have been read or written
unfoldable pub strayed_by : ℕ → List ℕ
strayed_by register = codes "; stray by r" ++ decimal register ++ codes " at "

unfoldable pub strayed_bytes : ℕ → List ℕ
strayed_bytes count = codes " bytes " ++ decimal count

abbrev pub touch_text : Limits → Touch → List ℕ
touch_text limits t = strayed_by t.register ++ word_text limits t.address ++ strayed_bytes t.count

abbrev pub stray_text : Limits → Option Touch → List ℕ
stray_text limits None = []
stray_text limits (Some t) = touch_text limits t

-- what is said of a step, before which these were in the registers and this was the place: the registers that it changed, or that it
-- strayed there
abbrev pub changed_text : Limits → List (Option ℕ) → Stepped → List ℕ
changed_text limits before (Next t) = changes_text limits before (registers_of t)
changed_text limits before (Done _ _) = []
changed_text limits before (Fault _ _) = []

abbrev pub came_text : Limits → List (Option ℕ) → Option Touch → Option Made → List ℕ
came_text limits before touch None = stray_text limits touch
came_text limits before touch (Some made) = changed_text limits before made.stepped

-- with what the line of a step begins: its number, its slot and the instruction there
unfoldable pub begin_text : List (Option Instr) → ℕ → State → List ℕ
begin_text program number s = codes "step " ++ decimal number ++ codes " slot " ++ decimal s.slot ++ codes " " ++ option_map_or line_text (at program s.slot) []

-- with what it ends: the place in C of its slot
unfoldable pub line_end : List LineOfC → ℕ → List ℕ
line_end table slot = source_text table slot ++ codes "\n"

-- the line of a step, with what is said of it between
unfoldable pub step_text : Limits → List LineOfC → List (Option Instr) → ℕ → State → Option Made → List ℕ
step_text limits table program number s x = begin_text program number s ++ came_text limits (registers_of s) (touch_here program s) x ++ line_end table s.slot

-- of at most n steps from a state on, the first of this number, the lines of those whose numbers are above another
unfoldable pub trace_text : Limits → List LineOfC → Bool → List (Option Instr) → List ℕ → List (List ℕ) → ℕ → ℕ → ℕ → List ℕ → State → List ℕ
trace_text limits table guards program context device zero number above m s = []
trace_text limits table guards program context device (suc n) number above m s =
    (if nat_lt above number then step_text limits table program number s (step_as guards program context device m s) else [])
    ++ beyond [] (trace_text limits table guards program context device n (number + 1) above) (step_as guards program context device m s)
