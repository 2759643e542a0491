-- How a program of the user's ends, in the words of the machine, and what stands where no record tells.
use Rattle.std.specs.Prelude.{◌==◌, Bool, true, false, [], ◌∷◌}
use Rattle.machine.specs.Outcome.{Ending, Verdict, Stopped, OutOfSteps, Stray}
use Rattle.known.specs.declared.run.RunEnd.{RunEnd}
use Rattle.known.specs.declared.run.RunEnd.TheVariants as end

-- An answer reports no codes. A signal stands as a stray, by its number.
abbrev pub ending_of : RunEnd → Ending
ending_of (end.Answer answer) = Verdict answer []
ending_of (end.Signal signal) = Stray signal
ending_of end.OutOfTime = OutOfSteps

-- no record tells how the program ends: a verdict with a code, in which no run of it ends
abbrev pub open_ending : Ending
open_ending = Verdict 1 (1 ∷ [])

abbrev pub is_open : Ending → Bool
is_open (Verdict answer []) = false
is_open (Verdict answer (code ∷ codes)) = true
is_open (Stopped cause slot) = false
is_open OutOfSteps = false
is_open (Stray slot) = false

-- two runs ended alike
abbrev pub same_end : RunEnd → RunEnd → Bool
same_end (end.Answer one) (end.Answer other) = one == other
same_end (end.Answer one) (end.Signal other) = false
same_end (end.Answer one) end.OutOfTime = false
same_end (end.Signal one) (end.Answer other) = false
same_end (end.Signal one) (end.Signal other) = one == other
same_end (end.Signal one) end.OutOfTime = false
same_end end.OutOfTime (end.Answer other) = false
same_end end.OutOfTime (end.Signal other) = false
same_end end.OutOfTime end.OutOfTime = true
