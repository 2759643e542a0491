-- What is said of failures and of rounds (the page of `cure`, The text). Each line ends with one newline; numbers are decimal.
use Rattle.std.specs.Prelude.{ℕ, ◌+◌, ◌==◌, Bool, ◌&&◌, is_none, List, [], ◌∷◌, ◌++◌, codes, length, filter, Option, slice_get}
use Rattle.std.specs.Fmt.{decimal}
use Rattle.std.specs.List.{flat_map, range_with_len, position}
use Rattle.std.specs.Option.{option_map_or, option_and_then}
use Rattle.losses.specs.declared.flushes.counted.MissingFlush.{MissingFlush}
use Rattle.report.specs.Line.{FailingLine}
use Rattle.report.specs.LineText.{line_text}
use Rattle.report.specs.Report.{HeadValue, options_text}
use Rattle.losses.specs.declared.cure.failure.Failure.{Failure}

-- a failure is of the program of that number
abbrev pub is_of : ℕ → Failure → Bool
is_of program f = f.program == program

-- and it has no window: no flush helps
abbrev pub is_uncured : ℕ → Failure → Bool
is_uncured program f = is_of program f && is_none f.window

-- on how many images a program fails, and on how many of these no flush helps
unfoldable pub program_line : List Failure → ℕ → List ℕ
program_line fs program =
    codes "program " ++ decimal program ++ codes " failing " ++ decimal (length (filter (is_of program) fs))
    ++ codes " uncured " ++ decimal (length (filter (is_uncured program) fs)) ++ codes "\n"

abbrev pub programs_text : ℕ → List Failure → List ℕ
programs_text programs fs = flat_map (program_line fs) (range_with_len 0 programs)

-- title, options and programs, and the failures of each program
unfoldable pub begin_text : HeadValue → List Failure → List ℕ
begin_text h fs = codes "crash cure 1\n" ++ options_text h ++ programs_text (length h.programs) fs

-- the number of the first failure without a window
abbrev pub uncured_at : List Failure → Option ℕ
uncured_at fs = position (λ (f : Failure). is_none f.window) fs

-- its line
abbrev pub uncured_text : List FailingLine → List Failure → List ℕ
uncured_text ls fs =
    option_map_or (λ (l : FailingLine). codes "no flush cures " ++ line_text l) (option_and_then (λ (n : ℕ). slice_get ls n) (uncured_at fs)) []

-- a flush that is missing: the entry that was picked, and the first one before which it may stand
unfoldable pub missing_place : MissingFlush → List ℕ
missing_place m = codes "flush before " ++ decimal m.at ++ codes " from " ++ decimal m.from

-- and how many failures are counted there
unfoldable pub missing_line : MissingFlush → List ℕ
missing_line m = missing_place m ++ codes " failing " ++ decimal m.failing ++ codes "\n"

-- of each program how many of its failing images no flush takes away, and then the flushes that are missing
unfoldable pub missing_text : ℕ → List Failure → List MissingFlush → List ℕ
missing_text programs fs ms = programs_text programs fs ++ flat_map missing_line ms

-- of a round
unfoldable pub flush_line : ℕ → MissingFlush → List ℕ
flush_line round m = codes "round " ++ decimal round ++ codes " " ++ missing_line m

-- the flushes of rounds, of which the first has that number
abbrev pub rounds_text : ℕ → List (List MissingFlush) → List ℕ
rounds_text round [] = []
rounds_text round (ms ∷ rounds) = flat_map (flush_line round) ms ++ rounds_text (round + 1) rounds

-- a run with too many images, by the cut with which their number passes the limit
unfoldable pub refused_line : ℕ → List ℕ
refused_line cut = codes "refused 12 at " ++ decimal cut ++ codes "\n"
