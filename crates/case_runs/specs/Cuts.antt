-- Which cuts are explored (docs/CRASH-MODEL.md, Any number of losses).
use Rattle.std.specs.Prelude.{ℕ, ◌+◌, ◌-◌, ◌==◌, min, Bool, true, false, ◌||◌, ◌&&◌, if◌then◌else◌, List, length, filter, Option, is_none, unwrap_or}
use Rattle.std.specs.List.{range_with_len}
use Rattle.logfmt.specs.declared.entry.Entry.{Entry}
use Rattle.epochs.specs.declared.cuts.CutKind.{CutKind}
use Rattle.epochs.specs.declared.cuts.CutKind.TheVariants as kind
use Rattle.epochs.specs.declared.cuts.Cuts.{Cuts}
use Rattle.epochs.specs.Cuts.{cuts_of}
use Rattle.cases.specs.Risk.{is_last_cut}

-- the last cuts, and the end of the range
abbrev pub is_explored : List Entry → ℕ → ℕ → Bool
is_explored es to k = is_last_cut es k || (k == to)

-- those of a range, rising
abbrev pub explored_cuts : List Entry → ℕ → ℕ → List ℕ
explored_cuts es from to = filter (is_explored es to) (range_with_len from (to + 1 - from))

abbrev pub is_all : CutKind → Bool
is_all kind.All = true
is_all kind.BeforeFlush = false
is_all kind.AfterMark = false

-- the last cuts have the images of all: where all cuts are wanted, and any number of parts may be lost
abbrev pub are_last_enough : Option ℕ → Cuts → Bool
are_last_enough at_most cuts = is_all cuts.kind && is_none at_most

-- the first and the last cut that is wanted of a log of n entries
abbrev pub first_wanted : Cuts → ℕ → ℕ
first_wanted cuts n = min (unwrap_or cuts.from 0) n

abbrev pub last_wanted : Cuts → ℕ → ℕ
last_wanted cuts n = min (unwrap_or cuts.to n) n

-- the cuts at which cases are looked for: the last ones of the range and its end, where these are enough, and else each that is wanted
unfoldable pub case_cuts : Option ℕ → Cuts → List Entry → List ℕ
case_cuts at_most cuts es =
    if are_last_enough at_most cuts then explored_cuts es (first_wanted cuts (length es)) (last_wanted cuts (length es)) else cuts_of cuts es
