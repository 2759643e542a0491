-- A record: how a program ended on the image of a cut and a choice, and at which sectors it looked.
use Rattle.std.specs.Prelude.{ℕ, ◌≡◌, ◌<◌, ◌≤◌, ◌^◌, List, ◌++◌, codes, length, map, true}
use Rattle.std.specs.Fmt.{decimal}
use Rattle.logfmt.specs.Bounds.{LogValue}
use Rattle.epochs.specs.declared.part.By.{By}
use Rattle.epochs.specs.declared.part.Part.{Part}
use Rattle.epochs.specs.Units.{marks_at}
use Rattle.choices.specs.declared.choice.Departure.{Departure}
use Rattle.cases.specs.AtCut.{CutValue, parts_of}
use Rattle.lost_text.specs.Lost.{set_of}
use Rattle.lost_text.specs.Said.{IsSaid}
use Rattle.known.specs.declared.run.RunEnd.{RunEnd}
use Rattle.known.specs.declared.run.RunEnd.TheVariants.{Answer, Signal, OutOfTime}
use Rattle.known.specs.declared.run.KnownRun.{KnownRun}
use Rattle.known_text.specs.Ranges.{IsLooked}

abbrev pub cut_at : LogValue → By → ℕ → CutValue
cut_at log way cut = record { log = log; way = way; cut = cut }

-- how a program may end
abbrev pub IsEnd : RunEnd → Type 0
IsEnd (Answer answer) = answer < 2 ^ 8
IsEnd (Signal signal) = (1 ≤ signal) × (signal < 128)
IsEnd OutOfTime = Unit {0}

abbrev pub end_text : RunEnd → List ℕ
end_text (Answer answer) = codes "answer " ++ decimal answer
end_text (Signal signal) = codes "signal " ++ decimal signal
end_text OutOfTime = codes "out of time"

-- the words of a line: of its choice and of its sectors they are taken as they stand
pub record RanWords : Type 0 where
  pub cut : ℕ
  pub choice : List ℕ
  pub marks : ℕ
  pub end : RunEnd
  pub looked : List ℕ

unfoldable pub ran_text : RanWords → List ℕ
ran_text w =
    codes "ran cut " ++ decimal w.cut ++ codes " choice " ++ w.choice ++ codes " marks " ++ decimal w.marks ++ codes " " ++ end_text w.end ++ codes " looked " ++ w.looked

-- what a record says
pub record RanValue : Type 0 where
  pub cut : ℕ
  pub sets : List ℕ
  pub marks : ℕ
  pub end : RunEnd
  pub looked : List ℕ

abbrev pub ran_of : KnownRun → RanValue
ran_of r = record { cut = r.cut; sets = r.sets.items; marks = r.marks; end = r.end; looked = r.looked.items }

-- The line, without its newline, is that of a record of the log: of one of its cuts, and a choice there without added flushes, which gives any
-- number of the parts at risk a fate other than whole. Of each part it has the set of the one fate that becomes of it.
pub record IsRan (log : LogValue) (way : By) (line : List ℕ) (r : RanValue) : Type 0 where
  pub choice : List ℕ
  pub looked : List ℕ
  pub is : line ≡ ran_text (record { cut = r.cut; choice = choice; marks = r.marks; end = r.end; looked = looked })
  pub within : r.cut ≤ length log.entries
  pub lost : List Departure
  pub said : IsSaid (cut_at log way r.cut) true choice lost
  pub sets : r.sets ≡ map (λ (p : Part). set_of (said.choice p)) (parts_of (cut_at log way r.cut))
  pub marks : r.marks ≡ marks_at log.entries r.cut
  pub ending : IsEnd r.end
  pub sectors : IsLooked log.sectors looked r.looked

pub record NoRan (log : LogValue) (way : By) (line : List ℕ) : Type 0 where
  pub none : (r : RanValue) → IsRan log way line r → ⊥

-- it is that of this record, and of no other
pub record IsRanOnly (log : LogValue) (way : By) (line : List ℕ) (r : RanValue) : Type 0 where
  pub is : IsRan log way line r
  pub only : (other : RanValue) → IsRan log way line other → other ≡ r
