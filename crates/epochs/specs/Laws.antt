-- Laws of parts and cuts: which parts are volatile and which cuts are wanted, in which order they stand,
-- and how many bytes a unit has.
use Rattle.std.specs.Prelude.{ℕ, zero, suc, ◌+◌, ◌≡◌, ◌<◌, ◌≤◌, ◌⊎◌, true, false, if◌then◌else◌, List, length, drop, slice_get, Some, IfSome}
use Rattle.logfmt.specs.declared.entry.Entry.{Entry}
use Rattle.logfmt.specs.Bounds.{LogValue, IsLog}
use Rattle.epochs.specs.declared.unit.Unit.{Unit as LogUnit}
use Rattle.epochs.specs.declared.part.Part.{Part}
use Rattle.epochs.specs.declared.part.By.{By}
use Rattle.epochs.specs.Units.{unit_content}
use Rattle.epochs.specs.Parts.{part_size, volatile_parts}
use Rattle.epochs.specs.declared.cuts.Cuts.{Cuts}
use Rattle.epochs.specs.declared.cuts.CutKind.{CutKind}
use Rattle.epochs.specs.declared.cuts.CutKind.TheVariants as kind
use Rattle.epochs.specs.Cuts.{is_flush_at, cuts_of}
use Rattle.epochs.specs.Plan.{IsUnit}
use Rattle.epochs.specs.Table.{unforced_parts}

-- a part before cut k is volatile: it has as many sectors of its entry as parts have, in a row, the entry isn't forced, and
-- no flush entry stands between it and the cut
pub record IsVolatile (way : By) (es : List Entry) (k : ℕ) (p : Part) : Type 0 where
  pub entry : Entry
  pub there : slice_get es p.entry ≡ Some entry
  pub count : p.count ≡ part_size way entry
  pub some : 1 ≤ p.count
  pub inside : p.place + p.count ≤ entry.count
  pub sector : p.sector ≡ entry.sector + p.place
  pub before : p.entry < k
  pub forced : entry.flags.fua ≡ false
  pub flushed : (f : ℕ) (flush : Entry) → p.entry < f → f < k → slice_get es f ≡ Some flush → flush.flags.flush ≡ false

-- by entry, then by sector of the entry
abbrev pub Precedes : Part → Part → Type 0
Precedes a b = (a.entry < b.entry) ⊎ ((a.entry ≡ b.entry) × (a.place < b.place))

-- the list has the volatile parts of cut k and no other, in order
pub record ListsVolatile (way : By) (es : List Entry) (k : ℕ) (ps : List Part) : Type 0 where
  pub sound : (i : ℕ) (p : Part) → slice_get ps i ≡ Some p → IsVolatile way es k p
  pub complete : (p : Part) → IsVolatile way es k p → (i : ℕ) × (slice_get ps i ≡ Some p)
  pub rising : (i j : ℕ) (a b : Part) → i < j → slice_get ps i ≡ Some a → slice_get ps j ≡ Some b → Precedes a b

abbrev pub VolatileIsSet : Type 0
VolatileIsSet = (way : By) (es : List Entry) (k : ℕ) → k ≤ length es → ListsVolatile way es k (volatile_parts way es k)

-- the last flush entry before cut k, or 0 where there is none
abbrev pub last_flush : List Entry → ℕ → ℕ
last_flush es zero = 0
last_flush es (suc k) = if is_flush_at es k then k else last_flush es k

-- the volatile parts of a cut are one run: of the parts that are not forced, those from the last flush
-- entry on
abbrev pub VolatileIsRun : Type 0
VolatileIsRun =
    (way : By) (es : List Entry) (k : ℕ) → k ≤ length es
    → volatile_parts way es k ≡ drop (length (unforced_parts way es (last_flush es k))) (unforced_parts way es k)

-- a unit has the 512 bytes of a sector
abbrev pub UnitIsSector : Type 0
UnitIsSector = (log : LogValue) (u : LogUnit) → IsLog log → IsUnit log u → length (unit_content log.entries u) ≡ 512

-- cut k is one of that kind: each cut of the log; the last, and each right before a flush entry; each right
-- after a mark
abbrev pub IsOfKind : CutKind → List Entry → ℕ → Type 0
IsOfKind kind.All es k = k ≤ length es
IsOfKind kind.BeforeFlush es k = (k ≡ length es) ⊎ ((entry : Entry) × (slice_get es k ≡ Some entry) × (entry.flags.flush ≡ true))
IsOfKind kind.AfterMark es k = (e : ℕ) × (entry : Entry) × (k ≡ e + 1) × (slice_get es e ≡ Some entry) × (entry.flags.mark ≡ true)

-- cut k is wanted: one of the kind, from the first to the last that are given
pub record IsWanted (wanted : Cuts) (es : List Entry) (k : ℕ) : Type 0 where
  pub of_kind : IsOfKind wanted.kind es k
  pub beyond : IfSome wanted.from (λ first. first ≤ k)
  pub before : IfSome wanted.to (λ last. k ≤ last)

-- the list has the wanted cuts and no other, rising, and so each once
pub record ListsCuts (wanted : Cuts) (es : List Entry) (cuts : List ℕ) : Type 0 where
  pub sound : (i k : ℕ) → slice_get cuts i ≡ Some k → IsWanted wanted es k
  pub complete : (k : ℕ) → IsWanted wanted es k → (i : ℕ) × (slice_get cuts i ≡ Some k)
  pub rising : (i j a b : ℕ) → i < j → slice_get cuts i ≡ Some a → slice_get cuts j ≡ Some b → a < b

abbrev pub CutsAreSet : Type 0
CutsAreSet = (wanted : Cuts) (es : List Entry) → ListsCuts wanted es (cuts_of wanted es)
