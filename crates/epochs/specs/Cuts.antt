-- The wanted cuts (docs/CRASH-MODEL.md, Which cuts are explored). A log of n entries has the cuts 0 to n.
use Rattle.std.specs.Prelude.{ℕ, zero, suc, ◌+◌, ◌==◌, Bool, true, false, ◌||◌, ◌&&◌, nat_le, List, length, filter, replicate, slice_get, Option, None}
use Rattle.std.specs.List.{range_with_len}
use Rattle.std.proofs.Common.{arith}
use Rattle.std.specs.Option.{option_map_or}
use Rattle.logfmt.specs.declared.entry.Entry.{Entry}
use Rattle.epochs.specs.declared.cuts.Cuts.{Cuts}
use Rattle.epochs.specs.declared.cuts.CutKind.{CutKind}
use Rattle.epochs.specs.declared.cuts.CutKind.TheVariants as kind

-- entry k is a flush entry
abbrev pub is_flush_at : List Entry → ℕ → Bool
is_flush_at es k = option_map_or (λ (entry : Entry). entry.flags.flush) (slice_get es k) false

-- the entry before cut k is a mark
abbrev pub is_after_mark : List Entry → ℕ → Bool
is_after_mark es zero = false
is_after_mark es (suc k) = option_map_or (λ (entry : Entry). entry.flags.mark) (slice_get es k) false

-- cut k is one of that kind
abbrev pub is_of_kind : CutKind → List Entry → ℕ → Bool
is_of_kind kind.All es k = true
is_of_kind kind.BeforeFlush es k = (k == length es) || is_flush_at es k
is_of_kind kind.AfterMark es k = is_after_mark es k

-- cut k isn't before the first cut that is wanted, where one is given, and not after the last
abbrev pub is_after_first : Option ℕ → ℕ → Bool
is_after_first first k = option_map_or (λ n. nat_le n k) first true

abbrev pub is_before_last : Option ℕ → ℕ → Bool
is_before_last last k = option_map_or (λ n. nat_le k n) last true

-- cut k is wanted: it is of the kind, and stands in the range
abbrev pub is_wanted : Cuts → List Entry → ℕ → Bool
is_wanted wanted es k = is_of_kind wanted.kind es k && is_after_first wanted.from k && is_before_last wanted.to k

-- the wanted cuts, rising
abbrev pub cuts_of : Cuts → List Entry → List ℕ
cuts_of wanted es = filter (is_wanted wanted es) (range_with_len 0 (length es + 1))

-- all cuts of a log to which no flush is added
abbrev pub all_cuts : Cuts
all_cuts = record { kind = kind.All; from = None; to = None; flushes = record { entries = replicate {A = ℕ} 64 0; count = 0; few = omega arith } }
