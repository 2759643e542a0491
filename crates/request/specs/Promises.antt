-- Marks that promise what nothing made durable (docs/CRASH-MODEL.md, Marks that promise too much).
use Rattle.std.specs.Prelude.{ℕ, ◌≡◌, ◌+◌, Bool, false, not, nat_le, nat_lt, ◌&&◌, List, length, filter, take, slice_get}
use Rattle.std.specs.List.{range_with_len, slice_range, list_any}
use Rattle.std.specs.Option.{option_map_or}
use Rattle.logfmt.specs.declared.entry.Entry.{Entry}
use Rattle.epochs.specs.Units.{is_flush_between}
use Rattle.request.specs.declared.facts.promises.Promises.{Promises}

-- an entry writes or discards a sector, and has FUA
abbrev pub forces : ℕ → Entry → Bool
forces sector x = x.flags.fua && nat_le x.sector sector && nat_lt sector (x.sector + x.count)

-- an entry after entry e and before entry m does
abbrev pub is_forced_again : List Entry → ℕ → ℕ → ℕ → Bool
is_forced_again es e m sector = list_any (forces sector) (slice_range es (e + 1) m)

-- entry e is a write without FUA, and no entry with FUA after it and before entry m writes or discards some sector of it again
abbrev pub is_unforced : List Entry → ℕ → ℕ → Bool
is_unforced es m e =
    option_map_or (λ (x : Entry). not x.flags.fua && not x.flags.discard && list_any (λ sector. not (is_forced_again es e m sector)) (range_with_len x.sector x.count)) (slice_get es e) false

-- after entry e stands no mark before entry m, and no flush entry before m or at m: with `--flush` that flush stands right before m
abbrev pub is_since : List Entry → ℕ → ℕ → Bool
is_since es m e = not (list_any (λ (x : Entry). x.flags.mark) (slice_range es (e + 1) m)) && not (is_flush_between es e (m + 1))

abbrev pub is_mark : List Entry → ℕ → Bool
is_mark es m = option_map_or (λ (x : Entry). x.flags.mark) (slice_get es m) false

-- entry m is a mark that promises too much: since the mark before it there is a write of which nothing made all durable
unfoldable pub promises_too_much : List Entry → ℕ → Bool
promises_too_much es m = is_mark es m && list_any (λ e. is_since es m e && is_unforced es m e) (range_with_len 0 m)

-- the marks before entry k that do, rising
abbrev pub too_much_before : List Entry → ℕ → List ℕ
too_much_before es k = filter (promises_too_much es) (range_with_len 0 k)

-- how many marks these are, and the first eight of them
pub record AreFirst (marks : List ℕ) (p : Promises) : Type 0 where
  pub count : p.count ≡ length marks
  pub first : p.first.items ≡ take 8 marks

-- what is found of a log
abbrev pub ArePromises : List Entry → Promises → Type 0
ArePromises es p = AreFirst (too_much_before es (length es)) p
