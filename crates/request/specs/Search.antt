-- What the search for marks that promise too much keeps from entry to entry.
use Rattle.std.specs.Prelude.{ℕ, ◌≡◌, ◌+◌, ◌<◌, ◌≤◌, ◌==◌, Bool, true, false, not, nat_le, nat_lt, ◌&&◌, ◌||◌, if◌then◌else◌, List, [], ◌∷◌, ◌++◌, length, slice_index, slice_get, Some}
use Rattle.std.specs.List.{slice_range, list_any}
use Rattle.logfmt.specs.declared.entry.Entry.{Entry}
use Rattle.request.specs.declared.facts.promises.Promises.{Promises}
use Rattle.request.specs.declared.facts.promises.PromiseSearch.{PromiseSearch}
use Rattle.request.specs.Promises.{forces, is_unforced, too_much_before, AreFirst}

-- the sectors of each entry are below that number
abbrev pub AreWithin : ℕ → List Entry → Type 0
AreWithin sectors es = (i : ℕ) (x : Entry) → slice_get es i ≡ Some x → 0 < x.count → x.sector + x.count ≤ sectors

-- some sectors
abbrev pub is_among : ℕ → ℕ → ℕ → Bool
is_among first count sector = nat_le first sector && nat_lt sector (first + count)

-- all of them have that number in a table with a number for each sector
abbrev pub AllAre : List ℕ → ℕ → ℕ → ℕ → Type 0
AllAre stamps stamp first count = (s : ℕ) → first ≤ s → s < first + count → (slice_index stamps s == stamp) ≡ true

-- one of them hasn't
pub record OneIsNot (stamps : List ℕ) (stamp first count : ℕ) : Type 0 where
  pub sector : ℕ
  pub from : first ≤ sector
  pub before : sector < first + count
  pub is : (slice_index stamps sector == stamp) ≡ false

-- of such a table the sectors that pass a test have one number now, and the others stay
pub record AreStamped (test : ℕ → Bool) (stamp : ℕ) (old new : List ℕ) : Type 0 where
  pub long : length new ≡ length old
  pub at : (s : ℕ) → s < length old → slice_index new s ≡ (if test s then stamp else slice_index old s)

-- the sectors with that number are those of entries with FUA from entry `from` on and before entry m
abbrev pub TellForced : List Entry → ℕ → ℕ → ℕ → List ℕ → Type 0
TellForced es from m stamp stamps = (s : ℕ) → s < length stamps → (slice_index stamps s == stamp) ≡ list_any (forces s) (slice_range es from m)

-- after entry e and before entry k stands no mark and no flush entry
abbrev pub is_last : List Entry → ℕ → ℕ → Bool
is_last es k e = not (list_any (λ (x : Entry). x.flags.mark || x.flags.flush) (slice_range es (e + 1) k))

-- entry e, from `start` on and before the mark m, is a write of which no entry with FUA made all durable
pub record IsUnforced (es : List Entry) (start m : ℕ) : Type 0 where
  pub entry : ℕ
  pub from : start ≤ entry
  pub before : entry < m
  pub is : is_unforced es m entry ≡ true

-- no entry is so
abbrev pub NoneIsUnforced : List Entry → ℕ → ℕ → Type 0
NoneIsUnforced es start m = (e : ℕ) → start ≤ e → e < m → is_unforced es m e ≡ false

-- after some marks the mark m is found, and an entry from `start` on is so; or none is, and it isn't found
pub data IsJudged (es : List Entry) (start m : ℕ) (marks : List ℕ) (found : Promises) : Type 0 where
  one_more : IsUnforced es start m → AreFirst (marks ++ m ∷ []) found → IsJudged es start m marks found
  no_more : NoneIsUnforced es start m → AreFirst marks found → IsJudged es start m marks found

-- The search stands before entry k: no number of its table is above k; the entries from its start on are those of which none but the first
-- may be a mark or a flush entry; it has found the marks before.
pub record IsSearched (es : List Entry) (k : ℕ) (s : PromiseSearch) : Type 0 where
  pub old : (n : ℕ) → slice_index s.stamps.items n ≤ k
  pub low : s.start ≤ k
  pub since : (e : ℕ) → e < k → is_last es k e ≡ nat_le s.start e
  pub found : AreFirst (too_much_before es k) s.found
