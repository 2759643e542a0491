-- Records that contradict each other.
use Rattle.std.specs.Prelude.{ℕ, ◌≡◌, ◌<◌, ◌==◌, nat_eq, Bool, true, false, not, ◌&&◌, slice_get, Option, None, Some, MatchOption}
use Rattle.std.specs.List.{list_all, list_any}
use Rattle.std.specs.Cmp.Lexicographic.{pointwise}
use Rattle.logfmt.specs.Bounds.{LogValue}
use Rattle.epochs.specs.declared.part.By.{By}
use Rattle.known.specs.declared.run.KnownRun.{KnownRun}
use Rattle.known.specs.declared.records.Looked.{Looked}
use Rattle.known.specs.declared.records.KeptRun.{KeptRun}
use Rattle.known.specs.declared.contradict.Contradiction.{Contradiction}
use Rattle.known.specs.Ends.{same_end}
use Rattle.known.specs.Records.{RecordsValue, KeptValue, kept_value, contradict}

-- a kept sector is another one of the same number
abbrev pub clashes : Looked → Looked → Bool
clashes one other = (one.number == other.number) && not (pointwise nat_eq one.bytes other.bytes)

-- two records contradict each other, by what is kept of them
abbrev pub kept_contradict : KeptValue → KeptValue → Bool
kept_contradict one other = (one.marks == other.marks) && (not (same_end one.end other.end) && list_all (λ k. not (list_any (clashes k) other.sectors)) one.sectors)

abbrev pub options_contradict : Option KeptRun → Option KeptRun → Bool
options_contradict None other = false
options_contradict (Some one) None = false
options_contradict (Some one) (Some other) = kept_contradict (kept_value one) (kept_value other)

abbrev pub both_contradict : LogValue → By → Option KnownRun → Option KnownRun → Bool
both_contradict log way None other = false
both_contradict log way (Some r) None = false
both_contradict log way (Some r) (Some t) = contradict log way r t

-- the records at two places contradict each other
abbrev pub contradict_at : RecordsValue → ℕ → ℕ → Bool
contradict_at v i j = both_contradict v.log v.way (slice_get v.runs i) (slice_get v.runs j)

-- no record before `n` contradicts the one at `later`
abbrev pub NoneAgainst : RecordsValue → ℕ → ℕ → Type 0
NoneAgainst v n later = (i : ℕ) → i < n → contradict_at v i later ≡ false

-- the first record that contradicts the one at `later`, or that none before it does
pub record IsFirstBefore (v : RecordsValue) (later earlier : ℕ) : Type 0 where
  pub before : earlier < later
  pub own : contradict_at v earlier later ≡ true
  pub none : NoneAgainst v earlier later

abbrev pub IsFirstAgainst : RecordsValue → ℕ → Option ℕ → Type 0
IsFirstAgainst v later found = MatchOption found (NoneAgainst v later later) (IsFirstBefore v later)

-- the first record that an earlier one contradicts, and the first that does, or that there is none
abbrev pub NoneBefore : RecordsValue → ℕ → Type 0
NoneBefore v n = (later : ℕ) → later < n → NoneAgainst v later later

pub record IsFirst (v : RecordsValue) (found : Contradiction) : Type 0 where
  pub is : IsFirstBefore v found.later found.earlier
  pub none : NoneBefore v found.later

abbrev pub IsFirstOfAll : RecordsValue → Option Contradiction → Type 0
IsFirstOfAll v found = MatchOption found ((later : ℕ) → NoneAgainst v later later) (IsFirst v)
