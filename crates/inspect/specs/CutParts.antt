-- What the parts in which a run of any number of losses is laid out have together (docs/COMMANDS.md, Joining parts).
use Rattle.std.specs.Prelude.{ℕ, ◌≡◌, ◌<◌, ◌≤◌, ◌+◌, List, [], ◌∷◌, length, map, All, IfSome, Some}
use Rattle.std.specs.List.{flat_map}
use Rattle.logfmt.specs.declared.entry.Entry.{Entry}
use Rattle.epochs.specs.declared.cuts.Cuts.{Cuts}
use Rattle.request.specs.declared.any_losses.AnyLosses.{AnyLosses}
use Rattle.inspect.specs.declared.looks.risks.CutRisk.{CutRisk}
use Rattle.inspect.specs.declared.looks.cut_layout.CutRange.{CutRange}
use Rattle.case_runs.specs.Cuts.{first_wanted, last_wanted, case_cuts}
use Rattle.inspect.specs.CutLayout.{cut_part_count, cut_ranges}

-- the wanted cuts of a range alone
abbrev pub in_range : Cuts → ℕ → ℕ → Cuts
in_range cuts from to = record { kind = cuts.kind; from = Some from; to = Some to; flushes = cuts.flushes }

-- the cuts at which a run of that range looks for cases
abbrev pub cuts_in : AnyLosses → Cuts → List Entry → ℕ → ℕ → List ℕ
cuts_in l cuts es from to = case_cuts l.at_most (in_range cuts from to) es

-- the range that is asked for is one of a log of n entries
pub record IsRange (cuts : Cuts) (n : ℕ) : Type 0 where
  pub from : IfSome cuts.from (λ first. first ≤ n)
  pub to : IfSome cuts.to (λ last. last ≤ n)
  pub rising : first_wanted cuts n ≤ last_wanted cuts n

-- the ranges follow one another, from a first cut to a last one
abbrev pub FollowOn : ℕ → ℕ → List CutRange → Type 0
FollowOn first last [] = first ≡ last + 1
FollowOn first last (r ∷ ranges) = (r.from ≡ first) × (r.from ≤ r.to) × FollowOn (r.to + 1) last ranges

-- Together they have each cut of the whole range at which cases are looked for, in order, and each of them has one, if there is one. Here
-- `at` has these cuts of a range.
pub record AreAll (at : ℕ → ℕ → List ℕ) (first last : ℕ) (ranges : List CutRange) : Type 0 where
  pub follow : FollowOn first last ranges
  pub each : flat_map (λ (r : CutRange). at r.from r.to) ranges ≡ at first last
  pub some : 0 < length (at first last) → All (λ (r : CutRange). 0 < length (at r.from r.to)) ranges

-- The runs of the parts look for cases at the cuts of the whole run, each at those of its range. There are as many parts as are wanted,
-- or as there are cuts.
pub record AreCutParts (l : AnyLosses) (cuts : Cuts) (es : List Entry) (parts : ℕ) (ranges : List CutRange) : Type 0 where
  pub all : AreAll (cuts_in l cuts es) (first_wanted cuts (length es)) (last_wanted cuts (length es)) ranges
  pub whole : cuts_in l cuts es (first_wanted cuts (length es)) (last_wanted cuts (length es)) ≡ case_cuts l.at_most cuts es
  pub count : length ranges ≡ parts

abbrev pub CutPartsAreRun : Type 0
CutPartsAreRun = (l : AnyLosses) (cuts : Cuts) (es : List Entry) (risks : List CutRisk) (parts : ℕ) → IsRange cuts (length es) → map (λ (r : CutRisk). r.cut) risks ≡ case_cuts l.at_most cuts es
    → AreCutParts l cuts es (cut_part_count risks parts)
    (cut_ranges (cut_part_count risks parts) (first_wanted cuts (length es)) (last_wanted cuts (length es)) risks)
