-- The ranges in which a run of any number of losses is laid out are parts of the range of its cuts.
use Rattle.std.proofs.Common.{ℕ, ◌≡◌, ◌+◌, ◌≤◌, List, [], ◌∷◌, ◌++◌, length, map, Some, refl, ◌∙◌, ap, arith}
use Rattle.std.specs.List.{flat_map}
use Rattle.logfmt.specs.declared.entry.Entry.{Entry}
use Rattle.epochs.specs.declared.cuts.Cuts.{Cuts}
use Rattle.case_runs.specs.Cuts.{first_wanted, last_wanted}
use Rattle.request.specs.declared.any_losses.AnyLosses.{AnyLosses}
use Rattle.inspect.specs.declared.looks.cut_layout.CutRange.{CutRange}
use Rattle.inspect.specs.CutLayout.{cut_part_count, cut_ranges}
use Rattle.inspect.specs.CutParts.{cuts_in, FollowOn, AreAll, CutPartsAreRun}
use Rattle.commands.specs.CaseParts.{FollowTo, cuts_over, ArePartsOfRange, range_of, wanted_range, LaidOutRangesAreParts}

follow_laid : (n first last : ℕ) (r : CutRange) (ranges : List CutRange) → FollowOn first last (r ∷ ranges) → FollowTo n first (Some last) (map range_of (r ∷ ranges))
follow_laid n first last r [] follow =
    let end = follow.2 in
    let same : r.to ≡ last = omega (arith, end) in
    (follow.0, ap (λ (to : ℕ). Some to) same)
follow_laid n first last r (s ∷ ranges) follow = (follow.0, follow_laid n (r.to + 1) last s ranges follow.2)

together_laid : (l : AnyLosses) (cuts : Cuts) (es : List Entry) (ranges : List CutRange)
    → flat_map (cuts_over l.at_most cuts es) (map range_of ranges) ≡ flat_map (λ (r : CutRange). cuts_in l cuts es r.from r.to) ranges
together_laid l cuts es [] = refl
together_laid l cuts es (r ∷ ranges) = ap (λ (ks : List ℕ). cuts_in l cuts es r.from r.to ++ ks) (together_laid l cuts es ranges)

parts_laid : (l : AnyLosses) (cuts : Cuts) (es : List Entry) (ranges : List CutRange) → first_wanted cuts (length es) ≤ last_wanted cuts (length es)
    → AreAll (cuts_in l cuts es) (first_wanted cuts (length es)) (last_wanted cuts (length es)) ranges
    → ArePartsOfRange l.at_most cuts es (map range_of ranges) (wanted_range cuts (length es))
parts_laid l cuts es [] rising all = let none = all.follow in absurd (omega (arith, none, rising))
parts_laid l cuts es (r ∷ ranges) rising all = record {
  first = range_of r;
  others = map range_of ranges;
  are = refl;
  begins = ap (λ (from : ℕ). Some from) all.follow.0;
  follow = follow_laid (length es) (first_wanted cuts (length es)) (last_wanted cuts (length es)) r ranges all.follow;
  together = together_laid l cuts es (r ∷ ranges) ∙ all.each;
}

pub laid_out_ranges_are_parts : CutPartsAreRun → LaidOutRangesAreParts
laid_out_ranges_are_parts laid l cuts es risks parts range are =
    parts_laid l cuts es (cut_ranges (cut_part_count risks parts) (first_wanted cuts (length es)) (last_wanted cuts (length es)) risks) range.rising (laid l cuts es risks parts range are).all
