-- How a run of any number of losses is laid out in parts (docs/COMMANDS.md, Joining parts). Nobody knows beforehand how many cases there
-- are, so a part has some of the cuts: a range of these, which ends at a cut where cases are looked for.
use Rattle.std.specs.Prelude.{ℕ, zero, suc, ◌+◌, ◌-◌, ◌/◌, ◌==◌, Bool, ◌&&◌, if◌then◌else◌, nat_le, min, max, List, [], ◌∷◌, ◌++◌, length, drop, sum_by, codes, slice_get}
use Rattle.std.specs.Fmt.{decimal}
use Rattle.std.specs.List.{flat_map}
use Rattle.std.specs.Option.{option_map_or}
use Rattle.inspect.specs.declared.looks.risks.CutRisk.{CutRisk}
use Rattle.inspect.specs.declared.looks.cut_layout.CutRange.{CutRange}
use Rattle.inspect.specs.Layout.{most_parts}

-- how many parts are asked for
abbrev pub is_cut_layout : ℕ → Bool
is_cut_layout parts = nat_le 1 parts && nat_le parts most_parts

-- how much work a cut is taken for: its parts at risk, and one more, since each cut has a case
abbrev pub weight : CutRisk → ℕ
weight r = r.at_risk + 1

abbrev pub weight_of : List CutRisk → ℕ
weight_of risks = sum_by weight risks

-- the share of one of some parts, rounded up
abbrev pub share_of : ℕ → List CutRisk → ℕ
share_of parts risks = (weight_of risks + parts - 1) / parts

-- how many of some cuts, from the first on, weigh so much together
abbrev pub needed : ℕ → List CutRisk → ℕ
needed goal [] = 0
needed goal (r ∷ risks) = if goal == 0 then 0 else 1 + needed (goal - weight r) risks

-- How many of the cuts that are left the first of the parts that are left has: as many as weigh its share, but at least one, and one
-- is left for each other part.
abbrev pub part_cuts : ℕ → List CutRisk → ℕ
part_cuts parts risks = max (min (needed (share_of parts risks) risks) (length risks + 1 - parts)) 1

-- the cut with that number
abbrev pub cut_at : List CutRisk → ℕ → ℕ
cut_at risks number = option_map_or (λ (r : CutRisk). r.cut) (slice_get risks number) 0

-- the ranges of as many parts as there are: each ends at the last of its cuts, the last one at the end of the whole range, and the next
-- one begins right after it
abbrev pub cut_ranges : ℕ → ℕ → ℕ → List CutRisk → List CutRange
cut_ranges zero first last risks = []
cut_ranges (suc zero) first last risks = record { from = first; to = last } ∷ []
cut_ranges (suc (suc more)) first last risks =
    record { from = first; to = cut_at risks (part_cuts (suc (suc more)) risks - 1) }
    ∷ cut_ranges (suc more) (cut_at risks (part_cuts (suc (suc more)) risks - 1) + 1) last (drop (part_cuts (suc (suc more)) risks) risks)

-- how many parts there are where that many are wanted: no more than cuts, and at least one
abbrev pub cut_part_count : List CutRisk → ℕ → ℕ
cut_part_count risks parts = max (min parts (length risks)) 1

unfoldable pub range_text : CutRange → List ℕ
range_text r = codes "part --from " ++ decimal r.from ++ codes " --to " ++ decimal r.to ++ codes "\n"

-- a line for each part
unfoldable pub cut_layout_text : ℕ → ℕ → List CutRisk → ℕ → List ℕ
cut_layout_text first last risks parts = flat_map range_text (cut_ranges (cut_part_count risks parts) first last risks)
