-- How a run of any number of losses is laid out in parts.
use Rattle.std.proofs.Common.{ℕ, zero, suc, ◌≡◌, ◌<◌, ◌+◌, ◌-◌, List, [], ◌∷◌, ◌++◌, drop, append_assoc, refl, sym, ◌∙◌, ap, arith}
use Rattle.std.specs.List.{flat_map}
use Rattle.inspect.specs.declared.looks.risks.CutRisk.{CutRisk}
use Rattle.inspect.specs.declared.looks.cut_layout.CutRange.{CutRange}
use Rattle.inspect.specs.CutLayout.{needed, part_cuts, cut_at, cut_ranges, range_text}

-- where nothing is wanted any more, none is needed
pub needed_none : (goal : ℕ) (risks : List CutRisk) → goal ≡ 0 → needed goal risks ≡ 0
needed_none goal [] none = refl
needed_none goal (r ∷ risks) none = rw none refl

-- the first of some parts, and the others
pub ranges_next : (left first last : ℕ) (risks : List CutRisk) → 1 < left
    → cut_ranges left first last risks
    ≡ record { from = first; to = cut_at risks (part_cuts left risks - 1) } ∷ cut_ranges (left - 1) (cut_at risks (part_cuts left risks - 1) + 1) last (drop (part_cuts left risks) risks)
ranges_next zero first last risks more = absurd (omega (arith, more))
ranges_next (suc zero) first last risks more = absurd (omega (arith, more))
ranges_next (suc (suc n)) first last risks more = let e : suc (suc n) - 1 ≡ suc n = omega arith in rw e refl

-- the first of them is appended
laid_next : (old goal : List ℕ) (left first last : ℕ) (rest : List CutRisk) → 1 < left → old ++ flat_map range_text (cut_ranges left first last rest) ≡ goal
    → (old ++ range_text (record { from = first; to = cut_at rest (part_cuts left rest - 1) }))
    ++ flat_map range_text (cut_ranges (left - 1) (cut_at rest (part_cuts left rest - 1) + 1) last (drop (part_cuts left rest) rest)) ≡ goal
laid_next old goal left first last rest more so_far =
    let own : CutRange = record { from = first; to = cut_at rest (part_cuts left rest - 1) } in
    let others = cut_ranges (left - 1) (cut_at rest (part_cuts left rest - 1) + 1) last (drop (part_cuts left rest) rest) in
    append_assoc old (range_text own) (flat_map range_text others) ∙ ap (λ (rs : List CutRange). old ++ flat_map range_text rs) (sym (ranges_next left first last rest more)) ∙ so_far

pub laid_more : (old new goal : List ℕ) (left first last to count : ℕ) (rest beyond : List CutRisk) → 1 < left → old ++ flat_map range_text (cut_ranges left first last rest) ≡ goal
    → new ≡ old ++ range_text (record { from = first; to = to }) → count ≡ part_cuts left rest → to ≡ cut_at rest (count - 1) → beyond ≡ drop count rest
    → new ++ flat_map range_text (cut_ranges (left - 1) (to + 1) last beyond) ≡ goal
laid_more old new goal left first last to count rest beyond more so_far new_is count_is to_is beyond_is =
    let end : to ≡ cut_at rest (part_cuts left rest - 1) = to_is ∙ ap (λ k. cut_at rest (k - 1)) count_is in
    let others : beyond ≡ drop (part_cuts left rest) rest = beyond_is ∙ ap (λ k. drop k rest) count_is in
    rw (new_is, end, others) (laid_next old goal left first last rest more so_far)
