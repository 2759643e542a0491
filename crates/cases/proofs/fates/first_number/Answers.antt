use Rattle.std.proofs.Common.{◌≡◌, None, slice_index_or, sym, ◌∙◌, ap, arith}
use Rattle.cases.specs.Sets.{fates_in}
use Rattle.cases.proofs.Numbered.{no_fates, fates_first}
use Rattle.cases.proofs.fates.first_number.Goals as goal

pub returns-then-set-eq0-clause-fate : goal.returns-then-set-eq0-clause-fate
returns-then-set-eq0-clause-fate c =
    let none : c.args.set ≡ 0 = omega (arith, c.if-set-eq0.true) in
    sym (ap (λ bits. slice_index_or (fates_in bits) 0 None) none ∙ ap (λ fs. slice_index_or fs 0 None) no_fates)

pub returns-else-set-eq0-clause-fate : goal.returns-else-set-eq0-clause-fate
returns-else-set-eq0-clause-fate c =
    sym (ap (λ fs. slice_index_or fs 0 None) (fates_first c.args.set c.least.result c.least.ensures.first).1)
