use Rattle.std.proofs.Common.{◌∙◌, ap, sym}
use Rattle.request.specs.declared.extent.Extent.{Extent}
use Rattle.request.specs.Extents.{is_extent}
use Rattle.runs.proofs.Judging.{span_judged}
use Rattle.runs.proofs.explore_command.span_of.Goals as goal

pub returns-clause-judged : goal.returns-clause-judged
returns-clause-judged c =
    let good = ap (λ (e : Extent). is_extent e) (sym c.extent-extent.ensures.value) ∙ c.extent-extent.ensures.good in
    rw (c.first.ensures, c.end.ensures, c.extent-extent.ensures.value)
    (span_judged c.args.question.now.wanted c.args.question.now.options.now.extent _ _ c.requires.taken good c.requires.few c.requires.within)
