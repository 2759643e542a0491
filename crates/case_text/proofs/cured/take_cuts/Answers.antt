use Rattle.std.proofs.Common.{get_or}
use Rattle.std.proofs.lemmas.List.{take_more}
use Rattle.case_text.specs.Why.{cut_failures}
use Rattle.case_text.specs.Cured.{cut_uncured}
use Rattle.case_text.proofs.Curing.{kept_next, lists_next}
use Rattle.case_text.proofs.cured.take_cuts.Goals as goal

pub loop-cut-preserved : goal.loop-cut-preserved
loop-cut-preserved c =
    let item = c.cut-item.result in
    let more = take_more c.args.found.now c.loop-cut.cut-index item c.loop-cut-test.true in (
      lists_next (cut_failures c.args.log.now c.args.by c.args.tears) c.args.found.now c.loop-cut.cut-index (get_or c.args.found.now c.loop-cut.cut-index item) item _ _ _ more c.cut-item.is c.loop-cut.invariant.0
          c.in_ok-take_cut.ensures.failures,
      kept_next (cut_uncured c.args.log.now c.args.by c.args.tears) c.args.found.now c.loop-cut.cut-index (get_or c.args.found.now c.loop-cut.cut-index item) item _ _ _ more c.cut-item.is c.loop-cut.invariant.1
          c.in_ok-take_cut.ensures.uncured,
    )
