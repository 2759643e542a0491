use Rattle.std.proofs.Common.{◌+◌, ap}
use Rattle.join.specs.CaseReading.{CasesRead}
use Rattle.join.proofs.CaseRowed.{many_found}
use Rattle.join.proofs.case_parts.row.first_many.Goals as goal

pub returns-then-cases-gt-MOST_CASES : goal.returns-then-cases-gt-MOST_CASES
returns-then-cases-gt-MOST_CASES c =
    many_found c.args.parts.now c.loop-part.part-index c.loop-part.cases (c.loop-part.cases + c.cases_of-cases.result) c.part-item.result c.part.inside.file c.loop-part.invariant.0 c.loop-part.invariant.1
    c.loop-part-test.true c.part-item.is (ap (λ n. c.loop-part.cases + n) c.cases_of-cases.ensures.value) c.if-cases-gt-MOST_CASES.true (ap (λ (r : CasesRead). r.file) c.part.view_is)
