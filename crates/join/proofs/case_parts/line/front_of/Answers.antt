use Rattle.std.proofs.Common.{sym, ◌∙◌, ap, rules}
use Rattle.report.specs.Report.{HeadValue}
use Rattle.join.specs.CaseTexts.{ToldCase}
use Rattle.join.proofs.CaseLines.{is_case}
use Rattle.join.proofs.case_parts.line.front_of.Goals as goal

pub returns : goal.returns
returns c =
    is_case c.args.head.now c.head.inside.by c.args.line.now c.said.inside.outcome.now c.in_ok-said.said c.said.inside.free c.said.inside.front c.requires (ap (λ (v : HeadValue). v.by) c.head.view_is) c.in_ok-said.ensures
    (ap (λ (t : ToldCase). t.outcome) c.said.view_is) (c.is_ending.ensures.0 c.if-not-is_ending.false) (ap (λ (t : ToldCase). t.free) c.said.view_is) (search rules)
    (sym c.in_ok-is_case_of_run.ensures ∙ c.if-not-branch.false) (c.in_ok-is_body.ensures.0 c.if-not-branch-2.false) (ap (λ (t : ToldCase). t.front) c.said.view_is)
