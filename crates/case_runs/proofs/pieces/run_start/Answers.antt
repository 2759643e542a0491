use Rattle.std.proofs.Common.{List, ◌∙◌, ap, subst}
use Rattle.cases.specs.Cases.{Case}
use Rattle.case_runs.specs.declared.pieces.Ran.{Ran}
use Rattle.case_runs.specs.Judges.{program_of}
use Rattle.case_runs.specs.Leaves.{JudgeValue}
use Rattle.case_runs.specs.Pieces.{RanFrom}
use Rattle.case_runs.proofs.Going.{search_on, ran_from}
use Rattle.case_runs.proofs.pieces.run_start.Goals as goal

pub returns-clause-search : goal.returns-clause-search
returns-clause-search g c = search_on _ _ _ _ (search_on _ _ _ _ c.begin_at.ensures.search c.run.ensures.same) c.take_all.ensures.same

pub returns-clause-ran : goal.returns-clause-ran
returns-clause-ran g c =
    let judge = c.new-judge.result in
    let checker = ap (λ (v : JudgeValue). v.checker) c.new-judge.ensures ∙ c.in_ok-new.ensures.checker in
    let context = ap (λ (v : JudgeValue). v.context) c.new-judge.ensures ∙ c.in_ok-new.ensures.context in
    let ran : Ran = record { found = c.into_findings-found.result; left = c.in_ok-left.left } in
    subst (λ (from : List Case). RanFrom c.args.asked c.args.cut.now c.args.checker.now c.args.most from ran) c.in_ok-begin_at.ensures.pending
    (ran_from c.args.asked c.args.cut.now c.args.checker.now c.args.most c.begin_at.new.search c.run.new.self judge.leaves c.run.new.judge.leaves (program_of judge.checker judge.context) c.in_ok-_ended._ended ran (record {
      program_is = (λ i. program_of (checker i) (context i)) ∙ ap (program_of c.args.checker.now) c.requires.context;
      before_is = ap (λ (v : JudgeValue). v.leaves) c.new-judge.ensures ∙ c.in_ok-new.ensures.leaves;
      begins = c.begin_at.ensures.search;
      none = c.in_ok-begin_at.ensures.none;
      same = c.run.ensures.same;
      went = c.in_ok-_ended.ensures.ran;
      done = c.in_ok-_ended.ensures.ended;
      many = c.in_ok-_ended.ensures.many;
      cases = c.into_findings-found.ensures.cases;
      torn = c.into_findings-found.ensures.torn;
      lost = c.into_findings-found.ensures.lost;
      failing = c.into_findings-found.ensures.failing;
      all = c.in_ok-left.ensures.all;
      each = c.in_ok-left.ensures.each;
    }))
