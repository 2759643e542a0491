use Rattle.std.proofs.Common.{refl, ◌∙◌, ap}
use Rattle.case_runs.specs.Judges.{program_of}
use Rattle.case_runs.specs.Leaves.{JudgeValue, failing_from}
use Rattle.case_runs.proofs.Seeking.{passed_none, went_to, passed_more, seeks_failing, seeks_ended, seeks_most, none_failing, some_failing}
use Rattle.case_runs.proofs.walk.run_to_failing.Goals as goal

pub loop-count-init : goal.loop-count-init
loop-count-init g c = (refl, passed_none (program_of c.args.judge.now.checker c.args.judge.now.context) c.args.search.now c.args.judge.now.leaves c.requires)

pub loop-count-preserved : goal.loop-count-preserved
loop-count-preserved g c =
    let at = c.loop-count in
    let program = program_of c.args.judge.now.checker c.args.judge.now.context in
    let to = went_to program (program_of at.judge.checker at.judge.context) at.search c.next.new.self at.judge.leaves c.next.new.judge.leaves c.tell.new.self.leaves c.next.new.judge.ending c.sets.result.now
    c.in_ok-next.field-0 at.invariant.0 c.in_ok-next.ensures.same c.in_ok-next.ensures.went c.in_ok-next.ensures.ending c.if-not-branch.false c.in_ok-next.ensures.kept c.sets.ensures.value c.in_ok-tell.ensures.told in (
      c.in_ok-tell.ensures.same ∙ c.in_ok-next.ensures.program ∙ at.invariant.0,
      passed_more program c.args.search.now at.search c.next.new.self at.judge.leaves c.tell.new.self.leaves at.count at.invariant.1 to
          (none_failing c.failures-failures.result c.judge.result.now.failing (failing_from 0 c.tell.new.self.leaves) c.failures-failures.ensures.count
          (c.failures-failures.ensures.those ∙ ap (λ (v : JudgeValue). failing_from 0 v.leaves) c.judge.ensures) c.if-failures-gt0.false),
    )

pub returns-then-not-branch : goal.returns-then-not-branch
returns-then-not-branch g c =
    let at = c.loop-count in
    seeks_ended (program_of c.args.judge.now.checker c.args.judge.now.context) (program_of at.judge.checker at.judge.context) c.args.search.now at.search c.next.new.self at.judge.leaves c.next.new.judge.leaves
    at.count c.args.most c.in_ok-next.field-0 at.invariant.1 c.loop-count-test.true at.invariant.0 c.in_ok-next.ensures.same c.in_ok-next.ensures.went c.if-not-branch.true c.in_ok-next.ensures.kept

pub returns-then-failures-gt0 : goal.returns-then-failures-gt0
returns-then-failures-gt0 g c =
    let at = c.loop-count in
    let program = program_of c.args.judge.now.checker c.args.judge.now.context in
    let to = went_to program (program_of at.judge.checker at.judge.context) at.search c.next.new.self at.judge.leaves c.next.new.judge.leaves c.tell.new.self.leaves c.next.new.judge.ending c.sets.result.now
    c.in_ok-next.field-0 at.invariant.0 c.in_ok-next.ensures.same c.in_ok-next.ensures.went c.in_ok-next.ensures.ending c.if-not-branch.false c.in_ok-next.ensures.kept c.sets.ensures.value c.in_ok-tell.ensures.told in
    seeks_failing program c.args.search.now at.search c.next.new.self at.judge.leaves c.tell.new.self.leaves at.count c.args.most at.invariant.1 to c.loop-count-test.true
    (some_failing c.failures-failures.result c.judge.result.now.failing (failing_from 0 c.tell.new.self.leaves) c.failures-failures.ensures.count
    (c.failures-failures.ensures.those ∙ ap (λ (v : JudgeValue). failing_from 0 v.leaves) c.judge.ensures) c.if-failures-gt0.true)

pub returns : goal.returns
returns g c =
    let at = c.loop-count in
    seeks_most (program_of c.args.judge.now.checker c.args.judge.now.context) c.args.search.now at.search at.judge.leaves at.count c.args.most at.invariant.1 at.auto.count-end c.loop-count-test.false
