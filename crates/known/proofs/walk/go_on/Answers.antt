use Rattle.std.proofs.Common.{refl, sym, ◌∙◌}
use Rattle.case_runs.proofs.Seeking.{went_to}
use Rattle.known.specs.Records.{program_of, told_ending}
use Rattle.known.proofs.Going.{gone_none, gone_more, went_to_stop, went_to_end, went_to_most}
use Rattle.known.proofs.walk.go_on.Goals as goal

pub loop-count-init : goal.loop-count-init
loop-count-init c = (refl, gone_none (program_of c.args.judge.now.records c.args.judge.now.marks) c.args.stops c.args.search.now c.args.judge.now.leaves c.requires)

pub loop-count-preserved : goal.loop-count-preserved
loop-count-preserved c =
    let at = c.loop-count in
    let program = program_of c.args.judge.now.records c.args.judge.now.marks in
    let to = went_to program (program_of at.judge.records at.judge.marks) at.search c.next.new.self at.judge.leaves c.next.new.judge.leaves c.tell.new.self.leaves (told_ending c.next.new.judge.last) c.sets.result.now
    c.in_ok-next.field-0 at.invariant.0 c.in_ok-next.ensures.same c.in_ok-next.ensures.went c.in_ok-next.ensures.ending c.if-not-branch.false c.in_ok-next.ensures.kept c.sets.ensures.value c.in_ok-tell.ensures.told in (
      c.in_ok-tell.ensures.same ∙ c.in_ok-next.ensures.program ∙ at.invariant.0,
      gone_more program c.args.stops c.args.search.now at.search c.next.new.self at.judge.leaves c.tell.new.self.leaves at.count at.invariant.1 (sym c.if-has_stopped.ensures) to,
    )

pub returns-then-has_stopped : goal.returns-then-has_stopped
returns-then-has_stopped c =
    let at = c.loop-count in
    went_to_stop (program_of c.args.judge.now.records c.args.judge.now.marks) c.args.stops c.args.search.now at.search at.judge.leaves at.count c.args.most at.invariant.1 c.loop-count-test.true
    (sym c.if-has_stopped.ensures)

pub returns-then-not-branch : goal.returns-then-not-branch
returns-then-not-branch c =
    let at = c.loop-count in
    went_to_end (program_of c.args.judge.now.records c.args.judge.now.marks) (program_of at.judge.records at.judge.marks) c.args.stops c.args.search.now at.search c.next.new.self at.judge.leaves
    c.next.new.judge.leaves at.count c.args.most c.in_ok-next.field-0 at.invariant.1 c.loop-count-test.true (sym c.if-has_stopped.ensures) at.invariant.0 c.in_ok-next.ensures.same c.in_ok-next.ensures.went c.if-not-branch.true
    c.in_ok-next.ensures.kept

pub returns : goal.returns
returns c =
    let at = c.loop-count in
    went_to_most (program_of c.args.judge.now.records c.args.judge.now.marks) c.args.stops c.args.search.now at.search at.judge.leaves at.count c.args.most at.invariant.1 at.auto.count-end c.loop-count-test.false
