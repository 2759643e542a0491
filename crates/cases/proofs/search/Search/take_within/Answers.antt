use Rattle.std.proofs.Common.{◌∙◌}
use Rattle.cases.specs.Search.{subject_of}
use Rattle.cases.proofs.Paths.{took_one, passed_one, took_none}
use Rattle.cases.proofs.search.Search.take_within.Goals as goal

pub returns-then-not-count_beyond-clause-went : goal.returns-then-not-count_beyond-clause-went
returns-then-not-count_beyond-clause-went c = λ program.
    took_one program c.args.self.now c.taking.self c.take.new.self c.count_beyond.new.self c.in_ok-take.field-0 c.count_beyond.result c.taking.invariant.0 (c.taking.invariant.1 program)
    c.in_ok-take.ensures.same c.in_ok-take.ensures.taken c.if-branch.true c.in_ok-take.ensures.counts.0 c.in_ok-take.ensures.counts.1 c.count_beyond.ensures.only
    (c.count_beyond.ensures.counted program) c.if-not-count_beyond.true

pub taking-preserved : goal.taking-preserved
taking-preserved c = (
  record {
    asked = c.count_beyond.ensures.only.asked ∙ c.in_ok-take.ensures.same.asked ∙ c.taking.invariant.0.asked;
    tears = c.count_beyond.ensures.only.tears ∙ c.in_ok-take.ensures.same.tears ∙ c.taking.invariant.0.tears;
  },
  λ program.
      passed_one program c.args.self.now c.taking.self c.take.new.self c.count_beyond.new.self c.in_ok-take.field-0 c.count_beyond.result c.taking.invariant.0 (c.taking.invariant.1 program)
      c.in_ok-take.ensures.same c.in_ok-take.ensures.taken c.if-branch.true c.in_ok-take.ensures.counts.0 c.in_ok-take.ensures.counts.1 c.count_beyond.ensures.only
      (c.count_beyond.ensures.counted program) c.if-not-count_beyond.false,
)

pub returns-clause-went : goal.returns-clause-went
returns-clause-went c = λ program.
    took_none (subject_of c.args.self.now.asked program) c.args.self.now c.taking.self c.take.new.self c.in_ok-take.field-0 (c.taking.invariant.1 program)
    c.in_ok-take.ensures.taken c.if-branch.false c.in_ok-take.ensures.ended c.in_ok-take.ensures.counts.0 c.in_ok-take.ensures.counts.1
