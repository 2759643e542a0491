use Rattle.std.proofs.Common.{ap}
use Rattle.workers.specs.Failing.{Subject}
use Rattle.workers.proofs.Stretching.{cut_fits, parts_are, last_fits}
use Rattle.workers.proofs.input.Input.reach.Goals as goal

pub volatile-parts-requires : goal.volatile-parts-requires
volatile-parts-requires c =
    cut_fits c.args.self.now c.self.inside.plan.now c.args.picked.now c.cut.result (ap (λ (s : Subject). s.plan) c.self.view_is) c.cut.ensures c.requires.member

pub stretch-requires-clause-part : goal.stretch-requires-clause-part
stretch-requires-clause-part c =
    (last_fits c.args.self.now c.self.inside.asked.tears c.args.picked.now c.picks-picks.result.now c.fates.result _ c.volatile-parts.result (record {
      tears_is = ap (λ (s : Subject). s.tears) c.self.view_is;
      picks_is = c.picks-picks.ensures.value;
      some = c.if-is_empty.ensures;
      fates = c.fates.ensures;
      number = c.requires.member.0;
      ranked = c.requires.member.1;
    })
    (parts_are c.args.self.now c.self.inside.plan.now c.args.picked.now c.cut.result c.volatile-parts.result (ap (λ (s : Subject). s.plan) c.self.view_is) c.cut.ensures c.volatile-parts.ensures.value)).0

pub stretch-requires-clause-fate : goal.stretch-requires-clause-fate
stretch-requires-clause-fate c =
    (last_fits c.args.self.now c.self.inside.asked.tears c.args.picked.now c.picks-picks.result.now c.fates.result _ c.volatile-parts.result (record {
      tears_is = ap (λ (s : Subject). s.tears) c.self.view_is;
      picks_is = c.picks-picks.ensures.value;
      some = c.if-is_empty.ensures;
      fates = c.fates.ensures;
      number = c.requires.member.0;
      ranked = c.requires.member.1;
    })
    (parts_are c.args.self.now c.self.inside.plan.now c.args.picked.now c.cut.result c.volatile-parts.result (ap (λ (s : Subject). s.plan) c.self.view_is) c.cut.ensures c.volatile-parts.ensures.value)).1
