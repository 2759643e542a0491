use Rattle.std.proofs.Common.{arith}
use Rattle.choices.specs.declared.name.Name.{Name}
use Rattle.choices.specs.CrashModel.{IsFate}
use Rattle.lost_text.proofs.Matching.{all_more, all_whole}
use Rattle.lost_text.proofs.lost.are_possible.Goals as goal

pub loop-name-preserved : goal.loop-name-preserved
loop-name-preserved c =
    all_more (λ (n : Name). IsFate c.args.tears n.fate) c.args.names.now c.loop-name.name-index c.name-item.result c.loop-name.invariant c.loop-name-test.true c.name-item.is
    (c.is_possible.ensures.fate c.if-not-is_possible.false)

pub returns-clause-possible : goal.returns-clause-possible
returns-clause-possible c = λ so.
    all_whole (λ (n : Name). IsFate c.args.tears n.fate) c.args.names.now c.loop-name.name-index (omega arith) c.loop-name.invariant
