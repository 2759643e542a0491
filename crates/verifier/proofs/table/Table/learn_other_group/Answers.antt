use Rattle.verifier.specs.Ways.{passed_along}
use Rattle.verifier.proofs.Ways.{goes_along, group_of_state}
use Rattle.verifier.proofs.table.Table.learn_other_group.Goals as goal

pub returns : goal.returns
returns c =
    goes_along c.args.way.now c.self.inside.states.items c.args.self.now c.index_mut.result.now c.tell_group_at.new.known _ c.requires.way c.self.view_is
    c.index_mut.ensures.value
    (λ s known is. c.tell_group_at.ensures.tells (passed_along c.args.way.now s) is
    (group_of_state c.args.way.now _ s _ c.args.n _ (rw c.in-Some.is at c.state.ensures) known c.group_at-group.ensures))
