use Rattle.std.proofs.Common.{rules, ◌≡◌, ◌∙◌, replicate, Option, None}
use Rattle.ranges.specs.declared.state.State.{State}
use Rattle.verifier.proofs.Tables.{all_states, first_is}
use Rattle.verifier.proofs.table.Table.first.Goals as goal

pub returns : goal.returns
returns c =
    let empty : c.resize.new.self.items ≡ replicate {A = Option State} c.args.slots None = search rules in
    c.put_start.ensures ∙ first_is c.args.slots c.resize.new.self.items empty

pub invariant_of-result : goal.invariant_of-result
invariant_of-result c = all_states c.put_start.new.states.items
