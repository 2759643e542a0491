use Rattle.std.proofs.Common.{◌≡◌, ◌<◌, ◌∙◌, sym, ap, length}
use Rattle.std.proofs.lemmas.List.{length-map}
use Rattle.std.specs.Option.{option_map}
use Rattle.ranges.specs.SeenStates.{state_of}
use Rattle.verifier.proofs.Learned.{takes_in}
use Rattle.verifier.proofs.table.Table.learn.Goals as goal

pub returns : goal.returns
returns c =
    let same : length c.self.inside.states.items ≡ length c.args.self.now =
    sym (length-map c.self.inside.states.items (option_map state_of)) ∙ ap (λ t. length t) c.self.view_is in
    let small : c.args.slot < length c.self.inside.states.items = rw same c.requires in
    takes_in c.self.inside.states.items c.args.self.now c.args.slot c.index_mut.result.now c.learn_at.new.known _ (state_of c.args.state.now) small c.self.view_is
    c.index_mut.ensures.value c.learn_at.ensures
