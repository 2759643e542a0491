use Rattle.std.proofs.Common.{◌≡◌, ◌<◌, ◌∙◌, sym, length, true, false}
use Rattle.ranges.proofs.Typed.{each_state_fits}
use Rattle.verifier.specs.Seen.{arrival_of}
use Rattle.verifier.proofs.Marks.{kept_marked}
use Rattle.verifier.proofs.rounds.arrive.Goals as goal

pub returns-clause-kept : goal.returns-clause-kept
returns-clause-kept c =
    let inside : c.args.arrival.now.slot < length c.args.marks.now.items = rw c.requires.marks c.requires.slot in
    rw c.receive.ensures
    (kept_marked c.args.table.now c.args.marks.now.items (arrival_of c.args.arrival.now) inside c.requires.slot c.slots-states.ensures.states (each_state_fits c.args.arrival.now.state)
    (λ known. let there = c.covers.ensures.1 known in let bad : false ≡ true = sym c.if-covers.false ∙ there in cc))
