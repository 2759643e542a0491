use Rattle.std.proofs.Common.{◌≡◌, ap, subst}
use Rattle.shares.specs.Seats.{all_steps, AreDrawnOnce}
use Rattle.shares.proofs.Seats.{none_ended, all_taken_once, ok_then, err_both}
use Rattle.shares.proofs.board.Board.gather.Goals as goal

pub returns-clause-unended : goal.returns-clause-unended
returns-clause-unended c =
    let steps : c.together-whole.result.me.0.steps ≡ all_steps c.args.seats.items = ap (λ m. m.0.steps) c.together-whole.ensures.whole in
    err_both c.outcome.result _ _ _ c.outcome.ensures.undrawn c.outcome.ensures.seen_undrawn
    (λ refusal first seen enough. rw (← steps) (none_ended c.args.self.name.blocks refusal.at c.together-whole.result.me.0.steps first.1.there seen))

pub returns-clause-taken : goal.returns-clause-taken
returns-clause-taken c =
    let steps : c.together-whole.result.me.0.steps ≡ all_steps c.args.seats.items = ap (λ m. m.0.steps) c.together-whole.ensures.whole in
    ok_then c.outcome.result _ _ c.outcome.ensures.drawn
    (λ least drawn_once. all_taken_once c.args.self.name c.args.seats.items c.requires (subst (AreDrawnOnce c.args.self.name.blocks) steps drawn_once))
