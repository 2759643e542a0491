use Rattle.std.proofs.Common.{Some, sym, ◌∙◌, ap}
use Rattle.images.specs.Keys.{KeyValue, with_program}
use Rattle.images.proofs.Telling.{other_program}
use Rattle.images.proofs.key.Key.set_program.Goals as goal

pub returns-clause-told : goal.returns-clause-told
returns-clause-told c = λ view old h.
    other_program view old c.args.program _ h ∙ ap (λ (k : KeyValue). Some (with_program k c.args.program)) (sym c.self.view_is)
