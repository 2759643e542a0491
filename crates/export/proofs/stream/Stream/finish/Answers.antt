use Rattle.std.proofs.Common.{◌≡◌, false, sym, ◌∙◌}
use Rattle.export.proofs.stream.Stream.finish.Goals as goal

pub returns-clause-all : goal.returns-clause-all
returns-clause-all g c =
    let going : c.flush_rest.new.self.output.has_failed ≡ false = sym c.is_closed.ensures ∙ c.if-is_closed.false in
    (c.flush_rest.ensures.puts, c.flush_rest.ensures.none going, going)
