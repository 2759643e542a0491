use Rattle.std.proofs.lemmas.Result.{on_ok_weaker}
use Rattle.join.specs.Given.{line_told}
use Rattle.retold.proofs.Tellings.{line_printed}
use Rattle.retold.proofs.places.put_line.Goals as goal

pub returns : goal.returns
returns c =
    on_ok_weaker c.write.result
    (λ said.
    line_printed c.args.subject.now.starts.now (line_told c.args.line.now) _ _ _ _ _ _ _ _ _ c.nth-choice.ensures c.args.subject.now.by_is c.cut.ensures c.departures.ensures.value
    c.in_ok-put_words.ensures c.in_ok-put_outcome.ensures c.in_ok-put_departures.ensures said)
    c.write.ensures.bytes
