use Rattle.std.proofs.lemmas.Result.{on_ok_weaker}
use Rattle.retold.proofs.Tellings.{uncured_is}
use Rattle.retold.proofs.places.put_uncured.Goals as goal

pub returns : goal.returns
returns c =
    on_ok_weaker c.put_line.result
    (λ said.
    uncured_is c.args.subject.now.starts.now c.args.subject.now.lines.now c.args.failures.now _ _ _ _ _ _ c.first_uncured.ensures c.in-Some.is c.in-Some-line_at.ensures
    c.in_ok-push_str.ensures.bytes said)
    c.put_line.ensures
