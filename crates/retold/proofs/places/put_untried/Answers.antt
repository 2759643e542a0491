use Rattle.std.proofs.lemmas.Result.{on_ok_weaker}
use Rattle.retold.proofs.Tellings.{untried_is}
use Rattle.retold.proofs.places.put_untried.Goals as goal

pub returns : goal.returns
returns c = on_ok_weaker c.write.result (λ said. untried_is c.args.entries.now _ _ _ _ c.in_ok-push_str.ensures.bytes c.in_ok-put_entries.ensures said) c.write.ensures.bytes
