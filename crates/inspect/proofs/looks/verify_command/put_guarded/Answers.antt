use Rattle.std.proofs.Common.{◌∙◌, append_assoc}
use Rattle.std.proofs.lemmas.Result.{on_ok_weaker}
use Rattle.inspect.specs.Verifying.{guarded_text}
use Rattle.inspect.proofs.looks.verify_command.put_guarded.Goals as goal

pub returns : goal.returns
unfolding guarded_text
returns c = on_ok_weaker c.write.result (λ said. said ∙ simp append_assoc) c.write.ensures.bytes
