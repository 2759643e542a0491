use Rattle.std.proofs.Common.{◌∙◌, append_assoc}
use Rattle.std.proofs.lemmas.Result.{on_ok_weaker}
use Rattle.losses.specs.CureText.{missing_place}
use Rattle.losses.proofs.cure.text.put_place.Goals as goal

pub returns : goal.returns
unfolding missing_place
returns c = on_ok_weaker c.write.result (λ said. said ∙ simp append_assoc) c.write.ensures.bytes
