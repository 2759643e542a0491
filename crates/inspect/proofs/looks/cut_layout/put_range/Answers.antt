use Rattle.std.proofs.Common.{◌∙◌, append_assoc}
use Rattle.std.proofs.lemmas.Result.{on_ok_weaker}
use Rattle.inspect.specs.CutLayout.{range_text}
use Rattle.inspect.proofs.looks.cut_layout.put_range.Goals as goal

pub returns : goal.returns
unfolding range_text
returns c = on_ok_weaker c.write.result (λ said. said ∙ simp append_assoc) c.write.ensures.bytes
