use Rattle.std.proofs.Common.{◌∙◌, length, ap}
use Rattle.inspect.proofs.AnyTold.{lost_differences}
use Rattle.inspect.proofs.looks.any_image_command.put_lost.Goals as goal

pub put_differences-requires-clause-each : goal.put_differences-requires-clause-each
put_differences-requires-clause-each c = ap length c.as_slice-2.ensures.value ∙ c.requires.each

pub returns : goal.returns
returns c =
    lost_differences c.args.at.now _ _ _ _ _ _ _ _ c.requires c.as_slice-2.ensures.value c.as_slice.ensures.value c.in_ok-whole.ensures.value c.in_ok-put_differences.ensures
