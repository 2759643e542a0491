use Rattle.join.proofs.HeadsRead.{device_read}
use Rattle.join.proofs.options.device_said.Goals as goal

pub returns : goal.returns
returns c =
    device_read _ _ _ _ _ _ _ _ _ _ _ _ _ _ _ _ c.next_word.ensures c.next_word-2.ensures c.next_word-3.ensures c.next_word-4.ensures c.next_word-5.ensures c.next_word-6.ensures c.small_number.ensures c.small_number-2.ensures c.kind_said.ensures
