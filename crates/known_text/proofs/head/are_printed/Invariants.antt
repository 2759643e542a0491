use Rattle.std.proofs.Common.{◌≡◌, drop}
use Rattle.std.specs.List.{list_all}
use Rattle.known_text.specs.Texts.{is_printed}
use Rattle.known_text.proofs.head.are_printed.Given as goal

abbrev pub invariant-loop-byte : goal.invariant-loop-byte
invariant-loop-byte l = list_all is_printed (drop l.byte-index l.words) ≡ list_all is_printed l.words
