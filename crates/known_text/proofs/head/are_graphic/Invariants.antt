use Rattle.std.proofs.Common.{◌≡◌, drop}
use Rattle.std.specs.List.{list_all}
use Rattle.known_text.specs.Texts.{is_graphic}
use Rattle.known_text.proofs.head.are_graphic.Given as goal

abbrev pub invariant-loop-byte : goal.invariant-loop-byte
invariant-loop-byte l = list_all is_graphic (drop l.byte-index l.word) ≡ list_all is_graphic l.word
