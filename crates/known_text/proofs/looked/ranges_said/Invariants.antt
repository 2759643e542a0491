use denote.Shadow.{shadow}
use denote.Text.{Utf8}
use Rattle.std.proofs.Common.{length}
use Rattle.known_text.specs.Reading.{HasReadSome}
use Rattle.known_text.proofs.looked.ranges_said.Given as goal

abbrev pub invariant-loop-word : goal.invariant-loop-word
invariant-loop-word l = HasReadSome l.fn.text l.found.items l.rest × shadow (Utf8 l.rest)

abbrev pub decreases-loop-word : goal.decreases-loop-word
decreases-loop-word l = length l.rest
