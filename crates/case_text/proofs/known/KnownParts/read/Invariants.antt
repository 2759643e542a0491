use Rattle.std.proofs.Common.{◌≡◌, take}
use Rattle.cases.specs.AtCut.{case_of}
use Rattle.case_text.specs.Known.{known_of}
use Rattle.case_text.proofs.known.KnownParts.read.Given as goal

abbrev pub invariant-loop-number : goal.invariant-loop-number
invariant-loop-number l = l.self ≡ known_of l.tears (case_of l.tears l.parts l.sets) (take l.number l.parts)
