use Rattle.std.proofs.Common.{◌≡◌, take}
use Rattle.interp.proofs.outcome.copy_codes.Given as goal

abbrev pub invariant-loop-code : goal.invariant-loop-code
invariant-loop-code l = l.copy.items ≡ take l.code-index l.codes
