use Rattle.std.proofs.Common.{◌≡◌, true, take}
use Rattle.case_text.specs.Known.{is_never_gone}
use Rattle.case_text.proofs.fates.is_never_gone.Given as goal

abbrev pub invariant-loop-fate : goal.invariant-loop-fate
invariant-loop-fate l = is_never_gone (take l.fate-index l.fates) ≡ true
