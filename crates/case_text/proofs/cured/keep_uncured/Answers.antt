use Rattle.case_text.proofs.Curing.{or_none}
use Rattle.case_text.proofs.cured.keep_uncured.Goals as goal

pub returns-in-Some : goal.returns-in-Some
returns-in-Some c = rw c.in-Some.is (or_none _)
