-- What is asked of the cases of any number of losses, and when there are more than a run may have (docs/CRASH-MODEL.md, Any number of
-- losses).
use Rattle.std.specs.Prelude.{ℕ, Bool, true, false, if◌then◌else◌, List, Option, None, Some}
use Rattle.logfmt.specs.Bounds.{LogValue}
use Rattle.epochs.specs.declared.part.By.{By}
use Rattle.checker.specs.Checker.{CheckerValue}
use Rattle.losses.specs.declared.found.Losses.{Losses}
use Rattle.case_runs.specs.Cuts.{case_cuts}
use Rattle.case_runs.specs.Found.{AreTooMany}
use Rattle.case_runs.specs.First.{PassesMostIn}
use Rattle.losses.specs.declared.found.CutFound.{CutFound}
use Rattle.case_text.specs.Text.{count_torn_beyond, count_lost_beyond, is_any_failing}
use Rattle.request.specs.declared.any_losses.AnyLosses.{AnyLosses}
use Rattle.request.specs.declared.facts.left_out.LeftOut.{LeftOut}
use Rattle.request.specs.declared.settings.Settings.{Settings}

-- what is asked: whether parts may be torn, how many, and, if that is bounded, how many may not be whole
abbrev pub losses_of : AnyLosses → Settings → Losses
losses_of l s = record { tears = s.tears; torn = l.torn; lost = l.at_most }

-- there are more cases than a run may have, by the cut with which there are; and where the first that fails is asked for, none of those
-- that it may have fails
abbrev pub AreMore : Bool → Losses → LogValue → By → List ℕ → List CheckerValue → ℕ → Type 0
AreMore false asked value way cuts checkers cut = AreTooMany asked value way cuts checkers cut
AreMore true asked value way cuts checkers cut = PassesMostIn asked value way cuts checkers cut

abbrev pub HasTooMany : AnyLosses → Settings → LogValue → List CheckerValue → ℕ → Type 0
HasTooMany l s value checkers cut = AreMore s.first (losses_of l s) value s.by (case_cuts l.at_most s.cuts value.entries) checkers cut

-- there are more where all are asked for, by the cut with which there are
abbrev pub HasMore : AnyLosses → Settings → LogValue → List CheckerValue → ℕ → Type 0
HasMore l s value checkers cut = AreMore false (losses_of l s) value s.by (case_cuts l.at_most s.cuts value.entries) checkers cut

-- how many cases were left out, where none that was found fails
abbrev pub left_out_of : List CutFound → Option LeftOut
left_out_of found = if is_any_failing found then None else Some (record { torn = count_torn_beyond found; lost = count_lost_beyond found })
