-- Devices that agree at what is kept of a run are judged alike.
use Rattle.std.proofs.Common.{ℕ, ◌≡◌, Bool, true, false, if◌then◌else◌, List, slice_get, is_some}
use Rattle.std.proofs.lemmas.List.Elements.{recursion_from_All}
use Rattle.helpers.specs.declared.device.Context.{Context}
use Rattle.helpers.specs.Footprint.{unread}
use Rattle.helpers.proofs.KeptSectors.{kept_covers}
use Rattle.machine.specs.Outcome.{Ending, outcome}
use Rattle.machine.specs.Footprint.{AreAlike, HaveSame, footprint, FootprintTells}
use Rattle.machine.specs.Guards.{GuardedFootprintTells, guarded_footprint, guarded_outcome}
use Rattle.checker.specs.Checker.{CheckerValue, judgement}
use Rattle.checker.specs.Footprints.{footprint_of, IsJudgedAlike, AgreeingAreJudgedAlike}

-- devices that have the same bytes in each sector at which the checker looks
alike : FootprintTells → GuardedFootprintTells → (checker : CheckerValue) (device other : List (List ℕ)) (context : Context) → AreAlike device other
    → HaveSame device other (footprint_of checker device context) → IsJudgedAlike checker device other context
unfolding judgement footprint_of
alike tells guarded checker device other context of_size same = let it = by (is_some checker.guards) same in record { ends = it.0; looks = it.1 }
  where
    ends : Bool → List (List ℕ) → Ending
    ends b d = if b then guarded_outcome checker.program d context checker.limit else outcome checker.program d context checker.limit

    looks : Bool → List (List ℕ) → List ℕ
    looks b d = if b then guarded_footprint checker.program d context checker.limit else footprint checker.program d context checker.limit

    by : (b : Bool) → HaveSame device other (looks b device) → (ends b other ≡ ends b device) × (looks b other ≡ looks b device)
    by true same = let it = guarded checker.program device other context checker.limit of_size same in (it.ends, it.reads)
    by false same = let it = tells checker.program device other context checker.limit of_size same in (it.ends, it.reads)

pub judged_alike : FootprintTells → GuardedFootprintTells → AgreeingAreJudgedAlike
judged_alike tells guarded checker device other context room sectors kept agree =
    let Same : ℕ → Type 0 = λ n. slice_get device n ≡ slice_get other n in
    let same = kept_covers Same (footprint_of checker device context) (unread room) sectors kept (recursion_from_All Same sectors agree.same) in
    alike tells guarded checker device other context (record { count = agree.count; sectors = agree.whole; others = agree.others }) same.0
