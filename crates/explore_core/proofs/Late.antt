-- How many workers found no block left.
use Rattle.std.proofs.Common.{ℕ, ◌≡◌, ◌+◌, Bool, true, false, List, slice_set, slice_get, Option, None, Some, length-set, refl, arith}
use Rattle.explore_core.specs.declared.hand.WorkerHand.{WorkerHand}
use Rattle.explore_core.specs.declared.hand.WorkerHand.TheVariants.{Idle, Holding, Ended, Lost}
use Rattle.explore_core.specs.Counted.{AreCounted}
use Rattle.explore_core.specs.State.{may_draw}
use Rattle.explore_core.proofs.Each.{count_set}

-- who may draw has found a block each time
not_late : (hand : Option WorkerHand) (late : Option Bool) → may_draw hand late ≡ true → late ≡ Some false
not_late None late e = absurd (let bad : false ≡ true = e in cc)
not_late (Some Ended) late e = absurd (let bad : false ≡ true = e in cc)
not_late (Some (Lost b)) late e = absurd (let bad : false ≡ true = e in cc)
not_late (Some Idle) None e = absurd (let bad : false ≡ true = e in cc)
not_late (Some Idle) (Some true) e = absurd (let bad : false ≡ true = e in cc)
not_late (Some Idle) (Some false) e = refl
not_late (Some (Holding b js)) None e = absurd (let bad : false ≡ true = e in cc)
not_late (Some (Holding b js)) (Some true) e = absurd (let bad : false ≡ true = e in cc)
not_late (Some (Holding b js)) (Some false) e = refl

pub counted_late : (blocks next : ℕ) (hand : Option WorkerHand) (marks : List Bool) (w : ℕ) → may_draw hand (slice_get marks w) ≡ true → AreCounted blocks next marks → AreCounted blocks (next + 1) (slice_set marks w true)
counted_late blocks next hand marks w may counted =
    let one_more = count_set (λ (mark : Bool). mark) marks w false true (not_late hand (slice_get marks w) may) in
    record { late = omega (arith, one_more, counted.late); few = omega (arith, length-set marks w true, counted.few) }
