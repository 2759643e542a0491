use Rattle.std.proofs.Common.{◌≡◌, ◌+◌, ◌-◌, ◌∷◌, length, refl, ap, arith}
use Rattle.std.specs.Vec.Iter.{into_iter_items}
use Rattle.case_runs.specs.Shares.{cut_in}
use Rattle.case_runs.proofs.Stretching.{none_left}
use Rattle.case_runs.proofs.Joined.{comes_first, comes_starts, comes_numbers, comes_on, comes_past, comes_whole}
use Rattle.case_runs.proofs.joining.joined_at.Goals as goal

pub loop-piece-init : goal.loop-piece-init
loop-piece-init g c = (
  comes_first c.args.work.now c.args.number c.args.program c.args.checker.now _ c.args.pieces.items _ (refl, refl, refl) c.new.ensures.items c.requires.checker
      c.into_iter-piece-iterator.ensures.into_iter_gives.0 c.requires.pieces,
  omega arith,
  (let gives = c.into_iter-piece-iterator.ensures.into_iter_gives.1 in
      let ok = c.args.pieces.ok in
      let same = ap length c.into_iter-piece-iterator.ensures.into_iter_gives.0 in
      omega (arith, gives, ok, same)),
)

pub found_of-requires-clause-start : goal.found_of-requires-clause-start
found_of-requires-clause-start g c =
    comes_starts c.args.work.now.asked (cut_in c.args.work.now c.args.number) c.args.checker.now c.loop-piece.found (into_iter_items c.loop-piece.piece-iterator) (into_iter_items c.next.new.self) c.in-Some.piece
    c.loop-piece.invariant.0 c.in-Some.ensures.steps.0

pub put_found-requires : goal.put_found-requires
put_found-requires g c =
    comes_numbers c.args.work.now.asked (cut_in c.args.work.now c.args.number) c.args.checker.now c.loop-piece.found c.in_ok-more.more (into_iter_items c.loop-piece.piece-iterator) (into_iter_items c.next.new.self)
    c.in-Some.piece _ c.loop-piece.invariant.0 c.in-Some.ensures.steps.0 c.in_ok-more.ensures

pub loop-piece-preserved : goal.loop-piece-preserved
loop-piece-preserved g c =
    let at = c.loop-piece in
    let x = c.in-Some.piece in
    let steps : into_iter_items at.piece-iterator ≡ x ∷ into_iter_items c.next.new.self = c.in-Some.ensures.steps.0 in
    let low = at.invariant.1 in
    let room : c.args.left + 1 - at.found.cases + at.found.cases ≡ c.args.left + 1 = omega (arith, low) in
    let on = comes_on c.args.work.now.asked (cut_in c.args.work.now c.args.number) c.args.checker.now at.found c.in_ok-more.more c.put_found.new.found (into_iter_items at.piece-iterator)
    (into_iter_items c.next.new.self) x (c.args.left + 1 - at.found.cases) c.args.left c.in_ok-put_found.field-0 at.invariant.0 steps c.in_ok-more.ensures room c.in_ok-put_found.ensures c.if-not-branch.false in (
      on.0,
      on.1,
      let was = at.invariant.2 in
          let gone = c.in-Some.ensures.steps.1 in
          let short = ap length steps in
          omega arith,
    )

pub returns-then-not-branch-clause-many : goal.returns-then-not-branch-clause-many
returns-then-not-branch-clause-many g c = (
  refl,
  comes_past c.args.work.now.asked (cut_in c.args.work.now c.args.number) c.args.checker.now c.loop-piece.found c.in_ok-more.more c.put_found.new.found (into_iter_items c.loop-piece.piece-iterator)
      (into_iter_items c.next.new.self) c.in-Some.piece _ c.args.left c.in_ok-put_found.field-0 c.loop-piece.invariant.0 c.in-Some.ensures.steps.0 c.in_ok-more.ensures c.in_ok-put_found.ensures
      c.if-not-branch.true,
)

pub returns-clause-found : goal.returns-clause-found
returns-clause-found g c =
    let at = c.loop-piece in
    comes_whole c.args.work.now.asked (cut_in c.args.work.now c.args.number) c.args.checker.now at.found (into_iter_items at.piece-iterator) at.invariant.0
    (none_left (into_iter_items at.piece-iterator) _ at.invariant.2 c.in-None.ensures.steps.0)
