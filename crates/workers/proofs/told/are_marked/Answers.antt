use Rattle.std.proofs.Common.{ℕ, take, ap, sym, ◌∙◌, arith}
use Rattle.std.proofs.lemmas.Option.{slice_get_within, slice_get-get_or}
use Rattle.workers.proofs.Marking.{none_marked, all_marked, marked_on, unmarked_on}
use Rattle.workers.proofs.told.are_marked.Goals as goal
use Rattle.workers.proofs.told.are_marked.Goals.{then-marks-place+else-not-stands, else-marks-place}

pub returns : goal.returns
returns c = all_marked c.args.marks.now c.args.picks.now c.args.own.now c.loop-place.place c.loop-place.seen c.loop-place-test.false c.loop-place.invariant.2

pub loop-place-init : goal.loop-place-init
loop-place-init c = (omega arith, omega arith, none_marked c.args.marks.now)

pub loop-place-preserved : goal.loop-place-preserved
loop-place-preserved c = elim c.if-marks-place.branch [
  | then-marks-place+else-not-stands w ↦
      let next = w.stands.ensures w.if-not-stands.false in
      let on = marked_on c.args.marks.now c.args.picks.now c.args.own.now c.loop-place.place c.loop-place.seen _
      (slice_get-get_or c.args.picks.now c.loop-place.place _ c.loop-place-test.true) w.if-marks-place.true next c.loop-place.invariant.2 in
      let within = slice_get_within c.args.own.now c.loop-place.seen _ next in
      (omega arith, omega (arith, within), on ∙ ap (λ (n : ℕ). take n c.args.own.now) (sym w.seen-is))
  | else-marks-place w ↦
      let on = unmarked_on c.args.marks.now c.args.picks.now c.args.own.now c.loop-place.place c.loop-place.seen _
      (slice_get-get_or c.args.picks.now c.loop-place.place (record { part = 0; fate = 0 }) c.loop-place-test.true) w.if-marks-place.false c.loop-place.invariant.2 in
      (omega arith, omega arith, on ∙ ap (λ (n : ℕ). take n c.args.own.now) (sym w.seen-is))
]
