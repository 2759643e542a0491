use Rattle.std.proofs.Common.{rules, ◌≤◌, length, arith}
use Rattle.std.proofs.lemmas.Option.{slice_get-get_or}
use Rattle.losses.proofs.Read.{one_read, all_read}
use Rattle.losses.proofs.outcomes.reading.outcomes_of.Goals as goal

pub loop-mark-preserved : goal.loop-mark-preserved
loop-mark-preserved c = (
  rw c.in_ok-push_own.ensures
      (one_read _ _ _ _ _ _ _ _ _ c.loop-mark.invariant.0 (slice_get-get_or c.args.marks.now c.loop-mark.mark-index _ c.loop-mark-test.true) c.read_outcome.ensures),
  search rules,
)

pub returns-clause-read : goal.returns-clause-read
returns-clause-read c =
    let past : length c.args.marks.now ≤ c.loop-mark.mark-index = let out = c.loop-mark-test.false in omega (arith, out) in
    all_read _ _ _ _ _ _ c.loop-mark.invariant.0 past
