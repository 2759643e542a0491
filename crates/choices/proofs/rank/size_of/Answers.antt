use Rattle.std.proofs.Common.{arith, add-one, ◌≡◌, ◌+◌, ◌<◌}
use Rattle.choices.specs.Ways.{ways_below}
use Rattle.choices.proofs.Counts.{ways_below_none, ways_below_more}
use Rattle.choices.proofs.rank.size_of.Goals as goal

pub loop-size-init : goal.loop-size-init
loop-size-init c = omega (arith, ways_below_none c.args.fates c.args.parts)

pub loop-size-preserved : goal.loop-size-preserved
loop-size-preserved c =
    omega (arith, ways_below_more c.args.fates c.loop-size.size c.args.parts, c.loop-size.invariant, c.ways-own.ensures.value, c.if-rest-own.false)

pub returns-clause-rest : goal.returns-clause-rest
returns-clause-rest c =
    let last : c.loop-size.size ≡ c.args.bound = omega (arith, c.loop-size-test.false, c.loop-size.auto.size-end) in
    let sum : c.args.number ≡ ways_below c.args.fates c.args.bound c.args.parts + c.loop-size.rest = rw (← last) c.loop-size.invariant in
    let all : c.args.number < ways_below c.args.fates (c.args.bound + 1) c.args.parts = rw (add-one c.args.bound) c.requires.number in
    omega (arith, sum, all, ways_below_more c.args.fates c.args.bound c.args.parts)
