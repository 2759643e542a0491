use Rattle.std.proofs.Common.{sym, arith, ◌≡◌}
use Rattle.choices.proofs.Counts.{ways_zero, ways_one, ways_two, ways_three, line_le, square_le, cube_le}
use Rattle.choices.proofs.ways.ways.Goals as goal

pub overflow_mul-result-in_default-3 : goal.overflow_mul-result-in_default-3
overflow_mul-result-in_default-3 c =
    omega (arith, cube_le c.from-fates.result c.from-in_default.result (omega (arith, c.from-fates.ensures, c.requires.fates)) (omega (arith, c.from-in_default.ensures, c.triples.ensures.bound)))

pub returns-in-0-clause-value : goal.returns-in-0-clause-value
returns-in-0-clause-value c = rw c.in-0.is (sym (ways_zero c.args.fates c.args.parts))

pub returns-in-1-clause-value : goal.returns-in-1-clause-value
returns-in-1-clause-value c = rw (c.in-1.is, c.from-fates.ensures, c.from.ensures) (sym (ways_one c.args.fates c.args.parts))

pub returns-in-2-clause-value : goal.returns-in-2-clause-value
returns-in-2-clause-value c = rw (c.in-2.is, c.from-fates.ensures, c.from-in-2.ensures, c.pairs.ensures.value) (sym (ways_two c.args.fates c.args.parts))

pub returns-in_default-clause-value : goal.returns-in_default-clause-value
returns-in_default-clause-value c =
    let three : c.args.size ≡ 3 = omega (arith, c.in_default, c.requires.size) in
    rw (three, c.from-fates.ensures, c.from-in_default.ensures, c.triples.ensures.value) (sym (ways_three c.args.fates c.args.parts))

pub returns-in_default-clause-bound : goal.returns-in_default-clause-bound
returns-in_default-clause-bound c =
    cube_le c.from-fates.result c.from-in_default.result (omega (arith, c.from-fates.ensures, c.requires.fates)) (omega (arith, c.from-in_default.ensures, c.triples.ensures.bound))

pub returns-in-1-clause-few : goal.returns-in-1-clause-few
returns-in-1-clause-few c = λ _. line_le c.from-fates.result c.from.result (omega (arith, c.from-fates.ensures, c.requires.fates)) (omega (arith, c.from.ensures, c.requires.parts))

pub returns-in-2-clause-few : goal.returns-in-2-clause-few
returns-in-2-clause-few c = λ _. square_le c.from-fates.result c.from-in-2.result (omega (arith, c.from-fates.ensures, c.requires.fates)) (omega (arith, c.from-in-2.ensures, c.pairs.ensures.bound))

pub returns-in_default-clause-few : goal.returns-in_default-clause-few
returns-in_default-clause-few c = λ few. absurd (omega (arith, few, c.in_default, c.requires.size))
