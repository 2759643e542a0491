use Rattle.std.proofs.Common.{sym, ◌∙◌, ap, arith, [], ◌∷◌, ◌++◌, ◌+◌}
use Rattle.choices.proofs.Plans.{before_none, counted}
use Rattle.choices.proofs.Sums.{before_within, first_sum, one_sum_more}
use Rattle.choices.proofs.starts.sums_of.Goals as goal

pub loop-cut-init : goal.loop-cut-init
loop-cut-init c =
    (sym (before_none _ _ _), first_sum _ _ _ _ (c.in_ok-push.ensures.items ∙ ap (λ xs. xs ++ 0 ∷ []) c.in_ok-sums.ensures.items))

pub overflow_cast-sum : goal.overflow_cast-sum
overflow_cast-sum c =
    let more = counted _ _ _ _ _ _ _ c.cuts-cuts.ensures.value c.loop-cut-test.true c.loop-cut.invariant.0 c.ways_at-own.ensures.value in
    let within = before_within c.args.plan.now c.args.bound c.args.tears (c.loop-cut.cut-index + 1) in
    let all = c.requires.counted in
    omega (arith, more, within, all)

pub overflow_add-sum : goal.overflow_add-sum
overflow_add-sum c =
    let more = counted _ _ _ _ _ _ _ c.cuts-cuts.ensures.value c.loop-cut-test.true c.loop-cut.invariant.0 c.ways_at-own.ensures.value in
    let within = before_within c.args.plan.now c.args.bound c.args.tears (c.loop-cut.cut-index + 1) in
    let all = c.requires.counted in
    omega (arith, more, within, all)

pub loop-cut-preserved : goal.loop-cut-preserved
loop-cut-preserved c =
    let more = counted _ _ _ _ _ _ _ c.cuts-cuts.ensures.value c.loop-cut-test.true c.loop-cut.invariant.0 c.ways_at-own.ensures.value in
    (more, one_sum_more _ _ _ _ _ _ _ c.loop-cut.invariant.1 c.in_ok-push-2.ensures.items more)
