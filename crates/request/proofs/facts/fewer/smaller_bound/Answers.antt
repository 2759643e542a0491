use Rattle.std.proofs.Common.{ℕ, ◌≡◌, ◌+◌, ◌-◌, Option, sym, subst, arith}
use Rattle.request.specs.Fewer.{CountsImages, TooManyFrom}
use Rattle.request.proofs.Bounds.{too_many_more}
use Rattle.request.proofs.facts.fewer.smaller_bound.Goals as goal

pub loop-bound-preserved : goal.loop-bound-preserved
loop-bound-preserved c =
    let some = c.loop-bound-test.true in
    let back : c.loop-bound.bound - 1 + 1 ≡ c.loop-bound.bound = omega (arith, some) in
    too_many_more c.args.most c.args.plan.now c.args.tears (c.loop-bound.bound - 1) c.args.below
    (subst (λ (n : ℕ). TooManyFrom c.args.most c.args.plan.now c.args.tears n c.args.below) (sym back) c.loop-bound.invariant)
    (subst (λ (o : Option ℕ). CountsImages c.args.most c.args.plan.now (c.loop-bound.bound - 1) c.args.tears o) c.in_default.is c.images_of.ensures)
