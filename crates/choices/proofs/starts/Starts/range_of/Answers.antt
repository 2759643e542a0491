use Rattle.std.proofs.Common.{ℕ, List, ◌+◌, subst, sym, arith}
use Rattle.choices.specs.Sums.{StartsValue, AreSums}
use Rattle.choices.proofs.Plans.{before_more}
use Rattle.choices.proofs.starts.Starts.range_of.Goals as goal

-- the table as it is lent
abbrev table : (v : StartsValue) (sums : List ℕ) → Type 0
table v sums = AreSums v.plan v.bound v.tears sums

pub returns-clause-own : goal.returns-clause-own
returns-clause-own c = λ cut wanted.
    let inside = c.requires in
    let own = subst (λ v. table v c.self.inside.sums.items) c.self.view_is c.self.invariant.1 in
    let are = subst (λ xs. table c.args.self.now xs) (sym c.as_slice-sums.ensures.value) own in
    let first = are.each c.args.place (omega (arith, inside)) in
    let end = are.each (c.args.place + 1) (omega (arith, inside)) in
    let more = before_more c.args.self.now.plan c.args.self.now.bound c.args.self.now.tears c.args.place cut wanted in
    omega (arith, more, first, end)
