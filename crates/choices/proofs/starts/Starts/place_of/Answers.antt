use Rattle.std.proofs.Common.{List, ℕ, refl, subst, sym}
use Rattle.choices.specs.Sums.{StartsValue, AreSums}
use Rattle.choices.proofs.Sums.{some_cut, not_below, not_above, found_cut}
use Rattle.choices.proofs.starts.Starts.place_of.Goals as goal

-- the table as it is lent
abbrev table : (v : StartsValue) (sums : List ℕ) → Type 0
table v sums = AreSums v.plan v.bound v.tears sums

pub last_up_to-place-requires-clause-some : goal.last_up_to-place-requires-clause-some
last_up_to-place-requires-clause-some c =
    let own = subst (λ v. table v c.self.inside.sums.items) c.self.view_is c.self.invariant.1 in
    some_cut _ _ _ c.args.number _ (subst (λ xs. table c.args.self.now xs) (sym c.as_slice-sums.ensures.value) own) c.requires

pub last_up_to-place-requires-clause-low : goal.last_up_to-place-requires-clause-low
last_up_to-place-requires-clause-low c =
    let own = subst (λ v. table v c.self.inside.sums.items) c.self.view_is c.self.invariant.1 in
    not_below _ _ _ c.args.number _ (subst (λ xs. table c.args.self.now xs) (sym c.as_slice-sums.ensures.value) own)

pub last_up_to-place-requires-clause-high : goal.last_up_to-place-requires-clause-high
last_up_to-place-requires-clause-high c =
    let own = subst (λ v. table v c.self.inside.sums.items) c.self.view_is c.self.invariant.1 in
    not_above _ _ _ c.args.number _ (subst (λ xs. table c.args.self.now xs) (sym c.as_slice-sums.ensures.value) own) c.requires

pub returns : goal.returns
returns c =
    let own = subst (λ v. table v c.self.inside.sums.items) c.self.view_is c.self.invariant.1 in
    found_cut _ _ _ c.args.number c.last_up_to-place.result _ _ (subst (λ xs. table c.args.self.now xs) (sym c.as_slice-sums.ensures.value) own)
    c.last_up_to-place.ensures refl
