-- The memory is there for each checker that wants it.
use Rattle.std.proofs.Common.{ℕ, zero, suc, ◌≡◌, ◌||◌, Bool, true, false, List, [], ◌∷◌, slice_get, Option, None, Some, is_some, refl, subst}
use Rattle.std.specs.List.{list_any}
use Rattle.std.proofs.lemmas.Option.{same_Some}
use Rattle.checker.specs.Checker.{CheckerValue}
use Rattle.checker.specs.Memory.{IsServed, AreServed}

-- where it is there, every checker can be run
always : (guards : Option ℕ) → IsServed true guards
always None = tt
always (Some count) = refl

-- and where it is there if this one has guards, this one can be
pub served_if : (guards : Option ℕ) → IsServed (is_some guards) guards
served_if None = tt
served_if (Some count) = refl

each_served : (checkers : List CheckerValue) (n : ℕ) (c : CheckerValue) → slice_get checkers n ≡ Some c
    → IsServed (list_any (λ (d : CheckerValue). is_some d.guards) checkers) c.guards
each_served [] n c there = absurd (let bad : None ≡ Some c = there in cc)
each_served (d ∷ checkers) zero c there =
    subst (λ (x : CheckerValue). IsServed (is_some d.guards || list_any (λ (e : CheckerValue). is_some e.guards) checkers) x.guards) (same_Some d c there) (first d.guards)
  where
    first : (guards : Option ℕ) → IsServed (is_some guards || list_any (λ (e : CheckerValue). is_some e.guards) checkers) guards
    first None = tt
    first (Some count) = refl
each_served (d ∷ checkers) (suc n) c there = by (is_some d.guards) (each_served checkers n c there)
  where
    by : (b : Bool) → IsServed (list_any (λ (e : CheckerValue). is_some e.guards) checkers) c.guards
        → IsServed (b || list_any (λ (e : CheckerValue). is_some e.guards) checkers) c.guards
    by true rest = always c.guards
    by false rest = rest

-- where it is there if one of them has guards
pub served_where_some : (checkers : List CheckerValue) → AreServed (list_any (λ (c : CheckerValue). is_some c.guards) checkers) checkers
served_where_some checkers = record { each = each_served checkers }

-- a checker with guards has it
pub served_there : (there : Bool) (guards : Option ℕ) (count : ℕ) → guards ≡ Some count → IsServed there guards → there ≡ true
served_there there guards count is served = subst (IsServed there) is served
