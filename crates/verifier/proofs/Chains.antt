-- What a state contains that another is joined to.
use Rattle.ranges.specs.States.{Abstract, join_state, StateContains}
use Rattle.ranges.specs.Order.{IsState}
use Rattle.ranges.proofs.Chains.{state_self, state_chain}
use Rattle.ranges.proofs.Covering.{state_first, state_other, state_same, state_under}
use Rattle.ranges.proofs.Fitting.{join_state_fits}

-- the join contains the second
pub contains_other : (s t : Abstract) → IsState s → IsState t → StateContains (join_state s t) t
contains_other s t a b = state_same (join_state s t) t (join_state_fits s t a b) b (state_other s t a b)

-- and all that the first does
pub contains_more : (s t u : Abstract) → IsState s → IsState t → IsState u → StateContains s u → StateContains (join_state s t) u
contains_more s t u a b c e =
    state_same (join_state s t) u (join_state_fits s t a b) c
    (state_chain u s (join_state s t) (state_under s u a c e) (state_first s t a b))

-- a state contains itself
pub contains_self : (s : Abstract) → IsState s → StateContains s s
contains_self s a = state_same s s a a (state_self s)
