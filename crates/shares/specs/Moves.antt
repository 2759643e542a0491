-- What each step on the board's words tells the seat that makes it.
use Rattle.std.specs.Prelude.{◌≡◌, ℕ, ◌+◌, ◌-◌, ◌≤◌, [], ◌++◌}
use Rattle.atomic_table.specs.Table.{Me, Step}
use Rattle.shares.specs.declared.view.SeatStep.TheVariants.{Drew, Posted, SawLeast, SawNext}
use Rattle.shares.specs.declared.view.SeatView.{SeatView}
use Rattle.shares.specs.declared.view.BoardLimits.{BoardLimits}
use Rattle.shares.specs.Steps.{draws, least_posted, next_seen, least_seen, posts, finds}
use Rattle.shares.specs.Board.{view_of, with_step, DrewBelow, ArePosted}

-- the view of the first seat, which has every part
abbrev pub first_view : BoardLimits → SeatView
first_view limits = view_of limits.seats []

abbrev pub newcomer : SeatView
newcomer = view_of 0 []

-- a part for a new seat, and what is left of the first one
abbrev pub one_part : SeatView
one_part = view_of 1 []

abbrev pub less_one : SeatView → SeatView
less_one v = view_of (v.parts - 1) v.steps

-- what two seats know together
abbrev pub joint_view : SeatView → SeatView → SeatView
joint_view v w = view_of (v.parts + w.parts) (v.steps ++ w.steps)

-- the kinds of step: of the step, the seat before, the number found, the seat after
abbrev pub Made : Type 1
Made = Step (Unit {0}) → Me (Unit {0}) SeatView → ℕ → Me (Unit {0}) SeatView → Type 0

abbrev pub draw_move : Made
draw_move st v n w = (w ≡ (with_step v.0 (Drew n), v.1)) × (next_seen v.0.steps ≤ n)

abbrev pub post_move : Made
post_move st v n w = (w ≡ (with_step v.0 (Posted st.first n), v.1)) × (n ≤ least_seen v.0.steps)

abbrev pub saw_least : Made
saw_least st v n w = (w ≡ (with_step v.0 (SawLeast n), v.1)) × (n ≤ least_seen v.0.steps)

abbrev pub saw_next : Made
saw_next st v n w = (w ≡ (with_step v.0 (SawNext n), v.1)) × (next_seen v.0.steps ≤ n)

-- a new seat has no part and knows nothing
abbrev pub enter_move : Made
enter_move st v n w = w ≡ (newcomer, [])

-- who has every part learns which blocks were drawn, and the least image posted; nothing that was seen is beyond them
abbrev pub learned_next : Made
learned_next st v n w = (w ≡ v) × DrewBelow n (λ b. draws b v.0.steps) × (next_seen v.0.steps ≤ n)

abbrev pub learned_least : Made
learned_least st v n w = (w ≡ v) × (n ≡ least_posted v.0.steps) × (n ≤ least_seen v.0.steps) × ArePosted (λ i. finds i v.0.steps) (λ i. posts i v.0.steps)
