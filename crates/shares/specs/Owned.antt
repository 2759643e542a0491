-- A worker's deque and a stealer of it, as contracts see them.
use Rattle.std.specs.Prelude.{◌≡◌, ℕ, ◌+◌, ◌<◌, List, [], ◌++◌, All}
use Rattle.shares.specs.declared.deque.Port.{Port}
use Rattle.shares.specs.Seats.{times}
use Rattle.shares.specs.Deques.{DequeName, port}

-- a deque: which it is, the owner's parts, what the owner pushed, in order, and what it got; and how many closing marks
pub record DequeValue : Type 0 where
  pub name : DequeName
  pub parts : ℕ
  pub pushed : List ℕ
  pub got : List ℕ
  pub marks_pushed : ℕ
  pub marks_got : ℕ

abbrev pub deque_value : DequeName → Port → DequeValue
deque_value name port = record { name = name; parts = port.parts; pushed = port.pushed; got = port.got; marks_pushed = port.marks_pushed; marks_got = port.marks_got }

-- a deque that has got more
abbrev pub with_got : DequeValue → List ℕ → DequeValue
with_got d more = deque_value d.name (port d.parts d.pushed (d.got ++ more) d.marks_pushed d.marks_got)

-- a deque that has pushed that many marks, and got that many
abbrev pub with_marks : DequeValue → ℕ → ℕ → DequeValue
with_marks d pushed got = deque_value d.name (port d.parts d.pushed d.got pushed got)

-- a stealer: of which deque, and what it got there
pub record OtherValue : Type 0 where
  pub name : DequeName
  pub got : List ℕ
  pub marks_got : ℕ

abbrev pub other_value : DequeName → List ℕ → ℕ → OtherValue
other_value name got marks_got = record { name = name; got = got; marks_got = marks_got }

-- what was pushed and not got is after the list now, each as often
pub record AddsLeft (blocks : ℕ) (deque : DequeValue) (before after : List ℕ) : Type 0 where
  pub left : List ℕ
  pub beyond : after ≡ before ++ left
  pub together : (x : ℕ) → times x deque.pushed ≡ times x deque.got + times x left
  pub below : All (λ (x : ℕ). x < blocks) left
  -- all blocks were given out before a mark
  pub closed : 0 < deque.marks_got → left ≡ []
