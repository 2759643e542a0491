-- The memory with which checkers are run (docs/MACHINE.md, Memory).
use Rattle.std.specs.Prelude.{ℕ, ◌≡◌, Bool, true, List, slice_get, Option, None, Some}
use Rattle.checker.specs.Checker.{CheckerValue}

-- whether a checker can be run with the memory at hand, which is there or isn't: a program with guards has some of its own
abbrev pub IsServed : Bool → Option ℕ → Type 0
IsServed there None = Unit {0}
IsServed there (Some count) = there ≡ true

-- each of the checkers can be
pub record AreServed (there : Bool) (checkers : List CheckerValue) : Type 0 where
  pub each : (n : ℕ) (c : CheckerValue) → slice_get checkers n ≡ Some c → IsServed there c.guards
