-- A refusal is decided by a list of checks in their order: the first that fails names the cause.
use Rattle.std.specs.Prelude.{Bool, if◌then◌else◌, List, [], ◌∷◌, Option, None, Some}

-- a test: the cause that is named where it fails, and whether it passes
pub record Check (Cause : Type 0) : Type 0 where
  pub cause : Cause
  pub passes : Bool

-- the cause of the first check that fails, or none
abbrev pub first_failing : {Cause : Type 0} → List (Check Cause) → Option Cause
first_failing [] = None
first_failing (c ∷ rest) = if c.passes then first_failing rest else Some c.cause

-- the test of that cause
abbrev pub check : {Cause : Type 0} → Cause → Bool → Check Cause
check c b = record { cause = c; passes = b }
