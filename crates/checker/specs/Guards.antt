-- What guards do to a program that is accepted without them (docs/MACHINE.md, Guards; docs/VERIFIER.md, Guards).
use Rattle.std.specs.Prelude.{ℕ, ◌≡◌, false, List}
use Rattle.helpers.specs.declared.device.Context.{Context}
use Rattle.machine.specs.Footprint.{footprint}
use Rattle.machine.specs.Guards.{guarded_footprint}
use Rattle.verifier.specs.Guards.{with_guards}
use Rattle.verifier.specs.Verdicts.{VerifiedValue, IsVerified}
use Rattle.soundness.specs.Accepted.{IsImage}
use Rattle.checker.specs.Checker.{checker_of, judgement}

-- accepted with guards it ends in the same on an image, and looks at the same sectors
pub record IsJudgedAlike (v : VerifiedValue) (device : List (List ℕ)) (context : Context) : Type 0 where
  pub accepted : IsVerified (with_guards v)
  pub ends : judgement (checker_of (with_guards v)) device context ≡ judgement (checker_of v) device context
  pub reads : guarded_footprint v.program device context v.budget ≡ footprint v.program device context v.budget

-- guards change nothing of a program that is accepted without them
abbrev pub GuardsChangeNoJudgement : Type 0
GuardsChangeNoJudgement = (v : VerifiedValue) (device : List (List ℕ)) (context : Context) → IsVerified v → v.guards ≡ false → IsImage v.sectors device context
    → IsJudgedAlike v device context
