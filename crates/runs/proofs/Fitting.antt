-- How the programs of a run are run, and that they are for the device of its log.
use Rattle.std.proofs.Common.{ℕ, ◌≡◌, Bool, List, [], ◌∷◌, Option, None, Some, sym, subst}
use Rattle.bpf_isa.specs.declared.instr.Instr.{Instr}
use Rattle.logfmt.specs.Bounds.{LogValue}
use Rattle.epochs.specs.Plan.{PlanValue}
use Rattle.checker.specs.Checker.{CheckerValue, checker_of, IsFor, AreFor}
use Rattle.request.specs.declared.settings.Settings.{Settings}
use Rattle.verifier.specs.Verdicts.{VerifiedValue, IsVerified}
use Rattle.runs.specs.Programs.{IsRunWithin, AreFirstMade}
use Rattle.request.specs.Source.{plan_of}

-- an accepted program is run as it was asked
pub accepted_within : (checked : Option ℕ) (guards : Bool) (sectors : ℕ) (v : VerifiedValue) (c : CheckerValue) → checked ≡ None → IsVerified v → v.guards ≡ guards → v.sectors ≡ sectors
    → c ≡ checker_of v → IsRunWithin checked guards sectors c
accepted_within None guards sectors v c free is kind size made = record { verified = v; is = is; kind = kind; size = size; made = made }
accepted_within (Some limit) guards sectors v c free is kind size made = absurd (let bad : Some limit ≡ None = free in cc)

one_fits : (checked : Option ℕ) (guards : Bool) (sectors : ℕ) (c : CheckerValue) → IsRunWithin checked guards sectors c → IsFor sectors c.verified
one_fits None guards sectors c within = subst (λ (x : CheckerValue). IsFor sectors x.verified) (sym within.made) within.size
one_fits (Some limit) guards sectors c within = subst (λ (v : Option ℕ). IsFor sectors v) (sym within.verified) tt

pub made_fit : (s : Settings) (programs : List (List (Option Instr))) (checkers : List CheckerValue) → AreFirstMade s programs checkers → AreFor s.sectors checkers
made_fit s programs [] made = tt
made_fit s [] (c ∷ checkers) made = absurd made
made_fit s (slots ∷ programs) (c ∷ checkers) made = (one_fits s.checked s.guards s.sectors c made.1, made_fit s programs checkers made.2)

pub fit_plan : (s : Settings) (value : LogValue) (plan : PlanValue) (checkers : List CheckerValue)
    → plan ≡ plan_of s value → value.sectors ≡ s.sectors → AreFor s.sectors checkers → AreFor plan.log.sectors checkers
fit_plan s value plan checkers of_log device fit =
    subst (λ (p : PlanValue). AreFor p.log.sectors checkers) (sym of_log) (subst (λ sectors. AreFor sectors checkers) (sym device) fit)
