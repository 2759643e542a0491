-- Accepted programs run safely: a good table covers the machine, and so the run has no fault and ends.
use Rattle.std.proofs.Common.{◌≡◌, ℕ, false, List, Option, refl, subst}
use Rattle.base.specs.declared.causes.MachineFault.{MachineFault}
use Rattle.bpf_isa.specs.declared.instr.Instr.{Instr}
use Rattle.bpf_shape.proofs.Kept.{shaped_with_guards}
use Rattle.helpers.specs.declared.device.Context.{Context}
use Rattle.machine.specs.Memory.{context_bytes}
use Rattle.machine.specs.Outcome.{outcome}
use Rattle.machine.specs.Step.{Stepped, Fault}
use Rattle.verifier.specs.Good.{IsGoodWith}
use Rattle.verifier.specs.Verdicts.{VerifiedValue, IsVerified}
use Rattle.soundness.specs.Machines.{IsSetting}
use Rattle.soundness.specs.Reaching.{StepsWithoutFault, FaultsAreOfSteps}
use Rattle.soundness.specs.Ending.{EndsWithin, RunsEndWithinBudget}
use Rattle.soundness.specs.Laws.{IsNoFault}
use Rattle.soundness.specs.Accepted.{IsImage, IsSafeRun, AcceptedRunsSafely}
use Rattle.soundness.proofs.Tables.{table_covers}

pub setting : (v : VerifiedValue) (device : List (List ℕ)) (context : Context) → IsVerified v → IsImage v.sectors device context → IsSetting v.program v.sectors device context
setting v device context verified image = record {
  made = verified.program;
  shaped = shaped_with_guards v.guards v.program verified.shape;
  count = image.count;
  few = verified.device;
  whole = image.whole;
  told = image.told;
  epoch = image.epoch;
  marks = image.marks;
}

no_fault : (x : Stepped) (cause : MachineFault) (slot : ℕ) → IsNoFault x → x ≡ Fault cause slot → ⊥
no_fault x cause slot h e = subst IsNoFault e h

faultless : (v : VerifiedValue) (device : List (List ℕ)) (context : Context) → v.guards ≡ false → IsVerified v → IsImage v.sectors device context
    → StepsWithoutFault v.program (context_bytes context) device
faultless v device context without verified image = λ n s cause slot reached fault.
    let good = subst (λ g. IsGoodWith g v.program v.sectors v.table) without verified.table.good in
    no_fault _ cause slot
    (table_covers.sound v.program v.sectors device context v.table n s (setting v device context verified image) good reached) fault

ends : (program : List (Option Instr)) (device : List (List ℕ)) (context : Context) (budget : ℕ)
    → StepsWithoutFault program (context_bytes context) device → EndsWithin program (context_bytes context) device budget → IsSafeRun program device context budget
unfolding outcome
ends program device context budget steps e = record { faultless = steps; answer = e.answer; codes = e.codes; ends = e.verdict }

pub runs_safely : RunsEndWithinBudget → FaultsAreOfSteps → AcceptedRunsSafely
runs_safely end faults program sectors budget device context accepted image =
    let v : VerifiedValue = record { guards = false; program = program; sectors = sectors; budget = budget; table = accepted.0 } in
    let steps = faultless v device context refl accepted.1 image in
    ends program device context budget steps
    (end false program (context_bytes context) device budget accepted.1.program accepted.1.shape accepted.1.budget ((faults program (context_bytes context) device).1 steps))
