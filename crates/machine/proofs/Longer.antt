-- A verdict is the same within each longer limit.
use Rattle.std.proofs.Common.{ℕ, zero, suc, ◌≡◌, ◌+◌, List, Option, sym, ◌∙◌, arith}
use Rattle.bpf_isa.specs.declared.instr.Instr.{Instr}
use Rattle.machine.specs.Memory.{context_bytes}
use Rattle.machine.specs.State.{State, start}
use Rattle.machine.specs.Step.{Stepped, Next, Done, Fault, step}
use Rattle.machine.specs.Outcome.{Ending, Verdict, Stopped, OutOfSteps, after, steps_end, outcome}
use Rattle.machine.specs.Laws.{OneJudgement}

-- what follows a step is a verdict still, where what follows its state is
after_longer : (first second : State → Ending) (x : Stepped) (a : ℕ) (codes : List ℕ)
    → ((s : State) → first s ≡ Verdict a codes → second s ≡ Verdict a codes) → after first x ≡ Verdict a codes → after second x ≡ Verdict a codes
after_longer first second (Next s) a codes longer ends = longer s ends
after_longer first second (Done b others) a codes longer ends = ends
after_longer first second (Fault cause slot) a codes longer ends = absurd (let bad : Stopped cause slot ≡ Verdict a codes = ends in cc)

pub longer : (program : List (Option Instr)) (bytes : List ℕ) (device : List (List ℕ)) (a : ℕ) (codes : List ℕ) (n m : ℕ) (s : State)
    → steps_end program bytes device n s ≡ Verdict a codes → steps_end program bytes device (n + m) s ≡ Verdict a codes
unfolding steps_end
longer program bytes device a codes zero m s ends = absurd (let bad : OutOfSteps ≡ Verdict a codes = ends in cc)
longer program bytes device a codes (suc n) m s ends =
    let e : suc n + m ≡ suc (n + m) = omega arith in
    rw e
    (after_longer (steps_end program bytes device n) (steps_end program bytes device (n + m)) (step program bytes device s) a codes
    (λ t. longer program bytes device a codes n m t) ends)

pub at_most_one : OneJudgement
unfolding outcome
at_most_one program device context a b codes others x y =
    let bytes : List ℕ = context_bytes context in
    let sum : x.limit + y.limit ≡ y.limit + x.limit = omega arith in
    let left : steps_end program bytes device (x.limit + y.limit) start ≡ Verdict a codes = longer program bytes device a codes x.limit y.limit start x.ends in
    let right : steps_end program bytes device (y.limit + x.limit) start ≡ Verdict b others = longer program bytes device b others y.limit x.limit start y.ends in
    let same : Verdict a codes ≡ Verdict b others = sym left ∙ (rw sum right) in
    (cc, cc)
