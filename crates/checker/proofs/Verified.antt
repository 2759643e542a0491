-- How a run of a verified program ends where it may judge.
use Rattle.std.proofs.Common.{ℕ, ◌≡◌, Bool, true, false, if◌then◌else◌, List, length, Option, None, Some, refl, sym, ap, ◌∙◌, subst}
use Rattle.std.proofs.lemmas.Option.{same_Some}
use Rattle.bpf_isa.specs.declared.instr.Instr.{Instr}
use Rattle.helpers.specs.declared.device.Context.{Context}
use Rattle.machine.specs.Outcome.{outcome}
use Rattle.machine.specs.Guards.{guarded_outcome}
use Rattle.verifier.specs.Least.{IsLeast}
use Rattle.verifier.specs.Verdicts.{VerifiedValue, IsAccepted, IsVerified}
use Rattle.soundness.specs.Accepted.{IsImage, IsSafeRun, AcceptedRunsSafely}
use Rattle.soundness.specs.Guards.{GuardedRunsSafely}
use Rattle.plain.specs.Runs.{IsVerdict}
use Rattle.plain.specs.Guards.{GuardsValue, IsGuardedEnd}
use Rattle.verifier.specs.Guards.{guarded_slots}
use Rattle.checker.specs.Checker.{CheckerValue, guards_in, checker_of, guards_of, guarded_of, IsOfVerified, IsCheckerFor, IsChecker, Suits}
use Rattle.checker.proofs.Guarded.{guarded_end}

-- a checker that was verified is an accepted program
of_verified : (c : CheckerValue) (guarded : Option GuardsValue) (sectors : ℕ) → c.verified ≡ Some sectors → IsChecker c guarded
    → (v : VerifiedValue) × IsOfVerified c guarded v
of_verified c guarded sectors verified is = subst (IsCheckerFor c guarded) verified is

-- for which it suits
suits_it : (c : CheckerValue) (v : VerifiedValue) (device : List (List ℕ)) (context : Context) → c ≡ checker_of v → Suits c.verified device context
    → IsImage v.sectors device context
suits_it c v device context same suits = subst (λ (x : CheckerValue). Suits x.verified device context) same suits

-- without guards

safe_verdict : (program : List (Option Instr)) (device : List (List ℕ)) (context : Context) (budget : ℕ)
    → IsSafeRun program device context budget → IsVerdict (outcome program device context budget)
safe_verdict program device context budget safe = subst IsVerdict (sym safe.ends) tt

accepted : (v : VerifiedValue) → IsVerified v → v.guards ≡ false → IsAccepted v.program v.sectors v.budget
accepted v is none = (
  v.table,
  record {
    some = is.some;
    device = is.device;
    program = is.program;
    shape = rw none at is.shape;
    budget = is.budget;
    limit = is.limit;
    table = subst (λ (g : Bool). IsLeast g v.program v.sectors v.table) none is.table;
  },
)

no_guards : (v : VerifiedValue) → guards_in v ≡ None → v.guards ≡ false
no_guards v none = by v.guards none
  where
    by : (b : Bool) → (if b then Some (length (guarded_slots v.program v.table)) else None) ≡ None → b ≡ false
    by true h = absurd (let bad : Some (length (guarded_slots v.program v.table)) ≡ None = h in cc)
    by false h = refl

pub ends_verified : AcceptedRunsSafely → (c : CheckerValue) (guarded : Option GuardsValue) (device : List (List ℕ)) (context : Context) (sectors : ℕ)
    → c.verified ≡ Some sectors → c.guards ≡ None → IsChecker c guarded → Suits c.verified device context → IsVerdict (outcome c.program device context c.limit)
ends_verified sound c guarded device context sectors verified none is suits =
    let it = of_verified c guarded sectors verified is in
    let v = it.0 in
    let same = it.1.checker in
    let none_of : v.guards ≡ false = no_guards v (sym (ap (λ (x : CheckerValue). x.guards) same) ∙ none) in
    subst (λ (x : CheckerValue). IsVerdict (outcome x.program device context x.limit)) (sym same)
    (safe_verdict v.program device context v.budget
    (sound v.program v.sectors v.budget device context (accepted v it.1.verified none_of) (suits_it c v device context same suits)))

-- with guards

-- a run of the checker by what a run with guards takes ends in a verdict, or strays at a guarded slot
abbrev pub EndsGuarded : CheckerValue → GuardsValue → List (List ℕ) → Context → Type 0
EndsGuarded c g device context = IsGuardedEnd g.guarded (guarded_outcome g.program device context c.limit)

-- where an accepted program has guards, they are these
guards_there : (v : VerifiedValue) (g : GuardsValue) → guarded_of v ≡ Some g → (v.guards ≡ true) × (record { program = v.program; guarded = guards_of v } ≡ g)
guards_there v g there = by v.guards refl there
  where
    by : (b : Bool) → v.guards ≡ b → (if b then Some (record { program = v.program; guarded = guards_of v }) else None) ≡ Some g
        → (v.guards ≡ true) × (record { program = v.program; guarded = guards_of v } ≡ g)
    by true e h = (e, same_Some (record { program = v.program; guarded = guards_of v }) g h)
    by false e h = absurd (let bad : None ≡ Some g = h in cc)

of_guarded : GuardedRunsSafely → (c : CheckerValue) (v : VerifiedValue) (g : GuardsValue) (device : List (List ℕ)) (context : Context)
    → IsOfVerified c (Some g) v → Suits c.verified device context → EndsGuarded c g device context
of_guarded sound c v g device context it suits =
    let has = guards_there v g (sym it.held) in
    let same = it.checker in
    let run = sound v device context it.verified has.0 (suits_it c v device context same suits) in
    let own : EndsGuarded (checker_of v) (record { program = v.program; guarded = guards_of v }) device context =
    guarded_end v (guarded_outcome v.program device context v.budget) run.ends in
    subst (λ (x : CheckerValue). EndsGuarded x g device context) (sym same)
    (subst (λ (h : GuardsValue). EndsGuarded (checker_of v) h device context) has.1 own)

pub ends_guarded : GuardedRunsSafely → (c : CheckerValue) (guarded : Option GuardsValue) (g : GuardsValue) (device : List (List ℕ)) (context : Context)
    → guarded ≡ Some g → IsChecker c guarded → Suits c.verified device context → EndsGuarded c g device context
ends_guarded sound c guarded g device context there is suits = by c.verified refl (subst (IsChecker c) there is)
  where
    by : (o : Option ℕ) → c.verified ≡ o → IsCheckerFor c (Some g) o → EndsGuarded c g device context
    by None e none = absurd (let bad : Some g ≡ None = none in cc)
    by (Some sectors) e own = of_guarded sound c own.0 g device context own.1 suits
