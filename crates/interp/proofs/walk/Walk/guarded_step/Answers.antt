use Rattle.std.proofs.Common.{◌≡◌, ℕ, List, length, true, ap, ◌∙◌}
use Rattle.interp.specs.Walks.{WalkValue}
use Rattle.interp.proofs.Filling.{filled_at, filled_apart}
use Rattle.interp.proofs.Reached.{written_back}
use Rattle.interp.proofs.walk.Walk.guarded_step.Goals as goal

pub go_guarded-requires-clause-set : goal.go_guarded-requires-clause-set
go_guarded-requires-clause-set g c =
    let with_guards : c.self.inside.guards ≡ true = ap (λ (v : WalkValue). v.guards) c.self.view_is ∙ c.requires in
    filled_apart c.self.inside.slot c.self.inside.machine (c.self.invariant.set with_guards)

pub go_guarded-requires-clause-long : goal.go_guarded-requires-clause-long
go_guarded-requires-clause-long g c =
    let with_guards : c.self.inside.guards ≡ true = ap (λ (v : WalkValue). v.guards) c.self.view_is ∙ c.requires in
    ap (λ (m : List ℕ). length m) c.as_mut_slice.ensures.value ∙ c.self.invariant.long with_guards

pub invariant_of-self : goal.invariant_of-self
invariant_of-self g c = record {
  program = c.self.invariant.program;
  there = rw (c.in-Some-Next.is, c.in-Some-Next.field-0-is) at c.go_guarded.ensures.next;
  set = λ with_guards. filled_at c.in-Some-Next.next c.go_guarded.new.machine c.go_guarded.ensures.set;
  long = λ with_guards.
      ap (λ (m : List ℕ). length m)
      (written_back c.self.inside.memory.len c.go_guarded.new.memory c.self.inside.memory.items c.self.inside.memory.ok.0 (c.self.invariant.long with_guards) c.go_guarded.ensures.long)
      ∙ c.go_guarded.ensures.long;
}

pub invariant_of-self-in-Some-Done : goal.invariant_of-self-in-Some-Done
invariant_of-self-in-Some-Done g c = record {
  program = c.self.invariant.program;
  there = c.self.invariant.there;
  set = λ with_guards. filled_at c.self.inside.slot c.go_guarded.new.machine c.go_guarded.ensures.set;
  long = λ with_guards.
      ap (λ (m : List ℕ). length m)
      (written_back c.self.inside.memory.len c.go_guarded.new.memory c.self.inside.memory.items c.self.inside.memory.ok.0 (c.self.invariant.long with_guards) c.go_guarded.ensures.long)
      ∙ c.go_guarded.ensures.long;
}

pub invariant_of-self-in-Some-Fault : goal.invariant_of-self-in-Some-Fault
invariant_of-self-in-Some-Fault g c = record {
  program = c.self.invariant.program;
  there = c.self.invariant.there;
  set = λ with_guards. filled_at c.self.inside.slot c.go_guarded.new.machine c.go_guarded.ensures.set;
  long = λ with_guards.
      ap (λ (m : List ℕ). length m)
      (written_back c.self.inside.memory.len c.go_guarded.new.memory c.self.inside.memory.items c.self.inside.memory.ok.0 (c.self.invariant.long with_guards) c.go_guarded.ensures.long)
      ∙ c.go_guarded.ensures.long;
}

pub invariant_of-self-in-None : goal.invariant_of-self-in-None
invariant_of-self-in-None g c = record {
  program = c.self.invariant.program;
  there = c.self.invariant.there;
  set = λ with_guards. filled_at c.self.inside.slot c.go_guarded.new.machine c.go_guarded.ensures.set;
  long = λ with_guards.
      ap (λ (m : List ℕ). length m)
      (written_back c.self.inside.memory.len c.go_guarded.new.memory c.self.inside.memory.items c.self.inside.memory.ok.0 (c.self.invariant.long with_guards) c.go_guarded.ensures.long)
      ∙ c.go_guarded.ensures.long;
}
