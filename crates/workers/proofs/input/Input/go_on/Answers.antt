use Rattle.std.proofs.Common.{ℕ, ◌≡◌, Some, slice_get, subst, sym}
use Rattle.workers.specs.Failing.{Subject, choices_of}
use Rattle.workers.proofs.JudgedLines.{choice_next}
use Rattle.workers.proofs.input.Input.go_on.Goals as goal

pub next-moved-requires-clause-member : goal.next-moved-requires-clause-member
next-moved-requires-clause-member c = subst (λ (s : Subject). (x : ℕ) × (slice_get (choices_of s) x ≡ Some c.args.choice.now)) (sym c.self.view_is) c.requires

pub returns : goal.returns
returns c = λ image here lt. choice_next c.args.self.now c.next-moved.result c.args.choice.now c.next-moved.new.choice image
    (rw (← c.self.view_is) c.next-moved.ensures.moved) (rw (← c.self.view_is) c.next-moved.ensures.last) here lt
