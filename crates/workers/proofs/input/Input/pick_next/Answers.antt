use Rattle.std.proofs.Common.{ℕ, sym, subst}
use Rattle.choices.specs.Picked.{IsRanked}
use Rattle.workers.specs.Failing.{Subject}
use Rattle.workers.proofs.JudgedLines.{picked_next}
use Rattle.workers.proofs.input.Input.pick_next.Goals as goal

pub next-moved-requires-clause-member : goal.next-moved-requires-clause-member
next-moved-requires-clause-member c = subst (λ (s : Subject). (x : ℕ) × IsRanked s.plan s.bound s.tears x c.args.picked.now) (sym c.self.view_is) c.requires

pub returns : goal.returns
returns c = λ image here lt. picked_next c.args.self.now c.next-moved.result c.args.picked.now c.next-moved.new.self image
    (rw (← c.self.view_is) c.next-moved.ensures.moved) (rw (← c.self.view_is) c.next-moved.ensures.last) here lt
