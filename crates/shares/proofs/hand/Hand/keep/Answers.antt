use Rattle.std.proofs.Common.{◌≡◌, ◌∙◌, ap, subst, sym}
use Rattle.shares.specs.declared.deque.Phase.{Phase}
use Rattle.shares.specs.declared.deque.Phase.TheVariants.{Open}
use Rattle.shares.specs.Hands.{HandValue, FitsMarks}
use Rattle.shares.specs.Owned.{DequeValue}
use Rattle.shares.proofs.Takes.{all_more}
use Rattle.shares.proofs.hand.Hand.keep.Goals as goal

pub invariant_of-self : goal.invariant_of-self
invariant_of-self g c = (
  all_more g.H.Deal.blocks c.self.inside.list.items c.push-in-Err.new.self.items c.args.block c.in-Err.block c.self.invariant.0 c.push-in-Err.ensures.items c.in-Err.ensures.refused.0 c.requires.block,
  c.self.invariant.1,
  subst (λ (d : DequeValue). FitsMarks g.H.Deal.workers d.marks_pushed d.marks_got c.self.inside.phase) (sym c.in-Err.ensures.refused.1) c.self.invariant.2,
)
