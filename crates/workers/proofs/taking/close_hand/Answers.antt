use Rattle.std.proofs.Common.{◌≡◌, inl, inr, refl, ap}
use Rattle.shares.specs.declared.deque.Phase.TheVariants.{Closing, Refused}
use Rattle.shares.specs.Hands.{HandValue, in_phase}
use Rattle.workers.proofs.Takes.{rephased}
use Rattle.workers.proofs.taking.close_hand.Goals as goal

pub returns-then-close-clause-taken : goal.returns-then-close-clause-taken
returns-then-close-clause-taken g c = λ board seat h.
    let is : c.close.new.self ≡ in_phase c.args.hand.now Closing = c.if-close.ensures.closing refl in
    c.in_ok-judge_kept.ensures.taken board seat (rephased c.args.worker.now.input.now board seat c.args.hand.now c.close.new.self Closing c.args.pieces.now.items is h)

pub returns-then-close-clause-settled : goal.returns-then-close-clause-settled
returns-then-close-clause-settled g c = inl c.in_ok-judge_kept.ensures.shut

pub returns-clause-taken : goal.returns-clause-taken
returns-clause-taken g c = λ board seat h.
    let is : c.close.new.self ≡ in_phase c.args.hand.now Refused = c.if-close.ensures.refused refl in
    rephased c.args.worker.now.input.now board seat c.args.hand.now c.close.new.self Refused c.args.pieces.now.items is h

pub returns-clause-settled : goal.returns-clause-settled
returns-clause-settled g c =
    let is : c.close.new.self ≡ in_phase c.args.hand.now Refused = c.if-close.ensures.refused refl in
    inr (ap (λ (h : HandValue). h.phase) is)
