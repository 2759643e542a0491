use Rattle.std.proofs.Common.{◌≡◌, ◌+◌, ◌-◌, ◌≤◌, ap, subst, arith}
use Rattle.choices.specs.Picked.{IsRanked}
use Rattle.workers.specs.Failing.{Subject}
use Rattle.workers.proofs.Skipping.{passed_over}
use Rattle.workers.proofs.input.Input.go_over.Goals as goal

pub pick_next-requires-2 : goal.pick_next-requires-2
pick_next-requires-2 c =
    let (image, here) = c.requires.member in
    let two : 2 ≤ c.args.count = omega (arith, c.requires.some, c.if-count-eq1.false) in
    (image + (c.args.count - 1), passed_over c.args.self.now c.self.inside.asked.tears c.args.count image c.args.picked.now c.pass.new.self (ap (λ (s : Subject). s.tears) c.self.view_is) c.requires.reach two c.pass.ensures.ranked here)

pub returns : goal.returns
returns c = λ image here lt.
    let two : 2 ≤ c.args.count = omega (arith, c.requires.some, c.if-count-eq1.false) in
    let on = passed_over c.args.self.now c.self.inside.asked.tears c.args.count image c.args.picked.now c.pass.new.self (ap (λ (s : Subject). s.tears) c.self.view_is) c.requires.reach two c.pass.ensures.ranked here in
    let e : image + (c.args.count - 1) + 1 ≡ image + c.args.count = omega (arith, two) in
    subst (λ n. IsRanked c.args.self.now.plan c.args.self.now.bound c.args.self.now.tears n c.pick_next-2.new.picked) e
    (c.pick_next-2.ensures (image + (c.args.count - 1)) on (omega (arith, e, lt)))
