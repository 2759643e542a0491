use Rattle.std.proofs.Common.{ℕ, ◌≡◌, ◌+◌, ◌%◌, ◌^◌, nat_eq, Option, refl, sym, ◌∙◌, ap, arith}
use Rattle.std.specs.HashMap.{get}
use Rattle.std.specs.Option.{option_map}
use Rattle.export.specs.declared.walk.KeptImage.{KeptImage}
use Rattle.export.specs.Kept.{IsFound, key_at, key_after, firsts}
use Rattle.export.proofs.Index.{others_more, kept_is_first}
use Rattle.export.proofs.Walking.{key_is, free_here, first_told_by_last}
use Rattle.export.proofs.walk.ImageSource.find.Goals as goal

pub returns-in_default : goal.returns-in_default
unfolding IsFound
returns-in_default c =
    let i : ℕ = c.args.place in
    let at : ℕ → Option KeptImage = get nat_eq c.args.places.now in
    let key : (c.key_of-key.result + c.loop-step.step) % 2 ^ 64 ≡ key_after (key_at c.args.self.now i) c.loop-step.step =
    key_is c.args.self.now i c.args.next.now.sum c.args.next.now.marks c.key_of-key.result c.loop-step.step _ c.requires.next.sum_is c.requires.next.passed c.key_of-key.ensures refl in
    free_here c.args.self.now i c.loop-step.step _ (firsts at) key c.loop-step.invariant (ap (option_map (λ (h : KeptImage). h.first)) (sym c.in_default.ensures.value))

pub is_same-requires-clause-place : goal.is_same-requires-clause-place
is_same-requires-clause-place c =
    let held = c.requires.held.recent _ c.in-Some.held.now (sym c.in-Some.ensures.value) in
    let lt = held.0 in
    let within = c.requires.place in
    omega (arith, lt, within)

pub returns-then-branch : goal.returns-then-branch
unfolding IsFound
returns-then-branch c =
    let a = c.args.self.now in
    let i : ℕ = c.args.place in
    let at : ℕ → Option KeptImage = get nat_eq c.args.places.now in
    let h : KeptImage = c.in-Some.held.now in
    let there = sym c.in-Some.ensures.value in
    let first = ap (option_map (λ (h : KeptImage). h.first)) there in (
      kept_is_first a i _ h.first (firsts at) c.requires.held.index first
          (sym (first_told_by_last a i h.last h.first (c.requires.held.recent _ h there).1) ∙ sym c.in_ok-is_same.ensures ∙ c.if-branch.true),
      first,
    )

pub loop-step-preserved : goal.loop-step-preserved
loop-step-preserved c =
    let a = c.args.self.now in
    let i : ℕ = c.args.place in
    let at : ℕ → Option KeptImage = get nat_eq c.args.places.now in
    let h : KeptImage = c.in-Some.held.now in
    let there = sym c.in-Some.ensures.value in
    let key : (c.key_of-key.result + c.loop-step.step) % 2 ^ 64 ≡ key_after (key_at a i) c.loop-step.step =
    key_is a i c.args.next.now.sum c.args.next.now.marks c.key_of-key.result c.loop-step.step _ c.requires.next.sum_is c.requires.next.passed c.key_of-key.ensures refl in
    others_more a i h.first (firsts at) c.loop-step.step c.loop-step.invariant (ap (firsts at) (sym key) ∙ ap (option_map (λ (h : KeptImage). h.first)) there)
    (sym (first_told_by_last a i h.last h.first (c.requires.held.recent _ h there).1) ∙ sym c.in_ok-is_same.ensures ∙ c.if-branch.false)
