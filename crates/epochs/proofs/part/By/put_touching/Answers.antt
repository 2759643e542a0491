use Rattle.std.proofs.Common.{ℕ, ◌≡◌, ◌+◌, ◌++◌, List, [], ◌∷◌, sym, ◌∙◌, ap, arith, append_assoc}
use Rattle.std.proofs.lemmas.List.{append-nil}
use Rattle.epochs.specs.Touching.{touching_parts}
use Rattle.epochs.proofs.Touching.{parts_begin, part_tested, part_told, part_left, none_told}
use Rattle.epochs.proofs.part.By.put_touching.Goals as goal
use Rattle.epochs.proofs.part.By.put_touching.Goals.{then-touches+in_ok-push, else-touches}

pub returns-then-not-touches-clause-put : goal.returns-then-not-touches-clause-put
returns-then-not-touches-clause-put c = λ e.
    sym (append-nil c.args.numbers.now.items)
    ∙ ap (λ (ns : List ℕ). c.args.numbers.now.items ++ ns)
    (sym (none_told c.args.self e c.args.entry.now c.args.sectors.now c.args.first c.args.count c.requires.count (sym c.touches.ensures ∙ c.if-not-touches.true)))

pub loop-place-init : goal.loop-place-init
loop-place-init c = λ e.
    sym (append-nil c.args.numbers.now.items)
    ∙ ap (λ (ns : List ℕ). c.args.numbers.now.items ++ ns) (sym (parts_begin c.args.self e c.args.entry.now c.args.sectors.now c.args.first))

pub returns-in_err-push-clause-kept : goal.returns-in_err-push-clause-kept
returns-in_err-push-clause-kept c =
    (touching_parts c.args.self 0 c.args.entry.now c.args.sectors.now c.args.first c.loop-place.place, c.in_err-push.ensures.items ∙ c.loop-place.invariant 0)

pub loop-place-preserved : goal.loop-place-preserved
loop-place-preserved c = λ e.
    let x = c.args.entry.now in
    let n : ℕ = c.loop-place.place in
    let old : List ℕ = c.args.numbers.now.items in
    let was = c.loop-place.invariant e in
    elim c.if-touches.branch [
      | then-touches+in_ok-push w ↦
          ap (λ v. v.items) w.numbers-is ∙ w.in_ok-push.ensures.items
          ∙ ap (λ (ns : List ℕ). ns ++ (c.args.first + n) ∷ []) was
          ∙ append_assoc old (touching_parts c.args.self e x c.args.sectors.now c.args.first n) ((c.args.first + n) ∷ [])
          ∙ ap (λ (ns : List ℕ). old ++ ns) (sym (part_told c.args.self e x c.args.sectors.now c.args.first n
          (part_tested c.args.self e x c.args.sectors.now n _ _ _ _ c.from.ensures c.size-size.ensures c.touches-in-loop-place.ensures w.if-touches.true)))
      | else-touches w ↦
          ap (λ v. v.items) w.numbers-is ∙ was
          ∙ ap (λ (ns : List ℕ). old ++ ns) (sym (part_left c.args.self e x c.args.sectors.now c.args.first n
          (part_tested c.args.self e x c.args.sectors.now n _ _ _ _ c.from.ensures c.size-size.ensures c.touches-in-loop-place.ensures w.if-touches.false)))
    ]

pub returns-clause-put : goal.returns-clause-put
returns-clause-put c = λ e.
    let all : c.loop-place.place ≡ c.args.count = omega (arith, c.loop-place.auto.place-end, c.loop-place-test.false) in
    c.loop-place.invariant e
    ∙ ap (λ n. c.args.numbers.now.items ++ touching_parts c.args.self e c.args.entry.now c.args.sectors.now c.args.first n) all

pub returns-clause-kept : goal.returns-clause-kept
returns-clause-kept c =
    (touching_parts c.args.self 0 c.args.entry.now c.args.sectors.now c.args.first c.loop-place.place, c.loop-place.invariant 0)
