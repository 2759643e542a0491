use Rattle.std.proofs.Common.{◌∙◌, sym, ap, subst, arith}
use mathlib.Core.Option.{none}
use Rattle.atomic_table.specs.Table.{step}
use Rattle.shares.proofs.Ends.{learns_next, learns_least}
use Rattle.base.specs.declared.causes.WorkCause.TheVariants.{PieceMissing}
use Rattle.shares.specs.Seats.{IsFirstUndrawn}
use Rattle.base.specs.Refusals.{work_refusal}
use Rattle.shares.proofs.Seats.{first_undrawn, all_drawn, seen_within}
use Rattle.shares.proofs.board.Board.outcome.Goals as goal

pub load-drawn-requires : goal.load-drawn-requires
load-drawn-requires c =
    let same = c.requires.table ∙ sym (ap (λ d. d.name.table) c.self.view_is) in
    let seats = ap (λ d. d.seats) c.self.view_is in
    (same, omega (arith, c.self.invariant), learns_next _ _ _ _ _ (step 0 0 0 0 none) (omega (arith, c.self.invariant, c.requires.all)))

pub load-least-requires : goal.load-least-requires
load-least-requires c =
    let same = c.requires.table ∙ sym (ap (λ d. d.name.table) c.self.view_is) in
    let seats = ap (λ d. d.seats) c.self.view_is in
    let kept = ap (λ m. m.0.parts) c.load-drawn.ensures.2.0 in
    (c.load-drawn.ensures.0 ∙ same, omega (arith, c.self.invariant), learns_least _ _ _ _ _ (step 0 0 0 0 none) (omega (arith, c.self.invariant, c.requires.all)))

pub returns-then-drawn-from-clause-undrawn : goal.returns-then-drawn-from-clause-undrawn
returns-then-drawn-from-clause-undrawn c =
    let e = c.of_work.ensures in
    let at = ap (λ r. r.at) e in
    let blocks = ap (λ d. d.name.blocks) c.self.view_is in
    let first = first_undrawn c.args.self.now.name.blocks c.load-drawn.result c.args.whole.now.me.0.steps (omega (arith, blocks, c.from.ensures, c.if-drawn-from.true)) c.load-drawn.ensures.2.1 in
    (e ∙ ap (work_refusal PieceMissing) (sym at), subst (IsFirstUndrawn c.args.self.now.name.blocks c.args.whole.now.me.0.steps) (sym at) first)

pub returns-clause-drawn : goal.returns-clause-drawn
returns-clause-drawn c =
    let blocks = ap (λ d. d.name.blocks) c.self.view_is in
    all_drawn c.args.self.now.name.blocks c.load-drawn.result c.args.whole.now.me.0.steps (omega (arith, blocks, c.from.ensures, c.if-drawn-from.false)) c.load-drawn.ensures.2.1

pub returns-then-drawn-from-clause-seen_undrawn : goal.returns-then-drawn-from-clause-seen_undrawn
returns-then-drawn-from-clause-seen_undrawn c =
    let at = ap (λ r. r.at) c.of_work.ensures in
    omega (arith, c.load-drawn.ensures.2.2)

pub returns-clause-seen_drawn : goal.returns-clause-seen_drawn
returns-clause-seen_drawn c =
    let blocks = ap (λ d. d.name.blocks) c.self.view_is in
    seen_within c.args.self.now.name.blocks c.load-drawn.result c.args.whole.now.me.0.steps (omega (arith, blocks, c.from.ensures, c.if-drawn-from.false)) c.load-drawn.ensures.2.1 c.load-drawn.ensures.2.2

pub returns-clause-seen_posted : goal.returns-clause-seen_posted
returns-clause-seen_posted c = rw (← c.load-drawn.ensures.2.0) (record { each = c.load-least.ensures.2.3 })
