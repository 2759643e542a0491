use Rattle.std.proofs.Common.{refl, sym, subst, ◌∙◌, ap}
use Rattle.cases.specs.Search.{SearchValue, IsSearch, plus}
use Rattle.cases.proofs.Paths.{counted_torn, counted_lost, counted_none}
use Rattle.cases.proofs.search.Search.count_beyond.Goals as goal

pub returns-then-is_torn_beyond-clause-counted : goal.returns-then-is_torn_beyond-clause-counted
returns-then-is_torn_beyond-clause-counted c = λ program.
    let held = subst (λ (v : SearchValue). IsSearch v.asked.at v.sets v.frames) c.self.view_is c.self.invariant in
    counted_torn program c.args.self.now _ held (sym c.is_torn_beyond.ensures ∙ c.if-is_torn_beyond.true)
    (c.saturating_add-self-inside.ensures ∙ ap (λ (v : SearchValue). plus v.torn_beyond 1) c.self.view_is) (ap (λ (v : SearchValue). v.lost_beyond) c.self.view_is)

pub returns-then-is_lost_beyond-clause-counted : goal.returns-then-is_lost_beyond-clause-counted
returns-then-is_lost_beyond-clause-counted c = λ program.
    let held = subst (λ (v : SearchValue). IsSearch v.asked.at v.sets v.frames) c.self.view_is c.self.invariant in
    counted_lost program c.args.self.now _ held (sym c.is_torn_beyond.ensures ∙ c.if-is_torn_beyond.false) (sym c.is_lost_beyond.ensures ∙ c.if-is_lost_beyond.true)
    (ap (λ (v : SearchValue). v.torn_beyond) c.self.view_is)
    (c.saturating_add-self-inside-then-is_lost_beyond.ensures ∙ ap (λ (v : SearchValue). plus v.lost_beyond 1) c.self.view_is)

pub returns-clause-counted : goal.returns-clause-counted
returns-clause-counted c = λ program.
    let held = subst (λ (v : SearchValue). IsSearch v.asked.at v.sets v.frames) c.self.view_is c.self.invariant in
    counted_none program c.args.self.now c.args.self.now held (sym c.is_torn_beyond.ensures ∙ c.if-is_torn_beyond.false) (sym c.is_lost_beyond.ensures ∙ c.if-is_lost_beyond.false) refl refl
