use Rattle.std.proofs.Common.{List, ◌∷◌, reverse, set, sym, subst, ◌∙◌, ap, refl}
use Rattle.cases.specs.declared.search.Frame.{Frame}
use Rattle.cases.specs.AtCut.{case_of}
use Rattle.cases.specs.Search.{others}
use Rattle.cases.proofs.Paths.{TakenSo, taken_one, first_popped}
use Rattle.cases.proofs.search.take_group.Goals as goal

pub returns-in-Some-pop_at-clause-found : goal.returns-in-Some-pop_at-clause-found
returns-in-Some-pop_at-clause-found c = λ tears parts.
    let f = c.in-Some.frame in
    let after : Frame = record { part = f.part; old = f.old; groups = c.pop_at.new.self } in
    let left = c.pop.new.self.items in
    let g = c.in-Some-pop_at.group in
    let some = first_popped f.groups.items c.pop_at.new.self.items g c.in-Some-pop_at.ensures.value c.in-Some-pop_at.ensures.items in
    let so = subst (λ (fs : List Frame). TakenSo c.args.sets.now.items c.args.frames.now.items c.frames.sets.items fs) c.in-Some.ensures.items c.frames.invariant in
    let one = taken_one c.args.sets.now.items c.args.frames.now.items c.frames.sets.items left f after g so some refl refl in
    one.same tears parts
    ∙ ap (λ (fs : List Frame). case_of tears parts (set c.frames.sets.items f.part g) ∷ others tears parts (set c.frames.sets.items f.part g) (reverse fs)) (sym c.in_ok-push.ensures.items)
