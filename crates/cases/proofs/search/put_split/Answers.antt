use Rattle.std.proofs.Common.{List, ◌∷◌, reverse, set, sym, ◌∙◌, ap}
use Rattle.cases.specs.declared.search.Frame.{Frame}
use Rattle.cases.specs.AtCut.{case_of}
use Rattle.cases.specs.Search.{others}
use Rattle.cases.proofs.Paths.{split_up, first_popped}
use Rattle.cases.proofs.search.put_split.Goals as goal

pub returns-in_ok-push-clause-split : goal.returns-in_ok-push-clause-split
returns-in_ok-push-clause-split c = λ tears parts g gs is.
    let sets = c.args.sets.now.items in
    let frames = c.args.frames.now.items in
    let some = first_popped c.args.it.groups.items c.pop_at.new.self.items c.in-Some.group c.in-Some.ensures.value c.in-Some.ensures.items in
    split_up tears parts sets frames (record { part = c.args.it.part; old = c.index-old.result.now; groups = c.pop_at.new.self }) c.in-Some.group c.args.it.groups.items some c.requires.part c.index-old.ensures
    ∙ ap (λ (fs : List Frame). case_of tears parts (set sets c.args.it.part c.in-Some.group) ∷ others tears parts (set sets c.args.it.part c.in-Some.group) (reverse fs)) (sym c.in_ok-push.ensures.items)
