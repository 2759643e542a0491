use Rattle.std.proofs.Common.{◌≡◌, reverse, subst, ◌∙◌, ap}
use Rattle.cases.specs.Search.{Asked, SearchValue, subject_of, Descends, Took}
use Rattle.cases.proofs.Paths.{went_none, went_found}
use Rattle.cases.proofs.search.Search.next.Goals as goal

pub returns-then-not-branch-clause-went : goal.returns-then-not-branch-clause-went
returns-then-not-branch-clause-went g c =
    let s = subject_of c.args.self.now.asked (g.J.Judge.program c.args.judge.now) in
    went_none s c.args.self.now c.take_within.new.self
    (subst (λ found. Took s c.args.self.now c.take_within.new.self found) c.if-not-branch.true (c.in_ok-take_within.ensures.went (g.J.Judge.program c.args.judge.now)))

pub returns-clause-went : goal.returns-clause-went
returns-clause-went g c =
    let asked = c.args.self.now.asked in
    let program = g.J.Judge.program c.args.judge.now in
    let s = subject_of asked program in
    let mid = c.take_within.new.self in
    let one = subst (λ found. Took s c.args.self.now mid found) c.if-not-branch.false (c.in_ok-take_within.ensures.went program) in
    let same = c.in_ok-take_within.ensures.same.asked in
    let sets = c.descend.new.sets.items in
    let frames = c.descend.new.frames.items in
    let down = subst (λ (v : SearchValue). Descends v.asked program v.tears v.sets (reverse v.frames) sets (reverse frames)) c.self.view_is
    (c.in_ok-descend.ensures.leads c.self.inside.torn c.self.inside.lost) in
    let own : ◌≡◌ {A = Asked} (record { at = c.descend.new.rows; torn = c.self.inside.torn; lost = c.self.inside.lost }) mid.asked =
    (λ i. record { at = c.in_ok-descend.ensures.rows i; torn = c.self.inside.torn; lost = c.self.inside.lost }) ∙ ap (λ (v : SearchValue). v.asked) c.self.view_is in
    went_found asked program c.args.self.now mid _ one same own (ap (λ (v : SearchValue). v.tears) c.self.view_is)
    c.in_ok-take_within.ensures.old (ap (λ (v : SearchValue). v.fresh) c.self.view_is ∙ c.in_ok-take_within.ensures.old)
    (ap (λ (v : SearchValue). v.torn_beyond) c.self.view_is) (ap (λ (v : SearchValue). v.lost_beyond) c.self.view_is)
    (subst (λ (a : Asked). Descends a program mid.tears mid.sets (reverse mid.frames) sets (reverse frames)) same down)
