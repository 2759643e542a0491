use Rattle.std.proofs.Common.{ℕ, Bool, false, inl, inr, ◌∙◌, arith}
use Rattle.export.proofs.Unlike.{all_listed, none_chosen, of_departures}
use Rattle.known_runs.proofs.differing.put_differing.Goals as goal

pub returns-then-here-there : goal.returns-then-here-there
returns-then-here-there c =
    let one = c.args.one.now in
    let other = c.args.other.now in
    let p : ℕ → Bool = λ n. false in
    let first = of_departures one other _ _ p _ c.departures.ensures.value (c.in_ok-put_departing.ensures p (c.clear.ensures.items ∙ none_chosen one other)) in
    let second = of_departures one other _ _ first.chosen _ c.departures-2.ensures.value (c.in_ok-put_departing-2.ensures first.chosen first.is) in
    all_listed one other _ _ _ p c.cut-here.result c.cut-there.result
    (record { bounds = c.departures.ensures.bounds; within = omega (arith, c.cut-here.ensures.value, c.cut-here.ensures.within); parts = c.departures.ensures.parts })
    (record { bounds = c.departures-2.ensures.bounds; within = omega (arith, c.cut-there.ensures.value, c.cut-there.ensures.within); parts = c.departures-2.ensures.parts })
    c.requires.log (record { rising = inl (c.cut-here.ensures.value, c.cut-there.ensures.value); le = c.if-here-there.true })
    first second (c.in_ok-put_written.ensures second.chosen second.is)

pub returns : goal.returns
returns c =
    let one = c.args.one.now in
    let other = c.args.other.now in
    let p : ℕ → Bool = λ n. false in
    let first = of_departures one other _ _ p _ c.departures.ensures.value (c.in_ok-put_departing.ensures p (c.clear.ensures.items ∙ none_chosen one other)) in
    let second = of_departures one other _ _ first.chosen _ c.departures-2.ensures.value (c.in_ok-put_departing-2.ensures first.chosen first.is) in
    all_listed one other _ _ _ p c.cut-there.result c.cut-here.result
    (record { bounds = c.departures.ensures.bounds; within = omega (arith, c.cut-here.ensures.value, c.cut-here.ensures.within); parts = c.departures.ensures.parts })
    (record { bounds = c.departures-2.ensures.bounds; within = omega (arith, c.cut-there.ensures.value, c.cut-there.ensures.within); parts = c.departures-2.ensures.parts })
    c.requires.log (record { rising = inr (c.cut-there.ensures.value, c.cut-here.ensures.value); le = omega (arith, c.if-here-there.false) })
    first second (c.in_ok-put_written-2.ensures second.chosen second.is)
