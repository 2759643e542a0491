use Rattle.std.proofs.Common.{ℕ, sym, subst}
use Rattle.cases.specs.Search.{Asked, subject_of, FoundCases}
use Rattle.cases.proofs.Runs.{found_all, begun_all}
use Rattle.cases.proofs.search.find_cases.Goals as goal

pub returns-clause-found : goal.returns-clause-found
returns-clause-found g c =
    let asked : Asked = record { at = c.args.cut.now; torn = c.args.torn; lost = c.args.lost } in
    let program = g.J.Judge.program c.args.judge.now in
    let search = c.in_ok-search.search in
    let all = found_all asked program c.args.tears search c.run.new.self (g.J.Judge.leaves c.args.judge.now) (g.J.Judge.leaves c.run.new.judge) c.in_ok-search.ensures.asked
    c.in_ok-search.ensures.tears c.in_ok-search.ensures.pending c.in_ok-search.ensures.none c.in_ok-run.ensures.ran (c.in_ok-run.ensures.ended c.if-not-branch.false) in
    subst (λ (n : ℕ). FoundCases (subject_of asked program) c.args.tears c.args.cut.now (g.J.Judge.leaves c.args.judge.now) (g.J.Judge.leaves c.run.new.judge) n c.lost_beyond.result)
    (sym c.torn_beyond.ensures)
    (subst (λ (n : ℕ). FoundCases (subject_of asked program) c.args.tears c.args.cut.now (g.J.Judge.leaves c.args.judge.now) (g.J.Judge.leaves c.run.new.judge) c.run.new.self.torn_beyond n)
    (sym c.lost_beyond.ensures) all)

pub returns-then-not-branch-clause-found : goal.returns-then-not-branch-clause-found
returns-then-not-branch-clause-found g c =
    let asked : Asked = record { at = c.args.cut.now; torn = c.args.torn; lost = c.args.lost } in
    begun_all asked (g.J.Judge.program c.args.judge.now) c.args.tears c.in_ok-search.search c.run.new.self (g.J.Judge.leaves c.args.judge.now) (g.J.Judge.leaves c.run.new.judge) c.args.most
    c.in_ok-search.ensures.asked c.in_ok-search.ensures.tears c.in_ok-search.ensures.pending c.in_ok-run.ensures.ran (c.in_ok-run.ensures.many c.if-not-branch.true)
