use Rattle.std.proofs.Common.{◌≡◌, ◌+◌, length}
use Rattle.cases.specs.Search.{SameSearch, subject_of, Ran}
use Rattle.cases.proofs.search.Search.run.Given as goal

abbrev pub invariant-loop-count : goal.invariant-loop-count
invariant-loop-count g l = record {
  same : SameSearch l.initial.self l.self;
  program : g.J.Judge.program l.judge ≡ g.J.Judge.program l.initial.judge;
  ran : Ran (subject_of l.initial.self.asked (g.J.Judge.program l.initial.judge)) l.initial.self l.self (g.J.Judge.leaves l.initial.judge) (g.J.Judge.leaves l.judge);
  many : length (g.J.Judge.leaves l.judge) ≡ length (g.J.Judge.leaves l.initial.judge) + l.count;
}
