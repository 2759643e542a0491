use Rattle.std.proofs.Common.{◌≡◌, ◌++◌, All, map, length}
use Rattle.cases.specs.AtCut.{parts_of, case_of}
use Rattle.cases.specs.Search.{SameSearch, pending}
use Rattle.cases.proofs.search.Search.take_all.Given as goal

abbrev pub invariant-taking : goal.invariant-taking
invariant-taking l = record {
  same : SameSearch l.initial.self l.self;
  all : map (λ sets. case_of l.initial.self.tears (parts_of l.initial.self.asked.at) sets.items) l.out.items ++ pending l.self ≡ pending l.initial.self;
  each : All (λ sets. length sets.items ≡ length (parts_of l.initial.self.asked.at)) l.out.items;
}

abbrev pub decreases-taking : goal.decreases-taking
decreases-taking l = length (pending l.self)
