use Rattle.std.proofs.Common.{refl, ap, ◌∙◌, ◌==◌, not, arith}
use Rattle.cases.specs.AtCut.{CutValue}
use Rattle.known.specs.Records.{program_of}
use Rattle.known.proofs.Reaching.{known_so, few_so, past_so, taken_all}
use Rattle.known.proofs.walk.known_at.Goals as goal

pub returns-then-count-left-clause-many : goal.returns-then-count-left-clause-many
returns-then-count-left-clause-many c = (
  refl,
  past_so c.args.asked (record { log = c.args.log.now; way = c.args.way; cut = c.args.number }) c.args.records.now c.args.stops (program_of c.new-judge.result.records c.new-judge.result.marks) c.in_ok-search.search
      c.go_on.new.search c.go_on.new.judge.leaves c.args.left (record {
        program_is = λ i. program_of (c.new-judge.ensures.records i) ((c.new-judge.ensures.marks ∙ c.requires.marks) i);
        asked_is = c.in_ok-search.ensures.asked ∙ ap (λ (k : CutValue). record { at = k; torn = c.args.asked.torn; lost = c.args.asked.lost }) c.in_ok-cut.ensures;
        tears_is = c.in_ok-search.ensures.tears;
        whole = c.in_ok-search.ensures.pending;
        none = c.in_ok-search.ensures.none;
        went = c.in_ok-go_on.ensures;
      }) (omega arith),
)

pub returns-clause-found : goal.returns-clause-found
returns-clause-found c =
    known_so c.args.asked (record { log = c.args.log.now; way = c.args.way; cut = c.args.number }) c.args.records.now c.args.stops (program_of c.new-judge.result.records c.new-judge.result.marks) c.in_ok-search.search
    c.go_on.new.search c.go_on.new.judge.leaves c.args.left c.into_found.result (record {
      program_is = λ i. program_of (c.new-judge.ensures.records i) ((c.new-judge.ensures.marks ∙ c.requires.marks) i);
      asked_is = c.in_ok-search.ensures.asked ∙ ap (λ (k : CutValue). record { at = k; torn = c.args.asked.torn; lost = c.args.asked.lost }) c.in_ok-cut.ensures;
      tears_is = c.in_ok-search.ensures.tears;
      whole = c.in_ok-search.ensures.pending;
      none = c.in_ok-search.ensures.none;
      went = c.in_ok-go_on.ensures;
    }) (record {
      cut = c.into_found.ensures.is.0;
      told = c.into_found.ensures.told;
      failing = c.into_found.ensures.failing;
      are_open = c.into_found.ensures.those;
      torn = c.into_found.ensures.is.1 ∙ c.torn_beyond-torn.ensures;
      lost = c.into_found.ensures.is.2 ∙ c.lost_beyond-lost.ensures;
      stopped =
          let all = taken_all c.go_on.new.search c.in_ok-pending.pending.items c.in_ok-pending.ensures.all in
          c.into_found.ensures.is.3 ∙ ap (λ n. not (n == 0)) (omega arith);
    }) (omega arith)

pub returns-clause-few : goal.returns-clause-few
returns-clause-few c =
    few_so (record { log = c.args.log.now; way = c.args.way; cut = c.args.number }) c.go_on.new.search c.go_on.new.judge.leaves c.args.left c.into_found.result (record {
      cut = c.into_found.ensures.is.0;
      told = c.into_found.ensures.told;
      failing = c.into_found.ensures.failing;
      are_open = c.into_found.ensures.those;
      torn = c.into_found.ensures.is.1 ∙ c.torn_beyond-torn.ensures;
      lost = c.into_found.ensures.is.2 ∙ c.lost_beyond-lost.ensures;
      stopped =
          let all = taken_all c.go_on.new.search c.in_ok-pending.pending.items c.in_ok-pending.ensures.all in
          c.into_found.ensures.is.3 ∙ ap (λ n. not (n == 0)) (omega arith);
    }) (omega arith)
