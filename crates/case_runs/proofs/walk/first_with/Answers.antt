use Rattle.std.proofs.Common.{◌≡◌, ◌+◌, ◌++◌, map, length, option_to_list, refl, sym, ◌∙◌, ap, arith}
use Rattle.std.proofs.lemmas.List.{append-nil}
use Rattle.std.proofs.lemmas.Option.{MatchOption-at_none}
use Rattle.cases.specs.AtCut.{CutValue}
use Rattle.losses.specs.FoundCases.{failing_value}
use Rattle.case_runs.specs.Judges.{program_of}
use Rattle.case_runs.specs.Leaves.{JudgeValue}
use Rattle.case_runs.specs.Shares.{cut_in}
use Rattle.case_runs.proofs.Finding.{fits}
use Rattle.case_runs.proofs.Stretching.{none_left}
use Rattle.case_runs.proofs.Seeking.{first_met, all_met, most_met}
use Rattle.case_runs.proofs.walk.first_with.Goals as goal

pub new-requires-3 : goal.new-requires-3
new-requires-3 g c =
    fits c.args.work.now.log.now c.args.number c.args.program c.context-context.result c.args.work.now.checkers.now c.args.checker.now c.context-context.ensures.value c.context-context.ensures.small.0
    c.context-context.ensures.small.1 c.requires.device c.requires.checker

pub run_to_failing-requires : goal.run_to_failing-requires
run_to_failing-requires g c = ap (λ (v : JudgeValue). v.leaves) c.new-judge.ensures ∙ c.in_ok-new.ensures.leaves

pub returns-then-found-left-clause-passing : goal.returns-then-found-left-clause-passing
returns-then-found-left-clause-passing g c =
    let work = c.args.work.now in
    let judge = c.new-judge.result in
    let checker = ap (λ (v : JudgeValue). v.checker) c.new-judge.ensures ∙ c.in_ok-new.ensures.checker in
    let context = ap (λ (v : JudgeValue). v.context) c.new-judge.ensures ∙ c.in_ok-new.ensures.context ∙ c.context-context.ensures.value in (
      refl,
      most_met work.asked (cut_in work c.args.number) c.args.checker.now (program_of judge.checker judge.context) c.in_ok-search.search c.run_to_failing.new.search c.run_to_failing.new.judge.leaves c.args.left
          c.into_findings-found.result (record {
            program_is = λ i. program_of (checker i) (context i);
            asked_is = c.in_ok-search.ensures.asked ∙ ap (λ (k : CutValue). record { at = k; torn = work.asked.torn; lost = work.asked.lost }) c.in_ok-cut.ensures;
            tears_is = c.in_ok-search.ensures.tears;
            whole = c.in_ok-search.ensures.pending;
            none = c.in_ok-search.ensures.none;
            seeks = c.in_ok-run_to_failing.ensures;
            cases = c.into_findings-found.ensures.cases;
            torn = c.into_findings-found.ensures.torn;
            lost = c.into_findings-found.ensures.lost;
            failing = c.into_findings-found.ensures.failing;
          }) c.if-found-left.true,
    )

pub returns-in-Some-clause-met : goal.returns-in-Some-clause-met
returns-in-Some-clause-met g c =
    let work = c.args.work.now in
    let judge = c.new-judge.result in
    let checker = ap (λ (v : JudgeValue). v.checker) c.new-judge.ensures ∙ c.in_ok-new.ensures.checker in
    let context = ap (λ (v : JudgeValue). v.context) c.new-judge.ensures ∙ c.in_ok-new.ensures.context ∙ c.context-context.ensures.value in
    let front = c.pop.new.self.items in
    let own = first_met work.asked (cut_in work c.args.number) c.args.checker.now (program_of judge.checker judge.context) c.in_ok-search.search c.run_to_failing.new.search c.run_to_failing.new.judge.leaves c.args.left
    c.into_findings-found.result front c.in-Some.case (record {
      program_is = λ i. program_of (checker i) (context i);
      asked_is = c.in_ok-search.ensures.asked ∙ ap (λ (k : CutValue). record { at = k; torn = work.asked.torn; lost = work.asked.lost }) c.in_ok-cut.ensures;
      tears_is = c.in_ok-search.ensures.tears;
      whole = c.in_ok-search.ensures.pending;
      none = c.in_ok-search.ensures.none;
      seeks = c.in_ok-run_to_failing.ensures;
      cases = c.into_findings-found.ensures.cases;
      torn = c.into_findings-found.ensures.torn;
      lost = c.into_findings-found.ensures.lost;
      failing = c.into_findings-found.ensures.failing;
    }) (c.pop.ensures.items ∙ ap (λ o. front ++ option_to_list o) c.in-Some.is) c.if-found-left.false in
    (c.requires.first, own.0, own.1)

pub returns-clause-met : goal.returns-clause-met
returns-clause-met g c =
    let work = c.args.work.now in
    let judge = c.new-judge.result in
    let checker = ap (λ (v : JudgeValue). v.checker) c.new-judge.ensures ∙ c.in_ok-new.ensures.checker in
    let context = ap (λ (v : JudgeValue). v.context) c.new-judge.ensures ∙ c.in_ok-new.ensures.context ∙ c.context-context.ensures.value in
    let was = c.into_findings-found.result in
    let now = c.pop.new.self in
    let same : was.failing.items ≡ now.items = c.pop.ensures.items ∙ ap (λ o. now.items ++ option_to_list o) c.in-None.is ∙ append-nil now.items in
    let short = (MatchOption-at_none ((was.failing.len ≡ 0) × (now.len ≡ 0)) (λ _. now.len + 1 ≡ was.failing.len) c.in-None.is c.pop.ensures.cases).1 in
    let ok = now.ok in
    let none = none_left now.items (length now.items) refl (omega (arith, ok, short)) in (
      all_met work.asked (cut_in work c.args.number) c.args.checker.now (program_of judge.checker judge.context) c.in_ok-search.search c.run_to_failing.new.search c.run_to_failing.new.judge.leaves c.args.left _ (record {
        program_is = λ i. program_of (checker i) (context i);
        asked_is = c.in_ok-search.ensures.asked ∙ ap (λ (k : CutValue). record { at = k; torn = work.asked.torn; lost = work.asked.lost }) c.in_ok-cut.ensures;
        tears_is = c.in_ok-search.ensures.tears;
        whole = c.in_ok-search.ensures.pending;
        none = c.in_ok-search.ensures.none;
        seeks = c.in_ok-run_to_failing.ensures;
        cases = c.into_findings-found.ensures.cases;
        torn = c.into_findings-found.ensures.torn;
        lost = c.into_findings-found.ensures.lost;
        failing = ap (map failing_value) (sym same) ∙ c.into_findings-found.ensures.failing;
      }) none c.if-found-left.false,
      (λ first. none),
      c.if-found-left.false,
    )
