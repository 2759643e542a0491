use Rattle.std.proofs.Common.{◌∙◌, sym, refl, rules}
use Rattle.join.specs.CaseReading.{IsCaseHead, NoCaseHead}
use Rattle.join.proofs.Endings.{fails}
use Rattle.join.proofs.CaseWholes.{no_head_no_cases, other_inputs, not_rising, no_totals, other_last, is_part}
use Rattle.join.proofs.case_parts.part.read_rest.Goals as goal

pub returns-in_default : goal.returns-in_default
returns-in_default c =
    let lack : NoCaseHead c.args.text.now = rw c.in_default.is at c.in_ok-head.ensures in
    no_head_no_cases c.args.whole.now c.args.text.now c.args.inputs c.requires.opened lack

pub returns-then-not-are_inputs_of_run : goal.returns-then-not-are_inputs_of_run
returns-then-not-are_inputs_of_run c =
    let head : IsCaseHead c.args.text.now c.in-Some.head c.in-Some.asked c.in-Some.found.now = rw c.in-Some.is at c.in_ok-head.ensures in
    other_inputs c.args.whole.now c.args.text.now c.in-Some.found.now c.args.inputs c.in-Some.head c.in-Some.asked c.requires.opened head (sym c.are_inputs_of_run.ensures ∙ c.if-not-are_inputs_of_run.true)

pub returns-then-not-tally : goal.returns-then-not-tally
returns-then-not-tally c =
    let head : IsCaseHead c.args.text.now c.in-Some.head c.in-Some.asked c.in-Some.found.now = rw c.in-Some.is at c.in_ok-head.ensures in
    not_rising c.args.whole.now c.args.text.now c.in-Some.found.now c.in_ok-tally.last.now c.args.inputs c.in-Some.head c.in-Some.asked c.in_ok-tally.tally c.totals_said-totals.result
    (record { utf8 = c.requires.utf8; opening = c.requires.opened; head = head; lines = c.in_ok-tally.ensures.read; end = c.in_ok-tally.ensures.end; totals = c.totals_said-totals.ensures }) c.if-not-tally.true

pub returns-then-not-are_totals_of_run : goal.returns-then-not-are_totals_of_run
returns-then-not-are_totals_of_run c =
    let head : IsCaseHead c.args.text.now c.in-Some.head c.in-Some.asked c.in-Some.found.now = rw c.in-Some.is at c.in_ok-head.ensures in
    no_totals c.args.whole.now c.args.text.now c.in-Some.found.now c.in_ok-tally.last.now c.args.inputs c.in-Some.head c.in-Some.asked c.in_ok-tally.tally c.totals_said-totals.result
    (record { utf8 = c.requires.utf8; opening = c.requires.opened; head = head; lines = c.in_ok-tally.ensures.read; end = c.in_ok-tally.ensures.end; totals = c.totals_said-totals.ensures })
    (sym c.are_totals_of_run.ensures ∙ c.if-not-are_totals_of_run.true)

pub returns-then-not-branch : goal.returns-then-not-branch
returns-then-not-branch c =
    let head : IsCaseHead c.args.text.now c.in-Some.head c.in-Some.asked c.in-Some.found.now = rw c.in-Some.is at c.in_ok-head.ensures in
    other_last c.args.whole.now c.args.text.now c.in-Some.found.now c.in_ok-tally.last.now c.args.inputs c.in-Some.head c.in-Some.asked c.in_ok-tally.tally c.totals_said-totals.result
    (record { utf8 = c.requires.utf8; opening = c.requires.opened; head = head; lines = c.in_ok-tally.ensures.read; end = c.in_ok-tally.ensures.end; totals = c.totals_said-totals.ensures })
    (fails c.in_ok-is_totals.field-0 c.if-not-branch.true c.in_ok-is_totals.ensures)

pub returns : goal.returns
returns c =
    let head : IsCaseHead c.args.text.now c.in-Some.head c.in-Some.asked c.in-Some.found.now = rw c.in-Some.is at c.in_ok-head.ensures in (
      is_part c.args.whole.now c.args.text.now c.in-Some.found.now c.in_ok-tally.last.now c.before-2.result.now c.args.inputs c.in-Some.head c.in-Some.asked c.in_ok-tally.tally c.totals_said-totals.result c.args.file
          (record { utf8 = c.requires.utf8; opening = c.requires.opened; head = head; lines = c.in_ok-tally.ensures.read; end = c.in_ok-tally.ensures.end; totals = c.totals_said-totals.ensures }) (sym c.are_inputs_of_run.ensures ∙ c.if-not-are_inputs_of_run.false) c.if-not-tally.false
          (sym c.are_totals_of_run.ensures ∙ c.if-not-are_totals_of_run.false) (search rules) (search rules) (c.in_ok-is_totals.ensures.0 c.if-not-branch.false) c.before-2.ensures,
      refl,
    )
