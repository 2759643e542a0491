use Rattle.std.proofs.Common.{map, refl}
use Rattle.join.specs.Given.{line_told}
use Rattle.join.specs.GivenReading.{NoJudges, AreJudgesRead}
use Rattle.join.proofs.Endings.{fails}
use Rattle.join.proofs.GivenWhole.{are_steps_of, lines_short, no_judges_no_report, no_front_no_report, unordered_no_report, other_last_no_report, report_found}
use Rattle.join.proofs.given.whole.rest_said.Goals as goal

pub returns-in_default : goal.returns-in_default
returns-in_default c =
    let none : NoJudges c.args.text.now = rw c.in_default.is at c.in_ok-judges.ensures.judges in
    no_judges_no_report c.args.run.now.title.now c.args.run.now.options.now c.args.run.now.starts.now c.args.run.now.images c.args.whole.now c.args.titled.now c.args.text.now c.requires.titled c.requires.given none

pub lines_said-requires-clause-short : goal.lines_said-requires-clause-short
lines_said-requires-clause-short c =
    let read : AreJudgesRead c.args.text.now c.in-Some.judges.outside c.in-Some.judges.programs.items c.in-Some.lines.now = rw c.in-Some.is at c.in_ok-judges.ensures.judges in
    lines_short c.args.run.now.title.now c.args.run.now.options.now c.args.whole.now c.args.titled.now c.args.text.now c.in-Some.lines.now c.in-Some.judges.outside c.in-Some.judges.programs.items c.requires.titled c.requires.given read c.requires.short

pub returns-then-not-said : goal.returns-then-not-said
returns-then-not-said c =
    let read : AreJudgesRead c.args.text.now c.in-Some.judges.outside c.in-Some.judges.programs.items c.in-Some.lines.now = rw c.in-Some.is at c.in_ok-judges.ensures.judges in
    unordered_no_report c.args.run.now.title.now c.args.run.now.options.now c.args.run.now.starts.now c.args.run.now.images c.args.whole.now c.args.titled.now c.args.text.now c.in-Some.lines.now c.in-Some.judges.outside c.in-Some.judges.programs.items
    c.count-count.result (map line_told c.in_ok-said.said.lines.items) c.in_ok-said.said.tally c.in_ok-said.said.rest.now
    (are_steps_of c.args.run.now.title.now c.args.run.now.options.now c.args.run.now.starts.now c.args.run.now.images c.args.whole.now c.args.titled.now c.args.text.now c.in-Some.lines.now c.in-Some.judges.outside c.in-Some.judges.programs.items
    c.count-count.result (map line_told c.in_ok-said.said.lines.items) c.in_ok-said.said.tally c.in_ok-said.said.rest.now (record { from = 0; to = c.args.run.now.images; images = c.args.run.now.images; inputs = 0 }) refl c.requires.titled c.requires.given read c.count-count.ensures c.in_ok-said.ensures.read c.in_ok-said.ensures.end)
    c.if-not-said.true

pub returns-then-not-branch : goal.returns-then-not-branch
returns-then-not-branch c =
    let read : AreJudgesRead c.args.text.now c.in-Some.judges.outside c.in-Some.judges.programs.items c.in-Some.lines.now = rw c.in-Some.is at c.in_ok-judges.ensures.judges in
    other_last_no_report c.args.run.now.title.now c.args.run.now.options.now c.args.run.now.starts.now c.args.run.now.images c.args.whole.now c.args.titled.now c.args.text.now c.in-Some.lines.now c.in-Some.judges.outside c.in-Some.judges.programs.items
    c.count-count.result (map line_told c.in_ok-said.said.lines.items) c.in_ok-said.said.tally c.in_ok-said.said.rest.now
    (are_steps_of c.args.run.now.title.now c.args.run.now.options.now c.args.run.now.starts.now c.args.run.now.images c.args.whole.now c.args.titled.now c.args.text.now c.in-Some.lines.now c.in-Some.judges.outside c.in-Some.judges.programs.items
    c.count-count.result (map line_told c.in_ok-said.said.lines.items) c.in_ok-said.said.tally c.in_ok-said.said.rest.now (record { from = 0; to = c.args.run.now.images; images = c.args.run.now.images; inputs = 0 }) refl c.requires.titled c.requires.given read c.count-count.ensures c.in_ok-said.ensures.read c.in_ok-said.ensures.end)
    (fails c.in_ok-is_last.field-0 c.if-not-branch.true c.in_ok-is_last.ensures)

pub returns-in_default-without : goal.returns-in_default-without
returns-in_default-without c =
    let read : AreJudgesRead c.args.text.now c.in-Some.judges.outside c.in-Some.judges.programs.items c.in-Some.lines.now = rw c.in-Some.is at c.in_ok-judges.ensures.judges in
    no_front_no_report c.args.run.now.title.now c.args.run.now.options.now c.args.run.now.starts.now c.args.run.now.images c.args.whole.now c.args.titled.now c.args.text.now c.in-Some.lines.now c.in-Some.judges.outside c.in-Some.judges.programs.items
    c.requires.given read c.in_default-without.ensures

pub returns : goal.returns
returns c =
    let read : AreJudgesRead c.args.text.now c.in-Some.judges.outside c.in-Some.judges.programs.items c.in-Some.lines.now = rw c.in-Some.is at c.in_ok-judges.ensures.judges in
    let last = c.in_ok-is_last.ensures.0 c.if-not-branch.false in
    report_found c.args.run.now.title.now c.args.run.now.options.now c.args.run.now.starts.now c.args.run.now.images c.args.whole.now c.args.titled.now c.args.text.now c.in-Some.lines.now c.in-Some.judges.outside c.in-Some.judges.programs.items
    c.count-count.result (map line_told c.in_ok-said.said.lines.items) c.in_ok-said.said.tally c.in_ok-said.said.rest.now c.in-Some-without.head.now
    (are_steps_of c.args.run.now.title.now c.args.run.now.options.now c.args.run.now.starts.now c.args.run.now.images c.args.whole.now c.args.titled.now c.args.text.now c.in-Some.lines.now c.in-Some.judges.outside c.in-Some.judges.programs.items
    c.count-count.result (map line_told c.in_ok-said.said.lines.items) c.in_ok-said.said.tally c.in_ok-said.said.rest.now (record { from = 0; to = c.args.run.now.images; images = c.args.run.now.images; inputs = 0 }) refl c.requires.titled c.requires.given read c.count-count.ensures c.in_ok-said.ensures.read c.in_ok-said.ensures.end)
    c.requires.utf8 c.if-not-said.false last c.in-Some-without.ensures
