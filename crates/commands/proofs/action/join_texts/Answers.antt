use Rattle.std.proofs.Common.{◌∙◌, sym}
use Rattle.commands.specs.Acting.{join_of_cases, join_of_parts, for_case_texts, for_texts}
use Rattle.commands.proofs.action.join_texts.Goals as goal

pub returns-in-Ok-clause-answers : goal.returns-in-Ok-clause-answers
returns-in-Ok-clause-answers c =
    rw c.answer_of.ensures.bytes
    (join_of_cases (sym c.are_cases.ensures ∙ c.if-are_cases.true)
    (record { short = c.in-Ok.ensures.short; joined = c.in-Ok.ensures.joined; failing = c.in-Ok.joined.failing; fails = c.in-Ok.ensures.failing; ends = c.answer_of.ensures.status }))

pub returns-in-Err-clause-refused : goal.returns-in-Err-clause-refused
returns-in-Err-clause-refused c =
    rw c.cases_refusal_of.ensures (for_case_texts (sym c.are_cases.ensures ∙ c.if-are_cases.true) c.in-Err.fault c.in-Err.ensures.refused c.in-Err.ensures.first)

pub returns-in-Ok-join-clause-answers : goal.returns-in-Ok-join-clause-answers
returns-in-Ok-join-clause-answers c =
    rw c.answer_of-in-Ok-join.ensures.bytes
    (join_of_parts (sym c.are_cases.ensures ∙ c.if-are_cases.false)
    (record { short = c.in-Ok-join.ensures.short; failing = c.in-Ok-join.joined.failing; joined = c.in-Ok-join.ensures.joined; ends = c.answer_of-in-Ok-join.ensures.status }))

pub returns-in-Err-join-clause-refused : goal.returns-in-Err-join-clause-refused
returns-in-Err-join-clause-refused c =
    rw c.join_refusal_of.ensures (for_texts (sym c.are_cases.ensures ∙ c.if-are_cases.false) c.in-Err-join.fault c.in-Err-join.ensures.refused c.in-Err-join.ensures.first)
