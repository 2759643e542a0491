use Rattle.std.proofs.Common.{◌<◌, ◌^◌, sym, ◌∙◌, rules}
use Rattle.join.proofs.Endings.{fails}
use Rattle.join.proofs.Bodies.{too_large, not_there, other_words, other_end, is_body}
use Rattle.join.proofs.line.mark_of.Goals as goal

pub returns-then-not-is_fit : goal.returns-then-not-is_fit
returns-then-not-is_fit c = too_large c.args.head.now c.args.line.now c.words_said-words.result c.words_said-words.ensures (fails c.is_fit.result c.if-not-is_fit.true c.is_fit.ensures)

pub returns-then-not-has_place : goal.returns-then-not-has_place
returns-then-not-has_place c =
    not_there c.args.head.now c.args.line.now c.words_said-words.result c.words_said-words.ensures (sym c.has_place.ensures ∙ c.if-not-has_place.true)

pub returns-in_default : goal.returns-in_default
returns-in_default c =
    other_words c.args.head.now c.args.line.now c.as_str.result.now c.words_said-words.result c.words_said-words.ensures (c.as_str.ensures.value ∙ c.in_ok-printed.ensures) c.in_default.ensures

pub returns-then-not-branch : goal.returns-then-not-branch
returns-then-not-branch c =
    other_end c.args.head.now c.args.line.now c.as_str.result.now c.in-Some.end.now c.words_said-words.result c.words_said-words.ensures (c.as_str.ensures.value ∙ c.in_ok-printed.ensures) c.in-Some.ensures
    (fails c.in_ok-is_end.field-0 c.if-not-branch.true c.in_ok-is_end.ensures)

pub returns : goal.returns
returns c =
    let small : c.words_said-words.result.image < 2 ^ 64 = search rules in
    is_body c.args.head.now c.args.line.now c.as_str.result.now c.in-Some.end.now c.words_said-words.result small (c.is_fit.ensures.0 c.if-not-is_fit.false) (sym c.has_place.ensures ∙ c.if-not-has_place.false)
    (c.as_str.ensures.value ∙ c.in_ok-printed.ensures) c.in-Some.ensures (c.in_ok-is_end.ensures.0 c.if-not-branch.false)
