use Rattle.std.proofs.Common.{◌∙◌, ◌≡◌, false, true, ap, sym}
use Rattle.std.specs.List.{list_all}
use Rattle.report.proofs.Lined.{is_none, is_some}
use Rattle.join.specs.Given.{is_printed}
use Rattle.join.proofs.JudgesRead.{no_words_no_own, unprinted_no_own, own_found}
use Rattle.join.proofs.given.judges.own_said.Goals as goal

pub returns-then-is_empty-clause-judges : goal.returns-then-is_empty-clause-judges
returns-then-is_empty-clause-judges c =
    no_words_no_own c.args.text.now c.args.begun.now c.in_ok-words.words.now c.in_ok-words.rest.now c.requires c.in_ok-words.ensures (is_none _ _ c.is_empty.ensures c.if-is_empty.true)

pub returns-then-not-are_printed-clause-judges : goal.returns-then-not-are_printed-clause-judges
returns-then-not-are_printed-clause-judges c =
    let lack : list_all is_printed c.in_ok-words.words.now ≡ false = ap (list_all is_printed) (sym c.as_bytes.ensures.value) ∙ sym c.are_printed.ensures ∙ c.if-not-are_printed.true in
    unprinted_no_own c.args.text.now c.args.begun.now c.in_ok-words.words.now c.in_ok-words.rest.now c.requires c.in_ok-words.ensures lack

pub returns-clause-judges : goal.returns-clause-judges
returns-clause-judges c =
    let all : list_all is_printed c.in_ok-words.words.now ≡ true = ap (list_all is_printed) (sym c.as_bytes.ensures.value) ∙ sym c.are_printed.ensures ∙ c.if-not-are_printed.false in
    own_found c.args.text.now c.args.begun.now c.in_ok-words.words.now c.in_ok-words.rest.now c.new.result.items c.requires c.in_ok-words.ensures (is_some _ _ c.is_empty.ensures c.if-is_empty.false) all c.new.ensures.items
