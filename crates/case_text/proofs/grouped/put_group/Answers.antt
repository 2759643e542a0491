use Rattle.std.proofs.Common.{Some, sym, ◌∙◌, ap}
use Rattle.std.proofs.lemmas.Option.{slice_get-get_or}
use Rattle.case_text.proofs.Telling.{no_group, own_group}
use Rattle.case_text.proofs.grouped.put_group.Goals as goal

pub returns-then-has_alike : goal.returns-then-has_alike
returns-then-has_alike c =
    let x = c.index-told-place.result in
    let there = slice_get-get_or c.args.told.now c.args.place x c.requires ∙ ap (λ y. Some y) (sym c.index-told-place.is) in
    no_group c.args.told.now c.args.place x _ there c.if-has_alike.ensures

pub returns : goal.returns
returns c =
    let x = c.index-told-place.result in
    let there = slice_get-get_or c.args.told.now c.args.place x c.requires ∙ ap (λ y. Some y) (sym c.index-told-place.is) in
    own_group c.args.told.now c.args.place x _ _ _ there c.if-has_alike.ensures c.in_ok-put_first.ensures c.in_ok-put_alike.ensures
