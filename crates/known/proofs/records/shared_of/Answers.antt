use Rattle.std.proofs.Common.{refl, sym, ◌∙◌, ◌-◌, ap, take, length, Some, arith}
use Rattle.std.proofs.lemmas.Option.{slice_get-get_or}
use Rattle.known.proofs.Counting.{last_before}
use Rattle.known.proofs.records.shared_of.Goals as goal

pub returns : goal.returns
returns c =
    let x = c.index-kept-place.result in
    let there = slice_get-get_or c.args.kept.now (length c.args.kept.now - 1) x (omega arith) ∙ ap (λ y. Some y) (sym c.index-kept-place.is) in
    c.common_from.ensures refl
    ∙ ap (take c.common_from.result) (c.as_slice-others.ensures.value ∙ sym (last_before c.args.kept.now (length c.args.kept.now) (length c.args.kept.now - 1) x refl (omega arith) there))
