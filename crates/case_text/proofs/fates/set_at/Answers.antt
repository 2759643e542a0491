use Rattle.std.proofs.Common.{true, false, sym, ◌∙◌, ap}
use Rattle.std.specs.Option.{option_map_or}
use Rattle.std.proofs.lemmas.Option.{slice_get_past}
use Rattle.cases.specs.Choices.{all_fates}
use Rattle.cases.specs.Sets.{fates_in}
use Rattle.case_text.proofs.Listed.{all_in}
use Rattle.case_text.proofs.fates.set_at.Goals as goal

pub returns-then-tears : goal.returns-then-tears
returns-then-tears c =
    all_in true ∙ ap all_fates (sym c.if-tears.true) ∙ sym (ap (λ o. option_map_or fates_in o (all_fates c.args.tears)) (slice_get_past c.args.sets.now c.args.number c.in-None.ensures.lookup.3))

pub returns-else-tears : goal.returns-else-tears
returns-else-tears c =
    all_in false ∙ ap all_fates (sym c.if-tears.false) ∙ sym (ap (λ o. option_map_or fates_in o (all_fates c.args.tears)) (slice_get_past c.args.sets.now c.args.number c.in-None.ensures.lookup.3))
