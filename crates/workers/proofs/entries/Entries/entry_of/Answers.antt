use Rattle.std.proofs.Common.{List, slice_get, Some, ap, sym, ◌∙◌}
use Rattle.std.proofs.lemmas.Option.{slice_get-get_or}
use Rattle.workers.specs.declared.entries.FootprintEntry.{FootprintEntry}
use Rattle.workers.proofs.Growing.{entry_there}
use Rattle.workers.proofs.entries.Entries.entry_of.Goals as goal

pub returns-then-are_marked : goal.returns-then-are_marked
returns-then-are_marked c =
    let found = c.in_ok-entry.ensures.lookup in
    entry_there c.self.inside.entries.items c.self.inside.parts.items c.args.self.now c.from-place.result c.in_ok-entry.entry.now _ c.self.view_is
    (
    ap (λ (es : List FootprintEntry). slice_get es c.from-place.result) (sym c.as_slice.ensures.value)
    ∙ slice_get-get_or c.as_slice.result.now c.from-place.result c.in_ok-entry.entry.now found.3.0
    ∙ ap (λ (e : FootprintEntry). Some e) (sym found.1)
    )
    (c.are_marked.ensures c.if-are_marked.true ∙ c.picks.ensures.value)
