use Rattle.std.proofs.Common.{ap, ◌∙◌}
use Rattle.request.specs.Source.{either}
use Rattle.request.proofs.Lacking.{first_of}
use Rattle.request.proofs.source.first_lacking.Goals as goal

pub returns : goal.returns
returns c =
    first_of c.args.cuts.now _ c.places.result.now c.entry_past-entry.result c.cut_past-first.result c.cut_past-last.result c.either-2.result
    c.places.ensures.value c.entry_past-entry.ensures c.cut_past-first.ensures c.cut_past-last.ensures (c.either-2.ensures ∙ ap (either c.entry_past-entry.result) c.either.ensures)
